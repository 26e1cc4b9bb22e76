-- Text that a loop writes line by line.
use Rattle.std.proofs.Common.{◌≡◌, ℕ, ◌+◌, List, [], ◌∷◌, ◌++◌, map, take, is_ok, Ok, Result, sym, ap, ◌∙◌}
use Rattle.std.specs.declared.fmt.Error.{Error}
use Rattle.std.specs.declared.fmt.Formatter.{Formatter}
use Rattle.std.specs.List.{concat}
use Rattle.std.specs.Fmt.{IsPlainFormatter, HasWritten, WritesOnOk}
use Rattle.std.proofs.Output.{has_written_append, has_written_of_eq}
use Rattle.std.proofs.lemmas.List.{append-nil, map-append, take_more}
use Rattle.std.proofs.lemmas.List.Folds.{concat-append}
use Rattle.volumes.specs.Answers.{Nth}

lines_more : {A : Type 0} (line : A → List ℕ) (xs : List A) (i : ℕ) (x : A) → Nth xs i x
    → concat (map line (take (i + 1) xs)) ≡ concat (map line (take i xs)) ++ line x
lines_more line xs i x n =
    ap (λ z. concat (map line z)) (take_more xs i x n.0 ∙ ap (λ y. take i xs ++ y ∷ []) (n.1 x))
    ∙ simp (map-append, concat-append, append-nil)

-- one turn of a loop that writes a line
module _ {W A : Type 0} (took : W → List ℕ → W → Type 0) (line : A → List ℕ) (xs : List A) (i : ℕ) (f g : Formatter W) where
  pub puts_line : (x : A) (h : Formatter W) (r : Result (Unit {0}) Error) {u : Unit {0}} → Nth xs i x
      → (IsPlainFormatter f → HasWritten took f (concat (map line (take i xs))) g)
      → WritesOnOk took g r (line x) h → r ≡ Ok u
      → IsPlainFormatter f → HasWritten took f (concat (map line (take (i + 1) xs))) h
  puts_line x h r n before p ok plain =
      let y = before plain in
      has_written_of_eq took f _ _ h (sym (lines_more line xs i x n))
      (has_written_append took f _ g _ h y (p y.plain (ap is_ok ok)))
