-- Text that a loop writes item by item.
-- Assumes nothing.
use Rattle.std.proofs.Common.{◌≡◌, ℕ, zero, suc, ◌+◌, ◌<◌, List, [], ◌∷◌, ◌++◌, map, length, get_or, take, is_ok, Ok, Result, sym, ap, ◌∙◌, add-one, codes, arith}
use Rattle.std.specs.declared.fmt.Error.{Error}
use Rattle.std.specs.declared.fmt.Formatter.{Formatter}
use Rattle.std.specs.Fmt.{IsPlainFormatter, HasWritten, WritesOnOk}
use Rattle.std.proofs.Output.{has_written_append, has_written_of_eq}
use Rattle.std.proofs.lemmas.List.{append_assoc, append-nil}
use Rattle.std.proofs.lemmas.Simd.{map-map}
use Rattle.rules.specs.declared.Atom.{Atom}
use Rattle.rules.specs.Logic.{formula_of}
use Rattle.rules.specs.Bounds.{some, has?}
use Rattle.rules.specs.Text.{preceded, separated, formula_by, formulas_by}

preceded_more : {A : Type 0} (sep : List ℕ) (text : A → List ℕ) (xs : List A) (i : ℕ) (d : A) → i < length xs
    → preceded sep (map text (take (suc i) xs)) ≡ preceded sep (map text (take i xs)) ++ (sep ++ text (get_or xs i d))
preceded_more sep text [] i d l = absurd (omega arith)
preceded_more sep text (x ∷ xs) zero d l = ap (λ z. sep ++ z) (append-nil (text x))
preceded_more sep text (x ∷ xs) (suc i) d l =
    ap (λ z. sep ++ (text x ++ z)) (preceded_more sep text xs i d (omega arith))
    ∙ simp append_assoc

separated-suc : {A : Type 0} (sep : List ℕ) (text : A → List ℕ) (x : A) (xs : List A) (i : ℕ) (d : A) → i < length xs
    → separated sep (map text (take (suc (suc i)) (x ∷ xs))) ≡ separated sep (map text (take (suc i) (x ∷ xs))) ++ (sep ++ text (get_or xs i d))
separated-suc sep text x xs i d l =
    ap (λ z. text x ++ z) (preceded_more sep text xs i d l)
    ∙ sym (append_assoc (text x) (preceded sep (map text (take i xs))) (sep ++ text (get_or xs i d)))

-- one turn of a loop that writes the separator and the next item
pub puts_next : {W A : Type 0} (took : W → List ℕ → W → Type 0) (sep : List ℕ) (text : A → List ℕ) (all : List A) (x : A) (xs : List A) (i : ℕ) (y : A)
    (f g h k : Formatter W) (r s : Result (Unit {0}) Error) {u v : Unit {0}}
    → all ≡ x ∷ xs → i < length xs → y ≡ get_or xs i y
    → (IsPlainFormatter f → HasWritten took f (separated sep (map text (take (i + 1) all))) g)
    → WritesOnOk took g r sep h → r ≡ Ok u
    → WritesOnOk took h s (text y) k → s ≡ Ok v
    → IsPlainFormatter f → HasWritten took f (separated sep (map text (take (i + 1 + 1) all))) k
puts_next took sep text all x xs i y f g h k r s e l at before p ok q fine plain =
    let w = before plain in
    let z = p w.plain (ap is_ok ok) in
    let whole : separated sep (map text (take (i + 1 + 1) all)) ≡ separated sep (map text (take (i + 1) all)) ++ (sep ++ text y) =
    rw (e, add-one (i + 1), add-one i) (separated-suc sep text x xs i y l ∙ ap (λ t. separated sep (map text (take (suc i) (x ∷ xs))) ++ (sep ++ text t)) (sym at)) in
    has_written_of_eq took f _ _ k (sym whole)
    (has_written_append took f _ g _ k w (has_written_append took g _ h _ k z (q z.plain (ap is_ok fine))))

-- three texts, one after the other, as one text
pub prints_three : {W : Type 0} (took : W → List ℕ → W → Type 0) (f g h k : Formatter W) (r s t : Result (Unit {0}) Error) (a b c whole : List ℕ) {u v : Unit {0}}
    → WritesOnOk took f r a g → r ≡ Ok u → WritesOnOk took g s b h → s ≡ Ok v → WritesOnOk took h t c k → a ++ (b ++ c) ≡ whole → WritesOnOk took f t whole k
prints_three took f g h k r s t a b c whole x fine y good z e plain ok =
    let p = x plain (ap is_ok fine) in
    let q = y p.plain (ap is_ok good) in
    has_written_of_eq took f _ _ k e (has_written_append took f a g (b ++ c) k p (has_written_append took g b h c k q (z q.plain ok)))

-- atoms in a rule with this body
abbrev pub atoms_text : List Atom → List Atom → List ℕ
atoms_text body atoms = separated (codes ", ") (map (λ a. formula_by (λ v. some (has? v) (map formula_of body)) (formula_of a)) atoms)

pub formulas_text : (body atoms : List Atom) → atoms_text body atoms ≡ formulas_by (λ v. some (has? v) (map formula_of body)) (map formula_of atoms)
formulas_text body atoms = ap (separated (codes ", ")) (sym (map-map (formula_by (λ v. some (has? v) (map formula_of body))) formula_of atoms))
