-- What arrays made by calls of a closure hold, where each call gives what h says.
-- Assumes nothing.
use Rattle.std.proofs.Common.{◌≡◌, ℕ, zero, suc, ◌+◌, ◌<◌, ◌≤◌, ◌≢◌, Bool, false, List, map, length, get_or, sym, ap, ◌∙◌, subst, ⊎_elim, arith}
use Rattle.std.proofs.lemmas.Bool.{cases_eq, cases_lt}
use Rattle.std.proofs.lemmas.List.{same_lists, length-map, get_or-map, get_or_past}
use Rattle.std.specs.Fn.{Mut, Called}
use Rattle.std.specs.Array.{MapsFrom, IsMapOf, IsFromFnResultFrom, IsFromFnResult}
use Rattle.rules.specs.Bounds.{FlagsAre}

module _ {F A B : Type 0} (g : Mut F (A × Unit {0}) B) (f : F) (h : A → B) (calls : (x : A) (y : B) (q : F) → Called g f (x, tt) y q → (q ≡ f) × (y ≡ h x)) (xs : List A) (ys : List B) where
  mapped_from : (i n : ℕ) → MapsFrom g f xs ys i n → (k : ℕ) → i ≤ k → k < i + n → (d : A) (e : B) → get_or ys k e ≡ h (get_or xs k d)
  mapped_from i zero m k l u d e = absurd (omega arith)
  mapped_from i (suc n) (q, x, y, p, r, c, rest) k l u d e =
      ⊎_elim
      (λ (s : k ≡ i). subst (λ j. get_or ys j e ≡ h (get_or xs j d)) (sym s) (r.1 e ∙ (calls x y q c).1 ∙ ap h (sym (p.1 d))))
      (λ (ne : k ≢ i). mapped_from (i + 1) n (subst (λ z. MapsFrom g z xs ys (i + 1) n) (calls x y q c).0 rest) k (omega arith) (omega arith) d e)
      (cases_eq k i)

  -- `map`
  pub mapped : (d : A) (n : ℕ) → length xs ≡ n → IsMapOf g f xs ys n → ys ≡ map h xs
  mapped d n long m =
      same_lists ys (map h xs) (m.long ∙ sym long ∙ sym (length-map xs h))
      (λ k e l.
      let below : k < length xs = (let a = m.long in omega arith) in
      mapped_from 0 n m.each k (omega arith) (omega arith) d e ∙ sym (get_or-map h xs k d e below))

module _ {F B : Type 0} (g : Mut F (ℕ × Unit {0}) B) (f : F) (h : ℕ → B) (calls : (k : ℕ) (y : B) (q : F) → Called g f (k, tt) y q → (q ≡ f) × (y ≡ h k)) (ys : List B) where
  made_from : (i n : ℕ) → IsFromFnResultFrom g f ys i n → (k : ℕ) → i ≤ k → k < i + n → (e : B) → get_or ys k e ≡ h k
  made_from i zero m k l u e = absurd (omega arith)
  made_from i (suc n) (q, y, r, c, rest) k l u e =
      ⊎_elim
      (λ (s : k ≡ i). subst (λ j. get_or ys j e ≡ h j) (sym s) (r.1 e ∙ (calls i y q c).1))
      (λ (ne : k ≢ i). made_from (i + 1) n (subst (λ z. IsFromFnResultFrom g z ys (i + 1) n) (calls i y q c).0 rest) k (omega arith) (omega arith) e)
      (cases_eq k i)

  -- `from_fn`
  pub made : (n : ℕ) → IsFromFnResult g f ys n → (k : ℕ) → k < n → (e : B) → get_or ys k e ≡ h k
  made n m k l e = made_from 0 n m.each k (omega arith) (omega arith) e

-- flags made by `from_fn`, where the test says no past them
module _ {F : Type 0} (g : Mut F (ℕ × Unit {0}) Bool) (f : F) (test : ℕ → Bool) (calls : (k : ℕ) (y : Bool) (q : F) → Called g f (k, tt) y q → (q ≡ f) × (y ≡ test k)) (ys : List Bool) where
  pub flagged : (n : ℕ) → IsFromFnResult g f ys n → ((k : ℕ) → n ≤ k → test k ≡ false) → FlagsAre ys test
  flagged n m past k =
      ⊎_elim (λ l. made g f test calls ys n m k l false) (λ l. get_or_past ys k false (let a = m.long in omega arith) ∙ sym (past k l)) (cases_lt k n)
