-- The elements of a longer array that count, and terms in plain fields.
use Rattle.std.proofs.Common.{◌≡◌, ℕ, ◌<◌, min, List, [], ◌∷◌, map, take, length, get_or, sym, subst, ap, refl, ◌∙◌, arith}
use Rattle.std.proofs.lemmas.List.{same_lists, length-map, length-take, get_or-take, get_or-map}
use Rattle.std.proofs.Math.Nat.{min-le_left, min-le_right}
use Rattle.rules.specs.declared.Term.{Term}
use Rattle.rules.specs.declared.Term.TheVariants.{Constant, Variable, Null}
use Rattle.sources_c.specs.Plain.{term_of, plain_of}

-- where each element of an array of n is f of the one in the list, the first of them are f of the first n of the list
pub taken_map : {A B : Type 0} (f : A → B) (n : ℕ) (xs : List A) (ys : List B) → length ys ≡ n → ((k : ℕ) → k < n → k < length xs → (d : A) (e : B) → get_or ys k e ≡ f (get_or xs k d)) → (a : A) → take (min (length xs) n) ys ≡ take n (map f xs)
taken_map f n xs ys long each a =
    let m = min (length xs) n in
    same_lists (take m ys) (take n (map f xs))
    (let l1 = length-take m ys in let l2 = length-take n (map f xs) in let l3 = length-map xs f in omega arith)
    (λ k e l.
    let within : k < min m (length ys) = subst (λ z. k < z) (length-take m ys) l in
    let left = min-le_left m (length ys) in
    let low : k < m = omega arith in
    let first = min-le_left (length xs) n in
    let second = min-le_right (length xs) n in
    let here : k < length xs = omega arith in
    let below : k < n = omega arith in
    get_or-take m ys k e low ∙ each k below here a e ∙ sym (get_or-map f xs k a e here) ∙ sym (get_or-take n (map f xs) k e below))

term_back : (t : Term) → term_of (plain_of t) ≡ t
term_back (Constant n) = refl
term_back (Variable n) = refl
term_back (Null n) = refl

pub back : (ts : List Term) → map term_of (map plain_of ts) ≡ ts
back [] = refl
back (t ∷ ts) = ap (λ u. u ∷ map term_of (map plain_of ts)) (term_back t) ∙ ap (λ us. t ∷ us) (back ts)
