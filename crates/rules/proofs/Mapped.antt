-- A test of what the elements stand for.
-- Assumes nothing.
use Rattle.std.proofs.Common.{◌≡◌, Bool, ◌||◌, List, [], ◌∷◌, map, refl, ap}
use Rattle.rules.specs.Bounds.{some}

pub some_map : {A B : Type 0} (f : A → B) (p : B → Bool) (xs : List A) → some p (map f xs) ≡ some (λ x. p (f x)) xs
some_map f p [] = refl
some_map f p (x ∷ xs) = ap (λ (b : Bool). p (f x) || b) (some_map f p xs)
