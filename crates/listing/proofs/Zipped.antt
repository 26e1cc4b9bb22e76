-- Texts of two lists side by side.
-- Assumes nothing.
use Rattle.std.proofs.Common.{◌≡◌, ℕ, ◌+◌, ◌<◌, ◌≤◌, List, [], ◌∷◌, ◌++◌, length, get_or, take, min, sym, ap, ◌∙◌, arith}
use Rattle.std.specs.List.{flat_map, zip}
use Rattle.std.proofs.lemmas.List.{take_more, take_all, append-nil, append_assoc}
use Rattle.std.proofs.lemmas.Slice.Zip.{get_or-zip, length-zip}
use Rattle.std.proofs.lemmas.Grind.{flat_map-append}

pub zip_more : {A B C : Type 0} (f : A × B → List C) (ks : List A) (vs : List B) (i : ℕ) (x : A) (y : B) → x ≡ get_or ks i x → y ≡ get_or vs i y → i < length ks → i < length vs
    → flat_map f (take (i + 1) (zip ks vs)) ≡ flat_map f (take i (zip ks vs)) ++ f (x, y)
zip_more f ks vs i x y e g l m =
    let n = length-zip ks vs in
    let at : get_or (zip ks vs) i (x, y) ≡ (x, y) = get_or-zip ks vs i (x, y) l m ∙ (λ j. (sym e j, sym g j)) in
    ap (flat_map f) (take_more (zip ks vs) i (x, y) (omega (arith, n, l, m)))
    ∙ flat_map-append f (take i (zip ks vs)) (get_or (zip ks vs) i (x, y) ∷ [])
    ∙ ap (λ p. flat_map f (take i (zip ks vs)) ++ (f p ++ [])) at
    ∙ ap (λ z. flat_map f (take i (zip ks vs)) ++ z) (append-nil (f (x, y)))

pub zip_all : {A B : Type 0} (ks : List A) (vs : List B) (n : ℕ) → min (length ks) (length vs) ≤ n → take n (zip ks vs) ≡ zip ks vs
zip_all ks vs n l = take_all n (zip ks vs) (let e = length-zip ks vs in omega (arith, e, l))

-- a text is added to those of the first i
pub joined_more : {A B C : Type 0} (f : A × B → List C) (ks : List A) (vs : List B) (i : ℕ) (x : A) (y : B) (old now new : List C) → x ≡ get_or ks i x → y ≡ get_or vs i y → i < length ks → i < length vs
    → now ≡ old ++ flat_map f (take i (zip ks vs)) → new ≡ now ++ f (x, y) → new ≡ old ++ flat_map f (take (i + 1) (zip ks vs))
joined_more f ks vs i x y old now new e g l m was is =
    is ∙ ap (λ z. z ++ f (x, y)) was ∙ append_assoc old (flat_map f (take i (zip ks vs))) (f (x, y))
    ∙ ap (λ z. old ++ z) (sym (zip_more f ks vs i x y e g l m))
