-- Flags that are set one after another.
-- Assumes nothing.
use Rattle.std.proofs.Common.{◌≡◌, ℕ, zero, suc, ◌+◌, ◌<◌, ◌≤◌, Bool, true, false, not, ◌&&◌, ◌||◌, List, [], ◌∷◌, map, length, take, get_or, replicate, sym, refl, ap, ◌∙◌, ⊎_elim, arith}
use Rattle.std.proofs.lemmas.Bool.{cases_lt}
use Rattle.std.proofs.lemmas.List.{take_all, get_or_past}
use Rattle.std.proofs.lemmas.List.Folds.{list_any_more}
use Rattle.rules.specs.declared.Atom.{Atom}
use Rattle.rules.specs.Bounds.{some, flags, FlagsAre}
use Rattle.rules.specs.Flags.{Sets}

abbrev pub no_atom : Atom
no_atom = record { predicate = 0; arity = 0; terms = [] }

-- no flag is set
abbrev pub clear : List Bool
clear = false ∷ false ∷ false ∷ false ∷ false ∷ false ∷ false ∷ false ∷ false ∷ false ∷ false ∷ false ∷ []

none_set : (n v : ℕ) → get_or (replicate {A = Bool} n false) v false ≡ false
none_set zero v = refl
none_set (suc n) zero = refl
none_set (suc n) (suc v) = none_set n v

pub all_clear : (v : ℕ) → flags clear v ≡ false
all_clear v = none_set 12 v

or_assoc : (a b c : Bool) → (a || b) || c ≡ a || (b || c)
or_assoc true b c = refl
or_assoc false b c = refl

-- those of one more element
pub sets_more : {A : Type 0} (test : ℕ → A → Bool) (items : List A) (i : ℕ) (d : A) (xs ys zs : List Bool) → i < length items
    → Sets (λ v. some (test v) (take i items)) xs ys → Sets (λ v. test v (get_or items i d)) ys zs
    → Sets (λ v. some (test v) (take (i + 1) items)) xs zs
sets_more test items i d xs ys zs l b more =
    record {
      long = more.long ∙ b.long;
      each = λ v m.
          let k : v < length ys = omega (arith, b.long) in
          more.each v k
          ∙ ap (λ (o : Bool). o || test v (get_or items i d)) (b.each v m)
          ∙ or_assoc (flags xs v) (some (test v) (take i items)) (test v (get_or items i d))
          ∙ ap (λ (o : Bool). flags xs v || o) (sym (list_any_more (test v) items i d l));
    }

-- those of all
pub sets_all : {A : Type 0} (test : ℕ → A → Bool) (items : List A) (i : ℕ) (xs ys : List Bool) → length items ≡ i
    → Sets (λ v. some (test v) (take i items)) xs ys → Sets (λ v. some (test v) items) xs ys
sets_all {A} test items i xs ys l b =
    record { long = b.long; each = λ v m. b.each v m ∙ ap (λ (z : List A). flags xs v || some (test v) z) (take_all i items (omega (arith, l))) }

-- flags that are told below twelve, where the test says no past them
pub flags_are : (xs : List Bool) (test : ℕ → Bool) → length xs ≡ 12 → ((v : ℕ) → v < 12 → flags xs v ≡ test v) → ((v : ℕ) → 12 ≤ v → test v ≡ false) → FlagsAre xs test
flags_are xs test long below past v =
    ⊎_elim (below v) (λ l. get_or_past xs v false (omega (arith, long)) ∙ sym (past v l)) (cases_lt v 12)

-- flags of what is in one list and not in the other, where nothing past twelve is in the first
pub flags_apart : (xs ys zs : List Bool) (p q : ℕ → Bool) → length xs ≡ 12 → ((v : ℕ) → v < 12 → flags xs v ≡ p v) → FlagsAre ys q
    → ((v : ℕ) → 12 ≤ v → p v && not (q v) ≡ false) → FlagsAre zs (λ v. flags xs v && not (flags ys v)) → FlagsAre zs (λ v. p v && not (q v))
flags_apart xs ys zs p q long below are past is v =
    is v
    ∙ ap (λ (b : Bool). flags xs v && not b) (are v)
    ∙ ⊎_elim
    (λ l. ap (λ (b : Bool). b && not (q v)) (below v l))
    (λ l. ap (λ (b : Bool). b && not (q v)) (get_or_past xs v false (omega (arith, long))) ∙ sym (past v l))
    (cases_lt v 12)
