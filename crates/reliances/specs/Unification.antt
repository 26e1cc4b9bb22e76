-- Symbolic matches of two rules: substitutions by slot, how atoms are unified, and the facts that a substitution stands for.
-- The variable v of A is slot v, that of B slot 12 + v, and the alternative's value of B's existential variable v is slot 24 + v.
-- A slot holds a constant, or the null of some slot.
use Rattle.std.specs.Prelude.{◌≡◌, ℕ, zero, suc, ◌+◌, ◌-◌, Bool, true, false, cond, not, List, [], ◌∷◌, ◌++◌, map, take, drop, Option, Some, None, ◌==◌, nat_lt}
use Rattle.std.specs.Option.{option_and_then}
use Rattle.rules.specs.declared.Term.{Term}
use Rattle.rules.specs.declared.Term.TheVariants.{Constant, Variable, Null}
use Rattle.rules.specs.Logic.{Formula, Implication}
use Rattle.rules.specs.Bounds.{some, existential?}
use Rattle.rules.specs.Matches.{Assignment, Stands, value, under, result}
use Rattle.matches.specs.Lists.{look}
use Rattle.matches.specs.Matching.{same}

-- what each slot holds
abbrev pub Subst : Type 0
Subst = List Term

-- the assignment that reads the slots from off on
abbrev pub through : Subst → ℕ → Assignment
through σ off = λ v. look σ (off + v)

-- x, with t for s
abbrev pub replaced : Term → Term → Term → Term
replaced s t x = cond (same x s) t x

-- the null of a slot that may become another term
abbrev pub flexible : (ℕ → Bool) → Term → Bool
flexible rigid (Constant c) = false
flexible rigid (Variable v) = false
flexible rigid (Null r) = not (rigid r)

-- the substitution that makes two terms equal, or none
abbrev pub unify : (ℕ → Bool) → Subst → Term → Term → Option Subst
unify rigid σ s t =
    elim (same s t) [
      | true ↦ Some σ
      | false ↦
          elim (flexible rigid s) [
            | true ↦ Some (map (replaced s t) σ)
            | false ↦
                elim (flexible rigid t) [ true ↦ Some (map (replaced t s) σ) | false ↦ None ]
          ]
    ]

-- the same for lists of terms, the first read from slot m on and the second from slot n on
abbrev pub unify_all : (ℕ → Bool) → ℕ → ℕ → List Term → List Term → Subst → Option Subst
unify_all rigid m n [] [] σ = Some σ
unify_all rigid m n [] (t ∷ ts) σ = None
unify_all rigid m n (s ∷ ss) [] σ = None
unify_all rigid m n (s ∷ ss) (t ∷ ts) σ =
    option_and_then (λ τ. unify_all rigid m n ss ts τ) (unify rigid σ (value (through σ m) s) (value (through σ n) t))

-- the same for formulas
abbrev pub unify_formulas : (ℕ → Bool) → ℕ → ℕ → Formula → Formula → Subst → Option Subst
unify_formulas rigid m n a b σ =
    elim (a.predicate == b.predicate) [ true ↦ unify_all rigid m n a.terms b.terms σ | false ↦ None ]

-- the slot of an existential variable of A keeps its null
abbrev pub rigid? : Implication → ℕ → Bool
rigid? A r = existential? A r

-- so does that of an existential variable of B
abbrev pub rigid_both : Implication → Implication → ℕ → Bool
rigid_both A B r = elim (nat_lt r 12) [ true ↦ rigid? A r | false ↦ rigid? B (r - 12) ]

-- the term is an existential variable of A
abbrev pub existential_term? : Implication → Term → Bool
existential_term? A (Constant c) = false
existential_term? A (Variable v) = rigid? A v
existential_term? A (Null n) = false

-- n nulls, numbered from k on
abbrev pub numbered : ℕ → ℕ → List Term
numbered k zero = []
numbered k (suc n) = Null k ∷ numbered (suc k) n

-- nothing is equal yet
abbrev pub start : Subst
start = numbered 0 36

-- the twelve slots from off on
abbrev pub part : Subst → ℕ → List Term
part σ off = take 12 (drop off σ)

-- the slots of B and of the alternative
abbrev pub wide : Subst → List Term
wide σ = take 24 (drop 12 σ)

-- where the alternative's value of B's variable v stands among these
abbrev pub shift_var : Implication → ℕ → ℕ
shift_var B v = elim (rigid? B v) [ true ↦ 12 + v | false ↦ v ]

abbrev pub shift_term : Implication → Term → Term
shift_term B (Constant c) = Constant c
shift_term B (Variable v) = Variable (shift_var B v)
shift_term B (Null n) = Null n

-- an atom of B's head as the alternative reads it
abbrev pub shift_formula : Implication → Formula → Formula
shift_formula B a = record { predicate = a.predicate; terms = map (shift_term B) a.terms }

-- the alternative
abbrev pub other : Implication → Subst → Assignment
other B σ v = look (wide σ) (shift_var B v)

-- the null r becomes the one that the application gives B's variable v
abbrev pub moved : ℕ → ℕ → Subst → Subst
moved r v σ = map (replaced (Null r) (Null (12 + v))) σ

-- how many slots are flexible
abbrev pub loose_count : (ℕ → Bool) → Subst → ℕ
loose_count rigid [] = 0
loose_count rigid (t ∷ ts) = cond (flexible rigid t) 1 0 + loose_count rigid ts

-- positive reliance: the facts that A is applied on, where the atoms of old are there already
abbrev pub candidate : Implication → Subst → List Formula → List Formula
candidate A σ old = map (under (look (part σ 0))) A.body ++ map (under (look (part σ 12))) old

-- restraint: the facts that B is applied on
abbrev pub before_of : Implication → Subst → List Formula
before_of B σ = map (under (look (part σ 12))) B.body

-- restraint: what is there besides the result of B when A is applied
abbrev pub extra_of : Implication → Subst → List Formula → List Formula
extra_of A σ old = map (under (look (part σ 0))) A.body ++ map (under (look (wide σ))) old

-- restraint: the facts that A is applied on
abbrev pub later_of : Implication → Implication → Subst → List Formula → List Formula
later_of A B σ old = result B (look (part σ 12)) (before_of B σ) ++ extra_of A σ old

-- a has the predicate p
abbrev pub of? : ℕ → Formula → Bool
of? p a = a.predicate == p

-- some formula of bs has the predicate of some formula of hs
abbrev pub shares? : List Formula → List Formula → Bool
shares? hs bs = some (λ b. some (of? b.predicate) hs) bs

-- the term is the null of a rigid slot
abbrev pub is_rigid? : (ℕ → Bool) → Term → Bool
is_rigid? rigid (Constant c) = false
is_rigid? rigid (Variable v) = false
is_rigid? rigid (Null r) = rigid r

abbrev pub any_rigid? : (ℕ → Bool) → List Term → Bool
any_rigid? rigid = some (is_rigid? rigid)

-- the null of a rigid slot stands in one of the formulas
abbrev pub HasRigid : (ℕ → Bool) → List Formula → Type 0
HasRigid rigid F = (r : ℕ) × (rigid r ≡ true) × Stands (Null r) F
