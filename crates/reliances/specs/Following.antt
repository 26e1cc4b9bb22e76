-- How an actual witness follows a search: every slot has an actual value, and the substitution respects them.
use Rattle.std.specs.Prelude.{◌≡◌, ℕ, ◌+◌, ◌-◌, ◌<◌, ◌≤◌, Bool, true, cond, ◌⊎◌, List, length, nat_lt}
use Rattle.rules.specs.Bounds.{flags}
use Rattle.rules.specs.declared.Term.{Term}
use Rattle.rules.specs.declared.Term.TheVariants.{Constant, Variable, Null}
use Rattle.rules.specs.declared.Atom.{Atom}
use Rattle.rules.specs.Logic.{In, Each, Formula}
use Rattle.rules.specs.Matches.{Ground, Assignment, under}
use Rattle.matches.specs.Lists.{look, formulas}
use Rattle.reliances.specs.Unification.{Subst, through}

-- the actual value of a symbolic term: a null stands for what its slot has
abbrev pub hat : (ℕ → Term) → Term → Term
hat θ (Constant c) = Constant c
hat θ (Variable v) = Variable v
hat θ (Null r) = θ r

-- the actual values from a slot on
abbrev pub slot : (ℕ → Term) → ℕ → Assignment
slot θ off = λ v. θ (off + v)

-- the actual value of each slot, by the assignments of the two rules and that of the alternative
abbrev pub both : Assignment → Assignment → ℕ → Term
both f s r = cond (nat_lt r 12) (f r) (s (r - 12))

abbrev pub three : Assignment → Assignment → Assignment → ℕ → Term
three f h k r = cond (nat_lt r 12) (f r) (cond (nat_lt r 24) (h (r - 12)) (k (r - 24)))

-- the substitution respects the actual values, and leaves rigid slots their nulls
pub record Good (θ : ℕ → Term) (rigid : ℕ → Bool) (σ : Subst) : Type 0 where
  pub respects : (i : ℕ) → i < 36 → hat θ (look σ i) ≡ θ i
  pub keeps : (i : ℕ) → rigid i ≡ true → look σ i ≡ Null i

-- the formula remains, is old, or is one of the heads
abbrev pub Covered : List Formula → Subst → List Formula → List Formula → Formula → Type 0
Covered heads σ old rest b = In b rest ⊎ (In b old ⊎ ((a : Formula) × In a heads × (under (through σ 0) a ≡ under (through σ 12) b)))

-- what every node of a search over the atoms `all` has, with a witness or without: each of them remains, is old, or is
-- unified with one of the heads
pub record Reached (heads all : List Formula) (rigid : ℕ → Bool) (σ : Subst) (old rest : List Formula) : Type 0 where
  pub long : length σ ≡ 36
  pub ground : (i : ℕ) → Ground (look σ i)
  pub keeps : (i : ℕ) → rigid i ≡ true → look σ i ≡ Null i
  pub old_from : Each (λ o. In o all) old
  pub rest_from : Each (λ o. In o all) rest
  pub covers : Each (Covered heads σ old rest) all

-- of the atoms bs some are old, some remain, and the others are new; where none is new, each is old or remains
pub record Left (bs old rest : List Formula) : Type 0 where
  pub few : length old + length rest ≤ length bs
  pub all : length old + length rest ≡ length bs → Each (λ b. In b rest ⊎ In b old) bs

-- an atom of at most four terms
abbrev pub Small : Atom → Type 0
Small a = a.arity ≤ 4

-- a node as the code holds it: the atoms that were left old, and those that remain
pub record Node (heads all : List Formula) (rigid : List Bool) (σ : Subst) (old rest : List Atom) : Type 0 where
  pub reached : Reached heads all (flags rigid) σ (formulas old) (formulas rest)
  pub left : Left all (formulas old) (formulas rest)
  pub small_old : Each Small old
  pub small_rest : Each Small rest
