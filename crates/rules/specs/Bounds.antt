-- What parts make a rule: the counts that every rule keeps, as tests and in words.
use Rattle.std.specs.Prelude.{◌≡◌, ℕ, ◌<◌, ◌≤◌, ◌%◌, Bool, true, false, cond, not, ◌&&◌, List, take, ◌==◌, nat_le, slice_index_or}
use Rattle.std.specs.List.{list_all, list_any, count_by, sum_by, range_with_len}
use Rattle.std.specs.Int.{bit_at}
use Rattle.rules.specs.declared.Term.{Term}
use Rattle.rules.specs.declared.Term.TheVariants.{Constant, Variable, Null}
use Rattle.rules.specs.declared.Atom.{Atom}
use Rattle.rules.specs.declared.parts.RuleParts.{RuleParts}
use Rattle.rules.specs.Logic.{Each, Formula, Implication, formula_of, implication_of}

-- each element passes; some element passes
abbrev pub every : {A : Type 0} → (A → Bool) → List A → Bool
every = list_all

abbrev pub some : {A : Type 0} → (A → Bool) → List A → Bool
some = list_any

abbrev pub is_variable? : ℕ → Term → Bool
is_variable? v (Constant n) = false
is_variable? v (Variable n) = n == v
is_variable? v (Null n) = false

-- the variable stands in the formula
abbrev pub has? : ℕ → Formula → Bool
has? v a = some (is_variable? v) a.terms

-- the variable stands in the head, and not in the body
abbrev pub existential? : Implication → ℕ → Bool
existential? r v = some (has? v) r.head && not (some (has? v) r.body)

-- the variable stands in the body
abbrev pub universal? : Implication → ℕ → Bool
universal? r v = some (has? v) r.body

-- a list of flags as a test of numbers; past its end none is set
abbrev pub flags : List Bool → ℕ → Bool
flags xs v = slice_index_or xs v false

-- the flags say of each number what the test says
abbrev pub FlagsAre : List Bool → (ℕ → Bool) → Type 0
FlagsAre xs test = (v : ℕ) → flags xs v ≡ test v

-- the same elements, each as often, in any order: whatever is summed over them, the sum is the same
abbrev pub Rearranged : {A : Type 0} → List A → List A → Type 0
Rearranged {A} xs ys = (f : A → ℕ) → sum_by f ys ≡ sum_by f xs

-- bit i of the marks is set where the remainder of some predicate by 64 is i
abbrev pub MarksAre : List Formula → ℕ → Type 0
MarksAre F m = (i : ℕ) → i < 64 → bit_at m i ≡ cond (some (λ a. a.predicate % 64 == i) F) 1 0

-- the remainders by 64 of some predicate in F and of some in G are the same
abbrev pub near? : List Formula → List Formula → Bool
near? F G = some (λ b. some (λ a. a.predicate % 64 == b.predicate % 64) F) G

-- how many of the variables 0 to 11 are existential
abbrev pub existentials : Implication → ℕ
existentials r = count_by (existential? r) (range_with_len 0 12)

-- a rule's terms are constants, and variables numbered 0 to 11
abbrev pub Plain : Term → Type 0
Plain (Constant n) = Unit {0}
Plain (Variable n) = n ≤ 11
Plain (Null n) = ⊥

abbrev pub plain? : Term → Bool
plain? (Constant n) = true
plain? (Variable n) = nat_le n 11
plain? (Null n) = false

-- an atom that a rule may have
pub record RuleAtom (a : Atom) : Type 0 where
  pub some : 1 ≤ a.arity
  pub few : a.arity ≤ 4
  pub plain : Each Plain (formula_of a).terms

abbrev pub rule_atom? : Atom → Bool
rule_atom? a = nat_le 1 a.arity && (nat_le a.arity 4 && every plain? (formula_of a).terms)

-- the atoms that count
abbrev pub body_of : RuleParts → List Atom
body_of p = take p.bodies p.body

abbrev pub head_of : RuleParts → List Atom
head_of p = take p.heads p.head

-- the parts make a rule
pub record MakesRule (p : RuleParts) : Type 0 where
  pub some_body : 1 ≤ p.bodies
  pub few_body : p.bodies ≤ 6
  pub some_head : 1 ≤ p.heads
  pub few_head : p.heads ≤ 4
  pub body : Each RuleAtom (body_of p)
  pub head : Each RuleAtom (head_of p)
  pub few_new : existentials (implication_of p) ≤ 4

-- the same as a test, since a type's invariant has to be one
abbrev pub makes_rule? : RuleParts → Bool
makes_rule? p =
    nat_le 1 p.bodies && (nat_le p.bodies 6 && (nat_le 1 p.heads && (nat_le p.heads 4 &&
    (every rule_atom? (body_of p) && (every rule_atom? (head_of p) && nat_le (existentials (implication_of p)) 4)))))
