-- Pairs of rules with what is known of them.
use Rattle.std.specs.Prelude.{ℕ, List, [], ◌∷◌}
use Rattle.rules.specs.declared.Term.{Term}
use Rattle.rules.specs.declared.Term.TheVariants.{Constant, Variable}
use Rattle.rules.specs.Logic.{Each, Formula, Implication}
use Rattle.rules.specs.Reliances.{PositiveReliance, Restraint, Keeps}

-- what is said of two rules, the first and the second
pub data Claim : Type 0 where
  -- the second positively relies on the first, or does not
  relies : Claim
  relies_not : Claim
  -- the first restrains the second, or does not
  restrains : Claim
  restrains_not : Claim
  -- no numbering keeps the reliances of the two, under the numbers 1 and 2
  unnumbered : Claim

-- two rules, and what is said of them
pub record Pair : Type 0 where
  pub first : Implication
  pub second : Implication
  pub claim : Claim

-- what a claim means of the rules A and B
abbrev pub Holds : Claim → Implication → Implication → Type 0
Holds relies A B = PositiveReliance A B
Holds relies_not A B = PositiveReliance A B → ⊥
Holds restrains A B = Restraint A B
Holds restrains_not A B = Restraint A B → ⊥
Holds unnumbered A B = (grade : ℕ → ℕ) → Keeps (record { number = 1; rule = A } ∷ record { number = 2; rule = B } ∷ []) grade → ⊥

-- what is said of the pair is right
abbrev pub Right : Pair → Type 0
Right p = Holds p.claim p.first p.second

-- the predicates
abbrev raw : ℕ
raw = 0

abbrev frame : ℕ
frame = 1

abbrev flat : ℕ
flat = 2

abbrev uses : ℕ
uses = 3

abbrev odd : ℕ
odd = 4

abbrev master : ℕ
master = 5

abbrev p : ℕ
p = 6

abbrev q : ℕ
q = 7

-- the variables
abbrev e : Term
e = Variable 0

abbrev s : Term
s = Variable 1

abbrev f : Term
f = Variable 2

abbrev g : Term
g = Variable 3

abbrev x : Term
x = Variable 0

abbrev y : Term
y = Variable 1

abbrev z : Term
z = Variable 2

-- an atom of one term
abbrev one : ℕ → Term → Formula
one n t = record { predicate = n; terms = t ∷ [] }

-- an atom of two terms
abbrev two : ℕ → Term → Term → Formula
two n t u = record { predicate = n; terms = t ∷ u ∷ [] }

-- a rule of one body atom and one head atom
abbrev rule : Formula → Formula → Implication
rule b h = record { body = b ∷ []; head = h ∷ [] }

-- p(x,y), p(y,z) → p(x,z)
abbrev transitive : Implication
transitive = record { body = two p x y ∷ two p y z ∷ []; head = two p x z ∷ [] }

-- frame(e) → flat(e,f), flat(e,g)
abbrev twice : Implication
twice = record { body = one frame e ∷ []; head = two flat e f ∷ two flat e g ∷ [] }

abbrev pair : Implication → Implication → Claim → Pair
pair A B c = record { first = A; second = B; claim = c }

-- the pairs
abbrev pub marked : List Pair
marked =
    -- raw(e,s) → frame(e,s), then frame(e,s) → flat(f,e); and the other way round
    pair (rule (two raw e s) (two frame e s)) (rule (two frame e s) (two flat f e)) relies
    ∷ pair (rule (two frame e s) (two flat f e)) (rule (two raw e s) (two frame e s)) relies_not
    -- frame(e) → uses(e,f), then uses(e,e) → odd(e)
    ∷ pair (rule (one frame e) (two uses e f)) (rule (two uses e e) (one odd e)) relies_not
    -- frame(e) → uses(f,f), then uses(e,e) → odd(e)
    ∷ pair (rule (one frame e) (two uses f f)) (rule (two uses e e) (one odd e)) relies
    -- p(x) → q(x), then q(x) → p(x); and the other way round
    ∷ pair (rule (one p x) (one q x)) (rule (one q x) (one p x)) relies_not
    ∷ pair (rule (one q x) (one p x)) (rule (one p x) (one q x)) relies_not
    -- p(x,y), p(y,z) → p(x,z) with itself
    ∷ pair transitive transitive relies
    -- p(x,y) → p(y,x) with itself
    ∷ pair (rule (two p x y) (two p y x)) (rule (two p x y) (two p y x)) relies_not
    -- master(e,f) → flat(e,f), and frame(e) → flat(e,f); and the other way round
    ∷ pair (rule (two master e f) (two flat e f)) (rule (one frame e) (two flat e f)) restrains
    ∷ pair (rule (one frame e) (two flat e f)) (rule (two master e f) (two flat e f)) restrains_not
    -- flat(e,f) → flat(e,9), and frame(e) → flat(e,f)
    ∷ pair (rule (two flat e f) (two flat e (Constant 9))) (rule (one frame e) (two flat e f)) restrains
    -- frame(e) → flat(e,f), flat(e,g) with itself
    ∷ pair twice twice restrains_not
    -- frame(e) → flat(e,f) with itself
    ∷ pair (rule (one frame e) (two flat e f)) (rule (one frame e) (two flat e f)) restrains_not
    -- flat(e,f) → flat(e,9), and frame(e) → flat(e,f)
    ∷ pair (rule (two flat e f) (two flat e (Constant 9))) (rule (one frame e) (two flat e f)) unnumbered
    ∷ []

-- what is said of each pair is right
abbrev pub MarkedPairs : Type 0
MarkedPairs = Each Right marked
