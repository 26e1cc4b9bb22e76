-- What terms, atoms and rules are printed as, in bytes.
use Rattle.std.specs.Prelude.{ℕ, Bool, true, cond, List, [], ◌∷◌, ◌++◌, map, Option, Some, None, codes, decimal}
use Rattle.std.specs.Borrow.{Bor}
use Rattle.rules.specs.declared.Term.{Term}
use Rattle.rules.specs.declared.Term.TheVariants.{Constant, Variable, Null}
use Rattle.rules.specs.declared.Atom.{Atom}
use Rattle.rules.specs.Logic.{Formula, Implication, formula_of}
use Rattle.rules.specs.Bounds.{some, has?, universal?}

-- each text with the separator before it
abbrev pub preceded : List ℕ → List (List ℕ) → List ℕ
preceded sep [] = []
preceded sep (x ∷ xs) = sep ++ (x ++ preceded sep xs)

-- the texts, with the separator between each two
abbrev pub separated : List ℕ → List (List ℕ) → List ℕ
separated sep [] = []
separated sep (x ∷ xs) = x ++ preceded sep xs

-- a variable that is universal has the letter x, another one z
abbrev pub letter : Bool → List ℕ
letter universal = cond universal (codes "x") (codes "z")

-- a constant is its number, a variable or a null a letter and its number; the test says which variables are universal
abbrev pub term_by : (ℕ → Bool) → Term → List ℕ
term_by universal (Constant n) = decimal n
term_by universal (Variable n) = letter (universal n) ++ decimal n
term_by universal (Null n) = codes "n" ++ decimal n

-- the predicate, and the terms in parentheses, as p1(x0,3)
abbrev pub formula_by : (ℕ → Bool) → Formula → List ℕ
formula_by universal a =
    codes "p" ++ (decimal a.predicate ++ (codes "(" ++ (separated (codes ",") (map (term_by universal) a.terms) ++ codes ")")))

-- the formulas, with a comma and a space between each two
abbrev pub formulas_by : (ℕ → Bool) → List Formula → List ℕ
formulas_by universal formulas = separated (codes ", ") (map (formula_by universal) formulas)

-- in a rule with this body a variable is universal where it stands in it; outside of a rule each one is taken for such
abbrev pub letters_by : Option (Bor (List Atom)) → ℕ → Bool
letters_by None v = true
letters_by (Some body) v = some (has? v) (map formula_of body.now)

-- outside of a rule each variable has the letter x
abbrev pub term_text : Term → List ℕ
term_text t = term_by (λ v. true) t

abbrev pub formula_text : Formula → List ℕ
formula_text a = formula_by (λ v. true) a

-- the body, an arrow and the head
abbrev pub rule_text : Implication → List ℕ
rule_text r = formulas_by (universal? r) r.body ++ (codes " -> " ++ formulas_by (universal? r) r.head)
