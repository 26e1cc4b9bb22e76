-- What plain fields mean.
use Rattle.std.specs.Prelude.{ℕ, List, [], ◌∷◌, cond, ◌==◌, map, take, replicate, slice_index_or}
use Rattle.rules.specs.declared.Term.{Term}
use Rattle.rules.specs.declared.Term.TheVariants.{Constant, Variable, Null}
use Rattle.rules.specs.declared.Atom.{Atom}
use Rattle.sources_c.specs.declared.plain.PlainTerm.{PlainTerm}
use Rattle.sources_c.specs.declared.plain.PlainAtom.{PlainAtom}
use Rattle.sources_c.specs.declared.plain.Given.{Given}

-- kind 0 is a constant, 2 a null, any other a variable
abbrev pub term_of : PlainTerm → Term
term_of t = cond (t.kind == 0) (Constant t.number) (cond (t.kind == 2) (Null t.number) (Variable t.number))

abbrev pub plain_of : Term → PlainTerm
plain_of (Constant n) = record { kind = 0; number = n }
plain_of (Variable n) = record { kind = 1; number = n }
plain_of (Null n) = record { kind = 2; number = n }

abbrev pub atom_of : PlainAtom → Atom
atom_of a = record { predicate = a.predicate; arity = a.arity; terms = map term_of a.terms }

-- what the variables 0 to 11 are given
abbrev pub given_of : Given → List Term
given_of g = map term_of g.terms

-- the rows, of which 4,100 are looked at: a table has at most 4,096
abbrev pub rows_of : List PlainAtom → List Atom
rows_of rows = take 4100 (map atom_of rows)

-- an atom of no terms
abbrev pub blank : Atom
blank = record { predicate = 0; arity = 0; terms = map Constant (0 ∷ 0 ∷ 0 ∷ 0 ∷ []) }

-- the row of an index, and a blank one past the last
abbrev pub row_at : List PlainAtom → ℕ → Atom
row_at rows i = slice_index_or (map atom_of rows) i blank

-- what the call of an index gives the variables, and constants 0 past the last call
abbrev pub given_at : List Given → ℕ → List Term
given_at gs i = slice_index_or (map given_of gs) i (replicate 12 (Constant 0))
