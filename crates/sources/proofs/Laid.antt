-- The facts of an addition, and their places.
-- Assumes nothing.
use Rattle.std.proofs.Common.{◌≡◌, ℕ, ◌+◌, ◌-◌, ◌<◌, ◌≤◌, min, List, [], ◌++◌, length, take, get_or, sym, subst, ap, ◌∙◌, arith}
use Rattle.std.proofs.lemmas.List.{append-nil, take_all, length-take, length-map, length-append, get_or-take, get_or-map, get_or_append_left, get_or-append_right}
use Rattle.rules.specs.declared.Atom.{Atom}
use Rattle.rules.specs.Logic.{Formula, formula_of}
use Rattle.matches.specs.Lists.{formulas}
use Rattle.volumes.specs.Answers.{Nth}
use Rattle.sources.specs.Additions.{laid_over}

pub length_laid : (below own : List Formula) → length (laid_over below own) ≡ min 4096 (length below + length own)
length_laid below own = length-take 4096 (below ++ own) ∙ ap (min 4096) (length-append below own)

-- nothing is laid over
pub laid_nothing : (below : List Formula) → length below ≤ 4096 → laid_over below [] ≡ below
laid_nothing below few = ap (take 4096) (append-nil below) ∙ take_all 4096 below few

-- a fact below
pub laid_below : (below own : List Formula) (i : ℕ) (a : Formula) → length below ≤ 4096 → Nth below i a → Nth (laid_over below own) i a
laid_below below own i a few n =
    let l = n.0 in
    let m : i < 4096 = omega arith in (
      simp (length-take, length-append) (omega arith),
      λ d. get_or-take 4096 (below ++ own) i d m ∙ get_or_append_left below own d i l ∙ n.1 d,
    )

-- one of the addition's own, which is read in a list that is lent; b facts are below
pub laid_own : (below : List Formula) (own lent : List Atom) → lent ≡ own → (b i : ℕ) (d : Atom) → b ≡ length below → b ≤ i → i < 4096 → i - b < length lent
    → Nth (laid_over below (formulas own)) i (formula_of (get_or lent (i - b) d))
laid_own below own lent same b i d e up m l =
    subst (λ xs. Nth (laid_over below (formulas xs)) i (formula_of (get_or lent (i - b) d))) same (
      simp (length-take, length-append, length-map) (omega arith),
      λ z. get_or-take 4096 (below ++ formulas lent) i z m ∙ get_or-append_right below (formulas lent) b i z (sym e) up ∙ get_or-map formula_of lent (i - b) d z l,
    )
