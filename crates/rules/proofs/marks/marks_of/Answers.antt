use Rattle.std.proofs.Common.{◌≡◌, ◌+◌, ◌*◌, ◌%◌, ◌^◌, bit_or, ◌++◌, [], ◌∷◌, map, take, get_or, sym, ap, ◌∙◌, subst, arith}
use Rattle.std.proofs.lemmas.List.{take_more, map-append}
use Rattle.std.proofs.Math.Nat.{mod-lt}
use Rattle.rules.specs.declared.Atom.{Atom}
use Rattle.rules.specs.Logic.{formula_of}
use Rattle.rules.specs.Bounds.{MarksAre}
use Rattle.rules.proofs.Marking.{one_marked}
use Rattle.rules.proofs.marks.marks_of.Goals as goal

-- what stands for an atom past the end
abbrev no_atom : Atom
no_atom = record { predicate = 0; arity = 0; terms = [] }

pub loop-a-preserved : goal.loop-a-preserved
loop-a-preserved c =
    let atoms = c.args.atoms.now in
    let i = c.loop-a.a-index in
    let a = get_or atoms i no_atom in
    let more : map formula_of (take (i + 1) atoms) ≡ map formula_of (take i atoms) ++ (formula_of a ∷ []) =
    ap (map formula_of) (take_more atoms i no_atom c.loop-a-test.true) ∙ map-append formula_of (take i atoms) (a ∷ []) in
    subst (λ F. MarksAre F (bit_or c.loop-a.marks (1 * 2 ^ (a.predicate % 64) % 2 ^ 64))) (sym more)
    (one_marked (map formula_of (take i atoms)) c.loop-a.marks c.loop-a.invariant (formula_of a) (mod-lt a.predicate (omega arith)))
