use Rattle.std.proofs.Common.{◌≡◌, ℕ, ◌≤◌, leb, List, map, sym, refl, ◌∙◌, subst, arith}
use Rattle.std.proofs.lemmas.Bool.{both_ways, leb-true, le-leb}
use Rattle.rules.specs.declared.Atom.{Atom}
use Rattle.rules.specs.Logic.{formula_of}
use Rattle.rules.specs.Bounds.{MarksAre, makes_rule?}
use Rattle.rules.specs.Flags.{rule_atoms?}
use Rattle.rules.proofs.Bounded.{makes_rule_decided, rule_atoms_of, rule_by_flags}
use Rattle.rules.proofs.rule.Rule.new.Goals as goal

pub returns-then-not-have_rule_atoms : goal.returns-then-not-have_rule_atoms
returns-then-not-have_rule_atoms c m =
    both_ways (rule_atoms? c.args.parts) (sym c.have_rule_atoms.ensures ∙ c.if-not-have_rule_atoms.true) (rule_atoms_of c.args.parts m)

pub returns-then-count_flags-gt4 : goal.returns-then-count_flags-gt4
returns-then-count_flags-gt4 c m =
    let p = c.args.parts in
    let is = rule_by_flags p c.flag_existential-existential.result c.count_flags.result (sym c.have_rule_atoms.ensures ∙ c.if-not-have_rule_atoms.false) c.flag_existential-existential.ensures c.count_flags.ensures in
    let few : c.count_flags.result ≤ 4 = leb-true c.count_flags.result 4 (sym is ∙ (makes_rule_decided p).1 m) in
    absurd (omega (arith, c.if-count_flags-gt4.true))

pub returns : goal.returns
returns c =
    let p = c.args.parts in
    let is = rule_by_flags p c.flag_existential-existential.result c.count_flags.result (sym c.have_rule_atoms.ensures ∙ c.if-not-have_rule_atoms.false) c.flag_existential-existential.ensures c.count_flags.ensures in
    (refl, (makes_rule_decided p).0 (is ∙ le-leb c.count_flags.result 4 (omega (arith, c.if-count_flags-gt4.false))))

pub invariant_of-result-clause-kept : goal.invariant_of-result-clause-kept
invariant_of-result-clause-kept c =
    let p = c.args.parts in
    let is = rule_by_flags p c.flag_existential-existential.result c.count_flags.result (sym c.have_rule_atoms.ensures ∙ c.if-not-have_rule_atoms.false) c.flag_existential-existential.ensures c.count_flags.ensures in
    is ∙ le-leb c.count_flags.result 4 (omega (arith, c.if-count_flags-gt4.false))

pub invariant_of-result-clause-in_body_marks : goal.invariant_of-result-clause-in_body_marks
invariant_of-result-clause-in_body_marks c = subst (λ (z : List Atom). MarksAre (map formula_of z) c.marks_of.result) c.body.ensures c.marks_of.ensures

pub invariant_of-result-clause-in_head_marks : goal.invariant_of-result-clause-in_head_marks
invariant_of-result-clause-in_head_marks c = subst (λ (z : List Atom). MarksAre (map formula_of z) c.marks_of-2.result) c.head.ensures c.marks_of-2.ensures
