use Rattle.std.proofs.Common.{List, map, ap, ◌∙◌}
use Rattle.rules.specs.declared.Atom.{Atom}
use Rattle.rules.specs.Logic.{formula_of, implication_of}
use Rattle.rules.specs.Bounds.{some, has?, universal?}
use Rattle.rules.proofs.Bounded.{universal_past}
use Rattle.rules.proofs.Setting.{flags_are}
use Rattle.rules.proofs.parts.RuleParts.flag_universal.Goals as goal

pub returns : goal.returns
returns c =
    flags_are c.flags_of.result (universal? (implication_of c.args.self.now)) c.flags_of.ensures.long
    (λ v l. c.flags_of.ensures.each v l ∙ ap (λ (z : List Atom). some (has? v) (map formula_of z)) c.body.ensures)
    (universal_past c.args.self.now c.requires)
