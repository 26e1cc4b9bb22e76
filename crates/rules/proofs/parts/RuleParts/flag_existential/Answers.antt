use Rattle.std.proofs.Common.{List, map, ap, ◌∙◌}
use Rattle.rules.specs.declared.Atom.{Atom}
use Rattle.rules.specs.Logic.{formula_of, implication_of}
use Rattle.rules.specs.Bounds.{some, has?, universal?}
use Rattle.rules.proofs.Bounded.{existential_past}
use Rattle.rules.proofs.Setting.{flags_apart}
use Rattle.rules.proofs.parts.RuleParts.flag_existential.Goals as goal

pub returns : goal.returns
returns c =
    let r = implication_of c.args.self.now in
    flags_apart c.flags_of.result c.args.universal.now c.only_in.result (λ v. some (has? v) r.head) (universal? r) c.flags_of.ensures.long
    (λ v l. c.flags_of.ensures.each v l ∙ ap (λ (z : List Atom). some (has? v) (map formula_of z)) c.head.ensures) c.requires.universal
    (existential_past c.args.self.now c.requires.atoms) c.only_in.ensures
