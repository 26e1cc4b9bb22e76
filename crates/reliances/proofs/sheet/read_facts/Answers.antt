use Rattle.std.proofs.Common.{◌≡◌, take, sym, subst, rules}
use Rattle.std.proofs.lemmas.Bool.Decides.{not_from_Decides}
use Rattle.rules.specs.Logic.{Each}
use Rattle.matches.specs.Lists.{FactAtom}
use Rattle.reliances.proofs.sheet.read_facts.Goals as goal

pub returns-then-are_facts : goal.returns-then-are_facts
returns-then-are_facts g c =
    let same : c.in_ok-facts.facts.now ≡ take c.args.n c.args.atoms.now = search rules in
    (record { few = search rules; facts = subst (Each FactAtom) same (c.are_facts.ensures.0 c.if-are_facts.true) }, same)

pub returns-else-are_facts : goal.returns-else-are_facts
returns-else-are_facts g c = λ l.
    let same : c.in_ok-facts.facts.now ≡ take c.args.n c.args.atoms.now = search rules in
    not_from_Decides c.are_facts.result c.are_facts.ensures c.if-are_facts.false (subst (Each FactAtom) (sym same) l.facts)
