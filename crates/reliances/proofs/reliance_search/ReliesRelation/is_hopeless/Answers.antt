use Rattle.std.proofs.Common.{◌≡◌, ◌+◌, [], length, take, sym, ap, ◌∙◌, subst, arith}
use Rattle.std.proofs.lemmas.Bool.{not-true}
use Rattle.std.proofs.lemmas.Bool.Decides.{not_from_Decides}
use Rattle.std.proofs.lemmas.List.{append-nil}
use Rattle.rules.specs.Bounds.{flags}
use Rattle.rules.specs.Rules.{meaning}
use Rattle.reliances.specs.PositiveSearch.{Free, laid_facts}
use Rattle.reliances.proofs.RelianceNodes.{listed, facts_are}
use Rattle.reliances.proofs.RelianceEnd.{none_free}
use Rattle.reliances.proofs.reliance_search.ReliesRelation.is_hopeless.Goals as goal

pub returns : goal.returns
returns c = λ e.
    let q = c.args.asked.now in
    let A = q.first.now in
    let B = q.second.now in
    let way = c.args.way.now in
    let σ = way.sigma.now in
    let old = way.old.now in
    let body = c.body.result.now in
    let list = c.deref.result.now in
    let none = ap length c.requires.start in
    let all : length body + length old ≡ length body = omega (arith, none) in
    let facts : take (length body) list ≡ laid_facts A σ old =
    ap (λ n. take n list) (sym all) ∙ facts_are A B σ old body old [] list c.body.ensures.same (sym (append-nil old)) _ (c.deref.ensures.0 ∙ c.laid-list.ensures) in
    none_free A B q.rigid q.flags σ old way.rest.now c.requires.node
    (subst (λ F. Free (meaning A) (meaning B) (flags q.rigid) σ F → ⊥) (listed A B σ old (take (length body) list) facts)
    (not_from_Decides c.is_free.result c.is_free.ensures (not-true c.is_free.result e)))
