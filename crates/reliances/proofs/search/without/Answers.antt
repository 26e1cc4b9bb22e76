use Rattle.std.proofs.Common.{◌+◌, ◌-◌, ◌++◌, drop, length, take, ap, ◌∙◌}
use Rattle.reliances.proofs.Nodes.{drop_whole}
use Rattle.reliances.proofs.search.without.Goals as goal

pub returns : goal.returns
returns c =
    let atoms = c.args.atoms.now in
    c.as_slice.ensures.value ∙ c.push_all-2.ensures
    ∙ ap (λ z. z ++ take (length atoms - (c.args.i + 1)) (drop (c.args.i + 1) atoms)) (c.push_all.ensures ∙ ap (λ z. z ++ take c.args.i atoms) c.requires.2)
    ∙ ap (λ z. take c.args.i atoms ++ z) (drop_whole atoms (c.args.i + 1))
