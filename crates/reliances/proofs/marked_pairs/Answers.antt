use Rattle.reliances.proofs.Marked.{marked_pairs}
use Rattle.reliances.proofs.marked_pairs.Goals as goal

pub returns : goal.returns
returns c = marked_pairs
