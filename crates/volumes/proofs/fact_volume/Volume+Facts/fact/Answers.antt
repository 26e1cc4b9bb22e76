use Rattle.std.proofs.Common.{arith}
use Rattle.volumes.proofs.Had.{fact_there, fact_ok, fact_had}
use Rattle.volumes.proofs.fact_volume.Volume+Facts.fact.Goals as goal

pub fact_place-requires : goal.fact_place-requires
fact_place-requires c = let t = fact_there c.args.self.now.bytes.now c.args.index (omega arith) in omega arith

pub invariant_of-cursor : goal.invariant_of-cursor
invariant_of-cursor c =
    let t = fact_there c.args.self.now.bytes.now c.args.index (omega arith) in
    let p = t.place in
    record { within = (omega (arith, c.fact_place.ensures), omega arith) }

pub unwrap-requires : goal.unwrap-requires
unwrap-requires c = fact_ok c.args.self.now.bytes.now c.args.index _ (omega arith) c.fact_place.ensures _ c.atom.ensures.value

pub returns : goal.returns
returns c =
    fact_had c.args.self.now.bytes.now c.args.index _ (omega arith) c.fact_place.ensures c.unwrap.result (rw c.unwrap.ensures at c.atom.ensures.value)
