use Rattle.std.proofs.Common.{◌+◌, ◌≤◌, length, drop}
use Rattle.shelf.specs.Slots.{sorted}
use Rattle.shelf.specs.Grading.{Arranged}
use Rattle.shelf.proofs.grading.arrange.Given as goal

abbrev pub invariant-loop-i : goal.invariant-loop-i
invariant-loop-i l = record {
  arranged : Arranged l.slots (sorted (drop l.i l.slots)) l.order.items;
  room : l.i + length l.order.items ≤ 64;
}
