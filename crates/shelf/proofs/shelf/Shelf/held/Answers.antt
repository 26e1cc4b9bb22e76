use Rattle.std.proofs.Common.{refl, sym}
use Rattle.shelf.proofs.Slots.{held_none, under_slot}
use Rattle.shelf.proofs.shelf.Shelf.held.Goals as goal

pub returns-in_default : goal.returns-in_default
returns-in_default c = sym (held_none c.args.number c.args.self.now.slots c.in_default.ensures)

pub returns : goal.returns
returns c =
    let w = c.in-Some.ensures in
    sym (under_slot c.args.number c.args.self.now.slots w.0 _ (c.args.self.now.apart c.args.number) w.1 refl)
