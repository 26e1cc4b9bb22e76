use Rattle.std.proofs.Common.{sym, ap, ◌∙◌, arith}
use Rattle.volumes.specs.Volumes.{rules_of}
use Rattle.shelf.specs.Held.{done, with_admitted}
use Rattle.shelf.specs.Slots.{sorted}
use Rattle.shelf.proofs.Slots.{put_apart, sorted_put}
use Rattle.shelf.proofs.Admitting.{found, missed, declined_held, declined_full, admits}
use Rattle.shelf.proofs.shelf.Shelf.admit.Goals as goal

pub returns-then-is_some-clause-answer : goal.returns-then-is_some-clause-answer
returns-then-is_some-clause-answer c =
    let f = found _ _ c.find_number.result c.find_number.ensures.found c.if-is_some.ensures in
    ap done (sym (declined_held c.args.self.now.slots (rules_of c.args.volume.now.bytes.now) c.args.index c.in-Some.rule c.in-Some.ensures f.0 f.1.1))

pub returns-then-is_some-clause-then : goal.returns-then-is_some-clause-then
returns-then-is_some-clause-then c =
    let f = found _ _ c.find_number.result c.find_number.ensures.found c.if-is_some.ensures in
    let s = c.args.self.now.slots in
    ap (with_admitted (sorted s)) (sym (declined_held s (rules_of c.args.volume.now.bytes.now) c.args.index c.in-Some.rule c.in-Some.ensures f.0 f.1.1))

pub returns-in_default-find_free-clause-answer : goal.returns-in_default-find_free-clause-answer
returns-in_default-find_free-clause-answer c =
    let none = missed _ _ c.find_number.result c.find_number.ensures.found c.if-is_some.ensures in
    ap done (sym (declined_full c.args.self.now.slots (rules_of c.args.volume.now.bytes.now) c.args.index c.in-Some.rule c.in-Some.ensures c.find_number.ensures.long none c.in_default-find_free.ensures.found))

pub returns-in_default-find_free-clause-then : goal.returns-in_default-find_free-clause-then
returns-in_default-find_free-clause-then c =
    let none = missed _ _ c.find_number.result c.find_number.ensures.found c.if-is_some.ensures in
    let s = c.args.self.now.slots in
    ap (with_admitted (sorted s)) (sym (declined_full s (rules_of c.args.volume.now.bytes.now) c.args.index c.in-Some.rule c.in-Some.ensures c.find_number.ensures.long none c.in_default-find_free.ensures.found))

pub invariant_of-self : goal.invariant_of-self
invariant_of-self c =
    let none = missed _ _ c.find_number.result c.find_number.ensures.found c.if-is_some.ensures in
    let free = c.in-Some-find_free.ensures.found in
    record { apart = put_apart c.args.self.now.slots c.in-Some-find_free.free (omega (arith, free.0, c.find_number.ensures.long)) c.args.self.now.apart c.in-Some.rule none }

pub returns-clause-answer : goal.returns-clause-answer
returns-clause-answer c =
    let none = missed _ _ c.find_number.result c.find_number.ensures.found c.if-is_some.ensures in
    let free = c.in-Some-find_free.ensures.found in
    ap done (sym (admits c.args.self.now.slots (rules_of c.args.volume.now.bytes.now) c.args.index c.in-Some.rule c.in-Some.ensures c.find_number.ensures.long none c.in-Some-find_free.free free.0 free.1))

pub returns-clause-then : goal.returns-clause-then
returns-clause-then c =
    let none = missed _ _ c.find_number.result c.find_number.ensures.found c.if-is_some.ensures in
    let free = c.in-Some-find_free.ensures.found in
    let s = c.args.self.now.slots in
    sorted_put s c.in-Some-find_free.free c.in-Some.rule (omega (arith, free.0, c.find_number.ensures.long)) free.1 none
    ∙ ap (with_admitted (sorted s)) (sym (admits s (rules_of c.args.volume.now.bytes.now) c.args.index c.in-Some.rule c.in-Some.ensures c.find_number.ensures.long none c.in-Some-find_free.free free.0 free.1))
