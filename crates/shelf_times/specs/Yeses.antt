-- Which answers are a yes.
use Rattle.std.specs.Prelude.{Bool, true, false}
use Rattle.shelf.specs.declared.calls.Answer.{Answer}
use Rattle.shelf.specs.declared.calls.Answer.TheVariants.{Done, Refused, Yes, No, Verified, Graded}

abbrev pub yes? : Answer → Bool
yes? (Yes sheet) = true
yes? Done = false
yes? (Refused f) = false
yes? No = false
yes? (Verified told) = false
yes? (Graded counts grades) = false
