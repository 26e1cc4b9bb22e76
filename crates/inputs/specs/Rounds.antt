-- What numbers of rounds there are.
use Rattle.std.specs.Prelude.{◌≤◌}
use Rattle.std.specs.declared.num.NonZeroU32.{NonZeroU32}
use Rattle.std.specs.Int.NonZero.{non_zero_u32_get}

-- a number of rounds is at most a million
abbrev pub Few : NonZeroU32 → Type 0
Few n = non_zero_u32_get n ≤ 1000000
