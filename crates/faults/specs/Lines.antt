-- The number, the rank, the index and the place of the refusal of a buffer for a line.
use Rattle.std.specs.Prelude.{ℕ, List}
use Rattle.faults.specs.declared.line.LineFault.{LineFault}
use Rattle.faults.specs.declared.line.LineFault.TheVariants.{ShortBuffer}
use Rattle.faults.specs.Text.{refusal_text}

-- the refusal's number
abbrev pub line_number : LineFault → ℕ
line_number ShortBuffer = 23

-- the rank of the layer, which is the line
abbrev pub line_rank : LineFault → ℕ
line_rank f = 8

-- no index in the contents of a volume is concerned
abbrev pub line_index : LineFault → ℕ
line_index f = 0

-- no place in the buffer is concerned
abbrev pub line_place : LineFault → ℕ
line_place f = 0

-- what such a refusal is printed as
abbrev pub line_fault_text : LineFault → List ℕ
line_fault_text f = refusal_text (line_number f) (line_rank f) (line_index f) (line_place f)
