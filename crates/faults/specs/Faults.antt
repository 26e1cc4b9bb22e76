-- Each fault's number, the rank of its layer, and its place.
use Rattle.std.specs.Prelude.{ℕ, List}
use Rattle.faults.specs.declared.Cut.{Cut}
use Rattle.faults.specs.declared.TermFault.{TermFault}
use Rattle.faults.specs.declared.TermFault.TheVariants.{Ended, Kind, Number}
use Rattle.faults.specs.declared.AtomFault.{AtomFault}
use Rattle.faults.specs.declared.AtomFault.TheVariants.{CutShort, Arity, InTerm}
use Rattle.faults.specs.declared.EntryFault.{EntryFault}
use Rattle.faults.specs.declared.EntryFault.TheVariants.{EntryEnded, Count, Left, Existentials, InAtom}
use Rattle.faults.specs.declared.VolumeFault.{VolumeFault}
use Rattle.faults.specs.declared.VolumeFault.TheVariants.{Short, FirstByte, TooMany, Ends, NotRising, Misplaced, InEntry}
use Rattle.faults.specs.declared.Fault.{Fault}
use Rattle.faults.specs.Text.{refusal_text}

-- the refusal's number
abbrev pub term_number : TermFault → ℕ
term_number (Ended c) = 7
term_number (Kind p) = 9
term_number (Number p) = 9

abbrev pub atom_number : AtomFault → ℕ
atom_number (CutShort c) = 7
atom_number (Arity p) = 8
atom_number (InTerm t) = term_number t

abbrev pub entry_number : EntryFault → ℕ
entry_number (EntryEnded c) = 7
entry_number (Count p) = 6
entry_number (Left p) = 7
entry_number (Existentials p) = 10
entry_number (InAtom a) = atom_number a

abbrev pub number_of : VolumeFault → ℕ
number_of Short = 1
number_of FirstByte = 2
number_of TooMany = 3
number_of Ends = 5
number_of NotRising = 4
number_of Misplaced = 4
number_of (InEntry f) = entry_number f

-- the rank of the layer: volume 1, contents 2, rule or fact 3, atom 4, term 5; a cut is a fault of the rule or fact
abbrev pub term_rank : TermFault → ℕ
term_rank (Ended c) = 3
term_rank (Kind p) = 5
term_rank (Number p) = 5

abbrev pub atom_rank : AtomFault → ℕ
atom_rank (CutShort c) = 3
atom_rank (Arity p) = 4
atom_rank (InTerm t) = term_rank t

abbrev pub entry_rank : EntryFault → ℕ
entry_rank (EntryEnded c) = 3
entry_rank (Count p) = 3
entry_rank (Left p) = 3
entry_rank (Existentials p) = 3
entry_rank (InAtom a) = atom_rank a

abbrev pub rank_of : VolumeFault → ℕ
rank_of Short = 1
rank_of FirstByte = 1
rank_of TooMany = 1
rank_of Ends = 1
rank_of NotRising = 2
rank_of Misplaced = 2
rank_of (InEntry f) = entry_rank f

-- the place of a fault in a term, an atom, a rule or fact
abbrev pub term_place : TermFault → ℕ
term_place (Ended c) = c.place
term_place (Kind p) = p
term_place (Number p) = p

abbrev pub atom_place : AtomFault → ℕ
atom_place (CutShort c) = c.place
atom_place (Arity p) = p
atom_place (InTerm t) = term_place t

abbrev pub entry_place : EntryFault → ℕ
entry_place (EntryEnded c) = c.place
entry_place (Count p) = p
entry_place (Left p) = p
entry_place (Existentials p) = p
entry_place (InAtom a) = atom_place a

-- the bytes ended at e
abbrev pub cut_at : ℕ → Cut
cut_at e = record { place = e }

-- a term's fault as one of its atom, and an atom's as one of its rule or fact: a cut stays a cut
abbrev pub atom_fault : TermFault → AtomFault
atom_fault (Ended c) = CutShort c
atom_fault (Kind p) = InTerm (Kind p)
atom_fault (Number p) = InTerm (Number p)

abbrev pub entry_fault : AtomFault → EntryFault
entry_fault (CutShort c) = EntryEnded c
entry_fault (Arity p) = InAtom (Arity p)
entry_fault (InTerm t) = InAtom (InTerm t)

abbrev pub fault : VolumeFault → ℕ → ℕ → Fault
fault layer index place = record { layer = layer; index = index; place = place }

-- the fault of the i-th rule or fact as one of the volume
abbrev pub in_volume : ℕ → EntryFault → Fault
in_volume i f = fault (InEntry f) i (entry_place f)

-- what a fault is printed as
abbrev pub fault_text : Fault → List ℕ
fault_text f = refusal_text (number_of f.layer) (rank_of f.layer) f.index f.place
