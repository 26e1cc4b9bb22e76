-- Which rules a shelf holds, and what each call that changes them leaves.
use Rattle.std.specs.Prelude.{ℕ, Bool, cond, not, List, [], ◌∷◌, length, Ok, Err, Result, ◌==◌, nat_lt, slice_get}
use Rattle.std.specs.List.{filter}
use Rattle.std.specs.Option.{ok_or}
use Rattle.faults.specs.declared.shelf.ShelfFault.{ShelfFault}
use Rattle.faults.specs.declared.shelf.ShelfFault.TheVariants.{Full, AlreadyHeld, NotHeld, NoRule}
use Rattle.rules.specs.Logic.{Implication, Numbered}
use Rattle.rules.specs.Bounds.{some}
use Rattle.volumes.specs.Reading.{and_then}
use Rattle.shelf.specs.declared.shelf.Shelf.{Shelf}
use Rattle.shelf.specs.Slots.{inserted, sorted}

-- the rules that the shelf holds, by rising number
abbrev pub rules_on : Shelf → List Numbered
rules_on s = sorted s.slots

abbrev pub has_number? : ℕ → Numbered → Bool
has_number? n x = x.number == n

-- the rule held under the number, or refusal 13 of it
abbrev pub under : List Numbered → ℕ → Result Implication ShelfFault
under [] n = Err (NotHeld n)
under (x ∷ xs) n = cond (has_number? n x) (Ok x.rule) (under xs n)

-- the rules held under two numbers; the first is looked at first
abbrev pub both_under : List Numbered → ℕ → ℕ → Result (Implication × Implication) ShelfFault
both_under rs a b = and_then (under rs a) (λ A. and_then (under rs b) (λ B. Ok (A, B)))

-- what comes of admitting a rule where rs are held: it is to be added, or refusal 12 or 11
abbrev pub allowed : List Numbered → Numbered → Result Numbered ShelfFault
allowed rs x =
    cond (some (has_number? x.number) rs) (Err (AlreadyHeld x.number))
    (cond (nat_lt (length rs) 64) (Ok x) (Err (Full x.number)))

-- the same of the rule of index i of those that a volume holds; where there are not so many, refusal 14
abbrev pub admission : List Numbered → List Numbered → ℕ → Result Numbered ShelfFault
admission rs volume i = and_then (ok_or (slice_get volume i) (NoRule i)) (allowed rs)

-- the rules held after an admission
abbrev pub with_admitted : List Numbered → Result Numbered ShelfFault → List Numbered
with_admitted rs (Ok x) = inserted x rs
with_admitted rs (Err f) = rs

-- the rules held without the one of this number; all of them, where none has it
abbrev pub without : List Numbered → ℕ → List Numbered
without rs n = filter (λ x. not (has_number? n x)) rs

-- the answer of a call that only does something
abbrev pub done : {A : Type 0} → Result A ShelfFault → Result (Unit {0}) ShelfFault
done (Ok x) = Ok tt
done (Err f) = Err f
