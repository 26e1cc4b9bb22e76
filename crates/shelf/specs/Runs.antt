-- The law over runs: what any list of calls on a new shelf is answered. Which rules are held is told by the calls alone.
use Rattle.std.specs.Prelude.{◌≡◌, ℕ, ◌<◌, Bool, List, [], ◌∷◌, length, take, drop, min, replicate, Ok, Err, Result}
use Rattle.faults.specs.declared.shelf.ShelfFault.{ShelfFault}
use Rattle.faults.specs.declared.shelf.ShelfFault.TheVariants.{NoNumbering}
use Rattle.rules.specs.Logic.{Implication, Numbered}
use Rattle.rules.specs.Reliances.{Keeps}
use Rattle.reliances.specs.declared.sheet.Kind.{Kind}
use Rattle.reliances.specs.declared.sheet.Sheet.{Sheet}
use Rattle.reliances.specs.Sheets.{Shows, Holds}
use Rattle.volumes.specs.Answers.{Nth}
use Rattle.volumes.specs.Volumes.{rules_of}
use Rattle.shelf.specs.declared.grading.PairCounts.{PairCounts}
use Rattle.shelf.specs.declared.calls.Call.{Call}
use Rattle.shelf.specs.declared.calls.Call.TheVariants.{Admit, Withdraw, Ask, Verify, Grade}
use Rattle.shelf.specs.declared.calls.Answer.{Answer}
use Rattle.shelf.specs.declared.calls.Answer.TheVariants.{Done, Refused, Yes, No, Verified, Graded}
use Rattle.shelf.specs.Held.{under, both_under, admission, with_admitted, without}
use Rattle.shelf.specs.Calls.{Verified as VerifiedRight, Graded as GradedRight}

-- the rules held after a call, where rs are held before it
abbrev pub after : List Numbered → Call → List Numbered
after rs (Admit volume i) = with_admitted rs (admission rs (rules_of volume.bytes.now) i)
after rs (Withdraw n) = without rs n
after rs (Ask kind a b) = rs
after rs (Verify kind a b sheet) = rs
after rs Grade = rs

-- the rules held after the calls, where rs are held before them
abbrev pub after_all : List Numbered → List Call → List Numbered
after_all rs [] = rs
after_all rs (c ∷ cs) = after_all (after rs c) cs

-- the rules held after the calls, from a new shelf on
abbrev pub held_after : List Call → List Numbered
held_after = after_all []

-- the answer is right for a call that does something
abbrev pub DoneRight : {A : Type 0} → Result A ShelfFault → Answer → Type 0
DoneRight (Ok x) answer = answer ≡ Done
DoneRight (Err f) answer = answer ≡ Refused f

-- the answer says yes with a sheet that shows the relation, or no exactly where no facts and matches meet its definition
pub data AskRight (kind : Kind) (A B : Implication) (answer : Answer) : Type 0 where
  holds : (sheet : Sheet) → answer ≡ Yes sheet → Shows kind A B sheet → Holds kind A B → AskRight kind A B answer
  denied : answer ≡ No → (Holds kind A B → ⊥) → AskRight kind A B answer

-- the answer says whether the sheet meets the definition
abbrev pub VerifyRight : Kind → Sheet → Implication → Implication → Answer → Type 0
VerifyRight kind sheet A B answer = (told : Bool) × (answer ≡ Verified told) × VerifiedRight kind A B sheet told

-- the answer is right for two rules, or is the refusal for want of one
abbrev pub PairRight : (Implication → Implication → Answer → Type 0) → Result (Implication × Implication) ShelfFault → Answer → Type 0
PairRight says (Ok rules) answer = says rules.0 rules.1 answer
PairRight says (Err f) answer = answer ≡ Refused f

-- a list of grades before anything is put into it
abbrev pub no_grades : List ℕ
no_grades = replicate 64 0

-- the answer has the least numbering, or is refusal 22 exactly where no numbering keeps the reliances
pub data GradeRight (rs : List Numbered) (answer : Answer) : Type 0 where
  graded : (counts : PairCounts) (grades : List ℕ) → answer ≡ Graded counts grades → GradedRight rs counts no_grades grades → GradeRight rs answer
  none : answer ≡ Refused NoNumbering → ((grade : ℕ → ℕ) → Keeps rs grade → ⊥) → GradeRight rs answer

-- the answer to a call is right where rs are held
abbrev pub Right : List Numbered → Call → Answer → Type 0
Right rs (Admit volume i) answer = DoneRight (admission rs (rules_of volume.bytes.now) i) answer
Right rs (Withdraw n) answer = DoneRight (under rs n) answer
Right rs (Ask kind a b) answer = PairRight (AskRight kind) (both_under rs a b) answer
Right rs (Verify kind a b sheet) answer = PairRight (VerifyRight kind sheet.now) (both_under rs a b) answer
Right rs Grade answer = GradeRight rs answer

-- the first n calls are made on a new shelf, as many as there are places for answers. Each answer is right for the rules that
-- are held after the calls before it; further places are as they were
pub record Ran (calls : List Call) (n : ℕ) (before after : List Answer) : Type 0 where
  pub made : n ≡ min (length calls) (length before)
  pub right : (i : ℕ) (c : Call) (a : Answer) → i < n → Nth calls i c → Nth after i a → Right (held_after (take i calls)) c a
  pub others : drop n after ≡ drop n before
  pub long : length after ≡ length before
