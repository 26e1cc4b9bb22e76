-- What is printed of bytes, from what the calls are answered.
-- Assumes nothing.
use Rattle.std.proofs.Common.{◌≡◌, ℕ, ◌+◌, ◌<◌, ◌≤◌, List, [], ◌∷◌, ◌++◌, length, take, Ok, Err, IfOk, Result, sym, refl, ap, subst, ◌∙◌, arith}
use Rattle.std.proofs.lemmas.List.{length-map, length-take, map_push, take_more}
use Rattle.faults.specs.declared.Fault.{Fault}
use Rattle.rules.specs.Logic.{Numbered}
use Rattle.volumes.specs.Layout.{RuleVolumeSays}
use Rattle.volumes.specs.Reading.{read_rules}
use Rattle.volumes.specs.Answers.{Checked, Nth, counted, taken}
use Rattle.volumes.specs.Volumes.{rules_of}
use Rattle.volumes.proofs.Checking.{rules_exact}
use Rattle.shelf.specs.declared.calls.Call.{Call}
use Rattle.shelf.specs.declared.calls.Answer.{Answer}
use Rattle.shelf.specs.Held.{admission, with_admitted}
use Rattle.shelf.specs.Runs.{after, Ran}
use Rattle.lines.specs.declared.kinds.Line.TheVariants.{Declined}
use Rattle.lines.specs.Lines.{ended_text}
use Rattle.listing.specs.Listing.{Listed, Printed, listed, declined}
use Rattle.listing.specs.Calls.{numbers, admitting, asking, text_of, all_texts}
use Rattle.listing.proofs.Admissions.{Rises, Answered, admissions, answered_run, encoded_rises, encoded_few, under_rising}
use Rattle.listing.proofs.Asking.{listed as asked_listed}

rules_in : (bs : List ℕ) (r : Result (List Numbered) Fault) → RuleVolumeSays bs r → Rises 0 (taken r) × (length (taken r) ≤ 64)
rules_in bs (Ok rs) says = (encoded_rises bs rs says, encoded_few bs rs says)
rules_in bs (Err f) says = (tt, omega arith)

-- the rules of a volume rise by number, and are at most 64
pub volume_rules : (bs : List ℕ) → Rises 0 (rules_of bs) × (length (rules_of bs) ≤ 64)
volume_rules bs = rules_in bs (read_rules bs) (rules_exact bs).right

-- the whole run
pub run_listed : (admit : ℕ → Call) (rs : List Numbered) → ((held : List Numbered) (i : ℕ) → after held (admit i) ≡ with_admitted held (admission held rs i)) → ((i : ℕ) (x : Answer) → text_of (numbers rs) (admit i) x ≡ [])
    → Rises 0 rs → length rs ≤ 64 → (calls : List Call) (n : ℕ) (before answers : List Answer) (text : List ℕ)
    → calls ≡ admitting admit 0 (length rs) ++ asking (numbers rs) → length before ≡ length calls → Ran calls n before answers → text ≡ all_texts (numbers rs) calls answers → Listed rs text
run_listed admit rs goes silent rises few calls n before answers text are long ran is =
    let r =
    admissions (numbers rs) admit rs goes silent [] rs 0 refl tt rises (omega (arith, few)) (asking (numbers rs)) answers
    (subst (λ z. Answered [] z answers) are (answered_run calls n before answers long ran)) in
    subst (Listed rs) (sym (is ∙ ap (λ z. all_texts (numbers rs) z answers) are ∙ r.2))
    (asked_listed rs r.0 (λ a i. under_rising 0 rs a rises i) r.1)

pub printed_rules : (bs : List ℕ) (n : ℕ) (text : List ℕ) → Checked (RuleVolumeSays bs) (Ok n) → Listed (rules_of bs) text → Printed bs text
printed_rules bs n text c l = at c.answer (c.the.only (read_rules bs) (rules_exact bs).right) c.told c.the.right
  where
    at : (r : Result (List Numbered) Fault) → read_rules bs ≡ r → Ok n ≡ counted r → RuleVolumeSays bs r → Printed bs text
    at (Ok rs) e told says = listed rs says (subst (λ z. Listed z text) (ap taken e) l)
    at (Err f) e told says = absurd (let z : ◌≡◌ {A = Result ℕ Fault} (Ok n) (Err f) = told in cc)

pub printed_fault : (bs : List ℕ) (f : Fault) (text : List ℕ) → Checked (RuleVolumeSays bs) (Err f) → text ≡ ended_text (Declined f) → Printed bs text
printed_fault bs f text c is = at c.answer c.told c.the.right
  where
    at : (r : Result (List Numbered) Fault) → Err f ≡ counted r → RuleVolumeSays bs r → Printed bs text
    at (Ok rs) told says = absurd (let z : ◌≡◌ {A = Result ℕ Fault} (Err f) (Ok (length rs)) = told in cc)
    at (Err g) told says =
        let z : ◌≡◌ {A = Result ℕ Fault} (Err f) (Err g) = told in
        let e : f ≡ g = cc in
        declined g says (is ∙ ap (λ h. ended_text (Declined h)) e)

pub if_ok : {A E : Type 0} (P Q : A → Type 0) → ((x : A) → P x → Q x) → (r : Result A E) → IfOk r P → IfOk r Q
if_ok P Q f (Ok x) p = f x p
if_ok P Q f (Err e) p = p

-- the number of one more rule
pub numbers_more : (rs : List Numbered) (i : ℕ) (x : Numbered) → Nth rs i x → numbers (take (i + 1) rs) ≡ numbers (take i rs) ++ (x.number ∷ [])
numbers_more rs i x n =
    ap numbers (take_more rs i x n.0) ∙ map_push (λ y. y.number) (take i rs) _ ∙ ap (λ y. numbers (take i rs) ++ (y.number ∷ [])) (n.1 x)

pub numbers_few : (rs : List Numbered) (i : ℕ) (ns : List ℕ) → ns ≡ numbers (take i rs) → i < length rs → length rs ≤ 64 → length ns < 64
numbers_few rs i ns e l few =
    let a : length ns ≡ length (take i rs) = ap length e ∙ length-map (take i rs) _ in
    let b = length-take i rs in
    omega (arith, a, b, l, few)
