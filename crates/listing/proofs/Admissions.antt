-- All rules of a volume are admitted to a new shelf.
-- Assumes nothing.
use Rattle.std.proofs.Common.{◌≡◌, ℕ, suc, ◌+◌, ◌-◌, ◌<◌, ◌≤◌, false, List, [], ◌∷◌, ◌++◌, length, get_or, take, Some, Ok, sym, refl, ap, subst, inl, inr, ◌∙◌, arith}
use Rattle.std.specs.Option.{ok_or}
use Rattle.std.proofs.lemmas.Bool.{eq-eqb, ne_eqb, lt-ltb, le-ltb}
use Rattle.std.proofs.lemmas.Option.{slice_get-get_or}
use Rattle.std.proofs.lemmas.List.{append-nil, append_assoc, length_push}
use Rattle.faults.specs.declared.shelf.ShelfFault.TheVariants.{NoRule}
use Rattle.rules.specs.Logic.{In, Numbered}
use Rattle.rules.specs.Bounds.{some}
use Rattle.volumes.specs.Layout.{number, extent, count, RuleEntry, EncodesRules}
use Rattle.volumes.specs.Sequence.{Stand}
use Rattle.volumes.specs.Answers.{Nth}
use Rattle.volumes.specs.Reading.{and_then}
use Rattle.shelf.specs.declared.calls.Call.{Call}
use Rattle.shelf.specs.declared.calls.Answer.{Answer}
use Rattle.shelf.specs.Slots.{inserted}
use Rattle.shelf.specs.Held.{has_number?, under, allowed, admission, with_admitted}
use Rattle.shelf.specs.Runs.{after, after_all, Right, Ran}
use Rattle.listing.specs.Calls.{admitting, text_of, all_texts}

-- ---- the calls

pub admitted_more : (admit : ℕ → Call) (made new total : List Call) (i n : ℕ) → i < n → new ≡ made ++ (admit i ∷ []) → made ++ admitting admit i (n - i) ≡ total → new ++ admitting admit (i + 1) (n - (i + 1)) ≡ total
admitted_more admit made new total i n l is was =
    let e : n - i ≡ suc (n - (i + 1)) = omega (arith, l) in
    ap (λ z. z ++ admitting admit (i + 1) (n - (i + 1))) is
    ∙ append_assoc made (admit i ∷ []) (admitting admit (i + 1) (n - (i + 1)))
    ∙ sym (ap (λ z. made ++ admitting admit i z) e) ∙ was

-- ---- rules by rising number

-- each number is below n
abbrev pub Below : ℕ → List Numbered → Type 0
Below n [] = Unit {0}
Below n (y ∷ ys) = (y.number < n) × Below n ys

-- each number is greater than the one before it, and the first is m at least
abbrev pub Rises : ℕ → List Numbered → Type 0
Rises m [] = Unit {0}
Rises m (x ∷ xs) = (m ≤ x.number) × Rises (suc x.number) xs

below_less : (m n : ℕ) (ys : List Numbered) → m ≤ n → Below m ys → Below n ys
below_less m n [] l b = tt
below_less m n (y ∷ ys) l b = let z = b.0 in (omega (arith, l, z), below_less m n ys l b.1)

below_push : (n : ℕ) (ys : List Numbered) (x : Numbered) → Below n ys → x.number < n → Below n (ys ++ x ∷ [])
below_push n [] x b l = (l, tt)
below_push n (y ∷ ys) x b l = (b.0, below_push n ys x b.1 l)

none_below : (x : Numbered) (ys : List Numbered) → Below x.number ys → some (has_number? x.number) ys ≡ false
none_below x [] b = refl
none_below x (y ∷ ys) b = let z = b.0 in rw (ne_eqb y.number x.number (λ e. omega (arith, z, e))) (none_below x ys b.1)

inserted_last : (x : Numbered) (ys : List Numbered) → Below x.number ys → inserted x ys ≡ ys ++ x ∷ []
inserted_last x [] b = refl
inserted_last x (y ∷ ys) b = let z = b.0 in rw (le-ltb x.number y.number (omega (arith, z))) (ap (λ zs. y ∷ zs) (inserted_last x ys b.1))

next : (made : List Numbered) (x : Numbered) (xs : List Numbered) → (d : Numbered) → get_or (made ++ (x ∷ xs)) (length made) d ≡ x
next [] x xs d = refl
next (y ∷ ys) x xs d = next ys x xs d

within : (made : List Numbered) (x : Numbered) (xs : List Numbered) → length made < length (made ++ (x ∷ xs))
within [] x xs = omega arith
within (y ∷ ys) x xs = let r = within ys x xs in omega (arith, r)

-- the next rule is admitted
admitted_next : (all made : List Numbered) (x : Numbered) (xs : List Numbered) → all ≡ made ++ (x ∷ xs) → Below x.number made → length made < 64 → admission made all (length made) ≡ Ok x
admitted_next all made x xs e below room =
    let at : admission made all (length made) ≡ allowed made x =
    ap (λ z. admission made z (length made)) e
    ∙ ap (λ o. and_then (ok_or o (NoRule (length made))) (allowed made)) (slice_get-get_or (made ++ (x ∷ xs)) (length made) x (within made x xs) ∙ ap Some (next made x xs x)) in
    at ∙ rw (none_below x made below, lt-ltb (length made) 64 room)

-- ---- answers that are right, call by call

abbrev pub Answered : List Numbered → List Call → List Answer → Type 0
Answered rs [] xs = Unit {0}
Answered rs (c ∷ cs) [] = ⊥
Answered rs (c ∷ cs) (x ∷ xs) = Right rs c x × Answered (after rs c) cs xs

pub answered_each : (rs : List Numbered) (cs : List Call) (xs : List Answer) → length cs ≤ length xs
    → ((i : ℕ) (c : Call) (a : Answer) → i < length cs → Nth cs i c → Nth xs i a → Right (after_all rs (take i cs)) c a) → Answered rs cs xs
answered_each rs [] xs l each = tt
answered_each rs (c ∷ cs) [] l each = omega (arith, l)
answered_each rs (c ∷ cs) (x ∷ xs) l each = (
  each 0 c x (omega arith) (omega arith, λ d. refl) (omega arith, λ d. refl),
  answered_each (after rs c) cs xs (omega (arith, l)) (λ i d a m n o. each (suc i) d a (omega (arith, m)) ((let z = n.0 in omega (arith, z)), n.1) ((let z = o.0 in omega (arith, z)), o.1)),
)

-- where each call has a place for its answer, all are made
pub answered_run : (cs : List Call) (n : ℕ) (before after : List Answer) → length before ≡ length cs → Ran cs n before after → Answered [] cs after
answered_run cs n before after long ran =
    answered_each [] cs after (let z = ran.long in omega (arith, z, long))
    (λ i c a l. ran.right i c a (let z = ran.made in omega (arith, z, l, long)))

-- ---- all of them

-- the admissions of the rules that are left: they are held then, and nothing is printed
pub admissions : (ns : List ℕ) (admit : ℕ → Call) (all : List Numbered) → ((rs : List Numbered) (i : ℕ) → after rs (admit i) ≡ with_admitted rs (admission rs all i)) → ((i : ℕ) (x : Answer) → text_of ns (admit i) x ≡ [])
    → (made xs : List Numbered) (m : ℕ) → all ≡ made ++ xs → Below m made → Rises m xs → length made + length xs ≤ 64
    → (cs : List Call) (os : List Answer) → Answered made (admitting admit (length made) (length xs) ++ cs) os
    → (rest : List Answer) × Answered all cs rest × (all_texts ns (admitting admit (length made) (length xs) ++ cs) os ≡ all_texts ns cs rest)
admissions ns admit all goes silent made [] m e below rises few cs os answered = (os, subst (λ z. Answered z cs os) (sym (append-nil made) ∙ sym e) answered, refl)
admissions ns admit all goes silent made (x ∷ xs) m e below rises few cs [] answered = absurd answered
admissions ns admit all goes silent made (x ∷ xs) m e below rises few cs (a ∷ os) answered =
    let low : Below x.number made = below_less m x.number made rises.0 below in
    let one : length (made ++ (x ∷ [])) ≡ length made + 1 = length_push made x in
    let now : after made (admit (length made)) ≡ made ++ (x ∷ []) =
    goes made (length made) ∙ ap (with_admitted made) (admitted_next all made x xs e low (omega (arith, few))) ∙ inserted_last x made low in
    let moved : Answered (made ++ (x ∷ [])) (admitting admit (length (made ++ (x ∷ []))) (length xs) ++ cs) os =
    subst (λ z. Answered z (admitting admit (length (made ++ (x ∷ []))) (length xs) ++ cs) os) now
    (subst (λ k. Answered (after made (admit (length made))) (admitting admit k (length xs) ++ cs) os) (sym one) answered.1) in
    let r =
    admissions ns admit all goes silent (made ++ (x ∷ [])) xs (suc x.number) (e ∙ sym (append_assoc made (x ∷ []) xs))
    (below_push (suc x.number) made x (below_less x.number (suc x.number) made (omega arith) low) (omega arith)) rises.1 (omega (arith, few, one)) cs os moved in
    (r.0, r.1, ap (λ t. t ++ all_texts ns (admitting admit (length made + 1) (length xs) ++ cs) os) (silent (length made) a) ∙ ap (λ k. all_texts ns (admitting admit k (length xs) ++ cs) os) (sym one) ∙ r.2)

-- ---- the rules of a volume

stand_rises : (bs : List ℕ) (n : ℕ) → ((i : ℕ) → i + 1 < n → number bs i < number bs (i + 1)) → (xs : List Numbered) (i m s q : ℕ) → i + length xs ≤ n → (0 < length xs → m ≤ number bs i)
    → Stand (RuleEntry bs) (λ i s _. s + extent bs i) i s xs q → Rises m xs
stand_rises bs n up [] i m s q l first stand = tt
stand_rises bs n up (x ∷ xs) i m s q l first stand =
    let is : x.number ≡ number bs i = stand.0.0 in
    let low = first (omega arith) in (
      omega (arith, is, low),
      stand_rises bs n up xs (i + 1) (suc x.number) (s + extent bs i) q (omega (arith, l)) (λ more. let u = up i (omega (arith, l, more)) in omega (arith, is, u)) stand.1,
    )

pub encoded_rises : (bs : List ℕ) (rs : List Numbered) → EncodesRules bs rs → Rises 0 rs
encoded_rises bs rs w = stand_rises bs (count bs) w.begins.rising rs 0 0 _ _ (let e = w.rules.0 in omega (arith, e)) (λ l. omega arith) w.rules.1

pub encoded_few : (bs : List ℕ) (rs : List Numbered) → EncodesRules bs rs → length rs ≤ 64
encoded_few bs rs w = let e = w.rules.0 in let f = w.begins.contents.few in omega (arith, e, f)

-- ---- what is held under a number

above_in : (m : ℕ) (xs : List Numbered) (a : Numbered) → Rises m xs → In a xs → m ≤ a.number
above_in m [] a r i = absurd i
above_in m (x ∷ xs) a r (inl e) = subst (λ z. m ≤ z.number) (sym e) r.0
above_in m (x ∷ xs) a r (inr i) = let z = above_in (suc x.number) xs a r.1 i in let y = r.0 in omega (arith, z, y)

pub under_rising : (m : ℕ) (rs : List Numbered) (a : Numbered) → Rises m rs → In a rs → under rs a.number ≡ Ok a.rule
under_rising m [] a r i = absurd i
under_rising m (x ∷ xs) a r (inl e) = rw (eq-eqb x.number a.number (ap (λ z. z.number) (sym e))) (ap (λ z. Ok z.rule) (sym e))
under_rising m (x ∷ xs) a r (inr i) = let z = above_in (suc x.number) xs a r.1 i in rw (ne_eqb x.number a.number (λ e. omega (arith, z, e))) (under_rising (suc x.number) xs a r.1 i)
