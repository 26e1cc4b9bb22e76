-- What is printed of the questions and of the grading is the listing of the rules held.
-- Assumes nothing.
use Rattle.std.proofs.Common.{◌≡◌, ℕ, List, [], ◌∷◌, ◌++◌, map, Ok, sym, refl, ap, subst, inl, inr, ⊎_elim, ◌∙◌}
use Rattle.std.specs.List.{flat_map}
use Rattle.std.proofs.lemmas.List.{append-nil, append_assoc}
use Rattle.rules.specs.Logic.{In, Each, Numbered}
use Rattle.rules.proofs.Membership.{in_either}
use Rattle.reliances.specs.declared.sheet.Kind.TheVariants.{Positive, Restraint}
use Rattle.shelf.specs.declared.calls.Call.{Call}
use Rattle.shelf.specs.declared.calls.Call.TheVariants as call
use Rattle.shelf.specs.declared.calls.Answer.{Answer}
use Rattle.shelf.specs.Held.{under, both_under}
use Rattle.shelf.specs.Runs.{AskRight, holds, denied, PairRight, GradeRight, graded, none}
use Rattle.lines.specs.declared.kinds.Line.TheVariants as line
use Rattle.lines.specs.Lines.{ended_text}
use Rattle.listing.specs.Listing.{Question, line_of, of_pair, questions, Answers, Texts, Grades, Listed}
use Rattle.listing.specs.Listing as listing
use Rattle.listing.specs.Calls.{numbers, row_calls, asking, grade_lines, answer_text, grading_text, all_texts}
use Rattle.listing.proofs.Admissions.{Answered}

-- ---- the questions as calls

abbrev pub asked : Question → Call
asked q = call.Ask q.kind q.first.number q.second.number

map_append : {A B : Type 0} (f : A → B) (xs ys : List A) → map f (xs ++ ys) ≡ map f xs ++ map f ys
map_append f [] ys = refl
map_append f (x ∷ xs) ys = ap (λ z. f x ∷ z) (map_append f xs ys)

asked_row : (a : Numbered) (rs : List Numbered) → map asked (flat_map (of_pair a) rs) ≡ row_calls (numbers rs) a.number
asked_row a [] = refl
asked_row a (b ∷ rs) = ap (λ z. asked (record { kind = Positive; first = a; second = b }) ∷ (asked (record { kind = Restraint; first = a; second = b }) ∷ z)) (asked_row a rs)

asked_rows : (rs os : List Numbered) → map asked (flat_map (λ a. flat_map (of_pair a) rs) os) ≡ flat_map (row_calls (numbers rs)) (numbers os)
asked_rows rs [] = refl
asked_rows rs (a ∷ os) = map_append asked (flat_map (of_pair a) rs) _ ∙ (λ i. asked_row a rs i ++ asked_rows rs os i)

pub asked_all : (rs : List Numbered) → asking (numbers rs) ≡ map asked (questions rs) ++ (call.Grade ∷ [])
asked_all rs = ap (λ z. z ++ (call.Grade ∷ [])) (sym (asked_rows rs rs))

-- ---- both rules of a question are held

in_flat_map : {A B : Type 0} (f : A → List B) (y : B) (xs : List A) → In y (flat_map f xs) → (x : A) × In x xs × In y (f x)
in_flat_map f y [] i = absurd i
in_flat_map f y (x ∷ xs) i = ⊎_elim (λ j. (x, inl refl, j)) (λ j. let r = in_flat_map f y xs j in (r.0, inr r.1, r.2)) (in_either y (f x) (flat_map f xs) i)

-- the rules of the question are those held under their numbers
abbrev Found : List Numbered → Question → Type 0
Found rs q = both_under rs q.first.number q.second.number ≡ Ok (q.first.rule, q.second.rule)

both_found : (rs : List Numbered) (a b : Numbered) → under rs a.number ≡ Ok a.rule → under rs b.number ≡ Ok b.rule → both_under rs a.number b.number ≡ Ok (a.rule, b.rule)
both_found rs a b p q = rw (p, q) refl

found : (rs : List Numbered) → Each (λ a. under rs a.number ≡ Ok a.rule) rs → Each (Found rs) (questions rs)
found rs each q i =
    let r = in_flat_map (λ a. flat_map (of_pair a) rs) q rs i in
    let s = in_flat_map (of_pair r.0) q rs r.2 in
    at r.0 s.0 (each r.0 r.1) (each s.0 s.1) s.2
  where
    at : (a b : Numbered) → under rs a.number ≡ Ok a.rule → under rs b.number ≡ Ok b.rule → In q (of_pair a b) → Found rs q
    at a b p s (inl e) = subst (Found rs) (sym e) (both_found rs a b p s)
    at a b p s (inr (inl e)) = subst (Found rs) (sym e) (both_found rs a b p s)
    at a b p s (inr (inr z)) = absurd z

-- ---- the texts

answers : (q : Question) (a : Answer) → AskRight q.kind q.first.rule q.second.rule a → Answers q (answer_text q.kind q.first.number q.second.number a)
answers q a (holds sheet e shows h) = listing.holds h (ap (answer_text q.kind q.first.number q.second.number) e)
answers q a (denied e h) = listing.denied h (ap (answer_text q.kind q.first.number q.second.number) e)

lines_of : (rs : List Numbered) (grade : ℕ → ℕ) (rest : List ℕ)
    → grade_lines (numbers rs) (map (λ x. grade x.number) rs ++ rest) ≡ flat_map (λ x. ended_text (line.Grade x.number (grade x.number))) rs
lines_of [] grade rest = refl
lines_of (x ∷ rs) grade rest = ap (λ z. ended_text (line.Grade x.number (grade x.number)) ++ z) (lines_of rs grade rest)

grades : (rs : List Numbered) (a : Answer) → GradeRight rs a → Grades rs (grading_text (numbers rs) a)
grades rs a (graded counts gs e g) = listing.graded g.grade g.least (ap (grading_text (numbers rs)) e ∙ ap (grade_lines (numbers rs)) g.list ∙ lines_of rs g.grade _)
grades rs a (none e n) = listing.none n (ap (grading_text (numbers rs)) e)

-- the texts of questions and of the grading after them
abbrev Split : List Numbered → List Question → List ℕ → Type 0
Split rs qs text = (relations after : List ℕ) × (text ≡ relations ++ after) × Texts Answers qs relations × Grades rs after

split : (rs : List Numbered) (qs : List Question) (xs : List Answer) → Each (Found rs) qs → Answered rs (map asked qs ++ (call.Grade ∷ [])) xs
    → Split rs qs (all_texts (numbers rs) (map asked qs ++ (call.Grade ∷ [])) xs)
split rs [] [] each right = absurd right
split rs [] (x ∷ xs) each right = ([], grading_text (numbers rs) x, append-nil (grading_text (numbers rs) x), refl, grades rs x right.0)
split rs (q ∷ qs) [] each right = absurd right
split rs (q ∷ qs) (x ∷ xs) each right =
    let r = split rs qs xs (λ p i. each p (inr i)) right.1 in
    let this = answer_text q.kind q.first.number q.second.number x in
    let says = subst (λ z. PairRight (AskRight q.kind) z x) (each q (inl refl)) right.0 in
    (this ++ r.0, r.1, ap (λ z. this ++ z) r.2 ∙ sym (append_assoc this r.0 r.1), (this, r.0, refl, answers q x says, r.3), r.4)

pub listed : (rs : List Numbered) (xs : List Answer) → Each (λ a. under rs a.number ≡ Ok a.rule) rs → Answered rs (asking (numbers rs)) xs → Listed rs (all_texts (numbers rs) (asking (numbers rs)) xs)
listed rs xs each right =
    let e = asked_all rs in
    let r = split rs (questions rs) xs (found rs each) (subst (λ z. Answered rs z xs) e right) in
    record { relations = r.0; grades = r.1; is = ap (λ z. all_texts (numbers rs) z xs) e ∙ r.2; answers = r.3; grading = r.4 }
