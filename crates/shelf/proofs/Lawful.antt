-- The law over runs, call by call.
-- Assumes nothing.
use Rattle.std.proofs.Common.{◌≡◌, ℕ, ◌+◌, ◌<◌, ◌≤◌, ◌≢◌, Bool, true, List, [], ◌∷◌, ◌++◌, length, get_or, set, take, drop, Ok, Err, Result, sym, refl, ap, subst, inl, inr, ◌⊎◌, ◌∙◌, arith}
use Rattle.std.proofs.lemmas.Bool.{cases_eq}
use Rattle.std.proofs.lemmas.List.{get_or-set_same, get_or-set_other, length-set, take_more, drop-set-lt}
use Rattle.faults.specs.declared.shelf.ShelfFault.{ShelfFault}
use Rattle.rules.specs.Logic.{Implication, Numbered}
use Rattle.reliances.specs.declared.sheet.Kind.{Kind}
use Rattle.reliances.specs.declared.sheet.Sheet.{Sheet}
use Rattle.volumes.specs.Answers.{Nth}
use Rattle.shelf.specs.declared.calls.Call.{Call}
use Rattle.shelf.specs.declared.calls.Answer.{Answer}
use Rattle.shelf.specs.declared.calls.Answer.TheVariants.{Yes}
use Rattle.shelf.specs.Calls.{AskSays}
use Rattle.shelf.specs.Runs.{after, after_all, held_after, AskRight, holds, PairRight, Right}

pub asked_yes : (kind : Kind) (r : Result (Implication × Implication) ShelfFault) (told : Bool) (before after : Sheet) → told ≡ true → AskSays kind r (Ok told) before after → PairRight (AskRight kind) r (Yes after)
asked_yes kind (Ok p) told before after e says = holds after refl (says.shown e) (says.holds.0 e)
asked_yes kind (Err f) told before after e says = absurd says

after_push : (rs : List Numbered) (cs : List Call) (c : Call) → after_all rs (cs ++ c ∷ []) ≡ after (after_all rs cs) c
after_push rs [] c = refl
after_push rs (d ∷ cs) c = after_push (after rs d) cs c

-- where i calls are made: what is held, and the answers so far
pub record Going (calls : List Call) (made : ℕ) (before : List Answer) (rs : List Numbered) (answers : List Answer) (i : ℕ) : Type 0 where
  pub held : rs ≡ held_after (take i calls)
  pub right : (k : ℕ) → k < i → (c : Call) (a : Answer) → Nth calls k c → Nth answers k a → Right (held_after (take k calls)) c a
  pub others : drop made answers ≡ drop made before
  pub long : length answers ≡ length before

-- the element of an index is one
nth_same : {A : Type 0} (xs : List A) (i : ℕ) (x y : A) → x ≡ get_or xs i x → Nth xs i y → y ≡ x
nth_same xs i x y e n = sym (n.1 x) ∙ sym e

-- one more call is made
module _ (calls : List Call) (made : ℕ) (before : List Answer) (rs next : List Numbered) (answers : List Answer) (i : ℕ) (c : Call) (a : Answer)
    (here : c ≡ get_or calls i c) (l : i < made) (enough : made ≤ length calls) (room : made ≤ length before)
    (says : Right rs c a) (goes : next ≡ after rs c) (going : Going calls made before rs answers i) where
  held_more : next ≡ held_after (take (i + 1) calls)
  held_more =
      goes ∙ ap (λ z. after z c) going.held ∙ ap (after (held_after (take i calls))) here
      ∙ sym (ap held_after (take_more calls i c (omega (arith, l, enough))) ∙ after_push [] (take i calls) (get_or calls i c))

  right_more : (k : ℕ) → k < i + 1 → (d : Call) (b : Answer) → Nth calls k d → Nth (set answers i a) k b → Right (held_after (take k calls)) d b
  right_more k m d b n o = at (cases_eq k i)
    where
      at : (k ≡ i) ⊎ (k ≢ i) → Right (held_after (take k calls)) d b
      at (inl e) =
          let q : b ≡ a = sym (o.1 a) ∙ ap (λ z. get_or (set answers i a) z a) e ∙ get_or-set_same answers i a a (omega (arith, l, room, going.long)) in
          let p : d ≡ c = nth_same calls i c d here (subst (λ z. Nth calls z d) e n) in
          subst (λ z. Right (held_after (take z calls)) d b) (sym e)
          (subst (λ z. Right (held_after (take i calls)) z b) (sym p) (subst (λ z. Right (held_after (take i calls)) c z) (sym q) (subst (λ z. Right z c a) going.held says)))
      at (inr ne) =
          going.right k (omega (arith, m, ne)) d b n
          (subst (λ z. k < z) (length-set answers i a) o.0, λ x. sym (get_or-set_other answers i k a x ne) ∙ o.1 x)

  pub going_more : Going calls made before next (set answers i a) (i + 1)
  going_more = record {
    held = held_more;
    right = right_more;
    others = drop-set-lt made answers i a l ∙ going.others;
    long = length-set answers i a ∙ going.long;
  }
