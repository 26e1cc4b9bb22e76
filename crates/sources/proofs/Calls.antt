-- One more call of `apply`.
-- Assumes nothing.
use Rattle.std.proofs.Common.{◌≡◌, ℕ, ◌+◌, ◌<◌, ◌≤◌, List, [], ◌∷◌, ◌++◌, length, get_or, take, Ok, Err, Result, append_assoc, refl, sym, subst, ap, ◌∙◌, ⊎_elim}
use Rattle.std.proofs.lemmas.List.{append-nil}
use Rattle.rules.specs.Logic.{Each, Formula}
use Rattle.rules.specs.Rules.{meaning}
use Rattle.rules.proofs.Membership.{in_either}
use Rattle.matches.specs.Lists.{look}
use Rattle.faults.specs.declared.source.SourceFault.{SourceFault}
use Rattle.sources.specs.declared.piles.Application.{Application}
use Rattle.sources.specs.Additions.{laid_over}
use Rattle.sources.specs.Applying.{Applied, ApplyAnswer}
use Rattle.sources.specs.Piles.{IsDeclined, OwnAfter}
use Rattle.sources.proofs.Laid.{laid_nothing}
use Rattle.sources.proofs.Knowing.{take_more}

each_more : {A : Type 0} (P : A → Type 0) (xs : List A) (x : A) → Each P xs → P x → Each P (xs ++ (x ∷ []))
each_more P xs x each here y m =
    ⊎_elim (each y) (λ i. ⊎_elim (λ e. subst P (sym e) here) (λ n. absurd n) i) (in_either y xs (x ∷ []) m)

module _ (F : List Formula) (calls : List Application) (c : Application) (before : List Formula) where
  declined_more : (own : List Formula) → OwnAfter F calls before → IsDeclined F c → own ≡ before → OwnAfter F (calls ++ (c ∷ [])) own
  declined_more own (OwnAfter.none each e) d same = OwnAfter.none (each_more (IsDeclined F) calls c each d) (same ∙ e)
  declined_more own (OwnAfter.last first l rest e a each) d same =
      OwnAfter.last first l (rest ++ (c ∷ [])) (ap (λ z. z ++ (c ∷ [])) e ∙ append_assoc first (l ∷ rest) (c ∷ []))
      (subst (Applied (meaning l.rule) (look l.found) F) (sym same) a) (each_more (IsDeclined F) rest c each d)

  pub own_more : (r : Result (Unit {0}) SourceFault) (own : List Formula) → OwnAfter F calls before → ApplyAnswer (meaning c.rule) (look c.found) F before r own → OwnAfter F (calls ++ (c ∷ [])) own
  own_more (Ok x) own o a = OwnAfter.last calls c [] refl a (λ y m. absurd m)
  own_more (Err f) own o a = declined_more own o (f, a.0) a.1

pub own_next : (F : List Formula) (calls : List Application) (i : ℕ) (c : Application) (before : List Formula) (r : Result (Unit {0}) SourceFault) (own : List Formula) → i < length calls → c ≡ get_or calls i c
    → OwnAfter F (take i calls) before → ApplyAnswer (meaning c.rule) (look c.found) F before r own → OwnAfter F (take (i + 1) calls) own
own_next F calls i c before r own l e o a =
    subst (λ cs. OwnAfter F cs own) (sym (take_more c calls i l ∙ ap (λ z. take i calls ++ (z ∷ [])) (sym e))) (own_more F (take i calls) c before r own o a)

pub own_none : (F own : List Formula) → own ≡ [] → OwnAfter F [] own
own_none F own e = OwnAfter.none (λ c m. absurd m) e

-- nothing is cut
pub own_laid : (F : List Formula) (calls : List Application) (own : List Formula) → length F ≤ 4096 → OwnAfter F calls own → laid_over F own ≡ F ++ own
own_laid F calls own few (OwnAfter.none each e) = ap (laid_over F) e ∙ laid_nothing F few ∙ sym (append-nil F) ∙ ap (λ z. F ++ z) (sym e)
own_laid F calls own few (OwnAfter.last first l rest e a each) = a.all ∙ ap (λ z. F ++ z) (sym a.added)
