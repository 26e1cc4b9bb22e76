-- What a search answers, in plain fields.
use Rattle.std.proofs.Common.{◌≡◌, ℕ, Bool, cond, List, sym, subst}
use Rattle.rules.specs.declared.Term.{Term}
use Rattle.rules.specs.Logic.{Formula, Implication}
use Rattle.sources.specs.Finding.{Found}
use Rattle.sources_c.specs.declared.plain.Lent.{Lent}
use Rattle.sources_c.specs.Plain.{given_of}
use Rattle.sources_c.specs.Calls.{Searched}

pub searched : (r : Implication) (F : List Formula) (before : Lent) (b : Bool) (n : ℕ) (after : Lent) {values_before values : List Term} → values_before ≡ given_of before.found → n ≡ cond b 1 0 → given_of after.found ≡ values → Found r F before.stack values_before b after.stack values → Searched r F before n after
searched r F before b n after {values_before} {values} e is f found =
    (b, is, subst (λ vs. Found r F before.stack (given_of before.found) b after.stack vs) (sym f) (subst (λ vs. Found r F before.stack vs b after.stack values) e found))
