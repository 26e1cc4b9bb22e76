use Rattle.std.proofs.lemmas.Bool.Decides.{Decides-like, Decides-not}
use Rattle.reliances.proofs.verification.is_unsatisfied.Goals as goal

pub returns-then-is_match : goal.returns-then-is_match
returns-then-is_match c =
    Decides-like _ (λ n. record { matches = c.is_match.ensures.0 c.if-is_match.true; missing = n }) (λ u. u.missing)
    (Decides-not c.is_satisfied.result c.is_satisfied.ensures)
