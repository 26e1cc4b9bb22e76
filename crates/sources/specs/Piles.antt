-- What calls of `apply`, one after another, leave an addition with.
use Rattle.std.specs.Prelude.{◌≡◌, List, [], ◌∷◌, ◌++◌}
use Rattle.rules.specs.Logic.{Each, Formula}
use Rattle.rules.specs.Rules.{meaning}
use Rattle.matches.specs.Lists.{look}
use Rattle.faults.specs.declared.source.SourceFault.{SourceFault}
use Rattle.sources.specs.declared.piles.Application.{Application}
use Rattle.sources.specs.Applying.{Applied, Declined}

-- the call is declined over F
abbrev pub IsDeclined : List Formula → Application → Type 0
IsDeclined F c = (f : SourceFault) × Declined (meaning c.rule) (look c.found) F f

-- own are the facts that the last call that is not declined over F adds, and none where all are: the calls before it and
-- the facts they added do not matter
pub data OwnAfter (F : List Formula) (calls : List Application) (own : List Formula) : Type 0 where
  none : Each (IsDeclined F) calls → own ≡ [] → OwnAfter F calls own
  last : (before : List Application) (c : Application) (after : List Application) → calls ≡ before ++ (c ∷ after) → Applied (meaning c.rule) (look c.found) F own → Each (IsDeclined F) after → OwnAfter F calls own
