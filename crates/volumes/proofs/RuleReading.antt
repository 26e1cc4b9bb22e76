-- What comes of a rule's atoms when the reader stops.
use Rattle.std.proofs.Common.{◌≡◌, ℕ, ◌+◌, ◌<◌, ◌≤◌, List, map, length, Some, None, Option, Ok, Err, MatchResult, sym, refl, ap, ◌∙◌, subst, ⊎_elim, arith, length-append}
use lib.ListN.{length-map}
use Rattle.std.proofs.lemmas.Bool.{cases_lt}
use Rattle.std.specs.Option.{ok_or}
use Rattle.rules.specs.declared.parts.RuleParts.{RuleParts}
use Rattle.rules.specs.declared.rule.Rule.{Rule}
use Rattle.rules.specs.Logic.{formula_of, implication_of}
use Rattle.rules.specs.Bounds.{body_of, head_of, existentials, MakesRule}
use Rattle.rules.specs.Rules.{MadeOf, meaning}
use Rattle.volumes.specs.declared.kind.VolumeKind.TheVariants.{Rules}
use Rattle.faults.specs.declared.AtomFault.{AtomFault}
use Rattle.faults.specs.declared.EntryFault.TheVariants.{Left, Existentials}
use Rattle.volumes.specs.declared.cursor.Cursor.{Cursor}
use Rattle.volumes.specs.declared.items.RuleAtoms.{RuleAtoms}
use Rattle.faults.specs.Faults.{entry_fault}
use Rattle.volumes.specs.Sequence.{Stand}
use Rattle.volumes.specs.Layout.{span, AtomSays, RuleAtomsSay, RuleFilled, RuleWrong}
use Rattle.volumes.specs.Reading.{read_rule}
use Rattle.volumes.specs.Parts.{formulas, Passed, Begun}
use Rattle.volumes.proofs.RuleBodies.{rule_only}

-- the reader went from a to t over the rule that begins at c, and the parts p hold what it passed
module _ (c : Cursor) (a t : RuleAtoms) (p : RuleParts) (begun : Begun c a) (passed : Passed a p t) where
  abbrev bs : List ℕ
  bs = c.bytes.now

  abbrev e : ℕ
  e = c.end

  abbrev s : ℕ
  s = c.place

  formulas_count : length (formulas p) ≡ p.bodies + p.heads
  formulas_count =
      length-append (map formula_of (body_of p)) (map formula_of (head_of p))
      ∙ (λ i. (length-map (body_of p) formula_of ∙ passed.body_count) i + (length-map (head_of p) formula_of ∙ passed.head_count) i)

  stand : Stand (λ _ q r. AtomSays Rules bs e q r) (λ _ q r. q + span r) 0 (s + 2) (formulas p) t.cursor.place
  stand =
      let m = begun.moved in
      subst (λ (d : ℕ). Stand (λ _ q r. AtomSays Rules bs d q r) (λ _ q r. q + span r) 0 (s + 2) (formulas p) t.cursor.place) m.end
      (subst (λ (w : List ℕ). Stand (λ _ q r. AtomSays Rules w a.cursor.end q r) (λ _ q r. q + span r) 0 (s + 2) (formulas p) t.cursor.place) m.bytes
      (subst (λ (f : ℕ). Stand (λ _ q r. AtomSays Rules a.cursor.bytes.now a.cursor.end q r) (λ _ q r. q + span r) 0 f (formulas p) t.cursor.place) m.place passed.atoms))

  pub atom_stops : (f : AtomFault) → 0 < t.bodies + t.heads → AtomSays Rules a.cursor.bytes.now a.cursor.end t.cursor.place (Err f) → read_rule bs e s ≡ Err (entry_fault f)
  atom_stops f some wrong =
      let k = formulas_count in let pb = passed.bodies in let ph = passed.heads in let cb = begun.bodies in let ch = begun.heads in
      let w : AtomSays Rules bs e t.cursor.place (Err f) =
      subst (λ (d : ℕ). AtomSays Rules bs d t.cursor.place (Err f)) begun.moved.end (subst (λ (w : List ℕ). AtomSays Rules w a.cursor.end t.cursor.place (Err f)) begun.moved.bytes wrong) in
      let stops : RuleAtomsSay bs e s (Err f) = record { before = formulas p; fewer = omega arith; place = t.cursor.place; stand = stand; wrong = w } in
      rule_only bs e s (Err (entry_fault f)) (RuleWrong.wrong_atom begun.begins f stops refl)

  module _ (no-bodies : t.bodies ≡ 0) (no-heads : t.heads ≡ 0) where
    all : RuleAtomsSay bs e s (Ok (formulas p, t.cursor.place))
    all =
        let k = formulas_count in let pb = passed.bodies in let ph = passed.heads in let cb = begun.bodies in let ch = begun.heads in
        (omega arith, stand)

    pub bytes_left : (t.cursor.place ≡ e → ⊥) → read_rule bs e s ≡ Err (Left t.cursor.place)
    bytes_left ne = rule_only bs e s (Err (Left t.cursor.place)) (RuleWrong.left_over begun.begins (formulas p) t.cursor.place all ne refl)

    module _ (ends : t.cursor.place ≡ e) where
      filled : RuleFilled bs e s (implication_of p)
      filled =
          let pb = passed.bodies in let cb = begun.bodies in
          let m : length (map formula_of (body_of p)) ≡ p.bodies = length-map (body_of p) formula_of ∙ passed.body_count in
          record { begins = begun.begins; bodies = omega arith; atoms = subst (λ (q : ℕ). RuleAtomsSay bs e s (Ok (formulas p, q))) ends all }

      rule_whole : existentials (implication_of p) ≤ 4 → read_rule bs e s ≡ Ok (implication_of p)
      rule_whole few = rule_only bs e s (Ok (implication_of p)) (record { filled = filled; few_new = few })

      rule_over : (MakesRule p → ⊥) → read_rule bs e s ≡ Err (Existentials s)
      rule_over none =
          let b = begun.begins in let pb = passed.bodies in let ph = passed.heads in let cb = begun.bodies in let ch = begun.heads in
          let sb = b.bodies.some in let fb = b.bodies.few in let sh = b.heads.some in let fh = b.heads.few in
          let many : 4 < existentials (implication_of p) =
          ⊎_elim (λ l. l) (λ few. absurd (none (record {
            some_body = omega arith;
            few_body = omega arith;
            some_head = omega arith;
            few_head = omega arith;
            body = passed.body;
            head = passed.head;
            few_new = few;
          }))) (cases_lt 4 (existentials (implication_of p))) in
          rule_only bs e s (Err (Existentials s)) (RuleWrong.many_new (implication_of p) filled many refl)

      pub rule_made : (m : Option Rule) → MadeOf p m → MatchResult (ok_or m (Existentials s)) (λ x. read_rule bs e s ≡ Ok (meaning x)) (λ f. read_rule bs e s ≡ Err f)
      rule_made (Some x) m = rule_whole m.1.few_new ∙ ap (λ q. Ok (implication_of q)) (sym m.0)
      rule_made None m = rule_over m
