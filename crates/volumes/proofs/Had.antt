-- What is had from a volume that is taken up.
use Rattle.std.proofs.Common.{◌≡◌, ℕ, ◌+◌, ◌<◌, ◌≤◌, List, [], ◌++◌, length, get_or, Some, Ok, Err, Result, IsOk, MatchResult, sym, refl, ap, ◌∙◌, subst, arith, length-append}
use Rattle.rules.specs.declared.Atom.{Atom}
use Rattle.rules.specs.declared.rule.Rule.{Rule}
use Rattle.rules.specs.Logic.{Formula, Implication, formula_of, Numbered}
use Rattle.rules.specs.Rules.{meaning}
use Rattle.volumes.specs.declared.kind.VolumeKind.TheVariants.{Rules, Facts}
use Rattle.faults.specs.declared.Fault.{Fault}
use Rattle.faults.specs.declared.AtomFault.{AtomFault}
use Rattle.faults.specs.declared.EntryFault.{EntryFault}
use Rattle.volumes.specs.declared.cursor.Cursor.{Cursor}
use Rattle.volumes.specs.declared.rule_volume.NumberedRule.{NumberedRule}
use Rattle.volumes.specs.declared.items.RuleAtoms.{RuleAtoms}
use Rattle.volumes.specs.Sequence.{Stand}
use Rattle.volumes.specs.Handing.{Left}
use Rattle.volumes.specs.Layout.{span, AtomSays, RuleSays, RuleStands, contents_end, count, number, rules_end, fact_place}
use Rattle.volumes.specs.Reading.{read_atom, read_rule, read_rules, read_facts}
use Rattle.volumes.specs.Answers.{Nth, taken}
use Rattle.volumes.specs.Parts.{Begun}
use Rattle.volumes.specs.Volumes.{rules_of, facts_of, numbered, RulePart, AtomsHad}
use Rattle.volumes.proofs.RuleBodies.{rule_right}
use Rattle.volumes.proofs.RuleVolumes.{ends_rise, rules_encoded, rules_count, rules_few, rules_contents, rule_at}
use Rattle.volumes.proofs.Together.{hands_out}
use Rattle.volumes.proofs.FactVolumes.{facts_count, facts_few, facts_contents, fact_at, fact_place_lem}

-- something was taken up, so there was no fault
some_taken : {A : Type 0} (r : Result (List A) Fault) (i : ℕ) → i < length (taken r) → (xs : List A) × (r ≡ Ok xs)
some_taken (Ok xs) i l = (xs, refl)
some_taken (Err f) i l = absurd (omega arith)

-- where the rule of index i is, and what is read there
pub record RuleThere (bs : List ℕ) (i : ℕ) (xs : List Numbered) : Type 0 where
  pub all : length xs ≡ count bs
  pub below : i < count bs
  pub few : count bs ≤ 64
  pub head : 3 ≤ length bs
  pub contents : contents_end Rules bs ≤ length bs
  pub order : rules_end bs i ≤ rules_end bs (i + 1)
  pub within : rules_end bs (i + 1) ≤ length bs
  pub inside : i < length xs
  pub rule : (d : Numbered) → read_rule bs (rules_end bs (i + 1)) (rules_end bs i) ≡ Ok (get_or xs i d).rule
  pub number_is : (d : Numbered) → number bs i ≡ (get_or xs i d).number

pub rule_there : (bs : List ℕ) (i : ℕ) → i < length (rules_of bs) → RuleThere bs i (rules_of bs)
rule_there bs i l =
    let t = some_taken (read_rules bs) i l in
    let xs = t.0 in
    let is : read_rules bs ≡ Ok xs = t.1 in
    let same : taken (read_rules bs) ≡ xs = ap taken is in
    let long : length xs ≡ count bs = rules_count bs xs is in
    let m : length (taken (read_rules bs)) ≡ length xs = ap length same in
    let in-xs : i < length xs = omega arith in
    subst (RuleThere bs i) (sym same) (record {
      all = long;
      below = omega arith;
      few = rules_few bs xs is;
      head = (rules_encoded bs xs is).begins.contents.head;
      contents = rules_contents bs xs is;
      order = ends_rise bs i (i + 1) (omega arith);
      within = (rule_at bs xs is i in-xs (record { number = 0; rule = record { body = []; head = [] } })).2;
      inside = in-xs;
      rule = λ d. (rule_at bs xs is i in-xs d).0;
      number_is = λ d. (rule_at bs xs is i in-xs d).1;
    })

blank : Numbered
blank = record { number = 0; rule = record { body = []; head = [] } }

-- of the rule of index i, whose bytes c has
module _ (bs : List ℕ) (i : ℕ) (c : Cursor) (part : RulePart bs i (Some c)) where
  there : RuleThere bs i (rules_of bs)
  there = rule_there bs i part.0

  reads_there : (d : Numbered) → read_rule c.bytes.now c.end c.place ≡ Ok (get_or (rules_of bs) i d).rule
  reads_there d = (λ j. read_rule (part.1 j) (part.3 j) (part.2 j)) ∙ there.rule d

  pub rule_ok : (r : Result Rule EntryFault) → MatchResult r (λ x. read_rule c.bytes.now c.end c.place ≡ Ok (meaning x)) (λ f. read_rule c.bytes.now c.end c.place ≡ Err f) → IsOk r
  rule_ok (Ok x) h = refl
  rule_ok (Err f) h = let a = reads_there blank in cc

  pub rule_had : (x : NumberedRule) → x.number ≡ number bs i → read_rule c.bytes.now c.end c.place ≡ Ok (meaning x.rule) → Nth (rules_of bs) i (numbered x)
  rule_had x n is = (
    there.inside,
    λ d.
        let same : (get_or (rules_of bs) i d).rule ≡ meaning x.rule = let a = reads_there d in cc in
        let numbers : (get_or (rules_of bs) i d).number ≡ x.number = sym (there.number_is d) ∙ sym n in
        λ j. record { number = numbers j; rule = same j },
  )

-- where the fact of index i is, and what is read there
pub record FactThere (bs : List ℕ) (i : ℕ) (xs : List Formula) : Type 0 where
  pub below : i < count bs
  pub few : count bs ≤ 2048
  pub contents : contents_end Facts bs ≤ length bs
  pub place : fact_place bs i ≤ length bs
  pub inside : i < length xs
  pub fact : (d : Formula) → read_atom Facts bs (length bs) (fact_place bs i) ≡ Ok (get_or xs i d)

pub fact_there : (bs : List ℕ) (i : ℕ) → i < length (facts_of bs) → FactThere bs i (facts_of bs)
fact_there bs i l =
    let t = some_taken (read_facts bs) i l in
    let xs = t.0 in
    let is : read_facts bs ≡ Ok xs = t.1 in
    let same : taken (read_facts bs) ≡ xs = ap taken is in
    let long : length xs ≡ count bs = facts_count bs xs is in
    let m : length (taken (read_facts bs)) ≡ length xs = ap length same in
    let in-xs : i < length xs = omega arith in
    subst (FactThere bs i) (sym same) (record {
      below = omega arith;
      few = facts_few bs xs is;
      contents = facts_contents bs xs is;
      place = fact_place_lem bs xs is i in-xs;
      inside = in-xs;
      fact = λ d. fact_at bs xs is i in-xs d;
    })

-- of the fact of index i, which begins at p
module _ (bs : List ℕ) (i p : ℕ) (l : i < length (facts_of bs)) (place : p ≡ fact_place bs i) where
  atom_there : (d : Formula) → read_atom Facts bs (length bs) p ≡ Ok (get_or (facts_of bs) i d)
  atom_there d = ap (read_atom Facts bs (length bs)) place ∙ (fact_there bs i l).fact d

  pub fact_ok : (r : Result Atom AtomFault) → MatchResult r (λ a. read_atom Facts bs (length bs) p ≡ Ok (formula_of a)) (λ f. read_atom Facts bs (length bs) p ≡ Err f) → IsOk r
  fact_ok (Ok a) h = refl
  fact_ok (Err f) h = let a = atom_there (record { predicate = 0; terms = [] }) in cc

  pub fact_had : (a : Atom) → read_atom Facts bs (length bs) p ≡ Ok (formula_of a) → Nth (facts_of bs) i (formula_of a)
  fact_had a is = ((fact_there bs i l).inside, λ d. let b = atom_there d in cc)

-- the reader at the first atom of the rule of index i, whose bytes c has
module _ (bs : List ℕ) (i : ℕ) (c : Cursor) (part : RulePart bs i (Some c)) where
  stands_there : (x : Numbered) → Nth (rules_of bs) i x → RuleStands c.bytes.now c.end c.place x.rule
  stands_there x n =
      subst (λ (r : Result Implication EntryFault). RuleSays c.bytes.now c.end c.place r)
      (reads_there bs i c part x ∙ ap (λ (y : Numbered). Ok y.rule) (n.1 x)) (rule_right c.bytes.now c.end c.place)

  reader_there : (x : Numbered) → Nth (rules_of bs) i x → (a : RuleAtoms) → Begun c a → Left a x.rule
  reader_there x n a begun =
      let f = (stands_there x n).filled in
      let fb = f.bodies in
      let ab = begun.bodies in
      let ah = begun.heads in
      let all = f.atoms.0 in
      let m = begun.moved in
      let long = length-append x.rule.body x.rule.head in
      record {
        bodies = ab ∙ sym fb;
        heads = omega arith;
        atoms = (
          refl,
          subst (λ (p : ℕ). Stand (λ _ q r. AtomSays Rules a.cursor.bytes.now a.cursor.end q r) (λ _ q r. q + span r) 0 p (x.rule.body ++ x.rule.head) a.cursor.end) (sym m.place)
              (subst (λ (e : ℕ). Stand (λ _ q r. AtomSays Rules a.cursor.bytes.now e q r) (λ _ q r. q + span r) 0 (c.place + 2) (x.rule.body ++ x.rule.head) e) (sym m.end)
              (subst (λ (cs : List ℕ). Stand (λ _ q r. AtomSays Rules cs c.end q r) (λ _ q r. q + span r) 0 (c.place + 2) (x.rule.body ++ x.rule.head) c.end) (sym m.bytes) f.atoms.1)),
        );
      }

  pub atoms_ok : (r : Result RuleAtoms EntryFault) → MatchResult r (λ a. Begun c a) (λ f. read_rule c.bytes.now c.end c.place ≡ Err f) → IsOk r
  atoms_ok (Ok x) h = refl
  atoms_ok (Err f) h = let a = reads_there bs i c part blank in cc

  pub atoms_had : (a : RuleAtoms) → Begun c a → AtomsHad bs i a
  atoms_had a begun =
      let l = part.0 in
      let m = begun.moved in
      record {
        bytes = m.bytes ∙ part.1;
        hands = λ x n. (m.place ∙ ap (λ p. p + 2) part.2, hands_out a x.rule (reader_there x n a begun));
        none = λ few. absurd (omega arith);
      }
