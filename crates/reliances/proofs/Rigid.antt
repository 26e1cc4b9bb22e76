-- The slots that keep their nulls, and the nulls of such slots in formulas.
-- Assumes nothing.
use Rattle.std.proofs.Common.{◌≡◌, ℕ, zero, suc, ◌-◌, ◌<◌, ◌≤◌, Bool, true, false, List, [], ◌∷◌, ◌++◌, ◌+◌, take, drop, length, Decides, ⊎_elim, sym, refl, ap, ◌∙◌, subst, arith}
use Rattle.std.proofs.lemmas.Bool.{lt-ltb, le-ltb, cases_lt, false≢true}
use Rattle.std.proofs.lemmas.List.{get_or_past, get_or-drop, length-append, length-drop, length-take}
use Rattle.std.proofs.Math.ListN.{get_or-append}
use Rattle.std.proofs.Math.Seq.{get_or-append_right}
use Rattle.std.proofs.lemmas.Bool.Decides.{Decides-like, same_from_decides}
use Rattle.rules.specs.declared.Term.{Term}
use Rattle.rules.specs.declared.Term.TheVariants.{Constant, Variable, Null}
use Rattle.rules.specs.declared.rule.Rule.{Rule}
use Rattle.rules.specs.Logic.{In, Formula}
use Rattle.rules.specs.Bounds.{some, existential?, flags, FlagsAre}
use Rattle.rules.specs.Rules.{meaning}
use Rattle.rules.proofs.Membership.{decides_false}
use Rattle.matches.proofs.Basics.{in_terms, from_terms, decides_some}
use Rattle.matches.proofs.Bounded.{bounded}
use Rattle.reliances.specs.declared.sheet.Kind.{Kind}
use Rattle.reliances.specs.declared.sheet.Kind.TheVariants.{Positive, Restraint}
use Rattle.reliances.specs.Unification.{rigid?, is_rigid?, any_rigid?, HasRigid}
use Rattle.reliances.specs.Searching.{rigid_for}
use Rattle.reliances.proofs.Laying.{take_first}
use Rattle.reliances.proofs.Slots.{decides_rigid}
use Rattle.reliances.proofs.Unify.{elim_true, elim_false}

abbrev pub has_rigid? : (ℕ → Bool) → List Formula → Bool
has_rigid? rigid F = some (λ a. any_rigid? rigid a.terms) F

-- the term is the null of a rigid slot
abbrev IsRigid : (ℕ → Bool) → Term → Type 0
IsRigid rigid t = (r : ℕ) × (t ≡ Null r) × (rigid r ≡ true)

decides_rigid_term : (rigid : ℕ → Bool) (t : Term) → Decides (is_rigid? rigid t) (IsRigid rigid t)
decides_rigid_term rigid (Constant c) = decides_false (λ s. let z : ◌≡◌ {A = ℕ} 0 1 = cc s.1 in omega arith)
decides_rigid_term rigid (Variable c) = decides_false (λ s. let z : ◌≡◌ {A = ℕ} 0 1 = cc s.1 in omega arith)
decides_rigid_term rigid (Null n) = (λ e. (n, refl, e), λ s. let q : n ≡ s.0 = cc s.1 in ap rigid q ∙ s.2)

pub decides_has_rigid : (rigid : ℕ → Bool) (F : List Formula) → Decides (has_rigid? rigid F) (HasRigid rigid F)
decides_has_rigid rigid F =
    Decides-like (has_rigid? rigid F)
    (λ s. (s.2.2.0, s.2.2.2, in_terms (Null s.2.2.0) s.0 F s.1 (subst (λ t. In t s.0.terms) s.2.2.1 s.2.1)))
    (λ s. let z = from_terms (Null s.0) F s.2 in (z.0, z.1, (Null s.0, z.2, (s.0, refl, s.1))))
    (decides_some (λ a. any_rigid? rigid a.terms) (λ a. (t : Term) × In t a.terms × IsRigid rigid t)
    (λ a. decides_some (is_rigid? rigid) (IsRigid rigid) (decides_rigid_term rigid) a.terms) F)

-- a variable over 11 is not existential in a rule
far_not : (R : Rule) (r : ℕ) → 12 ≤ r → rigid? (meaning R) r ≡ false
far_not R r l =
    same_from_decides (rigid? (meaning R) r) false (decides_rigid (meaning R) r)
    (decides_false (λ x. let s : r < 12 = (bounded R).head (Variable r) x.0 in omega arith))

module _ (A B : Rule) (r : ℕ) where
  -- a slot of the first rule's variables
  keeps_low : (kind : Kind) → r < 12 → rigid? (meaning A) r ≡ rigid_for kind (meaning A) (meaning B) r
  keeps_low Positive l = refl
  keeps_low Restraint l = sym (elim_true _ (rigid? (meaning A) r) (rigid? (meaning B) (r - 12)) (lt-ltb r 12 l))

  -- a slot of the second rule's variables, or past them
  keeps_high : 12 ≤ r → rigid? (meaning B) (r - 12) ≡ rigid_for Restraint (meaning A) (meaning B) r
  keeps_high l = sym (elim_false _ (rigid? (meaning A) r) (rigid? (meaning B) (r - 12)) (le-ltb r 12 l))

-- where no flag is set
none_set : (fs : List Bool) → some (λ b. b) fs ≡ false → (v : ℕ) → flags fs v ≡ false
none_set [] e v = get_or_past [] v false (omega arith)
none_set (true ∷ fs) e v = absurd (false≢true (sym e))
none_set (false ∷ fs) e zero = refl
none_set (false ∷ fs) e (suc v) = none_set fs e v

-- the flags of the slots, put together from those of the rules' existential variables
module _ (A B : Rule) (xs rest : List Bool) (first : FlagsAre xs (existential? (meaning A))) (long : length xs ≡ 12) (none : some (λ b. b) rest ≡ false) where
  pub flags_positive : FlagsAre (xs ++ rest) (rigid_for Positive (meaning A) (meaning B))
  flags_positive v =
      ⊎_elim
      (λ l. get_or-append xs rest false v (omega (arith, l, long)) ∙ first v ∙ keeps_low A B v Positive l)
      (λ l. get_or-append_right xs rest v false (omega (arith, l, long)) ∙ none_set rest none (v - length xs) ∙ sym (far_not A v l))
      (cases_lt v 12)

  module _ (ys : List Bool) (second : FlagsAre ys (existential? (meaning B))) (wide : length ys ≡ length (take 12 (drop 12 (xs ++ rest)))) (last : length rest ≡ 24) where
    abbrev All : List Bool
    All = xs ++ rest

    abbrev Last : List Bool
    Last = drop 12 (drop 12 All)

    twelve : length ys ≡ 12
    twelve =
        let all = length-append xs rest in
        wide ∙ length-take 12 (drop 12 All) ∙ (let d = length-drop 12 All in omega (arith, d, all, long, last))

    none_last : (v : ℕ) → flags Last v ≡ false
    none_last v =
        get_or-drop 12 (drop 12 All) v false ∙ get_or-drop 12 All (12 + v) false
        ∙ get_or-append_right xs rest (12 + (12 + v)) false (omega (arith, long)) ∙ none_set rest none (12 + (12 + v) - length xs)

    at_slot : (v : ℕ) → flags (xs ++ (ys ++ Last)) v ≡ rigid_for Restraint (meaning A) (meaning B) v
    at_slot v =
        ⊎_elim
        (λ l. get_or-append xs (ys ++ Last) false v (omega (arith, l, long)) ∙ first v ∙ keeps_low A B v Restraint l)
        (λ l.
        let far : v - length xs ≡ v - 12 = ap (λ n. v - n) long in
        get_or-append_right xs (ys ++ Last) v false (omega (arith, l, long)) ∙ ap (flags (ys ++ Last)) far
        ∙ ⊎_elim
        (λ m. get_or-append ys Last false (v - 12) (omega (arith, m, twelve)) ∙ second (v - 12))
        (λ m. get_or-append_right ys Last (v - 12) false (omega (arith, m, twelve)) ∙ none_last (v - 12 - length ys) ∙ sym (far_not B (v - 12) m))
        (cases_lt (v - 12) 12)
        ∙ keeps_high A B v l)
        (cases_lt v 12)

    pub flags_restraint : FlagsAre (take 12 All ++ (ys ++ Last)) (rigid_for Restraint (meaning A) (meaning B))
    flags_restraint v =
        let same : take 12 All ≡ xs = ap (λ n. take n All) (sym long) ∙ take_first xs rest in
        ap (λ z. flags (z ++ (ys ++ Last)) v) same ∙ at_slot v
