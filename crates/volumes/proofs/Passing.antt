-- One turn over a rule's atoms: the parts hold those that the reader has passed.
use Rattle.std.proofs.Common.{◌≡◌, ℕ, ◌+◌, List, [], ◌∷◌, ◌++◌, map, length, take, Ok, Err, Result, sym, ap, ◌∙◌, subst, inl, inr, append_assoc, append-nil, arith}
use Rattle.std.proofs.lemmas.List.{length_push, map-append}
use Rattle.rules.specs.declared.Atom.{Atom}
use Rattle.rules.specs.declared.parts.RuleParts.{RuleParts}
use Rattle.rules.specs.Logic.{Each, Formula, formula_of}
use Rattle.rules.specs.Bounds.{RuleAtom, body_of, head_of}
use Rattle.volumes.specs.declared.kind.VolumeKind.TheVariants.{Rules}
use Rattle.faults.specs.declared.AtomFault.{AtomFault}
use Rattle.volumes.specs.declared.items.RuleAtoms.{RuleAtoms}
use Rattle.volumes.specs.declared.items.Placed.{Placed}
use Rattle.volumes.specs.Sequence.{Stand}
use Rattle.volumes.specs.Layout.{AtomSays, span}
use Rattle.volumes.specs.Items.{SameRule, Unmoved, Handed}
use Rattle.volumes.specs.Parts.{formulas, Passed}
use Rattle.volumes.proofs.Runs.{stand_more}

-- one more atom in the body, and one more in the head
pub record BodyGrows (p : RuleParts) (a : Atom) (q : RuleParts) : Type 0 where
  pub body : body_of q ≡ body_of p ++ a ∷ []
  pub bodies : q.bodies ≡ p.bodies + 1
  pub head : head_of q ≡ head_of p
  pub heads : q.heads ≡ p.heads

pub record HeadGrows (p : RuleParts) (a : Atom) (q : RuleParts) : Type 0 where
  pub body : body_of q ≡ body_of p
  pub bodies : q.bodies ≡ p.bodies
  pub head : head_of q ≡ head_of p ++ a ∷ []
  pub heads : q.heads ≡ p.heads + 1

pub each_push : {A : Type 0} (P : A → Type 0) (xs : List A) (x : A) → Each P xs → P x → Each P (xs ++ x ∷ [])
each_push P [] x h k y (inl e) = subst P (sym e) k
each_push P [] x h k y (inr z) = absurd z
each_push P (w ∷ xs) x h k y (inl e) = h y (inl e)
each_push P (w ∷ xs) x h k y (inr z) = each_push P xs x (λ v i. h v (inr i)) k y z

same_then : (s u t : RuleAtoms) → SameRule s u → SameRule u t → SameRule s t
same_then s u t a b = record { bytes = b.bytes ∙ a.bytes; end = b.end ∙ a.end }

no_head : (p : RuleParts) → p.heads ≡ 0 → head_of p ≡ []
no_head p e = ap (λ n. take n p.head) e

-- what stands in the rule that the reader reads stands in the same rule
moved : (s u : RuleAtoms) (q : ℕ) (r : Result Formula AtomFault) → SameRule s u → AtomSays Rules u.cursor.bytes.now u.cursor.end q r → AtomSays Rules s.cursor.bytes.now s.cursor.end q r
moved s u q r e h =
    subst (λ (n : ℕ). AtomSays Rules s.cursor.bytes.now n q r) e.end (subst (λ (bs : List ℕ). AtomSays Rules bs u.cursor.end q r) e.bytes h)

module _ (s u t : RuleAtoms) (p p2 : RuleParts) (x : Placed) (passed : Passed s p u) (handed : Handed u x t) where
  -- the atoms passed are one more, whichever part it went to
  atoms_more : formulas p2 ≡ formulas p ++ formula_of x.atom ∷ [] → Stand (λ _ q a. AtomSays Rules s.cursor.bytes.now s.cursor.end q a) (λ _ q a. q + span a) 0 s.cursor.place (formulas p2) t.cursor.place
  atoms_more e =
      let Is : ℕ → ℕ → Result Formula AtomFault → Type 0 = λ _ q a. AtomSays Rules s.cursor.bytes.now s.cursor.end q a in
      let next : ℕ → ℕ → Formula → ℕ = λ _ q a. q + span a in
      let m = stand_more Is next 0 s.cursor.place (formulas p) u.cursor.place (formula_of x.atom) passed.atoms (moved s u u.cursor.place (Ok (formula_of x.atom)) passed.rule handed.stands) in
      subst (λ (q : ℕ). Stand Is next 0 s.cursor.place (formulas p2) q) (sym handed.past) (subst (λ (l : List Formula). Stand Is next 0 s.cursor.place l (u.cursor.place + span (formula_of x.atom))) (sym e) m)

  pub passed_body : u.bodies ≡ t.bodies + 1 → t.heads ≡ u.heads → BodyGrows p x.atom p2 → p.heads ≡ 0 → Passed s p2 t
  passed_body fewer same grown none =
      let f = formula_of x.atom in
      let nil : head_of p ≡ [] = no_head p none in
      let body : map formula_of (body_of p2) ≡ map formula_of (body_of p) ++ f ∷ [] = ap (map formula_of) grown.body ∙ map-append formula_of (body_of p) (x.atom ∷ []) in
      let head2 : map formula_of (head_of p2) ≡ [] = ap (map formula_of) (grown.head ∙ nil) in
      let head : map formula_of (head_of p) ≡ [] = ap (map formula_of) nil in
      let e : formulas p2 ≡ formulas p ++ f ∷ [] =
      (λ i. body i ++ head2 i) ∙ append-nil (map formula_of (body_of p) ++ f ∷ [])
      ∙ ap (λ l. l ++ f ∷ []) (sym (append-nil (map formula_of (body_of p))) ∙ ap (λ l. map formula_of (body_of p) ++ l) (sym head)) in
      let h = passed.bodies in
      let k = passed.heads in
      let gb = grown.bodies in
      let gh = grown.heads in
      record {
        atoms = atoms_more e;
        body = subst (Each RuleAtom) (sym grown.body) (each_push RuleAtom (body_of p) x.atom passed.body handed.allowed);
        head = subst (Each RuleAtom) (sym grown.head) passed.head;
        body_count = ap length grown.body ∙ length_push (body_of p) x.atom ∙ ap (λ n. n + 1) passed.body_count ∙ sym grown.bodies;
        head_count = ap length grown.head ∙ passed.head_count ∙ sym grown.heads;
        bodies = omega arith;
        heads = omega arith;
        rule = same_then s u t passed.rule handed.rule;
      }

  pub passed_head : u.bodies ≡ 0 → t.bodies ≡ 0 → u.heads ≡ t.heads + 1 → HeadGrows p x.atom p2 → Passed s p2 t
  passed_head none still fewer grown =
      let f = formula_of x.atom in
      let head : map formula_of (head_of p2) ≡ map formula_of (head_of p) ++ f ∷ [] = ap (map formula_of) grown.head ∙ map-append formula_of (head_of p) (x.atom ∷ []) in
      let body : map formula_of (body_of p2) ≡ map formula_of (body_of p) = ap (map formula_of) grown.body in
      let e : formulas p2 ≡ formulas p ++ f ∷ [] =
      (λ i. body i ++ head i) ∙ sym (append_assoc (map formula_of (body_of p)) (map formula_of (head_of p)) (f ∷ [])) in
      let h = passed.bodies in
      let k = passed.heads in
      let gb = grown.bodies in
      let gh = grown.heads in
      record {
        atoms = atoms_more e;
        body = subst (Each RuleAtom) (sym grown.body) passed.body;
        head = subst (Each RuleAtom) (sym grown.head) (each_push RuleAtom (head_of p) x.atom passed.head handed.allowed);
        body_count = ap length grown.body ∙ passed.body_count ∙ sym grown.bodies;
        head_count = ap length grown.head ∙ length_push (head_of p) x.atom ∙ ap (λ n. n + 1) passed.head_count ∙ sym grown.heads;
        bodies = omega arith;
        heads = omega arith;
        rule = same_then s u t passed.rule handed.rule;
      }

-- a reader that has not moved
pub passed_still : (s u t : RuleAtoms) (p : RuleParts) → Passed s p u → Unmoved u t → Passed s p t
passed_still s u t p h k =
    let b = h.bodies in let d = h.heads in let kb = k.bodies in let kd = k.heads in
    record {
      atoms = subst (λ (q : ℕ). Stand (λ _ q a. AtomSays Rules s.cursor.bytes.now s.cursor.end q a) (λ _ q a. q + span a) 0 s.cursor.place (formulas p) q) (sym k.place) h.atoms;
      body = h.body;
      head = h.head;
      body_count = h.body_count;
      head_count = h.head_count;
      bodies = omega arith;
      heads = omega arith;
      rule = same_then s u t h.rule k.rule;
    }

-- and the atom at its place is wrong
pub wrong_still : (s u t : RuleAtoms) (f : AtomFault) → SameRule s u → Unmoved u t → AtomSays Rules u.cursor.bytes.now u.cursor.end u.cursor.place (Err f) → AtomSays Rules s.cursor.bytes.now s.cursor.end t.cursor.place (Err f)
wrong_still s u t f e k h = subst (λ (q : ℕ). AtomSays Rules s.cursor.bytes.now s.cursor.end q (Err f)) (sym k.place) (moved s u u.cursor.place (Err f) e h)
