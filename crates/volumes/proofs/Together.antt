-- The items of a rule's reader, taken together, are the rule's atoms.
use Rattle.std.proofs.Common.{◌≡◌, ℕ, ◌+◌, ◌<◌, Bool, true, false, List, [], ◌∷◌, ◌++◌, length, take, drop, Some, None, Option, Ok, Err, sym, refl, ap, ◌∙◌, subst, arith}
use Rattle.rules.specs.Logic.{Formula, Implication, formula_of}
use Rattle.volumes.specs.declared.kind.VolumeKind.TheVariants.{Rules}
use Rattle.faults.specs.declared.AtomFault.{AtomFault}
use Rattle.volumes.specs.declared.items.RuleAtoms.{RuleAtoms}
use Rattle.volumes.specs.declared.items.Placed.{Placed}
use Rattle.volumes.specs.declared.items.Item.{Item}
use Rattle.volumes.specs.declared.items.Item.TheVariants.{Body, Head}
use Rattle.volumes.specs.Sequence.{Stand}
use Rattle.volumes.specs.Layout.{AtomSays, span}
use Rattle.volumes.specs.Items.{Handed, Hands}
use Rattle.volumes.specs.Handing.{Seen, seen_as, seen, laid_out, spans, Chain, Left, HandsOut}
use Rattle.volumes.proofs.Atoms.{atom_only}

-- atoms one after another in the bytes bs from p to e
abbrev Atoms : List ℕ → ℕ → ℕ → ℕ → List Formula → Type 0
Atoms bs e i p xs = Stand (λ _ q r. AtomSays Rules bs e q r) (λ _ q a. q + span a) i p xs e

-- their indexes do not matter
shifted : (bs : List ℕ) (e i j p : ℕ) (xs : List Formula) → (q : ℕ) → Stand (λ _ q r. AtomSays Rules bs e q r) (λ _ q a. q + span a) i p xs q → Stand (λ _ q r. AtomSays Rules bs e q r) (λ _ q a. q + span a) j p xs q
shifted bs e i j p [] q h = h
shifted bs e i j p (x ∷ xs) q h = (h.0, shifted bs e (i + 1) (j + 1) (p + span x) xs q h.1)

-- at most one atom stands at a place, and none where one is wrong
one_atom : (bs : List ℕ) (e p : ℕ) (a b : Formula) → AtomSays Rules bs e p (Ok a) → AtomSays Rules bs e p (Ok b) → a ≡ b
one_atom bs e p a b h k =
    let x = atom_only Rules bs e p (Ok a) h in let y = atom_only Rules bs e p (Ok b) k in cc

right_or_wrong : (bs : List ℕ) (e p : ℕ) (a : Formula) (f : AtomFault) → AtomSays Rules bs e p (Ok a) → AtomSays Rules bs e p (Err f) → ⊥
right_or_wrong bs e p a f h k =
    let x = atom_only Rules bs e p (Ok a) h in let y = atom_only Rules bs e p (Err f) k in
    let z : ◌≡◌ {A = ℕ} 0 1 = cc in omega arith

-- the rest of the rule as it lies in the bytes
abbrev laid : RuleAtoms → List Formula → List Formula → List Seen
laid s b h = laid_out s.cursor.bytes.now false s.cursor.place b ++ laid_out s.cursor.bytes.now true (spans s.cursor.place b) h

abbrev rest : List Formula → List Formula → Implication
rest b h = record { body = b; head = h }

-- the reader has passed an atom, and the atoms xs are left
module _ (s u : RuleAtoms) (x : Placed) (handed : Handed s x u) (f : Formula) (xs : List Formula) (left : Atoms s.cursor.bytes.now s.cursor.end 0 s.cursor.place (f ∷ xs)) where
  same : f ≡ formula_of x.atom
  same = one_atom s.cursor.bytes.now s.cursor.end s.cursor.place f (formula_of x.atom) left.0 handed.stands

  place_is : u.cursor.place ≡ s.cursor.place + span f
  place_is = handed.past ∙ ap (λ a. s.cursor.place + span a) (sym same)

  left_again : Atoms u.cursor.bytes.now u.cursor.end 0 u.cursor.place xs
  left_again =
      subst (λ (p : ℕ). Atoms u.cursor.bytes.now u.cursor.end 0 p xs) (sym place_is)
      (subst (λ (e : ℕ). Atoms u.cursor.bytes.now e 0 (s.cursor.place + span f) xs) (sym handed.rule.end)
      (subst (λ (bs : List ℕ). Atoms bs s.cursor.end 0 (s.cursor.place + span f) xs) (sym handed.rule.bytes)
      (shifted s.cursor.bytes.now s.cursor.end 1 0 (s.cursor.place + span f) xs s.cursor.end left.1)))

  seen_is : (b : Bool) → seen_as b x ≡ record { in_head = b; formula = f; bytes = take (span f) (drop s.cursor.place s.cursor.bytes.now); place = s.cursor.place }
  seen_is b =
      let bytes : x.bytes.now ≡ take (span f) (drop s.cursor.place s.cursor.bytes.now) = handed.bytes ∙ ap (λ a. take (span a) (drop s.cursor.place s.cursor.bytes.now)) (sym same) in
      λ i. record { in_head = b; formula = sym same i; bytes = bytes i; place = handed.place i }

  laid_again : (b : Bool) (ys : List Formula) → laid_out u.cursor.bytes.now b u.cursor.place ys ≡ laid_out s.cursor.bytes.now b (s.cursor.place + span f) ys
  laid_again b ys = λ i. laid_out (handed.rule.bytes i) b (place_is i) ys

-- what is left after one item, and what was before
pub record Step (s u : RuleAtoms) (r : Implication) (x : Option Item) : Type 0 where
  pub after : Implication
  pub left : Left u after
  pub before : (xs : List (Option Item)) → seen xs ≡ laid u after.body after.head → seen (x ∷ xs) ≡ laid s r.body r.head

body_step : (s u : RuleAtoms) (b h : List Formula) (x : Placed) → Left s (rest b h) → Hands s (Ok (Some (Body x))) u → Step s u (rest b h) (Some (Body x))
body_step s u [] h x l k = let a = l.bodies in let c = k.1 in absurd (omega arith)
body_step s u (f ∷ b) h x l k =
    let a = l.bodies in let c = k.1 in let m = l.heads in let n = k.2 in
    record {
      after = rest b h;
      left = record { bodies = omega arith; heads = n ∙ m; atoms = (refl, left_again s u x k.0 f (b ++ h) l.atoms.1) };
      before = λ xs e.
          (λ i. seen_is s u x k.0 f (b ++ h) l.atoms.1 false i ∷ e i)
          ∙ (λ i. record { in_head = false; formula = f; bytes = take (span f) (drop s.cursor.place s.cursor.bytes.now); place = s.cursor.place }
          ∷ (laid_again s u x k.0 f (b ++ h) l.atoms.1 false b i
          ++ laid_out (k.0.rule.bytes i) true (spans (place_is s u x k.0 f (b ++ h) l.atoms.1 i) b) h));
    }

head_step : (s u : RuleAtoms) (b h : List Formula) (x : Placed) → Left s (rest b h) → Hands s (Ok (Some (Head x))) u → Step s u (rest b h) (Some (Head x))
head_step s u (f ∷ b) h x l k = let a = l.bodies in let c = k.1 in absurd (omega arith)
head_step s u [] [] x l k = let a = l.heads in let c = k.3 in absurd (omega arith)
head_step s u [] (f ∷ h) x l k =
    let a = l.heads in let c = k.3 in
    record {
      after = rest [] h;
      left = record { bodies = k.2; heads = omega arith; atoms = (refl, left_again s u x k.0 f h l.atoms.1) };
      before = λ xs e.
          (λ i. seen_is s u x k.0 f h l.atoms.1 true i ∷ e i)
          ∙ (λ i. record { in_head = true; formula = f; bytes = take (span f) (drop s.cursor.place s.cursor.bytes.now); place = s.cursor.place }
          ∷ laid_again s u x k.0 f h l.atoms.1 true h i);
    }

end_step : (s u : RuleAtoms) (b h : List Formula) → Left s (rest b h) → Hands s (Ok None) u → Step s u (rest b h) None
end_step s u b h l k =
    let m = k.0 in
    record {
      after = rest b h;
      left = record {
        bodies = m.bodies ∙ l.bodies;
        heads = m.heads ∙ l.heads;
        atoms = (
          refl,
          subst (λ (p : ℕ). Atoms u.cursor.bytes.now u.cursor.end 0 p (b ++ h)) (sym m.place)
              (subst (λ (e : ℕ). Atoms u.cursor.bytes.now e 0 s.cursor.place (b ++ h)) (sym m.rule.end)
              (subst (λ (bs : List ℕ). Atoms bs s.cursor.end 0 s.cursor.place (b ++ h)) (sym m.rule.bytes) l.atoms.1)),
        );
      };
      before = λ xs e. e ∙ (λ i. laid_out (m.rule.bytes i) false (m.place i) b ++ laid_out (m.rule.bytes i) true (spans (m.place i) b) h);
    }

step : (s u : RuleAtoms) (r : Implication) (x : Option Item) → Left s r → Hands s (Ok x) u → Step s u r x
step s u r (Some (Body x)) l k = body_step s u r.body r.head x l k
step s u r (Some (Head x)) l k = head_step s u r.body r.head x l k
step s u r None l k = end_step s u r.body r.head l k

none_laid : (s : RuleAtoms) (b h : List Formula) → 0 ≡ length b → 0 ≡ length h → [] ≡ laid s b h
none_laid s [] [] p q = refl
none_laid s [] (y ∷ h) p q = absurd (omega arith)
none_laid s (y ∷ b) h p q = absurd (omega arith)

all_handed : (s : RuleAtoms) (r : Implication) → Left s r → (xs : List (Option Item)) (t : RuleAtoms) → Chain s xs t → t.bodies ≡ 0 → t.heads ≡ 0 → seen xs ≡ laid s r.body r.head
all_handed s r l [] t c nb nh =
    none_laid s r.body r.head (sym nb ∙ ap (λ (a : RuleAtoms). a.bodies) (sym c) ∙ l.bodies) (sym nh ∙ ap (λ (a : RuleAtoms). a.heads) (sym c) ∙ l.heads)
all_handed s r l (x ∷ xs) t c nb nh =
    let k = step s c.0 r x l c.1 in
    k.before xs (all_handed c.0 k.after k.left xs t c.2 nb nh)

some_left : (s : RuleAtoms) (b h : List Formula) (f : AtomFault) → Left s (rest b h) → 0 < s.bodies + s.heads → AtomSays Rules s.cursor.bytes.now s.cursor.end s.cursor.place (Err f) → ⊥
some_left s [] [] f l n w = let a = l.bodies in let c = l.heads in omega arith
some_left s [] (g ∷ h) f l n w = right_or_wrong s.cursor.bytes.now s.cursor.end s.cursor.place g f l.atoms.1.0 w
some_left s (g ∷ b) h f l n w = right_or_wrong s.cursor.bytes.now s.cursor.end s.cursor.place g f l.atoms.1.0 w

none_wrong : (s : RuleAtoms) (r : Implication) → Left s r → (xs : List (Option Item)) (t u : RuleAtoms) (f : AtomFault) → Chain s xs t → Hands t (Err f) u → ⊥
none_wrong s r l [] t u f c w =
    let v : Hands s (Err f) u = subst (λ (a : RuleAtoms). Hands a (Err f) u) (sym c) w in
    some_left s r.body r.head f l v.1 v.2
none_wrong s r l (x ∷ xs) t u f c w =
    let k = step s c.0 r x l c.1 in
    none_wrong c.0 k.after k.left xs t u f c.2 w

pub hands_out : (s : RuleAtoms) (r : Implication) → Left s r → HandsOut s r
hands_out s r l = record { all = all_handed s r l; no_fault = none_wrong s r l }
