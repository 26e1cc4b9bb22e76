-- The tests of a rule's parts decide what they are named for.
-- Assumes nothing.
use Rattle.std.proofs.Common.{◌≡◌, ℕ, ◌≤◌, Bool, true, false, ◌&&◌, leb, List, [], ◌∷◌, map, Decides, sym, refl, ap, ◌∙◌, inl, inr, ⊎_elim, arith}
use Rattle.std.specs.List.{count_by, range_with_len}
use Rattle.std.proofs.lemmas.Bool.Decides.{Decides-and, Decides-at, Decides-like}
use Rattle.std.proofs.lemmas.Bool.{leb-true, le-leb}
use Rattle.rules.specs.declared.Term.{Term}
use Rattle.rules.specs.declared.Term.TheVariants.{Constant, Variable, Null}
use Rattle.rules.specs.declared.Atom.{Atom}
use Rattle.rules.specs.declared.parts.RuleParts.{RuleParts}
use Rattle.rules.specs.Logic.{In, Each, formula_of, implication_of, terms_of}
use Rattle.rules.specs.Bounds.{every, Plain, plain?, RuleAtom, rule_atom?, MakesRule, makes_rule?, body_of, head_of, universal?, existential?, existentials, flags, FlagsAre}
use Rattle.rules.specs.Flags.{rule_atoms?}
use Rattle.rules.proofs.Membership.{decides_false, false_from, decides_every, in_either, stands_decided, existential_decided}

pub decides_leb : (a b : ℕ) → Decides (leb a b) (a ≤ b)
decides_leb a b = (leb-true a b, le-leb a b)

pub plain_decided : (t : Term) → Decides (plain? t) (Plain t)
plain_decided (Constant n) = (λ e. tt, λ e. refl)
plain_decided (Variable n) = decides_leb n 11
plain_decided (Null n) = decides_false (λ e. e)

pub rule_atom_decided : (a : Atom) → Decides (rule_atom? a) (RuleAtom a)
rule_atom_decided a =
    Decides-like (rule_atom? a) (λ e. record { some = e.0; few = e.1.0; plain = e.1.1 }) (λ r. (r.some, (r.few, r.plain)))
    (Decides-and (leb 1 a.arity) _ (decides_leb 1 a.arity)
    (Decides-and (leb a.arity 4) _ (decides_leb a.arity 4) (decides_every plain? Plain plain_decided (formula_of a).terms)))

pub record RuleAtoms (p : RuleParts) : Type 0 where
  pub some_body : 1 ≤ p.bodies
  pub few_body : p.bodies ≤ 6
  pub some_head : 1 ≤ p.heads
  pub few_head : p.heads ≤ 4
  pub body : Each RuleAtom (body_of p)
  pub head : Each RuleAtom (head_of p)

pub rule_atoms_decided : (p : RuleParts) → Decides (rule_atoms? p) (RuleAtoms p)
rule_atoms_decided p =
    Decides-like (rule_atoms? p)
    (λ e. record { some_body = e.0; few_body = e.1.0; some_head = e.1.1.0; few_head = e.1.1.1.0; body = e.1.1.1.1.0; head = e.1.1.1.1.1 })
    (λ r. (r.some_body, (r.few_body, (r.some_head, (r.few_head, (r.body, r.head))))))
    (Decides-and (leb 1 p.bodies) _ (decides_leb 1 p.bodies)
    (Decides-and (leb p.bodies 6) _ (decides_leb p.bodies 6)
    (Decides-and (leb 1 p.heads) _ (decides_leb 1 p.heads)
    (Decides-and (leb p.heads 4) _ (decides_leb p.heads 4)
    (Decides-and (every rule_atom? (body_of p)) _ (decides_every rule_atom? RuleAtom rule_atom_decided (body_of p))
    (decides_every rule_atom? RuleAtom rule_atom_decided (head_of p)))))))

both_of_six : (a b c d e f g : Bool) → a && (b && (c && (d && (e && (f && g))))) ≡ (a && (b && (c && (d && (e && f))))) && g
both_of_six false b c d e f g = refl
both_of_six true false c d e f g = refl
both_of_six true true false d e f g = refl
both_of_six true true true false e f g = refl
both_of_six true true true true false f g = refl
both_of_six true true true true true f g = refl

-- parts make a rule where their atoms are a rule's and few variables are existential
pub makes_rule_is : (p : RuleParts) → makes_rule? p ≡ rule_atoms? p && leb (existentials (implication_of p)) 4
makes_rule_is p =
    both_of_six (leb 1 p.bodies) (leb p.bodies 6) (leb 1 p.heads) (leb p.heads 4) (every rule_atom? (body_of p)) (every rule_atom? (head_of p))
    (leb (existentials (implication_of p)) 4)

pub makes_rule_decided : (p : RuleParts) → Decides (makes_rule? p) (MakesRule p)
makes_rule_decided p =
    Decides-at (makes_rule? p) (rule_atoms? p && leb (existentials (implication_of p)) 4) (makes_rule_is p)
    (Decides-like (rule_atoms? p && leb (existentials (implication_of p)) 4)
    (λ e. record {
      some_body = e.0.some_body;
      few_body = e.0.few_body;
      some_head = e.0.some_head;
      few_head = e.0.few_head;
      body = e.0.body;
      head = e.0.head;
      few_new = e.1;
    })
    (λ r. (record { some_body = r.some_body; few_body = r.few_body; some_head = r.some_head; few_head = r.few_head; body = r.body; head = r.head }, r.few_new))
    (Decides-and (rule_atoms? p) _ (rule_atoms_decided p) (decides_leb (existentials (implication_of p)) 4)))

pub rule_atoms_of : (p : RuleParts) → MakesRule p → rule_atoms? p ≡ true
rule_atoms_of p r =
    (rule_atoms_decided p).1
    (record { some_body = r.some_body; few_body = r.few_body; some_head = r.some_head; few_head = r.few_head; body = r.body; head = r.head })

-- a rule has no variable past 11
none_past : (v : ℕ) → 12 ≤ v → (xs : List Atom) → Each RuleAtom xs → In (Variable v) (terms_of (map formula_of xs)) → ⊥
none_past v l [] each i = i
none_past v l (x ∷ xs) each i =
    ⊎_elim
    (λ j. let few : v ≤ 11 = (each x (inl refl)).plain (Variable v) j in absurd (omega arith))
    (none_past v l xs (λ y k. each y (inr k)))
    (in_either (Variable v) (formula_of x).terms (terms_of (map formula_of xs)) i)

module _ (p : RuleParts) (atoms : rule_atoms? p ≡ true) (v : ℕ) (past : 12 ≤ v) where
  pub universal_past : universal? (implication_of p) v ≡ false
  universal_past = false_from (universal? (implication_of p) v) (stands_decided v (implication_of p).body) (none_past v past (body_of p) ((rule_atoms_decided p).0 atoms).body)

  pub existential_past : existential? (implication_of p) v ≡ false
  existential_past = false_from (existential? (implication_of p) v) (existential_decided (implication_of p) v) (λ x. none_past v past (head_of p) ((rule_atoms_decided p).0 atoms).head x.0)

-- how many flags of existential variables are set tells whether the parts make a rule
pub rule_by_flags : (p : RuleParts) (e : List Bool) (n : ℕ) → rule_atoms? p ≡ true → FlagsAre e (existential? (implication_of p)) → n ≡ count_by (flags e) (range_with_len 0 12)
    → makes_rule? p ≡ leb n 4
rule_by_flags p e n atoms are is =
    makes_rule_is p ∙ ap (λ (b : Bool). b && leb (existentials (implication_of p)) 4) atoms
    ∙ ap (λ (k : ℕ). leb k 4) (sym (is ∙ ap (λ (f : ℕ → Bool). count_by f (range_with_len 0 12)) (λ i v. are v i)))
