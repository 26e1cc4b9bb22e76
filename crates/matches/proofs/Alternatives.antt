-- What spares a term, and the tests of an alternative.
-- Assumes nothing.
use Rattle.std.proofs.Common.{◌≡◌, ℕ, ◌<◌, Bool, true, false, not, ◌⊎◌, List, [], ◌∷◌, map, Some, None, Decides, sym, refl, ap, ◌∙◌, subst, inl, inr, ⊎_elim}
use Rattle.std.proofs.lemmas.Bool.Decides.{Decides-and, Decides-not, Decides-like}
use Rattle.std.proofs.lemmas.Bool.{false≢true, both_ways}
use Rattle.rules.specs.declared.Term.{Term}
use Rattle.rules.specs.Logic.{In, Each, Formula, Implication, Universal, Existential}
use Rattle.rules.specs.Matches.{Assignment, under, Stands, Satisfied}
use Rattle.rules.specs.Reliances.{Alternative}
use Rattle.rules.proofs.Membership.{false_from}
use Rattle.matches.specs.Lists.{Spares, HasAlternative}
use Rattle.matches.specs.Matching.{same, stands, stands_in, Slots, bound, filled, solve, sparing, matches?, spared?, alternative?, agrees?, chosen?}
use Rattle.matches.proofs.Basics.{in_map, from_map, in_terms, from_terms, decides_stands, decides_same, decides_stands_in}
use Rattle.matches.proofs.Bounded.{Bounded}
use Rattle.matches.proofs.Literal.{Reordered, extends, extends_none, decides_mapped, decides_matches, decides_universals, decides_some_existential}

sparing_in : (t : Term) (x a : Formula) (rest : List Formula) (b : Bool) → ((x ≡ a) × (b ≡ false)) ⊎ In x (sparing t rest) → In x (elim b [ true ↦ sparing t rest | false ↦ a ∷ sparing t rest ])
sparing_in t x a rest true (inl p) = absurd (false≢true (sym p.1))
sparing_in t x a rest true (inr i) = i
sparing_in t x a rest false (inl p) = inl p.0
sparing_in t x a rest false (inr i) = inr i

sparing_from : (t : Term) (x a : Formula) (rest : List Formula) (b : Bool) → In x (elim b [ true ↦ sparing t rest | false ↦ a ∷ sparing t rest ]) → ((x ≡ a) × (b ≡ false)) ⊎ In x (sparing t rest)
sparing_from t x a rest true i = inr i
sparing_from t x a rest false (inl e) = inl (e, refl)
sparing_from t x a rest false (inr i) = inr i

stands_false : (t : Term) (ts : List Term) → (In t ts → ⊥) → stands t ts ≡ false
stands_false t ts n = false_from (stands t ts) (decides_stands t ts) n

pub in_sparing : (t : Term) (x : Formula) (S : List Formula) → In x S → (In t x.terms → ⊥) → In x (sparing t S)
in_sparing t x [] i n = i
in_sparing t x (a ∷ rest) (inl e) n = sparing_in t x a rest (stands t a.terms) (inl (e, ap (λ (y : Formula). stands t y.terms) (sym e) ∙ stands_false t x.terms n))
in_sparing t x (a ∷ rest) (inr i) n = sparing_in t x a rest (stands t a.terms) (inr (in_sparing t x rest i n))

pub from_sparing : (t : Term) (x : Formula) (S : List Formula) → In x (sparing t S) → In x S × (In t x.terms → ⊥)
from_sparing t x [] i = absurd i
from_sparing t x (a ∷ rest) i =
    ⊎_elim
    (λ p. (inl p.0, λ j. both_ways (stands t a.terms) p.1 ((decides_stands t a.terms).1 (subst (λ (y : Formula). In t y.terms) p.0 j))))
    (λ j. let r = from_sparing t x rest j in (inr r.0, r.1))
    (sparing_from t x a rest (stands t a.terms) i)

module _ (R : Implication) (h : Assignment) (S : List Formula) (v : ℕ) (k : Assignment) where
  -- what puts the head into the facts without the null of v is an alternative that spares it, and the other way round
  pub spares_from : Existential R v → ((u : ℕ) → Universal R u → k u ≡ h u) → Each (λ a. In (under k a) (sparing (h v) S)) R.head → Spares R h S v k
  spares_from given agrees present =
      record {
        agrees = agrees;
        present = λ a i. (from_sparing (h v) (under k a) S (present a i)).0;
        given = given;
        absent = λ i.
            let r = from_terms (h v) (map (under k) R.head) i in
            let m = from_map (under k) r.0 R.head r.1 in
            (from_sparing (h v) (under k m.0) S (present m.0 m.1)).1 (subst (λ (y : Formula). In (h v) y.terms) m.2 r.2);
      }

  pub spares_to : Spares R h S v k → Each (λ a. In (under k a) (sparing (h v) S)) R.head
  spares_to s a i =
      in_sparing (h v) (under k a) S (s.present a i)
      (λ j. s.absent (in_terms (h v) (under k a) (map (under k) R.head) (in_map (under k) a R.head i) j))

  pub is_alternative : Spares R h S v k → Alternative R h S k
  is_alternative s = record { agrees = s.agrees; present = s.present; spared = v; given = s.given; absent = s.absent }

pub its_spared : (R : Implication) (h : Assignment) (S : List Formula) (k : Assignment) (a : Alternative R h S k) → Spares R h S a.spared k
its_spared R h S k a = record { agrees = a.agrees; present = a.present; given = a.given; absent = a.absent }

module _ (R : Implication) (b : Bounded R) (O : List Formula) (order : Reordered R O) (h : Assignment) (S : List Formula) where
  module _ (v : ℕ) where
    -- what a search in the facts without the null of v comes to
    pub spared_found : (q : Slots) → solve (sparing (h v) S) O (bound R h) ≡ Some q → Existential R v
        → (k : Assignment) → ((u : ℕ) → u < 12 → k u ≡ filled q h u) → Spares R h S v k
    spared_found q e given k same = let z = extends R b h O order (sparing (h v) S) q e k same in spares_from R h S v k given z.0 z.1

    pub spared_none : solve (sparing (h v) S) O (bound R h) ≡ None → (k : Assignment) → Spares R h S v k → ⊥
    spared_none e k s = extends_none R b h O order (sparing (h v) S) e k s.agrees (spares_to R h S v k s)

  pub decides_alternative : Decides (alternative? R h S O) (HasAlternative R h S)
  decides_alternative =
      Decides-like (alternative? R h S O)
      (λ s. let z = s.2 in (z.extension, is_alternative R h S s.0 z.extension (spares_from R h S s.0 z.extension s.1 z.agrees z.present)))
      (λ s.
      let a = s.1 in
      (a.spared, a.given, record { extension = s.0; agrees = a.agrees; present = spares_to R h S a.spared s.0 (its_spared R h S s.0 a) }))
      (decides_some_existential R b h (spared? R h S O) (λ v. Satisfied R h (sparing (h v) S)) (λ v. decides_mapped R b h O order (sparing (h v) S)))

pub decides_chosen : (R : Implication) (b : Bounded R) (h k : Assignment) (S : List Formula) → Decides (chosen? R h k S) (Alternative R h S k)
decides_chosen R b h k S =
    Decides-like (chosen? R h k S)
    (λ e. record { agrees = e.0; present = e.1.0; spared = e.1.1.0; given = e.1.1.1; absent = e.1.1.2 })
    (λ w. (w.agrees, (w.present, (w.spared, w.given, w.absent))))
    (Decides-and (agrees? R h k) _ (decides_universals R b h (λ v. same (h v) (k v)) (λ v. k v ≡ h v) (λ v. Decides-like (same (h v) (k v)) sym sym (decides_same (h v) (k v))))
    (Decides-and (matches? R.head k S) _ (decides_matches R.head k S)
    (decides_some_existential R b h (λ v. not (stands_in (h v) (map (under k) R.head))) (λ v. Stands (h v) (map (under k) R.head) → ⊥)
    (λ v. Decides-not (stands_in (h v) (map (under k) R.head)) (decides_stands_in (h v) (map (under k) R.head))))))
