-- From node to node of a search: what every node has, its children have too.
-- Assumes nothing.
use Rattle.std.proofs.Common.{◌≡◌, ℕ, Bool, true, List, [], ◌∷◌, ◌++◌, sym, refl, ◌∙◌, subst, inl, inr, ⊎_elim, Some}
use Rattle.rules.specs.declared.Term.TheVariants.{Null}
use Rattle.rules.specs.Logic.{In, Each, Formula}
use Rattle.rules.specs.Matches.{under}
use Rattle.rules.proofs.Membership.{in_left, in_right}
use Rattle.matches.specs.Lists.{look}
use Rattle.reliances.specs.Unification.{Subst, through, unify_formulas, start}
use Rattle.reliances.specs.Following.{Reached}
use Rattle.reliances.proofs.Unify.{Slotted, Joins, unify_formulas_joins, still_alike}
use Rattle.reliances.proofs.Slots.{start_ground, each_more}

module _ (heads all : List Formula) (slots_heads : Each (λ a. Each Slotted a.terms) heads) (slots-all : Each (λ a. Each Slotted a.terms) all) (rigid : ℕ → Bool) where
  pub reach_start : ((i : ℕ) → rigid i ≡ true → look start i ≡ Null i) → Reached heads all rigid start [] all
  reach_start keeps = record {
    long = refl;
    ground = start_ground;
    keeps = keeps;
    old_from = λ o i. absurd i;
    rest_from = λ o i. i;
    covers = λ b i. inl i;
  }

  pub reach_old : (σ : Subst) (old : List Formula) (b : Formula) (rest : List Formula) → Reached heads all rigid σ old (b ∷ rest) → Reached heads all rigid σ (old ++ (b ∷ [])) rest
  reach_old σ old b rest r = record {
    long = r.long;
    ground = r.ground;
    keeps = r.keeps;
    old_from = each_more (λ o. In o all) old b r.old_from (r.rest_from b (inl refl));
    rest_from = λ o i. r.rest_from o (inr i);
    covers = λ x i. ⊎_elim
        (λ j. ⊎_elim (λ e. inr (inl (in_right x old (b ∷ []) (inl e)))) (λ k. inl k) j)
        (λ j. ⊎_elim (λ k. inr (inl (in_left x old (b ∷ []) k))) (λ k. inr (inr k)) j)
        (r.covers x i);
  }

  -- b is unified with one of the heads
  abbrev Joint : Subst → Formula → Type 0
  Joint σ b = (a : Formula) × In a heads × (under (through σ 0) a ≡ under (through σ 12) b)

  still_joint : (σ τ : Subst) → Joins rigid σ τ → (b : Formula) → In b all → Joint σ b → Joint τ b
  still_joint σ τ j b i z = (z.0, z.1, still_alike σ τ j.refines 0 12 z.0 b (slots_heads z.0 z.1) (slots-all b i) z.2)

  pub reach_new : (σ τ : Subst) (old : List Formula) (b : Formula) (rest : List Formula) (a : Formula) → In a heads
      → unify_formulas rigid 0 12 a b σ ≡ Some τ → Reached heads all rigid σ old (b ∷ rest) → Reached heads all rigid τ old rest
  reach_new σ τ old b rest a ia e r = record {
    long = joins.0.long ∙ r.long;
    ground = joins.0.ground r.ground;
    keeps = joins.0.keeps r.keeps;
    old_from = r.old_from;
    rest_from = λ o i. r.rest_from o (inr i);
    covers = λ x i. ⊎_elim
        (λ j. ⊎_elim (λ q. inr (inr (subst (Joint τ) (sym q) (a, ia, joins.1)))) (λ k. inl k) j)
        (λ j. ⊎_elim (λ k. inr (inl k)) (λ z. inr (inr (still_joint σ τ joins.0 x i z))) j)
        (r.covers x i);
  }
    where
      joins : Joins rigid σ τ × (under (through τ 0) a ≡ under (through τ 12) b)
      joins = unify_formulas_joins rigid 0 12 a b σ τ (slots_heads a ia) (slots-all b (r.rest_from b (inl refl))) r.ground e

  pub reach_joined : (σ τ : Subst) (old rest : List Formula) → Joins rigid σ τ → Reached heads all rigid σ old rest → Reached heads all rigid τ old rest
  reach_joined σ τ old rest joins z = record {
    long = joins.long ∙ z.long;
    ground = joins.ground z.ground;
    keeps = joins.keeps z.keeps;
    old_from = z.old_from;
    rest_from = z.rest_from;
    covers = λ b i. ⊎_elim (λ j. inl j) (λ j. ⊎_elim (λ k. inr (inl k)) (λ k. inr (inr (still_joint σ τ joins b i k))) j) (z.covers b i);
  }
