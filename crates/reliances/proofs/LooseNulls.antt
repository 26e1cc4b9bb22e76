-- Which nulls of an alternative are loose, as they are gathered one by one.
-- Assumes nothing.
use Rattle.std.proofs.Common.{◌≡◌, ℕ, Bool, List, Option, Some, None, [], ◌∷◌, ◌++◌, ◌+◌, take, get_or, length, ◌<◌, ◌≤◌, sym, refl, ap, ◌∙◌, subst, inl, ⊎_elim, arith}
use Rattle.std.proofs.lemmas.List.{append-nil, append_assoc, map-append, take_more}
use Rattle.rules.specs.declared.Term.{Term}
use Rattle.rules.specs.declared.Term.TheVariants.{Constant, Variable, Null}
use Rattle.rules.specs.declared.Atom.{Atom}
use Rattle.rules.specs.Logic.{In, Formula, Implication, formula_of, terms_of}
use Rattle.rules.specs.declared.rule.Rule.{Rule}
use Rattle.rules.specs.Matches.{Assignment}
use Rattle.rules.specs.Rules.{meaning}
use Rattle.rules.proofs.Membership.{in_left, in_right, in_either}
use Rattle.matches.specs.Lists.{formulas, Spares}
use Rattle.reliances.specs.declared.early.Early.{Early}
use Rattle.reliances.specs.RestraintSearch.{Loose, AreLoose, EarlyFound}
use Rattle.matches.proofs.Alternatives.{its_spared}
use Rattle.matches.proofs.Bounded.{bounded}
use Rattle.reliances.proofs.Nodes.{no_atom, below_more}

module _ (rigid : ℕ → Bool) (C : List Formula) where
  abbrev Here : List Term → List ℕ → Type 0
  Here = AreLoose rigid C

  pub none_yet : Here [] []
  none_yet = record { sound = λ r i. absurd i; complete = λ r l i. i }

  -- one more term, which is no null that is loose and not there yet
  pub passed : (t : Term) (ts : List Term) (rs : List ℕ) → ((r : ℕ) → t ≡ Null r → Loose rigid C r → In r rs) → Here ts rs → Here (ts ++ (t ∷ [])) rs
  passed t ts rs there a = record {
    sound = λ r i. let s = a.sound r i in (s.0, in_left (Null r) ts (t ∷ []) s.1);
    complete = λ r l i.
        ⊎_elim (a.complete r l) (λ j. ⊎_elim (λ e. there r (sym e) l) (λ k. absurd k) j) (in_either (Null r) ts (t ∷ []) i);
  }

  -- one more that is
  pub gathered : (n : ℕ) (ts : List Term) (rs : List ℕ) → Loose rigid C n → Here ts rs → Here (ts ++ (Null n ∷ [])) (rs ++ (n ∷ []))
  gathered n ts rs loose a = record {
    sound = λ r i.
        ⊎_elim
        (λ j. let s = a.sound r j in (s.0, in_left (Null r) ts (Null n ∷ []) s.1))
        (λ j. ⊎_elim
        (λ e. (subst (Loose rigid C) (sym e) loose, in_right (Null r) ts (Null n ∷ []) (inl (ap Null e))))
        (λ k. absurd k) j)
        (in_either r rs (n ∷ []) i);
    complete = λ r l i.
        ⊎_elim (λ j. in_left r rs (n ∷ []) (a.complete r l j))
        (λ j. ⊎_elim (λ e. in_right r rs (n ∷ []) (inl (let q : r ≡ n = cc e in q))) (λ k. absurd k) j)
        (in_either (Null r) ts (Null n ∷ []) i);
  }

  -- one term more of a list that is gone through
  pub one_more : (xs : List Term) (i : ℕ) → i < length xs → (ts : List Term) (before after : List ℕ) → Here (ts ++ take i xs) before
      → ((qs : List Term) → Here qs before → Here (qs ++ (get_or xs i (Constant 0) ∷ [])) after) → Here (ts ++ take (i + 1) xs) after
  one_more xs i l ts before after a step =
      subst (λ z. Here z after)
      (append_assoc ts (take i xs) (get_or xs i (Constant 0) ∷ []) ∙ ap (λ z. ts ++ z) (sym (take_more xs i (Constant 0) l)))
      (step (ts ++ take i xs) a)

terms_append : (F : List Formula) (a : Formula) → terms_of (F ++ (a ∷ [])) ≡ terms_of F ++ a.terms
terms_append [] a = append-nil a.terms
terms_append (b ∷ bs) a = ap (λ z. b.terms ++ z) (terms_append bs a) ∙ sym (append_assoc b.terms (terms_of bs) a.terms)

-- the terms of one atom more
pub terms_more : (xs : List Atom) (i : ℕ) → i < length xs → terms_of (formulas (take (i + 1) xs)) ≡ terms_of (formulas (take i xs)) ++ (formula_of (get_or xs i no_atom)).terms
terms_more xs i l =
    ap (λ z. terms_of (formulas z)) (take_more xs i no_atom l)
    ∙ ap terms_of (map-append formula_of (take i xs) (get_or xs i no_atom ∷ []))
    ∙ terms_append (formulas (take i xs)) (formula_of (get_or xs i no_atom))

-- what is known once the variables below n were looked at: an alternative that comes too early, or that there is none for them
abbrev pub SoFar : Implication → (ℕ → Bool) → List Formula → Assignment → List Formula → ℕ → Option Early → Type 0
SoFar B rigid C h S n (Some e) = EarlyFound B rigid C h S (Some e)
SoFar B rigid C h S n None = (v : ℕ) → v < n → (k : Assignment) → Spares B h S v k → ⊥

module _ (B : Rule) (rigid : ℕ → Bool) (C : List Formula) (h : Assignment) (S : List Formula) where
  abbrev After : ℕ → Option Early → Type 0
  After = SoFar (meaning B) rigid C h S

  -- one variable more, of which there is none
  pub after_none : (n : ℕ) (o : Option Early) → ((k : Assignment) → Spares (meaning B) h S n k → ⊥) → After n o → After (n + 1) o
  after_none n None none a = below_more (λ v. (k : Assignment) → Spares (meaning B) h S v k → ⊥) n a none
  after_none n (Some e) none a = a

  -- or of which it is no better
  pub after_same : (n : ℕ) (o : Option Early) → (o ≡ None → ⊥) → After n o → After (n + 1) o
  after_same n None some a = absurd (some refl)
  after_same n (Some e) some a = a

  -- all twelve were looked at
  pub after_all : (n : ℕ) → 12 ≤ n → (o : Option Early) → After n o → EarlyFound (meaning B) rigid C h S o
  after_all n l None a = λ k z.
      let small : z.spared < 12 = (bounded B).head (Variable z.spared) z.given.0 in
      a z.spared (omega (arith, small, l)) k (its_spared (meaning B) h S k z)
  after_all n l (Some e) a = a
