-- What the tests of a sheet say together, and that entries which are read hold constants and nulls where the tests pass.
-- Assumes nothing.
use Rattle.std.proofs.Common.{◌≡◌, ℕ, Bool, List, [], ◌++◌, map, take, Decides, sym, ap, ◌∙◌, subst, inl, inr, ⊎_elim}
use Rattle.std.proofs.lemmas.Bool.Decides.{Decides-like}
use Rattle.std.proofs.lemmas.List.{map-append}
use Rattle.rules.specs.declared.Term.{Term}
use Rattle.rules.specs.declared.Term.TheVariants.{Constant, Variable, Null}
use Rattle.rules.specs.declared.Atom.{Atom}
use Rattle.rules.specs.declared.rule.Rule.{Rule}
use Rattle.rules.specs.Logic.{In, Each, Formula, Implication, formula_of, terms_of}
use Rattle.rules.specs.Bounds.{some, has?, head_of}
use Rattle.rules.specs.Matches.{Ground, IsNull, Facts, Stands, Assignment, value, under, Match, Unsatisfied, Applies, result}
use Rattle.rules.specs.Reliances.{ShowsReliance, Alternative, ShowsRestraint}
use Rattle.rules.specs.Rules.{meaning}
use Rattle.rules.proofs.Membership.{in_left, stands_decided}
use Rattle.matches.specs.Lists.{look, formulas, under_atom, FactAtom, Sizes, HasAlternative}
use Rattle.matches.proofs.Literal.{facts_meant}
use Rattle.matches.proofs.Basics.{in_map, from_terms, in_terms, either}
use Rattle.matches.proofs.Bounded.{Within, Bounded, bounded}
use Rattle.reliances.specs.declared.sheet.Sheet.{Sheet}
use Rattle.reliances.specs.Sheets.{Listed, first_list, second_list, later_facts, Filled, Matched, Applied, ShowsPositive, ShowsRestrained}
use Rattle.reliances.proofs.Laying.{all_under}
use Rattle.reliances.proofs.Slots.{facts_under, facts_both}

null_ground : (t : Term) → IsNull t → Ground t
null_ground (Constant c) n = tt
null_ground (Variable v) n = n
null_ground (Null c) n = tt

-- where formulas under h are facts, h gives their variables constants and nulls
read_ground : (h : Assignment) (F xs : List Formula) → Facts F → Each (λ a. In (under h a) F) xs → (v : ℕ) → In (Variable v) (terms_of xs) → Ground (h v)
read_ground h F xs facts held v i =
    let r = from_terms (Variable v) xs i in
    (facts (under h r.0) (held r.0 r.1)).ground (h v) (in_map (value h) (Variable v) r.0.terms r.2)

module _ (R : Implication) (h : Assignment) (F : List Formula) (facts : Facts F) where
  pub matched_filled : Match R h F → Filled (Matched R) h
  matched_filled m v u = read_ground h F R.body facts m v u

  pub applied_filled : Applies R h F → Filled (Applied R) h
  applied_filled p v (inl u) = matched_filled p.unsatisfied.matches v u
  applied_filled p v (inr e) = null_ground (h v) (p.fresh.nulls v e)

  head_ground : Applies R h F → (t : Term) → Within t × Stands t R.head → Ground (value h t)
  head_ground p (Constant c) w = tt
  head_ground p (Variable v) w =
      applied_filled p v (⊎_elim (λ u. inl u) (λ n. inr (w.1, n)) (either (some (has? v) R.body) (stands_decided v R.body)))
  head_ground p (Null n) w = absurd w.0

  -- what an application results in are facts
  pub result_facts : Bounded R → Sizes R → Applies R h F → Facts (result R h F)
  result_facts b sizes p =
      facts_both F (map (under h) R.head) facts
      (facts_under h (λ t. Within t × Stands t R.head) (head_ground p) R.head
      (λ a i t j. let k = in_terms t a R.head i j in (b.head t k, k)) sizes.head)

  -- an alternative for the application is filled too, where it stands in facts
  pub alternative_filled : (K : List Formula) → Facts K → (k : Assignment) → Applies R h F → Alternative R h K k → Filled (Applied R) k
  alternative_filled K more k p a v (inl u) = subst Ground (sym (a.agrees v u)) (applied_filled p v (inl u))
  alternative_filled K more k p a v (inr e) = read_ground k K R.head more a.present v e.0

pub listed_facts : (N n : ℕ) (xs L : List Atom) → L ≡ take n xs → Listed N n xs → Facts (formulas L)
listed_facts N n xs L e l = facts_meant L (subst (Each FactAtom) (sym e) l.facts)

-- facts with others added
pub joined : (xs more ys : List Atom) (H : List Formula) → formulas xs ≡ H → ys ≡ xs ++ more → formulas ys ≡ H ++ formulas more
joined xs more ys H e p = ap formulas p ∙ map-append formula_of xs more ∙ ap (λ z. z ++ formulas more) e

-- facts with a head added, as h says
pub resulted : (R : Rule) (h : Assignment) (xs head ys : List Atom) → head ≡ head_of R.parts → ys ≡ xs ++ map (under_atom h) head
    → formulas ys ≡ result (meaning R) h (formulas xs)
resulted R h xs head ys e p =
    ap formulas p ∙ map-append formula_of xs (map (under_atom h) head)
    ∙ (λ i. formulas xs ++ all_under h head i) ∙ (λ i. formulas xs ++ map (under h) (formulas (e i)))

-- a list that was begun with facts
pub begun : (none facts one : List Atom) → none ≡ [] → one ≡ none ++ facts → one ≡ facts
begun none facts one e p = p ∙ ap (λ z. z ++ facts) e

-- facts to which a head was added, as h says, and then others
pub added_to : (R : Rule) (h : Assignment) (facts one two more ys : List Atom) → one ≡ facts → formulas two ≡ result (meaning R) h (formulas one) → ys ≡ two ++ more
    → formulas ys ≡ result (meaning R) h (formulas facts) ++ formulas more
added_to R h facts one two more ys e r p = joined two more ys _ (r ∙ ap (λ z. result (meaning R) h (formulas z)) e) p

pub reliance_decided : (A B : Implication) (F G : List Formula) (f s : Assignment) → Facts F → G ≡ result A f F → Applies A f F → (Match B s F → ⊥)
    → (r : Bool) → Decides r (Unsatisfied B s G) → Decides r (ShowsReliance A B F f s)
reliance_decided A B F G f s facts e first new r d =
    Decides-like r
    (λ u. record { facts = facts; first = first; second = subst (Unsatisfied B s) e u; new = new })
    (λ w. subst (Unsatisfied B s) (sym e) w.second)
    d

module _ (A B : Rule) (F M : List Formula) (f h k : Assignment) where
  abbrev H : List Formula
  H = result (meaning B) h F ++ M

  -- a test that failed on what was written
  pub not_applied : (G : List Formula) → G ≡ H → (Applies (meaning A) f G → ⊥) → ShowsRestraint (meaning A) (meaning B) F H f h k → ⊥
  not_applied G e n w = n (subst (Applies (meaning A) f) (sym e) w.first)

  pub too_early : (G : List Formula) → G ≡ H → HasAlternative (meaning B) h G → ShowsRestraint (meaning A) (meaning B) F H f h k → ⊥
  too_early G e a w = w.none a.0 (subst (λ z. Alternative (meaning B) h z a.0) e a.1)

  pub restraint_decided : Sizes (meaning B) → Facts F → Facts M → (G K : List Formula) → G ≡ H → K ≡ result (meaning A) f H → Applies (meaning B) h F → Applies (meaning A) f G
      → (HasAlternative (meaning B) h G → ⊥) → (r : Bool) → Decides r (Alternative (meaning B) h K k)
      → Decides r (ShowsRestraint (meaning A) (meaning B) F H f h k)
  restraint_decided sb facts added G K e q second first none r d =
      Decides-like r
      (λ a. record {
        facts = facts;
        second = second;
        later = facts_both (result (meaning B) h F) M (result_facts (meaning B) h F facts (bounded B) sb second) added;
        contains = λ x i. in_left x (result (meaning B) h F) M i;
        first = subst (Applies (meaning A) f) e first;
        alternative = subst (λ z. Alternative (meaning B) h z k) q a;
        none = λ other a. none (other, subst (λ z. Alternative (meaning B) h z other) (sym e) a);
      })
      (λ w. subst (λ z. Alternative (meaning B) h z k) (sym q) w.alternative)
      d

module _ (A B : Rule) (S : Sheet) (L : List Atom) (listed : L ≡ first_list S) where
  abbrev f : Assignment
  f = look S.first_rule

  abbrev s : Assignment
  s = look S.second_rule

  abbrev F : List Formula
  F = formulas (first_list S)

  shows_positive : Sizes (meaning A) → Listed 11 S.first_len S.first → S.second_len ≡ 0 → ShowsReliance (meaning A) (meaning B) F f s → ShowsPositive (meaning A) (meaning B) S
  shows_positive sa l empty w = record {
    few = l.few;
    empty = empty;
    facts = l.facts;
    first = applied_filled (meaning A) f F w.facts w.first;
    second = matched_filled (meaning B) s (result (meaning A) f F) (result_facts (meaning A) f F w.facts (bounded A) sa w.first) w.second.matches;
    shows = w;
  }

  pub positive_decided : Sizes (meaning A) → Listed 11 S.first_len S.first → S.second_len ≡ 0
      → (r : Bool) → Decides r (ShowsReliance (meaning A) (meaning B) (formulas L) f s) → Decides r (ShowsPositive (meaning A) (meaning B) S)
  positive_decided sa l empty r d =
      Decides-like r
      (λ w. shows_positive sa l empty (subst (λ l. ShowsReliance (meaning A) (meaning B) (formulas l) f s) listed w))
      (λ w. subst (λ l. ShowsReliance (meaning A) (meaning B) (formulas l) f s) (sym listed) w.shows)
      d

  module _ (M : List Atom) (added : M ≡ second_list S) where
    abbrev k : Assignment
    k = look S.alternative

    abbrev D : List Formula
    D = later_facts (meaning B) S

    abbrev ShowsAt : List Atom → List Atom → Type 0
    ShowsAt l m = ShowsRestraint (meaning A) (meaning B) (formulas l) (result (meaning B) s (formulas l) ++ formulas m) f s k

    shows_restrained : Sizes (meaning A) → Listed 11 S.first_len S.first → Listed 9 S.second_len S.second → ShowsAt (first_list S) (second_list S)
        → ShowsRestrained (meaning A) (meaning B) S
    shows_restrained sa l m w = record {
      few = l.few;
      fewer = m.few;
      facts = l.facts;
      more = m.facts;
      first = applied_filled (meaning A) f D w.later w.first;
      second = applied_filled (meaning B) s F w.facts w.second;
      other =
          alternative_filled (meaning B) s F w.facts (result (meaning A) f D) (result_facts (meaning A) f D w.later (bounded A) sa w.first) k
          w.second w.alternative;
      shows = w;
    }

    pub restrained_decided : Sizes (meaning A) → Listed 11 S.first_len S.first → Listed 9 S.second_len S.second → (r : Bool) → Decides r (ShowsAt L M)
        → Decides r (ShowsRestrained (meaning A) (meaning B) S)
    restrained_decided sa l m r d =
        Decides-like r
        (λ w. shows_restrained sa l m
        (subst (λ m. ShowsAt (first_list S) m) added (subst (λ l. ShowsAt l M) listed w)))
        (λ w. subst (λ l. ShowsAt l M) (sym listed) (subst (λ m. ShowsAt (first_list S) m) (sym added) w.shows))
        d
