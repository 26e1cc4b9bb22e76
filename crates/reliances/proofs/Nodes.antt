-- From node to node of either search as the code goes: the first of the atoms that remain is left old, or is new.
-- Assumes nothing.
use Rattle.std.proofs.Common.{◌≡◌, ℕ, zero, suc, ◌+◌, ◌<◌, ◌≤◌, Bool, true, false, ◌≢◌, List, [], ◌∷◌, ◌++◌, map, length, get_or, take, drop, sym, refl, ◌∙◌, subst, inl, inr, ⊎_elim, arith, Some, ap, ◌-◌}
use Rattle.std.proofs.Math.Seq.{take-length}
use Rattle.std.proofs.lemmas.List.{length-drop, map-append, length-map, length-append, take_more, get_or_past}
use Rattle.std.proofs.lemmas.Bool.{cases_eq, cases_lt, false≢true}
use Rattle.rules.specs.declared.Term.TheVariants.{Null}
use Rattle.rules.specs.declared.Atom.{Atom}
use Rattle.rules.specs.declared.rule.Rule.{Rule}
use Rattle.rules.specs.Logic.{In, Each, Formula, formula_of}
use Rattle.rules.specs.Bounds.{body_of, head_of, MakesRule, flags}
use Rattle.rules.specs.Matches.{Assignment}
use Rattle.rules.proofs.Membership.{in_left, in_right, in_either}
use Rattle.rules.proofs.Bounded.{makes_rule_decided}
use Rattle.matches.specs.Lists.{look, formulas, under_atom}
use Rattle.matches.proofs.Basics.{in_map, from_map}
use Rattle.reliances.specs.Unification.{Subst, start, unify_formulas}
use Rattle.reliances.specs.Following.{Reached, Left, Small, Node}
use Rattle.reliances.proofs.Unify.{Slotted}
use Rattle.reliances.proofs.Slots.{each_more}
use Rattle.reliances.proofs.Reaching as reaching

-- what a rule keeps
pub makes : (r : Rule) → MakesRule r.parts
makes r = (makes_rule_decided r.parts).0 r.kept

pub small_body : (r : Rule) → Each Small (body_of r.parts)
small_body r x i = ((makes r).body x i).few

pub small_head : (r : Rule) → Each Small (head_of r.parts)
small_head r x i = ((makes r).head x i).few

-- atoms stay small where their arities are kept
pub kept_small : (f : Atom → Atom) → ((a : Atom) → (f a).arity ≡ a.arity) → (xs : List Atom) → Each Small xs → Each Small (map f xs)
kept_small f same xs g x i = let r = from_map f x xs i in subst Small (sym r.2) (subst (λ n. n ≤ 4) (sym (same r.0)) (g r.0 r.1))

pub under_small : (h : Assignment) (xs : List Atom) → Each Small xs → Each Small (map (under_atom h) xs)
under_small h = kept_small (under_atom h) (λ a. refl)

pub left_start : (bs : List Formula) → Left bs [] bs
left_start bs = record { few = omega arith; all = λ e b i. inl i }

pub left_old : (bs old : List Formula) (b : Formula) (rest : List Formula) → Left bs old (b ∷ rest) → Left bs (old ++ (b ∷ [])) rest
left_old bs old b rest l = record {
  few = (let z = longer in let f = l.few in omega arith);
  all = λ e x i. ⊎_elim
      (λ j. ⊎_elim (λ q. inr (in_right x old (b ∷ []) (inl q))) (λ k. inl k) j)
      (λ j. inr (in_left x old (b ∷ []) j))
      (l.all (let z = longer in omega arith) x i);
}
  where
    longer : length (old ++ (b ∷ [])) ≡ length old + 1
    longer = length-append old (b ∷ [])

pub left_new : (bs old : List Formula) (b : Formula) (rest : List Formula) → Left bs old (b ∷ rest) → Left bs old rest
left_new bs old b rest l = record { few = (let f = l.few in omega arith); all = λ e. absurd (let f = l.few in omega arith) }

-- an element of a list, and the others
taken_is : {X : Type 0} (xs : List X) (i : ℕ) (d : X) → i < length xs → take i xs ++ (get_or xs i d ∷ drop (i + 1) xs) ≡ xs
taken_is [] i d l = absurd (omega arith)
taken_is (x ∷ xs) zero d l = refl
taken_is (x ∷ xs) (suc i) d l =
    ap (λ n. x ∷ (take i xs ++ (get_or xs i d ∷ drop n (x ∷ xs)))) (let e : suc i + 1 ≡ suc (i + 1) = omega arith in e)
    ∙ ap (λ z. x ∷ z) (taken_is xs i d (omega arith))

pub drop_whole : {X : Type 0} (xs : List X) (n : ℕ) → take (length xs - n) (drop n xs) ≡ drop n xs
drop_whole xs n = ap (λ k. take k (drop n xs)) (sym (length-drop n xs)) ∙ take-length (drop n xs)

pub taken_length : {X : Type 0} (xs : List X) (i : ℕ) (d : X) → i < length xs → suc (length (take i xs ++ drop (i + 1) xs)) ≡ length xs
taken_length xs i d l =
    let p = length-append (take i xs) (drop (i + 1) xs) in
    let q = length-append (take i xs) (get_or xs i d ∷ drop (i + 1) xs) in
    let r = ap length (taken_is xs i d l) in
    omega arith

taken_of : {X : Type 0} (x : X) (xs : List X) (i : ℕ) (d : X) → i < length xs → In x (get_or xs i d ∷ (take i xs ++ drop (i + 1) xs)) → In x xs
taken_of x xs i d l j =
    subst (In x) (taken_is xs i d l)
    (⊎_elim (λ e. in_right x (take i xs) (get_or xs i d ∷ drop (i + 1) xs) (inl e))
    (λ k. ⊎_elim (in_left x (take i xs) (get_or xs i d ∷ drop (i + 1) xs)) (λ m. in_right x (take i xs) (get_or xs i d ∷ drop (i + 1) xs) (inr m)) (in_either x (take i xs) (drop (i + 1) xs) k))
    j)

in_taken : {X : Type 0} (x : X) (xs : List X) (i : ℕ) (d : X) → i < length xs → In x xs → In x (get_or xs i d ∷ (take i xs ++ drop (i + 1) xs))
in_taken x xs i d l j =
    ⊎_elim (λ k. inr (in_left x (take i xs) (drop (i + 1) xs) k))
    (λ k. ⊎_elim (λ e. inl e) (λ m. inr (in_right x (take i xs) (drop (i + 1) xs) m)) k)
    (in_either x (take i xs) (get_or xs i d ∷ drop (i + 1) xs) (subst (In x) (sym (taken_is xs i d l)) j))

-- what stands for an element past the end
abbrev pub no_atom : Atom
no_atom = record { predicate = 0; arity = 0; terms = [] }

pub get_d_in : {X : Type 0} (xs : List X) (i : ℕ) (d : X) → i < length xs → In (get_or xs i d) xs
get_d_in [] i d l = absurd (omega arith)
get_d_in (x ∷ xs) zero d l = inl refl
get_d_in (x ∷ xs) (suc i) d l = inr (get_d_in xs i d (omega arith))

-- one more number of which something holds
pub below_more : (P : ℕ → Type 0) (n : ℕ) → ((v : ℕ) → v < n → P v) → P n → (v : ℕ) → v < n + 1 → P v
below_more P n f p v l = ⊎_elim (λ (e : v ≡ n). subst P (sym e) p) (λ (ne : v ≢ n). f v (omega arith)) (cases_eq v n)

-- a flag that is set stands in the list
pub flag_below : (fs : List Bool) (k : ℕ) → flags fs k ≡ true → k < length fs
flag_below fs k e = ⊎_elim (λ l. l) (λ l. absurd (false≢true (sym (get_or_past fs k false l) ∙ e))) (cases_lt k (length fs))

-- one more of which something holds
pub each_taken : {X : Type 0} (P : X → Type 0) (xs : List X) (i : ℕ) (d : X) → i < length xs → Each P (take i xs) → P (get_or xs i d) → Each P (take (i + 1) xs)
each_taken P xs i d l f p = subst (Each P) (sym (take_more xs i d l)) (each_more P (take i xs) (get_or xs i d) f p)

module _ (heads all : List Formula) (slots_heads : Each (λ a. Each Slotted a.terms) heads) (slots-all : Each (λ a. Each Slotted a.terms) all) (rigid : List Bool) where
  abbrev NodeHere : Subst → List Atom → List Atom → Type 0
  NodeHere = Node heads all rigid

  pub node_start : ((i : ℕ) → flags rigid i ≡ true → look start i ≡ Null i) → (rest : List Atom) → formulas rest ≡ all → Each Small rest → NodeHere start [] rest
  node_start keeps rest e small = record {
    reached = subst (λ z. Reached heads all (flags rigid) start [] z) (sym e) (reaching.reach_start heads all slots_heads slots-all (flags rigid) keeps);
    left = subst (λ z. Left all [] z) (sym e) (left_start all);
    small_old = λ x i. absurd i;
    small_rest = small;
  }

  -- the same atoms remain, in another order
  pub node_same : (σ : Subst) (old rest more : List Atom) → length more ≡ length rest → Each (λ x. In x rest) more → Each (λ x. In x more) rest
      → NodeHere σ old rest → NodeHere σ old more
  node_same σ old rest more long to from n = record {
    reached = record {
      long = n.reached.long;
      ground = n.reached.ground;
      keeps = n.reached.keeps;
      old_from = n.reached.old_from;
      rest_from = λ x i. n.reached.rest_from x (meant more rest to x i);
      covers = λ b i. ⊎_elim (λ j. inl (meant rest more from b j)) (λ j. inr j) (n.reached.covers b i);
    };
    left = record {
      few = (let few = n.left.few in let p = length-map more formula_of in let q = length-map rest formula_of in omega arith);
      all = λ e b i. ⊎_elim (λ j. inl (meant rest more from b j)) (λ j. inr j)
          (n.left.all (let p = length-map more formula_of in let q = length-map rest formula_of in omega arith) b i);
    };
    small_old = n.small_old;
    small_rest = λ x i. n.small_rest x (to x i);
  }
    where
      meant : (xs ys : List Atom) → Each (λ x. In x ys) xs → (b : Formula) → In b (formulas xs) → In b (formulas ys)
      meant xs ys f b i = let r = from_map formula_of b xs i in subst (λ z. In z (formulas ys)) (sym r.2) (in_map formula_of r.0 ys (f r.0 r.1))

  -- one of the atoms that remain is the first
  pub node_taken : (σ : Subst) (old rest : List Atom) (i : ℕ) → i < length rest → NodeHere σ old rest → NodeHere σ old (get_or rest i no_atom ∷ (take i rest ++ drop (i + 1) rest))
  node_taken σ old rest i l n =
      node_same σ old rest (get_or rest i no_atom ∷ (take i rest ++ drop (i + 1) rest)) (taken_length rest i no_atom l)
      (λ x j. taken_of x rest i no_atom l j) (λ x j. in_taken x rest i no_atom l j) n

  -- all that remains is left old
  pub node_all : (σ : Subst) (old rest : List Atom) → NodeHere σ old rest → NodeHere σ (old ++ rest) []
  node_all σ old rest n = record {
    reached = record {
      long = n.reached.long;
      ground = n.reached.ground;
      keeps = n.reached.keeps;
      old_from = λ x i. ⊎_elim (n.reached.old_from x) (n.reached.rest_from x) (in_either x (formulas old) (formulas rest) (subst (In x) both i));
      rest_from = λ x i. absurd i;
      covers = λ b i. inr (⊎_elim (λ j. inl (subst (In b) (sym both) (in_right b (formulas old) (formulas rest) j)))
          (λ j. ⊎_elim (λ k. inl (subst (In b) (sym both) (in_left b (formulas old) (formulas rest) k))) (λ k. inr k) j) (n.reached.covers b i));
    };
    left = record {
      few = (let few = n.left.few in let l = longer in omega arith);
      all = λ e b i. inr (subst (In b) (sym both) (⊎_elim (in_right b (formulas old) (formulas rest)) (in_left b (formulas old) (formulas rest))
          (n.left.all (let l = longer in omega arith) b i)));
    };
    small_old = λ x i. ⊎_elim (n.small_old x) (n.small_rest x) (in_either x old rest i);
    small_rest = λ x i. absurd i;
  }
    where
      both : formulas (old ++ rest) ≡ formulas old ++ formulas rest
      both = map-append formula_of old rest

      longer : length (formulas (old ++ rest)) ≡ length (formulas old) + length (formulas rest)
      longer = ap length both ∙ length-append (formulas old) (formulas rest)

  pub node_old : (σ : Subst) (old : List Atom) (b : Atom) (rest : List Atom) → NodeHere σ old (b ∷ rest) → NodeHere σ (old ++ (b ∷ [])) rest
  node_old σ old b rest n = record {
    reached = subst (λ z. Reached heads all (flags rigid) σ z (formulas rest)) (sym (map-append formula_of old (b ∷ [])))
        (reaching.reach_old heads all slots_heads slots-all (flags rigid) σ (formulas old) (formula_of b) (formulas rest) n.reached);
    left = subst (λ z. Left all z (formulas rest)) (sym (map-append formula_of old (b ∷ []))) (left_old all (formulas old) (formula_of b) (formulas rest) n.left);
    small_old = each_more Small old b n.small_old (n.small_rest b (inl refl));
    small_rest = λ x i. n.small_rest x (inr i);
  }

  pub node_new : (σ τ : Subst) (old : List Atom) (b : Atom) (rest : List Atom) (a : Formula) → In a heads → unify_formulas (flags rigid) 0 12 a (formula_of b) σ ≡ Some τ
      → NodeHere σ old (b ∷ rest) → NodeHere τ old rest
  node_new σ τ old b rest a i e n = record {
    reached = reaching.reach_new heads all slots_heads slots-all (flags rigid) σ τ (formulas old) (formula_of b) (formulas rest) a i e n.reached;
    left = left_new all (formulas old) (formula_of b) (formulas rest) n.left;
    small_old = n.small_old;
    small_rest = λ x i. n.small_rest x (inr i);
  }
