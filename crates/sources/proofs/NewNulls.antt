-- New nulls: which number is the first, and what the variables of a head are given.
-- Assumes nothing.
use Rattle.std.proofs.Common.{◌≡◌, ℕ, ◌+◌, ◌-◌, ◌<◌, ◌≤◌, ◌≢◌, Bool, true, false, ◌⊎◌, List, [], ◌∷◌, ◌++◌, length, get_or, take, max, set, Some, inl, inr, refl, sym, subst, ap, ◌∙◌, ⊎_elim, arith}
use Rattle.std.proofs.lemmas.Bool.{cases_lt, false≢true}
use Rattle.std.proofs.lemmas.List.{append-nil, take-append-drop, length-append, get_or-set_same, get_or-set_other, get_or_append_left, get_or-append_right}
use Rattle.std.proofs.Math.ListN.{drop}
use Rattle.rules.specs.declared.Term.{Term}
use Rattle.rules.specs.declared.Term.TheVariants.{Constant, Variable, Null}
use Rattle.rules.specs.Logic.{In, Formula, Implication, terms_of}
use Rattle.rules.specs.Bounds.{flags, universal?}
use Rattle.rules.specs.Same.{number_of}
use Rattle.rules.proofs.Membership.{in_left, in_right, in_either, stands_decided}
use Rattle.matches.specs.Lists.{look}
use Rattle.volumes.specs.Answers.{Nth}
use Rattle.sources.specs.Searching.{KnownWith}
use Rattle.sources.specs.Applying.{FirstNew, new_variables, new_in_order, NullsFit}
use Rattle.sources.specs.Numbering.{LeastAbove, Given, FillingAnswer}
use Rattle.sources.proofs.Listed.{in_nth}
use Rattle.sources.proofs.Knowing.{take_more, terms_both, known_none, known_then}
use Rattle.sources.proofs.NewVariables.{same_variables, same_bool, variables_append, more_variables, not_old, new_stands}

-- the terms of the first formulas, and those of the next
pub terms_next : (F : List Formula) (i : ℕ) (d : Formula) → i < length F → terms_of (take (i + 1) F) ≡ terms_of (take i F) ++ (get_or F i d).terms
terms_next F i d l =
    ap terms_of (take_more d F i l) ∙ terms_both (take i F) (get_or F i d ∷ []) ∙ ap (λ z. terms_of (take i F) ++ z) (append-nil (get_or F i d).terms)

pub terms_whole : (F : List Formula) (n : ℕ) → terms_of F ≡ terms_of (take n F) ++ terms_of (drop n F)
terms_whole F n = ap terms_of (sym (take-append-drop n F)) ∙ terms_both (take n F) (drop n F)

pub least_none : (n : ℕ) → LeastAbove [] n n
least_none n = record { up = omega arith; above = λ m i. absurd i; least = inl refl }

pub least_then : (xs ys : List Term) (a b c : ℕ) → LeastAbove xs a b → LeastAbove ys b c → LeastAbove (xs ++ ys) a c
least_then xs ys a b c p q =
    let u = p.up in
    let w = q.up in
    record {
      up = omega arith;
      above = λ m i.
          ⊎_elim (λ j. let l = p.above m j in let z : m < c = omega arith in z) (λ j. q.above m j) (in_either (Null m) xs ys i);
      least =
          ⊎_elim
          (λ (e : c ≡ b).
          ⊎_elim (λ (d : b ≡ a). inl (e ∙ d)) (λ z. inr (z.0, in_left (Null z.0) xs ys z.1, e ∙ z.2)) p.least)
          (λ z. inr (z.0, in_right (Null z.0) xs ys z.1, z.2))
          q.least;
    }

-- a term that is no null
pub least_other : (t : Term) (n : ℕ) → ((m : ℕ) → Null m ≡ t → ⊥) → LeastAbove (t ∷ []) n n
least_other t n other = record { up = omega arith; above = λ m i. ⊎_elim (λ e. absurd (other m e)) (λ j. absurd j) i; least = inl refl }

null_number : {m k : ℕ} → ◌≡◌ {A = Term} (Null m) (Null k) → m ≡ k
null_number e = ap number_of e

pub least_null : (k n c : ℕ) → n ≤ c → k < c → (c ≡ n) ⊎ (c ≡ k + 1) → LeastAbove (Null k ∷ []) n c
least_null k n c up above least =
    record {
      up = up;
      above = λ m i. ⊎_elim (λ e. let z = null_number e in let l : m < c = omega arith in l) (λ j. absurd j) i;
      least = ⊎_elim (λ e. inl e) (λ e. inr (k, inl refl, e)) least;
    }

-- one more term
pub least_next : (ts : List Term) (i : ℕ) (d : Term) (a b c : ℕ) → i < length ts → LeastAbove (take i ts) a b → LeastAbove (get_or ts i d ∷ []) b c → LeastAbove (take (i + 1) ts) a c
least_next ts i d a b c l p q = subst (λ z. LeastAbove z a c) (sym (take_more d ts i l)) (least_then (take i ts) (get_or ts i d ∷ []) a b c p q)

pub least_max : (t : Term) (k n c : ℕ) → t ≡ Null k → c ≡ max n (k + 1) → LeastAbove (t ∷ []) n c
least_max t k n c e m =
    subst (λ z. LeastAbove (z ∷ []) n c) (sym e)
    (least_null k n c (omega arith) (omega arith)
    (⊎_elim (λ (l : n < k + 1). inr (omega arith)) (λ (l : k + 1 ≤ n). inl (omega arith)) (cases_lt n (k + 1))))

-- one more fact
pub least_fact : (F : List Formula) (i : ℕ) (a : Formula) (ts : List Term) (b c : ℕ) → Nth F i a → ts ≡ a.terms → LeastAbove (terms_of (take i F)) 0 b → LeastAbove ts b c → LeastAbove (terms_of (take (i + 1) F)) 0 c
least_fact F i a ts b c n e p q =
    subst (λ z. LeastAbove z 0 c) (sym (terms_next F i a n.0 ∙ ap (λ (f : Formula). terms_of (take i F) ++ f.terms) (n.1 a)))
    (least_then (terms_of (take i F)) a.terms 0 b c p (subst (λ z. LeastAbove z b c) e q))

pub first_of : (F : List Formula) (n : ℕ) → LeastAbove (terms_of F) 0 n → FirstNew F n
first_of F n l = record { above = l.above; least = l.least }

pub given_none : (n : ℕ) (known : List Bool) (values : List Term) → n ≤ 65536 → Given [] n known values n known values
given_none n known values small =
    record {
      after = omega arith;
      small = small;
      nulls = λ i v m. absurd (let l = m.0 in omega arith);
      others = λ v m. refl;
      knows = known_none known;
    }

module _ (xs ys : List Term) (n : ℕ) (known : List Bool) (before : List Term) (m : ℕ) (mid : List Bool) (between : List Term) (g : Given xs n known before m mid between) where
  both : new_variables (flags known) (xs ++ ys) ≡ new_variables (flags known) xs ++ new_variables (flags mid) ys
  both = variables_append (flags known) (flags mid) xs ys g.knows

  long : length (new_variables (flags known) (xs ++ ys)) ≡ length (new_variables (flags known) xs) + length (new_variables (flags mid) ys)
  long = ap length both ∙ length-append (new_variables (flags known) xs) (new_variables (flags mid) ys)

  -- what the first terms gave stays
  stays : (v : ℕ) → In v (new_variables (flags known) xs) → In v (new_variables (flags mid) ys) → ⊥
  stays v first second =
      false≢true (sym (not_old (flags mid) v ys second) ∙ (g.knows v).1 (inr (new_stands (flags known) v xs first)))

  pub given_then : (next : ℕ) (last : List Bool) (after : List Term) → Given ys m mid between next last after → Given (xs ++ ys) n known before next last after
  given_then next last after h =
      let e = g.after in
      let f = h.after in
      let l = long in
      record {
        after = omega arith;
        small = h.small;
        nulls = λ i v k. number i v (subst (λ vs. Nth vs i v) both k);
        others = λ v k.
            h.others v (λ j. k (subst (In v) (sym both) (in_right v (new_variables (flags known) xs) (new_variables (flags mid) ys) j)))
            ∙ g.others v (λ j. k (subst (In v) (sym both) (in_left v (new_variables (flags known) xs) (new_variables (flags mid) ys) j)));
        knows = known_then known mid last xs ys (xs ++ ys) g.knows h.knows (λ t k. in_either t xs ys k) (λ t k. ⊎_elim (in_left t xs ys) (in_right t xs ys) k);
      }
    where
      number : (i v : ℕ) → Nth (new_variables (flags known) xs ++ new_variables (flags mid) ys) i v → look after v ≡ Null (n + i)
      number i v k =
          let vs = new_variables (flags known) xs in
          let ws = new_variables (flags mid) ys in
          let e = g.after in
          let l = k.0 in
          let s = length-append vs ws in
          ⊎_elim
          (λ (b : i < length vs).
          let first : Nth vs i v = (b, λ d. sym (get_or_append_left vs ws d i b) ∙ k.1 d) in
          h.others v (stays v (in_nth vs i v first)) ∙ g.nulls i v first)
          (λ (b : length vs ≤ i).
          let second : Nth ws (i - length vs) v = (omega arith, λ d. sym (get_or-append_right vs ws (length vs) i d refl b) ∙ k.1 d) in
          let same : m + (i - length vs) ≡ n + i = omega arith in
          h.nulls (i - length vs) v second ∙ ap (λ z. Null z) same)
          (cases_lt i (length vs))

  -- a null of the later terms would be too large
  pub large_then : 65536 < m + length (new_variables (flags mid) ys) → 65536 < n + length (new_variables (flags known) (xs ++ ys))
  large_then l = let e = g.after in let s = long in omega arith

-- so it is with more terms
pub large_still : (f : ℕ → Bool) (n : ℕ) (xs ys : List Term) → 65536 < n + length (new_variables f xs) → 65536 < n + length (new_variables f (xs ++ ys))
large_still f n xs ys l = let m = more_variables f xs ys in omega arith

-- the same of first terms, the next ones and the whole list
module _ (xs ys : List Term) (n : ℕ) (known : List Bool) (before : List Term) (m : ℕ) (mid : List Bool) (between : List Term) (g : Given xs n known before m mid between) where
  pub given_next : (zs : List Term) → zs ≡ xs ++ ys → (next : ℕ) (last : List Bool) (after : List Term) → Given ys m mid between next last after → Given zs n known before next last after
  given_next zs e next last after h = subst (λ z. Given z n known before next last after) (sym e) (given_then xs ys n known before m mid between g next last after h)

  pub large_next : (zs ws us : List Term) → zs ≡ xs ++ ys → us ≡ zs ++ ws → 65536 < m + length (new_variables (flags mid) ys) → 65536 < n + length (new_variables (flags known) us)
  large_next zs ws us e f l =
      subst (λ z. 65536 < n + length (new_variables (flags known) z)) (sym f)
      (large_still (flags known) n zs ws
      (subst (λ z. 65536 < n + length (new_variables (flags known) z)) (sym e) (large_then xs ys n known before m mid between g l)))

-- a term that is no variable, or one that is known
pub given_other : (t : Term) (n : ℕ) (known : List Bool) (values : List Term) → n ≤ 65536 → ((v : ℕ) → Variable v ≡ t → flags known v ≡ true) → Given (t ∷ []) n known values n known values
given_other t n known values small old =
    record {
      after = let e = nothing t old in let l = ap length e in omega arith;
      small = small;
      nulls = λ i v m. absurd (let e = ap length (nothing t old) in let l = m.0 in omega arith);
      others = λ v m. refl;
      knows = λ v. (λ e. inl e, λ s. ⊎_elim (λ o. o) (λ m. ⊎_elim (λ p. old v p) (λ j. absurd j) m) s);
    }
  where
    nothing : (u : Term) → ((v : ℕ) → Variable v ≡ u → flags known v ≡ true) → new_variables (flags known) (u ∷ []) ≡ []
    nothing (Constant k) o = refl
    nothing (Null k) o = refl
    nothing (Variable v) o = rw (o v refl)

one_new : (known : List Bool) (v : ℕ) → flags known v ≡ false → new_variables (flags known) (Variable v ∷ []) ≡ v ∷ []
one_new known v e = rw e

-- a new variable
pub given_variable : (v n : ℕ) (known : List Bool) (values : List Term) → n ≤ 65535 → v < length known → v < length values → flags known v ≡ false
    → Given (Variable v ∷ []) n known values (n + 1) (set known v true) (set values v (Null n))
given_variable v n known values small long wide e =
    record {
      after = let l = ap length (one_new known v e) in omega arith;
      small = omega arith;
      nulls = λ i w m. number i w (subst (λ vs. Nth vs i w) (one_new known v e) m);
      others = λ w m. let ne : w ≢ v = λ p. m (subst (In w) (sym (one_new known v e)) (inl p)) in get_or-set_other values v w (Null n) (Constant 0) ne;
      knows = λ w. (flag w (cases w), λ s. flagged w (cases w) s);
    }
  where
    number : (i w : ℕ) → Nth (v ∷ []) i w → look (set values v (Null n)) w ≡ Null (n + i)
    number i w m =
        let l = m.0 in
        let z : i ≡ 0 = omega arith in
        let same : v ≡ w = ap (λ k. get_or (v ∷ []) k 0) (sym z) ∙ m.1 0 in
        ap (look (set values v (Null n))) (sym same) ∙ get_or-set_same values v (Null n) (Constant 0) wide ∙ ap (λ k. Null k) (let q : n ≡ n + i = omega arith in q)

    cases : (w : ℕ) → (w ≡ v) ⊎ (w ≢ v)
    cases w = ⊎_elim (λ (l : w < v). inr (omega arith)) (λ (l : v ≤ w). ⊎_elim (λ (m : v < w). inr (omega arith)) (λ (m : w ≤ v). inl (omega arith)) (cases_lt v w)) (cases_lt w v)

    flag : (w : ℕ) → (w ≡ v) ⊎ (w ≢ v) → flags (set known v true) w ≡ true → (flags known w ≡ true) ⊎ In (Variable w) (Variable v ∷ [])
    flag w (inl p) f = inr (inl (ap (λ x. Variable x) p))
    flag w (inr ne) f = inl (sym (get_or-set_other known v w true false ne) ∙ f)

    flagged : (w : ℕ) → (w ≡ v) ⊎ (w ≢ v) → (flags known w ≡ true) ⊎ In (Variable w) (Variable v ∷ []) → flags (set known v true) w ≡ true
    flagged w (inl p) s = ap (flags (set known v true)) p ∙ get_or-set_same known v true false long
    flagged w (inr ne) s =
        ⊎_elim (λ o. get_or-set_other known v w true false ne ∙ o) (λ m. ⊎_elim (λ q. absurd (ne (ap number_of q))) (λ j. absurd j) m) s

-- the same where the term is told to be one, and the null's number to be the next
pub given_term : (t : Term) (v n k : ℕ) (known : List Bool) (values : List Term) → t ≡ Variable v → k ≡ n → n ≤ 65535 → v < length known → v < length values → flags known v ≡ false
    → Given (t ∷ []) n known values (n + 1) (set known v true) (set values v (Null k))
given_term t v n k known values e q small long wide f =
    subst (λ z. Given (z ∷ []) n known values (n + 1) (set known v true) (set values v (Null k))) (sym e)
    (subst (λ z. Given (Variable v ∷ []) n known values (n + 1) (set known v true) (set values v (Null z))) (sym q) (given_variable v n known values small long wide f))

-- the null would be too large
pub large_variable : (v n : ℕ) (known : List Bool) → flags known v ≡ false → 65535 < n → 65536 < n + length (new_variables (flags known) (Variable v ∷ []))
large_variable v n known e l = let s = ap length (one_new known v e) in omega arith

module _ (r : Implication) (none known : List Bool) (nothing : (v : ℕ) → flags none v ≡ true → ⊥) (k : KnownWith none (terms_of r.body) known) where
  -- the known variables are the universal ones
  known_universal : (v : ℕ) → flags known v ≡ universal? r v
  known_universal v =
      let d = stands_decided v r.body in
      same_bool (flags known v) (universal? r v)
      (λ e. ⊎_elim (λ o. absurd (nothing v o)) (λ u. d.1 u) ((k v).0 e))
      (λ e. (k v).1 (inr (d.0 e)))

  in_order : new_variables (flags known) (terms_of r.head) ≡ new_in_order r
  in_order = same_variables (flags known) (universal? r) (terms_of r.head) known_universal

  module _ (n : ℕ) (before : List Term) where
    pub filled_all : (next : ℕ) (last : List Bool) (values : List Term) → Given (terms_of r.head) n known before next last values → FillingAnswer r (look before) n (Some values)
    filled_all next last values g = (
      λ i l. let e = g.after in let s = g.small in let o = ap length in_order in omega arith,
      record {
        agrees = λ v u. g.others v (λ m. false≢true (sym (not_old (flags known) v (terms_of r.head) m) ∙ (k v).1 (inr u)));
        nulls = λ i v m. g.nulls i v (subst (λ vs. Nth vs i v) (sym in_order) m);
      },
    )

    pub too_large : n ≤ 65536 → 65536 < n + length (new_variables (flags known) (terms_of r.head)) → NullsFit r n → ⊥
    too_large small l fit =
        let o = ap length in_order in
        let z = fit (length (new_in_order r) - 1) (omega arith) in
        absurd (omega arith)
