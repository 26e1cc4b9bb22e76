-- From node to node of either search, by its kind, and what is known after all heads were tried.
-- Assumes nothing.
use Rattle.std.proofs.Common.{◌≡◌, ◌==◌, ℕ, suc, cond, ◌<◌, ◌≤◌, Bool, true, false, Decides, ◌⊎◌, List, [], ◌∷◌, ◌++◌, ◌+◌, length, get_or, take, drop, Some, None, sym, refl, ap, ◌∙◌, subst, inl, ⊎_elim, arith}
use Rattle.std.proofs.lemmas.List.{map-append, length-map, length-take}
use Rattle.std.proofs.lemmas.Bool.{false≢true, eqb-true}
use Rattle.std.proofs.lemmas.Option.{none-some}
use Rattle.rules.specs.declared.Term.TheVariants.{Null}
use Rattle.rules.specs.declared.Atom.{Atom}
use Rattle.rules.specs.declared.rule.Rule.{Rule}
use Rattle.rules.specs.Logic.{In, Each, Formula, Implication, formula_of}
use Rattle.rules.specs.Bounds.{body_of, head_of, flags, FlagsAre}
use Rattle.rules.specs.Rules.{meaning}
use Rattle.rules.proofs.Membership.{decides_false}
use Rattle.matches.specs.Lists.{look, formulas}
use Rattle.matches.proofs.Basics.{in_map, from_map}
use Rattle.matches.proofs.Bounded.{bounded}
use Rattle.reliances.specs.declared.sheet.Kind.{Kind}
use Rattle.reliances.specs.declared.sheet.Kind.TheVariants.{Positive, Restraint}
use Rattle.reliances.specs.declared.sheet.Sheet.{Sheet}
use Rattle.reliances.specs.Unification.{Subst, start, unify_formulas}
use Rattle.reliances.specs.Following.{Small, Node}
use Rattle.reliances.specs.Sheets.{first_list, later_facts, Shows, Holds, Answered}
use Rattle.std.specs.List.{filter}
use Rattle.reliances.specs.RestraintSearch.{opens?, shifted}
use Rattle.reliances.specs.Searching.{gone, rigid_for, Follows, Deserted, Searched}
use Rattle.reliances.proofs.Unify.{Slotted, some_same}
use Rattle.reliances.proofs.Nodes.{makes, node_all, node_taken, taken_length, no_atom, node_start, node_old, node_new, get_d_in}
use Rattle.reliances.proofs.RelianceEnd as reliance_end
use Rattle.reliances.proofs.RestraintEnd as restraint_end
use Rattle.reliances.proofs.Positive as positive
use Rattle.reliances.proofs.Restraint as restraint

abbrev Flagged : Kind → Rule → Rule → List Bool → Type 0
Flagged kind A B rigid = FlagsAre rigid (rigid_for kind (meaning A) (meaning B))

slots_heads : (kind : Kind) (A B : Rule) (rigid : List Bool) → Flagged kind A B rigid → Each (λ a. Each Slotted a.terms) (meaning A).head
slots_heads Positive A B rigid is = positive.slots_a (meaning A) (meaning B) (bounded A) (bounded B) (flags rigid) is
slots_heads Restraint A B rigid is = restraint.slots_a (meaning A) (meaning B) (bounded A) (bounded B) (flags rigid) is

slots_gone : (kind : Kind) (A B : Rule) (rigid : List Bool) → Flagged kind A B rigid → Each (λ a. Each Slotted a.terms) (gone kind (meaning B))
slots_gone Positive A B rigid is = positive.slots_b (meaning A) (meaning B) (bounded A) (bounded B) (flags rigid) is
slots_gone Restraint A B rigid is = restraint.slots_b (meaning A) (meaning B) (bounded A) (bounded B) (flags rigid) is

start_keeps : (kind : Kind) (A B : Rule) (rigid : List Bool) → Flagged kind A B rigid → (i : ℕ) → flags rigid i ≡ true → look start i ≡ Null i
start_keeps Positive A B rigid is = positive.start_keeps (meaning A) (meaning B) (bounded A) (bounded B) (flags rigid) is
start_keeps Restraint A B rigid is = restraint.start_keeps (meaning A) (meaning B) (bounded A) (bounded B) (flags rigid) is

follow_start : (kind : Kind) (A B : Rule) (rigid : List Bool) → Flagged kind A B rigid → Holds kind (meaning A) (meaning B) → Follows kind (meaning A) (meaning B) (flags rigid) start []
follow_start Positive A B rigid is = positive.follow_start (meaning A) (meaning B) (bounded A) (bounded B) (flags rigid) is
follow_start Restraint A B rigid is = restraint.follow_start (meaning A) (meaning B) (bounded A) (bounded B) (flags rigid) is

follow_split : (kind : Kind) (A B : Rule) (rigid : List Bool) → Flagged kind A B rigid → (σ : Subst) (old : List Formula) (b : Formula) → In b (gone kind (meaning B))
    → Follows kind (meaning A) (meaning B) (flags rigid) σ old
    → Follows kind (meaning A) (meaning B) (flags rigid) σ (old ++ (b ∷ []))
    ⊎ ((a : Formula) × In a (meaning A).head × ((τ : Subst) × (unify_formulas (flags rigid) 0 12 a b σ ≡ Some τ) × Follows kind (meaning A) (meaning B) (flags rigid) τ old))
follow_split Positive A B rigid is = positive.follow_split (meaning A) (meaning B) (bounded A) (bounded B) (flags rigid) is
follow_split Restraint A B rigid is = restraint.follow_split (meaning A) (meaning B) (bounded A) (bounded B) (flags rigid) is

-- a sheet that meets the definition implies the relation
pub shows_holds : (kind : Kind) (A B : Implication) (s : Sheet) → Shows kind A B s → Holds kind A B
shows_holds Positive A B s w = record { before = formulas (first_list s); first = look s.first_rule; second = look s.second_rule; shows = w.shows }
shows_holds Restraint A B s w = record {
  before = formulas (first_list s);
  later = later_facts B s;
  first = look s.first_rule;
  second = look s.second_rule;
  other = look s.alternative;
  shows = w.shows;
}

-- what a no says
pub said_no : (kind : Kind) (A B : Rule) (rigid : List Bool) (σ : Subst) (old : List Atom) (s t : Sheet) (r : Bool) → r ≡ false → Searched r kind A B rigid σ old s t
    → Deserted kind A B rigid σ old × (t ≡ s)
said_no kind A B rigid σ old s t true e shows = absurd (false≢true (sym e))
said_no kind A B rigid σ old s t false e left = left

-- the head atom a is not what the atom b is
abbrev pub NotJoined : Kind → Rule → Rule → List Bool → Subst → List Atom → Atom → Atom → Type 0
NotJoined kind A B rigid σ old b a = (τ : Subst) → unify_formulas (flags rigid) 0 12 (formula_of a) (formula_of b) σ ≡ Some τ → Deserted kind A B rigid τ old

module _ (kind : Kind) (A B : Rule) (rigid : List Bool) (is : Flagged kind A B rigid) (σ : Subst) where
  abbrev NodeHere : Subst → List Atom → List Atom → Type 0
  NodeHere = Node (meaning A).head (gone kind (meaning B)) rigid

  -- a head atom that was tried
  module _ (old : List Atom) (b a : Atom) where
    pub not_unified : None ≡ unify_formulas (flags rigid) 0 12 (formula_of a) (formula_of b) σ → NotJoined kind A B rigid σ old b a
    not_unified n τ e = absurd (none-some τ (n ∙ e))

    pub not_followed : (τ : Subst) → Some τ ≡ unify_formulas (flags rigid) 0 12 (formula_of a) (formula_of b) σ → Deserted kind A B rigid τ old → NotJoined kind A B rigid σ old b a
    not_followed τ u left other e f = left (subst (λ z. Follows kind (meaning A) (meaning B) (flags rigid) z (formulas old)) (some_same (sym (u ∙ e))) f)

  -- after all heads were tried, and the atom was left old
  none_follows : (old heads : List Atom) (b : Atom) → In (formula_of b) (gone kind (meaning B)) → heads ≡ head_of A.parts → Each (NotJoined kind A B rigid σ old b) heads
      → Deserted kind A B rigid σ (old ++ (b ∷ [])) → Deserted kind A B rigid σ old
  none_follows old heads b i e tried left w =
      ⊎_elim
      (λ v. left (subst (Follows kind (meaning A) (meaning B) (flags rigid) σ) (sym (map-append formula_of old (b ∷ []))) v))
      (λ z.
      let r = from_map formula_of z.0 (head_of A.parts) z.1 in
      tried r.0 (subst (In r.0) (sym e) r.1) z.2.0
      (ap (λ a. unify_formulas (flags rigid) 0 12 a (formula_of b) σ) (sym r.2) ∙ z.2.1) z.2.2)
      (follow_split kind A B rigid is σ (formulas old) (formula_of b) i w)

  -- the next node, where the first of the atoms that remain is left old, or unified with a head
  module _ (old rest : List Atom) (b : Atom) (node : NodeHere σ old (b ∷ rest)) where
    pub next_old : (more : List Atom) → more ≡ old ++ (b ∷ []) → NodeHere σ more rest
    next_old more m =
        subst (λ z. NodeHere σ z rest) (sym m)
        (node_old (meaning A).head (gone kind (meaning B)) (slots_heads kind A B rigid is) (slots_gone kind A B rigid is) rigid σ old b rest node)

    pub next_new : (τ : Subst) (heads : List Atom) (i : ℕ) → heads ≡ head_of A.parts → i < length heads
        → Some τ ≡ unify_formulas (flags rigid) 0 12 (formula_of (get_or heads i no_atom)) (formula_of b) σ → NodeHere τ old rest
    next_new τ heads i e l u =
        node_new (meaning A).head (gone kind (meaning B)) (slots_heads kind A B rigid is) (slots_gone kind A B rigid is) rigid σ τ old b rest (formula_of (get_or heads i no_atom))
        (in_map formula_of (get_or heads i no_atom) (head_of A.parts) (subst (In (get_or heads i no_atom)) e (get_d_in heads i no_atom l))) (sym u) node

    pub next_in : In (formula_of b) (gone kind (meaning B))
    next_in = node.reached.rest_from (formula_of b) (inl refl)

  -- one of the atoms that remain is taken out
  module _ (old rest others : List Atom) (i : ℕ) (below : i < length rest) (others_are : others ≡ take i rest ++ drop (i + 1) rest) where
    pub taken : NodeHere σ old rest → NodeHere σ old (get_or rest i no_atom ∷ others)
    taken node =
        subst (λ z. NodeHere σ old (get_or rest i no_atom ∷ z)) (sym others_are)
        (node_taken (meaning A).head (gone kind (meaning B)) (slots_heads kind A B rigid is) (slots_gone kind A B rigid is) rigid σ old rest i below node)

    pub fewer : suc (length others) ≡ length rest
    fewer = ap (λ z. suc (length z)) others_are ∙ taken_length rest i no_atom below

  -- all that remains is left old
  pub all_old : (old rest : List Atom) → NodeHere σ old rest → NodeHere σ (old ++ rest) []
  all_old = node_all (meaning A).head (gone kind (meaning B)) (slots_heads kind A B rigid is) (slots_gone kind A B rigid is) rigid σ

  -- an answer from the last child is one from the node
  pub searched_old : (r : Bool) (s t u : Sheet) (old more heads : List Atom) (b : Atom) → In (formula_of b) (gone kind (meaning B)) → heads ≡ head_of A.parts
      → Each (NotJoined kind A B rigid σ old b) heads → more ≡ old ++ (b ∷ []) → t ≡ s → Searched r kind A B rigid σ more t u → Searched r kind A B rigid σ old s u
  searched_old true s t u old more heads b i e tried m same shows = shows
  searched_old false s t u old more heads b i e tried m same left = (none_follows old heads b i e tried (subst (Deserted kind A B rigid σ) m left.0), left.1 ∙ same)

-- a list that is empty
pub none_left : {X : Type 0} (xs : List X) (r : Bool) → r ≡ (length xs == 0) → r ≡ true → xs ≡ []
none_left [] r e p = refl
none_left (x ∷ xs) r e p = let z = eqb-true (suc (length xs)) 0 (sym e ∙ p) in absurd (omega arith)

pub few_open : {X : Type 0} (p : X → Bool) (xs : List X) → length (filter p xs) ≤ length xs
few_open p [] = omega arith
few_open p (x ∷ xs) = at (p x) (few_open p xs)
  where
    at : (b : Bool) → length (filter p xs) ≤ length xs → length (cond b (x ∷ filter p xs) (filter p xs)) ≤ suc (length xs)
    at true l = omega arith
    at false l = omega arith

-- a search goes through six atoms at most, that for a restraint through four
pub few_heads : (B : Rule) → length (head_of B.parts) ≤ 4
few_heads B = let few = (makes B).few_head in simp length-take (omega arith)

pub few_shifted : (B : Rule) → length (shifted (meaning B)) ≤ 4
few_shifted B =
    let few = few_open (opens? (meaning B)) (meaning B).head in
    let heads = few_heads B in
    let same = length-map (head_of B.parts) formula_of in
    simp length-map (omega (arith, few, heads, same))

pub few_body : (B : Rule) → length (body_of B.parts) ≤ 6
few_body B = let few = (makes B).few_body in simp length-take (omega arith)

pub few_gone : (kind : Kind) (B : Rule) → length (gone kind (meaning B)) ≤ 6
few_gone Positive B =
    let few = few_body B in
    simp length-map (omega (arith, few))
few_gone Restraint B = let few = few_shifted B in omega (arith, few)

-- so there is room for those that are old and those that remain
pub room_all : (kind : Kind) (A B : Rule) (rigid : List Bool) (σ : Subst) (old rest : List Atom) → Node (meaning A).head (gone kind (meaning B)) rigid σ old rest → length old + length rest ≤ 6
room_all kind A B rigid σ old rest node =
    let few = few_gone kind B in
    let left = node.left.few in
    let p = length-map old formula_of in
    let q = length-map rest formula_of in
    omega (arith, few, left, p, q)

-- and for one more that is left old
pub room : (kind : Kind) (A B : Rule) (rigid : List Bool) (σ : Subst) (old rest : List Atom) (b : Atom) → Node (meaning A).head (gone kind (meaning B)) rigid σ old (b ∷ rest) → length old < 6
room kind A B rigid σ old rest b node = let few = room_all kind A B rigid σ old (b ∷ rest) node in omega (arith, few)

-- where every atom is old, no witness follows
pub none_new : (kind : Kind) (A B : Rule) (rigid : List Bool) → Flagged kind A B rigid → (σ : Subst) (old rest : List Atom) (count : ℕ) → count ≡ length (gone kind (meaning B))
    → rest ≡ [] → count ≤ length old + length rest → Node (meaning A).head (gone kind (meaning B)) rigid σ old rest → Deserted kind A B rigid σ old
none_new kind A B rigid is σ old rest count e q l node =
    at kind is e (subst (NodeHere σ old) q node)
  where
    NodeHere : Subst → List Atom → List Atom → Type 0
    NodeHere = Node (meaning A).head (gone kind (meaning B)) rigid

    full : count ≤ length old
    full = let none = ap length q in omega (arith, l, none)

    at : (k : Kind) → Flagged k A B rigid → count ≡ length (gone k (meaning B)) → Node (meaning A).head (gone k (meaning B)) rigid σ old [] → Deserted k A B rigid σ old
    at Positive f c n = reliance_end.none_new A B rigid f σ old count n c full
    at Restraint f c n = restraint_end.none_new A B rigid f σ old count n c full

-- the search from the start on
module _ (kind : Kind) (A B : Rule) (rigid : List Bool) (is : Flagged kind A B rigid) where
  pub begun : (σ : Subst) (atoms : List Atom) → σ ≡ start → formulas atoms ≡ gone kind (meaning B) → Each Small atoms → Node (meaning A).head (gone kind (meaning B)) rigid σ [] atoms
  begun σ atoms e p small =
      subst (λ z. Node (meaning A).head (gone kind (meaning B)) rigid z [] atoms) (sym e)
      (node_start (meaning A).head (gone kind (meaning B)) (slots_heads kind A B rigid is) (slots_gone kind A B rigid is) rigid (start_keeps kind A B rigid is) atoms p small)

  pub answered : (r : Bool) (σ : Subst) (s t : Sheet) → σ ≡ start → Searched r kind A B rigid σ [] s t → Answered r kind (meaning A) (meaning B) s t
  answered true σ s t e shows = shows
  answered false σ s t e left = (λ w. left.0 (subst (λ z. Follows kind (meaning A) (meaning B) (flags rigid) z []) (sym e) (follow_start kind A B rigid is w)), left.1)

-- what an answer says
pub answer_decides : (r : Bool) (kind : Kind) (A B : Implication) (s t : Sheet) → Answered r kind A B s t → Decides r (Holds kind A B)
answer_decides true kind A B s t shows = (λ e. shows_holds kind A B t shows, λ h. refl)
answer_decides false kind A B s t left = decides_false left.0

pub answer_shows : (r : Bool) (kind : Kind) (A B : Implication) (s t : Sheet) → Answered r kind A B s t → r ≡ true → Shows kind A B t
answer_shows true kind A B s t shows e = shows
answer_shows false kind A B s t left e = absurd (false≢true e)

pub answer_keeps : (r : Bool) (kind : Kind) (A B : Implication) (s t : Sheet) → Answered r kind A B s t → r ≡ false → t ≡ s
answer_keeps true kind A B s t shows e = absurd (false≢true (sym e))
answer_keeps false kind A B s t left e = left.1
