-- The marked pairs, by computing what decides them.
-- Assumes nothing.
use Rattle.std.proofs.Common.{◌≡◌, ◌<◌, ◌≤◌, Bool, true, false, not, ◌&&◌, ltb, leb, length, Decides, refl, inl, inr, arith}
use Rattle.std.proofs.lemmas.Bool.Decides.{Decides-and, Decides-not, Decides-like}
use Rattle.std.proofs.lemmas.Bool.{ltb-true, lt-ltb}
use Rattle.rules.specs.declared.Term.{Term}
use Rattle.rules.specs.declared.Term.TheVariants.{Constant, Variable, Null}
use Rattle.rules.specs.Logic.{Formula, Implication, terms_of, Numbered}
use Rattle.rules.specs.Bounds.{every}
use Rattle.rules.proofs.Membership.{decides_false, decides_every}
use Rattle.rules.proofs.Bounded.{decides_leb}
use Rattle.matches.specs.Lists.{Sized, Sizes}
use Rattle.matches.proofs.Bounded.{Within, Bounded}
use Rattle.reliances.specs.Marked.{Claim, relies, relies_not, restrains, restrains_not, unnumbered, Pair, Holds, Right, marked, MarkedPairs}
use Rattle.reliances.proofs.Deciding.{relies?, decides_relies, restrains?, decides_restrains}

abbrev within? : Term → Bool
within? (Constant c) = true
within? (Variable v) = ltb v 12
within? (Null n) = false

decides_within : (t : Term) → Decides (within? t) (Within t)
decides_within (Constant c) = (λ e. tt, λ e. refl)
decides_within (Variable v) = (ltb-true v 12, lt-ltb v 12)
decides_within (Null n) = decides_false (λ e. e)

abbrev sized? : Formula → Bool
sized? a = leb 1 (length a.terms) && leb (length a.terms) 4

decides_sized : (a : Formula) → Decides (sized? a) (Sized a)
decides_sized a =
    Decides-and (leb 1 (length a.terms)) (leb (length a.terms) 4) (decides_leb 1 (length a.terms)) (decides_leb (length a.terms) 4)

abbrev bounded? : Implication → Bool
bounded? r =
    every within? (terms_of r.body) && (every within? (terms_of r.head) && (every sized? r.body && every sized? r.head))

decides_bounded : (r : Implication) → Decides (bounded? r) (Bounded r × Sizes r)
decides_bounded r =
    Decides-like (bounded? r)
    (λ e. (record { body = e.0; head = e.1.0 }, record { body = e.1.1.0; head = e.1.1.1 }))
    (λ b. (b.0.body, (b.0.head, (b.1.body, b.1.head))))
    (Decides-and (every within? (terms_of r.body)) _ (decides_every within? Within decides_within (terms_of r.body))
    (Decides-and (every within? (terms_of r.head)) _ (decides_every within? Within decides_within (terms_of r.head))
    (Decides-and (every sized? r.body) _ (decides_every sized? Sized decides_sized r.body)
    (decides_every sized? Sized decides_sized r.head))))

-- what shows a claim
abbrev shown? : Claim → Implication → Implication → Bool
shown? relies A B = relies? A B
shown? relies_not A B = not (relies? A B)
shown? restrains A B = restrains? A B
shown? restrains_not A B = not (restrains? A B)
shown? unnumbered A B = restrains? A B && relies? B A

shown : (c : Claim) (A B : Implication) → Bounded A × Sizes A → Bounded B × Sizes B → shown? c A B ≡ true → Holds c A B
shown relies A B ba bb e = (decides_relies A B ba.0 bb.0 ba.1 bb.1).0 e
shown relies_not A B ba bb e = (Decides-not (relies? A B) (decides_relies A B ba.0 bb.0 ba.1 bb.1)).0 e
shown restrains A B ba bb e = (decides_restrains A B ba.0 bb.0 ba.1 bb.1).0 e
shown restrains_not A B ba bb e = (Decides-not (restrains? A B) (decides_restrains A B ba.0 bb.0 ba.1 bb.1)).0 e
shown unnumbered A B ba bb e = λ grade keeps.
    let both = (Decides-and (restrains? A B) (relies? B A) (decides_restrains A B ba.0 bb.0 ba.1 bb.1) (decides_relies B A bb.0 ba.0 bb.1 ba.1)).0 e in
    let a : Numbered = record { number = 1; rule = A } in
    let b : Numbered = record { number = 2; rule = B } in
    let less : grade 1 < grade 2 = (keeps a b (inl refl) (inr (inl refl))).1 both.0 in
    let more : grade 2 ≤ grade 1 = (keeps b a (inr (inl refl)) (inl refl)).0 both.1 in
    omega arith

abbrev right? : Pair → Bool
right? p = bounded? p.first && (bounded? p.second && shown? p.claim p.first p.second)

is_right : (p : Pair) → right? p ≡ true → Right p
is_right p e =
    let ea = (Decides-and (bounded? p.first) _ (decides_bounded p.first)
    (Decides-and (bounded? p.second) (shown? p.claim p.first p.second) (decides_bounded p.second) (λ q. q, λ q. q))).0 e in
    shown p.claim p.first p.second ea.0 ea.1.0 ea.1.1

pub marked_pairs : MarkedPairs
marked_pairs p i = is_right p ((decides_every right? (λ q. right? q ≡ true) (λ q. (λ e. e, λ e. e)) marked).0 refl p i)
