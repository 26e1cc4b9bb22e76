use Rattle.std.proofs.Common.{◌≡◌, ℕ, ◌+◌, ◌<◌, ◌⊎◌, ◌↔◌, inl, inr, get_or, sym, ◌∙◌, arith}
use Rattle.std.proofs.lemmas.Bool.{cases_eq, false≢true}
use Rattle.std.proofs.lemmas.List.{get_or_default}
use Rattle.grades.specs.Pairs.{Related}
use Rattle.shelf.specs.Slots.{slot}
use Rattle.shelf.specs.Grading.{HoldAt}
use Rattle.shelf.proofs.grading.relate_from.Goals as goal
use Rattle.shelf.proofs.grading.relate_from.Goals.{then-holds, else-holds}

module _ (Before R After H : ℕ → ℕ → Type 0) (a b : ℕ) where
  -- up to b the pairs are there; at b one comes, where it holds
  one_pair : ((i j : ℕ) → R i j ↔ (Before i j ⊎ ((i ≡ a) × (j < b) × H i j))) → H a b → a < 64 → b < 64
      → ((i j : ℕ) → After i j ↔ (R i j ⊎ ((i ≡ a) × (j ≡ b) × (a < 64) × (b < 64))))
      → (i j : ℕ) → After i j ↔ (Before i j ⊎ ((i ≡ a) × (j < b + 1) × H i j))
  one_pair so_far h la lb new i j = (
    λ n. elim ((new i j).0 n) [
      | inl old ↦ elim ((so_far i j).0 old) [ inl before ↦ inl before | inr below ↦ let l = below.1 in inr (below.0, omega (arith, l), below.2) ]
      | inr here ↦ let e = here.1 in inr (here.0, omega (arith, e), rw (here.0, here.1) h)
    ],
    λ n. elim n [
      | inl before ↦ (new i j).1 (inl ((so_far i j).1 (inl before)))
      | inr below ↦ elim (cases_eq j b) [
        | inl same ↦ (new i j).1 (inr (below.0, same, la, lb))
        | inr other ↦ let l = below.1 in (new i j).1 (inl ((so_far i j).1 (inr (below.0, omega (arith, l, other), below.2))))
      ]
    ],
  )

  no_pair : ((i j : ℕ) → R i j ↔ (Before i j ⊎ ((i ≡ a) × (j < b) × H i j))) → (H a b → ⊥)
      → (i j : ℕ) → R i j ↔ (Before i j ⊎ ((i ≡ a) × (j < b + 1) × H i j))
  no_pair so_far none i j = (
    λ n. elim ((so_far i j).0 n) [ inl before ↦ inl before | inr below ↦ let l = below.1 in inr (below.0, omega (arith, l), below.2) ],
    λ n. elim n [
      | inl before ↦ (so_far i j).1 (inl before)
      | inr below ↦ elim (cases_eq j b) [
        | inl same ↦ absurd (none (rw (sym below.0, sym same) below.2))
        | inr other ↦ let l = below.1 in (so_far i j).1 (inr (below.0, omega (arith, l, other), below.2))
      ]
    ],
  )

pub loop-second-preserved : goal.loop-second-preserved
loop-second-preserved c = elim c.if-holds.branch [
  | then-holds w ↦
      let e = w.pairs-is in
      rw e (one_pair (Related c.args.pairs.now) (Related c.loop-second.pairs) (Related w.put.new.self) (HoldAt c.args.kind c.args.slots.now)
      c.args.first c.loop-second.second c.loop-second.invariant (rw (first, second) (c.holds.ensures.0 w.if-holds.true)) c.requires c.loop-second-test.true w.put.ensures)
  | else-holds w ↦
      let e = w.pairs-is in
      rw e (no_pair (Related c.args.pairs.now) (Related c.loop-second.pairs) (Related c.loop-second.pairs) (HoldAt c.args.kind c.args.slots.now)
      c.args.first c.loop-second.second c.loop-second.invariant (λ h. false≢true (sym w.if-holds.false ∙ c.holds.ensures.1 (rw (sym first, sym second) h))))
]
  where
    first : slot c.args.slots.now c.args.first ≡ get_or c.args.slots.now c.args.first c.index-slots-first.result
    first = get_or_default c.args.slots.now c.args.first _ _ (omega (arith, c.requires, c.told-slots))

    second : slot c.args.slots.now c.loop-second.second ≡ get_or c.args.slots.now c.loop-second.second c.index-slots-second.result
    second = get_or_default c.args.slots.now c.loop-second.second _ _ (omega (arith, c.loop-second-test.true, c.told-slots))
