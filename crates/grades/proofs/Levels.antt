-- How numbers rise to the least numbering, or show that there is none.
use Rattle.std.proofs.Common.{◌≡◌, ℕ, zero, suc, ◌+◌, ◌-◌, ◌<◌, ◌≤◌, ◌⊎◌, inl, inr, List, get_or, ◌∙◌, arith}
use Rattle.std.specs.Prelude.{◌↔◌}
use Rattle.grades.specs.declared.slots.Slots.{Slots}
use Rattle.grades.specs.declared.pairs.Pairs.{Pairs}
use Rattle.grades.specs.Pairs.{HasSlot, Related}
use Rattle.grades.specs.Numbering.{Keeps, LeastOfSlots}
use Rattle.grades.specs.Sets.{size}
use Rattle.grades.specs.Rising.{Above, Given, Rising}
use Rattle.grades.proofs.Sets.{cases_has, size_le, more_slots}

-- ---- the slots that need a greater number

-- the slot j comes after some slot of the set
abbrev After : Slots → Pairs → ℕ → Type 0
After set r j = (i : ℕ) × HasSlot set i × Related r i j

-- those that are found so far, and the new ones among them, from which it was not gone on yet
pub record Reaching (set : Slots) (at_most less_than : Pairs) (found new : Slots) : Type 0 where
  pub fresh : (j : ℕ) → HasSlot new j → HasSlot found j → ⊥
  pub within : (j : ℕ) → HasSlot found j ⊎ HasSlot new j → HasSlot set j
  pub first : (i j : ℕ) → HasSlot set i → HasSlot set j → Related less_than i j → HasSlot found j ⊎ HasSlot new j
  pub closed : (i j : ℕ) → HasSlot found i → HasSlot set j → Related at_most i j → HasSlot found j ⊎ HasSlot new j
  pub needed :
      (number : ℕ → ℕ) → Keeps (HasSlot set) (Related at_most) (Related less_than) number
      → (m : ℕ) → ((i : ℕ) → HasSlot set i → m ≤ number i) → (j : ℕ) → HasSlot found j ⊎ HasSlot new j → m < number j

module _ (set : Slots) (at_most less_than : Pairs) where
  -- at first: those that come after a slot of the set
  pub reaching_first : (found after new : Slots) → ((j : ℕ) → HasSlot found j → ⊥) → ((j : ℕ) → HasSlot after j ↔ After set less_than j)
      → ((j : ℕ) → HasSlot new j ↔ (HasSlot after j × HasSlot set j)) → Reaching set at_most less_than found new
  reaching_first found after new none is_after is_new = record {
    fresh = λ j _ h. none j h;
    within = λ j h. elim h [ inl old ↦ absurd (none j old) | inr one ↦ ((is_new j).0 one).1 ];
    first = λ i j hi hj r. inr ((is_new j).1 ((is_after j).1 (i, hi, r), hj));
    closed = λ i j hi _ _. absurd (none i hi);
    needed = λ number keeps m all j h. elim h [
      | inl old ↦ absurd (none j old)
      | inr one ↦
          let both = (is_new j).0 one in
          let from = (is_after j).0 both.0 in
          let less = keeps.less_than from.0 j from.1 both.1 from.2 in
          let low = all from.0 from.1 in
          omega arith
    ];
  }

  module _ (found new : Slots) (reaching : Reaching set at_most less_than found new) where
    -- nothing is new: these are all
    pub above_when_none_new : ((j : ℕ) → HasSlot new j → ⊥) → Above set at_most less_than found
    above_when_none_new none = record {
      within = λ j h. reaching.within j (inl h);
      first = λ i j hi hj r. old (reaching.first i j hi hj r);
      closed = λ i j hi hj r. old (reaching.closed i j hi hj r);
      needed = λ number keeps m all j h. reaching.needed number keeps m all j (inl h);
    }
      where
        old : {j : ℕ} → HasSlot found j ⊎ HasSlot new j → HasSlot found j
        old {j} h = elim h [ inl one ↦ one | inr one ↦ absurd (none j one) ]

    module _ (more : Slots) (is_more : (j : ℕ) → HasSlot more j ↔ (HasSlot found j ⊎ HasSlot new j)) where
      pub found_grows : (i : ℕ) → HasSlot new i → 64 - size 64 more.bits < 64 - size 64 found.bits
      found_grows i one =
          let grows = more_slots found more i (λ j h. (is_more j).1 (inl h)) ((is_more i).1 (inr one)) (reaching.fresh i one) in
          omega (arith, size_le 64 more.bits)

      -- the new ones are found, and what comes after them is new in its turn
      pub reaching_more : (after kept next : Slots) → ((j : ℕ) → HasSlot after j ↔ After new at_most j)
          → ((j : ℕ) → HasSlot kept j ↔ (HasSlot after j × HasSlot set j)) → ((j : ℕ) → HasSlot next j ↔ (HasSlot kept j × (HasSlot more j → ⊥)))
          → Reaching set at_most less_than more next
      reaching_more after kept next is_after is_kept is_next = record {
        fresh = λ j h. ((is_next j).0 h).1;
        within = λ j h. elim h [ inl old ↦ reaching.within j ((is_more j).0 old) | inr one ↦ ((is_kept j).0 ((is_next j).0 one).0).1 ];
        first = λ i j hi hj r. inl ((is_more j).1 (reaching.first i j hi hj r));
        closed = λ i j hi hj r. elim ((is_more i).0 hi) [
          | inl old ↦ inl ((is_more j).1 (reaching.closed i j old hj r))
          | inr one ↦ elim (cases_has more j) [
            | inl there ↦ inl there
            | inr gone ↦ inr ((is_next j).1 ((is_kept j).1 ((is_after j).1 (i, one, r), hj), gone))
          ]
        ];
        needed = λ number keeps m all j h. elim h [
          | inl old ↦ reaching.needed number keeps m all j ((is_more j).0 old)
          | inr one ↦
              let both = (is_kept j).0 ((is_next j).0 one).0 in
              let from = (is_after j).0 both.0 in
              let low = reaching.needed number keeps m all from.0 (inr from.1) in
              let le = keeps.at_most from.0 j (reaching.within from.0 (inr from.1)) both.1 from.2 in
              omega arith
        ];
      }

-- ---- the numbers

module _ (held : Slots) (at_most less_than : Pairs) where
  -- all slots have 0
  pub rising_first : (numbers : List ℕ) → ((i : ℕ) → get_or numbers i 0 ≡ 0) → Rising held at_most less_than held 0 numbers
  rising_first numbers zeros = record {
    within = λ i h. h;
    high = λ i h. zeros i;
    low = λ i h gone. absurd (gone h);
    keeps_at_most = λ i j hi hj r. omega (arith, zeros i);
    nearly_less = λ i j hi hj r. omega (arith, zeros i);
    keeps_less = λ i j hi gone hj r. absurd (gone hi);
    least = λ number keeps i h. omega (arith, zeros i);
    others = λ i gone. zeros i;
    room = omega (arith, size_le 64 held.bits);
  }

  module _ (left : Slots) (n : ℕ) (numbers : List ℕ) (rising : Rising held at_most less_than left n numbers) where
    -- none is left: the numbering is the least one
    pub least_when_none_left : ((i : ℕ) → HasSlot left i → ⊥) → LeastOfSlots held at_most less_than numbers
    least_when_none_left none = record {
      least = record {
        keeps = record { at_most = rising.keeps_at_most; less_than = λ i j hi hj r. rising.keeps_less i j hi (none i) hj r };
        least = rising.least;
      };
      others = rising.others;
      small = λ i. elim (cases_has held i) [
        | inl one ↦ omega (arith, rising.low i one (none i), rising.room)
        | inr gone ↦ omega (arith, rising.others i gone)
      ];
    }

    -- a numbering of the slots held keeps the relations between those left too
    keeps_left : (number : ℕ → ℕ) → Keeps (HasSlot held) (Related at_most) (Related less_than) number
        → Keeps (HasSlot left) (Related at_most) (Related less_than) number
    keeps_left number keeps = record {
      at_most = λ i j hi hj r. keeps.at_most i j (rising.within i hi) (rising.within j hj) r;
      less_than = λ i j hi hj r. keeps.less_than i j (rising.within i hi) (rising.within j hj) r;
    }

    -- what has a number that is not lower than that of a slot left is left too
    also_left : (i j : ℕ) → HasSlot left i → HasSlot held j → get_or numbers i 0 ≤ get_or numbers j 0 → HasSlot left j
    also_left i j hi hj le = elim (cases_has left j) [
      | inl there ↦ there
      | inr gone ↦ let lower = rising.low j hj gone in let same = rising.high i hi in absurd (omega arith)
    ]

    module _ (next : Slots) (above : Above left at_most less_than next) where
      module _ (stays : Slots) (is_stays : (i : ℕ) → HasSlot stays i ↔ (HasSlot left i × (HasSlot next i → ⊥))) where
        -- each slot left needs a greater number than another one left: its number would be above each number
        pub none_when_all_need_more : (k : ℕ) → HasSlot left k → ((i : ℕ) → HasSlot stays i → ⊥)
            → (number : ℕ → ℕ) → Keeps (HasSlot held) (Related at_most) (Related less_than) number → ⊥
        none_when_all_need_more k there none number keeps = let over = grows (suc (number k)) k there in absurd (omega arith)
          where
            needs : (i : ℕ) → HasSlot left i → HasSlot next i
            needs i h = elim (cases_has next i) [ inl one ↦ one | inr gone ↦ absurd (none i ((is_stays i).1 (h, gone))) ]

            grows : (m i : ℕ) → HasSlot left i → m ≤ number i
            grows zero i h = omega arith
            grows (suc m) i h = let more = above.needed number (keeps_left number keeps) m (grows m) i (needs i h) in omega arith

        pub fewer_left : (k : ℕ) → HasSlot stays k → size 64 next.bits < size 64 left.bits
        fewer_left k h = let one = (is_stays k).0 h in more_slots next left k above.within one.0 one.1

        module _ (k : ℕ) (stay : HasSlot stays k) (new : List ℕ) (given : Given (n + 1) next numbers new) where
          at_new : (i : ℕ) → HasSlot next i → get_or new i 0 ≡ get_or numbers i 0 + 1
          at_new i h = omega (arith, given.given i h, rising.high i (above.within i h))

          not_lower : (i : ℕ) → get_or numbers i 0 ≤ get_or new i 0
          not_lower i = elim (cases_has next i) [ inl one ↦ omega (arith, at_new i one) | inr gone ↦ omega (arith, given.others i gone) ]

          -- an order between two slots stays, if the second one is raised wherever the first one is
          still : (i j : ℕ) → get_or numbers i 0 ≤ get_or numbers j 0 → (HasSlot next i → HasSlot next j) → get_or new i 0 ≤ get_or new j 0
          still i j le follows = elim (cases_has next i) [
            | inl one ↦ omega (arith, at_new i one, at_new j (follows one))
            | inr gone ↦ omega (arith, given.others i gone, not_lower j)
          ]

          -- the ones that need it are raised
          pub rising_more : Rising held at_most less_than next (n + 1) new
          rising_more = record {
            within = λ i h. rising.within i (above.within i h);
            high = given.given;
            low = λ i h gone. elim (cases_has left i) [
              | inl one ↦ omega (arith, given.others i gone, rising.high i one)
              | inr before ↦ omega (arith, given.others i gone, rising.low i h before)
            ];
            keeps_at_most = λ i j hi hj r.
                let le = rising.keeps_at_most i j hi hj r in
                still i j le (λ one. above.closed i j one (also_left i j (above.within i one) hj le) r);
            nearly_less = λ i j hi hj r.
                let le = rising.nearly_less i j hi hj r in
                still i j le (λ one. let was = above.within i one in above.first i j was (also_left i j was hj le) r);
            keeps_less = λ i j hi gone hj r. elim (cases_has left i) [
              | inl one ↦
                  let raised = above.first i j one (also_left i j one hj (rising.nearly_less i j hi hj r)) r in
                  omega (arith, given.others i gone, rising.high i one, given.given j raised)
              | inr before ↦ omega (arith, given.others i gone, rising.keeps_less i j hi before hj r, not_lower j)
            ];
            least = λ number keeps i h. elim (cases_has next i) [
              | inl one ↦
                  let more = above.needed number (keeps_left number keeps) n
                  (λ j was. let low = rising.least number keeps j (rising.within j was) in omega (arith, rising.high j was)) i one in
                  omega (arith, given.given i one)
              | inr gone ↦ let low = rising.least number keeps i h in omega (arith, given.others i gone)
            ];
            others = λ i gone. given.others i (λ one. gone (rising.within i (above.within i one))) ∙ rising.others i gone;
            room = omega (arith, fewer_left k stay, rising.room);
          }
