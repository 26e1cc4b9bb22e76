-- What is read at a cursor that has moved, and moves one after another.
use Rattle.std.proofs.Common.{◌≡◌, ℕ, ◌+◌, List, sym, ◌∙◌, arith}
use Rattle.volumes.specs.declared.cursor.Cursor.{Cursor}
use Rattle.volumes.specs.Moves.{Past}

module _ (s t : Cursor) (n : ℕ) (past : Past s n t) where
  pub read_there : {R : Type 0} (read : List ℕ → ℕ → ℕ → R) (r : R) → r ≡ read t.bytes.now t.end t.place → read s.bytes.now s.end t.place ≡ r
  read_there read r e = (λ i. read (sym past.bytes i) (sym past.end i) t.place) ∙ sym e

  pub past_more : (u : Cursor) (m k : ℕ) → Past t m u → n + m ≡ k → Past s k u
  past_more u m k more sum =
      let a = past.place in let b = more.place in
      record { bytes = more.bytes ∙ past.bytes; end = more.end ∙ past.end; place = omega arith }
