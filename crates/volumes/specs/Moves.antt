-- How a cursor moves.
use Rattle.std.specs.Prelude.{◌≡◌, ℕ, ◌+◌}
use Rattle.volumes.specs.declared.cursor.Cursor.{Cursor}

-- t stands n bytes after s, in the same part
pub record Past (s : Cursor) (n : ℕ) (t : Cursor) : Type 0 where
  pub bytes : t.bytes.now ≡ s.bytes.now
  pub end : t.end ≡ s.end
  pub place : t.place ≡ s.place + n
