-- Things that stand one after another in the bytes.
-- `Is i p r` says what is at place p as the thing of index i: r is that thing, or what is wrong there.
-- `next i p x` is the place after it.
use Rattle.std.specs.Prelude.{◌≡◌, ℕ, ◌+◌, ◌<◌, List, [], ◌∷◌, length, Ok, Err, Result}

-- the things xs stand one after another from p to q, the first with index i
abbrev pub Stand : {A E : Type 0} → (ℕ → ℕ → Result A E → Type 0) → (ℕ → ℕ → A → ℕ) → ℕ → ℕ → List A → ℕ → Type 0
Stand Is next i p [] q = p ≡ q
Stand Is next i p (x ∷ xs) q = Is i p (Ok x) × Stand Is next (i + 1) (next i p x) xs q

-- of n things from p on, some first ones stand one after another, and f is wrong with the one after them
pub record Stops {A E : Type 0} (Is : ℕ → ℕ → Result A E → Type 0) (next : ℕ → ℕ → A → ℕ) (i p n : ℕ) (f : E) : Type 0 where
  pub before : List A
  pub fewer : length before < n
  pub place : ℕ
  pub stand : Stand Is next i p before place
  pub wrong : Is (i + length before) place (Err f)

-- what n things from p on are: the things and where they end, or what is wrong with the first that is wrong
abbrev pub Run : {A E : Type 0} → (ℕ → ℕ → Result A E → Type 0) → (ℕ → ℕ → A → ℕ) → ℕ → ℕ → ℕ → Result (List A × ℕ) E → Type 0
Run Is next i p n (Ok xs) = (length xs.0 ≡ n) × Stand Is next i p xs.0 xs.1
Run Is next i p n (Err f) = Stops Is next i p n f
