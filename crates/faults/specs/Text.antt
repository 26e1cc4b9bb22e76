-- What a refusal of any layer is printed as.
use Rattle.std.specs.Prelude.{ℕ, List, ◌++◌, codes, decimal}

-- the number, the rank, the index and the place, as X 8 4 0 12
abbrev pub refusal_text : ℕ → ℕ → ℕ → ℕ → List ℕ
refusal_text number rank index place =
    codes "X " ++ (decimal number ++ (codes " " ++ (decimal rank ++ (codes " " ++ (decimal index ++ (codes " " ++ decimal place))))))
