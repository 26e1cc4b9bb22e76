-- How long numbers get in decimal, and how what is put one before the other reads.
use Rattle.std.proofs.Common.{◌≡◌, ℕ, ◌^◌, ◌<◌, ◌≤◌, List, [], ◌++◌, length, drop, codes, decimal, arith, append_assoc}
use Rattle.std.proofs.lemmas.Fmt.{length-decimal-le}
use Rattle.std.proofs.lemmas.List.{drop_all}
use Rattle.faults.specs.Text.{refusal_text}
use Rattle.lines.specs.Lines.{two_numbers}

pub size_of_byte : (n : ℕ) → n < 2 ^ 8 → length (decimal n) ≤ 3
size_of_byte n h = length-decimal-le 3 n (omega arith) (omega arith) (omega arith)

pub size_of_pair : (n : ℕ) → n < 2 ^ 16 → length (decimal n) ≤ 5
size_of_pair n h = length-decimal-le 5 n (omega arith) (omega arith) (omega arith)

pub size_of_place : (n : ℕ) → n < 2 ^ 64 → length (decimal n) ≤ 20
size_of_place n h = length-decimal-le 20 n (omega arith) (omega arith) h

pub joined_two : (letter : List ℕ) (a b : ℕ) (rest : List ℕ) → two_numbers letter a b ++ rest ≡ letter ++ (codes " " ++ (decimal a ++ (codes " " ++ (decimal b ++ rest))))
joined_two letter a b rest = simp append_assoc

pub joined_fault : (n r i p : ℕ) (rest : List ℕ) → refusal_text n r i p ++ rest ≡ codes "X " ++ (decimal n ++ (codes " " ++ (decimal r ++ (codes " " ++ (decimal i ++ (codes " " ++ (decimal p ++ rest)))))))
joined_fault n r i p rest = simp append_assoc

pub nothing_after : (text : List ℕ) → length text ≡ 40 → drop 40 text ≡ []
nothing_after text long = drop_all 40 text (omega arith)

pub ruleset sizes = (size_of_byte, size_of_pair, size_of_place, joined_two, joined_fault)
