-- The readers as functions of the bytes: a model, which the code is shown to be equal to.
-- What it means is said by `Layout`: the model's answer is the one that the layout allows.
use Rattle.std.specs.Prelude.{ℕ, zero, suc, ◌+◌, ◌-◌, ◌*◌, Bool, cond, ◌&&◌, ◌||◌, List, [], ◌∷◌, length, take, drop, Some, None, Option, Ok, Err, Result, ◌==◌, nat_le, nat_lt}
use Rattle.std.specs.Result.{result_map_both}
use Rattle.rules.specs.declared.Term.{Term}
use Rattle.rules.specs.declared.Term.TheVariants.{Constant, Variable, Null}
use Rattle.rules.specs.Logic.{Formula, Implication, Numbered}
use Rattle.rules.specs.Bounds.{existentials}
use Rattle.volumes.specs.declared.kind.VolumeKind.{VolumeKind}
use Rattle.volumes.specs.declared.kind.VolumeKind.TheVariants.{Rules, Facts}
use Rattle.volumes.specs.declared.kind.TermKind.{TermKind}
use Rattle.volumes.specs.declared.kind.TermKind.TheVariants as kind
use Rattle.faults.specs.declared.Cut.{Cut}
use Rattle.faults.specs.declared.TermFault.{TermFault}
use Rattle.faults.specs.declared.TermFault.TheVariants.{Ended, Kind, Number}
use Rattle.faults.specs.declared.AtomFault.{AtomFault}
use Rattle.faults.specs.declared.AtomFault.TheVariants.{CutShort, Arity}
use Rattle.faults.specs.declared.EntryFault.{EntryFault}
use Rattle.faults.specs.declared.EntryFault.TheVariants.{EntryEnded, Count, Left, Existentials}
use Rattle.faults.specs.declared.VolumeFault.TheVariants.{Short, FirstByte, TooMany, Ends, NotRising, Misplaced}
use Rattle.faults.specs.declared.Fault.{Fault}
use Rattle.faults.specs.Faults.{cut_at, atom_fault, entry_fault, fault, in_volume}
use Rattle.volumes.specs.Layout.{at, pair, other_kind, span, first_byte_of, most, count, contents_end, number, extent, rules_end, fact_place}

-- then the next reader, unless there was a fault
abbrev pub and_then : {A B E : Type 0} → Result A E → (A → Result B E) → Result B E
and_then (Ok x) f = f x
and_then (Err e) f = Err e

-- a reader's fault as one of the layer above
abbrev pub above : {A E D : Type 0} → (E → D) → Result A E → Result A D
above f r = result_map_both (λ x. x) f r

-- n things from p on, one after another, and where they end
abbrev pub read_run : {A E : Type 0} → (ℕ → ℕ → Result A E) → (ℕ → ℕ → A → ℕ) → ℕ → ℕ → ℕ → Result (List A × ℕ) E
read_run read next i p zero = Ok ([], p)
read_run read next i p (suc n) =
    and_then (read i p) (λ x. and_then (read_run read next (i + 1) (next i p x) n) (λ xs. Ok (x ∷ xs.0, xs.1)))

-- a field of one byte, and one of two, in a part that ends at e
abbrev pub read_byte : List ℕ → ℕ → ℕ → Result ℕ Cut
read_byte bs e p = cond (nat_le (p + 1) e) (Ok (at bs p)) (Err (cut_at e))

abbrev pub read_pair : List ℕ → ℕ → ℕ → Result ℕ Cut
read_pair bs e p = cond (nat_le (p + 2) e) (Ok (pair bs p)) (Err (cut_at e))

abbrev pub allowed? : VolumeKind → ℕ → Bool
allowed? k b = b == 0 || b == other_kind k

-- the kind of a term that has this kind byte, or none where no such term may stand
abbrev pub term_kind_of : VolumeKind → TermKind
term_kind_of Rules = kind.Variable
term_kind_of Facts = kind.Null

abbrev pub kind_of : VolumeKind → ℕ → Option TermKind
kind_of k b = cond (b == 0) (Some kind.Constant) (cond (b == other_kind k) (Some (term_kind_of k)) None)

abbrev pub other_term : VolumeKind → ℕ → ℕ → Result Term TermFault
other_term Rules p n = cond (nat_le n 11) (Ok (Variable n)) (Err (Number (p + 1)))
other_term Facts p n = Ok (Null n)

abbrev pub term_of : VolumeKind → ℕ → ℕ → ℕ → Result Term TermFault
term_of k p kind n = cond (kind == 0) (Ok (Constant n)) (other_term k p n)

abbrev pub read_term : VolumeKind → List ℕ → ℕ → ℕ → Result Term TermFault
read_term k bs e p =
    and_then (above Ended (read_byte bs e p)) (λ kind.
    cond (allowed? k kind) (and_then (above Ended (read_pair bs e (p + 1))) (term_of k p kind)) (Err (Kind p)))

abbrev pub read_terms : VolumeKind → List ℕ → ℕ → ℕ → ℕ → Result (List Term × ℕ) TermFault
read_terms k bs e p n = read_run (λ _ q. read_term k bs e q) (λ _ q _. q + 3) 0 p n

abbrev pub read_atom : VolumeKind → List ℕ → ℕ → ℕ → Result Formula AtomFault
read_atom k bs e p =
    and_then (above CutShort (read_pair bs e p)) (λ predicate.
    and_then (above CutShort (read_byte bs e (p + 2))) (λ arity.
    cond (nat_le 1 arity && nat_le arity 4)
    (and_then (above atom_fault (read_terms k bs e (p + 3) arity)) (λ ts. Ok (record { predicate = predicate; terms = ts.0 })))
    (Err (Arity (p + 2)))))

abbrev pub read_atoms : VolumeKind → List ℕ → ℕ → ℕ → ℕ → Result (List Formula × ℕ) AtomFault
read_atoms k bs e p n = read_run (λ _ q. read_atom k bs e q) (λ _ q a. q + span a) 0 p n

-- the first n atoms are the body
abbrev pub split : ℕ → List Formula → Implication
split n xs = record { body = take n xs; head = drop n xs }

-- the rule of these atoms, which end at q
abbrev pub rule_of : ℕ → ℕ → ℕ → List Formula → ℕ → Result Implication EntryFault
rule_of s e n xs q =
    cond (q == e) (cond (nat_le (existentials (split n xs)) 4) (Ok (split n xs)) (Err (Existentials s))) (Err (Left q))

abbrev pub read_rule : List ℕ → ℕ → ℕ → Result Implication EntryFault
read_rule bs e s =
    cond (nat_le (s + 2) e)
    (cond (nat_le 1 (at bs s) && nat_le (at bs s) 6)
    (cond (nat_le 1 (at bs (s + 1)) && nat_le (at bs (s + 1)) 4)
    (and_then (above entry_fault (read_atoms Rules bs e (s + 2) (at bs s + at bs (s + 1)))) (λ xs. rule_of s e (at bs s) xs.0 xs.1))
    (Err (Count (s + 1))))
    (Err (Count s)))
    (Err (EntryEnded (cut_at e)))

-- the count of a volume whose contents are whole
abbrev pub read_count : VolumeKind → List ℕ → Result ℕ Fault
read_count k bs =
    cond (nat_le 3 (length bs))
    (cond (at bs 0 == first_byte_of k)
    (cond (nat_le (count bs) (most k))
    (cond (nat_le (contents_end k bs) (length bs)) (Ok (count bs)) (Err (fault Short 0 (length bs))))
    (Err (fault TooMany 0 1)))
    (Err (fault FirstByte 0 0)))
    (Err (fault Short 0 (length bs)))

-- n numbers, from that of index i + 1 on, each above the one before it
abbrev pub read_rising : List ℕ → ℕ → ℕ → Result (Unit {0}) Fault
read_rising bs i zero = Ok tt
read_rising bs i (suc n) =
    cond (nat_lt (number bs i) (number bs (i + 1))) (read_rising bs (i + 1) n) (Err (fault NotRising (i + 1) (3 + 4 * (i + 1))))

abbrev pub read_rule_entry : List ℕ → ℕ → ℕ → Result Numbered Fault
read_rule_entry bs i s =
    and_then (above (in_volume i) (read_rule bs (s + extent bs i) s)) (λ r. Ok (record { number = number bs i; rule = r }))

abbrev pub read_rule_entries : List ℕ → Result (List Numbered × ℕ) Fault
read_rule_entries bs = read_run (read_rule_entry bs) (λ i s _. s + extent bs i) 0 (contents_end Rules bs) (count bs)

abbrev pub read_rules : List ℕ → Result (List Numbered) Fault
read_rules bs =
    and_then (read_count Rules bs) (λ n.
    and_then (read_rising bs 0 (n - 1)) (λ _.
    cond (rules_end bs n == length bs)
    (and_then (read_rule_entries bs) (λ xs. Ok xs.0))
    (Err (fault Ends 0 (rules_end bs n)))))

abbrev pub read_fact_entry : List ℕ → ℕ → ℕ → Result Formula Fault
read_fact_entry bs i p =
    cond (fact_place bs i == p)
    (above (λ a. in_volume i (entry_fault a)) (read_atom Facts bs (length bs) p))
    (Err (fault Misplaced i (3 + 2 * i)))

abbrev pub read_fact_entries : List ℕ → Result (List Formula × ℕ) Fault
read_fact_entries bs = read_run (read_fact_entry bs) (λ _ p a. p + span a) 0 (contents_end Facts bs) (count bs)

abbrev pub read_facts : List ℕ → Result (List Formula) Fault
read_facts bs =
    and_then (read_count Facts bs) (λ _.
    and_then (read_fact_entries bs) (λ xs. cond (xs.1 == length bs) (Ok xs.0) (Err (fault Ends 0 xs.1))))
