-- The layout of volumes by places: what stands where in the bytes, and which fault is the first.
-- Each line of a `..Wrong` is one condition; what comes before it in the order of the checks is whole and right.
-- A `..Says` puts both together: of `Ok x`, that x is there, and of `Err f`, that f is wrong there.
-- bs are the bytes, p or s is where a thing begins, and e is where the part ends in which it has to stand.
use Rattle.std.specs.Prelude.{◌≡◌, ℕ, zero, suc, ◌+◌, ◌*◌, ◌<◌, ◌≤◌, ◌⊎◌, List, ◌++◌, length, Ok, Err, Result, ◌≢◌, slice_index}
use Rattle.rules.specs.declared.Term.{Term}
use Rattle.rules.specs.declared.Term.TheVariants.{Constant, Variable, Null}
use Rattle.rules.specs.Logic.{Formula, Implication, Numbered}
use Rattle.rules.specs.Bounds.{existentials}
use Rattle.volumes.specs.declared.kind.VolumeKind.{VolumeKind}
use Rattle.volumes.specs.declared.kind.VolumeKind.TheVariants.{Rules, Facts}
use Rattle.faults.specs.declared.TermFault.{TermFault}
use Rattle.faults.specs.declared.TermFault.TheVariants.{Ended, Kind, Number}
use Rattle.faults.specs.declared.AtomFault.{AtomFault}
use Rattle.faults.specs.declared.AtomFault.TheVariants.{CutShort, Arity}
use Rattle.faults.specs.declared.EntryFault.{EntryFault}
use Rattle.faults.specs.declared.EntryFault.TheVariants.{EntryEnded, Count, Left, Existentials}
use Rattle.faults.specs.declared.VolumeFault.TheVariants.{Short, FirstByte, TooMany, Ends, NotRising, Misplaced}
use Rattle.faults.specs.declared.Fault.{Fault}
use Rattle.faults.specs.Faults.{cut_at, atom_fault, entry_fault, fault, in_volume}
use Rattle.volumes.specs.Sequence.{Run}

-- the byte at a place
abbrev pub at : List ℕ → ℕ → ℕ
at bs p = slice_index bs p

-- the two-byte number at a place, high byte first
abbrev pub pair : List ℕ → ℕ → ℕ
pair bs p = 256 * at bs p + at bs (p + 1)

-- TERMS: the kind, a byte, and the number, two bytes.

-- the kind of a term besides constants, which are of kind 0: variables in rules, nulls in facts
abbrev pub other_kind : VolumeKind → ℕ
other_kind Rules = 1
other_kind Facts = 2

abbrev pub KindAllowed : VolumeKind → ℕ → Type 0
KindAllowed k b = (b ≡ 0) ⊎ (b ≡ other_kind k)

-- the term stands at p
abbrev pub TermAt : VolumeKind → List ℕ → ℕ → Term → Type 0
TermAt k bs p (Constant n) = (at bs p ≡ 0) × (pair bs (p + 1) ≡ n)
TermAt k bs p (Variable n) = (k ≡ Rules) × (at bs p ≡ 1) × (pair bs (p + 1) ≡ n) × (n ≤ 11)
TermAt k bs p (Null n) = (k ≡ Facts) × (at bs p ≡ 2) × (pair bs (p + 1) ≡ n)

-- f is wrong with the term at p
pub data TermWrong (k : VolumeKind) (bs : List ℕ) (e p : ℕ) (f : TermFault) : Type 0 where
  no_kind : e < p + 1 → f ≡ Ended (cut_at e) → TermWrong k bs e p f
  wrong_kind : p + 1 ≤ e → (KindAllowed k (at bs p) → ⊥) → f ≡ Kind p → TermWrong k bs e p f
  no_number : p + 1 ≤ e → KindAllowed k (at bs p) → e < p + 3 → f ≡ Ended (cut_at e) → TermWrong k bs e p f
  wrong_number : p + 3 ≤ e → k ≡ Rules → at bs p ≡ 1 → 11 < pair bs (p + 1) → f ≡ Number (p + 1) → TermWrong k bs e p f

abbrev pub TermSays : VolumeKind → List ℕ → ℕ → ℕ → Result Term TermFault → Type 0
TermSays k bs e p (Ok t) = (p + 3 ≤ e) × TermAt k bs p t
TermSays k bs e p (Err f) = TermWrong k bs e p f

-- ATOMS: the predicate, two bytes, the arity, a byte, and the terms.

-- an arity is 1 to 4
pub record ArityAllowed (n : ℕ) : Type 0 where
  pub some : 1 ≤ n
  pub few : n ≤ 4

-- predicate and arity are whole and right
pub record AtomBegins (bs : List ℕ) (e p : ℕ) : Type 0 where
  pub whole : p + 3 ≤ e
  pub arity : ArityAllowed (at bs (p + 2))

-- what the terms of the atom at p are
abbrev pub TermsSay : VolumeKind → List ℕ → ℕ → ℕ → Result (List Term × ℕ) TermFault → Type 0
TermsSay k bs e p r = Run (λ _ q t. TermSays k bs e q t) (λ _ q _. q + 3) 0 (p + 3) (at bs (p + 2)) r

-- the atom stands at p
pub record AtomStands (k : VolumeKind) (bs : List ℕ) (e p : ℕ) (a : Formula) : Type 0 where
  pub begins : AtomBegins bs e p
  pub predicate : a.predicate ≡ pair bs p
  pub terms : TermsSay k bs e p (Ok (a.terms, p + 3 + 3 * length a.terms))

-- f is wrong with the atom at p
pub data AtomWrong (k : VolumeKind) (bs : List ℕ) (e p : ℕ) (f : AtomFault) : Type 0 where
  no_beginning : e < p + 3 → f ≡ CutShort (cut_at e) → AtomWrong k bs e p f
  wrong_arity : p + 3 ≤ e → (ArityAllowed (at bs (p + 2)) → ⊥) → f ≡ Arity (p + 2) → AtomWrong k bs e p f
  wrong_term : AtomBegins bs e p → (t : TermFault) → TermsSay k bs e p (Err t) → f ≡ atom_fault t → AtomWrong k bs e p f

abbrev pub AtomSays : VolumeKind → List ℕ → ℕ → ℕ → Result Formula AtomFault → Type 0
AtomSays k bs e p (Ok a) = AtomStands k bs e p a
AtomSays k bs e p (Err f) = AtomWrong k bs e p f

-- how many bytes an atom takes
abbrev pub span : Formula → ℕ
span a = 3 + 3 * length a.terms

-- what n atoms from p on are
abbrev pub AtomsSay : VolumeKind → List ℕ → ℕ → ℕ → ℕ → Result (List Formula × ℕ) AtomFault → Type 0
AtomsSay k bs e p n r = Run (λ _ q a. AtomSays k bs e q a) (λ _ q a. q + span a) 0 p n r

-- RULES: the counts of body atoms and of head atoms, a byte each, and the atoms. A rule has the bytes from s to e.

-- one to six body atoms, and one to four head atoms
pub record BodyCount (n : ℕ) : Type 0 where
  pub some : 1 ≤ n
  pub few : n ≤ 6

pub record HeadCount (n : ℕ) : Type 0 where
  pub some : 1 ≤ n
  pub few : n ≤ 4

-- the counts are whole and right
pub record RuleBegins (bs : List ℕ) (e s : ℕ) : Type 0 where
  pub whole : s + 2 ≤ e
  pub bodies : BodyCount (at bs s)
  pub heads : HeadCount (at bs (s + 1))

-- what the atoms of the rule are
abbrev pub RuleAtomsSay : List ℕ → ℕ → ℕ → Result (List Formula × ℕ) AtomFault → Type 0
RuleAtomsSay bs e s r = AtomsSay Rules bs e (s + 2) (at bs s + at bs (s + 1)) r

-- the atoms of r, first the body's and then the head's, fill the bytes from s to e
pub record RuleFilled (bs : List ℕ) (e s : ℕ) (r : Implication) : Type 0 where
  pub begins : RuleBegins bs e s
  pub bodies : length r.body ≡ at bs s
  pub atoms : RuleAtomsSay bs e s (Ok (r.body ++ r.head, e))

-- the rule stands from s to e
pub record RuleStands (bs : List ℕ) (e s : ℕ) (r : Implication) : Type 0 where
  pub filled : RuleFilled bs e s r
  pub few_new : existentials r ≤ 4

-- f is wrong with the rule from s to e
pub data RuleWrong (bs : List ℕ) (e s : ℕ) (f : EntryFault) : Type 0 where
  no_counts : e < s + 2 → f ≡ EntryEnded (cut_at e) → RuleWrong bs e s f
  body_count : s + 2 ≤ e → (BodyCount (at bs s) → ⊥) → f ≡ Count s → RuleWrong bs e s f
  head_count : s + 2 ≤ e → BodyCount (at bs s) → (HeadCount (at bs (s + 1)) → ⊥) → f ≡ Count (s + 1) → RuleWrong bs e s f
  wrong_atom : RuleBegins bs e s → (a : AtomFault) → RuleAtomsSay bs e s (Err a) → f ≡ entry_fault a → RuleWrong bs e s f
  left_over : RuleBegins bs e s → (xs : List Formula) (q : ℕ) → RuleAtomsSay bs e s (Ok (xs, q)) → (q ≢ e) → f ≡ Left q → RuleWrong bs e s f
  many_new : (r : Implication) → RuleFilled bs e s r → 4 < existentials r → f ≡ Existentials s → RuleWrong bs e s f

abbrev pub RuleSays : List ℕ → ℕ → ℕ → Result Implication EntryFault → Type 0
RuleSays bs e s (Ok r) = RuleStands bs e s r
RuleSays bs e s (Err f) = RuleWrong bs e s f

-- VOLUMES: the first byte, the count, two bytes, the contents, and then the rules or facts end to end.

-- the first byte; the largest count; how many bytes the contents have for each entry
abbrev pub first_byte_of : VolumeKind → ℕ
first_byte_of Rules = 1
first_byte_of Facts = 2

abbrev pub most : VolumeKind → ℕ
most Rules = 64
most Facts = 2048

abbrev pub width : VolumeKind → ℕ
width Rules = 4
width Facts = 2

abbrev pub count : List ℕ → ℕ
count bs = pair bs 1

-- where the contents end
abbrev pub contents_end : VolumeKind → List ℕ → ℕ
contents_end k bs = 3 + width k * count bs

-- head and contents are whole and right
pub record ContentsWhole (k : VolumeKind) (bs : List ℕ) : Type 0 where
  pub head : 3 ≤ length bs
  pub first : at bs 0 ≡ first_byte_of k
  pub few : count bs ≤ most k
  pub whole : contents_end k bs ≤ length bs

-- f is wrong with the head or with the length of the contents
pub data ContentsWrong (k : VolumeKind) (bs : List ℕ) (f : Fault) : Type 0 where
  no_head : length bs < 3 → f ≡ fault Short 0 (length bs) → ContentsWrong k bs f
  first_byte : 3 ≤ length bs → (at bs 0 ≢ first_byte_of k) → f ≡ fault FirstByte 0 0 → ContentsWrong k bs f
  too_many : 3 ≤ length bs → at bs 0 ≡ first_byte_of k → most k < count bs → f ≡ fault TooMany 0 1 → ContentsWrong k bs f
  no_contents : 3 ≤ length bs → at bs 0 ≡ first_byte_of k → count bs ≤ most k → length bs < contents_end k bs → f ≡ fault Short 0 (length bs) → ContentsWrong k bs f

-- RULE VOLUMES: the contents have each rule's number and how many bytes it has.

-- the number and the length of the rule of index i
abbrev pub number : List ℕ → ℕ → ℕ
number bs i = pair bs (3 + 4 * i)

abbrev pub extent : List ℕ → ℕ → ℕ
extent bs i = pair bs (5 + 4 * i)

-- the first n numbers rise
abbrev pub Rising : List ℕ → ℕ → Type 0
Rising bs n = (i : ℕ) → i + 1 < n → number bs i < number bs (i + 1)

-- where the first n rules end, as the contents say
abbrev pub rules_end : List ℕ → ℕ → ℕ
rules_end bs zero = contents_end Rules bs
rules_end bs (suc n) = rules_end bs n + extent bs n

-- what the rule of index i is, whose bytes begin at s
abbrev pub RuleEntry : List ℕ → ℕ → ℕ → Result Numbered Fault → Type 0
RuleEntry bs i s (Ok x) = (x.number ≡ number bs i) × RuleSays bs (s + extent bs i) s (Ok x.rule)
RuleEntry bs i s (Err f) = (g : EntryFault) × RuleSays bs (s + extent bs i) s (Err g) × (f ≡ in_volume i g)

-- what the rules of the volume are
abbrev pub RulesSay : List ℕ → Result (List Numbered × ℕ) Fault → Type 0
RulesSay bs r = Run (RuleEntry bs) (λ i s _. s + extent bs i) 0 (contents_end Rules bs) (count bs) r

-- the contents are right, and the rules end where the volume does
pub record RulesBegin (bs : List ℕ) : Type 0 where
  pub contents : ContentsWhole Rules bs
  pub rising : Rising bs (count bs)
  pub ends : rules_end bs (count bs) ≡ length bs

-- the bytes are the volume of the rules xs
pub record EncodesRules (bs : List ℕ) (xs : List Numbered) : Type 0 where
  pub begins : RulesBegin bs
  pub rules : RulesSay bs (Ok (xs, length bs))

-- f is the first fault of the bytes as a rule volume
pub data RuleVolumeWrong (bs : List ℕ) (f : Fault) : Type 0 where
  contents : ContentsWrong Rules bs f → RuleVolumeWrong bs f
  not_rising : ContentsWhole Rules bs → (i : ℕ) → i + 1 < count bs → Rising bs (i + 1) → number bs (i + 1) ≤ number bs i → f ≡ fault NotRising (i + 1) (3 + 4 * (i + 1)) → RuleVolumeWrong bs f
  ends : ContentsWhole Rules bs → Rising bs (count bs) → (rules_end bs (count bs) ≢ length bs) → f ≡ fault Ends 0 (rules_end bs (count bs)) → RuleVolumeWrong bs f
  wrong_rule : RulesBegin bs → RulesSay bs (Err f) → RuleVolumeWrong bs f

abbrev pub RuleVolumeSays : List ℕ → Result (List Numbered) Fault → Type 0
RuleVolumeSays bs (Ok xs) = EncodesRules bs xs
RuleVolumeSays bs (Err f) = RuleVolumeWrong bs f

-- FACT VOLUMES: the contents have the place of each fact's first byte.

-- where the fact of index i begins, as the contents say
abbrev pub fact_place : List ℕ → ℕ → ℕ
fact_place bs i = pair bs (3 + 2 * i)

-- f is wrong with the fact of index i, where the one before it ends at p
pub data FactWrong (bs : List ℕ) (i p : ℕ) (f : Fault) : Type 0 where
  misplaced : (fact_place bs i ≢ p) → f ≡ fault Misplaced i (3 + 2 * i) → FactWrong bs i p f
  wrong_atom : fact_place bs i ≡ p → (a : AtomFault) → AtomSays Facts bs (length bs) p (Err a) → f ≡ in_volume i (entry_fault a) → FactWrong bs i p f

-- what the fact of index i is, where the one before it ends at p
abbrev pub FactEntry : List ℕ → ℕ → ℕ → Result Formula Fault → Type 0
FactEntry bs i p (Ok a) = (fact_place bs i ≡ p) × AtomSays Facts bs (length bs) p (Ok a)
FactEntry bs i p (Err f) = FactWrong bs i p f

-- what the facts of the volume are
abbrev pub FactsSay : List ℕ → Result (List Formula × ℕ) Fault → Type 0
FactsSay bs r = Run (FactEntry bs) (λ _ p a. p + span a) 0 (contents_end Facts bs) (count bs) r

-- the bytes are the volume of the facts xs
pub record EncodesFacts (bs : List ℕ) (xs : List Formula) : Type 0 where
  pub contents : ContentsWhole Facts bs
  pub facts : FactsSay bs (Ok (xs, length bs))

-- f is the first fault of the bytes as a fact volume
pub data FactVolumeWrong (bs : List ℕ) (f : Fault) : Type 0 where
  contents : ContentsWrong Facts bs f → FactVolumeWrong bs f
  wrong_fact : ContentsWhole Facts bs → FactsSay bs (Err f) → FactVolumeWrong bs f
  ends : ContentsWhole Facts bs → (xs : List Formula) (q : ℕ) → FactsSay bs (Ok (xs, q)) → (q ≢ length bs) → f ≡ fault Ends 0 q → FactVolumeWrong bs f

abbrev pub FactVolumeSays : List ℕ → Result (List Formula) Fault → Type 0
FactVolumeSays bs (Ok xs) = EncodesFacts bs xs
FactVolumeSays bs (Err f) = FactVolumeWrong bs f
