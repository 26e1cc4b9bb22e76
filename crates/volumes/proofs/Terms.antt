-- A term that is read is the one that stands there, and a fault is the first one there.
use Rattle.std.proofs.Common.{◌≡◌, ℕ, ◌+◌, ◌≤◌, List, Ok, Err, Result, refl, inl, inr, ⊎_elim, arith}
use Rattle.std.proofs.lemmas.Bool.Decides.{nat_tests}
use Rattle.std.proofs.lemmas.Bool.{cases_lt, cases_eq}
use Rattle.rules.specs.declared.Term.{Term}
use Rattle.rules.specs.declared.Term.TheVariants.{Constant, Variable, Null}
use Rattle.volumes.specs.declared.kind.VolumeKind.{VolumeKind}
use Rattle.volumes.specs.declared.kind.VolumeKind.TheVariants.{Rules, Facts}
use Rattle.faults.specs.declared.TermFault.{TermFault}
use Rattle.faults.specs.declared.TermFault.TheVariants.{Ended, Kind, Number}
use Rattle.faults.specs.Faults.{cut_at}
use Rattle.volumes.specs.Layout.{at, pair, other_kind, TermWrong, TermSays}
use Rattle.volumes.specs.Reading.{read_term}
use Rattle.volumes.proofs.Steps.{said}

term_ok : (k : VolumeKind) (bs : List ℕ) (e p : ℕ) (t : Term) → TermSays k bs e p (Ok t) → read_term k bs e p ≡ Ok t
term_ok Rules bs e p (Constant n) h = grind (arith, nat_tests)
term_ok Rules bs e p (Variable n) h = grind (arith, nat_tests)
term_ok Rules bs e p (Null n) h = let a : Rules ≡ Facts = h.1.0 in let z : ◌≡◌ {A = ℕ} 0 1 = cc in absurd (omega arith)
term_ok Facts bs e p (Constant n) h = grind (arith, nat_tests)
term_ok Facts bs e p (Variable n) h = let a : Facts ≡ Rules = h.1.0 in let z : ◌≡◌ {A = ℕ} 0 1 = cc in absurd (omega arith)
term_ok Facts bs e p (Null n) h = grind (arith, nat_tests)

term_err : (k : VolumeKind) (bs : List ℕ) (e p : ℕ) (f : TermFault) → TermWrong k bs e p f → read_term k bs e p ≡ Err f
term_err Rules bs e p f (TermWrong.no_kind a is) = grind (arith, nat_tests)
term_err Rules bs e p f (TermWrong.wrong_kind a b is) = grind (arith, nat_tests)
term_err Rules bs e p f (TermWrong.no_number a b d is) = grind (arith, nat_tests)
term_err Rules bs e p f (TermWrong.wrong_number a k b d is) = grind (arith, nat_tests)
term_err Facts bs e p f (TermWrong.no_kind a is) = grind (arith, nat_tests)
term_err Facts bs e p f (TermWrong.wrong_kind a b is) = grind (arith, nat_tests)
term_err Facts bs e p f (TermWrong.no_number a b d is) = grind (arith, nat_tests)
term_err Facts bs e p f (TermWrong.wrong_number a k b d is) = let z : ◌≡◌ {A = ℕ} 0 1 = cc in absurd (omega arith)

pub term_only : (k : VolumeKind) (bs : List ℕ) (e p : ℕ) (r : Result Term TermFault) → TermSays k bs e p r → read_term k bs e p ≡ r
term_only k bs e p (Ok t) h = term_ok k bs e p t h
term_only k bs e p (Err f) h = term_err k bs e p f h

-- what a whole term of the kind that is no constant's is
other_some : (k : VolumeKind) (bs : List ℕ) (e p : ℕ) → p + 3 ≤ e → at bs p ≡ other_kind k → (r : Result Term TermFault) × TermSays k bs e p r
other_some Rules bs e p a z =
    ⊎_elim
    (λ l. (Err (Number (p + 1)), TermWrong.wrong_number a refl z l refl))
    (λ l. (Ok (Variable (pair bs (p + 1))), (a, (refl, z, refl, l))))
    (cases_lt 11 (pair bs (p + 1)))
other_some Facts bs e p a z = (Ok (Null (pair bs (p + 1))), (a, (refl, z, refl)))

term_some : (k : VolumeKind) (bs : List ℕ) (e p : ℕ) → (r : Result Term TermFault) × TermSays k bs e p r
term_some k bs e p =
    ⊎_elim
    (λ l. (Err (Ended (cut_at e)), TermWrong.no_kind l refl))
    (λ a. ⊎_elim
    (λ z. ⊎_elim
    (λ l. (Err (Ended (cut_at e)), TermWrong.no_number a (inl z) l refl))
    (λ b. (Ok (Constant (pair bs (p + 1))), (b, (z, refl))))
    (cases_lt e (p + 3)))
    (λ n. ⊎_elim
    (λ z. ⊎_elim
    (λ l. (Err (Ended (cut_at e)), TermWrong.no_number a (inr z) l refl))
    (λ b. other_some k bs e p b z)
    (cases_lt e (p + 3)))
    (λ m. (Err (Kind p), TermWrong.wrong_kind a (⊎_elim n m) refl))
    (cases_eq (at bs p) (other_kind k)))
    (cases_eq (at bs p) 0))
    (cases_lt e (p + 1))

pub term_right : (k : VolumeKind) (bs : List ℕ) (e p : ℕ) → TermSays k bs e p (read_term k bs e p)
term_right k bs e p = said (TermSays k bs e p) (read_term k bs e p) (term_only k bs e p) (term_some k bs e p)
