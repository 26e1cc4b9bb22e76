use Rattle.std.proofs.Common.{◌++◌, Bool, false, List, replicate, refl, sym, subst}
use borrow.Rule.Slice.PartMut.{put_mid}
use Rattle.rules.specs.Bounds.{existential?, FlagsAre}
use Rattle.rules.specs.Rules.{meaning}
use Rattle.reliances.specs.Searching.{rigid_for}
use Rattle.reliances.proofs.Rigid.{flags_positive, flags_restraint}
use Rattle.reliances.proofs.substitution.rigid_slots.Goals as goal

-- the flags from the thirteenth on, which are none at first
abbrev unset : List Bool
unset = replicate 24 false

pub returns-in-Positive : goal.returns-in-Positive
returns-in-Positive c =
    let A = c.args.a.now in
    let B = c.args.b.now in
    subst (λ k. FlagsAre (c.copy_from_slice.new.self ++ unset) (rigid_for k (meaning A) (meaning B))) (sym c.in-Positive.is)
    (flags_positive A B c.copy_from_slice.new.self unset (subst (λ z. FlagsAre z (existential? (meaning A))) (sym c.copy_from_slice.ensures.after) c.existential_flags.ensures) c.copy_from_slice.ensures.len refl)

pub returns-in-Restraint : goal.returns-in-Restraint
returns-in-Restraint c =
    let A = c.args.a.now in
    let B = c.args.b.now in
    let first = c.copy_from_slice.new.self in
    let second = c.copy_from_slice-in-Restraint.new.self in
    subst (λ k. FlagsAre (put_mid 12 12 (first ++ unset) second) (rigid_for k (meaning A) (meaning B))) (sym c.in-Restraint.is)
    (flags_restraint A B first unset (subst (λ z. FlagsAre z (existential? (meaning A))) (sym c.copy_from_slice.ensures.after) c.existential_flags.ensures) c.copy_from_slice.ensures.len refl
    second (subst (λ z. FlagsAre z (existential? (meaning B))) (sym c.copy_from_slice-in-Restraint.ensures.after) c.existential_flags-in-Restraint.ensures) c.copy_from_slice-in-Restraint.ensures.len refl)
