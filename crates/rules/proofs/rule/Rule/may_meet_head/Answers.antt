use Rattle.rules.proofs.rule.Rule.may_meet_head.Goals as goal

pub returns : goal.returns
returns c = c.have_common.ensures _ _ c.args.self.now.in_head_marks c.args.other.now.in_head_marks
