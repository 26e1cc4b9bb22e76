use Rattle.rules.specs.Rules.{meaning}
use Rattle.reliances.proofs.SearchSteps.{answer_decides, answer_shows, answer_keeps}
use Rattle.reliances.proofs.asking.ask.Goals as goal

pub returns-clause-holds : goal.returns-clause-holds
returns-clause-holds c = answer_decides c.answer.result c.args.kind (meaning c.args.first.now) (meaning c.args.second.now) c.args.sheet.now c.answer.new.sheet c.answer.ensures

pub returns-clause-shown : goal.returns-clause-shown
returns-clause-shown c = answer_shows c.answer.result c.args.kind (meaning c.args.first.now) (meaning c.args.second.now) c.args.sheet.now c.answer.new.sheet c.answer.ensures

pub returns-clause-kept : goal.returns-clause-kept
returns-clause-kept c = answer_keeps c.answer.result c.args.kind (meaning c.args.first.now) (meaning c.args.second.now) c.args.sheet.now c.answer.new.sheet c.answer.ensures
