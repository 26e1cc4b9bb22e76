use Rattle.std.proofs.Common.{◌≡◌, ◌+◌, ◌*◌, ◌≤◌, length, take, Ok, sym, ◌∙◌, arith, length-set}
use Rattle.std.proofs.lemmas.List.{length-take, take_more_set, take-append-le}
use Rattle.std.proofs.lemmas.Result.{err_from_is_err_and}
use Rattle.volumes.specs.Reading.{read_term}
use Rattle.volumes.proofs.Loops.{reads_more, reads_stop, reads_done}
use Rattle.volumes.proofs.Moved.{read_there, past_more}
use Rattle.volumes.proofs.cursor.Cursor.terms.Goals as goal

pub returns-in_err-term-clause-value : goal.returns-in_err-term-clause-value
returns-in_err-term-clause-value c =
    let i = c.loop-term.term-index in
    let v = c.loop-term.invariant in
    let whole = v.whole in
    let p = err_from_is_err_and c.from_residual.result c.from_residual.ensures.1 in
    let long : length (take i c.loop-term.term-items) ≡ i = simp length-take (omega arith) in
    let wrong = read_there _ _ _ v.moved (read_term c.args.kind) _ c.in_err-term.ensures.value in
    rw (p.1, p.2) (reads_stop _ _ c.args.self.now.place _ i c.loop-term.self.place v.reads long c.args.arity _ (omega arith) wrong)

pub loop-term-preserved : goal.loop-term-preserved
loop-term-preserved c =
    let i = c.loop-term.term-index in
    let v = c.loop-term.invariant in
    let whole = v.whole in
    let q = c.in_ok-term.ensures in
    let m = q.moved in
    let long : length (take i c.loop-term.term-items) ≡ i = simp length-take (omega arith) in
    let here = read_there _ _ _ v.moved (read_term c.args.kind) _ q.value in
    record {
      whole = simp length-set v.whole;
      moved = past_more _ _ _ v.moved _ _ _ m (omega arith);
      reads = reads_more _ _ c.args.self.now.place _ i c.loop-term.self.place v.reads long _ _ _ here (sym m.place) (take_more_set c.loop-term.term-items i _ (omega arith));
    }

pub returns-clause-value : goal.returns-clause-value
returns-clause-value c =
    let i = c.loop-term.term-index in
    let v = c.loop-term.invariant in
    let whole = v.whole in
    let place = v.moved.place in
    let long : length (take i c.loop-term.term-items) ≡ i = simp length-take (omega arith) in
    let all : i ≡ c.args.arity = omega arith in
    let end : c.loop-term.self.place ≡ c.args.self.now.place + 3 * c.args.arity = omega arith in
    let fits : c.args.arity ≤ length c.loop-term.term-items = omega arith in
    rw take-append-le (reads_done _ _ c.args.self.now.place _ i c.loop-term.self.place v.reads long c.args.arity all
    ∙ (λ j. Ok (take (all j) c.loop-term.term-items, end j)))
