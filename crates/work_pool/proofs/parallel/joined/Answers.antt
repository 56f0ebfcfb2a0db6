-- What is popped is a pass without open jobs, and joining it takes nothing away.
use Rattle.std.proofs.Common.{length}
use Rattle.summary_db.specs.Passes.{rows_of, view}
use Rattle.work_pool.specs.Workers.{IsIdle, HasCause}
use Rattle.work_pool.proofs.Visits.{popped, both_kept}
use Rattle.work_pool.proofs.parallel.joined.Goals as goal

pub join-requires-after_bounds : goal.join-requires-after_bounds
join-requires-after_bounds g c κs within =
    let p = popped (λ e. IsIdle c.args.db.now e.0 × HasCause (length (rows_of c.args.db.now)) e.0 e.1)
    c.loop-other.ended.items c.pop.new.self.items c.pop.result (c.in-Some.other, c.in-Some.end)
    c.pop.ensures.items c.in-Some.is c.loop-other.invariant.left in
    (c.loop-other.invariant.idle.0, p.1.0.0)

pub loop-other-preserved : goal.loop-other-preserved
loop-other-preserved g c =
    let p = popped (λ e. IsIdle c.args.db.now e.0 × HasCause (length (rows_of c.args.db.now)) e.0 e.1)
    c.loop-other.ended.items c.pop.new.self.items c.pop.result (c.in-Some.other, c.in-Some.end)
    c.pop.ensures.items c.in-Some.is c.loop-other.invariant.left in
    let kept = both_kept (length (rows_of c.args.db.now)) (view c.loop-other.pass) (view c.in-Some.other) (view c.join.new.into)
    c.loop-other.invariant.idle.1 p.1.0.1 c.loop-other.invariant.saw c.join.ensures.both in
    record {
      idle = (c.join.ensures.pass, kept.0);
      saw = kept.1;
      left = p.0;
    }
