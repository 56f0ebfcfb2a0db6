use Rattle.std.proofs.Common.{◌≡◌, ◌+◌, arith, ap, length, get_or, sym, ◌∙◌, subst, Some, None}
use Rattle.std.specs.Option.{IsSome}
use Rattle.std.specs.Arc.{arc_value}
use Rattle.plan_core.specs.Graph.{callees}
use Rattle.summary_db.specs.Views.{member}
use Rattle.summary_db.specs.Places.{Given, Spent, Rolled, slots_of}
use Rattle.summary_db.specs.Told.{IsOutput}
use Rattle.summary_db.proofs.Edges.{length_takes}
use Rattle.summary_db.proofs.Jobs.{same_value}
use Rattle.summary_db.proofs.Calls_kept.{job_next, some_from_and, and_value}
use Rattle.summary_db.proofs.db.Db.callee.Goals as goal

pub bounds-takes-k : goal.bounds-takes-k
bounds-takes-k g c =
    let d = c.args.self.now in let job = c.requires.job in
    let e = ap length c.takes-takes.ensures in let l = length_takes d.rows c.args.job.now.function job.inside in let k = c.requires.next.1 in omega arith

pub swap-output-requires-after_bounds : goal.swap-output-requires-after_bounds
swap-output-requires-after_bounds g c κs within =
    let a = job_next g.W.Work.defined c.args.self.now c.args.job.now c.requires.job c.args.k c.requires.next.0 c.requires.next.1 c.takes-takes.result.now c.takes-takes.ensures in
    (c.requires.job.table, (a.value, a.first))

pub unwrap-requires : goal.unwrap-requires
unwrap-requires g c =
    let a = job_next g.W.Work.defined c.args.self.now c.args.job.now c.requires.job c.args.k c.requires.next.0 c.requires.next.1 c.takes-takes.result.now c.takes-takes.ensures in
    let same = same_value c.args.job.now.seat.me.1 _ _ _ _ a.value c.swap-output.result a.first c.swap-output.ensures.old in
    subst IsSome same (some_from_and a.value _ a.output)

pub returns-clause-job : goal.returns-clause-job
returns-clause-job g c =
    let d = c.args.self.now in let job = c.requires.job in let s = c.swap-output.ensures.seat in let f = c.args.job.now.function in
    let a = job_next g.W.Work.defined c.args.self.now c.args.job.now c.requires.job c.args.k c.requires.next.0 c.requires.next.1 c.takes-takes.result.now c.takes-takes.ensures in
    let low = c.requires.next.1 in
    record {
      table = s.0 ∙ job.table;
      inside = job.inside;
      claim = ap (λ m. member f m.0.claims) s.2 ∙ job.claim;
      place = ap (λ m. m.0.place) s.2 ∙ job.place;
      asked = omega arith;
      slots =
          subst (λ m. Rolled (Given d.rows (IsOutput g.W.Work.defined (Some d.table.shared.key.work.value)) f) (Spent d.rows None f) (slots_of d.rows f) (c.args.k + 1) m.1) (sym s.2) a.on;
    }

pub returns-clause-output : goal.returns-clause-output
returns-clause-output g c =
    let d = c.args.self.now in
    let a = job_next g.W.Work.defined c.args.self.now c.args.job.now c.requires.job c.args.k c.requires.next.0 c.requires.next.1 c.takes-takes.result.now c.takes-takes.ensures in
    let same = same_value c.args.job.now.seat.me.1 _ _ _ _ a.value c.swap-output.result a.first c.swap-output.ensures.old in
    and_value a.value c.unwrap.result (λ x. arc_value x ≡ g.W.Work.defined d.table.shared.key.work.value (get_or (callees d.rows c.args.job.now.function) c.args.k 0)) (same ∙ c.unwrap.ensures) a.output

pub offset_bounds-takes-k : goal.offset_bounds-takes-k
offset_bounds-takes-k g c =
    let d = c.args.self.now in let job = c.requires.job in let t = c.takes-takes.type_inv in
    let e = ap length c.takes-takes.ensures in let l = length_takes d.rows c.args.job.now.function job.inside in let k = c.requires.next.1 in omega arith

pub overflow_add-job : goal.overflow_add-job
overflow_add-job g c =
    let d = c.args.self.now in let job = c.requires.job in let t = c.takes-takes.type_inv in
    let e = ap length c.takes-takes.ensures in let l = length_takes d.rows c.args.job.now.function job.inside in let k = c.requires.next.1 in omega arith
