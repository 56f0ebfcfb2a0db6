use Rattle.std.proofs.Common.{◌≡◌, ◌+◌, ◌-◌, ◌<◌, arith, length, ap, sym, ◌∙◌, subst, Some, None, get_or, ℕ}
use Rattle.std.specs.Slots.{slots_items}
use Rattle.summary_db.specs.Places.{IsLaidOut, places_of}
use Rattle.summary_db.specs.Told.{IsOutput}
use Rattle.summary_db.proofs.Edges.{places_many}
use Rattle.summary_db.proofs.Calls_kept.{end_output}
use Rattle.summary_db.proofs.db.Db.close.Goals as goal

pub overflow_sub-first : goal.overflow_sub-first
overflow_sub-first g c =
    let d = c.args.self in
    let many = places_many d.rows in let count = d.listed.count in let len = c.len.ensures in omega arith

pub drain-requires-clause-count : goal.drain-requires-clause-count
drain-requires-clause-count g c =
    let d = c.args.self in
    let many = places_many d.rows in let count = d.listed.count in let len = c.len.ensures in
    let slots = c.close_with-closed.ensures.counts.1 in let s = d.slots in let r = d.roomy in omega arith

pub returns-clause-count : goal.returns-clause-count
returns-clause-count g c =
    let d = c.args.self in let n = c.drain.ensures.count in let ok = c.drain.result.ok.0 in let r = d.roomy in omega arith

pub returns-clause-outputs : goal.returns-clause-outputs
returns-clause-outputs g c f low has =
    let d = c.args.self in
    let rows = d.table.shared.key.plan.value.callees in
    let good = IsOutput g.W.Work.defined (Some d.table.shared.key.work.value) in
    let same : length d.rows ≡ length rows = ap length d.planned in
    let final = c.close_with-closed.ensures.values.2 in
    let many = places_many rows in
    let count : d.lay.count ≡ length (places_of rows) = d.listed.count ∙ ap (λ rs. length (places_of rs)) d.planned in
    let len : c.len.result ≡ length d.rows = c.len.ensures in
    let first : (d.lay.count - c.len.result) + length rows ≡ length (places_of rows) = omega arith in
    let r = d.roomy in
    end_output rows None good final.0 final.1.0 (subst IsLaidOut d.planned d.laid) c.args.pass.seat.id c.args.pass.seat.me.0 final.1.1 f (omega arith) has
    (slots_items c.close_with-closed.result.slots) final.4 (d.lay.count - c.len.result) first (get_or c.drain.result.items f None) (c.drain.ensures.values f (omega arith))
