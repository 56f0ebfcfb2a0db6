-- Each live clause is read at its new place.
use Rattle.std.proofs.Common.{arith}
use Rattle.sat_clauses.proofs.HeldLemmas.{some_of}
use Rattle.sat_clauses.proofs.LearntLemmas.{table-moved, thins_moved}
use Rattle.sat_clauses.proofs.learnt.lay_out.Goals as goal

pub follow-requires : goal.follow-requires
follow-requires c i r h =
    let l = some_of _ (c.requires.table.live i r h) in
    let low = (c.compact.ensures.read r.at l.0 l.1).0 in
    let size = c.compact.ensures.table in
    omega (arith, low, size)

pub returns-clause-table : goal.returns-clause-table
returns-clause-table c =
    table-moved c.args.pool.now c.compact.new.self c.compact.new.moved.places c.args.table.now.items c.follow.new.table.items c.requires.table c.follow.ensures
    (λ q d h. (c.compact.ensures.read q d h).1) c.compact.ensures.apart

pub returns-clause-thins : goal.returns-clause-thins
returns-clause-thins c =
    thins_moved c.args.pool.now c.compact.new.self c.compact.new.moved.places c.args.table.now.items c.follow.new.table.items c.requires.table c.follow.ensures
    (λ q d h. (c.compact.ensures.read q d h).1) c.compact.ensures.apart
