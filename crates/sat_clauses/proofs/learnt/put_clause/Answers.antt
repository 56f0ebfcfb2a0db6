-- A number that has no clause, or a new one, gets the reference.
use Rattle.std.proofs.Common.{sym, subst}
use Rattle.sat_clauses.specs.Learnt.{entries, IsTable, Adds}
use Rattle.sat_clauses.proofs.LearntLemmas.{table-names, table-set, adds-none, adds-one}
use Rattle.sat_clauses.proofs.learnt.put_clause.Goals as goal

pub returns-in_err-number-clause-adds : goal.returns-in_err-number-clause-adds
returns-in_err-number-clause-adds c =
    adds-none c.args.pool.now c.args.pool.now c.args.table.now.items c.take_number.new.table.items c.args.clause.now c.requires c.take_number.ensures (λ q d h. h)

pub returns-in_err-r-clause-adds : goal.returns-in_err-r-clause-adds
returns-in_err-r-clause-adds c =
    adds-none c.args.pool.now c.put.new.self c.args.table.now.items c.take_number.new.table.items c.args.clause.now c.requires c.take_number.ensures
    c.put.ensures.kept

pub returns-clause-table : goal.returns-clause-table
returns-clause-table c =
    let before = table-names c.args.pool.now c.args.table.now.items c.take_number.new.table.items c.requires c.take_number.ensures in
    subst (IsTable c.put.new.self) (sym c.set_at.ensures)
    (table-set c.args.pool.now c.put.new.self c.take_number.new.table.items _ c.in_ok-r.r c.args.clause.now before c.put.ensures.kept c.in_ok-r.ensures.fresh
    c.in_ok-r.ensures.read)

pub returns-clause-adds : goal.returns-clause-adds
returns-clause-adds c =
    subst (λ t. Adds (entries c.args.pool.now c.args.table.now.items) (entries c.put.new.self t) c.args.clause.now) (sym c.set_at.ensures)
    (adds-one c.args.pool.now c.put.new.self c.args.table.now.items c.take_number.new.table.items _ c.in_ok-r.r c.args.clause.now c.requires
    c.take_number.ensures c.put.ensures.kept c.in_ok-r.ensures.read)
