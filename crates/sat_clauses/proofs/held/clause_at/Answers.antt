-- The reference of this number is live.
use Rattle.std.proofs.Common.{sym}
use Rattle.sat_clauses.proofs.HeldLemmas.{live_at, clause_at, get_past}
use Rattle.sat_clauses.proofs.held.clause_at.Goals as goal

pub get-requires : goal.get-requires
get-requires c = live_at _ c.args.refs.now c.args.i c.in-Some.r c.requires (sym c.in-Some.ensures)

pub returns-in-Some : goal.returns-in-Some
returns-in-Some c = clause_at _ c.args.refs.now c.args.i c.in-Some.r _ (sym c.in-Some.ensures) c.get.ensures

pub returns-in-None : goal.returns-in-None
returns-in-None c = get_past c.args.refs.now c.args.i (sym c.in-None.ensures)
