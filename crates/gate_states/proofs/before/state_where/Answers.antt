use Rattle.std.proofs.Common.{◌-◌, arith}
use Rattle.run_world.specs.Seen as seen
use Rattle.gate_states.proofs.Reading.{there_where}
use Rattle.gate_states.proofs.before.state_where.Goals as goal

pub returns-clause-ok : goal.returns-clause-ok
returns-clause-ok c =
    there_where (seen.env c.args.here.now).layout _ c.args.store.now.locations.items c.args.pair (c.args.pair.target - 1) _ _ _ _ c.args.state.now.bits.items _
    (omega arith) c.state_cell.ensures c.word_at-bits.ensures c.deref.ensures.value c.in_ok-r.ensures.ok
