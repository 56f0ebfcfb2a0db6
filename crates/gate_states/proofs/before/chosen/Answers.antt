use Rattle.gate_states.proofs.Reading.{is_chosen}
use Rattle.gate_states.proofs.before.chosen.Goals as goal

pub returns-clause-ok : goal.returns-clause-ok
returns-clause-ok c =
    is_chosen c.args.net.now _ c.args.c.at c.args.a.now c.args.b.now c.in_ok-long.long.bits.items c.in_ok-other.other.bits.items _ c.in_ok-r.ensures.grown
    c.in_ok-long.ensures c.in_ok-other.ensures c.in_ok-r.ensures.ok
