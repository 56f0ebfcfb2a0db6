use Rattle.gate_states.proofs.Staying.{items_stay}
use Rattle.gate_known.proofs.Acting.{goes_apart}
use Rattle.gate_known.proofs.acts.unless_met.Goals as goal

pub meet_twice-requires : goal.meet_twice-requires
meet_twice-requires c = record { found = c.requires.called.locks }

pub meet_twice-requires-2 : goal.meet_twice-requires-2
meet_twice-requires-2 c =
    record { found = items_stay c.args.net.now c.meet_twice.new.net c.args.called.now.outs.now c.in_ok-locks.ensures.grown.longer c.requires.called.outs }

pub returns-clause-ok : goal.returns-clause-ok
returns-clause-ok c =
    goes_apart c.meet_twice.new.net c.meet_twice-2.new.net c.or.new.self c.not.new.self _ c.args.called.now c.in_ok-locks.locks.at c.in_ok-outs.outs.at
    c.in_ok-met.met.at c.in_ok-apart.apart.at _ _ c.in_ok-outs.ensures.grown c.in_ok-met.ensures.grown c.in_ok-apart.ensures.grown
    c.in_ok-unless.ensures.grown c.in_ok-locks.ensures.ok c.in_ok-outs.ensures.ok c.in_ok-met.ensures.ok c.in_ok-apart.ensures.ok c.in_ok-unless.ensures.ok
