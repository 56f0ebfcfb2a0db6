use Rattle.std.proofs.Common.{List, arith, subst}
use Rattle.bit_net.specs.Runs.{Gives}
use Rattle.flow_ways.specs.declared.ways.Way.{Way}
use Rattle.flow_ways.specs.Held.{any}
use Rattle.flow_turns.proofs.Past.{arrived_at}
use Rattle.flow_turns.proofs.before.Before.arrive.Goals as goal

pub returns-clause-ok : goal.returns-clause-ok
returns-clause-ok c =
    arrived_at _ _ c.args.node c.args.self.now c.leave.new.self (record { ways = c.in_ok-ways.ways; gate = c.in_ok-gate.gate }) c.in_ok-gate.ensures.grown c.in_ok-ways.ensures.ok
    (record {
      ways = omega (arith, c.in_ok-ways.ensures.taken, c.requires.gates.ways.waits, c.in_ok-gate.ensures.grown.longer);
      gate = subst (λ (ws : List Way). Gives c.any_of.new.net c.in_ok-gate.gate.at (λ choice v. any v ws)) c.deref.ensures.value c.in_ok-gate.ensures.ok;
    })
