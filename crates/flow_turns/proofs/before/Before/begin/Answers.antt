use Rattle.flow_turns.proofs.Beginning.{begun}
use Rattle.flow_turns.proofs.before.Before.begin.Goals as goal

pub returns-clause-ok : goal.returns-clause-ok
returns-clause-ok c =
    begun c.args.net.now c.args.store c.args.blank c.in_ok-given.given c.args.locations c.args.temps c.args.slots c.in_ok-ways.ways c.in_ok-fates.fates c.in_ok-temps.temps
    c.in_ok-ways.ensures.held c.in_ok-fates.ensures c.in_ok-temps.ensures c.in_ok-given.ensures
