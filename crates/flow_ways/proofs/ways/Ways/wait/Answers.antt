use Rattle.std.proofs.Common.{◌∙◌, ap, arith}
use Rattle.flow_ways.specs.Held.{held, ways_top}
use Rattle.flow_ways.proofs.WayLemmas.{held_push, ways_top_push}
use Rattle.flow_ways.proofs.ways.Ways.wait.Goals as goal

pub returns-clause-ok : goal.returns-clause-ok
returns-clause-ok c = λ v q. ap (λ ws. held v ws q) c.in_ok-push.ensures.items ∙ held_push v c.args.self.now.waits.items _ q

pub returns-clause-waits : goal.returns-clause-waits
returns-clause-waits c = omega (arith, ap ways_top c.in_ok-push.ensures.items, ways_top_push c.args.self.now.waits.items (record { node = c.args.node; gate = c.args.way.gate; split = c.args.way.split }))
