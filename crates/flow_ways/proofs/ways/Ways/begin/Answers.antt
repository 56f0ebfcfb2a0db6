use Rattle.std.proofs.Common.{[], ◌∷◌, ◌++◌, ap, arith}
use Rattle.flow_ways.specs.Held.{ways_top, splits_top}
use Rattle.flow_ways.proofs.WayLemmas.{ways_top_nil, ways_top_first, splits_top_nil}
use Rattle.flow_ways.proofs.ways.Ways.begin.Goals as goal

pub returns-clause-within : goal.returns-clause-within
returns-clause-within c = record {
  waits = omega (arith, ap ways_top c.in_ok-push.ensures.items, ap (λ ws. ways_top (ws ++ record { node = c.args.node; gate = c.constant-gate.result; split = 4294967295 } ∷ [])) c.new-waits.ensures.items, ways_top_first (record { node = c.args.node; gate = c.constant-gate.result; split = 4294967295 }) [], ways_top_nil, c.constant-gate.ensures.below);
  splits = omega (arith, ap splits_top c.new.ensures.items, splits_top_nil);
}
