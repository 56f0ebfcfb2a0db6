use Rattle.std.proofs.Common.{◌∙◌, ap, subst, arith, List, [], ◌∷◌, ◌++◌}
use Rattle.flow_ways.specs.declared.ways.Way.{Way}
use Rattle.flow_ways.specs.Held.{ways_top}
use Rattle.flow_ways.specs.Steps.{Comes}
use Rattle.flow_ways.proofs.WayLemmas.{ways_top_first, ways_top_nil}
use Rattle.flow_ways.proofs.ways.Ways.come_alone.Goals as goal

pub returns-clause-ok : goal.returns-clause-ok
returns-clause-ok c = subst (λ (ws : List Way). Comes c.args.way.node ws c.args.self.now c.come.new.self) (c.in_ok-push.ensures.items ∙ ap (λ ws. ws ++ c.args.way ∷ []) c.new-alone.ensures.items) c.in_ok-come.ensures.ok

pub returns-clause-within : goal.returns-clause-within
returns-clause-within c = omega (
  arith,
  ap ways_top (c.in_ok-push.ensures.items ∙ ap (λ ws. ws ++ c.args.way ∷ []) c.new-alone.ensures.items),
  ways_top_first c.args.way [],
  ways_top_nil,
  c.in_ok-come.ensures.within,
)
