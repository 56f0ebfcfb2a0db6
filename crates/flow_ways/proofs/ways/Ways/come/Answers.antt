use Rattle.std.proofs.Common.{ap, ◌∙◌, sym, arith, ◌++◌, subst}
use Rattle.std.specs.Option.{option_to_list}
use Rattle.flow_ways.specs.Held.{AllSplit, splits_top}
use Rattle.flow_ways.proofs.WayLemmas.{turned, turned_top}
use Rattle.flow_ways.proofs.ways.Ways.come.Goals as goal

pub loop-preserved : goal.loop-preserved
loop-preserved c =
    record {
      splits = c.in_ok-turn-in-Some.ensures.splits ∙ c.loop.invariant.splits;
      held = λ v a q. c.in_ok-turn-in-Some.ensures.ok v (subst (AllSplit v) (sym c.loop.invariant.splits) a) q ∙ (turned v c.loop.self.waits.items c.args.node _ _ c.in-Some.way (c.pop.ensures.items ∙ ap (λ o. c.pop.new.self.items ++ option_to_list o) c.in-Some.is) q ∙ c.loop.invariant.held v a q);
      waits = omega (arith, c.in_ok-turn-in-Some.ensures.waits, c.loop.invariant.waits, c.loop.invariant.todo, turned_top _ _ c.in-Some.way (c.pop.ensures.items ∙ ap (λ o. c.pop.new.self.items ++ option_to_list o) c.in-Some.is));
      todo = omega (arith, c.in_ok-turn-in-Some.ensures.todo, c.loop.invariant.todo, turned_top _ _ c.in-Some.way (c.pop.ensures.items ∙ ap (λ o. c.pop.new.self.items ++ option_to_list o) c.in-Some.is), ap splits_top c.loop.invariant.splits);
    }
