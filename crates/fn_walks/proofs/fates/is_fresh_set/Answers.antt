use Rattle.std.proofs.Common.{◌<◌, List, length, All, sym, ap, subst, ◌∙◌}
use Rattle.bit_net.specs.declared.nodes.Gate.{Gate}
use Rattle.gl_sets.specs.Sets.{IsWhere}
use Rattle.fn_walks.specs.Seen.{is_fresh_at}
use Rattle.fn_walks.specs.Walks.{AreTests}
use Rattle.fn_walks.proofs.Making.{all_below, set_shown}
use Rattle.fn_walks.proofs.fates.is_fresh_set.Goals as goal

pub where_target-requires-clause-wide : goal.where_target-requires-clause-wide
where_target-requires-clause-wide c = ap length c.as_slice-2.ensures.value ∙ (c.in_ok-tests.ensures.ok.wide ∙ ap length c.as_slice.ensures)

pub where_target-requires-clause-tests : goal.where_target-requires-clause-tests
where_target-requires-clause-tests c =
    subst (λ (gs : List Gate). All (λ g. g.at < length c.fresh_tests.new.net) gs) (sym c.as_slice-2.ensures.value)
    (all_below _ _ c.in_ok-tests.ensures.ok.below)

pub returns-clause-ok : goal.returns-clause-ok
returns-clause-ok c =
    set_shown c.args.around.now c.fresh_tests.new.net c.where_target.new.net (λ o t. is_fresh_at o c.args.walk.now.from t) c.args.set.now.pairs.items
    c.in_ok-tests.tests.items c.in_ok-fresh.fresh.at c.in_ok-fresh.ensures.grown
    (subst (λ ps. AreTests c.args.around.now c.fresh_tests.new.net (λ o t. is_fresh_at o c.args.walk.now.from t) ps c.in_ok-tests.tests.items)
    c.as_slice.ensures c.in_ok-tests.ensures.ok)
    (subst (λ gs. IsWhere c.where_target.new.net c.args.set.now.pairs.items gs c.in_ok-fresh.fresh.at) c.as_slice-2.ensures.value
    c.in_ok-fresh.ensures.ok)
