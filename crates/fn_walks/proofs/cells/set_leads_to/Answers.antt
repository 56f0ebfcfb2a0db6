use Rattle.std.proofs.Common.{◌<◌, List, length, All, sym, ap, subst, ◌∙◌}
use Rattle.bit_net.specs.declared.nodes.Gate.{Gate}
use Rattle.gl_sets.specs.Sets.{IsWhere}
use Rattle.fn_walks.specs.Seen.{is_object}
use Rattle.fn_walks.specs.Walks.{AreTests}
use Rattle.fn_walks.proofs.Making.{all_below, set_shown}
use Rattle.fn_walks.proofs.cells.set_leads_to.Goals as goal

pub where_target-requires-clause-wide : goal.where_target-requires-clause-wide
where_target-requires-clause-wide c = ap length c.as_slice-2.ensures.value ∙ (c.in_ok-tests.ensures.wide ∙ ap length c.as_slice.ensures)

pub where_target-requires-clause-tests : goal.where_target-requires-clause-tests
where_target-requires-clause-tests c =
    subst (λ (gs : List Gate). All (λ g. g.at < length c.args.net.now) gs) (sym c.as_slice-2.ensures.value) (all_below _ _ c.in_ok-tests.ensures.below)

pub returns-clause-ok : goal.returns-clause-ok
returns-clause-ok c =
    set_shown c.args.around.now c.args.net.now c.where_target.new.net (λ o t. is_object o.layout t c.args.n) c.args.set.now.pairs.items
    c.in_ok-tests.tests.items c.in_ok-leads.leads.at c.in_ok-leads.ensures.grown
    (subst (λ ps. AreTests c.args.around.now c.args.net.now (λ o t. is_object o.layout t c.args.n) ps c.in_ok-tests.tests.items) c.as_slice.ensures
    c.in_ok-tests.ensures)
    (subst (λ gs. IsWhere c.where_target.new.net c.args.set.now.pairs.items gs c.in_ok-leads.leads.at) c.as_slice-2.ensures.value
    c.in_ok-leads.ensures.ok)
