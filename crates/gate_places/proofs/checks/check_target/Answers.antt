use Rattle.std.proofs.Common.{subst}
use Rattle.gl_sets.specs.Sets.{IsWhere}
use Rattle.layout_base.specs.Seen as laid
use Rattle.sc_world.specs.View.{type}
use Rattle.gate_runs.specs.Stands.{IsEndedWhere}
use Rattle.gate_places.specs.Checks.{HaveTests, fails}
use Rattle.gate_places.proofs.Checking.{does_check}
use Rattle.gate_places.proofs.checks.check_target.Goals as goal

pub returns-clause-ok : goal.returns-clause-ok
returns-clause-ok c =
    does_check c.args.net.now c.where_target.new.net c.end_where.new.net (laid.layout_of c.args.places.now) (type c.args.t.now) c.args.store.now.locations.items c.args.check
    c.args.pointer.now.pairs.items c.in_ok-tests.tests.items c.in_ok-when.when.at c.args.ends.now c.end_where.new.self
    c.in_ok-when.ensures.grown c.in_ok-end_where.ensures.grown
    (subst (λ ps. HaveTests c.args.net.now c.args.store.now.locations.items (λ qs target. fails c.args.check (laid.layout_of c.args.places.now) (type c.args.t.now) qs target) ps c.in_ok-tests.tests.items)
    c.as_slice.ensures c.in_ok-tests.ensures)
    (subst (λ gs. IsWhere c.where_target.new.net c.args.pointer.now.pairs.items gs c.in_ok-when.when.at) c.as_slice-2.ensures.value c.in_ok-when.ensures.ok)
    (subst (λ r. IsEndedWhere c.end_where.new.net c.in_ok-when.when.at r c.args.ends.now c.end_where.new.self) c.reason_of.ensures c.in_ok-end_where.ensures.ok)
