use Rattle.std.proofs.Common.{subst}
use Rattle.gl_sets.specs.Sets.{IsWhere}
use Rattle.layout_base.specs.Seen as laid
use Rattle.gate_places.specs.Checks.{HaveTests}
use Rattle.gate_paths.specs.Targets.{is_lost}
use Rattle.gate_paths.proofs.Moving.{is_usable}
use Rattle.gate_paths.proofs.objects.usable.Goals as goal

pub returns-clause-ok : goal.returns-clause-ok
returns-clause-ok c =
    is_usable c.go.new.net c.where_target.new.net c.join.new.net (laid.layout_of c.args.layout.now.places.now) c.args.store.now.locations.items
    c.args.pointer.now.pairs.items c.in_ok-real.real.pairs.items c.one-missing.result.pairs.items c.in_ok-made.made.pairs.items c.in_ok-tests.tests.items
    c.in_ok-lost.lost.at c.in_ok-lost.ensures.grown c.in_ok-made.ensures.grown c.in_ok-real.ensures.ok
    (subst (λ ps. HaveTests c.go.new.net c.args.store.now.locations.items (λ qs target. is_lost (laid.layout_of c.args.layout.now.places.now) qs target) ps
    c.in_ok-tests.tests.items)
    c.as_slice.ensures c.in_ok-tests.ensures)
    (subst (λ gs. IsWhere c.where_target.new.net c.in_ok-real.real.pairs.items gs c.in_ok-lost.lost.at) c.as_slice-2.ensures.value c.in_ok-lost.ensures.ok)
    c.one-missing.ensures.points c.in_ok-made.ensures.ok
