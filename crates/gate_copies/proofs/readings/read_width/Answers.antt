use Rattle.std.proofs.Common.{subst}
use Rattle.gl_store.specs.Steps.{IsLoaded}
use Rattle.run_store.specs.Concrete.{width_kind}
use Rattle.gate_copies.proofs.Counting.{is_guarded}
use Rattle.gate_copies.proofs.readings.read_width.Goals as goal

pub returns-clause-ok : goal.returns-clause-ok
returns-clause-ok c =
    is_guarded c.args.net.now _ c.load.new.net c.args.store.now.locations.items c.args.pointer.now.pairs.items c.args.number c.points-null.result.at _
    c.in_ok-when.ensures.grown c.in_ok-val.ensures.grown c.points-null.ensures c.in_ok-when.ensures.ok
    (subst (λ w. IsLoaded c.load.new.net c.args.store.now.locations.items c.args.pointer.now.pairs.items (width_kind w) c.in_ok-val.val) c.width_at-width.ensures
    c.in_ok-val.ensures.ok)
