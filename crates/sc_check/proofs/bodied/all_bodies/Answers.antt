use Rattle.std.proofs.Common.{refl}
use Rattle.sc_tree.specs.declared.unit.Unit as file
use Rattle.sc_check.specs.Heres.{alone_here}
use Rattle.sc_check.specs.Bodied.{has_pair, bodies_at, bodies_over}
use Rattle.sc_check.proofs.Walked.{one_added}
use Rattle.sc_check.proofs.bodied.all_bodies.Goals as goal

pub loop-x-preserved : goal.loop-x-preserved
loop-x-preserved c =
    one_added (bodies_over (has_pair c.args.local.now) (alone_here c.args.w c.args.builtins.now))
    (λ (x : file.Unit).
    bodies_at (has_pair c.args.local.now) (alone_here c.args.w c.args.builtins.now x.file) x.segments)
    c.loop-x.bodies c.add_bodies.new.bodies _ c.args.units.now c.loop-x.x-index c.x-item.result (λ y ys. refl)
    c.x-item.is c.loop-x-test.true
    (rw c.as_slice.ensures at (rw c.alone_tables-here.ensures at c.in_ok-add_bodies.ensures)) c.loop-x.invariant
