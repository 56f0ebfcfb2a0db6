use Rattle.std.proofs.Common.{◌≡◌, ◌++◌, drop}
use Rattle.sc_check.specs.Heres.{alone_here}
use Rattle.sc_check.specs.Bodied.{has_pair, bodies_over}
use Rattle.sc_check.proofs.bodied.all_bodies.Given as goal

abbrev pub invariant-loop-x : goal.invariant-loop-x
invariant-loop-x l =
    l.bodies ++ bodies_over (has_pair l.local) (alone_here l.w l.builtins) (drop l.x-index l.units)
    ≡ bodies_over (has_pair l.fn.local) (alone_here l.fn.w l.fn.builtins) l.fn.units
