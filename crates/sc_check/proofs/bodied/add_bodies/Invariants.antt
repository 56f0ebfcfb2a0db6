use Rattle.std.proofs.Common.{◌≡◌, ◌++◌, drop}
use Rattle.sc_typing.specs.Tables.{here_of}
use Rattle.sc_check.specs.Bodied.{has_pair, bodies_at}
use Rattle.sc_check.proofs.bodied.add_bodies.Given as goal

abbrev pub invariant-loop-s : goal.invariant-loop-s
invariant-loop-s l =
    l.bodies ++ bodies_at (has_pair l.local) (here_of l.here) (drop l.s-index l.ss)
    ≡ l.fn.bodies ++ bodies_at (has_pair l.fn.local) (here_of l.fn.here) l.fn.ss
