-- The way so far, with that of the designators that are left, is the way of all.
use Rattle.std.proofs.Common.{◌≡◌, drop}
use Rattle.sc_typing.specs.Tables.{here_of}
use Rattle.sc_lengths.specs.Designators.{designated}
use Rattle.sc_lengths.proofs.Ahead.{ahead}
use Rattle.sc_lengths.proofs.designators.designated.Given as goal

abbrev pub invariant-loop-d : goal.invariant-loop-d
invariant-loop-d l =
    ahead l.way (designated (here_of l.here) l.at (drop l.d-index l.designators) l.walk)
    ≡ designated (here_of l.fn.here) l.fn.t l.fn.designators l.fn.walk
