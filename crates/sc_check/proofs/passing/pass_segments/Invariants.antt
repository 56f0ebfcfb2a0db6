-- What the segments that are left leave of the walk so far is what all segments leave.
use Rattle.std.proofs.Common.{◌≡◌, drop}
use Rattle.sc_declare.specs.Numbers.{keys_of}
use Rattle.sc_typing.specs.Tables.{here_of}
use Rattle.sc_check.specs.Left.{segments_left}
use Rattle.sc_check.proofs.passing.pass_segments.Given as goal

abbrev pub invariant-loop-s : goal.invariant-loop-s
invariant-loop-s l = record {
  left :
      segments_left (here_of l.here) (drop l.s-index l.ss) l.walk
      ≡ segments_left (here_of l.fn.here) l.fn.ss l.fn.walk;
  tied : l.numbers ≡ keys_of l.walk.globals;
}
