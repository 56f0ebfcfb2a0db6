-- What the segments so far have made, with the segments that are left, is what all segments make.
use Rattle.std.proofs.Common.{◌≡◌, drop}
use Rattle.sc_declare.specs.Numbers.{keys_of}
use Rattle.sc_typing.specs.Tables.{here_of}
use Rattle.sc_check.specs.Files.{segments_in}
use Rattle.sc_check.specs.Parts.{made}
use Rattle.sc_check.proofs.files.segments.Given as goal

abbrev pub invariant-loop-s : goal.invariant-loop-s
invariant-loop-s l = record {
  made :
      segments_in (here_of l.here) (made l.functions l.notes) (drop l.s-index l.ss) l.walk
      ≡ segments_in (here_of l.fn.here) (made l.fn.functions l.fn.notes) l.fn.ss l.fn.walk;
  tied : l.numbers ≡ keys_of l.walk.globals;
}
