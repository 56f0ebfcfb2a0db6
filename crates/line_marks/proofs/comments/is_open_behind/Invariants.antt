-- Behind the bytes so far.
use Rattle.std.proofs.Common.{◌≡◌, take, fold}
use Rattle.line_marks.specs.Comments.{stepped}
use Rattle.line_marks.proofs.comments.is_open_behind.Given as goal

abbrev pub invariant-loop-byte : goal.invariant-loop-byte
invariant-loop-byte l = l.inside ≡ fold stepped l.fn.at (take l.byte-index l.line)
