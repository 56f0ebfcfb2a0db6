use Rattle.std.proofs.Common.{◌≡◌, ◌++◌, [], drop, length}
use Rattle.sc_tree.specs.Segments.{Cuts}
use Rattle.sc_parse_unit.specs.Reading.{segments_of}
use Rattle.sc_parse_unit.proofs.segments.unit.Given as goal

-- the segments so far, and those that are still to be read, are all of them
abbrev pub invariant-loop-end : goal.invariant-loop-end
invariant-loop-end l =
    (segments_of [] l.tokens.list 0 l.tokens.ends ≡ l.segments ++ segments_of l.types l.tokens.list l.from (drop l.end-index l.tokens.ends))
    × Cuts l.from (length l.tokens.list) (drop l.end-index l.tokens.ends)
