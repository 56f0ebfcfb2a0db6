use Rattle.std.proofs.Common.{◌≡◌, drop, map}
use Rattle.sc_world.specs.View.{dec}
use Rattle.sc_gather.specs.Seen.{source_of}
use Rattle.program_plan.specs.Marks.{mark_declarators}
use Rattle.program_plan.proofs.statements.declarators.Given as goal

abbrev pub invariant-loop-d : goal.invariant-loop-d
invariant-loop-d l =
    mark_declarators (source_of l.here) (map (dec (source_of l.here).structs) (drop l.d-index l.declarators)) l.marks
    ≡ mark_declarators (source_of l.fn.here) (map (dec (source_of l.fn.here).structs) l.fn.declarators) l.fn.marks
