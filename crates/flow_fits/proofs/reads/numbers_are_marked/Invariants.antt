use Rattle.std.proofs.Common.{◌≡◌, ◌+◌, ◌-◌, map}
use Rattle.flow_graph.specs.Conditions.{InTemp}
use Rattle.flow_graph.specs.Growing.{numbers}
use Rattle.flow_exits.specs.Marks.{marked}
use Rattle.flow_fits.specs.Voids.{each_temp}
use Rattle.flow_fits.proofs.reads.numbers_are_marked.Given as goal

-- the numbers from there on
abbrev pub invariant-loop-k : goal.invariant-loop-k
invariant-loop-k l =
    each_temp (marked l.flags) (map InTemp (numbers (l.numbers.first + l.k) (l.numbers.count - l.k)))
    ≡ each_temp (marked l.fn.flags) (map InTemp (numbers l.fn.numbers.first l.fn.numbers.count))
