use Rattle.std.proofs.Common.{take}
use Rattle.gate_values.specs.Operators.{HasTests}
use Rattle.gate_values.proofs.pointers.tests_of.Given as goal

-- a gate for each pair so far
abbrev pub invariant-loop-pair : goal.invariant-loop-pair
invariant-loop-pair l =
    record {
      so_far : HasTests l.net (take l.pair-index l.pairs) l.b.pairs.items l.tests.items;
    }
