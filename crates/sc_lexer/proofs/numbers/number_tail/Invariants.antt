-- What is passed, with what goes on from here, is all that goes on.
use Rattle.std.proofs.Common.{◌≡◌, ◌+◌, drop}
use Rattle.sc_tree.specs.Pieces.{number_tail}
use Rattle.sc_lexer.proofs.numbers.number_tail.Given as goal

abbrev pub invariant-loop-at : goal.invariant-loop-at
invariant-loop-at l = l.at + number_tail l.last (drop l.at l.bytes) ≡ number_tail l.fn.first l.bytes
