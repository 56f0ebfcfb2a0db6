-- What is passed, with what stands up to the closing bracket from here, is what stands up to it from the start.
use Rattle.std.proofs.Common.{◌≡◌, ◌+◌, ◌≤◌, drop}
use Rattle.sc_tree.specs.Removal.{closing_len}
use Rattle.sc_lexer.proofs.removal.closing_len.Given as goal

abbrev pub invariant-loop-at : goal.invariant-loop-at
invariant-loop-at l = (l.at + closing_len l.depth (drop l.at l.tokens) ≡ closing_len l.from l.tokens) × (l.depth ≤ l.from + l.at)
