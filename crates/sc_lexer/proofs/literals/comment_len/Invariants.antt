-- What is passed, with what stands up to the end from here, is what stands up to it from the start.
use Rattle.std.proofs.Common.{◌≡◌, ◌+◌, drop}
use Rattle.std.specs.Prelude.{option_map}
use Rattle.sc_tree.specs.Literals.{comment_len}
use Rattle.sc_lexer.proofs.literals.comment_len.Given as goal

abbrev pub invariant-loop-at : goal.invariant-loop-at
invariant-loop-at l = option_map (λ n. l.at + n) (comment_len (drop l.at l.bytes)) ≡ comment_len l.bytes
