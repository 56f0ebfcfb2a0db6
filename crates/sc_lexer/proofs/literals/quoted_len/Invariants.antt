-- What is passed, with what stands up to the quote from here, is what stands up to it from the start.
use Rattle.std.proofs.Common.{◌≡◌, ◌+◌, drop, false}
use Rattle.std.specs.Prelude.{option_map}
use Rattle.sc_tree.specs.Literals.{quoted_len}
use Rattle.sc_lexer.proofs.literals.quoted_len.Given as goal

abbrev pub invariant-loop-at : goal.invariant-loop-at
invariant-loop-at l = option_map (λ n. l.at + n) (quoted_len l.quote l.is_escaped (drop l.at l.bytes)) ≡ quoted_len l.quote false l.bytes
