use Rattle.std.proofs.Common.{◌≡◌, ◌∷◌, ◌++◌, length}
use Rattle.sc_parse_expr.specs.Reading.{strings, past_strings}
use Rattle.sc_parse_expr.proofs.primary.strings.Given as goal

abbrev pub invariant-loop-string : goal.invariant-loop-string
invariant-loop-string l = (l.all ++ strings l.tokens ≡ l.fn.first ∷ strings l.fn.tokens) × (past_strings l.tokens ≡ past_strings l.fn.tokens)

abbrev pub decreases-loop-string : goal.decreases-loop-string
decreases-loop-string l = length l.tokens
