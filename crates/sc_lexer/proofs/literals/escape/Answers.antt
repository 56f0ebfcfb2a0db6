use Rattle.sc_lexer.proofs.LiteralProofs.{escape_of_none}
use Rattle.sc_lexer.proofs.literals.escape.Goals as goal

pub returns-in-empty-clause-value : goal.returns-in-empty-clause-value
returns-in-empty-clause-value c = escape_of_none c.args.bytes.now c.in-empty.len_below
