use Rattle.std.proofs.Common.{◌≡◌, Some}
use Rattle.sc_parse_expr.specs.Read.{read}
use Rattle.sc_parse_expr.specs.Reading.{operators}
use Rattle.sc_parse_expr.specs.Nests.{below}
use Rattle.sc_parse_expr.proofs.grammar.Grammar.operators.Given as goal

abbrev pub invariant-loop-stronger : goal.invariant-loop-stronger
invariant-loop-stronger g l = operators l.self.types.now l.self.limit (below l.self.types.now l.self.limit) l.stronger l.fn.tokens
    ≡ Some (read l.a.it l.a.height l.tokens)
