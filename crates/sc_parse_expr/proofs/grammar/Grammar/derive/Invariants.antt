use Rattle.std.proofs.Common.{◌≡◌, ◌-◌}
use Rattle.sc_parse_expr.specs.Read.{read}
use Rattle.sc_parse_expr.specs.Reading.{derive}
use Rattle.sc_parse_expr.specs.Nests.{below}
use Rattle.sc_parse_expr.proofs.grammar.Grammar.derive.Given as goal

-- what is still to be read gives what all gives
abbrev pub invariant-loop-turn : goal.invariant-loop-turn
invariant-loop-turn g l =
    derive l.self.types.now l.self.limit (below l.self.types.now l.self.limit) l.self.limit (read l.fn.first.it l.fn.first.height l.fn.tokens)
    ≡ derive l.self.types.now l.self.limit (below l.self.types.now l.self.limit) (l.self.limit - l._turn) (read l.a.it l.a.height l.tokens)
