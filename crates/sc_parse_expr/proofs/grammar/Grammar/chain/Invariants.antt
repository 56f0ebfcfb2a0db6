use Rattle.std.proofs.Common.{◌≡◌, ◌-◌}
use Rattle.sc_parse_expr.specs.Read.{read}
use Rattle.sc_parse_expr.specs.Reading.{chain}
use Rattle.sc_parse_expr.specs.Nests.{below}
use Rattle.sc_parse_expr.proofs.grammar.Grammar.chain.Given as goal

-- what is still to be read gives what all gives
abbrev pub invariant-loop-turn : goal.invariant-loop-turn
invariant-loop-turn g l =
    chain l.self.types.now l.self.limit (below l.self.types.now l.self.limit) l.self.limit l.stronger l.begin (read l.fn.first.it l.fn.first.height l.fn.tokens)
    ≡ chain l.self.types.now l.self.limit (below l.self.types.now l.self.limit) (l.self.limit - l._turn) l.stronger l.begin (read l.a.it l.a.height l.tokens)
