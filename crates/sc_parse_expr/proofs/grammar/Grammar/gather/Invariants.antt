use Rattle.std.proofs.Common.{◌≡◌, ◌-◌, length}
use Rattle.sc_tree.specs.Specifiers.{no_pieces}
use Rattle.sc_parse_expr.specs.Reading.{gather}
use Rattle.sc_parse_expr.specs.Nests.{below}
use Rattle.sc_parse_expr.proofs.grammar.Grammar.gather.Given as goal

-- what is still to be read gives what all gives
abbrev pub invariant-loop-turn : goal.invariant-loop-turn
invariant-loop-turn g l =
    gather l.self.types.now l.self.limit (below l.self.types.now l.self.limit) (length l.fn.tokens) no_pieces 0 l.fn.tokens
    ≡ gather l.self.types.now l.self.limit (below l.self.types.now l.self.limit) (l._turn-end - l._turn) l.gathered l.height l.tokens
