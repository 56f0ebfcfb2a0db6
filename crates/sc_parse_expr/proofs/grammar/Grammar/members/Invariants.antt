use Rattle.std.proofs.Common.{◌≡◌, ◌-◌, [], length}
use Rattle.sc_parse_front.specs.Front.{is_right_brace}
use Rattle.sc_parse_expr.specs.Read.{many}
use Rattle.sc_parse_expr.specs.Reading.{member, with_item}
use Rattle.sc_parse_expr.specs.Nests.{below}
use Rattle.sc_parse_expr.proofs.grammar.Grammar.members.Given as goal

-- what is still to be read gives what all gives
abbrev pub invariant-loop-turn : goal.invariant-loop-turn
invariant-loop-turn g l =
    many (member l.self.types.now l.self.limit (below l.self.types.now l.self.limit)) with_item is_right_brace (length l.fn.tokens) [] 0 l.fn.tokens
    ≡ many (member l.self.types.now l.self.limit (below l.self.types.now l.self.limit)) with_item is_right_brace (l._turn-end - l._turn) l.all l.height l.tokens
