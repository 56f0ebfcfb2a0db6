use Rattle.std.proofs.Common.{◌≡◌, ◌-◌}
use Rattle.sc_parse_front.specs.Front.{is_right_brace}
use Rattle.sc_parse_expr.specs.Read.{many}
use Rattle.sc_parse_expr.specs.Reading.Grammar.{with_item}
use Rattle.sc_parse_unit.specs.Nests.{inner_stmt}
use Rattle.sc_parse_unit.specs.Reading.{items, an_item}
use Rattle.sc_parse_unit.proofs.parts.Statements.items.Given as goal

-- what is still to be read gives what all gives
abbrev pub invariant-loop-turn : goal.invariant-loop-turn
invariant-loop-turn g l =
    items l.self.types.now (l.self.limit - 1) (inner_stmt l.self.types.now l.self.limit) l.switch l.fn.tokens
    ≡ many (an_item l.self.types.now (l.self.limit - 1) (inner_stmt l.self.types.now l.self.limit) l.switch) with_item is_right_brace
    (l._turn-end - l._turn) l.all l.height l.tokens
