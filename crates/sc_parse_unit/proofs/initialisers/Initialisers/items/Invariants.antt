use Rattle.std.proofs.Common.{◌≡◌, ◌-◌}
use Rattle.sc_parse_front.specs.Front.{is_right_brace}
use Rattle.sc_parse_expr.specs.Reading.Grammar.{with_item}
use Rattle.sc_parse_expr.proofs.Steps.{commas_then, items_of}
use Rattle.sc_parse_unit.specs.Nests.{inner_init}
use Rattle.sc_parse_unit.specs.Reading.{init_item}
use Rattle.sc_parse_unit.specs.Reading.{some_items}
use Rattle.sc_parse_unit.proofs.initialisers.Initialisers.items.Given as goal

-- what is still to be read gives what all gives
abbrev pub invariant-loop-turn : goal.invariant-loop-turn
invariant-loop-turn g l =
    some_items l.self.types.now (l.self.limit - 1) (inner_init l.self.types.now l.self.limit) l.fn.tokens
    ≡ commas_then (init_item l.self.types.now (l.self.limit - 1) (inner_init l.self.types.now l.self.limit)) with_item is_right_brace
    items_of (l._turn-end - l._turn) l.all l.height l.tokens
