use Rattle.std.proofs.Common.{◌≡◌, ◌-◌}
use Rattle.sc_parse_expr.specs.Reading.Grammar.{with_item, never}
use Rattle.sc_parse_expr.proofs.Steps.{commas_then, items_of}
use Rattle.sc_parse_unit.specs.Reading.{init_declarator}
use Rattle.sc_parse_unit.specs.Reading.{some_declarators}
use Rattle.sc_parse_unit.proofs.declarations.some_declarators.Given as goal

-- what is still to be read gives what all gives
abbrev pub invariant-loop-turn : goal.invariant-loop-turn
invariant-loop-turn l =
    some_declarators l.types l.limit l.fn.tokens
    ≡ commas_then (init_declarator l.types l.limit) with_item never items_of (l._turn-end - l._turn) l.all l.height l.tokens
