use Rattle.std.proofs.Common.{◌≡◌, ◌-◌}
use Rattle.sc_parse_front.specs.Front.{is_right_brace}
use Rattle.sc_parse_expr.specs.Reading.{enumerator, with_item}
use Rattle.sc_parse_expr.specs.Reading.{some_enumerators}
use Rattle.sc_parse_expr.specs.Nests.{below}
use Rattle.sc_parse_expr.proofs.Steps.{commas_then, items_of}
use Rattle.sc_parse_expr.proofs.grammar.Grammar.enumerators.Given as goal

-- what is still to be read gives what all gives
abbrev pub invariant-loop-turn : goal.invariant-loop-turn
invariant-loop-turn g l =
    some_enumerators l.self.types.now l.self.limit (below l.self.types.now l.self.limit) l.fn.tokens
    ≡ commas_then (enumerator l.self.types.now l.self.limit (below l.self.types.now l.self.limit)) with_item is_right_brace items_of
    (l._turn-end - l._turn) l.all l.height l.tokens
