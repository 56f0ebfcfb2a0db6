use Rattle.std.proofs.Common.{◌≡◌, ◌-◌, length, []}
use Rattle.sc_parse_expr.specs.Read.{many}
use Rattle.sc_parse_expr.specs.Reading.Grammar.{with_item}
use Rattle.sc_parse_unit.specs.Reading.{a_designator, designators}
use Rattle.sc_parse_unit.proofs.Turns.{ends_designators}
use Rattle.sc_parse_unit.proofs.initialisers.Initialisers.designators.Given as goal

-- what is still to be read gives what all gives
abbrev pub invariant-loop-turn : goal.invariant-loop-turn
invariant-loop-turn g l =
    designators l.self.types.now (l.self.limit - 1) (length l.fn.tokens) [] 0 l.fn.tokens
    ≡ many (a_designator l.self.types.now (l.self.limit - 1)) with_item ends_designators (l._turn-end - l._turn) l.all l.height l.tokens
