use Rattle.std.proofs.Common.{◌≡◌, ◌-◌, length}
use Rattle.sc_parse_unit.specs.Reading.{file_declarators}
use Rattle.sc_parse_unit.specs.Reading.{Keeps}
use Rattle.sc_parse_unit.proofs.outlines.more_declarators.Given as goal

-- what is still to be read gives what all gives, and the typedef names that were there stay
abbrev pub invariant-loop-turn : goal.invariant-loop-turn
invariant-loop-turn l =
    (file_declarators (length l.fn.tokens) l.typedef l.fn.first.it l.fn.types l.fn.first.height l.fn.tokens
    ≡ file_declarators (l._turn-end - l._turn) l.typedef l.all l.types l.height l.tokens) × Keeps l.fn.types l.types
