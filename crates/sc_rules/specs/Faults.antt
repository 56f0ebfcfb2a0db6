-- The first fault. A function, or a declaration at file scope, is skipped for the first thing in it that is
-- not taken: first by its place in the file, and of those at one place by the order of skips.
use Rattle.std.specs.Prelude.{ℕ, ◌+◌, nat_lt, nat_eq, Bool, true, false, Option, Some, None, if◌then◌else◌}
use Rattle.sc_base.specs.declared.pos.Pos.{Pos}
use Rattle.sc_base.specs.declared.skip.Skip.{Skip}
use Rattle.sc_base.specs.declared.skip.Skip.TheVariants as skip
use Rattle.sc_base.specs.declared.skip.Unsupported.{Unsupported}
use Rattle.sc_base.specs.declared.skip.Unsupported.TheVariants as u
use Rattle.sc_base.specs.declared.skip.IllTyped.{IllTyped}
use Rattle.sc_base.specs.declared.skip.IllTyped.TheVariants as i
use Rattle.sc_rules.specs.declared.walk.Fault.{Fault}

abbrev pub unsupported_rank : Unsupported → ℕ
unsupported_rank u.Float = 1
unsupported_rank u.Wide = 2
unsupported_rank u.VaList = 3
unsupported_rank u.Odd = 4
unsupported_rank u.Union = 5
unsupported_rank u.BitField = 6
unsupported_rank u.Anon = 7
unsupported_rank u.Arith = 8
unsupported_rank u.Order = 9
unsupported_rank u.Cast = 10
unsupported_rank u.Struct = 11
unsupported_rank u.Static = 12
unsupported_rank u.Vla = 13
unsupported_rank u.Init = 14
unsupported_rank u.Goto = 15
unsupported_rank u.Variadic = 16
unsupported_rank u.Call = 17

abbrev pub ill_typed_rank : IllTyped → ℕ
ill_typed_rank i.Name = 18
ill_typed_rank i.Field = 19
ill_typed_rank i.Label = 20
ill_typed_rank i.Operand = 21
ill_typed_rank i.Lvalue = 22
ill_typed_rank i.Call = 23
ill_typed_rank i.Return = 24
ill_typed_rank i.Constant = 25
ill_typed_rank i.Incomplete = 26
ill_typed_rank i.Again = 27

-- the order of skips at one place
abbrev pub skip_rank : Skip → ℕ
skip_rank (skip.Grammar pos) = 0
skip_rank (skip.Unsupported kind pos) = unsupported_rank kind
skip_rank (skip.IllTyped kind pos) = ill_typed_rank kind
skip_rank (skip.Limit kind count) = 28

-- by line, then by column, then by rank
abbrev pub is_before : Fault → Fault → Bool
is_before f g =
    if nat_eq f.pos.line g.pos.line
    then (if nat_eq f.pos.col g.pos.col then nat_lt (skip_rank f.skip) (skip_rank g.skip) else nat_lt f.pos.col g.pos.col)
    else nat_lt f.pos.line g.pos.line

-- the first of a fault and those before
abbrev pub with_fault : Option Fault → Fault → Option Fault
with_fault None f = Some f
with_fault (Some g) f = Some (if is_before f g then f else g)

abbrev pub unsupported_at : Unsupported → Pos → Fault
unsupported_at kind pos = record { pos = pos; skip = skip.Unsupported kind pos }

abbrev pub ill_typed_at : IllTyped → Pos → Fault
ill_typed_at kind pos = record { pos = pos; skip = skip.IllTyped kind pos }
