-- What typing makes of each part of a tree (C11 6.5, 6.7): a part stands for the step that types it.
use Rattle.std.specs.Prelude.{ℕ, Bool, Option, List}
use Rattle.sc_base.specs.declared.pos.Pos.{Pos}
use Rattle.sc_base.specs.declared.pos.NameId.{NameId}
use Rattle.sc_tree.specs.declared.ctype.CType.{CType}
use Rattle.sc_tree.specs.declared.expr.Place.{Place}
use Rattle.sc_typed.specs.declared.expr.TExpr.{TExpr}
use Rattle.sc_typed.specs.declared.program.FieldDef.{FieldDef}
use Rattle.sc_rules.specs.Walks.{Check}
use Rattle.sc_typing.specs.declared.shapes.Shape.{Shape}

-- an expression: the name that it is with its place, where it is a bare one, and the step
pub record Typing : Type 0 where
  pub name : Option (NameId × Place)
  pub run : Check (Option TExpr)

-- A declarator: its name, whether it is the bare name, and the step from the type that its specifiers name.
-- Faults in it stand at the place handed in.
pub record Declaring : Type 0 where
  pub name : Option (NameId × Pos)
  pub bare : Bool
  pub run : Pos → Option CType → Check Shape

-- specifiers and a declarator: the name, the first token, and the step
pub record Heading : Type 0 where
  pub name : Option (NameId × Pos)
  pub first : Pos
  pub run : Pos → Check Shape

-- Specifiers; with the flag they stand alone before a `;`.
abbrev pub Naming : Type 0
Naming = (alone : Bool) → Check (Option CType)

-- members, added to those before; none where there is a fault in one
abbrev pub Adding : Type 0
Adding = Option (List FieldDef) → Check (Option (List FieldDef))

-- one member of a line, of the type that its specifiers name
abbrev pub AddingOne : Type 0
AddingOne = Option CType → Adding

-- an enumerator: from the number that it has without a value to the number of the next one
abbrev pub Counting : Type 0
Counting = ℕ → Check ℕ
