-- What stays the same on the way through a file.
use Rattle.std.specs.Prelude.{ℕ, Bool, Option}
use Rattle.sc_tree.specs.declared.ctype.CType.{CType}
use Rattle.sc_tree.specs.declared.ctype.Widths.{Widths}
use Rattle.sc_rules.specs.declared.walk.Builtin.{Builtin}

-- Names stand here by their numbers.
pub record Here : Type 0 where
  pub widths : Widths
  -- the number of the file
  pub file : ℕ
  -- the built-in function that a name means where it is called
  pub builtin : ℕ → Option Builtin
  -- the number of the body that a name means in this file
  pub body : ℕ → Option ℕ
  -- whether a variable of that name is local to this file
  pub is_local : ℕ → Bool
  -- the types of the globals over all files are known already
  pub settled : Bool
  -- the type over all files of the global with that name: of the file's own where it is local to it
  pub global_type : ℕ → Option CType
