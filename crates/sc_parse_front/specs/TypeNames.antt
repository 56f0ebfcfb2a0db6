-- The typedef names as the code keeps them.
use Rattle.std.specs.Prelude.{ℕ}
use Rattle.sc_base.specs.declared.pos.NameId.{NameId}

-- the name at that place among the names
abbrev pub name_at : ℕ → NameId
name_at at = record { at = at }
