-- Names and what they are declared as (C11 6.2.1, 6.7, 3): a name stands once in a scope, but for variables with
-- linkage, functions and a parameter's own.
use Rattle.std.specs.Prelude.{Bool, true, false, not, Option, Some, None, is_some}
use Rattle.sc_base.specs.declared.pos.Pos.{Pos}
use Rattle.sc_base.specs.declared.pos.NameId.{NameId}
use Rattle.sc_base.specs.declared.skip.IllTyped.TheVariants as i
use Rattle.sc_rules.specs.declared.walk.Entity.{Entity}
use Rattle.sc_rules.specs.Faults.{ill_typed_at}
use Rattle.sc_rules.specs.Walks.{Check, ◌>>=◌, done, holds_or, name_here, declare}
use Rattle.sc_names.specs.Notes.{note_unless}

-- the fault `again` where a name stands in the innermost scope already
abbrev pub new_here : NameId → Pos → Check Bool
new_here name at = do
  e ← name_here name
  holds_or (not (is_some e)) (ill_typed_at i.Again at)

abbrev pub declare_if : Bool → NameId → Entity → Check (Unit {0})
declare_if true name e = declare name e
declare_if false name e = done tt

-- a name that means that from now on; where there is nothing, it cannot stand beside what it is already
abbrev pub declare_or : Option Entity → NameId → Pos → Check (Unit {0})
declare_or None name at = note_unless false (ill_typed_at i.Again at)
declare_or (Some e) name at = declare name e
