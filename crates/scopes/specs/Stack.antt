-- The declarations in force, as a stack whose top is the latest. Each entry has a number, counted from the
-- bottom; the index holds for each name the number of its latest entry, and an entry keeps the number
-- that the index held for its name before it.
use Rattle.std.specs.Prelude.{◌≡◌, ℕ, nat_eq, if◌then◌else◌, length, Option, Some, None, List, [], ◌∷◌}
use Rattle.scopes.specs.declared.stack.Entry.{Entry}

-- an entry as a name with what it means
abbrev pub named : {T : Type 0} → Entry T → ℕ × T
named e = (e.name, e.value)

-- the number of a name's latest entry
abbrev pub latest_of : {T : Type 0} → List (Entry T) → ℕ → Option ℕ
latest_of [] name = None
latest_of (e ∷ es) name = if nat_eq e.name name then Some (length es) else latest_of es name

-- each entry keeps the number of the entry that it hides
abbrev pub KeepsHidden : {T : Type 0} → List (Entry T) → Type 0
KeepsHidden [] = Unit {0}
KeepsHidden (e ∷ es) = (e.hidden ≡ latest_of es e.name) × KeepsHidden es

-- the index finds the latest entry of each name, and closing a block can bring back what it hid
pub record IsIndexed {T : Type 0} (index : ℕ → Option ℕ) (es : List (Entry T)) : Type 0 where
  pub finds : (name : ℕ) → index name ≡ latest_of es name
  pub hides : KeepsHidden es
