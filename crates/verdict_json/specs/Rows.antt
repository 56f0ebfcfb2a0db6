-- Rows, items and written cells of a summary.
use Rattle.std.specs.Prelude.{ℕ, zero, suc, ◌/◌, ◌%◌, nat_eq, Option, List, [], ◌∷◌, ◌++◌, codes, decimal}
use Rattle.fsm_spec.specs.declared.table.MachineSpec.{MachineSpec}
use Rattle.json.specs.Token as token
use Rattle.json.specs.Token.{Token}
use Rattle.json.specs.Json.{Json, null, boolean, string, object, no_members}
use Rattle.json_text.specs.Values.{count_value, array_of, with}
use Rattle.sum_rows.specs.declared.row.Gives.{Gives}
use Rattle.sum_rows.specs.declared.row.Gives.TheVariants as gives
use Rattle.sum_rows.specs.declared.row.Item.{Item}
use Rattle.sum_rows.specs.declared.row.Item.TheVariants as item
use Rattle.sum_rows.specs.declared.row.ItemRows.{ItemRows}
use Rattle.sum_rows.specs.declared.row.Row.{Row}
use Rattle.sum_rows.specs.declared.row.State.{State}
use Rattle.sum_rows.specs.declared.row.State.TheVariants as state
use Rattle.sum_rows.specs.declared.row.Write.{Write}
use Rattle.sum_rows.specs.declared.path.Path.{Path}
use Rattle.sc_typed.specs.declared.program.Program.{Program}
use Rattle.sc_typed.specs.declared.program.Param.{Param}
use Rattle.report_text.specs.Names.{param_text}
use Rattle.report_text.specs.Rows.{machine_state}
use Rattle.json_places.specs.Arrays.{array_by}
use Rattle.json_places.specs.Paths.{path_value}

-- the entry bits, the first parameter's first
unfoldable pub bits_values : (digits : ℕ) → (given : ℕ) → List Json
bits_values zero given = []
bits_values (suc k) given = bits_values k (given / 2) ++ boolean (nat_eq (given % 2) 1) ∷ []

unfoldable pub entry_value : (bits given : ℕ) → Json
entry_value bits given = array_of (bits_values bits given)

-- a state of the machine by its name
unfoldable pub named_state : (name : List ℕ) → Json
named_state name = object (with (codes "state") (string name) no_members)

abbrev pub state_value : Option MachineSpec → State → Json
state_value m state.Nil = null
state_value m (state.At n) = named_state (machine_state m n)
state_value m state.Bad = string (codes "error")
state_value m state.Held = string (codes "held")
state_value m state.Escaped = string (codes "escaped")
state_value m state.Freed = string (codes "freed")
state_value m state.Null = string (codes "null")
state_value m state.Fresh = string (codes "fresh")
state_value m state.Other = string (codes "other")
state_value m state.Same = string (codes "same")

abbrev pub result_word : Gives → List ℕ
result_word gives.Nothing = codes "none"
result_word gives.Zero = codes "zero"
result_word gives.NotZero = codes "nonzero"

unfoldable pub row_value : Option MachineSpec → (bits : ℕ) → Row → Json
row_value m bits r =
    object (with (codes "entry") (entry_value bits r.given)
    (with (codes "before") (state_value m r.before)
    (with (codes "result") (string (result_word r.result)) (with (codes "after") (state_value m r.after) no_members))))

-- the rows of an item
abbrev pub rows_value : Program → (bits : ℕ) → List Row → Json
rows_value p bits rows = array_by (row_value p.machine bits) rows

-- the end of the function
unfoldable pub end_value : Program → (bits : ℕ) → List Row → Json
end_value p bits rows =
    object (with (codes "item") (string (codes "end")) (with (codes "rows") (rows_value p bits rows) no_members))

-- the parameters are those of the function
module _ (p : Program) (params : List Param) where
  unfoldable pub location_value : (bits : ℕ) → Path → List Row → Json
  location_value bits x rows =
      object (with (codes "item") (string (codes "state"))
      (with (codes "path") (path_value p params x) (with (codes "rows") (rows_value p bits rows) no_members)))

  -- what a parameter points to
  unfoldable pub parameter_item : (word : List ℕ) → (bits : ℕ) → (n : ℕ) → List Row → Json
  parameter_item word bits n rows =
      object (with (codes "item") (string word)
      (with (codes "parameter") (count_value n)
      (with (codes "name") (string (param_text p params n)) (with (codes "rows") (rows_value p bits rows) no_members))))

  abbrev pub value_of_item : (bits : ℕ) → Item → List Row → Json
  value_of_item bits item.Exit rows = end_value p bits rows
  value_of_item bits (item.Lock x) rows = location_value bits x rows
  value_of_item bits (item.Param n) rows = parameter_item (codes "object") bits n rows
  value_of_item bits (item.Out n) rows = parameter_item (codes "pointer") bits n rows

  abbrev pub item_value : (bits : ℕ) → ItemRows → Json
  item_value bits x = value_of_item bits x.item x.rows

  -- a cell that some run may write, and its bits; 0 for a pointer
  unfoldable pub write_value : Write → Json
  write_value w =
      object (with (codes "path") (path_value p params w.path) (with (codes "width") (count_value w.width) no_members))

-- The tokens of the members in front of such an item's rows, with the opening bracket.
unfoldable pub parameter_head : Program → List Param → (word : List ℕ) → (n : ℕ) → List Token
parameter_head p params word n =
    token.begin_object ∷ token.key (codes "item") ∷ token.string word ∷ token.key (codes "parameter") ∷ token.number (decimal n)
    ∷ token.key (codes "name") ∷ token.string (param_text p params n) ∷ []
