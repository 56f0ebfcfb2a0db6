-- Rows and items of a summary. Without a machine the states are those of locks.
use Rattle.std.specs.Prelude.{ℕ, zero, suc, ◌+◌, ◌/◌, ◌%◌, Option, Some, None, List, [], ◌∷◌, ◌++◌, slice_index_or, codes}
use Rattle.std.specs.List.{flat_map}
use Rattle.fsm_spec.specs.declared.table.MachineSpec.{MachineSpec}
use Rattle.sum_rows.specs.declared.path.Path.{Path}
use Rattle.sum_rows.specs.declared.row.Row.{Row}
use Rattle.sum_rows.specs.declared.row.State.{State}
use Rattle.sum_rows.specs.declared.row.State.TheVariants as state
use Rattle.sum_rows.specs.declared.row.Gives.{Gives}
use Rattle.sum_rows.specs.declared.row.Gives.TheVariants as gives
use Rattle.sum_rows.specs.declared.row.Item.{Item}
use Rattle.sum_rows.specs.declared.row.Item.TheVariants as item
use Rattle.sum_rows.specs.declared.row.ItemRows.{ItemRows}
use Rattle.sc_typed.specs.declared.program.Program.{Program}
use Rattle.sc_typed.specs.declared.program.Param.{Param}
use Rattle.report_text.specs.Names.{param_text}
use Rattle.report_text.specs.Paths.{path_text}

-- the word of a section for a location's states
abbrev pub machine_word : Option MachineSpec → List ℕ
machine_word None = codes "lock"
machine_word (Some m) = m.name

-- the name of a state; none of a number that is no state
abbrev pub lock_state : ℕ → List ℕ
lock_state zero = codes "U"
lock_state (suc zero) = codes "L"
lock_state _ = []

abbrev pub machine_state : Option MachineSpec → ℕ → List ℕ
machine_state None n = lock_state n
machine_state (Some m) n = slice_index_or m.states n []

abbrev pub state_text : Option MachineSpec → State → List ℕ
state_text m state.Nil = []
state_text m (state.At n) = machine_state m n
state_text m state.Bad = codes "!"
state_text m state.Held = codes "held"
state_text m state.Escaped = codes "escaped"
state_text m state.Freed = codes "freed"
state_text m state.Null = codes "null"
state_text m state.Fresh = codes "fresh"
state_text m state.Other = codes "other"
state_text m state.Same = codes "same"

-- a state with a space before it; an item without states has neither
abbrev pub spaced_state : Option MachineSpec → State → List ℕ
spaced_state m state.Nil = []
spaced_state m s = codes " " ++ state_text m s

abbrev pub result_text : Gives → List ℕ
result_text gives.Nothing = codes "-"
result_text gives.Zero = codes "0"
result_text gives.NotZero = codes "1"

-- a number in so many binary digits, the highest first
unfoldable pub binary : (digits : ℕ) → ℕ → List ℕ
binary zero n = []
binary (suc k) n = binary k (n / 2) ++ (48 + n % 2) ∷ []

-- the entry bits; `-` where there are none
abbrev pub bits_text : (digits : ℕ) → ℕ → List ℕ
bits_text zero given = codes "-"
bits_text (suc k) given = binary (suc k) given

-- a row: four spaces, the entry bits, the state before, the result, the state after
unfoldable pub row_line : Option MachineSpec → (bits : ℕ) → Row → List ℕ
row_line m bits r =
    codes "    "
    ++ (bits_text bits r.given ++ (spaced_state m r.before ++ (codes " -> " ++ (result_text r.result ++ (spaced_state m r.after ++ codes "\n")))))

-- The first line of an item. The end of a function of which no run exits has `no` there.
abbrev pub end_line : List Row → List ℕ
end_line [] = codes "  exits no\n"
end_line (r ∷ rs) = codes "  exits\n"

unfoldable pub lock_line : Program → List Param → Path → List ℕ
lock_line p params x = codes "  " ++ (machine_word p.machine ++ (codes " " ++ (path_text p params x ++ codes "\n")))

unfoldable pub param_line : Program → List Param → (word : List ℕ) → ℕ → List ℕ
param_line p params word n = word ++ (param_text p params n ++ codes "\n")

abbrev pub item_line : Program → List Param → Item → List Row → List ℕ
item_line p params item.Exit rows = end_line rows
item_line p params (item.Lock x) rows = lock_line p params x
item_line p params (item.Param n) rows = param_line p params (codes "  param ") n
item_line p params (item.Out n) rows = param_line p params (codes "  out ") n

-- an item: its line and its rows
unfoldable pub item_text : Program → List Param → (bits : ℕ) → ItemRows → List ℕ
item_text p params bits x = item_line p params x.item x.rows ++ flat_map (row_line p.machine bits) x.rows
