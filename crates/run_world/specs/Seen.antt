-- What contracts see of values, of the world of a run, and of how a step ends.
use Rattle.std.specs.Prelude.{◌≡◌, ℕ, ◌+◌, [], Option, Some, None, Result, Ok, Err, map}
use Rattle.run_store.specs.Concrete as store
use Rattle.run_store.specs.Concrete.{Cell, Place}
use Rattle.sc_tree.specs.declared.ctype.Signature.{Signature}
use Rattle.sc_tree.specs.declared.ctype.CType.TheFolds.{fold-Signature}
use Rattle.sc_world.specs.Tree.{Ty}
use Rattle.sc_world.specs.View.{type_step, signature_step}
use Rattle.sc_world.specs.World as spec
use Rattle.sc_world.specs.World.{Env}
use Rattle.layout_base.specs.Seen.{ground_of, layout_of}
use Rattle.run_world.specs.declared.pointers.Here.{Here}
use Rattle.run_world.specs.declared.value.Value.{Value}
use Rattle.run_world.specs.declared.value.Value.TheVariants as value
use Rattle.run_world.specs.declared.world.Marks.{Marks}
use Rattle.run_world.specs.declared.world.Slot.{Slot}
use Rattle.run_world.specs.declared.world.World.{World}
use Rattle.run_world.specs.declared.world.Ended.{Ended}
use Rattle.run_world.specs.declared.world.Ended.TheVariants as ended

abbrev pub target : Option ℕ → ℕ
target None = 0
target (Some at) = at + 1

abbrev pub cell : Value → Cell
cell (value.Number bits n) = store.Number bits n
cell (value.Pointer at) = store.Pointer (target at)
cell value.Nothing = store.Nothing

abbrev pub marks : Marks → store.Marks
marks m = record { touched = m.touched; written = m.written; allocated = m.allocated; freed = m.freed; escaped = m.escaped }

abbrev pub place : Slot → Place
place s = record { cell = cell s.value; marks = marks s.marks }

unfoldable pub world : World → spec.World
world w = record { places = map place w.slots.items; trace = w.trace.items }

abbrev pub how_ended : Ended → spec.Ended
how_ended (ended.Error at) = spec.Error at
how_ended (ended.Inner at) = spec.Inner at
how_ended (ended.Aside r) = spec.Aside r

-- What a step answers and leaves: what the definition gives. `see` says what its answer is seen as.
abbrev pub Does : {A B : Type 0} → (A → B) → Result B spec.Ended × spec.World → Result A Ended → spec.World → Type 0
Does see due (Ok x) new = due ≡ (Ok (see x), new)
Does see due (Err e) new = due ≡ (Err (how_ended e), new)

-- what a run reads; nothing is kept
unfoldable pub env : Here → Env
env h = record { source = (ground_of h.ground).source; layout = layout_of h.places.now; choice = h.choice.now; temps = []; turn = h.turn }

-- the type of a function with that signature
abbrev pub signature : Signature → Ty
signature s = fold-Signature Ty Ty type_step signature_step s
