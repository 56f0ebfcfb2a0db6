-- What a known call gives, as gates: for every choice its value, its result in the rows, and the state of its pointer.
use Rattle.std.specs.Prelude.{◌≡◌, ℕ, ◌≤◌, Bool, false, Option, Some, None, List, length}
use Rattle.bit_net.specs.declared.nodes.Node.{Node}
use Rattle.bit_net.specs.Runs.{Runs}
use Rattle.bit_words.specs.declared.Word.{Word}
use Rattle.bit_words.specs.Number.{number, top}
use Rattle.gl_sets.specs.declared.pairs.Pair.{Pair}
use Rattle.gl_sets.specs.Guards.{Points, guards_top}
use Rattle.gl_store.specs.Meets.{Meets, val_kind, val_top}
use Rattle.run_store.specs.Concrete.{Cell}
use Rattle.sum_rows.specs.declared.row.State.{State}
use Rattle.sum_rows.specs.declared.row.State.TheVariants as state
use Rattle.sc_world.specs.Tree.{Ty}
use Rattle.sc_world.specs.Source.{Source}
use Rattle.sc_world.specs.Layout.{Layout, Occurrence}
use Rattle.sc_world.specs.World.{bit_at, kind_of_type, target_of, target_or_null}
use Rattle.sc_world.specs.Known as known
use Rattle.sc_world.specs.Known.{given_by, same_state}
use Rattle.gate_objects.specs.Given.{env_of}
use Rattle.gate_rows.specs.declared.given.Given.{Given}
use Rattle.gate_rows.specs.Sought.{IsOutcomeBelow, gives_of, is_spelt, pointer_number}

-- the pointer to an object
pub record IsPointerTo (ns : List Node) (object : Option ℕ) (pairs : List Pair) : Type 0 where
  pub below : guards_top pairs ≤ length ns
  pub points : (choice v : ℕ → Bool) → Runs ns choice v → Points v pairs (target_of (target_or_null object))

-- whether a state is that of what is given: none has one but a pointer, by what the bits name
abbrev pub is_kind : (v : ℕ → Bool) → Option Word → State → Bool
is_kind v None x = same_state state.Nil x
is_kind v (Some w) x = is_spelt (number v w.bits.items) (pointer_number x)

abbrev pub IsKindBelow : List Node → Option Word → Type 0
IsKindBelow ns None = Unit {0}
IsKindBelow ns (Some w) = top w.bits.items ≤ length ns

-- The choice, which has no more bits than the layout, gives something or, of a pointer, nothing that has a row.
pub record IsGiven (s : Source) (p : Layout) (ns : List Node) (o : Occurrence) (t : Ty) (r : Given) : Type 0 where
  pub below : val_top r.val ≤ length ns
  pub outcome_below : IsOutcomeBelow ns r.outcome
  pub kind_below : IsKindBelow ns r.kind
  pub kind : val_kind r.val ≡ kind_of_type s (Some t)
  pub some : (bits : List Bool) (v : ℕ → Bool) → Runs ns (bit_at bits) v → length bits ≤ p.bits → (c : Cell) × Meets v r.val c
  pub gives : (bits : List Bool) (v : ℕ → Bool) → Runs ns (bit_at bits) v → length bits ≤ p.bits → (temps : List Cell) (turn : ℕ) (g : known.Given)
      → given_by (env_of s p bits temps turn) o t ≡ Some g
      → Meets v r.val g.value × ((gives_of v r.outcome ≡ g.result) × ((x : State) → is_kind v r.kind x ≡ same_state g.kind x))
  pub nothing : (bits : List Bool) (v : ℕ → Bool) → Runs ns (bit_at bits) v → length bits ≤ p.bits → (temps : List Cell) (turn : ℕ)
      → given_by (env_of s p bits temps turn) o t ≡ None → (x : State) → is_kind v r.kind x ≡ false
