-- The call of a node of a graph as gates: for every choice they do what the call does in a run.
use Rattle.std.specs.Prelude.{◌≡◌, ℕ, ◌^◌, ◌≤◌, nat_lt, Bool, true, false, ◌&&◌, ◌||◌, Option, Some, None, List, [], ◌∷◌, length, if◌then◌else◌}
use Rattle.sc_base.specs.declared.pos.Pos.{Pos}
use Rattle.bit_net.specs.declared.nodes.Node.{Node}
use Rattle.bit_net.specs.Circuit.{input_count}
use Rattle.bit_net.specs.Runs.{Runs}
use Rattle.fsm_spec.specs.Table.{IsWhole}
use Rattle.gl_store.specs.declared.values.Val.{Val}
use Rattle.gl_store.specs.declared.stores.Location.{Location as Guarded}
use Rattle.gl_store.specs.Meets.{Meets, val_kind, val_top, kinds, locations_top}
use Rattle.run_store.specs.Concrete.{Cell, Kind, Number, Pointers}
use Rattle.sum_rows.specs.declared.row.Summary.{Summary}
use Rattle.sc_world.specs.declared.run.Reason.TheVariants as reason
use Rattle.sc_world.specs.Tree.{Ty, is_integer, is_pointer, is_void, int_bits}
use Rattle.sc_world.specs.Source.{Source, Effect, Operation, Try, Allocate, Release, Ends, Expect, Known, Unknown, sum_at}
use Rattle.sc_world.specs.Layout.{Layout, Occurrence, site_at}
use Rattle.sc_world.specs.World.{aside, bit_at, kind_of_type, null}
use Rattle.sc_world.specs.Eval.{Value, act, first_arg, known_by}
use Rattle.run_laws.specs.Fits.{may_give}
use Rattle.flow_graph.specs.Nodes.{Calling, call_of}
use Rattle.gate_runs.specs.declared.ends.Ends.{Ends as Gates}
use Rattle.gate_runs.specs.Stands.{AreEnds, Does}
use Rattle.gate_places.specs.Places.{env_of, wanted_kind}
use Rattle.gate_objects.specs.Escapes.{MeetsEach, AreBelow}

-- Which calls have gates.

-- whether a number is one of the width of an integer type
abbrev pub fits_width : Source → Ty → ℕ → Bool
fits_width s t n = nat_lt n (2 ^ int_bits s.widths t)

-- whether the call has a type that what it does can give
abbrev pub has_gates : Source → Ty → Effect → Bool
has_gates s t (Operation n) = is_integer t || is_void t
has_gates s t (Try success failure) = is_integer t && (fits_width s t success && fits_width s t failure)
has_gates s t (Allocate zeroed) = is_pointer t
has_gates s t Release = is_void t
has_gates s t Ends = true
has_gates s t Expect = true
has_gates s t (Known k) = may_give t
has_gates s t Unknown = may_give t

-- what the call of a node does
abbrev pub effect_of : Layout → Calling → Effect
effect_of p c = (site_at p c.place.token).site.effect

-- The call of a node has gates: it has a type that what it does can give.
abbrev pub CanCall : Source → Layout → Calling → Type 0
CanCall s p c = has_gates s c.result (effect_of p c) ≡ true

-- Arguments.

-- the kind of the first argument; that of null where there is none
abbrev pub first_kind : List Val → Kind
first_kind [] = Pointers
first_kind (x ∷ xs) = val_kind x

-- the first argument; null where there is none
pub record IsFirst (ns : List Node) (args : List Val) (r : Val) : Type 0 where
  pub below : val_top r ≤ length ns
  pub kind : val_kind r ≡ first_kind args
  pub meets : (choice v : ℕ → Bool) → Runs ns choice v → (cs : List Cell) → MeetsEach v args cs → Meets v r (first_arg cs)

-- the gates are those of a value of that type; of `void` nothing is said
abbrev pub IsOfType : Source → Ty → Val → Type 0
IsOfType s t r = is_void t ≡ false → val_kind r ≡ wanted_kind s Value t

-- what a call gives that gives its first argument is of the type of the call
abbrev pub FirstFits : Source → Ty → List Val → Effect → Type 0
FirstFits s t args Expect = is_void t ≡ false → first_kind args ≡ wanted_kind s Value t
FirstFits s t args _ = Unit {0}

-- some value of a type: 0 or null
abbrev pub some_cell : Source → Ty → Cell
some_cell s t = if is_integer t then Number (int_bits s.widths t) 0 else null

pub record IsSome (s : Source) (ns : List Node) (t : Ty) (r : Val) : Type 0 where
  pub below : val_top r ≤ length ns
  pub kind : IsOfType s t r
  pub meets : (choice v : ℕ → Bool) → Runs ns choice v → Meets v r (some_cell s t)

-- Calls.

-- The machine is whole, the bits of the choice are inputs, there is a gate of errors for each location, and all gates are gates of the net.
pub record IsReady (s : Source) (p : Layout) (ns : List Node) (args : List Val) (locations : List Guarded) (gates : Gates) : Type 0 where
  pub whole : IsWhole s.machine
  pub inputs : p.bits ≤ input_count ns
  pub store : locations_top locations ≤ length ns
  pub ends : AreEnds ns gates
  pub bads : length gates.bads.items ≡ length p.locations
  pub below : AreBelow ns args

-- the program ends
pub record DoesEnd (s : Source) (ns : List Node) (t : Ty) (old new : Gates) (r : Val) : Type 0 where
  pub below : val_top r ≤ length ns
  pub kind : IsOfType s t r
  pub does : (choice v : ℕ → Bool) → Runs ns choice v → (locations : List Guarded) → Does v locations old (aside {A = Cell} reason.NoReturn) locations new (Meets v r)

-- the summary by which the callee acts; none of what is no callee
abbrev pub summary_of : Source → Effect → Option Summary
summary_of s (Known k) = sum_at s k
summary_of s _ = None

-- what the call of a callee does: by its summary, or as a call of which nothing is known
pub record DoesKnownBy (s : Source) (p : Layout) (ns : List Node) (t : Ty) (o : Occurrence) (sum : Option Summary) (args : List Val) (old new : List Guarded)
    (old_gates new_gates : Gates) (r : Val) : Type 0 where
  pub below : val_top r ≤ length ns
  pub kind : val_kind r ≡ kind_of_type s (Some t)
  pub top : locations_top new ≤ length ns
  pub same : kinds new ≡ kinds old
  pub ends : AreEnds ns new_gates
  pub bads : length new_gates.bads.items ≡ length old_gates.bads.items
  pub does : (bits : List Bool) (v : ℕ → Bool) → Runs ns (bit_at bits) v → length bits ≤ p.bits → (temps : List Cell) (turn : ℕ) (pos : Pos)
      → (cs : List Cell) → MeetsEach v args cs
      → Does v old old_gates (known_by (env_of s p bits temps turn) pos t o cs sum) new new_gates (Meets v r)

-- what a call does, once its arguments have their values
pub record DoesAct (s : Source) (p : Layout) (ns : List Node) (t : Ty) (o : Occurrence) (e : Effect) (args : List Val) (old new : List Guarded) (old_gates new_gates : Gates) (r : Val) : Type 0 where
  pub below : val_top r ≤ length ns
  pub kind : IsOfType s t r
  pub top : locations_top new ≤ length ns
  pub same : kinds new ≡ kinds old
  pub ends : AreEnds ns new_gates
  pub bads : length new_gates.bads.items ≡ length old_gates.bads.items
  pub does : (bits : List Bool) (v : ℕ → Bool) → Runs ns (bit_at bits) v → length bits ≤ p.bits → (temps : List Cell) (turn : ℕ) (pos : Pos)
      → (cs : List Cell) → MeetsEach v args cs
      → Does v old old_gates (act (env_of s p bits temps turn) pos t o cs e) new new_gates (Meets v r)

-- The call of a node; the choice has no more bits than the layout.
pub record DoesCall (s : Source) (p : Layout) (ns : List Node) (c : Calling) (args : List Val) (old new : List Guarded) (old_gates new_gates : Gates) (r : Val) : Type 0 where
  pub below : val_top r ≤ length ns
  pub kind : IsOfType s c.result r
  pub top : locations_top new ≤ length ns
  pub same : kinds new ≡ kinds old
  pub ends : AreEnds ns new_gates
  pub bads : length new_gates.bads.items ≡ length old_gates.bads.items
  pub does : (bits : List Bool) (v : ℕ → Bool) → Runs ns (bit_at bits) v → length bits ≤ p.bits → (cs : List Cell) → MeetsEach v args cs
      → Does v old old_gates (call_of s p bits c cs) new new_gates (Meets v r)
