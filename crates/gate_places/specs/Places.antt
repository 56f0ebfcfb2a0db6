-- What the steps that follow pointers promise: for every choice each of them does what the step of its name does in a run.
use Rattle.std.specs.Prelude.{◌≡◌, ℕ, ◌+◌, ◌-◌, ◌<◌, ◌≤◌, Bool, true, false, Some, List, length, if◌then◌else◌}
use Rattle.bit_net.specs.declared.nodes.Node.{Node}
use Rattle.bit_net.specs.Runs.{Runs}
use Rattle.gl_sets.specs.declared.pairs.Pair.{Pair}
use Rattle.gl_sets.specs.declared.sets.Set.{Set as Sets}
use Rattle.gl_sets.specs.Guards.{Points, guards_top}
use Rattle.gl_store.specs.declared.values.Val.{Val}
use Rattle.gl_store.specs.declared.values.Val.TheVariants.{Word, Set}
use Rattle.bit_words.specs.declared.Word.{Word as Words}
use Rattle.gl_store.specs.declared.stores.Location.{Location}
use Rattle.gl_store.specs.Meets.{Meets, val_kind, val_top, kinds, locations_top}
use Rattle.run_store.specs.Concrete.{Cell, Kind, Pointer, Pointers}
use Rattle.sc_base.specs.declared.pos.NameId.{NameId}
use Rattle.sum_rows.specs.declared.path.Step.TheVariants as step
use Rattle.sc_world.specs.Tree.{Ty, target_or_void}
use Rattle.sc_world.specs.Source.{Source}
use Rattle.sc_world.specs.Layout.{Layout, location, has_type, is_stub, part, or_zero}
use Rattle.sc_world.specs.World.{Env, ◌>>=◌, dereference, reach, kind_of_type}
use Rattle.sc_world.specs.Eval.{Want, Value, Place', place_of, wanted, assign_value, member, or_itself, first_element}
use Rattle.run_laws.specs.Fits.{is_scalar, StandsAt, IsPlaceOf, MemberFits}
use Rattle.run_values.specs.Steps.{member_behind, pointer_index}
use Rattle.gate_runs.specs.declared.ends.Ends.{Ends}
use Rattle.gate_runs.specs.Stands.{Does}
use Rattle.gate_steps.specs.Steps.{LeadsTo, kind_at}
use Rattle.gate_places.specs.declared.members.Way.{Way}
use Rattle.gate_places.specs.declared.members.Way.TheVariants as way

-- what a run reads
abbrev pub env_of : Source → Layout → (choice : List Bool) → (temps : List Cell) → (turn : ℕ) → Env
env_of s p choice temps turn = record { source = s; layout = p; choice = choice; temps = temps; turn = turn }

-- the pointer leads, where the run goes on, to this location, which has the type
pub record Reaches (v : ℕ → Bool) (gates : Ends) (pointer : List Pair) (p : Layout) (t : Ty) (at : ℕ) : Type 0 where
  pub leads : LeadsTo v gates pointer at
  pub typed : v gates.live.at ≡ true → has_type (location p at) t ≡ true

-- the pointer is followed to a location of the type
pub record DoesFollow (ns : List Node) (p : Layout) (t : Ty) (locations : List Location) (pointer : List Pair) (old new : Ends) : Type 0 where
  pub does : (choice v : ℕ → Bool) → Runs ns choice v → (s : Source) (bits : List Bool) (temps : List Cell) (turn target : ℕ) → Points v pointer target
      → Does v locations old (dereference (env_of s p bits temps turn) t (Pointer target)) locations new (Reaches v new pointer p t)

-- the pointer leads, where the run goes on, to this location, which is no stub
pub record Leads (v : ℕ → Bool) (gates : Ends) (pointer : List Pair) (p : Layout) (at : ℕ) : Type 0 where
  pub leads : LeadsTo v gates pointer at
  pub real : v gates.live.at ≡ true → is_stub (location p at) ≡ false

-- the pointer is followed to a location, of whatever type
pub record DoesReach (ns : List Node) (p : Layout) (locations : List Location) (pointer : List Pair) (old new : Ends) : Type 0 where
  pub does : (choice v : ℕ → Bool) → Runs ns choice v → (s : Source) (bits : List Bool) (temps : List Cell) (turn target : ℕ) → Points v pointer target
      → Does v locations old (reach (env_of s p bits temps turn) (Pointer target)) locations new (Leads v new pointer p)

-- each location of the store has a cell of the kind that its type has
pub record IsLaid (s : Source) (p : Layout) (stored : List Location) : Type 0 where
  pub kinds : (at : ℕ) → at < length p.locations → kind_at stored at ≡ kind_of_type s (location p at).type

-- whether the cell at a place is wanted; else the place itself is
abbrev pub reads_cell : Want → Ty → Bool
reads_cell Value t = is_scalar t
reads_cell Place' t = false

-- the kind of what is wanted
abbrev pub wanted_kind : Source → Want → Ty → Kind
wanted_kind s want t = if reads_cell want t then kind_of_type s (Some t) else Pointers

-- The value is this cell. Where a place is wanted and the run goes on, the cell is the pointer to what stands there, which
-- has the type.
abbrev pub GoodFor : (v : ℕ → Bool) → Ends → Layout → Want → Ty → Val → Cell → Type 0
GoodFor v gates p Value t r c = Meets v r c
GoodFor v gates p Place' t r c = Meets v r c × (v gates.live.at ≡ true → IsPlaceOf p t c)

-- what is wanted of the place to which a pointer leads
pub record DoesFind (s : Source) (p : Layout) (ns : List Node) (locations : List Location) (want : Want) (t : Ty) (pointer : List Pair) (r : Val) : Type 0 where
  pub below : val_top r ≤ length ns
  pub kind : val_kind r ≡ wanted_kind s want t
  pub does : (choice v : ℕ → Bool) → Runs ns choice v → (gates : Ends) (at : ℕ) → LeadsTo v gates pointer at → (v gates.live.at ≡ true → StandsAt p t at)
      → Does v locations gates (wanted want t at) locations gates (GoodFor v gates p want t r)

-- what is wanted of the place behind a pointer, which is followed first
pub record DoesIndirect (s : Source) (p : Layout) (ns : List Node) (locations : List Location) (want : Want) (t : Ty) (pointer : List Pair) (old new : Ends) (r : Val) : Type 0 where
  pub below : val_top r ≤ length ns
  pub kind : val_kind r ≡ wanted_kind s want t
  pub does : (choice v : ℕ → Bool) → Runs ns choice v → (bits : List Bool) (temps : List Cell) (turn target : ℕ) → Points v pointer target
      → Does v locations old (dereference (env_of s p bits temps turn) t (Pointer target) >>= λ at. wanted want t at) locations new (GoodFor v new p want t r)

-- the part of a location: the member of that name; and the first element, which is the location itself where it has none
abbrev pub part_at : Layout → Way → (at : ℕ) → ℕ
part_at p (way.Member n) at = or_zero (part p at (step.Field n))
part_at p way.First at = or_itself at (part p at (step.Elem 0))

-- the target of the part of the location to which a target leads
abbrev pub part_target : Layout → Way → (target : ℕ) → ℕ
part_target p w target = part_at p w (target - 1) + 1

-- the pointer leads to the part
pub record IsPart (ns : List Node) (p : Layout) (w : Way) (pointer made : List Pair) : Type 0 where
  pub below : guards_top made ≤ length ns
  pub points : (choice v : ℕ → Bool) → Runs ns choice v → (target : ℕ) → Points v pointer target → Points v made (part_target p w target)

-- the pointer to the first element of an array
pub record IsFirstElement (ns : List Node) (p : Layout) (array made : Sets) : Type 0 where
  pub below : guards_top made.pairs.items ≤ length ns
  pub value : (choice v : ℕ → Bool) → Runs ns choice v → (s : Source) (bits : List Bool) (temps : List Cell) (turn : ℕ) (q : Cell) → Meets v (Set array) q
      → Meets v (Set made) (first_element (env_of s p bits temps turn) q)

-- the member of that name of the location to which a pointer leads
pub record DoesMember (s : Source) (p : Layout) (ns : List Node) (locations : List Location) (gates : Ends) (want : Want) (t : Ty) (n : NameId) (object : Sets) (r : Val) : Type 0 where
  pub below : val_top r ≤ length ns
  pub kind : val_kind r ≡ wanted_kind s want t
  pub does : (choice v : ℕ → Bool) → Runs ns choice v → (u : Ty) → MemberFits p u n t → (bits : List Bool) (temps : List Cell) (turn : ℕ) (q : Cell)
      → GoodFor v gates p Place' u (Set object) q
      → Does v locations gates (member (env_of s p bits temps turn) n (place_of q) >>= λ k. wanted want t k) locations gates (GoodFor v gates p want t r)

-- the member of that name of the location behind a pointer, which is followed first
pub record DoesMemberBehind (s : Source) (p : Layout) (ns : List Node) (locations : List Location) (want : Want) (u t : Ty) (n : NameId) (pointer : List Pair) (old new : Ends) (r : Val) : Type 0 where
  pub below : val_top r ≤ length ns
  pub kind : val_kind r ≡ wanted_kind s want t
  pub does : (choice v : ℕ → Bool) → Runs ns choice v → MemberFits p (target_or_void u) n t → (bits : List Bool) (temps : List Cell) (turn target : ℕ) → Points v pointer target
      → Does v locations old (member_behind (env_of s p bits temps turn) want u t n (Pointer target)) locations new (GoodFor v new p want t r)

-- what is wanted of the place behind a pointer with an index, which has to be 0
pub record DoesIndex (s : Source) (p : Layout) (ns : List Node) (locations : List Location) (want : Want) (t : Ty) (pointer : List Pair) (index : Words) (old new : Ends) (r : Val) : Type 0 where
  pub below : val_top r ≤ length ns
  pub kind : val_kind r ≡ wanted_kind s want t
  pub does : (choice v : ℕ → Bool) → Runs ns choice v → (bits : List Bool) (temps : List Cell) (turn target : ℕ) (k : Cell) → Points v pointer target
      → Meets v (Word index) k
      → Does v locations old (pointer_index (env_of s p bits temps turn) want t (Pointer target) k) locations new (GoodFor v new p want t r)

-- The value is stored at the place to which a pointer leads, and then what is wanted of that place is given.
pub record DoesAssign (s : Source) (p : Layout) (ns : List Node) (gates : Ends) (want : Want) (t : Ty) (place : Sets) (val : Val) (old new : List Location) (r : Val) : Type 0 where
  pub below : val_top r ≤ length ns
  pub top : locations_top new ≤ length ns
  pub same : kinds new ≡ kinds old
  pub kind : val_kind r ≡ wanted_kind s want t
  pub does : (choice v : ℕ → Bool) → Runs ns choice v → (bits : List Bool) (temps : List Cell) (turn : ℕ) (q c : Cell)
      → GoodFor v gates p Place' t (Set place) q → Meets v val c
      → Does v old gates (assign_value (env_of s p bits temps turn) want t q c) new gates (GoodFor v gates p want t r)
