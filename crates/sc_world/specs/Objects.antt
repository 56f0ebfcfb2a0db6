-- Objects and their locations, and the bits of those that the choice gives.
use Rattle.std.specs.Prelude.{ℕ, zero, suc, ◌+◌, ◌-◌, ◌*◌, min, nat_eq, nat_lt, nat_le, Bool, true, false, not, ◌&&◌, ◌||◌, Option, Some, None, List, [], ◌∷◌, ◌++◌, length, slice_index_or, slice_set, Ok, Err, if◌then◌else◌}
use Rattle.std.specs.List.{list_any}
use Rattle.sc_base.specs.declared.pos.NameId.{NameId}
use Rattle.sc_base.specs.declared.skip.LimitKind.TheVariants as limit
use Rattle.fsm_spec.specs.Table.{bits_of_states}
use Rattle.sum_rows.specs.declared.path.Step.{Step}
use Rattle.sum_rows.specs.declared.path.Step.TheVariants as step
use Rattle.sc_world.specs.declared.run.Origin.{Origin}
use Rattle.sc_world.specs.declared.run.Origin.TheVariants as origin
use Rattle.sc_world.specs.Tree.{Ty, Void, Array, Struct, Ptr, is_integer, is_pointer, int_bits, target_or_void}
use Rattle.sc_world.specs.Build.{Build, ◌>>=◌, done, refused}
use Rattle.sc_world.specs.Source.{Source, Member}
use Rattle.sc_world.specs.Gather.{Found, same_name}
use Rattle.sc_world.specs.Layout.{Layout, Location, location, is_pointer_cell}

-- no function has more locations
abbrev pub most_locations : ℕ
most_locations = 256

-- What of an object the choice gives: nothing, its cells, or its cells and the states of its locations.
pub data Chosen : Type 0 where
  Nothing : Chosen
  Cells : Chosen
  CellsAndStates : Chosen

-- what is laid out for: the function, and what its text names
pub record Ground : Type 0 where
  pub source : Source
  pub found : Found

abbrev pub Laying : Type 0 → Type 0
Laying A = Build Layout A

-- the number of the next location, if there may be one more
abbrev pub next : Laying ℕ
next p = if nat_lt (length p.locations) most_locations then Ok (length p.locations, p) else Err limit.Locations

abbrev pub count : Laying ℕ
count p = Ok (length p.locations, p)

-- that many bits of the choice: the first of them
abbrev pub take_bits : ℕ → Laying ℕ
take_bits n p = Ok (p.bits, record p { bits = p.bits + n })

abbrev pub push : Location → Laying (Unit {0})
push l p = Ok (tt, record p { locations = p.locations ++ l ∷ [] })

abbrev pub put_at : ℕ → Location → Laying (Unit {0})
put_at at l p = Ok (tt, record p { locations = slice_set p.locations at l })

abbrev pub location_now : ℕ → Laying Location
location_now at p = Ok (location p at, p)

-- the bits that an integer takes, and those of a pointer; none of any other type
abbrev pub cell_bits : Source → Ty → ℕ
cell_bits s t = if is_pointer t then 1 else int_bits s.widths t

abbrev pub is_cell : Ty → Bool
is_cell t = is_integer t || is_pointer t

abbrev pub state_bits : Source → ℕ
state_bits s = bits_of_states (length s.machine.states)

abbrev pub bits_if : Bool → ℕ → Laying (Option ℕ)
bits_if true n = take_bits n >>= λ b. done (Some b)
bits_if false n = done None

abbrev pub gives_cells : Chosen → Bool
gives_cells Nothing = false
gives_cells _ = true

abbrev pub gives_states : Chosen → Bool
gives_states CellsAndStates = true
gives_states _ = false

abbrev pub root_or : Option ℕ → ℕ → ℕ
root_or None at = at
root_or (Some r) at = r

-- a location of that type; it is a whole object where it has no root
abbrev pub add : Source → Chosen → (root : Option ℕ) → Ty → Origin → Laying ℕ
add s c root t o = do
  at ← next
  bit ← bits_if (gives_cells c && is_cell t) (cell_bits s t)
  state ← bits_if (gives_states c) (state_bits s)
  _ ← push (record { type = Some t; origin = o; root = root_or root at; bit = bit; state = state; target = None })
  done at

abbrev pub stub : Origin → Laying ℕ
stub o = do
  at ← next
  _ ← push (record { type = None; origin = o; root = at; bit = None; state = None; target = None })
  done at

-- An object of a struct type has a location for itself and for each member that the text names, in order of
-- declaration, an array one for itself and for its first 8 elements, any other type one.

abbrev pub shown_elements : Option ℕ → ℕ
shown_elements None = 8
shown_elements (Some n) = if nat_eq n 0 then 8 else min n 8

-- the object of a type, by a function that lays one; the location of the whole
abbrev pub Layer : Type 0
Layer = Ty → Origin → Laying ℕ

abbrev pub elements : Layer → (more k at : ℕ) → Ty → Laying (Unit {0})
elements part zero k at t = done tt
elements part (suc more) k at t = do
  _ ← part t (origin.Part at (step.Elem k))
  elements part more (k + 1) at t

abbrev pub is_named : Found → NameId → Bool
is_named f n = list_any (same_name n) f.fields

abbrev pub member_named : Layer → Found → ℕ → Ty → Option NameId → Laying (Unit {0})
member_named part f at t None = done tt
member_named part f at t (Some n) =
    if is_named f n then (part t (origin.Part at (step.Field n)) >>= λ _. done tt) else done tt

abbrev pub members : Layer → Found → ℕ → List Member → Laying (Unit {0})
members part f at [] = done tt
members part f at (m ∷ ms) = do
  _ ← member_named part f at m.type m.name
  members part f at ms

abbrev pub members_of : Source → ℕ → List Member
members_of s n = (slice_index_or s.structs n (record { union = false; members = [] })).members

-- Which parts an object of a type has: elements, of that number and type, or members.
pub data Parts : Type 0 where
  NoParts : Parts
  Elements : (shown : ℕ) → Ty → Parts
  Members : List Member → Parts

abbrev pub parts_of : Source → Ty → Parts
parts_of s (Array t n) = Elements (shown_elements n) t
parts_of s (Struct n) = Members (members_of s n)
parts_of s _ = NoParts

abbrev pub lay_parts : Found → Layer → ℕ → Parts → Laying (Unit {0})
lay_parts f part at NoParts = done tt
lay_parts f part at (Elements n t) = elements part n 0 at t
lay_parts f part at (Members ms) = members part f at ms

-- the parts of the object at a location
abbrev pub parts : Ground → Layer → ℕ → Ty → Laying (Unit {0})
parts g part at t = lay_parts g.found part at (parts_of g.source t)

-- Each level down has laid a location before, so 257 levels are beyond the limit.
unfoldable pub object : (deep : ℕ) → Ground → Chosen → (root : Option ℕ) → Layer
object zero g c root t o = refused limit.Locations
object (suc deep) g c root t o = do
  at ← add g.source c root t o
  _ ← parts g (object deep g c (Some (root_or root at))) at t
  done at

abbrev pub whole : Ground → Chosen → Layer
whole g c t o = object 257 g c None t o

-- What stands behind each pointer cell among some locations: an object of its own, or a stub.
pub data Behind : Type 0 where
  Object : Chosen → Behind
  Stub : Behind

abbrev pub behind : Ground → Behind → ℕ → Ty → Laying ℕ
behind g (Object c) at t = whole g c t (origin.Target at)
behind g Stub at t = stub (origin.Target at)

abbrev pub type_or_void : Option Ty → Ty
type_or_void None = Void
type_or_void (Some t) = t

abbrev pub set_target : ℕ → ℕ → Laying (Unit {0})
set_target at to = do
  l ← location_now at
  put_at at (record l { target = Some to })

abbrev pub follow_cell : Ground → Behind → ℕ → Location → Laying (Unit {0})
follow_cell g f at l =
    if is_pointer_cell l
    then (behind g f at (target_or_void (type_or_void l.type)) >>= λ to. set_target at to)
    else done tt

abbrev pub follow_at : Ground → Behind → ℕ → Laying (Unit {0})
follow_at g f at = location_now at >>= λ l. follow_cell g f at l

abbrev pub follow_all : (more at : ℕ) → Ground → Behind → Laying (Unit {0})
follow_all zero at g f = done tt
follow_all (suc more) at g f = do
  _ ← follow_at g f at
  follow_all more (at + 1) g f

-- a run of a recursion from one location to another
abbrev pub follow_range : (from to : ℕ) → Ground → Behind → Laying (Unit {0})
follow_range from to g f = follow_all (to - from) from g f

-- 1. Parameters, 2. globals that are named, 3. locals, 4. strings and functions.

abbrev pub lay_params : ℕ → List Ty → Ground → Laying (Unit {0})
lay_params k [] g = done tt
lay_params k (t ∷ ts) g = do
  _ ← whole g Cells t (origin.Param k)
  lay_params (k + 1) ts g

abbrev pub lay_global : Ground → ℕ → Ty → Laying (Unit {0})
lay_global g k t =
    if list_any (nat_eq k) g.found.globals
    then (whole g CellsAndStates t (origin.Global k) >>= λ _. done tt)
    else done tt

abbrev pub lay_globals : ℕ → List Ty → Ground → Laying (Unit {0})
lay_globals k [] g = done tt
lay_globals k (t ∷ ts) g = do
  _ ← lay_global g k t
  lay_globals (k + 1) ts g

abbrev pub lay_locals : ℕ → List Ty → Ground → Laying (Unit {0})
lay_locals k [] g = done tt
lay_locals k (t ∷ ts) g = do
  _ ← whole g Nothing t (origin.Local k)
  lay_locals (k + 1) ts g

abbrev pub lay_literals : List Origin → Laying (Unit {0})
lay_literals [] = done tt
lay_literals (o ∷ os) = do
  _ ← stub o
  lay_literals os

-- 5. What pointers point to at entry: an object behind each pointer cell of 1 and 2, then behind each of those, and so
-- on to the reach; then a stub behind each pointer cell of the last ones.
abbrev pub levels : (reach from to : ℕ) → Ground → Laying (Unit {0})
levels zero from to g = follow_range from to g Stub
levels (suc reach) from to g = do
  start ← count
  _ ← follow_range from to g (Object CellsAndStates)
  end ← count
  levels reach start end g
