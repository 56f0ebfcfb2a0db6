-- The locations of a function, its calls in their turns, and the bits that choose a run: all numbers that a run
-- needs, as data.
use Rattle.std.specs.Prelude.{ℕ, zero, suc, ◌+◌, nat_eq, Bool, true, false, not, ◌&&◌, ◌||◌, Option, Some, None, List, [], ◌∷◌, length, slice_index_or, if◌then◌else◌}
use Rattle.sc_base.specs.declared.pos.Pos.{Pos}
use Rattle.sc_base.specs.declared.pos.NameId.{NameId}
use Rattle.sum_rows.specs.declared.path.Step.{Step}
use Rattle.sum_rows.specs.declared.path.Step.TheVariants as step
use Rattle.sc_world.specs.declared.run.Origin.{Origin}
use Rattle.sc_world.specs.declared.run.Origin.TheVariants as origin
use Rattle.sc_world.specs.Tree.{Ty, Void, Ptr, same_type, is_integer, is_pointer}
use Rattle.sc_world.specs.Gather.{Site}
use Rattle.sc_world.specs.Source.{Effect, Unknown}

-- A location. A stub has no type and no cell, and no access may reach it.
pub record Location : Type 0 where
  pub type : Option Ty
  pub origin : Origin
  -- the object that it is a part of; itself where it is a whole one
  pub root : ℕ
  -- the first bit of its cell, where the choice gives that
  pub bit : Option ℕ
  -- the first bit of its state at entry: of globals and of objects that pointers point to at entry
  pub state : Option ℕ
  -- of a pointer cell: the object or the stub of its own
  pub target : Option ℕ

-- A call in one turn of the loops round it: its object, the first bit of its choice, and its first spot.
pub record Occurrence : Type 0 where
  pub site : ℕ
  pub object : Option ℕ
  pub bit : ℕ
  pub spot : ℕ

-- What the choice says of one item or written path of a known call: its first bit, and an object that comes with it.
pub record Spot : Type 0 where
  pub bit : ℕ
  pub object : Option ℕ

pub record Layout : Type 0 where
  pub locations : List Location
  -- the calls of the text, in order
  pub sites : List Site
  pub occurrences : List Occurrence
  pub spots : List Spot
  -- how many bits choose a run
  pub bits : ℕ

abbrev pub no_layout : Layout
no_layout = record { locations = []; sites = []; occurrences = []; spots = []; bits = 0 }

-- what stands for a number that no location has: a stub
abbrev pub nowhere : Location
nowhere = record { type = None; origin = origin.Param 0; root = 0; bit = None; state = None; target = None }

abbrev pub location : Layout → ℕ → Location
location p at = slice_index_or p.locations at nowhere

abbrev pub is_there : {A : Type 0} → Option A → Bool
is_there None = false
is_there (Some a) = true

abbrev pub is_stub : Location → Bool
is_stub l = not (is_there l.type)

-- a location whose state the caller knows: an error there is the caller's too
abbrev pub is_outer : Location → Bool
is_outer l = is_there l.state

abbrev pub type_is : Option Ty → Ty → Bool
type_is None t = false
type_is (Some u) t = same_type u t

abbrev pub has_type : Location → Ty → Bool
has_type l t = type_is l.type t

abbrev pub is_cell_type : Option Ty → Bool
is_cell_type None = false
is_cell_type (Some t) = is_integer t || is_pointer t

-- a location of an integer or pointer type
abbrev pub is_cell : Location → Bool
is_cell l = is_cell_type l.type

abbrev pub is_pointer_type : Option Ty → Bool
is_pointer_type None = false
is_pointer_type (Some t) = is_pointer t

abbrev pub is_pointer_cell : Location → Bool
is_pointer_cell l = is_pointer_type l.type

-- Parts.

abbrev pub same_step : Step → Step → Bool
same_step step.Deref step.Deref = true
same_step (step.Field m) (step.Field n) = nat_eq m.at n.at
same_step (step.Elem m) (step.Elem n) = nat_eq m n
same_step _ _ = false

abbrev pub is_part_of : ℕ → Step → Origin → Bool
is_part_of at s (origin.Part up t) = nat_eq at up && same_step s t
is_part_of at s _ = false

-- the number of the first location that passes, the first of them having the number k
abbrev pub first_where : (Location → Bool) → ℕ → List Location → Option ℕ
first_where test k [] = None
first_where test k (l ∷ ls) = if test l then Some k else first_where test (k + 1) ls

-- the part of a location to which a step leads
abbrev pub part : Layout → ℕ → Step → Option ℕ
part p at s = first_where (λ l. is_part_of at s l.origin) 0 p.locations

abbrev pub same_origin : Origin → Origin → Bool
same_origin (origin.Param m) (origin.Param n) = nat_eq m n
same_origin (origin.Global m) (origin.Global n) = nat_eq m n
same_origin (origin.Local m) (origin.Local n) = nat_eq m n
same_origin (origin.Literal p) (origin.Literal q) = nat_eq p.file q.file && (nat_eq p.line q.line && nat_eq p.col q.col)
same_origin (origin.Function m) (origin.Function n) = nat_eq m.at n.at
same_origin (origin.Target m) (origin.Target n) = nat_eq m n
same_origin (origin.Call m) (origin.Call n) = nat_eq m n
same_origin (origin.Part m s) (origin.Part n t) = nat_eq m n && same_step s t
same_origin _ _ = false

abbrev pub or_zero : Option ℕ → ℕ
or_zero None = 0
or_zero (Some n) = n

-- the location that a parameter, a global, a local, a string or a function is
abbrev pub location_of : Layout → Origin → ℕ
location_of p o = or_zero (first_where (λ l. same_origin o l.origin) 0 p.locations)

-- Calls.

abbrev pub no_site : Site
no_site =
    record {
      pos = record { file = 0; line = 0; col = 0 };
      bracket = record { file = 0; line = 0; col = 0 };
      turns = 1;
      effect = Unknown;
      result = Void;
      object = Void;
    }

abbrev pub same_pos : Pos → Pos → Bool
same_pos p q = nat_eq p.file q.file && (nat_eq p.line q.line && nat_eq p.col q.col)

abbrev pub no_occurrence : Occurrence
no_occurrence = record { site = 0; object = None; bit = 0; spot = 0 }

-- a call of the text, and the number of its first occurrence
pub record Placed : Type 0 where
  pub site : Site
  pub first : ℕ

-- the call with that opening bracket; `first` is the number of occurrences of the calls before
abbrev pub site_from : Pos → (first : ℕ) → List Site → Placed
site_from bracket first [] = record { site = no_site; first = first }
site_from bracket first (s ∷ ss) =
    if same_pos bracket s.bracket then record { site = s; first = first } else site_from bracket (first + s.turns) ss

abbrev pub site_at : Layout → Pos → Placed
site_at p bracket = site_from bracket 0 p.sites

-- the occurrence of a call in a turn
abbrev pub occurrence_at : Layout → Placed → (turn : ℕ) → Occurrence
occurrence_at p s turn = slice_index_or p.occurrences (s.first + turn) no_occurrence

abbrev pub no_spot : Spot
no_spot = record { bit = 0; object = None }

abbrev pub spot_at : Layout → ℕ → Spot
spot_at p n = slice_index_or p.spots n no_spot
