-- Elements of arrays: to which location an array and an index lead, and what the gates promise of that for every choice.
use Rattle.std.specs.Prelude.{◌≡◌, ℕ, zero, suc, ◌<◌, ◌≤◌, nat_eq, nat_lt, Bool, true, false, not, ◌||◌, Option, Some, None, List, [], ◌∷◌, ◌++◌, length, if◌then◌else◌}
use Rattle.bit_net.specs.declared.nodes.Gate.{Gate}
use Rattle.bit_net.specs.declared.nodes.Node.{Node}
use Rattle.bit_net.specs.Runs.{Runs}
use Rattle.bit_words.specs.declared.Word.{Word as Words}
use Rattle.bit_words.specs.Number.{number}
use Rattle.gl_sets.specs.declared.pairs.Pair.{Pair}
use Rattle.gl_sets.specs.declared.sets.Set.{Set as Sets}
use Rattle.gl_sets.specs.Guards.{Points, held, has_target, targets_differ, guards_top}
use Rattle.gl_store.specs.declared.values.Val.{Val}
use Rattle.gl_store.specs.declared.values.Val.TheVariants.{Word, Set}
use Rattle.gl_store.specs.declared.stores.Location.{Location}
use Rattle.gl_store.specs.Meets.{Meets, val_kind, val_top}
use Rattle.run_store.specs.Concrete.{Cell}
use Rattle.sum_rows.specs.declared.path.Step.TheVariants as step
use Rattle.sc_world.specs.declared.run.Origin.{Origin}
use Rattle.sc_world.specs.declared.run.Origin.TheVariants as origin
use Rattle.sc_world.specs.Tree.{Ty}
use Rattle.sc_world.specs.Source.{Source}
use Rattle.sc_world.specs.Layout.{Layout, part, is_there}
use Rattle.sc_world.specs.World.{◌>>=◌, number_of}
use Rattle.sc_world.specs.Eval.{Want, Place', place_of, wanted, element}
use Rattle.run_laws.specs.Fits.{ElementsFit}
use Rattle.gate_runs.specs.declared.ends.Ends.{Ends}
use Rattle.gate_runs.specs.Stands.{Does}
use Rattle.gate_places.specs.Places.{GoodFor, env_of, wanted_kind}
use Rattle.gate_elements.specs.declared.elements.Entry.{Entry}

-- the element that a location is, of an array among the locations
abbrev pub element_origin : Layout → Origin → Option Entry
element_origin p (origin.Part up (step.Elem k)) =
    if nat_lt up (length p.locations) then Some (record { array = up; number = k }) else None
element_origin p _ = None

-- the element with the number of the array to which a target leads
abbrev pub element_of : Layout → (number target : ℕ) → Option ℕ
element_of p n zero = None
element_of p n (suc up) = if nat_lt up (length p.locations) then part p up (step.Elem n) else None

-- whether it is that location
abbrev pub is_location : Option ℕ → ℕ → Bool
is_location None at = false
is_location (Some to) at = nat_eq to at

-- the target of it; null where there is none
abbrev pub target_of : Option ℕ → ℕ
target_of None = 0
target_of (Some to) = suc to

-- its target, where it is one of the first locations; and whether it is
abbrev pub among : Option ℕ → (count : ℕ) → List ℕ
among o zero = []
among o (suc at) = among o at ++ (if is_location o at then suc at ∷ [] else [])

abbrev pub is_among : Option ℕ → (count : ℕ) → Bool
is_among o zero = false
is_among o (suc at) = is_among o at || is_location o at

-- the gate holds where the array and the index lead to that location
pub record LeadsHere (ns : List Node) (p : Layout) (array : List Pair) (index : List Gate) (at gate : ℕ) : Type 0 where
  pub below : gate < length ns
  pub value : (choice v : ℕ → Bool) → Runs ns choice v → (target : ℕ) → Points v array target
      → v gate ≡ is_location (element_of p (number v index) target) at

-- a pair more, whose guard may hold for no choice
pub record IsPushed (ns : List Node) (pair : Pair) (old new : List Pair) : Type 0 where
  pub below : guards_top old ≤ length ns → guards_top new ≤ length ns
  pub differ : has_target old pair.target ≡ false → targets_differ old ≡ true → targets_differ new ≡ true
  pub others : (t : ℕ) → (pair.target ≡ t → ⊥) → has_target old t ≡ false → has_target new t ≡ false
  pub holds : (choice v : ℕ → Bool) → Runs ns choice v → held v new ≡ held v old ++ (if v pair.guard.at then pair.target ∷ [] else [])

-- the pairs of the elements among the first locations, and the gate that holds where one of them is led to
pub record HasElements (ns : List Node) (p : Layout) (array : List Pair) (index : List Gate) (count : ℕ) (pairs : List Pair) (found : ℕ) : Type 0 where
  pub below : guards_top pairs ≤ length ns
  pub low : found < length ns
  pub differ : targets_differ pairs ≡ true
  pub no_null : has_target pairs 0 ≡ false
  pub no_later : (t : ℕ) → count < t → has_target pairs t ≡ false
  pub holds : (choice v : ℕ → Bool) → Runs ns choice v → (target : ℕ) → Points v array target
      → held v pairs ≡ among (element_of p (number v index) target) count
  pub some : (choice v : ℕ → Bool) → Runs ns choice v → (target : ℕ) → Points v array target
      → v found ≡ is_among (element_of p (number v index) target) count

-- the pointer leads to the element, and is null where the gate holds: where there is none
pub record IsElement (ns : List Node) (p : Layout) (array : List Pair) (index : List Gate) (made : List Pair) (missing : ℕ) : Type 0 where
  pub below : guards_top made ≤ length ns
  pub low : missing < length ns
  pub points : (choice v : ℕ → Bool) → Runs ns choice v → (target : ℕ) → Points v array target
      → Points v made (target_of (element_of p (number v index) target))
  pub none : (choice v : ℕ → Bool) → Runs ns choice v → (target : ℕ) → Points v array target
      → v missing ≡ not (is_there (element_of p (number v index) target))

-- what is wanted of the element with an index; an index that no element has sets the run aside
pub record DoesElement (s : Source) (p : Layout) (ns : List Node) (locations : List Location) (want : Want) (t : Ty) (array : Sets) (index : Words) (old new : Ends) (r : Val) : Type 0 where
  pub below : val_top r ≤ length ns
  pub kind : val_kind r ≡ wanted_kind s want t
  pub does : (choice v : ℕ → Bool) → Runs ns choice v → (u : Ty) → ElementsFit p u t → (bits : List Bool) (temps : List Cell) (turn : ℕ) (q k : Cell)
      → GoodFor v old p Place' u (Set array) q → Meets v (Word index) k
      → Does v locations old (element (env_of s p bits temps turn) (place_of q) (number_of k) >>= λ at. wanted want t at) locations new (GoodFor v new p want t r)
