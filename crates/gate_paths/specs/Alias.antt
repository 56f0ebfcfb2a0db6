-- Items that are at one location, as gates.
use Rattle.std.specs.Prelude.{◌≡◌, ℕ, zero, suc, ◌<◌, Bool, false, nat_eq, Option, Some, None, List, length, map}
use Rattle.std.specs.List.{list_any}
use Rattle.bit_net.specs.declared.nodes.Node.{Node}
use Rattle.bit_net.specs.Runs.{Runs}
use Rattle.gl_sets.specs.declared.pairs.Pair.{Pair}
use Rattle.gl_sets.specs.Guards.{guard}
use Rattle.sc_world.specs.Known.{Locked, Outed, meet_twice}
use Rattle.gate_paths.specs.declared.gathered.Found.{Found}
use Rattle.gate_paths.specs.Paths.{IsFound}
use Rattle.gate_paths.specs.Gathered.{AreFound, Shows, put_locked, put_out, where_item}

-- the guard of a location in a set; what is missing has none
abbrev pub guard_at : (v : ℕ → Bool) → List Pair → (target : ℕ) → Bool
guard_at v ps zero = false
guard_at v ps (suc at) = guard v ps (suc at)

-- whether two that were found are at one location
abbrev pub same_place : Option ℕ → Option ℕ → Bool
same_place None q = false
same_place (Some m) None = false
same_place (Some m) (Some n) = nat_eq m n

-- the gate holds where both sets point to one location
pub record Meet (ns : List Node) (a b : List Pair) (gate : ℕ) : Type 0 where
  pub below : gate < length ns
  pub value : (choice v : ℕ → Bool) → Runs ns choice v → (o q : Option ℕ) → IsFound v a o → IsFound v b q → v gate ≡ same_place o q

-- the same of a set and one of others
pub record MeetSome (ns : List Node) (a : List Pair) (others : List Found) (gate : ℕ) : Type 0 where
  pub below : gate < length ns
  pub value : (choice v : ℕ → Bool) → Runs ns choice v → (o : Option ℕ) (os : List (Option ℕ)) → IsFound v a o → AreFound v where_item others os
      → v gate ≡ list_any (same_place o) os

-- the gate holds where two of the items are at one location
pub record MeetTwice (ns : List Node) (found : List Found) (gate : ℕ) : Type 0 where
  pub below : gate < length ns
  pub locks : (choice v : ℕ → Bool) → Runs ns choice v → (ls : List Locked) → Shows v where_item put_locked found ls → v gate ≡ meet_twice (map (λ l. l.at) ls)
  pub outs : (choice v : ℕ → Bool) → Runs ns choice v → (os : List Outed) → Shows v where_item put_out found os → v gate ≡ meet_twice (map (λ o. o.at) os)
