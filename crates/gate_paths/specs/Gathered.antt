-- The items of a summary, as gates: for every choice the sets show those that a run finds, in their order.
use Rattle.std.specs.Prelude.{◌≡◌, ℕ, ◌≤◌, Bool, Option, List, [], ◌∷◌, ◌++◌, length, All}
use Rattle.bit_net.specs.declared.nodes.Node.{Node}
use Rattle.bit_net.specs.Runs.{Runs}
use Rattle.gl_sets.specs.declared.pairs.Pair.{Pair}
use Rattle.gl_sets.specs.Guards.{guards_top}
use Rattle.gl_store.specs.declared.values.Val.{Val}
use Rattle.gl_store.specs.declared.stores.Location.{Location}
use Rattle.run_store.specs.Concrete.{Cell}
use Rattle.sum_rows.specs.declared.row.Item.{Item}
use Rattle.sum_rows.specs.declared.row.ItemRows.{ItemRows}
use Rattle.sc_world.specs.Source.{Source}
use Rattle.sc_world.specs.Layout.{Layout, spot_at}
use Rattle.sc_world.specs.World.{Env, Run, ◌>>=◌, done}
use Rattle.sc_world.specs.Known.{Locked, Outed, locks, locked_item, outs, out_item, spot_behind, with_locked, with_out}
use Rattle.layout_base.specs.Seen.{spot_of}
use Rattle.gate_runs.specs.declared.ends.Ends.{Ends}
use Rattle.gate_runs.specs.Stands.{Does}
use Rattle.gate_places.specs.Places.{env_of}
use Rattle.gate_objects.specs.Escapes.{MeetsEach}
use Rattle.gate_paths.specs.declared.gathered.Found.{Found}
use Rattle.gate_paths.specs.Paths.{IsFound}

-- the sets tell where each thing is, or that it is missing
abbrev pub AreFound : {F : Type 0} → (v : ℕ → Bool) → (F → List Pair) → List F → List (Option ℕ) → Type 0
AreFound v at [] [] = Unit {0}
AreFound v at (f ∷ fs) (o ∷ os) = IsFound v (at f) o × AreFound v at fs os
AreFound v at _ _ = ⊥

-- those that are not missing, in their order; `put` puts one before others, unless it is missing
abbrev pub found_list : {F Y : Type 0} → (F → Option ℕ → List Y → List Y) → List F → List (Option ℕ) → List Y
found_list put [] os = []
found_list put (f ∷ fs) [] = []
found_list put (f ∷ fs) (o ∷ os) = put f o (found_list put fs os)

pub record Shows {F Y : Type 0} (v : ℕ → Bool) (at : F → List Pair) (put : F → Option ℕ → List Y → List Y) (fs : List F) (ys : List Y) : Type 0 where
  pub places : List (Option ℕ)
  pub found : AreFound v at fs places
  pub is : ys ≡ found_list put fs places

-- what the sets of items are, and what the definition makes of an item
abbrev pub where_item : Found → List Pair
where_item f = f.at.pairs.items

abbrev pub put_locked : Found → Option ℕ → List Locked → List Locked
put_locked f o ls = with_locked f.rows.now (spot_of f.spot).bit o ls

abbrev pub put_out : Found → Option ℕ → List Outed → List Outed
put_out f o os = with_out f.rows.now (spot_of f.spot) o os

abbrev pub AreItemsBelow : List Node → List Found → Type 0
AreItemsBelow ns fs = All (λ f. guards_top (where_item f) ≤ length ns) fs

-- one item more behind those that there are
abbrev pub lock_more : Env → List Cell → (spot : ℕ) → ItemRows → List Locked → Run (List Locked)
lock_more env cs k x ls = locked_item env cs k x.item >>= λ o. done (ls ++ with_locked x.rows (spot_at env.layout k).bit o [])

abbrev pub out_more : Env → List Cell → (spot : ℕ) → ItemRows → List Outed → Run (List Outed)
out_more env cs k x os = out_item env cs x.item >>= λ o. done (os ++ with_out x.rows (spot_at env.layout k) o [])

pub record AddsLock (ns : List Node) (p : Layout) (locations : List Location) (args : List Val) (spot : ℕ) (x : ItemRows) (old new : List Found) : Type 0 where
  pub below : AreItemsBelow ns new
  pub does : (choice v : ℕ → Bool) → Runs ns choice v → (gates : Ends) (s : Source) (bits : List Bool) (temps : List Cell) (turn : ℕ) (cs : List Cell)
      → MeetsEach v args cs
      → (ls : List Locked) → Shows v where_item put_locked old ls
      → Does v locations gates (lock_more (env_of s p bits temps turn) cs spot x ls) locations gates (Shows v where_item put_locked new)

pub record AddsOut (ns : List Node) (p : Layout) (locations : List Location) (args : List Val) (spot : ℕ) (x : ItemRows) (old new : List Found) : Type 0 where
  pub below : AreItemsBelow ns new
  pub does : (choice v : ℕ → Bool) → Runs ns choice v → (gates : Ends) (s : Source) (bits : List Bool) (temps : List Cell) (turn : ℕ) (cs : List Cell)
      → MeetsEach v args cs
      → (os : List Outed) → Shows v where_item put_out old os
      → Does v locations gates (out_more (env_of s p bits temps turn) cs spot x os) locations gates (Shows v where_item put_out new)

-- The items of locations of a call, and the pointers that its parameters point to. Nothing is changed.
pub record FindsLocks (ns : List Node) (p : Layout) (locations : List Location) (args : List Val) (spot : ℕ) (items : List ItemRows) (found : List Found) :
    Type 0 where
  pub below : AreItemsBelow ns found
  pub does : (choice v : ℕ → Bool) → Runs ns choice v → (gates : Ends) (s : Source) (bits : List Bool) (temps : List Cell) (turn : ℕ) (cs : List Cell)
      → MeetsEach v args cs
      → Does v locations gates (locks (env_of s p bits temps turn) cs spot items) locations gates (Shows v where_item put_locked found)

pub record FindsOuts (ns : List Node) (p : Layout) (locations : List Location) (args : List Val) (spot : ℕ) (items : List ItemRows) (found : List Found) : Type
    0 where
  pub below : AreItemsBelow ns found
  pub does : (choice v : ℕ → Bool) → Runs ns choice v → (gates : Ends) (s : Source) (bits : List Bool) (temps : List Cell) (turn : ℕ) (cs : List Cell)
      → MeetsEach v args cs
      → Does v locations gates (outs (env_of s p bits temps turn) cs spot items) locations gates (Shows v where_item put_out found)

-- the spot behind the items of a sort
abbrev pub spot_after : (Item → Bool) → (spot : ℕ) → List ItemRows → ℕ
spot_after test k [] = k
spot_after test k (x ∷ xs) = spot_after test (spot_behind (test x.item) k) xs
