-- What the calls on guarded sets promise, for every choice.
use Rattle.std.specs.Prelude.{◌≡◌, ℕ, ◌<◌, ◌≤◌, Bool, true, ◌&&◌, ◌||◌, List, length, map, take, if◌then◌else◌}
use Rattle.gl_sets.specs.declared.pairs.Pair.{Pair}
use Rattle.bit_net.specs.declared.nodes.Gate.{Gate}
use Rattle.bit_net.specs.declared.nodes.Node.{Node}
use Rattle.bit_net.specs.Runs.{Runs}
use Rattle.gl_sets.specs.Guards.{Points, guard, has_target, targets_differ, guards_top, targets_of, with_targets, tested, Tests}

-- a good set: its guards are gates of the net, no two pairs have one target, and for every choice exactly one guard holds
pub record IsGood (ns : List Node) (ps : List Pair) : Type 0 where
  pub below : guards_top ps ≤ length ns
  pub differ : targets_differ ps ≡ true
  pub points : (choice v : ℕ → Bool) → Runs ns choice v → (t : ℕ) × Points v ps t

-- for every choice the set points to what a points to where c holds, else to what b points to; it has no other targets than these two
pub record IsJoin (ns : List Node) (c : ℕ) (a b joined : List Pair) : Type 0 where
  pub below : guards_top joined ≤ length ns
  pub targets : (t : ℕ) → has_target joined t ≡ true → (has_target a t || has_target b t) ≡ true
  pub points : (choice v : ℕ → Bool) → Runs ns choice v → (t u : ℕ) → Points v a t → Points v b u → Points v joined (if v c then t else u)

-- the value of the guard of a target in the set that a gate chooses
abbrev pub chosen_guard : (v : ℕ → Bool) (c : ℕ) (a b : List Pair) (target : ℕ) → Bool
chosen_guard v c a b t = if v c then guard v a t else guard v b t

-- the pairs so far of a set that is put together: each of their targets is one of those seen, and each target seen has the guard `of`
pub record IsMadeSoFar (ns : List Node) (of : (v : ℕ → Bool) → (target : ℕ) → Bool) (seen so_far : List Pair) : Type 0 where
  pub below : guards_top so_far ≤ length ns
  pub differ : targets_differ so_far ≡ true
  pub known : (t : ℕ) → has_target so_far t ≡ true → has_target seen t ≡ true
  pub guards : (choice v : ℕ → Bool) → Runs ns choice v → (t : ℕ) → guard v so_far t ≡ (has_target seen t && of v t)

-- for every choice the set points to where the target goes to which ps points, where each pair's target goes to the one at its place
-- in `targets`; it has no other targets than these
pub record IsMoved (ns : List Node) (ps : List Pair) (targets : List ℕ) (moved : List Pair) : Type 0 where
  pub below : guards_top moved ≤ length ns
  pub known : (t : ℕ) → has_target moved t ≡ true → has_target (with_targets ps targets) t ≡ true
  pub guards : (choice v : ℕ → Bool) → Runs ns choice v → (t : ℕ) → guard v moved t ≡ guard v (with_targets ps targets) t
  pub points : (choice v : ℕ → Bool) → Runs ns choice v → (f : ℕ → ℕ) (t : ℕ) → map f (targets_of ps) ≡ targets → Points v ps t → Points v moved (f t)

-- the pairs so far of such a set: those of the first i targets
abbrev pub IsMovedSoFar : (ns : List Node) (ps : List Pair) (targets : List ℕ) (i : ℕ) (so_far : List Pair) → Type 0
IsMovedSoFar ns ps targets i so_far =
    IsMadeSoFar ns (λ v t. guard v (with_targets ps targets) t) (with_targets (take i ps) (take i targets)) so_far

-- the gate holds where the set points to a target whose test holds
pub record IsWhere (ns : List Node) (ps : List Pair) (tests : List Gate) (gate : ℕ) : Type 0 where
  pub below : gate < length ns
  pub value : (choice v : ℕ → Bool) → Runs ns choice v → v gate ≡ tested v ps tests
  pub points : (choice v : ℕ → Bool) → Runs ns choice v → (f : ℕ → Bool) (t : ℕ) → Tests v ps tests f → Points v ps t → v gate ≡ f t
