-- Paths of summaries in the store of the caller, and the items of a known call.
use Rattle.std.proofs.Common.{ℕ, zero, suc, ◌+◌, ◌-◌, ◌≤◌, Bool, true, false, List, [], ◌∷◌, length, arith}
use Rattle.std.specs.Prelude.{Option, Some, None, slice_index_or, if◌then◌else◌}
use Rattle.std.specs.List.{AllByRecursion}
use Rattle.run_store.specs.declared.Flag.TheVariants as flag
use Rattle.run_store.specs.Concrete.{Cell}
use Rattle.sum_rows.specs.declared.path.Path.{Path}
use Rattle.sum_rows.specs.declared.path.Root.{Root}
use Rattle.sum_rows.specs.declared.path.Root.TheVariants as root
use Rattle.sum_rows.specs.declared.path.Step.{Step}
use Rattle.sum_rows.specs.declared.path.Step.TheVariants as step
use Rattle.sum_rows.specs.declared.row.Item.{Item}
use Rattle.sum_rows.specs.declared.row.Item.TheVariants as item
use Rattle.sum_rows.specs.declared.row.ItemRows.{ItemRows}
use Rattle.sum_rows.specs.declared.row.Row.{Row}
use Rattle.sum_rows.specs.declared.row.Write.{Write}
use Rattle.sc_world.specs.declared.run.Origin.TheVariants as origin
use Rattle.sc_world.specs.Source.{Source}
use Rattle.sc_world.specs.Layout.{Layout, location, is_stub, is_pointer_cell, part, spot_at}
use Rattle.sc_world.specs.Occurrences.{is_out_path}
use Rattle.sc_world.specs.World.{World, Run, null, target_of, root_of}
use Rattle.sc_world.specs.Known.{usable, Come, At, Holds, pointed, stepped, at_end, onwards, follow, begin, follow_path, locked_item, is_lock, spot_behind, locks, Outed, with_out, is_out_item, pointer_cell_if, out_item, outs, Written, with_written, writes}
use Rattle.run_laws.proofs.Steps.{Whatever, Leads, chain, gives, either, weaker, IsPlace, Inside, Rules}
use Rattle.run_laws.proofs.Places.{IfPlace, AreInside, at_index, part_place, origin_place, place_named, null_inside}
use Rattle.run_laws.proofs.Values.{tree, loads, asks}

module _ (s : Source) (p : Layout) (choice : List Bool) (temps : List Cell) (P : World → Type 0) (r : Rules s p temps P) where
  abbrev here : ℕ → Rattle.sc_world.specs.World.Env
  here t = tree s p choice temps P r t

  unless_freed : (b : Bool) (at : ℕ) → IsPlace p at → IfPlace p (if b then None else Some at)
  unless_freed true at h = tt
  unless_freed false at h = h

  usables : (t target : ℕ) → target ≤ suc (length p.locations - 1) → Leads P (IfPlace p) (usable (here t) target)
  usables t zero h = gives P {a = None} tt
  usables t (suc at) h =
      either P (is_stub (location p at)) (gives P {a = None} tt)
      (chain P (asks s p choice temps P r (root_of (here t) at) flag.Freed)
      (λ b _. gives P {a = if b then None else Some at} (unless_freed b at (omega (arith, h)))))

  -- where a path has come to
  ComesInside : Come → Type 0
  ComesInside (At at) = IsPlace p at
  ComesInside (Holds c) = Inside p c

  points : (t : ℕ) (c : Come) → ComesInside c → Leads P (IfPlace p) (pointed (here t) c)
  unfolding ComesInside
  points t (Holds c) h = usables t (target_of c) h.within
  points t (At at) h =
      either P (is_pointer_cell (location p at))
      (chain P (loads s p choice temps P r at) (λ c hc. usables t (target_of c) hc.within)) (gives P {a = None} tt)

  steps : (t : ℕ) (x : Step) (c : Come) → ComesInside c → Leads P (IfPlace p) (stepped (here t) x c)
  unfolding ComesInside
  steps t step.Deref c h = points t c h
  steps t (step.Field n) (At at) h = gives P {a = part p at (step.Field n)} (part_place p at (step.Field n))
  steps t (step.Elem n) (At at) h = gives P {a = part p at (step.Elem n)} (part_place p at (step.Elem n))
  steps t (step.Field n) (Holds c) h = gives P {a = None} tt
  steps t (step.Elem n) (Holds c) h = gives P {a = None} tt

  ends_inside : (c : Come) → ComesInside c → IfPlace p (at_end c)
  unfolding ComesInside
  ends_inside (At at) h = h
  ends_inside (Holds c) h = tt

  goes_onwards : (o : Option ℕ) (f : Come → Run (Option ℕ)) → IfPlace p o
      → ((c : Come) → ComesInside c → Leads P (IfPlace p) (f c)) → Leads P (IfPlace p) (onwards o f)
  unfolding ComesInside
  goes_onwards None f h l = gives P {a = None} tt
  goes_onwards (Some at) f h l = l (At at) h

  follows : (t : ℕ) (xs : List Step) (c : Come) → ComesInside c → Leads P (IfPlace p) (follow (here t) xs c)
  follows t [] c h = gives P {a = at_end c} (ends_inside c h)
  follows t (x ∷ xs) c h =
      chain P (steps t x c h) (λ o ho. goes_onwards o (follow (here t) xs) ho (λ d hd. follows t xs d hd))

  pub arg_inside : (vs : List Cell) → AreInside p vs → (n : ℕ) → Inside p (slice_index_or vs n null)
  arg_inside vs hs n = at_index (Inside p) null (null_inside p) vs hs n

  begins : (t : ℕ) (vs : List Cell) → AreInside p vs → (x : Root) → ComesInside (begin (here t) vs x)
  unfolding ComesInside
  begins t vs hs (root.Param n) = arg_inside vs hs n
  begins t vs hs (root.Global n) = origin_place p (origin.Global n)

  pub follows_path : (t : ℕ) (vs : List Cell) → AreInside p vs → (x : Path) → Leads P (IfPlace p) (follow_path (here t) vs x)
  follows_path t vs hs x = follows t x.steps (begin (here t) vs x.root) (begins t vs hs x.root)

  -- Items.

  locks_item : (t : ℕ) (vs : List Cell) → AreInside p vs → (k : ℕ) (x : Item) → Leads P Whatever (locked_item (here t) vs k x)
  locks_item t vs hs k (item.Lock x) = weaker P (λ _ _. tt) (follows_path t vs hs x)
  locks_item t vs hs k item.Exit = gives P tt
  locks_item t vs hs k (item.Param n) = gives P tt
  locks_item t vs hs k (item.Out n) = gives P tt

  pub finds_locks : (t : ℕ) (vs : List Cell) → AreInside p vs → (k : ℕ) (xs : List ItemRows)
      → Leads P Whatever (locks (here t) vs k xs)
  finds_locks t vs hs k [] = gives P tt
  finds_locks t vs hs k (x ∷ xs) =
      chain P (locks_item t vs hs k x.item)
      (λ at _. chain P (finds_locks t vs hs (spot_behind (is_lock x.item) k) xs) (λ ls _. gives P tt))

  pub record OutInside (o : Outed) : Type 0 where
    pub at : IsPlace p o.at
    pub object : IfPlace p o.object

  pub record WrittenInside (o : Written) : Type 0 where
    pub at : IsPlace p o.at
    pub object : IfPlace p o.object

  spot_inside : (k : ℕ) → IfPlace p (spot_at p k).object
  spot_inside k = place_named p (spot_at p k).object (r.closed.spots k)

  outs_with : (rows : List Row) (k : ℕ) (at : Option ℕ) (os : List Outed) → IfPlace p at → AllByRecursion OutInside os
      → AllByRecursion OutInside (with_out rows (spot_at p k) at os)
  outs_with rows k None os h hs = hs
  outs_with rows k (Some at) os h hs = (record { at = h; object = spot_inside k }, hs)

  pointer_cells : (t : ℕ) (o : Option ℕ) → IfPlace p o → IfPlace p (pointer_cell_if (here t) o)
  pointer_cells t None h = tt
  pointer_cells t (Some at) h = some_if (is_pointer_cell (location p at))
    where
      some_if : (b : Bool) → IfPlace p (if b then Some at else None)
      some_if true = h
      some_if false = tt

  finds_out : (t : ℕ) (vs : List Cell) → AreInside p vs → (x : Item) → Leads P (IfPlace p) (out_item (here t) vs x)
  finds_out t vs hs (item.Out n) =
      chain P (usables t (target_of (slice_index_or vs n null)) (arg_inside vs hs n).within)
      (λ at h. gives P {a = pointer_cell_if (here t) at} (pointer_cells t at h))
  finds_out t vs hs item.Exit = gives P {a = None} tt
  finds_out t vs hs (item.Param n) = gives P {a = None} tt
  finds_out t vs hs (item.Lock x) = gives P {a = None} tt

  pub finds_outs : (t : ℕ) (vs : List Cell) → AreInside p vs → (k : ℕ) (xs : List ItemRows)
      → Leads P (AllByRecursion OutInside) (outs (here t) vs k xs)
  finds_outs t vs hs k [] = gives P {a = []} tt
  finds_outs t vs hs k (x ∷ xs) =
      chain P (finds_out t vs hs x.item)
      (λ at h. chain P (finds_outs t vs hs (spot_behind (is_out_item x.item) k) xs)
      (λ os ho. gives P {a = with_out x.rows (spot_at p k) at os} (outs_with x.rows k at os h ho)))

  writes_with : (width k : ℕ) (at : Option ℕ) (ws : List Written) → IfPlace p at → AllByRecursion WrittenInside ws
      → AllByRecursion WrittenInside (with_written width (spot_at p k) at ws)
  writes_with width k None ws h hs = hs
  writes_with width k (Some at) ws h hs = (record { at = h; object = spot_inside k }, hs)

  pub finds_writes : (t : ℕ) (vs : List Cell) → AreInside p vs → (items : List ItemRows) (k : ℕ) (xs : List Write)
      → Leads P (AllByRecursion WrittenInside) (writes (here t) vs items k xs)
  finds_writes t vs hs items k [] = gives P {a = []} tt
  finds_writes t vs hs items k (x ∷ xs) =
      either P (is_out_path items x.path) (finds_writes t vs hs items k xs)
      (chain P (follows_path t vs hs x.path)
      (λ at h. chain P (finds_writes t vs hs items (k + 1) xs)
      (λ ws hw. gives P {a = with_written x.width (spot_at p k) at ws} (writes_with x.width k at ws h hw))))
