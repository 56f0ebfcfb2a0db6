-- What a run answers does not depend on names that come later.
use Rattle.std.proofs.Common.{◌≡◌, ℕ, zero, suc, List, refl}
use Rattle.std.specs.Prelude.{Bool, true, not, ◌&&◌, ◌||◌, Result, length, if◌then◌else◌}
use Rattle.std.specs.List.{list_any}
use Rattle.run_store.specs.declared.Flag.TheVariants as flag
use Rattle.run_store.specs.Concrete.{Cell}
use Rattle.sum_rows.specs.declared.row.State.TheVariants as state
use Rattle.sc_world.specs.Tree.{is_pointer}
use Rattle.sc_world.specs.Source.{Source}
use Rattle.sc_world.specs.Layout.{Layout, location}
use Rattle.sc_world.specs.World.{World, Ended, is_true}
use Rattle.sc_world.specs.Known.{row, same_row}
use Rattle.sc_world.specs.Paths.{Texts}
use Rattle.sc_world.specs.Shows.{Over, walked, one_further, reached, is_among, with_object, result_object, held_beside, objects_held, others_hold, is_own, is_among_if, object_of, numbers, is_escaped, kind_of_result, result_kind, result_cell, kind_of_cell, cell_now, root_at, has, fate, out_fate, given, result, param_cell, param_object, call_pos, is_at, is_lost, exits, is_fate, says, Query, Exits, Touches, Locks, Changes, Params, Sets, Outs, Writes, EndsAt, Errs, Leaks}
use Rattle.source_laws.specs.Named.{Tables, with_tables}

module _ (old new : Tables) (s : Source) (p : Layout) (c : List Bool) (r : Result Cell Ended) (w : World) where
  abbrev one : Over
  one = record { source = with_tables s old; layout = p; choice = c; ended = r; world = w }

  abbrev other : Over
  other = record { source = with_tables s new; layout = p; choice = c; ended = r; world = w }

  walked_same : (steps : ℕ) (ns : List ℕ) → walked steps one ns ≡ walked steps other ns
  walked_same zero ns = refl
  walked_same (suc more) ns = walked_same more (one_further one ns)

  reached_same : (ns : List ℕ) → reached one ns ≡ reached other ns
  reached_same ns = walked_same (length p.locations) ns

  escaped_same : (n : ℕ) → is_escaped one n ≡ is_escaped other n
  escaped_same n = λ i. has one flag.Escaped n || is_among (reached_same (with_object (result_object one) (held_beside one n)) i) n

  kind_of_result_same : (d : Cell) → kind_of_result one d ≡ kind_of_result other d
  kind_of_result_same d = λ i.
      if not (is_true d)
      then state.Null
      else (if is_own one d && not (is_among_if (reached_same (objects_held one (λ k. true) (numbers one)) i) (object_of one d))
      then state.Fresh
      else state.Other)

  kind_of_cell_same : (at : ℕ) (d : Cell) → kind_of_cell one at d ≡ kind_of_cell other at d
  kind_of_cell_same at d = λ i.
      if not (is_true d)
      then state.Null
      else (if is_own one d && not (is_among_if (reached_same (others_hold one at) i) (object_of one d)) then state.Fresh else state.Other)

  fate_same : (at : ℕ) → fate one at ≡ fate other at
  fate_same at = λ i. if has one flag.Freed at then state.Freed else (if escaped_same at i then state.Escaped else state.Held)

  out_fate_same : (at : ℕ) → out_fate one at ≡ out_fate other at
  out_fate_same at = λ i.
      if not (has one flag.Written at) || has one flag.Freed (root_at one at)
      then state.Same
      else kind_of_cell_same at (cell_now one at) i

  kind_same : result_kind one ≡ result_kind other
  kind_same = λ i. if is_pointer s.result then kind_of_result_same (result_cell r) i else state.Nil

  lost_same : (at : ℕ) → is_lost one at ≡ is_lost other at
  lost_same at = λ i. has one flag.Allocated at && (not (has one flag.Freed at) && not (escaped_same at i))

  pub says_same : (x : Texts) (q : Query) → says x one q ≡ says x other q
  says_same x (Exits a) = λ i. exits one && same_row a (row (given one) state.Nil (result one) (kind_same i))
  says_same x (Touches at) = refl
  says_same x (Locks at a) = refl
  says_same x (Changes n) = λ i. exits one && is_fate (fate_same (param_object one n) i)
  says_same x (Params n a) = λ i.
      exits one && (is_true (param_cell one n) && same_row a (row (given one) state.Nil (result one) (fate_same (param_object one n) i)))
  says_same x (Sets n) = refl
  says_same x (Outs n a) = λ i.
      exits one && (is_true (param_cell one n) && same_row a (row (given one) state.Nil (result one) (out_fate_same (param_object one n) i)))
  says_same x (Writes at) = refl
  says_same x (EndsAt at) = refl
  says_same x (Errs t) = refl
  says_same x (Leaks at) = λ i.
      exits one && list_any (λ n. is_at at (call_pos p (location p n).origin) && lost_same n i) (numbers one)
