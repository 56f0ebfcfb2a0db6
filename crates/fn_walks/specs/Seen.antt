-- Walks from object to object, in the words of the code.
use Rattle.std.specs.Prelude.{ℕ, zero, suc, nat_eq, Bool, true, false, not, ◌&&◌, ◌||◌, Option, None, List, slice_index_or, if◌then◌else◌}
use Rattle.gl_sets.specs.declared.pairs.Pair.{Pair}
use Rattle.run_store.specs.Concrete.{Cell}
use Rattle.sc_base.specs.declared.pos.Pos.{Pos}
use Rattle.sum_rows.specs.declared.row.State.{State}
use Rattle.sum_rows.specs.declared.row.State.TheVariants as state
use Rattle.sc_world.specs.Layout.{Layout, location, is_outer}
use Rattle.sc_world.specs.World.{is_true, target_of}
use Rattle.sc_world.specs.Shows as shows
use Rattle.sc_world.specs.Shows.{Over}
use Rattle.fn_walks.specs.declared.roots.Beside.{Beside}
use Rattle.fn_walks.specs.declared.roots.Beside.TheVariants as beside
use Rattle.fn_walks.specs.declared.roots.From.{From}

-- whether something is so of one of the numbers below k
unfoldable pub any_below : (Over → ℕ → Bool) → Over → (k : ℕ) → Bool
any_below f o zero = false
any_below f o (suc k) = any_below f o k || f o k

-- whether a target is the object n
abbrev pub is_object : Layout → (target n : ℕ) → Bool
is_object p zero n = false
is_object p (suc at) n = nat_eq n (location p at).root

-- whether a location is a global or what a pointer points to at entry
abbrev pub is_known : Layout → ℕ → Bool
is_known p n = shows.is_held_by_entry (location p n).origin && is_outer (location p n)

-- whether the pointer in a cell leads to the object
unfoldable pub leads_to : Over → Cell → (n : ℕ) → Bool
leads_to o c n = shows.is_it n (shows.object_of o c)

-- Where walks begin.

-- whether a holder counts
abbrev pub counts : Over → Beside → ℕ → Bool
counts o beside.Nothing = λ k. true
counts o (beside.Object n) = λ k. not (nat_eq (shows.root_at o k) n)
counts o (beside.Cell at) = λ k. not (nat_eq k at)

abbrev pub counts_in : Layout → Beside → ℕ → Bool
counts_in p beside.Nothing k = true
counts_in p (beside.Object n) k = not (nat_eq (location p k).root n)
counts_in p (beside.Cell at) k = not (nat_eq k at)

abbrev pub first : Over → From → Option ℕ
first o f = if f.result then shows.result_object o else None

-- the objects where walks begin
unfoldable pub roots : Over → From → List ℕ
roots o f = shows.with_object (first o f) (shows.objects_held o (counts o f.beside) (shows.numbers o))

-- whether a location is a holder that counts and holds the object
unfoldable pub held_here : Beside → (n : ℕ) → Over → (k : ℕ) → Bool
held_here b n o k = shows.is_holder o k && (counts o b k && leads_to o (shows.cell_now o k) n)

-- Steps.

-- whether the target of a pair is not null
abbrev pub is_somewhere : Pair → Bool
is_somewhere p = not (nat_eq p.target 0)

unfoldable pub leads : Over → (m n : ℕ) → Bool
leads o m n = shows.leads o m n

-- whether the cells of an object are holders that count, while it is not freed
abbrev pub is_beside : Layout → Beside → ℕ → Bool
is_beside p beside.Nothing m = false
is_beside p (beside.Object n) m = nat_eq n m
is_beside p (beside.Cell at) m = nat_eq (location p at).root m

abbrev pub begins_behind : Layout → Beside → ℕ → Bool
begins_behind p b m = is_known p m && not (is_beside p b m)

-- Walks.

unfoldable pub is_reached : Over → From → ℕ → Bool
is_reached o f n = shows.is_among (shows.reached o (roots o f)) n

-- whether a walk leads to one of some objects, which leads to object n
unfoldable pub comes_over : From → List ℕ → (n : ℕ) → Over → (i : ℕ) → Bool
comes_over f ms n o i = is_reached o f (slice_index_or ms i 0) && leads o (slice_index_or ms i 0) n

-- What became of objects.

unfoldable pub is_escaped : Over → ℕ → Bool
is_escaped o n = shows.is_escaped o n

unfoldable pub is_own_object : Over → ℕ → Bool
is_own_object o at = shows.is_own_at o (suc at)

-- whether a target is an own object to which no walk leads
abbrev pub is_fresh_at : Over → From → (target : ℕ) → Bool
is_fresh_at o f zero = false
is_fresh_at o f (suc at) = is_own_object o at && not (is_reached o f at)

unfoldable pub is_fresh : Over → From → Cell → Bool
is_fresh o f c = is_fresh_at o f (target_of c)

-- the kind of a pointer
unfoldable pub kind : Over → From → Cell → State
kind o f c = if not (is_true c) then state.Null else (if is_fresh o f c then state.Fresh else state.Other)

unfoldable pub fate : Over → ℕ → State
fate o at = shows.fate o at

-- whether a location is an object of a call at a place; whether it is lost; and both
abbrev pub is_from : Layout → Pos → ℕ → Bool
is_from p q at = shows.is_at q (shows.call_pos p (location p at).origin)

unfoldable pub is_lost : Over → ℕ → Bool
is_lost o at = shows.is_lost o at

unfoldable pub is_lost_from : Pos → Over → ℕ → Bool
is_lost_from q o at = is_from o.layout q at && is_lost o at

-- from where walks tell whether an object is escaped
abbrev pub escape_from : Layout → ℕ → From
escape_from p n = record { result = true; beside = if is_known p n then beside.Object n else beside.Nothing }

-- from where walks tell whether objects of calls are lost
abbrev pub loss_from : From
loss_from = record { result = true; beside = beside.Nothing }
