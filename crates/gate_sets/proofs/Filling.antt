-- The other written cells after a known call.
use Rattle.std.proofs.Common.{◌≡◌, ℕ, zero, suc, ◌+◌, nat_eq, Bool, true, false, if◌then◌else◌, List, [], ◌∷◌, ◌++◌, length, map, inl, Result, Ok, Err, refl, sym, ◌∙◌, ap, subst, arith}
use Rattle.std.specs.Prelude.{Option, Some, None}
use Rattle.bit_net.specs.declared.nodes.Node.{Node}
use Rattle.bit_net.specs.Runs.{Grown, Always}
use Rattle.bit_words.specs.declared.Word.{Word as Words}
use Rattle.gl_sets.specs.declared.pairs.Pair.{Pair}
use Rattle.gl_sets.specs.declared.sets.Set.{Set as Sets}
use Rattle.gl_sets.specs.Guards.{Points, targets_of}
use Rattle.gl_sets.specs.Sets.{IsJoin, IsMoved}
use Rattle.gl_store.specs.declared.values.Val.{Val}
use Rattle.gl_store.specs.declared.values.Val.TheVariants.{Word, Set}
use Rattle.gl_store.specs.declared.stores.Location.{Location}
use Rattle.gl_store.specs.Meets.{Meets}
use Rattle.run_store.specs.Concrete.{Cell, Number, Kind, Numbers, Pointers, kind_of}
use Rattle.sc_world.specs.Tree.{Ty}
use Rattle.sc_world.specs.Source.{Source}
use Rattle.sc_world.specs.Layout.{Layout, Spot, location}
use Rattle.sc_world.specs.World.{World, Ended, Env, Run, goes_on, bit_at, done, kind_of_type, null, number_at, store, target_of, target_or_null}
use Rattle.sc_world.specs.Known as known
use Rattle.sc_world.specs.Known.{same_kind, set_writes, set_written, written_cell}
use Rattle.layout_base.specs.Seen.{spot_of}
use Rattle.gate_runs.specs.declared.ends.Ends.{Ends}
use Rattle.gate_runs.specs.Stands.{Does, Any}
use Rattle.gate_steps.proofs.Known.{does_same}
use Rattle.gate_places.specs.Places.{env_of}
use Rattle.gate_entry.specs.Entry.{IsBit, IsNumber}
use Rattle.gate_paths.specs.declared.cells.Written.{Written}
use Rattle.gate_paths.specs.Cells.{put_written, where_cell}
use Rattle.gate_paths.specs.Targets.{found_target}
use Rattle.gate_sets.specs.Each.{DoesEach, DoesOne, each}
use Rattle.gate_sets.specs.Writes.{AreTaken, IsWrittenCell, SetsWrites, taken_target, takes, written_kind}
use Rattle.gate_sets.specs.Writing.{IsObject, StoresTarget, store_target}

-- Locations that take a width.

pub are_taken : (s : Source) (p : Layout) (ns : List Node) (width : ℕ) (at made : List Pair) (ts : List ℕ)
    → map (λ t. taken_target s p width t) (targets_of at) ≡ ts → IsMoved ns at ts made → AreTaken s p ns width at made
are_taken s p ns width at made ts e is =
    record { below = is.below; points = λ choice v runs target points. is.points choice v runs (λ t. taken_target s p width t) target e points }

pub none_taken : (s : Source) (p : Layout) (width target : ℕ) → target ≡ 0 → 0 ≡ taken_target s p width target
none_taken s p width zero e = refl
none_taken s p width (suc at) e = absurd (omega (arith, e))

pub one_taken : (s : Source) (p : Layout) (width target at : ℕ) (t : Option Ty) (b : Bool) → target ≡ at + 1 → t ≡ (location p at).type → takes s t width ≡ b
    → (if b then target else 0) ≡ taken_target s p width target
one_taken s p width zero at t b e is holds = absurd (omega (arith, e))
one_taken s p width (suc j) at t b e is holds =
    let there : t ≡ (location p j).type = is ∙ ap (λ k. (location p k).type) (omega (arith, e)) in
    ap (λ x. if x then suc j else zero) (sym holds ∙ ap (λ k. takes s k width) there)

-- What is written.

to_cell : (v : ℕ → Bool) (set : Sets) (b : Bool) (object : Option ℕ) → Points v set.pairs.items (if b then target_of (target_or_null object) else 0)
    → Meets v (Set set) (if b then target_or_null object else null)
to_cell v set true None points = points
to_cell v set true (Some at) points = points
to_cell v set false object points = points

pub pointer_written : (s : Source) (p : Layout) (n1 ns : List Node) (spot : Spot) (bit : ℕ) (object none : List Pair) (made : Sets) → Grown n1 ns
    → IsObject n1 spot.object object → Always n1 (λ choice v. Points v none 0) → IsBit p n1 spot.bit bit → IsJoin ns bit object none made.pairs.items
    → IsWrittenCell s p ns 0 spot (Set made)
pointer_written s p n1 ns spot bit object none made grown to missing is join =
    record {
      below = join.below;
      meets = λ bits v runs few temps turn at.
          let r1 = grown.runs (bit_at bits) v runs in
          to_cell v made (bit_at bits spot.bit) spot.object
          (subst (λ b. Points v made.pairs.items (if b then target_of (target_or_null spot.object) else 0)) (is.value bits v r1 (inl few))
          (join.points (bit_at bits) v runs (target_of (target_or_null spot.object)) 0 (to.points (bit_at bits) v r1) (missing.holds (bit_at bits) v r1)));
    }

pub zero_written : (s : Source) (p : Layout) (ns : List Node) (width : ℕ) (spot : Spot) (r : Val) → width ≡ 0 → IsWrittenCell s p ns 0 spot r
    → IsWrittenCell s p ns width spot r
zero_written s p ns width spot r e is = subst (λ k. IsWrittenCell s p ns k spot r) (sym e) is

number_cell : (env : Env) (width bit : ℕ) (object : Option ℕ) (at : ℕ) → nat_eq width 0 ≡ false
    → Number width (number_at env.choice bit width) ≡ written_cell env (record { width = width; bit = bit; object = object; at = at })
number_cell env width bit object at e = rw e refl

pub number_written : (s : Source) (p : Layout) (ns : List Node) (width : ℕ) (spot : Spot) (word : Words) → nat_eq width 0 ≡ false
    → IsNumber p ns spot.bit width word.bits.items → IsWrittenCell s p ns width spot (Word word)
number_written s p ns width spot word e is =
    record {
      below = is.below;
      meets = λ bits v runs few temps turn at.
          subst (Meets v (Word word)) (number_cell (env_of s p bits temps turn) width spot.bit spot.object at e)
          (record { wide = is.wide; value = is.value bits v runs (inl few) });
    }

-- One cell.

pointer_kind : (b : Bool) (object : Option ℕ) → kind_of (if b then target_or_null object else null) ≡ Pointers
pointer_kind false object = refl
pointer_kind true None = refl
pointer_kind true (Some at) = refl

kind_by : (zero' b : Bool) (object : Option ℕ) (width n : ℕ)
    → kind_of (if zero' then (if b then target_or_null object else null) else Number width n) ≡ (if zero' then Pointers else Numbers width)
kind_by true b object width n = pointer_kind b object
kind_by false b object width n = refl

kind_written : (env : Env) (x : known.Written) → kind_of (written_cell env x) ≡ written_kind x.width
kind_written env x = kind_by (nat_eq x.width 0) (bit_at env.choice x.bit) x.object x.width (number_at env.choice x.bit x.width)

store_if : (b : Bool) (at : ℕ) (c : Cell) (w : World)
    → store_target (if b then suc at else zero) c w ≡ goes_on ((if b then store at c else done tt) w) (λ u. done tt)
store_if true at c w = refl
store_if false at c w = refl

cell_set : (env : Env) (x : Written) (o : Option ℕ) (c : Cell) (w : World)
    → ((at : ℕ) → c ≡ written_cell env (record { width = x.width; bit = (spot_of x.spot).bit; object = (spot_of x.spot).object; at = at }))
    → store_target (taken_target env.source env.layout x.width (found_target o)) c w ≡ each (set_written env) (put_written x o []) w
cell_set env x None c w same = refl
cell_set env x (Some at) c w same =
    let y : known.Written = record { width = x.width; bit = (spot_of x.spot).bit; object = (spot_of x.spot).object; at = at } in
    store_if (takes env.source (location env.layout at).type x.width) at c w
    ∙ ap (λ k. goes_on ((if same_kind (kind_of_type env.source (location env.layout at).type) k then store at c else done tt) w) (λ u. done tt))
    (sym (kind_written env y))
    ∙ ap (λ d. goes_on ((if same_kind (kind_of_type env.source (location env.layout at).type) (kind_of (written_cell env y)) then store at d else done tt) w)
    (λ u. done tt)) (same at)

same_written : (env : Env) (x : Written) (at : ℕ)
    → written_cell env (record { width = x.width; bit = (spot_of x.spot).bit; object = (spot_of x.spot).object; at = 0 })
    ≡ written_cell env (record { width = x.width; bit = (spot_of x.spot).bit; object = (spot_of x.spot).object; at = at })
same_written env x at = refl

pub sets_written : (s : Source) (p : Layout) (n1 n2 ns : List Node) (gates : Ends) (x : Written) (val : Val) (at : List Pair) (old new : List Location)
    → Grown n1 n2 → Grown n2 ns → IsWrittenCell s p n1 x.width (spot_of x.spot) val → AreTaken s p n2 x.width (where_cell x) at
    → StoresTarget ns gates at val old new → DoesOne s p ns gates where_cell put_written set_written x old new
sets_written s p n1 n2 ns gates x val at old new grown12 grown23 is are stores =
    record {
      top = stores.top;
      same = stores.same;
      does = λ bits v runs few temps turn o found.
          let env = env_of s p bits temps turn in
          let r2 = grown23.runs (bit_at bits) v runs in
          let r1 = grown12.runs (bit_at bits) v r2 in
          let c : Cell = written_cell env (record { width = x.width; bit = (spot_of x.spot).bit; object = (spot_of x.spot).object; at = 0 }) in
          does_same v old new gates gates (store_target (taken_target s p x.width (found_target o)) c) (each (set_written env) (put_written x o []))
          (Any {A = Unit {0}})
          (λ w. cell_set env x o c w (same_written env x))
          (stores.does (bit_at bits) v runs (taken_target s p x.width (found_target o)) c
          (are.points (bit_at bits) v r2 (found_target o) found) (is.meets bits v r1 few temps turn 0));
    }

-- All of them.

pub cell_before : (x : Written) (o : Option ℕ) (ys zs : List known.Written) → put_written x o (ys ++ zs) ≡ put_written x o ys ++ zs
cell_before x None ys zs = refl
cell_before x (Some at) ys zs = refl

next_same : (r : Result (Unit {0}) Ended × World) (f g : Unit {0} → Run (Unit {0})) → ((a : Unit {0}) (w : World) → f a w ≡ g a w) → goes_on r f ≡ goes_on r g
next_same (Ok a, w) f g h = h a w
next_same (Err e, w) f g h = refl

writes_are : (env : Env) (ws : List known.Written) (w : World) → each (set_written env) ws w ≡ set_writes env ws w
writes_are env [] w = refl
writes_are env (x ∷ ws) w = next_same (set_written env x w) (λ u. each (set_written env) ws) (λ u. set_writes env ws) (λ u k. writes_are env ws k)

pub sets_writes : (s : Source) (p : Layout) (ns : List Node) (gates : Ends) (writes : List Written) (old new : List Location)
    → DoesEach s p ns gates where_cell put_written set_written writes old new → SetsWrites s p ns gates writes old new
sets_writes s p ns gates writes old new h =
    record {
      top = h.top;
      same = h.same;
      does = λ bits v runs few temps turn ws shown.
          let env = env_of s p bits temps turn in
          does_same v old new gates gates (each (set_written env) ws) (set_writes env ws) (Any {A = Unit {0}}) (writes_are env ws)
          (h.does bits v runs few temps turn ws shown);
    }
