-- The pointers that parameters of a known call point to.
use Rattle.std.proofs.Common.{◌≡◌, ℕ, zero, suc, ◌+◌, ◌*◌, ◌<◌, nat_eq, not, ◌&&◌, Bool, true, false, if◌then◌else◌, List, [], ◌∷◌, ◌++◌, length, inl, Result, Ok, Err, refl, sym, ◌∙◌, ap, subst, arith}
use Rattle.std.specs.Prelude.{Option, Some, None}
use Rattle.std.proofs.lemmas.Bool.{ne_eqb}
use Rattle.bit_net.specs.declared.nodes.Gate.{Gate}
use Rattle.bit_net.specs.declared.nodes.Node.{Node}
use Rattle.bit_net.specs.Runs.{Grown, Gives, Always}
use Rattle.gl_sets.specs.declared.pairs.Pair.{Pair}
use Rattle.gl_sets.specs.declared.sets.Set.{Set as Sets}
use Rattle.gl_sets.specs.Guards.{Points, guard}
use Rattle.gl_sets.specs.Sets.{IsJoin}
use Rattle.gl_sets.proofs.PointLemmas.{guard-points}
use Rattle.gl_store.specs.declared.values.Val.{Val}
use Rattle.gl_store.specs.declared.values.Val.TheVariants.{Set}
use Rattle.gl_store.specs.declared.stores.Location.{Location}
use Rattle.gl_store.specs.Meets.{Meets}
use Rattle.run_store.specs.declared.Flag.{Flag}
use Rattle.run_store.specs.declared.Flag.TheVariants as flag
use Rattle.run_store.specs.Concrete.{Cell, Pointer}
use Rattle.sum_rows.specs.declared.row.Row.{Row}
use Rattle.sum_rows.specs.declared.row.State.{State}
use Rattle.sc_world.specs.Source.{Source}
use Rattle.sc_world.specs.Layout.{Layout, Spot, is_there}
use Rattle.sc_world.specs.World.{World, Ended, Env, Run, ◌>>=◌, goes_on, bit_at, digit, done, number_at, store, target_of, target_or_null}
use Rattle.sc_world.specs.Known.{Outed, mark_if, out_cell, out_state, set_out_as, set_outs}
use Rattle.layout_base.specs.Seen.{spot_of}
use Rattle.gate_runs.specs.declared.ends.Ends.{Ends}
use Rattle.gate_runs.specs.Stands.{Does, Any}
use Rattle.gate_runs.proofs.Bind.{bind}
use Rattle.gate_steps.proofs.Known.{does_same}
use Rattle.gate_places.specs.Places.{env_of}
use Rattle.gate_entry.specs.Entry.{IsChosenNumber}
use Rattle.gate_objects.specs.Escapes.{MarksTarget, mark_target}
use Rattle.gate_paths.specs.declared.gathered.Found.{Found}
use Rattle.gate_paths.specs.Targets.{found_target}
use Rattle.gate_paths.specs.Paths.{IsFound}
use Rattle.gate_paths.specs.Gathered.{put_out, where_item}
use Rattle.gate_sets.specs.Each.{DoesEach, DoesOne, each}
use Rattle.gate_sets.specs.Outs.{IsChanged, IsOutCell, MarksObject, SetsOuts, changed_target, object_if, set_one, state_by}
use Rattle.gate_sets.specs.Writing.{IsObject, StoresTarget, store_target}

-- What the choice says in two bits.

two_digits : (a b : Bool) → 2 * (2 * 0 + digit a) + digit b < 4
two_digits true true = omega arith
two_digits true false = omega arith
two_digits false true = omega arith
two_digits false false = omega arith

few_kinds : (bits : List Bool) (bit : ℕ) → number_at bits bit 2 < 4
few_kinds bits bit = two_digits (bit_at bits bit) (bit_at bits (bit + 1))

not_two : (n k : ℕ) → k < 3 → nat_eq (suc (suc (suc n))) k ≡ false
not_two n k low = ne_eqb (suc (suc (suc n))) k (λ e. omega (arith, e, low))

-- The value that a pointer gets.

cell_by : (n : ℕ) (object : Option ℕ) → Pointer (if nat_eq n 0 then 0 else target_of (target_or_null object)) ≡ out_cell (out_state n) object
cell_by zero object = refl
cell_by (suc zero) None = refl
cell_by (suc zero) (Some at) = refl
cell_by (suc (suc zero)) None = refl
cell_by (suc (suc zero)) (Some at) = refl
cell_by (suc (suc (suc n))) None = rw (not_two n 0 (omega arith)) refl
cell_by (suc (suc (suc n))) (Some at) = rw (not_two n 0 (omega arith)) refl

pub is_out_cell : (p : Layout) (n1 n2 : List Node) (spot : Spot) (is_null : ℕ) (object null : List Pair) (made : Sets) → Grown n1 n2
    → IsChosenNumber p n1 spot.bit 2 0 is_null → IsObject n1 spot.object object → Always n1 (λ choice v. Points v null 0)
    → IsJoin n2 is_null null object made.pairs.items → IsOutCell p n2 spot (Set made)
is_out_cell p n1 n2 spot is_null object null made grown named to none join =
    record {
      below = join.below;
      meets = λ bits v runs few.
          let r1 = grown.runs (bit_at bits) v runs in
          let n : ℕ = number_at bits spot.bit 2 in
          let t : ℕ = target_of (target_or_null spot.object) in
          subst (Meets v (Set made)) (cell_by n spot.object)
          (subst (λ b. Points v made.pairs.items (if b then 0 else t)) (named.value bits v r1 (inl few))
          (join.points (bit_at bits) v runs 0 t (none.holds (bit_at bits) v r1) (to.points (bit_at bits) v r1)));
    }

-- Where a pointer is that gets a value.

changed_by : (n t : ℕ) → n < 4 → (if nat_eq n 3 then 0 else t) ≡ changed_target (out_state n) t
changed_by zero t low = refl
changed_by (suc zero) t low = refl
changed_by (suc (suc zero)) t low = refl
changed_by (suc (suc (suc zero))) t low = refl
changed_by (suc (suc (suc (suc n)))) t low = absurd (omega (arith, low))

pub is_changed : (p : Layout) (n1 n2 : List Node) (bit is_same : ℕ) (none at made : List Pair) → Grown n1 n2
    → IsChosenNumber p n1 bit 2 3 is_same → Always n1 (λ choice v. Points v none 0) → IsJoin n2 is_same none at made → IsChanged p n2 bit at made
is_changed p n1 n2 bit is_same none at made grown named to_null join =
    record {
      below = join.below;
      points = λ bits v runs few target points.
          let r1 = grown.runs (bit_at bits) v runs in
          let n : ℕ = number_at bits bit 2 in
          subst (Points v made) (changed_by n target (few_kinds bits bit))
          (subst (λ b. Points v made (if b then 0 else target)) (named.value bits v r1 (inl few))
          (join.points (bit_at bits) v runs 0 target (to_null.holds (bit_at bits) v r1) points));
    }

-- An object is marked.

there_is : (v : ℕ → Bool) (at : List Pair) (o : Option ℕ) → IsFound v at o → not (guard v at 0) ≡ is_there o
there_is v at None found = ap not (guard-points v at 0 0 found)
there_is v at (Some k) found = ap not (guard-points v at (suc k) 0 found ∙ ne_eqb (suc k) 0 (λ e. omega (arith, e)))

pub marks_object : (p : Layout) (n1 n2 n3 n4 n5 : List Node) (gates : Ends) (f : Flag) (n : ℕ) (spot : Spot) (at object null made : List Pair)
    (named missing there when : ℕ) (old new : List Location) → Grown n1 n2 → Grown n2 n3 → Grown n3 n4 → Grown n4 n5
    → IsChosenNumber p n1 spot.bit 2 n named → Gives n1 missing (λ choice v. guard v at 0) → Gives n2 there (λ choice v. not (v missing))
    → Gives n3 when (λ choice v. v there && v named) → IsObject n3 spot.object object → Always n3 (λ choice v. Points v null 0)
    → IsJoin n4 when object null made → MarksTarget n5 gates f made old new → MarksObject p n5 gates f n spot at old new
marks_object p n1 n2 n3 n4 n5 gates f n spot at object null made named missing there when old new g12 g23 g34 g45 is_named is_missing is_there' both to none join marks =
    record {
      top = marks.top;
      same = marks.same;
      does = λ bits v runs few o found.
          let r4 = g45.runs (bit_at bits) v runs in
          let r3 = g34.runs (bit_at bits) v r4 in
          let r2 = g23.runs (bit_at bits) v r3 in
          let r1 = g12.runs (bit_at bits) v r2 in
          let t : ℕ = target_of (target_or_null spot.object) in
          let present : v there ≡ is_there o =
          is_there'.value (bit_at bits) v r2 ∙ ap not (is_missing.value (bit_at bits) v r1) ∙ there_is v at o found in
          let holds : v when ≡ (is_there o && nat_eq (number_at bits spot.bit 2) n) =
          both.value (bit_at bits) v r3 ∙ ap (λ b. b && v named) present ∙ ap (λ b. is_there o && b) (is_named.value bits v r1 (inl few)) in
          marks.does (bit_at bits) v runs (object_if (is_there o && nat_eq (number_at bits spot.bit 2) n) spot.object)
          (subst (λ b. Points v made (if b then t else 0)) holds
          (join.points (bit_at bits) v r4 t 0 (to.points (bit_at bits) v r3) (none.holds (bit_at bits) v r3)));
    }

-- One pointer.

next_is_suc : (at : ℕ) → at + 1 ≡ suc at
next_is_suc at = omega arith

abbrev marked_as : (fresh other : Bool) → Option ℕ → Run (Unit {0})
marked_as fresh other object = mark_target (object_if fresh object) flag.Allocated >>= λ u. mark_target (object_if other object) flag.Escaped

abbrev out_done : (n : ℕ) (object : Option ℕ) (o : Option ℕ) → Run (Unit {0})
out_done n object o =
    store_target (changed_target (out_state n) (found_target o)) (out_cell (out_state n) object) >>= λ u.
    marked_as (is_there o && nat_eq n 1) (is_there o && nat_eq n 2) object

none_done : (n : ℕ) (object : Option ℕ) (w : World) → out_done n object None w ≡ (Ok tt, w)
none_done zero object w = refl
none_done (suc zero) object w = refl
none_done (suc (suc zero)) object w = refl
none_done (suc (suc (suc n))) object w = refl

some_done : (n : ℕ) (rows : List Row) (bit at : ℕ) (object : Option ℕ) (w : World)
    → out_done n object (Some at) w ≡ goes_on (set_out_as (out_state n) (record { rows = rows; bit = bit; object = object; at = at }) w) (λ u. done tt)
some_done zero rows bit at None w = refl
some_done zero rows bit at (Some k) w = refl
some_done (suc zero) rows bit at None w = refl
some_done (suc zero) rows bit at (Some k) w =
    ap (λ t. (store_target (suc at) (Pointer (k + 1)) >>= λ u. mark_target t flag.Allocated >>= λ u. done tt) w) (next_is_suc k)
some_done (suc (suc zero)) rows bit at None w = refl
some_done (suc (suc zero)) rows bit at (Some k) w =
    ap (λ t. (store_target (suc at) (Pointer (k + 1)) >>= λ u. mark_target t flag.Escaped) w) (next_is_suc k)
some_done (suc (suc (suc n))) rows bit at object w = rw (not_two n 1 (omega arith), not_two n 2 (omega arith)) refl

out_set : (env : Env) (f : Found) (o : Option ℕ) (w : World)
    → out_done (number_at env.choice (spot_of f.spot).bit 2) (spot_of f.spot).object o w ≡ each (set_one env) (put_out f o []) w
out_set env f None w = none_done (number_at env.choice (spot_of f.spot).bit 2) (spot_of f.spot).object w
out_set env f (Some at) w =
    some_done (number_at env.choice (spot_of f.spot).bit 2) f.rows.now (spot_of f.spot).bit at (spot_of f.spot).object w

pub sets_out : (s : Source) (p : Layout) (n1 n2 n3 n4 n5 : List Node) (gates : Ends) (f : Found) (val : Val) (at : List Pair) (l0 l1 l2 l3 : List Location)
    → Grown n1 n2 → Grown n2 n3 → Grown n3 n4 → Grown n4 n5 → IsOutCell p n1 (spot_of f.spot) val → IsChanged p n2 (spot_of f.spot).bit (where_item f) at
    → StoresTarget n3 gates at val l0 l1 → MarksObject p n4 gates flag.Allocated 1 (spot_of f.spot) (where_item f) l1 l2
    → MarksObject p n5 gates flag.Escaped 2 (spot_of f.spot) (where_item f) l2 l3 → DoesOne s p n5 gates where_item put_out set_one f l0 l3
sets_out s p n1 n2 n3 n4 n5 gates f val at l0 l1 l2 l3 g12 g23 g34 g45 is changed stores fresh other =
    record {
      top = other.top;
      same = other.same ∙ fresh.same ∙ stores.same;
      does = λ bits v runs few temps turn o found.
          let env = env_of s p bits temps turn in
          let r4 = g45.runs (bit_at bits) v runs in
          let r3 = g34.runs (bit_at bits) v r4 in
          let r2 = g23.runs (bit_at bits) v r3 in
          let r1 = g12.runs (bit_at bits) v r2 in
          let n : ℕ = number_at bits (spot_of f.spot).bit 2 in
          let object : Option ℕ = (spot_of f.spot).object in
          let t : ℕ = changed_target (out_state n) (found_target o) in
          does_same v l0 l3 gates gates (out_done n object o) (each (set_one env) (put_out f o [])) (Any {A = Unit {0}}) (out_set env f o)
          (bind v l0 l1 l3 gates gates gates (store_target t (out_cell (out_state n) object))
          (λ u. marked_as (is_there o && nat_eq n 1) (is_there o && nat_eq n 2) object) (Any {A = Unit {0}}) (Any {A = Unit {0}})
          (stores.does (bit_at bits) v r3 t (out_cell (out_state n) object) (changed.points bits v r2 few (found_target o) found) (is.meets bits v r1 few))
          (λ u good. bind v l1 l2 l3 gates gates gates (mark_target (object_if (is_there o && nat_eq n 1) object) flag.Allocated)
          (λ u. mark_target (object_if (is_there o && nat_eq n 2) object) flag.Escaped) (Any {A = Unit {0}}) (Any {A = Unit {0}})
          (fresh.does bits v r4 few o found) (λ u good. other.does bits v runs few o found)));
    }

-- All of them.

pub out_before : (f : Found) (o : Option ℕ) (ys zs : List Outed) → put_out f o (ys ++ zs) ≡ put_out f o ys ++ zs
out_before f None ys zs = refl
out_before f (Some at) ys zs = refl

next_same : (r : Result (Unit {0}) Ended × World) (f g : Unit {0} → Run (Unit {0})) → ((a : Unit {0}) (w : World) → f a w ≡ g a w) → goes_on r f ≡ goes_on r g
next_same (Ok a, w) f g h = h a w
next_same (Err e, w) f g h = refl

outs_are : (env : Env) (os : List Outed) (w : World) → each (set_one env) os w ≡ set_outs env os w
outs_are env [] w = refl
outs_are env (o ∷ os) w = next_same (set_one env o w) (λ u. each (set_one env) os) (λ u. set_outs env os) (λ u k. outs_are env os k)

pub sets_outs : (s : Source) (p : Layout) (ns : List Node) (gates : Ends) (outs : List Found) (old new : List Location)
    → DoesEach s p ns gates where_item put_out set_one outs old new → SetsOuts s p ns gates outs old new
sets_outs s p ns gates outs old new h =
    record {
      top = h.top;
      same = h.same;
      does = λ bits v runs few temps turn os shown.
          let env = env_of s p bits temps turn in
          does_same v old new gates gates (each (set_one env) os) (set_outs env os) (Any {A = Unit {0}}) (outs_are env os)
          (h.does bits v runs few temps turn os shown);
    }
