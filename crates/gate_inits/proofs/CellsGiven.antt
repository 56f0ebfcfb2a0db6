-- The cells of a value, as a run gives them.
use Rattle.std.proofs.Common.{◌≡◌, ℕ, zero, suc, ◌+◌, ◌-◌, ◌<◌, ◌≤◌, max, Bool, true, false, ◌||◌, ◌&&◌, Option, Some, None, List, [], ◌∷◌, ◌++◌, length, map, slice_get, Ok, inl, inr, if◌then◌else◌, refl, sym, ◌∙◌, ap, subst, arith, add-one}
use Rattle.std.specs.List.{range_with_len}
use Rattle.std.proofs.lemmas.Bool.{lt-ltb}
use Rattle.std.proofs.lemmas.List.{length-map}
use Rattle.bit_net.specs.declared.nodes.Node.{Node}
use Rattle.bit_net.specs.Runs.{Runs, Grown, Always}
use Rattle.gl_sets.specs.declared.pairs.Pair.{Pair}
use Rattle.gl_sets.specs.Guards.{Points, held, targets_of}
use Rattle.gl_sets.specs.declared.sets.Set.{Set as Sets}
use Rattle.gl_store.specs.declared.stores.Location.{Location}
use Rattle.gl_store.specs.declared.values.Val.{Val}
use Rattle.gl_store.specs.declared.values.Val.TheVariants.{Set}
use Rattle.gl_store.specs.Meets.{Meets, MeetsAll, val_top}
use Rattle.run_store.specs.Concrete.{Cell, Number, Pointer, Nothing, Place, nth_cell}
use Rattle.sc_tree.specs.declared.ctype.IntKind.{IntKind}
use Rattle.sc_tree.specs.declared.ctype.IntKind.TheVariants as kind
use Rattle.sc_tree.specs.declared.ctype.Widths.{Widths}
use Rattle.sc_tree.specs.declared.ctype.Widths.TheVariants as widths
use Rattle.sc_world.specs.Tree.{Ty, Void, Bool', Int, Ptr, Array, Struct, Union, Func, Opaque, int_bits}
use Rattle.sc_world.specs.Source.{Source}
use Rattle.sc_world.specs.Layout.{Layout, location, has_type, is_stub, is_cell, is_cell_type}
use Rattle.sc_world.specs.World.{World, Run, done, target_of}
use Rattle.sc_world.specs.Eval.{Want, Value, Place', place_of, cells_among, cells_of, is_within, load_all}
use Rattle.run_laws.specs.Fits.{is_scalar, if_scalar, StandsAt, IsPlaceOf}
use Rattle.run_values.proofs.Cells.{load_is}
use Rattle.gate_runs.specs.declared.ends.Ends.{Ends}
use Rattle.gate_runs.specs.Standing.{Standing, On, Over, stand, after, world_of}
use Rattle.gate_runs.specs.Stands.{Stands, Does, Any}
use Rattle.gate_runs.proofs.Bind.{does_done}
use Rattle.gate_places.specs.Places.{GoodFor, env_of}
use Rattle.gate_copies.specs.declared.readings.Guarded.{Guarded}
use Rattle.gate_copies.specs.declared.readings.Reading.{Reading}
use Rattle.gate_copies.specs.declared.objects.Object.{Object}
use Rattle.gate_copies.specs.Objects.{cells_in as cells, cell_with, may_stand, most, object_targets}
use Rattle.gate_copies.specs.Widths.{cell_width, number_at, width_number, widths as six}
use Rattle.gate_copies.specs.Readings.{MeetsOne, Reads, found, guarded_top, readings_top}
use Rattle.gate_copies.specs.Copies.{HaveRead}
use Rattle.gate_inits.specs.Inits.{HaveCells, DoesGive, IsOneCell, cells_in, objects_at}
use Rattle.gate_inits.proofs.ValuesSet.{wants_value, wants_place}

-- Lists of cells.

-- a cell has one of the widths
integers : (w : Widths) (k : IntKind) → width_number (int_bits w (Int k)) < 6
integers widths.Ilp32 kind.Long = omega arith
integers widths.Lp64 kind.Long = omega arith
integers widths.Ilp32 kind.ULong = omega arith
integers widths.Lp64 kind.ULong = omega arith
integers w kind.Char = omega arith
integers w kind.SChar = omega arith
integers w kind.UChar = omega arith
integers w kind.Short = omega arith
integers w kind.UShort = omega arith
integers w kind.Int = omega arith
integers w kind.UInt = omega arith
integers w kind.LongLong = omega arith
integers w kind.ULongLong = omega arith

has_width : (s : Source) (o : Option Ty) → is_cell_type o ≡ true → width_number (cell_width s o) < 6
has_width s None e = absurd (cc)
has_width s (Some Bool') e = omega arith
has_width s (Some (Int k)) e = integers s.widths k
has_width s (Some (Ptr t)) e = omega arith
has_width s (Some Void) e = absurd (cc)
has_width s (Some (Array t l)) e = absurd (cc)
has_width s (Some (Struct l)) e = absurd (cc)
has_width s (Some (Union l)) e = absurd (cc)
has_width s (Some (Func r b ts v)) e = absurd (cc)
has_width s (Some (Opaque o)) e = absurd (cc)

abbrev AreCells : Layout → List ℕ → Type 0
AreCells p [] = Unit {0}
AreCells p (k ∷ ks) = (is_cell (location p k) ≡ true) × AreCells p ks

cells_are : (p : Layout) (at : ℕ) (ks : List ℕ) → AreCells p (cells_among p at ks)
cells_are p at [] = tt
cells_are p at (k ∷ ks) = by (is_cell (location p k)) (is_within 256 p at k) refl (cells_are p at ks)
  where
    by : (b c : Bool) → is_cell (location p k) ≡ b → AreCells p (cells_among p at ks) → AreCells p (if b && c then k ∷ cells_among p at ks else cells_among p at ks)
    by true true e rest = (e, rest)
    by true false e rest = rest
    by false c e rest = rest

found_is : (s : Source) (p : Layout) (ps : List Place) (ks : List ℕ) (number : ℕ) → AreCells p ks
    → found s p six ps (cell_with (map suc ks) number) ≡ slice_get (map (nth_cell ps) ks) number
found_is s p ps [] zero are = refl
found_is s p ps [] (suc number) are = refl
found_is s p ps (k ∷ ks) zero are =
    ap (λ b. if b then Some (nth_cell ps k) else None) (lt-ltb (number_at s p k) 6 (has_width s (location p k).type are.0))
found_is s p ps (k ∷ ks) (suc number) are = found_is s p ps ks number are.1

reads_same : (v : ℕ → Bool) (rs : List Reading) (f g : ℕ → Option Cell) → ((number : ℕ) → f number ≡ g number) → Reads v rs f → Reads v rs g
reads_same v [] f g same h = tt
reads_same v (r ∷ rs) f g same h = (subst (MeetsOne v r.vals.items) (same 0) h.0, reads_same v rs (λ i. f (suc i)) (λ i. g (suc i)) (λ i. same (suc i)) h.1)

none_read : (v : ℕ → Bool) (rs : List Reading) (ps : List Place) (s : Source) (p : Layout) → Reads v rs (λ number. found s p six ps (cell_with [] number)) → HaveCells v rs []
none_read v rs ps s p h = (reads_same v rs (λ number. found s p six ps (cell_with [] number)) (λ number. slice_get [] number) (λ number. found_is s p ps [] number tt) h, omega arith)

-- A scalar.

module _ (s : Source) (p : Layout) (bits : List Bool) (temps : List Cell) (turn : ℕ) (t : Ty) (c : Cell) where
  scalar_is : is_scalar t ≡ true → done (c ∷ []) ≡ cells_in (env_of s p bits temps turn) t c
  scalar_is e = sym (ap (λ (b : Bool). if b then done (c ∷ []) else load_all (cells_of p (place_of c))) e)

  object_is : is_scalar t ≡ false → load_all (cells_of p (place_of c)) ≡ cells_in (env_of s p bits temps turn) t c
  object_is e = sym (ap (λ (b : Bool). if b then done (c ∷ []) else load_all (cells_of p (place_of c))) e)

pub one_cell : (ns : List Node) (val : Val) (g : Guarded) (r : Reading) (rs : List Reading) → val_top val ≤ length ns → g.when.at < length ns
    → Always ns (λ choice v. v g.when.at ≡ true) → g.val ≡ val → r.vals.items ≡ g ∷ [] → rs ≡ r ∷ [] → IsOneCell ns val rs
unfolding readings_top guarded_top
one_cell ns val g r rs top low holds is vals_is rs_is = subst (IsOneCell ns val) (sym rs_is) (record {
  below = omega (arith, ap guarded_top vals_is, ap val_top is, top, low);
  have = λ choice v runs c meets. (
    (
      subst (λ (gs : List Guarded). MeetsOne v gs (Some c)) (sym vals_is)
          (inl (holds.holds choice v runs, subst (λ (x : Val). Meets v x c) (sym is) meets, tt)),
      tt,
    ),
    omega arith,
  );
})

pub give_scalar : (s : Source) (p : Layout) (ns : List Node) (t : Ty) (val : Val) (stored : List Location) (rs : List Reading) → is_scalar t ≡ true → IsOneCell ns val rs
    → DoesGive s p ns t val stored rs
give_scalar s p ns t val stored rs scalar one = record {
  below = one.below;
  does = λ choice v runs g bits temps turn c good.
      subst (λ (m : Run (List Cell)). Does v stored g m stored g (HaveCells v rs)) (scalar_is s p bits temps turn t c scalar)
      (does_done v stored g (c ∷ []) (HaveCells v rs) (one.have choice v runs c (subst (λ (w : Want). GoodFor v g p w t val c) (wants_value t scalar) good)));
}

-- An object.

stands_may : (p : Layout) (t : Ty) (at : ℕ) → StandsAt p t at → may_stand p t at ≡ true
stands_may p t at (inl typed) = by (is_stub (location p at)) (has_type (location p at) t) typed
  where
    by : (a b : Bool) → b ≡ true → a || b ≡ true
    by true b e = refl
    by false b e = e
stands_may p t at (inr stub) = ap (λ b. b || has_type (location p at) t) stub.2

object_there : (p : Layout) (t : Ty) (c : Cell) (target : ℕ) → c ≡ Pointer target → IsPlaceOf p t c → object_targets p t target ≡ map suc (cells_of p (place_of c))
object_there p t c target is place =
    let e : target ≡ suc (place_of c) = ap target_of (sym is ∙ place.pointer) ∙ add-one (place_of c) in
    ap (λ k. object_targets p t k) e ∙ ap (λ b. if b then map suc (cells_of p (place_of c)) else []) (stands_may p t (place_of c) place.stands)

-- what the readings have of the object to which a target leads, whatever it is
has_some : (s : Source) (p : Layout) (t : Ty) (v : ℕ → Bool) (rs : List Reading) (ps : List Place) (target : ℕ) → Reads v rs (λ number. found s p six ps (cell_with (object_targets p t target) number))
    → length (object_targets p t target) ≤ length rs → (cells : List Cell) × HaveCells v rs cells
has_some s p t v rs ps zero reads many = ([], none_read v rs ps s p reads)
has_some s p t v rs ps (suc at) reads many = by (may_stand p t at) reads many
  where
    by : (b : Bool) → Reads v rs (λ number. found s p six ps (cell_with (if b then map suc (cells_of p at) else []) number)) → length (if b then map suc (cells_of p at) else []) ≤ length rs
        → (cells : List Cell) × HaveCells v rs cells
    by false reads many = ([], none_read v rs ps s p reads)
    by true reads many = (
      map (nth_cell ps) (cells_of p at),
      (
        reads_same v rs (λ number. found s p six ps (cell_with (map suc (cells_of p at)) number)) (λ number. slice_get (map (nth_cell ps) (cells_of p at)) number)
            (λ number. found_is s p ps (cells_of p at) number (cells_are p at (range_with_len 0 (length p.locations)))) reads,
        omega (arith, many, length-map (cells_of p at) (nth_cell ps), length-map (cells_of p at) suc),
      ),
    )

-- the list of the target to which a set points is no longer than the longest
most_among : (v : ℕ → Bool) (f : ℕ → List ℕ) (ps : List Pair) (target : ℕ) (rest : List ℕ) → held v ps ≡ target ∷ rest → length (f target) ≤ most (map f (targets_of ps))
unfolding held targets_of
most_among v f [] target rest e = absurd (cc)
most_among v f (p ∷ ps) target rest e = by (v p.guard.at) e (λ h. most_among v f ps target rest h)
  where
    by : (b : Bool) → (if b then p.target ∷ held v ps else held v ps) ≡ target ∷ rest → (held v ps ≡ target ∷ rest → length (f target) ≤ most (map f (targets_of ps)))
        → length (f target) ≤ max (length (f p.target)) (most (map f (targets_of ps)))
    by true is later =
        let same : p.target ≡ target = (cc) in
        let wide : length (f p.target) ≡ length (f target) = ap (λ k. length (f k)) same in
        omega (arith, wide)
    by false is later = omega (arith, later is)

module _ (s : Source) (p : Layout) (ns : List Node) (t : Ty) (from : Sets) (stored : List Location) (rs : List Reading)
    (read : HaveRead ns s p stored from.pairs.items (objects_at p t from.pairs.items) (most (objects_at p t from.pairs.items)) rs)
    (choice v : ℕ → Bool) (runs : Runs ns choice v) (g : Ends) (target : ℕ) (points : Points v from.pairs.items target) where
  reads_there : (ps : List Place) → MeetsAll v stored ps → Reads v rs (λ number. found s p six ps (cell_with (object_targets p t target) number))
  reads_there ps met = read.value choice v runs ps met (object_targets p t) refl target points

  few_there : length (object_targets p t target) ≤ length rs
  few_there = omega (arith, read.many, most_among v (object_targets p t) from.pairs.items target [] points.one)

  cells_there : (ps : List Place) → MeetsAll v stored ps → (c : Cell) → c ≡ Pointer target → IsPlaceOf p t c → HaveCells v rs (map (nth_cell ps) (cells_of p (place_of c)))
  cells_there ps met c is place =
      let there = object_there p t c target is place in (
        reads_same v rs (λ number. found s p six ps (cell_with (object_targets p t target) number)) (λ number. slice_get (map (nth_cell ps) (cells_of p (place_of c))) number)
            (λ number. ap (λ (ts : List ℕ). found s p six ps (cell_with ts number)) there
            ∙ found_is s p ps (cells_of p (place_of c)) number (cells_are p (place_of c) (range_with_len 0 (length p.locations))))
            (reads_there ps met),
        omega (arith, few_there, ap length there, length-map (cells_of p (place_of c)) (nth_cell ps), length-map (cells_of p (place_of c)) suc),
      )

  given_from : (c : Cell) → c ≡ Pointer target → (v g.live.at ≡ true → IsPlaceOf p t c) → (x : Standing (Unit {0})) → Stands v stored g (Any {A = Unit {0}}) x
      → Stands v stored g (HaveCells v rs) (after x (λ u. load_all (cells_of p (place_of c))))
  given_from c is place (On u w) h =
      subst (λ r. Stands v stored g (HaveCells v rs) (stand r)) (sym (load_is (cells_of p (place_of c)) w))
      (record {
        store = h.store;
        tells = record { live = h.tells.live; asides = h.tells.asides; bads = h.tells.bads };
        given = map (nth_cell w.places) (cells_of p (place_of c));
        good = cells_there w.places h.store c is (place h.tells.live);
        is = refl;
      })
  given_from c is place (Over e w) h =
      let some = has_some s p t v rs w.places target (reads_there w.places h.store) few_there in
      record {
        store = h.store;
        tells = record { live = h.tells.live; asides = h.tells.asides; bads = h.tells.bads };
        given = some.0;
        good = some.1;
        is = tt;
      }

pub give_object : (s : Source) (p : Layout) (ns : List Node) (t : Ty) (from : Sets) (stored : List Location) (rs : List Reading) → is_scalar t ≡ false
    → HaveRead ns s p stored from.pairs.items (objects_at p t from.pairs.items) (most (objects_at p t from.pairs.items)) rs → DoesGive s p ns t (Set from) stored rs
give_object s p ns t from stored rs object read = record {
  below = read.below;
  does = λ choice v runs g bits temps turn c good.
      subst (λ (m : Run (List Cell)). Does v stored g m stored g (HaveCells v rs)) (object_is s p bits temps turn t c object)
      (by choice v runs g c (subst (λ (w : Want). GoodFor v g p w t (Set from) c) (wants_place t object) good));
}
  where
    by : (choice v : ℕ → Bool) → Runs ns choice v → (g : Ends) (c : Cell) → GoodFor v g p Place' t (Set from) c
        → Does v stored g (load_all (cells_of p (place_of c))) stored g (HaveCells v rs)
    by choice v runs g (Pointer target) good = record { does = λ x h. given_from s p ns t from stored rs read choice v runs g target good.0 (Pointer target) refl good.1 x h }
    by choice v runs g (Number w n) good = absurd good.0
    by choice v runs g Nothing good = absurd good.0

-- what is no pointer leads to no object, so no run goes on with it
pub give_nothing : (s : Source) (p : Layout) (ns : List Node) (t : Ty) (val : Val) (stored : List Location) (rs : List Reading) → is_scalar t ≡ false
    → ((v : ℕ → Bool) (target : ℕ) → Meets v val (Pointer target) → ⊥) → rs ≡ [] → DoesGive s p ns t val stored rs
unfolding readings_top
give_nothing s p ns t val stored rs object none is = subst (DoesGive s p ns t val stored) (sym is) (record {
  below = omega arith;
  does = λ choice v runs g bits temps turn c good.
      record { does = λ x h. by v g (cells_in (env_of s p bits temps turn) t c) (off v g c (v g.live.at) refl (subst (λ (w : Want). GoodFor v g p w t val c) (wants_place t object) good)) x h };
})
  where
    two : (b : Bool) → b ≡ true → b ≡ false → ⊥
    two true e f = cc
    two false e f = cc

    off : (v : ℕ → Bool) (g : Ends) (c : Cell) (b : Bool) → v g.live.at ≡ b → GoodFor v g p Place' t val c → v g.live.at ≡ false
    off v g c false e good = e
    off v g c true e good = absurd (none v (place_of c + 1) (subst (Meets v val) ((good.1 e).pointer) good.0))

    by : (v : ℕ → Bool) (g : Ends) (m : Run (List Cell)) → v g.live.at ≡ false → (x : Standing (Unit {0})) → Stands v stored g (Any {A = Unit {0}}) x
        → Stands v stored g (HaveCells v []) (after x (λ u. m))
    by v g m dead (On u w) h = absurd (two (v g.live.at) h.tells.live dead)
    by v g m dead (Over e w) h = record {
      store = h.store;
      tells = record { live = h.tells.live; asides = h.tells.asides; bads = h.tells.bads };
      given = [];
      good = (tt, omega arith);
      is = tt;
    }

-- there is an object for each pair
targets_many : (ps : List Pair) → length (targets_of ps) ≡ length ps
unfolding targets_of
targets_many [] = refl
targets_many (p ∷ ps) = ap suc (targets_many ps)

pub objects_many : (f : ℕ → List ℕ) (objects : List Object) (ps : List Pair) → map cells objects ≡ map f (targets_of ps) → length objects ≡ length ps
objects_many f objects ps is = sym (length-map objects cells) ∙ (ap length is ∙ (length-map (targets_of ps) f ∙ targets_many ps))
