-- All cells are read, and then stored, as a run does.
use Rattle.std.proofs.Common.{◌≡◌, ℕ, zero, suc, ◌+◌, ◌-◌, ◌<◌, ◌≤◌, Bool, true, false, ◌||◌, Some, None, List, [], ◌∷◌, ◌++◌, Ok, length, map, get_or, if◌then◌else◌, inl, inr, refl, sym, ◌∙◌, ap, subst, arith}
use Rattle.std.specs.Prelude.{Option, slice_get}
use Rattle.std.proofs.lemmas.Bool.{lt-ltb}
use Rattle.std.proofs.lemmas.List.{length-map}
use Rattle.bit_net.specs.declared.nodes.Node.{Node}
use Rattle.bit_net.specs.Runs.{Runs, Grown}
use Rattle.gl_sets.specs.declared.pairs.Pair.{Pair}
use Rattle.gl_sets.specs.declared.sets.Set.{Set as Sets}
use Rattle.gl_sets.specs.Guards.{Points, guards_top, targets_of}
use Rattle.gl_sets.specs.Sets.{IsMoved}
use Rattle.gl_store.specs.declared.values.Val.TheVariants.{Set}
use Rattle.gl_store.specs.declared.stores.Location.{Location}
use Rattle.gl_store.specs.Meets.{MeetsAll, locations_top}
use Rattle.run_store.specs.Concrete.{Cell, Number, Pointer, Nothing, Place, nth_cell}
use Rattle.sc_world.specs.Tree.{Ty}
use Rattle.sc_world.specs.Source.{Source}
use Rattle.sc_world.specs.Layout.{Layout, location, has_type, is_stub}
use Rattle.sc_world.specs.World.{World, goes_on, done, target_of}
use Rattle.sc_world.specs.Eval.{Place', place_of, cells_of, store_all, copy, assign_struct}
use Rattle.run_laws.specs.Fits.{StandsAt}
use Rattle.run_values.proofs.Cells.{load_is}
use Rattle.gate_runs.specs.declared.ends.Ends.{Ends}
use Rattle.gate_runs.specs.Standing.{Standing, On, Over, stand, after}
use Rattle.gate_runs.specs.Stands.{Stands, Does, Any}
use Rattle.gate_places.specs.Places.{GoodFor, env_of}
use Rattle.gate_copies.specs.declared.readings.Reading.{Reading}
use Rattle.gate_copies.specs.Objects.{cell_with, may_stand, most, object_targets}
use Rattle.gate_copies.specs.Widths.{number_at, widths}
use Rattle.gate_copies.specs.Readings.{MeetsOne, Reads, AreRead, IsPut, found, guarded_top, readings_top, stored_at}
use Rattle.gate_copies.specs.Copies.{stored_all, IsReading, HaveRead, IsStoredIn, HaveStored, DoesCopy}
use Rattle.gate_copies.proofs.Listing.{map_twice, most_at}
use Rattle.gate_copies.proofs.Collecting.{AreCells, cells_are}
use Rattle.gate_copies.proofs.Widening.{number_known}

-- Readings, one number after another.

pub readings_more : (rs : List Reading) (r : Reading) (n : ℕ) → readings_top rs ≤ n → guarded_top r.vals.items ≤ n → readings_top (rs ++ r ∷ []) ≤ n
unfolding readings_top
readings_more [] r n top low = omega (arith, low)
readings_more (x ∷ rs) r n top low = omega (arith, top, readings_more rs r n (omega (arith, top)) low)

pub reading_top : (rs : List Reading) (i : ℕ) (d : Reading) → i < length rs → guarded_top (get_or rs i d).vals.items ≤ readings_top rs
unfolding readings_top
reading_top [] i d low = absurd (omega (arith, low))
reading_top (r ∷ rs) zero d low = omega arith
reading_top (r ∷ rs) (suc i) d low = omega (arith, reading_top rs i d (omega (arith, low)))

reads_more : (v : ℕ → Bool) (rs : List Reading) (r : Reading) (f : ℕ → Option Cell) → Reads v rs f → MeetsOne v r.vals.items (f (length rs))
    → Reads v (rs ++ r ∷ []) f
reads_more v [] r f h is = (is, tt)
reads_more v (x ∷ rs) r f h is = (h.0, reads_more v rs r (λ number. f (suc number)) h.1 is)

reads_at : (v : ℕ → Bool) (rs : List Reading) (f : ℕ → Option Cell) (i : ℕ) (d : Reading) → i < length rs → Reads v rs f
    → MeetsOne v (get_or rs i d).vals.items (f i)
reads_at v [] f i d low h = absurd (omega (arith, low))
reads_at v (r ∷ rs) f zero d low h = h.0
reads_at v (r ∷ rs) f (suc i) d low h = reads_at v rs (λ number. f (suc number)) i d (omega (arith, low)) h.1

length_more : {A : Type 0} (xs : List A) (x : A) → length (xs ++ x ∷ []) ≡ length xs + 1
length_more [] x = refl
length_more (y ∷ xs) x = omega (arith, length_more xs x)

-- the target of the cell with a number, for the target to which a pair leads
numbered : (cells : List (List ℕ)) (pairs : List Pair) (number : ℕ) (targets : List ℕ) (g : ℕ → List ℕ) → targets ≡ map (λ ts. cell_with ts number) cells
    → map g (targets_of pairs) ≡ cells → map (λ t. cell_with (g t) number) (targets_of pairs) ≡ targets
numbered cells pairs number targets g is goes =
    sym (map_twice (λ ts. cell_with ts number) g (targets_of pairs)) ∙ ap (map (λ ts. cell_with ts number)) goes ∙ sym is

module _ (s : Source) (p : Layout) (l : List Location) (from : List Pair) (cells : List (List ℕ)) where
  pub is_read : (ns : List Node) (number : ℕ) (targets : List ℕ) (r : Reading) → targets ≡ map (λ ts. cell_with ts number) cells
      → AreRead ns s p l from targets widths r.vals.items → IsReading ns s p l from cells number r
  is_read ns number targets r is read =
      record {
        below = read.below;
        value = λ choice v runs ps met g goes target points.
            read.value choice v runs ps met (λ t. cell_with (g t) number) (numbered cells from number targets g is goes) target points;
      }

  pub readings_none : (ns : List Node) (rs : List Reading) → rs ≡ [] → HaveRead ns s p l from cells 0 rs
  unfolding readings_top
  readings_none ns rs e =
      subst (λ xs. HaveRead ns s p l from cells 0 xs) (sym e)
      (record { below = omega arith; many = refl; value = λ choice v runs ps met g goes target points. tt })

  pub readings_step : (n0 n1 : List Node) (number : ℕ) (old new : List Reading) (r : Reading) → Grown n0 n1 → IsReading n1 s p l from cells number r
      → new ≡ old ++ r ∷ [] → HaveRead n0 s p l from cells number old → HaveRead n1 s p l from cells (number + 1) new
  readings_step n0 n1 number old new r grown read pushed have =
      subst (λ xs. HaveRead n1 s p l from cells (number + 1) xs) (sym pushed)
      (record {
        below = readings_more old r (length n1) (omega (arith, have.below, grown.longer)) read.below;
        many = length_more old r ∙ ap (λ n. n + 1) have.many;
        value = λ choice v runs ps met g goes target points.
            reads_more v old r (λ k. found s p widths ps (cell_with (g target) k)) (have.value choice v (grown.runs choice v runs) ps met g goes target points)
            (subst (λ k. MeetsOne v r.vals.items (found s p widths ps (cell_with (g target) k))) (sym have.many)
            (read.value choice v runs ps met g goes target points));
      })

-- What was read is stored, one number after another.

module _ (live : ℕ) (place : List Pair) (cells : List (List ℕ)) where
  pub is_stored : (n1 n2 : List Node) (number : ℕ) (targets : List ℕ) (pointer : List Pair) (r : Reading) (old new : List Location) → Grown n1 n2
      → targets ≡ map (λ ts. cell_with ts number) cells → IsMoved n1 place targets pointer → IsPut n2 live pointer r.vals.items old new
      → IsStoredIn n2 live place cells number r old new
  is_stored n1 n2 number targets pointer r old new grown is moved put =
      record {
        below = put.below;
        same = put.same;
        value = λ choice v runs ps met g goes target points o meets.
            let f : ℕ → ℕ = (λ t. cell_with (g t) number) in
            put.value choice v runs ps met (f target)
            (moved.points choice v (grown.runs choice v runs) f target (numbered cells place number targets g is goes) points) o meets;
      }

  pub stored_none : (ns : List Node) (rs : List Reading) (l : List Location) → locations_top l ≤ length ns → HaveStored ns live place cells rs 0 l l
  stored_none ns rs l below =
      record { below = below; same = refl; value = λ choice v runs ps met g goes target points f reads. by v ps met (v live) }
    where
      by : (v : ℕ → Bool) (ps : List Place) → MeetsAll v l ps → (b : Bool) → MeetsAll v l (if b then ps else ps)
      by v ps met true = met
      by v ps met false = met

  pub stored_step : (n0 n1 : List Node) (rs : List Reading) (number : ℕ) (d : Reading) (old mid new : List Location) → number < length rs → Grown n0 n1
      → IsStoredIn n1 live place cells number (get_or rs number d) mid new → HaveStored n0 live place cells rs number old mid
      → HaveStored n1 live place cells rs (number + 1) old new
  stored_step n0 n1 rs number d old mid new low grown stored have =
      record {
        below = stored.below;
        same = stored.same ∙ have.same;
        value = λ choice v runs ps met g goes target points f reads.
            let before : List Place = if v live then stored_all number (g target) f ps else ps in
            let next : suc number ≡ number + 1 = omega arith in
            subst (λ n. MeetsAll v new (if v live then stored_all n (g target) f ps else ps)) next
            (by v ps (stored_all number (g target) f ps) (cell_with (g target) number) (f number) (v live)
            (stored.value choice v runs before (have.value choice v (grown.runs choice v runs) ps met g goes target points f reads) g goes target points
            (f number) (reads_at v rs f number d low reads)));
      }
    where
      by : (v : ℕ → Bool) (ps qs : List Place) (t : ℕ) (o : Option Cell) (b : Bool)
          → MeetsAll v new (if b then stored_at (if b then qs else ps) t o else (if b then qs else ps))
          → MeetsAll v new (if b then stored_at qs t o else ps)
      by v ps qs t o true h = h
      by v ps qs t o false h = h

-- What a run does, by the targets of the cells.

stored_first : (n t : ℕ) (ts : List ℕ) (f : ℕ → Option Cell) (ps : List Place)
    → stored_all (suc n) (t ∷ ts) f ps ≡ stored_all n ts (λ number. f (suc number)) (stored_at ps t (f 0))
stored_first zero t ts f ps = refl
stored_first (suc n) t ts f ps = ap (λ qs. stored_at qs (cell_with ts n) (f (suc n))) (stored_first n t ts f ps)

at_null : (ps : List Place) (o : Option Cell) → stored_at ps 0 o ≡ ps
at_null ps None = refl
at_null ps (Some c) = refl

stored_nowhere : (n : ℕ) (f : ℕ → Option Cell) (ps : List Place) → stored_all n [] f ps ≡ ps
stored_nowhere zero f ps = refl
stored_nowhere (suc n) f ps = at_null (stored_all n [] f ps) (f n) ∙ stored_nowhere n f ps

stored_nothing : (n : ℕ) (ts : List ℕ) (ps : List Place) → stored_all n ts (λ number. slice_get [] number) ps ≡ ps
stored_nothing zero ts ps = refl
stored_nothing (suc n) ts ps = stored_nothing n ts ps

stored_same : (n : ℕ) (ts : List ℕ) (f g : ℕ → Option Cell) (ps : List Place) → ((number : ℕ) → f number ≡ g number)
    → stored_all n ts f ps ≡ stored_all n ts g ps
stored_same zero ts f g ps same = refl
stored_same (suc n) ts f g ps same =
    ap (λ qs. stored_at qs (cell_with ts n) (f n)) (stored_same n ts f g ps same) ∙ ap (λ o. stored_at (stored_all n ts g ps) (cell_with ts n) o) (same n)

store_is : (ks : List ℕ) (cs : List Cell) (n : ℕ) (w : World) → length cs ≤ n
    → store_all ks cs w ≡ (Ok tt, record w { places = stored_all n (map suc ks) (λ number. slice_get cs number) w.places })
store_is [] cs n w low = ap (λ ps. (Ok tt, record w { places = ps })) (sym (stored_nowhere n (λ number. slice_get cs number) w.places))
store_is (k ∷ ks) [] n w low = ap (λ ps. (Ok tt, record w { places = ps })) (sym (stored_nothing n (map suc (k ∷ ks)) w.places))
store_is (k ∷ ks) (c ∷ cs) zero w low = absurd (omega (arith, low))
store_is (k ∷ ks) (c ∷ cs) (suc n) w low =
    store_is ks cs n (record w { places = stored_at w.places (suc k) (Some c) }) (omega (arith, low))
    ∙ ap (λ ps. (Ok tt, record w { places = ps })) (sym (stored_first n (suc k) (map suc ks) (λ number. slice_get (c ∷ cs) number) w.places))

found_is : (s : Source) (p : Layout) (ps : List Place) (ks : List ℕ) (number : ℕ) → AreCells p ks
    → found s p widths ps (cell_with (map suc ks) number) ≡ slice_get (map (nth_cell ps) ks) number
found_is s p ps [] number are = refl
found_is s p ps (k ∷ ks) zero are =
    ap (λ b. if b then Some (nth_cell ps k) else None) (lt-ltb (number_at s p k) 6 (number_known s p k are.0))
found_is s p ps (k ∷ ks) (suc number) are = found_is s p ps ks number are.1

stands_may : (p : Layout) (t : Ty) (at : ℕ) → StandsAt p t at → may_stand p t at ≡ true
stands_may p t at (inl typed) = by (is_stub (location p at)) (has_type (location p at) t) typed
  where
    by : (a b : Bool) → b ≡ true → a || b ≡ true
    by true b e = refl
    by false b e = e
stands_may p t at (inr stub) = ap (λ b. b || has_type (location p at) t) stub.2

targets_there : (p : Layout) (t : Ty) (at target : ℕ) → target ≡ suc at → StandsAt p t at → object_targets p t target ≡ map suc (cells_of p at)
targets_there p t at target e stands =
    ap (λ k. object_targets p t k) e ∙ ap (λ b. if b then map suc (cells_of p at) else []) (stands_may p t at stands)

-- the new store is what the assignment makes of the old one where the run goes on, and the old one where it is over
pub record Copied (s : Source) (p : Layout) (v : ℕ → Bool) (g : Ends) (old new : List Location) (q c : Cell) (n : ℕ) : Type 0 where
  pub many : v g.live.at ≡ true → length (cells_of p (place_of c)) ≤ n
  pub on : (ps : List Place) → v g.live.at ≡ true → MeetsAll v old ps
      → MeetsAll v new (stored_all n (map suc (cells_of p (place_of q))) (λ number. found s p widths ps (cell_with (map suc (cells_of p (place_of c))) number)) ps)
  pub over : (ps : List Place) → v g.live.at ≡ false → MeetsAll v old ps → MeetsAll v new ps

module _ (s : Source) (p : Layout) (bits : List Bool) (temps : List Cell) (turn : ℕ) where
  -- the copy of a run, where there are as many readings as cells, or more
  copy_is : (from to n : ℕ) (w : World) → length (cells_of p from) ≤ n
      → copy (env_of s p bits temps turn) from to w
      ≡ (Ok tt, record w { places = stored_all n (map suc (cells_of p to)) (λ number. found s p widths w.places (cell_with (map suc (cells_of p from)) number)) w.places })
  copy_is from to n w low =
      let cs : List Cell = map (nth_cell w.places) (cells_of p from) in
      let few : length cs ≤ n = omega (arith, low, length-map (cells_of p from) (nth_cell w.places)) in
      let read : copy (env_of s p bits temps turn) from to w ≡ store_all (cells_of p to) cs w = ap (λ r. goes_on r (λ xs. store_all (cells_of p to) xs)) (load_is (cells_of p from) w) in
      read ∙ store_is (cells_of p to) cs n w few
      ∙ ap (λ ps. (Ok tt, record w { places = ps }))
      (stored_same n (map suc (cells_of p to)) (λ number. slice_get cs number)
      (λ number. found s p widths w.places (cell_with (map suc (cells_of p from)) number)) w.places
      (λ number. sym (found_is s p w.places (cells_of p from) number (cells_are p from))))

  -- the assignment of a run gives the place
  assign_is : (q c : Cell) (n : ℕ) (w : World) → length (cells_of p (place_of c)) ≤ n
      → assign_struct (env_of s p bits temps turn) q c w
      ≡ (Ok q, record w { places = stored_all n (map suc (cells_of p (place_of q))) (λ number. found s p widths w.places (cell_with (map suc (cells_of p (place_of c))) number)) w.places })
  assign_is q c n w low = ap (λ r. goes_on r (λ _. done q)) (copy_is (place_of c) (place_of q) n w low)

  copied_from : (v : ℕ → Bool) (g : Ends) (old new : List Location) (q c : Cell) (n : ℕ) (Good : Cell → Type 0) → Good q → Copied s p v g old new q c n
      → (x : Standing (Unit {0})) → Stands v old g (Any {A = Unit {0}}) x
      → Stands v new g Good (after x (λ u. assign_struct (env_of s p bits temps turn) q c))
  copied_from v g old new q c n Good good copied (On u w) h =
      subst (λ r. Stands v new g Good (stand r)) (sym (assign_is q c n w (copied.many h.tells.live)))
      (record {
        store = copied.on w.places h.tells.live h.store;
        tells = record { live = h.tells.live; asides = h.tells.asides; bads = h.tells.bads };
        given = q;
        good = good;
        is = refl;
      })
  copied_from v g old new q c n Good good copied (Over e w) h =
      record {
        store = copied.over w.places h.tells.live h.store;
        tells = record { live = h.tells.live; asides = h.tells.asides; bads = h.tells.bads };
        given = q;
        good = good;
        is = tt;
      }

  does_copied : (v : ℕ → Bool) (g : Ends) (old new : List Location) (q c : Cell) (n : ℕ) (Good : Cell → Type 0) → Good q → Copied s p v g old new q c n
      → Does v old g (assign_struct (env_of s p bits temps turn) q c) new g Good
  does_copied v g old new q c n Good good copied =
      record { does = λ x h. copied_from v g old new q c n Good good copied x h }

module _ (s : Source) (p : Layout) (g : Ends) (t : Ty) (place from : Sets) (old new : List Location) (readings : List Reading) (n1 n2 : List Node) (grown : Grown n1 n2)
    (have : HaveRead n1 s p old from.pairs.items (map (object_targets p t) (targets_of from.pairs.items)) (most (map (object_targets p t) (targets_of from.pairs.items))) readings)
    (stored : HaveStored n2 g.live.at place.pairs.items (map (object_targets p t) (targets_of place.pairs.items)) readings (length readings) old new) where
  -- the targets of two pointers, which lead to objects of the type where the run goes on
  copied_is : (choice v : ℕ → Bool) → Runs n2 choice v → (to source : ℕ)
      → GoodFor v g p Place' t (Set place) (Pointer to) → GoodFor v g p Place' t (Set from) (Pointer source)
      → Copied s p v g old new (Pointer to) (Pointer source) (length readings)
  copied_is choice v runs to source left right =
      record {
        many = λ on.
            let wide : length (object_targets p t source) ≤ most (map (object_targets p t) (targets_of from.pairs.items)) = most_at v (object_targets p t) from.pairs.items source right.0 in
            omega (arith, wide, have.many, ap length (from_there on), length-map (cells_of p (source - 1)) suc);
        on = λ ps on met.
            subst (λ ts. MeetsAll v new (stored_all (length readings) (map suc (cells_of p (to - 1))) (λ number. found s p widths ps (cell_with ts number)) ps)) (from_there on)
            (subst (λ ts. MeetsAll v new (stored_all (length readings) ts (λ number. found s p widths ps (cell_with (object_targets p t source) number)) ps)) (to_there on)
            (subst (λ b. MeetsAll v new (if b then stored_all (length readings) (object_targets p t to) (λ number. found s p widths ps (cell_with (object_targets p t source) number)) ps else ps)) on
            (result ps met)));
        over = λ ps off met.
            subst (λ b. MeetsAll v new (if b then stored_all (length readings) (object_targets p t to) (λ number. found s p widths ps (cell_with (object_targets p t source) number)) ps else ps)) off
            (result ps met);
      }
    where
      from_there : v g.live.at ≡ true → object_targets p t source ≡ map suc (cells_of p (source - 1))
      from_there on =
          targets_there p t (source - 1) source (omega (arith, ap target_of ((right.1 on).pointer))) ((right.1 on).stands)

      to_there : v g.live.at ≡ true → object_targets p t to ≡ map suc (cells_of p (to - 1))
      to_there on = targets_there p t (to - 1) to (omega (arith, ap target_of ((left.1 on).pointer))) ((left.1 on).stands)

      result : (ps : List Place) → MeetsAll v old ps
          → MeetsAll v new (if v g.live.at then stored_all (length readings) (object_targets p t to) (λ number. found s p widths ps (cell_with (object_targets p t source) number)) ps else ps)
      result ps met =
          stored.value choice v runs ps met (object_targets p t) refl to left.0 (λ number. found s p widths ps (cell_with (object_targets p t source) number))
          (have.value choice v (grown.runs choice v runs) ps met (object_targets p t) refl source right.0)

  assigned : (made : Sets) → made.pairs.items ≡ place.pairs.items → (choice v : ℕ → Bool) → Runs n2 choice v → (bits : List Bool) (temps : List Cell) (turn : ℕ) (q c : Cell)
      → GoodFor v g p Place' t (Set place) q → GoodFor v g p Place' t (Set from) c
      → Does v old g (assign_struct (env_of s p bits temps turn) q c) new g (GoodFor v g p Place' t (Set made))
  assigned made same choice v runs bits temps turn (Pointer to) (Pointer source) left right =
      does_copied s p bits temps turn v g old new (Pointer to) (Pointer source) (length readings) (GoodFor v g p Place' t (Set made))
      (subst (λ ps. Points v ps to) (sym same) left.0, left.1) (copied_is choice v runs to source left right)
  assigned made same choice v runs bits temps turn (Number w n) c left right = absurd left.0
  assigned made same choice v runs bits temps turn Nothing c left right = absurd left.0
  assigned made same choice v runs bits temps turn (Pointer to) (Number w n) left right = absurd right.0
  assigned made same choice v runs bits temps turn (Pointer to) Nothing left right = absurd right.0

-- q is the layout as the look-ups have it
pub does_copy : (s : Source) (q p : Layout) (g : Ends) (t : Ty) (place from made : Sets) (old new : List Location) (sources targets : List (List ℕ)) (readings : List Reading)
    (n0 n1 n2 : List Node) → q ≡ p → Grown n0 n1 → Grown n1 n2 → sources ≡ map (λ target. object_targets q t target) (targets_of from.pairs.items)
    → targets ≡ map (λ target. object_targets q t target) (targets_of place.pairs.items)
    → HaveRead n1 s p old from.pairs.items sources (most sources) readings
    → HaveStored n2 g.live.at place.pairs.items targets readings (length readings) old new
    → guards_top place.pairs.items ≤ length n0 → made.pairs.items ≡ place.pairs.items → DoesCopy s p n2 g t place from old new (Set made)
does_copy s q p g t place from made old new sources targets readings n0 n1 n2 same grown01 grown12 is_from is_to have stored below copied =
    let f : Layout → List (List ℕ) = (λ k. map (object_targets k t) (targets_of from.pairs.items)) in
    let h : Layout → List (List ℕ) = (λ k. map (object_targets k t) (targets_of place.pairs.items)) in
    let have' : HaveRead n1 s p old from.pairs.items (f p) (most (f p)) readings = subst (λ cells. HaveRead n1 s p old from.pairs.items cells (most cells) readings) (is_from ∙ ap f same) have in
    let stored' : HaveStored n2 g.live.at place.pairs.items (h p) readings (length readings) old new = subst (λ cells. HaveStored n2 g.live.at place.pairs.items cells readings (length readings) old new) (is_to ∙ ap h same) stored in
    record {
      below = omega (arith, ap guards_top copied, below, grown01.longer, grown12.longer);
      top = stored.below;
      same = stored.same;
      kind = refl;
      does = λ choice v runs bits temps turn c d left right.
          assigned s p g t place from old new readings n1 n2 grown12 have' stored' made copied choice v runs bits temps turn c d left right;
    }
