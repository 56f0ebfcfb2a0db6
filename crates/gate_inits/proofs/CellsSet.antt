-- The cells of an object that are set one after another, as a run does.
use Rattle.std.proofs.Common.{◌≡◌, ℕ, zero, suc, ◌+◌, ◌-◌, ◌<◌, ◌≤◌, Bool, true, false, Option, Some, None, List, [], ◌∷◌, length, map, drop, slice_get, get_or, if◌then◌else◌, refl, sym, ◌∙◌, ap, subst, arith, add-one}
use Rattle.bit_net.specs.declared.nodes.Node.{Node}
use Rattle.bit_net.specs.Runs.{Runs, Grown, Always}
use Rattle.gl_sets.specs.Guards.{Points}
use Rattle.gl_sets.specs.declared.pairs.Pair.{Pair}
use Rattle.gl_store.specs.declared.stores.Location.{Location}
use Rattle.gl_store.specs.declared.values.Val.{Val}
use Rattle.gl_store.specs.Meets.{Meets, MeetsAll, kinds, locations_top}
use Rattle.gl_store.specs.Steps.{IsBlank}
use Rattle.run_store.specs.Concrete.{Cell, Kind, Place, blank}
use Rattle.sc_world.specs.Source.{Source}
use Rattle.sc_world.specs.Layout.{Layout, location}
use Rattle.sc_world.specs.World.{Run, done, store, kind_of_type}
use Rattle.sc_world.specs.Eval.{cells_of, store_all}
use Rattle.sc_world.specs.Exec.{clear, set_part}
use Rattle.gate_runs.specs.declared.ends.Ends.{Ends}
use Rattle.gate_runs.specs.Standing.{Standing, On, Over, after, world_of}
use Rattle.gate_runs.specs.Stands.{Stands, Does, Any}
use Rattle.gate_runs.proofs.Bind.{bind, does_done}
use Rattle.gate_steps.specs.Steps.{DoesStore, LeadsTo}
use Rattle.gate_places.specs.Places.{env_of}
use Rattle.gate_copies.specs.declared.readings.Guarded.{Guarded}
use Rattle.gate_copies.specs.declared.readings.Reading.{Reading}
use Rattle.gate_copies.specs.Readings.{MeetsOne, Reads, IsPut, guarded_top, readings_top, stored_at}
use Rattle.gate_inits.specs.Inits.{HaveCells, DoesBlank, DoesClear, DoesSetPart, IsSetAt, SetsCells, ClearsCells, Leaves, stored_if}

-- one reading of several
pub reading_top : (rs : List Reading) (i : ℕ) (d : Reading) → i < length rs → guarded_top (get_or rs i d).vals.items ≤ readings_top rs
unfolding readings_top
reading_top [] i d low = absurd (omega (arith, low))
reading_top (r ∷ rs) zero d low = omega arith
reading_top (r ∷ rs) (suc i) d low = omega (arith, reading_top rs i d (omega (arith, low)))

reads_at : (v : ℕ → Bool) (rs : List Reading) (f : ℕ → Option Cell) (i : ℕ) (d : Reading) → i < length rs → Reads v rs f
    → MeetsOne v (get_or rs i d).vals.items (f i)
reads_at v [] f i d low h = absurd (omega (arith, low))
reads_at v (r ∷ rs) f zero d low h = h.0
reads_at v (r ∷ rs) f (suc i) d low h = reads_at v rs (λ number. f (suc number)) i d (omega (arith, low)) h.1

-- Single steps.

module _ (v : ℕ → Bool) (g : Ends) (old new : List Location) where
  -- where the store stays, what is done behind it is all that is done
  through : {A : Type 0} (final : List Location) (m : Run A) (Good : A → Type 0) → ((ps : List Place) → MeetsAll v old ps → MeetsAll v new ps)
      → Does v new g m final g Good → Does v old g m final g Good
  through final m Good stays d = record {
    does = λ s h. d.does s (record {
      store = stays (world_of s).places h.store;
      tells = record { live = h.tells.live; asides = h.tells.asides; bads = h.tells.bads };
      given = h.given;
      good = h.good;
      is = h.is;
    });
  }

  -- a cell is stored where the run goes on
  put_from : (k : ℕ) (c : Cell) → ((ps : List Place) → MeetsAll v old ps → MeetsAll v new (if v g.live.at then stored_at ps (suc k) (Some c) else ps))
      → (s : Standing (Unit {0})) → Stands v old g (Any {A = Unit {0}}) s → Stands v new g (Any {A = Unit {0}}) (after s (λ u. store k c))
  put_from k c put (On u w) h = record {
    store = subst (λ b. MeetsAll v new (if b then stored_at w.places (suc k) (Some c) else w.places)) h.tells.live (put w.places h.store);
    tells = record { live = h.tells.live; asides = h.tells.asides; bads = h.tells.bads };
    given = tt;
    good = tt;
    is = refl;
  }
  put_from k c put (Over e w) h = record {
    store = subst (λ b. MeetsAll v new (if b then stored_at w.places (suc k) (Some c) else w.places)) h.tells.live (put w.places h.store);
    tells = record { live = h.tells.live; asides = h.tells.asides; bads = h.tells.bads };
    given = tt;
    good = tt;
    is = tt;
  }

  put_does : (k : ℕ) (c : Cell) → ((ps : List Place) → MeetsAll v old ps → MeetsAll v new (if v g.live.at then stored_at ps (suc k) (Some c) else ps))
      → Does v old g (store k c) new g (Any {A = Unit {0}})
  put_does k c put = record { does = λ s h. put_from k c put s h }

-- Cells that are set.

either : (v : ℕ → Bool) (new : List Location) (ps : List Place) (b : Bool) → MeetsAll v new (if b then ps else ps) → MeetsAll v new ps
either v new ps true h = h
either v new ps false h = h

nothing_at : (v : ℕ → Bool) (new : List Location) (ps : List Place) (b : Bool) (t : Option ℕ) → MeetsAll v new (if b then stored_if ps t None else ps) → MeetsAll v new ps
nothing_at v new ps true None h = h
nothing_at v new ps true (Some t) h = h
nothing_at v new ps false t h = h

none_stored : (ks : List ℕ) → store_all ks [] ≡ done tt
none_stored [] = refl
none_stored (k ∷ ks) = refl

module _ (v : ℕ → Bool) (g : Ends) (mid new final : List Location) where
  set_next : (number : ℕ) (ks : List ℕ) (cs : List Cell)
      → ((ps : List Place) → MeetsAll v mid ps → MeetsAll v new (if v g.live.at then stored_if ps (slice_get (map suc ks) number) (slice_get cs number) else ps))
      → Does v new g (store_all (drop (suc number) ks) (drop (suc number) cs)) final g (Any {A = Unit {0}})
      → Does v mid g (store_all (drop number ks) (drop number cs)) final g (Any {A = Unit {0}})
  set_next zero [] cs put d = through v g mid new final (done tt) (Any {A = Unit {0}}) (λ ps met. either v new ps (v g.live.at) (put ps met)) d
  set_next zero (k ∷ ks) [] put d =
      through v g mid new final (done tt) (Any {A = Unit {0}}) (λ ps met. nothing_at v new ps (v g.live.at) (Some (suc k)) (put ps met))
      (subst (λ (m : Run (Unit {0})). Does v new g m final g (Any {A = Unit {0}})) (none_stored ks) d)
  set_next zero (k ∷ ks) (c ∷ cs) put d =
      bind v mid new final g g g (store k c) (λ u. store_all ks cs) (Any {A = Unit {0}}) (Any {A = Unit {0}}) (put_does v g mid new k c put) (λ u good. d)
  set_next (suc n) [] cs put d = through v g mid new final (done tt) (Any {A = Unit {0}}) (λ ps met. either v new ps (v g.live.at) (put ps met)) d
  set_next (suc n) (k ∷ ks) [] put d =
      subst (λ (m : Run (Unit {0})). Does v mid g m final g (Any {A = Unit {0}})) (sym (none_stored (drop n ks)))
      (through v g mid new final (done tt) (Any {A = Unit {0}}) (λ ps met. nothing_at v new ps (v g.live.at) (slice_get (map suc ks) n) (put ps met))
      (subst (λ (m : Run (Unit {0})). Does v new g m final g (Any {A = Unit {0}})) (none_stored (drop (suc n) ks)) d))
  set_next (suc n) (k ∷ ks) (c ∷ cs) put d = set_next n ks cs put d

-- the first cells are set
pub record SetSoFar (ns : List Node) (g : Ends) (targets : List ℕ) (readings : List Reading) (number : ℕ) (old mid : List Location) : Type 0 where
  pub top : locations_top mid ≤ length ns
  pub same : kinds mid ≡ kinds old
  pub leaves : (choice v : ℕ → Bool) → Runs ns choice v → (ks : List ℕ) → targets ≡ map suc ks → (cells : List Cell) → HaveCells v readings cells
      → Leaves v g old mid (store_all ks cells) (store_all (drop number ks) (drop number cells))

pub set_none : (ns : List Node) (g : Ends) (targets : List ℕ) (readings : List Reading) (l : List Location) → locations_top l ≤ length ns
    → SetSoFar ns g targets readings 0 l l
set_none ns g targets readings l top = record { top = top; same = refl; leaves = λ choice v runs ks is cells have new d. d }

pub set_more : (n0 n1 : List Node) (g : Ends) (targets : List ℕ) (readings : List Reading) (number : ℕ) (d : Reading) (old mid new : List Location) → number < length readings
    → Grown n0 n1 → IsSetAt n1 g.live.at (slice_get targets number) (get_or readings number d).vals.items mid new → SetSoFar n0 g targets readings number old mid
    → SetSoFar n1 g targets readings (number + 1) old new
set_more n0 n1 g targets readings number d old mid new low grown at so_far = record {
  top = at.below;
  same = at.same ∙ so_far.same;
  leaves = λ choice v runs ks is cells have final rest.
      so_far.leaves choice v (grown.runs choice v runs) ks is cells have final
      (set_next v g mid new final number ks cells
      (λ ps met. subst (λ (ts : List ℕ). MeetsAll v new (if v g.live.at then stored_if ps (slice_get ts number) (slice_get cells number) else ps)) is
      (at.value choice v runs ps met (slice_get cells number) (reads_at v readings (λ i. slice_get cells i) number d low have.0)))
      (subst (λ (n : ℕ). Does v new g (store_all (drop n ks) (drop n cells)) final g (Any {A = Unit {0}})) (add-one number) rest));
}

past_all : {A : Type 0} (xs : List A) (n : ℕ) → length xs ≤ n → drop n xs ≡ []
past_all [] zero low = refl
past_all [] (suc n) low = refl
past_all (x ∷ xs) zero low = absurd (omega (arith, low))
past_all (x ∷ xs) (suc n) low = past_all xs n (omega (arith, low))

pub set_whole : (ns : List Node) (g : Ends) (targets : List ℕ) (readings : List Reading) (number : ℕ) (old new : List Location) → number ≡ length readings
    → SetSoFar ns g targets readings number old new → SetsCells ns g targets readings old new
set_whole ns g targets readings number old new all so_far = record {
  top = so_far.top;
  same = so_far.same;
  does = λ choice v runs ks is cells have.
      so_far.leaves choice v runs ks is cells have new
      (subst (λ (m : Run (Unit {0})). Does v new g m new g (Any {A = Unit {0}}))
      (sym (ap (λ (cs : List Cell). store_all (drop number ks) cs) (past_all cells number (omega (arith, have.1, all))) ∙ none_stored (drop number ks)))
      (does_done v new g tt (Any {A = Unit {0}}) tt));
}

pub set_at : (n0 n1 : List Node) (live : ℕ) (target : ℕ) (pairs : List Pair) (vals : List Guarded) (old new : List Location) → Grown n0 n1
    → Always n0 (λ choice v. Points v pairs target) → IsPut n1 live pairs vals old new → IsSetAt n1 live (Some target) vals old new
set_at n0 n1 live target pairs vals old new grown points put = record {
  below = put.below;
  same = put.same;
  value = λ choice v runs ps met o one. put.value choice v runs ps met target (points.holds choice v (grown.runs choice v runs)) o one;
}

pub set_nowhere : (ns : List Node) (live : ℕ) (vals : List Guarded) (l : List Location) → locations_top l ≤ length ns → IsSetAt ns live None vals l l
set_nowhere ns live vals l top = record {
  below = top;
  same = refl;
  value = λ choice v runs ps met o one. by v (v live) ps met;
}
  where
    by : (v : ℕ → Bool) (b : Bool) (ps : List Place) → MeetsAll v l ps → MeetsAll v l (if b then ps else ps)
    by v true ps met = met
    by v false ps met = met

-- A part.

pub part_set : (ns : List Node) (p : Layout) (g : Ends) (at : ℕ) (targets : List ℕ) (readings : List Reading) (old new : List Location) → targets ≡ map suc (cells_of p at)
    → SetsCells ns g targets readings old new → DoesSetPart p ns g (Some at) readings old new
part_set ns p g at targets readings old new is sets = record {
  top = sets.top;
  same = sets.same;
  does = λ choice v runs s bits temps turn cells have. sets.does choice v runs (cells_of p at) is cells have;
}

pub part_none : (ns : List Node) (p : Layout) (g : Ends) (readings : List Reading) (l : List Location) → locations_top l ≤ length ns → DoesSetPart p ns g None readings l l
part_none ns p g readings l top = record {
  top = top;
  same = refl;
  does = λ choice v runs s bits temps turn cells have. does_done v l g tt (Any {A = Unit {0}}) tt;
}

-- Cells that are set to 0 or null.

pub blanked : (s : Source) (p : Layout) (n0 n1 : List Node) (g : Ends) (target : ℕ) (pairs : List Pair) (val : Val) (old new : List Location) (kind : Kind) → 0 < target → Grown n0 n1
    → kind ≡ kind_of_type s (location p (target - 1)).type → IsBlank n0 kind val → Always n0 (λ choice v. Points v pairs target)
    → DoesStore n1 g pairs val old new → DoesBlank s p n1 g target old new
blanked s p n0 n1 g target pairs val old new kind low grown is blank_is points stores = record {
  top = stores.below;
  same = stores.same;
  does = λ choice v runs at e.
      (let r0 = grown.runs choice v runs in
      let there : target - 1 ≡ at = omega (arith, e) in
      stores.does choice v runs at (blank (kind_of_type s (location p at).type))
      (record { target = target; points = points.holds choice v r0; there = λ live. e ∙ add-one at })
      (subst (λ (k : Kind). Meets v val (blank k)) (is ∙ ap (λ (i : ℕ). kind_of_type s (location p i).type) there) (blank_is.value choice v r0)));
}

module _ (s : Source) (p : Layout) (bits : List Bool) (temps : List Cell) (turn : ℕ) (v : ℕ → Bool) (g : Ends) (mid new final : List Location) where
  clear_next : (i : ℕ) (ks : List ℕ) (d : ℕ) → i < length ks
      → ((at : ℕ) → get_or (map suc ks) i d ≡ at + 1 → Does v mid g (store at (blank (kind_of_type s (location p at).type))) new g (Any {A = Unit {0}}))
      → Does v new g (clear (env_of s p bits temps turn) (drop (suc i) ks)) final g (Any {A = Unit {0}})
      → Does v mid g (clear (env_of s p bits temps turn) (drop i ks)) final g (Any {A = Unit {0}})
  clear_next i [] d low one rest = absurd (omega (arith, low))
  clear_next zero (k ∷ ks) d low one rest =
      bind v mid new final g g g (store k (blank (kind_of_type s (location p k).type))) (λ u. clear (env_of s p bits temps turn) ks) (Any {A = Unit {0}}) (Any {A = Unit {0}})
      (one k (sym (add-one k))) (λ u good. rest)
  clear_next (suc i) (k ∷ ks) d low one rest = clear_next i ks d (omega (arith, low)) one rest

-- the first cells are 0 or null
pub record ClearSoFar (s : Source) (p : Layout) (ns : List Node) (g : Ends) (targets : List ℕ) (i : ℕ) (old mid : List Location) : Type 0 where
  pub top : locations_top mid ≤ length ns
  pub same : kinds mid ≡ kinds old
  pub leaves : (choice v : ℕ → Bool) → Runs ns choice v → (ks : List ℕ) → targets ≡ map suc ks → (bits : List Bool) (temps : List Cell) (turn : ℕ)
      → Leaves v g old mid (clear (env_of s p bits temps turn) ks) (clear (env_of s p bits temps turn) (drop i ks))

pub clear_none : (s : Source) (p : Layout) (ns : List Node) (g : Ends) (targets : List ℕ) (l : List Location) → locations_top l ≤ length ns
    → ClearSoFar s p ns g targets 0 l l
clear_none s p ns g targets l top = record { top = top; same = refl; leaves = λ choice v runs ks is bits temps turn new d. d }

map_length : (ks : List ℕ) → length (map suc ks) ≡ length ks
map_length [] = refl
map_length (k ∷ ks) = ap suc (map_length ks)

pub clear_more : (s : Source) (p : Layout) (n0 n1 : List Node) (g : Ends) (targets : List ℕ) (i : ℕ) (d : ℕ) (old mid new : List Location) → i < length targets
    → Grown n0 n1 → DoesBlank s p n1 g (get_or targets i d) mid new → ClearSoFar s p n0 g targets i old mid → ClearSoFar s p n1 g targets (i + 1) old new
clear_more s p n0 n1 g targets i d old mid new low grown one so_far = record {
  top = one.top;
  same = one.same ∙ so_far.same;
  leaves = λ choice v runs ks is bits temps turn final rest.
      so_far.leaves choice v (grown.runs choice v runs) ks is bits temps turn final
      (clear_next s p bits temps turn v g mid new final i ks d (omega (arith, low, ap length is, map_length ks))
      (λ at e. one.does choice v runs at (ap (λ (ts : List ℕ). get_or ts i d) is ∙ e))
      (subst (λ (n : ℕ). Does v new g (clear (env_of s p bits temps turn) (drop n ks)) final g (Any {A = Unit {0}})) (add-one i) rest));
}

pub clear_whole : (s : Source) (p : Layout) (ns : List Node) (g : Ends) (targets : List ℕ) (i : ℕ) (old new : List Location) → length targets ≤ i
    → ClearSoFar s p ns g targets i old new → ClearsCells s p ns g targets old new
clear_whole s p ns g targets i old new all so_far = record {
  top = so_far.top;
  same = so_far.same;
  does = λ choice v runs ks is bits temps turn.
      so_far.leaves choice v runs ks is bits temps turn new
      (subst (λ (xs : List ℕ). Does v new g (clear (env_of s p bits temps turn) xs) new g (Any {A = Unit {0}}))
      (sym (past_all ks i (omega (arith, all, ap length is, map_length ks))))
      (does_done v new g tt (Any {A = Unit {0}}) tt));
}

pub clears : (s : Source) (p q : Layout) (ns : List Node) (g : Ends) (at : ℕ) (targets : List ℕ) (old new : List Location) → q ≡ p → targets ≡ map suc (cells_of q at)
    → ClearsCells s p ns g targets old new → DoesClear s p ns g at old new
clears s p q ns g at targets old new same is h = record {
  top = h.top;
  same = h.same;
  does = λ choice v runs bits temps turn. h.does choice v runs (cells_of p at) (is ∙ ap (λ k. map suc (cells_of k at)) same) bits temps turn;
}

-- null is the target of no cell
pub blank_none : (s : Source) (p : Layout) (ns : List Node) (g : Ends) (target : ℕ) (l : List Location) → target ≡ 0 → locations_top l ≤ length ns → DoesBlank s p ns g target l l
blank_none s p ns g target l null top = record {
  top = top;
  same = refl;
  does = λ choice v runs at e. absurd (omega (arith, null, e));
}
