-- Nodes that evaluate an expression and set a local to its value, or keep its cells.
use Rattle.std.proofs.Common.{◌≡◌, ℕ, suc, ◌+◌, ◌<◌, ◌≤◌, nat_eq, Bool, true, false, ◌&&◌, if◌then◌else◌, Some, List, [], ◌∷◌, map, length, slice_get, refl, sym, ◌∙◌, ap, subst, arith}
use Rattle.bit_net.specs.declared.nodes.Node.{Node as Gates}
use Rattle.bit_net.specs.Runs.{Runs, Grown}
use Rattle.gl_store.specs.declared.stores.Location.{Location}
use Rattle.gl_store.specs.declared.values.Val.{Val}
use Rattle.gate_runs.specs.declared.ends.Ends.{Ends}
use Rattle.gate_runs.specs.Stands.{Does, HasBegun, Any}
use Rattle.gate_runs.proofs.Bind.{bind}
use Rattle.run_store.specs.Concrete.{Cell}
use Rattle.run_laws.specs.Fits.{is_scalar, if_scalar, IsThere}
use Rattle.sc_world.specs.declared.run.Origin.TheVariants as origin
use Rattle.sc_world.specs.Tree.{Ty, Exp, type_of, One}
use Rattle.sc_world.specs.Source.{Source}
use Rattle.sc_world.specs.Layout.{Layout, location, location_of, has_type}
use Rattle.sc_world.specs.World.{Run, Env, ◌>>=◌, bit_at, store, done}
use Rattle.sc_world.specs.Eval.{Want, Value, Place', eval, place_of, cells_of, load_all, copy}
use Rattle.sc_world.specs.Exec.{initialise, cells_given}
use Rattle.gate_copies.specs.declared.readings.Reading.{Reading}
use Rattle.gate_places.specs.Places.{GoodFor, env_of}
use Rattle.gate_inits.specs.Inits.{HaveCells, DoesSet, DoesGive, set_to, cells_in}
use Rattle.flow_graph.specs.Nodes.{Node, Kept, Set, KeepCells, reads}
use Rattle.flow_graph.specs.Conditions.{temps_of, InSlot}
use Rattle.flow_types.specs.Kinds as flow
use Rattle.flow_types.specs.Nodes.{NodeFits}
use Rattle.flow_turns.specs.declared.before.Before.{Before}
use Rattle.flow_turns.specs.declared.before.Arrival.{Arrival}
use Rattle.flow_turns.specs.declared.steps.Made.{Made}
use Rattle.flow_turns.specs.Before.{IsFit, IsAt}
use Rattle.flow_turns.specs.Steps.{DoesAct, DoesActs, GoesOnBy, WroteStore}
use Rattle.flow_turns.proofs.Past.{grown_both}
use Rattle.flow_turns.proofs.Turning.{fits_at}
use Rattle.flow_keeps.specs.Evaluates.{Evaluates, IsWanted, kind_of}
use Rattle.flow_keeps.specs.Keeps.{BeginsAt}
use Rattle.flow_keeps.proofs.Valued.{narrow, wide, does_kept, does_some}
use Rattle.flow_fills.specs.declared.slots.Given.{Given}
use Rattle.flow_fills.specs.Slots.{DoesGiving, DoesGivings, SettlesIn}
use Rattle.flow_fills.specs.Sets.{SetsLocal}
use Rattle.flow_fills.specs.Fills.{KeepsCells}

-- what is wanted of an expression, in other words
good_for : (v : ℕ → Bool) (g : Ends) (p : Layout) (want : Want) (t : Ty) (x : Val) (c : Cell) → IsWanted v g.live.at p (kind_of want t) x c → GoodFor v g p want t x c
good_for v g p Value t x c h = h
good_for v g p Place' t x c h = h

began_grown : (ns ns' : List Gates) (on : ℕ) (g : Ends) → Grown ns ns' → HasBegun ns on g → HasBegun ns' on g
began_grown ns ns' on g more h = record {
  live = h.live;
  asides = λ choice v r k. h.asides choice v (more.runs choice v r) k;
  bads = λ choice v r k. h.bads choice v (more.runs choice v r) k;
}

wrote_both : (a b c : Before) → WroteStore a b → WroteStore b c → WroteStore a c
wrote_both a b c h k = record {
  temps = k.temps ∙ h.temps;
  ways = k.ways ∙ h.ways;
  fates = k.fates ∙ h.fates;
  result = k.result ∙ h.result;
  blank = k.blank ∙ h.blank;
}

-- the value is taken behind its evaluation
set_behind : (e : Exp) (at : ℕ) (env : Env) → (eval e (if_scalar (type_of e)) env >>= λ c. set_to env (type_of e) at c) ≡ initialise at (One e) env
set_behind e at env = by (is_scalar (type_of e))
  where
    by : (b : Bool) → (eval e (if b then Value else Place') env >>= λ c. (if b then store at c else copy env (place_of c) at))
        ≡ (if b then (eval e Value env >>= λ v. store at v) else (eval e Place' env >>= λ p. copy env (place_of p) at))
    by true = refl
    by false = refl

given_behind : (e : Exp) (env : Env) → (eval e (if_scalar (type_of e)) env >>= λ c. cells_in env (type_of e) c) ≡ cells_given e env
given_behind e env = by (is_scalar (type_of e))
  where
    by : (b : Bool) → (eval e (if b then Value else Place') env >>= λ c. (if b then done (c ∷ []) else load_all (cells_of env.layout (place_of c))))
        ≡ (if b then (eval e Value env >>= λ v. done (v ∷ [])) else (eval e Place' env >>= λ p. load_all (cells_of env.layout (place_of p))))
    by true = refl
    by false = refl

module _ (s : Source) (p : Layout) (bits : List Bool) (k : Kept) (e : Exp) (v : ℕ → Bool) (begun ends : Ends) (val : Val) (l0 l1 l2 : List Location) where
  set_does : (at : ℕ) → Does v l0 begun (eval e (if_scalar (type_of e)) (reads s p bits k)) l1 ends (IsWanted v ends.live.at p (kind_of (if_scalar (type_of e)) (type_of e)) val)
      → ((c : Cell) → GoodFor v ends p (if_scalar (type_of e)) (type_of e) val c → Does v l1 ends (set_to (reads s p bits k) (type_of e) at c) l2 ends (Any {A = Unit {0}}))
      → Does v l0 begun (initialise at (One e) (reads s p bits k)) l2 ends (Any {A = Unit {0}})
  set_does at first next =
      subst (λ (m : Run (Unit {0})). Does v l0 begun m l2 ends (Any {A = Unit {0}})) (set_behind e at (reads s p bits k))
      (bind v l0 l1 l2 begun ends ends (eval e (if_scalar (type_of e)) (reads s p bits k)) (λ c. set_to (reads s p bits k) (type_of e) at c)
      (IsWanted v ends.live.at p (kind_of (if_scalar (type_of e)) (type_of e)) val) (Any {A = Unit {0}}) first
      (λ c good. next c (good_for v ends p (if_scalar (type_of e)) (type_of e) val c good)))

  given_does : (rs : List Reading) → Does v l0 begun (eval e (if_scalar (type_of e)) (reads s p bits k)) l1 ends (IsWanted v ends.live.at p (kind_of (if_scalar (type_of e)) (type_of e)) val)
      → ((c : Cell) → GoodFor v ends p (if_scalar (type_of e)) (type_of e) val c → Does v l1 ends (cells_in (reads s p bits k) (type_of e) c) l2 ends (HaveCells v rs))
      → Does v l0 begun (cells_given e (reads s p bits k)) l2 ends (HaveCells v rs)
  given_does rs first next =
      subst (λ (m : Run (List Cell)). Does v l0 begun m l2 ends (HaveCells v rs)) (given_behind e (reads s p bits k))
      (bind v l0 l1 l2 begun ends ends (eval e (if_scalar (type_of e)) (reads s p bits k)) (λ c. cells_in (reads s p bits k) (type_of e) c)
      (IsWanted v ends.live.at p (kind_of (if_scalar (type_of e)) (type_of e)) val) (HaveCells v rs) first
      (λ c good. next c (good_for v ends p (if_scalar (type_of e)) (type_of e) val c good)))

-- A local is set.
module _ (s : Source) (p : Layout) (ns ns1 ns' : List Gates) (t : Ty) (at next : ℕ) (here : Arrival) (made : Made) (mid done new : Before) where
  pub set_local_node : Grown ns ns1 → DoesSet s p ns1 made.ends t at made.val mid.store.locations.items done.store.locations.items → WroteStore mid done
      → GoesOnBy ns1 ns' next here made.on.at made.ends done new → SetsLocal s p ns ns' t at next here made mid new
  set_local_node g sets wrote_on h = record {
    past = λ nodes node m e is there typed old_ns g0 old wrote before on ev.
        (let n = Set m e next in
        let fits = fits_at s p before.kinds nodes node n is before.fit.types in
        h.past s p nodes node n is old_ns (grown_both old_ns ns ns1 g0 g) old (wrote_both old mid done wrote wrote_on) before
        (record {
          same = sets.same ∙ ev.same;
          keeps = refl;
          on_to = λ is_so. refl;
          later = λ at count h. h;
          does = λ bits few v runs.
              (let runs0 = g.runs (bit_at bits) v runs in
              let of_type = subst (λ (i : ℕ). has_type (location p i) (type_of e) ≡ true) there fits.2 in
              let goes = λ (k : Kept) (d : Does v old.store.locations.items ev.begun (eval e (if_scalar (type_of e)) (reads s p bits k)) mid.store.locations.items made.ends (IsWanted v made.ends.live.at p (kind_of (if_scalar (type_of e)) (type_of e)) made.val)).
              subst (λ (i : ℕ). Does v old.store.locations.items ev.begun (initialise i (One e) (reads s p bits k)) done.store.locations.items made.ends (Any {A = Unit {0}})) (sym there)
              (set_does s p bits k e v ev.begun made.ends made.val old.store.locations.items mid.store.locations.items done.store.locations.items at d
              (λ c good. of_that e typed bits v runs of_type k c good)) in
              record {
                m = λ k. initialise (location_of p (origin.Local m)) (One e) (reads s p bits k);
                acts = λ go k w. refl;
                begun = ev.begun;
                began = began_grown ns ns1 made.on.at ev.begun g ev.began;
                narrow = narrow s p before.kinds nodes node n ns (if_scalar (type_of e)) e here old mid.store.locations.items made is refl refl before.fit fits.1 ev on bits v runs0;
                wide = wide s p before.kinds nodes node n ns (if_scalar (type_of e)) e here old mid.store.locations.items made is refl refl before.fit fits.1 ev on bits v runs0;
                does = λ k kept. goes k (does_kept s p before.kinds nodes node n ns (if_scalar (type_of e)) e here old mid.store.locations.items made is refl refl before.fit fits.1 ev on bits v runs0 k kept);
                some = λ k some. goes k (does_some s p before.kinds nodes node n ns (if_scalar (type_of e)) e here old mid.store.locations.items made is refl refl before.fit fits.1 ev on bits v runs0 k some);
              });
        }));
  }
    where
      of_that : (e : Exp) → type_of e ≡ t → (bits : List Bool) (v : ℕ → Bool) → Runs ns1 (bit_at bits) v → has_type (location p at) (type_of e) ≡ true → (k : Kept) (c : Cell)
          → GoodFor v made.ends p (if_scalar (type_of e)) (type_of e) made.val c
          → Does v mid.store.locations.items made.ends (set_to (reads s p bits k) (type_of e) at c) done.store.locations.items made.ends (Any {A = Unit {0}})
      of_that e typed bits v runs of_type k c =
          subst (λ (u : Ty). has_type (location p at) u ≡ true → GoodFor v made.ends p (if_scalar u) u made.val c
          → Does v mid.store.locations.items made.ends (set_to (reads s p bits k) u at c) done.store.locations.items made.ends (Any {A = Unit {0}})) (sym typed)
          (λ of_type good. sets.does (bit_at bits) v runs of_type bits k.temps 0 c good) of_type

-- Cells are kept.
module _ (s : Source) (p : Layout) (ns ns1 ns' : List Gates) (t : Ty) (slot next : ℕ) (here : Arrival) (made : Made) (given : Given) (mid new : Before) where
  pub keep_cells_node : Grown ns ns1 → DoesGive s p ns1 t made.val mid.store.locations.items given.cells.items → given.on ≡ made.on → given.ends ≡ made.ends
      → SettlesIn ns1 ns' slot next here given mid new → KeepsCells s p ns ns' t slot next here made mid new
  keep_cells_node g gives same_on same_ends h = record {
    past = λ nodes node e is typed old_ns g0 old wrote before on ev.
        (let n = KeepCells slot e next in
        let fits = fits_at s p before.kinds nodes node n is before.fit.types in
        h.past s p nodes node n is old_ns (grown_both old_ns ns ns1 g0 g) old wrote before
        (record {
          same = ev.same;
          keeps = refl;
          on_to = λ is_so. refl;
          later = λ at count h. h;
          does = λ bits few v runs.
              (let runs0 = g.runs (bit_at bits) v runs in
              let goes = λ (k : Kept) (d : Does v old.store.locations.items ev.begun (eval e (if_scalar (type_of e)) (reads s p bits k)) mid.store.locations.items made.ends (IsWanted v made.ends.live.at p (kind_of (if_scalar (type_of e)) (type_of e)) made.val)).
              subst (λ (gs : Ends). Does v old.store.locations.items ev.begun (cells_given e (reads s p bits k)) mid.store.locations.items gs (HaveCells v given.cells.items)) (sym same_ends)
              (given_does s p bits k e v ev.begun made.ends made.val old.store.locations.items mid.store.locations.items mid.store.locations.items given.cells.items d
              (λ c good. of_that e typed bits v runs k c good)) in
              record {
                m = λ k. cells_given e (reads s p bits k);
                acts = λ go k w. refl;
                begun = ev.begun;
                began = subst (λ g'. HasBegun ns1 g'.at ev.begun) (sym same_on) (began_grown ns ns1 made.on.at ev.begun g ev.began);
                narrow = λ off. ap (λ g'. v g'.at) same_on
                    ∙ narrow s p before.kinds nodes node n ns (if_scalar (type_of e)) e here old mid.store.locations.items made is refl refl before.fit fits.0 ev on bits v runs0 off;
                wide = λ k kept here_on. ap (λ g'. v g'.at) same_on
                    ∙ wide s p before.kinds nodes node n ns (if_scalar (type_of e)) e here old mid.store.locations.items made is refl refl before.fit fits.0 ev on bits v runs0 k kept here_on;
                does = λ k kept. goes k (does_kept s p before.kinds nodes node n ns (if_scalar (type_of e)) e here old mid.store.locations.items made is refl refl before.fit fits.0 ev on bits v runs0 k kept);
                some = λ k some. goes k (does_some s p before.kinds nodes node n ns (if_scalar (type_of e)) e here old mid.store.locations.items made is refl refl before.fit fits.0 ev on bits v runs0 k some);
              });
        }));
  }
    where
      of_that : (e : Exp) → type_of e ≡ t → (bits : List Bool) (v : ℕ → Bool) → Runs ns1 (bit_at bits) v → (k : Kept) (c : Cell)
          → GoodFor v made.ends p (if_scalar (type_of e)) (type_of e) made.val c
          → Does v mid.store.locations.items made.ends (cells_in (reads s p bits k) (type_of e) c) mid.store.locations.items made.ends (HaveCells v given.cells.items)
      of_that e typed bits v runs k c =
          subst (λ (u : Ty). GoodFor v made.ends p (if_scalar u) u made.val c
          → Does v mid.store.locations.items made.ends (cells_in (reads s p bits k) u c) mid.store.locations.items made.ends (HaveCells v given.cells.items)) (sym typed)
          (λ good. gives.does (bit_at bits) v runs made.ends bits k.temps 0 c good)
