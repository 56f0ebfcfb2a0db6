-- A run that begins where a gate holds.
use Rattle.std.proofs.Common.{◌≡◌, ℕ, Bool, true, false, None, List, [], refl, sym, ◌∙◌, ap, subst}
use Rattle.bit_net.specs.declared.nodes.Node.{Node}
use Rattle.bit_net.specs.Runs.{Runs, Grown}
use Rattle.gl_store.specs.declared.values.Val.{Val}
use Rattle.gl_store.specs.declared.stores.Location.{Location}
use Rattle.gl_store.specs.Meets.{MeetsAll}
use Rattle.gate_runs.specs.declared.ends.Ends.{Ends}
use Rattle.gate_runs.specs.Standing.{Standing, On, Over}
use Rattle.gate_runs.specs.Stands.{Any, HasBegun, Stands}
use Rattle.gate_places.specs.Places.{GoodFor}
use Rattle.run_store.specs.Concrete.{Cell}
use Rattle.sc_world.specs.Tree.{Ty, Exp, type_of}
use Rattle.sc_world.specs.Layout.{Layout}
use Rattle.sc_world.specs.World.{World}
use Rattle.sc_world.specs.Eval.{Want, Value, Place'}
use Rattle.flow_graph.specs.Conditions as graph
use Rattle.flow_types.specs.Kinds as flow
use Rattle.expr_fits.specs.declared.around.Around.{Around}
use Rattle.expr_fits.specs.Around.{layout_of, temps_of}
use Rattle.tr_walk.specs.Evaled.{IsEvaled, IsFor, Leaves}
use Rattle.expr_fits.specs.Temps.{AreKept}
use Rattle.tr_walk.specs.Walks.{Walks}

good_for : (v : ℕ → Bool) (g : Ends) (p : Layout) (want : Want) (t : Ty) (x : Val) (c : Cell) → GoodFor v g p want t x c → IsFor v (v g.live.at) p want t x c
good_for v g p Value t x c h = h
good_for v g p Place' t x c h = h

leaves : (v : ℕ → Bool) (l : List Location) (g : Ends) (p : Layout) (want : Want) (t : Ty) (x : Val) (s : Standing Cell) → Stands v l g (GoodFor v g p want t x) s
    → Leaves v l (IsFor v (v g.live.at) p want t x) (record { val = x; live = g.live; asides = g.asides }) s
leaves v l g p want t x s h =
    record {
      store = h.store;
      live = h.tells.live;
      asides = h.tells.asides;
      given = h.given;
      good = good_for v g p want t x h.given h.good;
      is = h.is;
    }

begins_on : (v choice : ℕ → Bool) (ns : List Node) (begins : ℕ) (l : List Location) (g : Ends) (w : World) → Runs ns choice v → HasBegun ns begins g
    → MeetsAll v l w.places → v begins ≡ true → Stands v l g (Any {A = Unit {0}}) (On tt w)
begins_on v choice ns begins l g w runs begun met on =
    record {
      store = met;
      tells =
          record {
            live = ap v begun.live ∙ on;
            asides = λ k low. begun.asides choice v runs k;
            bads = λ k low. begun.bads choice v runs k;
          };
      given = tt;
      good = tt;
      is = refl;
    }

begins_off : (v choice : ℕ → Bool) (ns : List Node) (begins : ℕ) (l : List Location) (g : Ends) (w : World) → Runs ns choice v → HasBegun ns begins g
    → MeetsAll v l w.places → v begins ≡ false → Stands v l g (Any {A = Unit {0}}) (Over None w)
begins_off v choice ns begins l g w runs begun met off =
    record {
      store = met;
      tells =
          record {
            live = ap v begun.live ∙ off;
            asides = λ k low. begun.asides choice v runs k;
            bads = λ k low. begun.bads choice v runs k;
          };
      given = tt;
      good = tt;
      is = tt;
    }

pub is_evaled : (a : Around) (n1 n2 : List Node) (want : Want) (e : Exp) (begins : ℕ) (l0 l1 : List Location) (g0 g1 : Ends) (x : Val) → Grown n1 n2
    → HasBegun n1 begins g0 → Walks a n2 want e l0 l1 g0 g1 x → IsEvaled a n2 want e begins l0 l1 (record { val = x; live = g1.live; asides = g1.asides })
is_evaled a n1 n2 want e begins l0 l1 g0 g1 x grown begun h =
    record {
      below = h.below;
      kind = h.kind;
      live = h.ends.live;
      asides = h.ends.asides;
      each = h.ends.each;
      top = h.top;
      same = h.same;
      does = λ choice v runs k fits bits cells turn kept w met on.
          leaves v l1 g1 (layout_of a) want (type_of e) x _
          ((h.does choice v runs k fits bits cells turn (kept_from choice v k cells kept)).does (On tt w)
          (begins_on v choice n1 begins l0 g0 w (grown.runs choice v runs) begun met on));
      rests = λ choice v runs k fits cells kept w met off.
          leaves v l1 g1 (layout_of a) want (type_of e) x _
          ((h.does choice v runs k fits [] cells 0 (kept_from choice v k cells kept)).does (Over None w)
          (begins_off v choice n1 begins l0 g0 w (grown.runs choice v runs) begun met off));
    }
  where
    kept_from : (choice v : ℕ → Bool) (k : flow.Kinds) (cells : List Cell) → AreKept v (v begins) (layout_of a) k.temps (temps_of a) cells (graph.temps_of e)
        → AreKept v (v g0.live.at) (layout_of a) k.temps (temps_of a) cells (graph.temps_of e)
    kept_from choice v k cells kept = subst (λ b. AreKept v b (layout_of a) k.temps (temps_of a) cells (graph.temps_of e)) (ap v (sym begun.live)) kept
