-- The gates of an expression are those of a step that keeps it.
use Rattle.std.proofs.Common.{◌≡◌, ℕ, ◌<◌, ◌≤◌, ◌^◌, Bool, true, List, length, refl, sym, ◌∙◌, ap, subst, arith}
use Rattle.bit_net.specs.declared.nodes.Node.{Node}
use Rattle.bit_net.specs.declared.nodes.Gate.{Gate}
use Rattle.bit_net.specs.Runs.{Runs, Grown}
use Rattle.gl_store.specs.declared.values.Val.{Val}
use Rattle.gl_store.specs.declared.stores.Location.{Location}
use Rattle.gl_store.specs.declared.stores.Store.{Store}
use Rattle.gate_runs.specs.declared.ends.Ends.{Ends}
use Rattle.gate_runs.specs.Stands.{AreEnds, Does, HasBegun}
use Rattle.run_store.specs.Concrete.{Cell}
use Rattle.sc_world.specs.Tree.{Ty, Exp, type_of}
use Rattle.sc_world.specs.Source.{Source}
use Rattle.sc_world.specs.Layout.{Layout}
use Rattle.sc_world.specs.World.{Run}
use Rattle.sc_world.specs.Eval.{Want, Value, Place'}
use Rattle.flow_graph.specs.Conditions.{temps_of}
use Rattle.flow_types.specs.Kinds as flow
use Rattle.flow_turns.specs.declared.temps.Temps.{Temps}
use Rattle.flow_turns.specs.Kept.{AreTemps, val_at}
use Rattle.flow_turns.specs.Kept as kept
use Rattle.flow_keeps.specs.Evaluates.{AreRead, Evaluates, IsReadAs, IsUsable, IsWanted, kind_of}
use Rattle.flow_gates.specs.Steps.{CanEvaluate, HaveTheirKinds, IsStepMade, IsStored}
use Rattle.gate_places.specs.Places.{GoodFor}
use Rattle.expr_fits.specs.declared.around.Around.{Around}
use Rattle.expr_fits.specs.Around as around
use Rattle.expr_fits.specs.Fits.{CanWalk, constants_fit}
use Rattle.expr_fits.specs.Temps as temp
use Rattle.tr_walk.specs.Walks.{IsReady, Walks}
use Rattle.tr_flow.proofs.Ready.{began_grown, laid_of, same_top}

-- Kinds of temps, in both words.

temp_kind : (s : Source) (k : flow.Kind) (x : Val) → kept.HasKind s k x → temp.HasKind s k x
temp_kind s (flow.ValueOf t) x h = h
temp_kind s (flow.PlaceOf t) x h = h

have_kinds : (s : Source) (k : flow.Kinds) (t : Temps) (named : List ℕ) → HaveTheirKinds s k t named → temp.HaveKinds s k.temps t.vals.items named
have_kinds s k t named have = λ n is x there. temp_kind s x (val_at t n) (have n is x there)

made_kind : (s : Source) (want : Want) (t : Ty) (x : Val) → temp.HasKindFor s want t x → kept.HasKind s (kind_of want t) x
made_kind s Value t x h = h
made_kind s Place' t x h = h

-- Cells of temps, in both words.

read_kept : (v : ℕ → Bool) (on : Bool) (p : Layout) (k : flow.Kind) (x : Val) (c : Cell) → IsReadAs v on p k x c → temp.IsKept v on p k x c
read_kept v on p (flow.ValueOf t) x c h = h
read_kept v on p (flow.PlaceOf t) x c h = h

are_kept : (v : ℕ → Bool) (on : Bool) (p : Layout) (k : flow.Kinds) (t : Temps) (cells : List Cell) (named : List ℕ)
    → AreRead v on p k t cells named → temp.AreKept v on p k.temps t.vals.items cells named
are_kept v on p k t cells named h = λ n is x there. read_kept v on p x (val_at t n) _ (h n is x there)

-- What is wanted, in both words.
wanted_does : (v : ℕ → Bool) (p : Layout) (want : Want) (t : Ty) (x : Val) (l0 l1 : List Location) (g0 g1 : Ends) (m : Run Cell)
    → Does v l0 g0 m l1 g1 (GoodFor v g1 p want t x) → Does v l0 g0 m l1 g1 (IsWanted v g1.live.at p (kind_of want t) x)
wanted_does v p Value t x l0 l1 g0 g1 m h = h
wanted_does v p Place' t x l0 l1 g0 g1 m h = h

module _ (a : Around) (t : Temps) (same : around.temps_of a ≡ t.vals.items) where
  pub ready : (ns : List Node) (store : Store) (g : Ends) → length (around.layout_of a).locations < 2 ^ 32 → around.looked_in a ≡ around.layout_of a
      → IsStored (around.source_of a) (around.layout_of a) ns store → AreTemps ns t → AreEnds ns g → IsReady a ns store.locations.items g
  ready ns store g few is stored temps ends = record {
    few = subst (λ (q : Layout). length q.locations < 2 ^ 32) (sym is) few;
    same = is;
    laid = laid_of (around.source_of a) (around.layout_of a) store.locations.items stored.same;
    store = stored.below;
    ends = ends;
    temps = subst (λ n. n ≤ length ns) (sym (ap temp.temps_top same ∙ same_top t.vals.items)) temps.vals;
  }

  can_want : (want : Want) (e : Exp) → CanEvaluate (around.source_of a) (around.layout_of a) t want e → constants_fit (around.source_of a) e ≡ true
      → CanWalk a want e
  can_want want e h constants = record {
    kept = h.kinds;
    have = subst (λ (xs : List Val). temp.HaveKinds (around.source_of a) h.kinds.temps xs (temps_of e)) (sym same)
        (have_kinds (around.source_of a) h.kinds t (temps_of e) h.have);
    fits = h.fits;
    plain = h.plain;
    constants = constants;
  }

  -- w is what is wanted, in the words of runs
  pub can : (w want : Want) (e : Exp) → w ≡ want → CanEvaluate (around.source_of a) (around.layout_of a) t want e → constants_fit (around.source_of a) e ≡ true
      → CanWalk a w e
  can w want e is h constants = subst (λ (z : Want). CanWalk a z e) (sym is) (can_want want e h constants)

  evaluates_want : (n0 n1 : List Node) (want : Want) (e : Exp) (l0 l1 : List Location) (on sure : Gate) (g0 g1 : Ends) (x : Val) → Grown n0 n1
      → HasBegun n0 on.at g0 → ((choice v : ℕ → Bool) → Runs n1 choice v → IsUsable want v g1.live.at sure.at)
      → Walks a n1 want e l0 l1 g0 g1 x
      → Evaluates (around.source_of a) (around.layout_of a) t n1 want e l0 l1 (record { on = on; ends = g1; val = x; sure = sure })
  evaluates_want n0 n1 want e l0 l1 on sure g0 g1 x more began usable walks = record {
    begun = g0;
    began = began_grown n0 n1 on.at g0 more began;
    kind = made_kind (around.source_of a) want (type_of e) x walks.kind;
    same = walks.same;
    usable = usable;
    does = λ choice v runs k fits bits cells read.
        wanted_does v (around.layout_of a) want (type_of e) x l0 l1 g0 g1 _
        (walks.does choice v runs k fits bits cells 0
        (subst (λ (xs : List Val). temp.AreKept v (v g0.live.at) (around.layout_of a) k.temps xs cells (temps_of e)) (sym same)
        (are_kept v (v g0.live.at) (around.layout_of a) k t cells (temps_of e) read)));
  }

  pub evaluates : (n0 n1 : List Node) (w want : Want) (e : Exp) (l0 l1 : List Location) (on sure : Gate) (g0 g1 : Ends) (x : Val) → w ≡ want → Grown n0 n1
      → HasBegun n0 on.at g0 → ((choice v : ℕ → Bool) → Runs n1 choice v → IsUsable want v g1.live.at sure.at)
      → Walks a n1 w e l0 l1 g0 g1 x
      → Evaluates (around.source_of a) (around.layout_of a) t n1 want e l0 l1 (record { on = on; ends = g1; val = x; sure = sure })
  evaluates n0 n1 w want e l0 l1 on sure g0 g1 x is more began usable walks =
      evaluates_want n0 n1 want e l0 l1 on sure g0 g1 x more began usable (subst (λ (z : Want). Walks a n1 z e l0 l1 g0 g1 x) is walks)

  pub made : (n0 n1 : List Node) (want : Want) (e : Exp) (l0 : List Location) (store : Store) (on sure : Gate) (g0 g1 : Ends) (x : Val) → Grown n0 n1
      → on.at < length n0 → sure.at < length n1 → length g0.bads.items ≡ length (around.layout_of a).locations
      → Walks a n1 want e l0 store.locations.items g0 g1 x
      → IsStepMade (around.layout_of a) n1 on store (record { on = on; ends = g1; val = x; sure = sure })
  made n0 n1 want e l0 store on sure g0 g1 x more low sure_low each walks = record {
    is_made = record {
      on = (let longer = more.longer in omega arith);
      ends = walks.ends;
      val = walks.below;
      sure = sure_low;
      each = walks.bads ∙ each;
    };
    began = refl;
    below = walks.top;
  }
