-- The values are combined, and the result is assigned.
use Rattle.std.proofs.Common.{◌≡◌, ℕ, ◌+◌, ◌<◌, ◌≤◌, Bool, true, false, Option, Some, List, [], length, refl, sym, ◌∙◌, ap, subst, arith}
use Rattle.bit_net.specs.declared.nodes.Gate.{Gate}
use Rattle.bit_net.specs.declared.nodes.Node.{Node as Gates}
use Rattle.bit_net.specs.Runs.{Runs, Grown}
use Rattle.gl_sets.specs.declared.sets.Set.{Set as Sets}
use Rattle.gl_store.specs.declared.stores.Location.{Location}
use Rattle.gl_store.specs.declared.stores.Store.{Store}
use Rattle.gl_store.specs.declared.values.Val.{Val}
use Rattle.gl_store.specs.declared.values.Val.TheVariants as val
use Rattle.gl_store.specs.Meets.{Meets, locations_top, val_kind}
use Rattle.gate_changes.specs.Changes.{Combines}
use Rattle.gate_places.specs.Places.{DoesAssign, GoodFor, wanted_kind}
use Rattle.gate_runs.specs.declared.ends.Ends.{Ends}
use Rattle.gate_runs.specs.Standing.{Standing, On, Over, after}
use Rattle.gate_runs.specs.Stands.{AreEnds, Stands, Does, HasBegun, Any}
use Rattle.gate_runs.proofs.Bind.{bind}
use Rattle.run_store.specs.Concrete.{Cell}
use Rattle.run_laws.specs.Fits.{IsPlaceOf}
use Rattle.sc_world.specs.Tree.{Ty}
use Rattle.sc_world.specs.Source.{Source}
use Rattle.sc_world.specs.Layout.{Layout}
use Rattle.sc_world.specs.World.{World, Run, ◌>>=◌, bit_at}
use Rattle.sc_world.specs.Eval.{Want, Value, Place', combined, assign_value}
use Rattle.flow_graph.specs.Nodes.{Updating, in_tree, updated}
use Rattle.flow_types.specs.Kinds as flow
use Rattle.flow_turns.specs.declared.steps.Made.{Made}
use Rattle.flow_turns.specs.declared.temps.Temps.{Temps}
use Rattle.flow_turns.specs.Kept.{HasKind, val_at}
use Rattle.flow_turns.specs.Steps.{IsMade}
use Rattle.flow_keeps.specs.Evaluates.{IsUsable, IsReadAs, IsWanted, kind_of}
use Rattle.flow_keeps.specs.Updates.{Updates}
use Rattle.flow_keeps.proofs.Valued.{does_also}
use Rattle.flow_gates.specs.Steps.{IsStepMade}

-- A step goes on only where the run had come to it.
narrow : {A : Type 0} (v : ℕ → Bool) (l0 l1 : List Location) (e0 e1 : Ends) (m : Run A) (Good : A → Type 0) (s : Standing (Unit {0}))
    → Stands v l0 e0 (Any {A = Unit {0}}) s → Stands v l1 e1 Good (after s (λ u. m)) → v e1.live.at ≡ true → v e0.live.at ≡ true
narrow v l0 l1 e0 e1 m Good (On u w) h k live = h.tells.live
narrow v l0 l1 e0 e1 m Good (Over r w) h k live = absurd (let off : false ≡ true = sym k.tells.live ∙ live in cc)

-- One step behind another, which may ask that the run had come to the first one.
bind_narrow : {A B : Type 0} (v : ℕ → Bool) (l0 l1 l2 : List Location) (e0 e1 e2 : Ends) (m : Run A) (f : A → Run B) (Good : A → Type 0) (Fine : B → Type 0)
    → Does v l0 e0 m l1 e1 Good → ((v e1.live.at ≡ true → v e0.live.at ≡ true) → (a : A) → Good a → Does v l1 e1 (f a) l2 e2 Fine) → Does v l0 e0 (m >>= f) l2 e2 Fine
bind_narrow v l0 l1 l2 e0 e1 e2 m f Good Fine first next = record {
  does = λ s h. (bind v l0 l1 l2 e0 e1 e2 m f Good Fine first (next (narrow v l0 l1 e0 e1 m Good s h (first.does s h)))).does s h;
}

-- the kind of what is wanted, and what it is, in other words
kind_wanted : (s : Source) (want : Want) (t : Ty) (x : Val) → val_kind x ≡ wanted_kind s want t → HasKind s (kind_of want t) x
kind_wanted s Value t x e = λ some. e
kind_wanted s Place' t x e = λ some. e

as_wanted : (v : ℕ → Bool) (g : Ends) (p : Layout) (want : Want) (t : Ty) (x : Val) (c : Cell) → GoodFor v g p want t x c → IsWanted v g.live.at p (kind_of want t) x c
as_wanted v g p Value t x c h = h
as_wanted v g p Place' t x c h = h

began_grown : (ns ns' : List Gates) (on : ℕ) (g : Ends) → Grown ns ns' → HasBegun ns on g → HasBegun ns' on g
began_grown ns ns' on g more h = record {
  live = h.live;
  asides = λ choice v r k. h.asides choice v (more.runs choice v r) k;
  bads = λ choice v r k. h.bads choice v (more.runs choice v r) k;
}

module _ (s : Source) (p : Layout) (t : Temps) (ns0 ns1 ns2 : List Gates) (u : Updating) (want : Want) (at former right : ℕ) (x y : Val) (place : Sets) (before after : List Location)
    (begun ends : Ends) (on : Gate) (value made : Val) (sure : Gate) where
  pub updates : Grown ns0 ns1 → Grown ns1 ns2 → HasBegun ns0 on.at begun → val.Set place ≡ val_at t at → x ≡ val_at t former → y ≡ val_at t right
      → Combines s ns1 u.op u.works u.ctype x y begun ends value → (wish : Want) → wish ≡ want → DoesAssign s p ns2 ends wish u.ctype place value before after made
      → ((choice v : ℕ → Bool) → Runs ns2 choice v → IsUsable want v ends.live.at sure.at)
      → Updates s p t ns2 u want at former right before after (record { on = on; ends = ends; val = made; sure = sure })
  updates g1 g2 began is_at is_x is_y combines wish same assigned usable =
      let assigns = subst (λ (w : Want). DoesAssign s p ns2 ends w u.ctype place value before after made) same assigned in
      record {
        begun = begun;
        began = began_grown ns1 ns2 on.at begun g2 (began_grown ns0 ns1 on.at begun g1 began);
        kind = kind_wanted s want u.ctype made assigns.kind;
        same = assigns.same;
        usable = usable;
        does = λ bits few v runs q c d reads left old.
            (let first : Does v before begun (combined (in_tree s p bits 0) u.op u.works u.ctype c d) before ends (Meets v value) =
            combines.does (bit_at bits) v (g2.runs (bit_at bits) v runs) before p bits [] 0 c d
            (subst (λ (z : Val). Meets v z c) (sym is_x) left) (subst (λ (z : Val). Meets v z d) (sym is_y) old) in
            does_also v before after begun ends (updated s p bits u want q c d) (GoodFor v ends p want u.ctype made) (IsWanted v ends.live.at p (kind_of want u.ctype) made)
            (λ r. as_wanted v ends p want u.ctype made r)
            (bind_narrow v before before after begun ends ends (combined (in_tree s p bits 0) u.op u.works u.ctype c d) (λ r. assign_value (in_tree s p bits 0) want u.ctype q r)
            (Meets v value) (GoodFor v ends p want u.ctype made) first
            (λ live r good. assigns.does (bit_at bits) v runs bits [] 0 q r
            (subst (λ (z : Val). Meets v z q) (sym is_at) reads.0, λ goes. reads.1 (live goes)) good)));
      }

-- What was made is made of gates of the net.
module _ (s : Source) (p : Layout) (ns1 ns2 : List Gates) (want : Want) (u : Ty) (place : Sets) (before after : List Location) (ends : Ends) (on : Gate) (value made : Val) (sure : Gate) where
  pub step_made : Grown ns1 ns2 → on.at < length ns2 → AreEnds ns1 ends → length ends.bads.items ≡ length p.locations → DoesAssign s p ns2 ends want u place value before after made
      → sure.at < length ns2 → (stored : Store) → stored.locations.items ≡ after → IsStepMade p ns2 on stored (record { on = on; ends = ends; val = made; sure = sure })
  step_made g low are each assigns sure_low stored is = record {
    is_made = record {
      on = low;
      ends = record {
        live = (let below = are.live in let longer = g.longer in omega arith);
        asides = (let below = are.asides in let longer = g.longer in omega arith);
        bads = (let below = are.bads in let longer = g.longer in omega arith);
        each = are.each;
      };
      val = assigns.below;
      sure = sure_low;
      each = each;
    };
    began = refl;
    below = subst (λ ls. locations_top ls ≤ length ns2) (sym is) assigns.top;
  }
