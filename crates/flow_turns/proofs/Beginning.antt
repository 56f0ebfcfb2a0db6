-- Where the walk begins: nothing is kept, and it waits at the first node.
use Rattle.std.proofs.Common.{◌≡◌, ℕ, zero, suc, ◌<◌, ◌≤◌, nat_eq, Bool, true, false, Some, List, [], ◌∷◌, ◌++◌, slice_index_or, refl, sym, ◌∙◌, ap, subst, arith}
use Rattle.bit_net.specs.declared.nodes.Gate.{Gate}
use Rattle.bit_net.specs.declared.nodes.Node.{Node as Gates}
use Rattle.bit_net.specs.Runs.{Runs, Always}
use Rattle.gate_inits.specs.Inits.{Reading, readings_top}
use Rattle.gate_inits.specs.Inits.{HaveCells}
use Rattle.gate_runs.specs.Stands.{told, gates_top}
use Rattle.gl_store.specs.declared.stores.Store.{Store}
use Rattle.gl_store.specs.declared.values.Val.{Val}
use Rattle.gl_store.specs.declared.values.Val.TheVariants as val
use Rattle.gl_store.specs.Meets.{Meets}
use Rattle.gl_store.specs.Steps.{IsSame}
use Rattle.run_store.specs.Concrete.{Nothing, blank}
use Rattle.sc_world.specs.Layout.{Layout}
use Rattle.sc_world.specs.World.{bit_at, kind_of_type, entry_world}
use Rattle.flow_graph.specs.Nodes.{nothing_kept, temp, slot}
use Rattle.flow_graph.specs.Conditions.{InTemp, InSlot, kept_first}
use Rattle.flow_types.specs.Kinds as flow
use Rattle.flow_ways.specs.declared.ways.Ways.{Ways}
use Rattle.flow_ways.specs.Held.{held}
use Rattle.flow_ends.specs.declared.fates.Fates.{Fates}
use Rattle.flow_ends.specs.Fates.{NoFates}
use Rattle.flow_stages.specs.Stage.{At}
use Rattle.flow_turns.specs.declared.temps.Slot.{Slot}
use Rattle.flow_turns.specs.declared.temps.Temps.{Temps}
use Rattle.flow_turns.specs.Kept.{is_kept, cells_at, vals_top, slots_top, HaveSome}
use Rattle.flow_turns.specs.Ends.{AreBlank, AreUnkept, Begins}

-- Lists that are made.

pub told_more : (v : ℕ → Bool) (gs : List Gate) (g : Gate) → v g.at ≡ false → ((k : ℕ) → told v gs k ≡ false)
    → (k : ℕ) → told v (gs ++ g ∷ []) k ≡ false
unfolding told
told_more v [] g never none zero = never
told_more v [] g never none (suc k) = refl
told_more v (x ∷ gs) g never none zero = none zero
told_more v (x ∷ gs) g never none (suc k) = told_more v gs g never (λ j. none (suc j)) k

pub top_more : (gs : List Gate) (g : Gate) (n : ℕ) → g.at < n → gates_top gs ≤ n → gates_top (gs ++ g ∷ []) ≤ n
unfolding gates_top
top_more [] g n low top = omega (arith, low)
top_more (x ∷ gs) g n low top = omega (arith, top, top_more gs g n low (omega (arith, top)))

pub told_none : (v : ℕ → Bool) (k : ℕ) → told v [] k ≡ false
unfolding told
told_none v k = refl

pub top_none : gates_top [] ≡ 0
unfolding gates_top
top_none = refl

pub vals_none : vals_top [] ≡ 0
unfolding vals_top
vals_none = refl

pub vals_more : (xs : List Val) → vals_top xs ≡ 0 → vals_top (xs ++ val.Unit ∷ []) ≡ 0
unfolding vals_top
vals_more [] e = refl
vals_more (x ∷ xs) e = (let rest = vals_more xs (omega arith) in omega arith)

pub unit_more : (xs : List Val) → ((m : ℕ) → slice_index_or xs m val.Unit ≡ val.Unit) → (m : ℕ) → slice_index_or (xs ++ val.Unit ∷ []) m val.Unit ≡ val.Unit
unit_more [] none zero = refl
unit_more [] none (suc m) = refl
unit_more (x ∷ xs) none zero = none zero
unit_more (x ∷ xs) none (suc m) = unit_more xs (λ j. none (suc j)) m

pub flag_more : (xs : List Bool) → ((m : ℕ) → slice_index_or xs m false ≡ false) → (m : ℕ) → slice_index_or (xs ++ false ∷ []) m false ≡ false
flag_more [] none zero = refl
flag_more [] none (suc m) = refl
flag_more (x ∷ xs) none zero = none zero
flag_more (x ∷ xs) none (suc m) = flag_more xs (λ j. none (suc j)) m

pub blank_more : (xs : List Slot) (x : Slot) → AreBlank xs → x.cells.items ≡ [] → AreBlank (xs ++ x ∷ [])
blank_more [] x h e = (e, tt)
blank_more (y ∷ xs) x h e = (h.0, blank_more xs x h.1 e)

no_cells : (xs : List Slot) (m : ℕ) → AreBlank xs → cells_at xs m ≡ []
no_cells [] m h = refl
no_cells (x ∷ xs) zero h = h.0
no_cells (x ∷ xs) (suc m) h = no_cells xs m h.1

two_sides : (b : Bool) → b ≡ false → b ≡ true → ⊥
two_sides true e f = cc
two_sides false e f = cc

no_temp : (m : ℕ) → temp nothing_kept m ≡ Nothing
no_temp m = refl

-- nothing is kept, and each temp is nothing
some_none : (v : ℕ → Bool) (p : Layout) (kinds : List flow.Kind) (ns : List Gates) (choice : ℕ → Bool) (temps slots : ℕ) (t : Temps) → Runs ns choice v → AreUnkept ns temps slots t
    → HaveSome v p kinds t nothing_kept
some_none v p kinds ns choice temps slots t r h = record {
  meets = λ m. subst (λ (x : Val). Meets v x Nothing) (sym (h.vals m)) tt;
  place = λ m u is sure. absurd (two_sides (told v t.sure.items m) (h.sure choice v r m) sure);
  cells = λ m. subst (λ (cs : List Reading). HaveCells v cs (slot nothing_kept m)) (sym (no_cells t.slots.items m h.blank)) (tt, omega arith);
}

pub begun : (ns : List Gates) (store : Store) (b given : Val) (locations temps slots : ℕ) (w : Ways) (f : Fates) (t : Temps)
    → Always ns (λ choice v. (q : ℕ) → held v w.waits.items q ≡ nat_eq 0 q) → NoFates ns locations f → AreUnkept ns temps slots t → IsSame b given
    → Begins ns store b locations temps slots (record { store = store; temps = t; ways = w; fates = f; result = given; blank = b })
begun ns store b given locations temps slots w f t ways fates unkept same = record {
  at = λ s p k nodes fit can entry is_blank count each_temp each_slot. record {
    kinds = k;
    fit = fit;
    shape = record {
      locations = fates.are.each_bad ∙ sym count;
      kinds = entry.kinds;
      temps = record {
        count = unkept.many_temps ∙ sym each_temp;
        slots = unkept.many_slots ∙ sym each_slot;
        each = λ m kind is kept. absurd (two_sides (is_kept t m) (unkept.kept m) kept);
      };
      result = same.kind ∙ is_blank.same;
      blank = is_blank;
    };
    tells = λ bits few v runs.
        (let none = fates.none (bit_at bits) v runs in
        let blank_is = is_blank.value (bit_at bits) v runs in
        record {
          stage = At 0 nothing_kept (entry_world s p bits) (record {
            behind = omega arith;
            within = can.some;
            is = refl;
            none = record { over = none.over; bad = λ l low. none.bads l; touched = λ l low. none.touched l };
            one = λ q low. ways.holds (bit_at bits) v runs q;
            store = entry.meets bits few v runs;
            temps = record {
              temps = λ m free. absurd (two_sides (kept_first (InTemp m) 0 nodes 0) free (can.kept (InTemp m)));
              slots = λ m free. absurd (two_sides (kept_first (InSlot m) 0 nodes 0) free (can.kept (InSlot m)));
            };
          });
          other = nothing_kept;
          some = some_none v p k.temps ns (bit_at bits) temps slots t runs unkept;
          given = blank (kind_of_type s (Some s.result));
          gives = same.value v (blank (kind_of_type s (Some s.result))) blank_is;
        });
  };
}

pub blank_top : (xs : List Slot) → AreBlank xs → slots_top xs ≡ 0
unfolding slots_top readings_top
blank_top [] h = refl
blank_top (x ∷ xs) h = (let rest = blank_top xs h.1 in let first = ap readings_top h.0 in omega arith)
