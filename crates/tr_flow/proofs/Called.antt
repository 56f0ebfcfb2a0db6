-- The gates of a call are those of a step that keeps it.
use Rattle.std.proofs.Common.{◌≡◌, ℕ, zero, suc, ◌+◌, ◌<◌, ◌≤◌, nat_eq, Bool, true, false, ◌||◌, List, [], ◌∷◌, ◌++◌, length, map, slice_index_or, refl, sym, ◌∙◌, ap, subst, arith, eq-eqb}
use Rattle.std.proofs.lemmas.Bool.{true≢false}
use Rattle.std.specs.List.{All}
use Rattle.bit_net.specs.declared.nodes.Node.{Node}
use Rattle.bit_net.specs.declared.nodes.Gate.{Gate}
use Rattle.bit_net.specs.Circuit.{input_count}
use Rattle.bit_net.specs.Runs.{Grown, Gives}
use Rattle.fsm_spec.specs.Table.{IsWhole}
use Rattle.gl_store.specs.declared.values.Val.{Val}
use Rattle.gl_store.specs.declared.values.Val.TheVariants as val
use Rattle.gl_store.specs.declared.stores.Location.{Location}
use Rattle.gl_store.specs.declared.stores.Store.{Store}
use Rattle.gl_store.specs.Meets.{val_kind, val_top}
use Rattle.gl_store.specs.Steps.{IsSame}
use Rattle.gate_runs.specs.declared.ends.Ends.{Ends}
use Rattle.gate_runs.specs.Stands.{AreEnds, HasBegun}
use Rattle.gate_objects.specs.Escapes.{AreBelow, MeetsEach}
use Rattle.gate_places.specs.Places.{wanted_kind}
use Rattle.run_store.specs.Concrete.{Cell}
use Rattle.run_laws.specs.Fits.{CallFits, IsFirst}
use Rattle.sc_world.specs.Tree.{Ty, is_void, Exps, NoExps, Exps', type_of}
use Rattle.sc_world.specs.Source.{Source, Effect, Operation, Try, Allocate, Release, Ends as EndsProgram, Expect, Known, Unknown}
use Rattle.sc_world.specs.Layout.{Layout}
use Rattle.sc_world.specs.Eval.{Value}
use Rattle.flow_graph.specs.Nodes.{Calling}
use Rattle.flow_graph.specs.Conditions.{InTemp, among}
use Rattle.flow_graph.specs.Growing.{numbers}
use Rattle.flow_types.specs.Kinds as flow
use Rattle.flow_types.specs.Nodes.{KeepArguments}
use Rattle.flow_turns.specs.declared.temps.Temps.{Temps}
use Rattle.flow_turns.specs.Kept.{AreTemps, kind_for, val_at, vals_top}
use Rattle.flow_keeps.specs.Calls.{Calls, MeetEach}
use Rattle.flow_gates.specs.Steps.{CanCall, HaveTheirKinds, IsStepMade, IsStored}
use Rattle.tr_call.specs.Calls.{DoesCall, FirstFits, IsReady, effect_of, first_kind}
use Rattle.tr_flow.specs.Arguments.{AreOf}
use Rattle.tr_flow.proofs.Ready.{began_grown}

-- Values of temps.

-- one more number, and the value of its temp
numbers_more : (k n : ℕ) → numbers k (suc n) ≡ numbers k n ++ (k + n) ∷ []
numbers_more k zero = ap (λ (m : ℕ). m ∷ []) (omega arith)
numbers_more k (suc n) =
    ap (λ (ms : List ℕ). k ∷ ms) (numbers_more (k + 1) n ∙ ap (λ (m : ℕ). numbers (k + 1) n ++ m ∷ []) (omega arith))

of_more : (t : Temps) (ns : List ℕ) (xs : List Val) (n : ℕ) (x : Val) → AreOf t ns xs → IsSame (val_at t n) x → AreOf t (ns ++ n ∷ []) (xs ++ x ∷ [])
of_more t [] [] n x are is = (is, tt)
of_more t (m ∷ ns) (y ∷ xs) n x are is = (are.0, of_more t ns xs n x are.1 is)
of_more t [] (y ∷ xs) n x are is = absurd are
of_more t (m ∷ ns) [] n x are is = absurd are

pub one_more : (t : Temps) (k n : ℕ) (xs : List Val) (x : Val) → AreOf t (numbers k n) xs → IsSame (val_at t (k + n)) x
    → AreOf t (numbers k (n + 1)) (xs ++ x ∷ [])
one_more t k n xs x are is =
    let next : n + 1 ≡ suc n = omega arith in
    subst (λ (ms : List ℕ). AreOf t ms (xs ++ x ∷ [])) (sym (ap (numbers k) next ∙ numbers_more k n)) (of_more t (numbers k n) xs (k + n) x are is)

-- the values, as a slice of them
pub of_slice : (t : Temps) (ns : List ℕ) (xs ys : List Val) → xs ≡ ys → AreOf t ns ys → AreOf t ns xs
of_slice t ns xs ys same are = subst (λ (zs : List Val). AreOf t ns zs) (sym same) are

val_low : (xs : List Val) (n : ℕ) → val_top (slice_index_or xs n val.Unit) ≤ vals_top xs
unfolding vals_top
val_low [] n = omega arith
val_low (x ∷ xs) zero = omega arith
val_low (x ∷ xs) (suc n) = omega (arith, val_low xs n)

low_each : (most : ℕ) (x : Val) (xs : List Val) → val_top x ≤ most → All (λ (y : Val). val_top y ≤ most) xs → All (λ (y : Val). val_top y ≤ most) (x ∷ xs)
low_each most x xs low rest zero d there = low
low_each most x xs low rest (suc k) d there = rest k d (omega (arith, there))

are_below : (ns : List Node) (t : Temps) (ms : List ℕ) (xs : List Val) → vals_top t.vals.items ≤ length ns → AreOf t ms xs → AreBelow ns xs
are_below ns t [] [] top are = λ k d low. absurd (omega (arith, low))
are_below ns t (m ∷ ms) (x ∷ xs) top are =
    low_each (length ns) x xs (let same = are.0.top in let less = val_low t.vals.items m in omega arith) (are_below ns t ms xs top are.1)
are_below ns t [] (x ∷ xs) top are = absurd are
are_below ns t (m ∷ ms) [] top are = absurd are

meets_each : (v : ℕ → Bool) (t : Temps) (ms : List ℕ) (xs : List Val) (cs : List Cell) → AreOf t ms xs → MeetEach v t ms cs → MeetsEach v xs cs
meets_each v t [] [] [] are met = tt
meets_each v t (m ∷ ms) (x ∷ xs) (c ∷ cs) are met = (are.0.value v c met.0, meets_each v t ms xs cs are.1 met.1)
meets_each v t [] [] (c ∷ cs) are met = absurd met
meets_each v t (m ∷ ms) (x ∷ xs) [] are met = absurd met
meets_each v t [] (x ∷ xs) cs are met = absurd are
meets_each v t (m ∷ ms) [] cs are met = absurd are

-- The first argument.

or_true : (a b : Bool) → a ≡ true → a || b ≡ true
or_true true b e = refl
or_true false b e = absurd (true≢false (sym e))

first_named : (n : ℕ) (ns : List ℕ) → among (InTemp n) (map InTemp (n ∷ ns)) ≡ true
first_named n ns = or_true (nat_eq n n) (among (InTemp n) (map InTemp ns)) (eq-eqb n n refl)

first_of : (s : Source) (p : Layout) (k : flow.Kinds) (t : Temps) (u : Ty) (es : Exps) (ns : List ℕ) (xs : List Val) → KeepArguments s p k ns es
    → HaveTheirKinds s k t ns → AreOf t ns xs → IsFirst es u → is_void u ≡ false → first_kind xs ≡ wanted_kind s Value u
first_of s p k t u (Exps' e es) (n ∷ ns) (x ∷ xs) keep have are is some =
    are.0.kind
    ∙ subst (λ (z : Ty). is_void z ≡ false → val_kind (val_at t n) ≡ kind_for s (flow.ValueOf z)) is
    (have n (first_named n ns) (flow.ValueOf (type_of e)) keep.0) some
first_of s p k t u NoExps ns xs keep have are is some = absurd is
first_of s p k t u (Exps' e es) [] xs keep have are is some = absurd keep
first_of s p k t u (Exps' e es) (n ∷ ns) [] keep have are is some = absurd are

first_by : (s : Source) (p : Layout) (k : flow.Kinds) (t : Temps) (u : Ty) (es : Exps) (ns : List ℕ) (xs : List Val) (x : Effect) → KeepArguments s p k ns es
    → HaveTheirKinds s k t ns → AreOf t ns xs → CallFits es u x → FirstFits s u xs x
first_by s p k t u es ns xs Expect keep have are fits = first_of s p k t u es ns xs keep have are fits
first_by s p k t u es ns xs (Operation n) keep have are fits = tt
first_by s p k t u es ns xs (Try a b) keep have are fits = tt
first_by s p k t u es ns xs (Allocate zeroed) keep have are fits = tt
first_by s p k t u es ns xs Release keep have are fits = tt
first_by s p k t u es ns xs EndsProgram keep have are fits = tt
first_by s p k t u es ns xs (Known n) keep have are fits = tt
first_by s p k t u es ns xs Unknown keep have are fits = tt

module _ (s : Source) (p : Layout) (t : Temps) (c : Calling) (ns : List ℕ) (xs : List Val) (are : AreOf t ns xs) where
  pub first : CanCall s p t c ns → FirstFits s c.result xs (effect_of p c)
  first h = first_by s p h.kinds t c.result h.fits.0 ns xs (effect_of p c) h.fits.1 h.have are h.fits.2

  pub ready : (gs : List Node) (store : Store) (g : Ends) → IsWhole s.machine → p.bits ≤ input_count gs → IsStored s p gs store → AreTemps gs t
      → AreEnds gs g → length g.bads.items ≡ length p.locations → IsReady s p gs xs store.locations.items g
  ready gs store g whole inputs stored temps ends each = record {
    whole = whole;
    inputs = inputs;
    store = stored.below;
    ends = ends;
    bads = each;
    below = are_below gs t ns xs temps.vals are;
  }

  pub calls : (n0 n1 : List Node) (l0 l1 : List Location) (on sure : Gate) (g0 g1 : Ends) (x : Val) → Grown n0 n1 → HasBegun n0 on.at g0
      → Gives n1 sure.at (λ choice v. true) → DoesCall s p n1 c xs l0 l1 g0 g1 x
      → Calls s p t n1 c ns l0 l1 (record { on = on; ends = g1; val = x; sure = sure })
  calls n0 n1 l0 l1 on sure g0 g1 x more began holds d = record {
    begun = g0;
    began = began_grown n0 n1 on.at g0 more began;
    kind = d.kind;
    same = d.same;
    usable = holds.value;
    does = λ bits few v runs cells met. d.does bits v runs few cells (meets_each v t ns xs cells are met);
  }

  pub made : (n0 n1 : List Node) (l0 : List Location) (store : Store) (on sure : Gate) (g0 g1 : Ends) (x : Val) → Grown n0 n1 → on.at < length n0
      → Gives n1 sure.at (λ choice v. true) → length g0.bads.items ≡ length p.locations → DoesCall s p n1 c xs l0 store.locations.items g0 g1 x
      → IsStepMade p n1 on store (record { on = on; ends = g1; val = x; sure = sure })
  made n0 n1 l0 store on sure g0 g1 x more low holds each d = record {
    is_made = record {
      on = (let longer = more.longer in omega arith);
      ends = d.ends;
      val = d.below;
      sure = holds.below;
      each = d.bads ∙ each;
    };
    began = refl;
    below = d.top;
  }
