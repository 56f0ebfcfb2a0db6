-- What becomes of the objects of parameters: of one by the choice, and of all one after the other.
use Rattle.std.proofs.Common.{◌≡◌, ℕ, zero, suc, ◌+◌, ◌<◌, ◌≤◌, nat_eq, Bool, true, false, if◌then◌else◌, List, [], ◌∷◌, ◌++◌, length, take, get_or, slice_index_or, Result, Ok, Err, inl, refl, sym, ◌∙◌, ap, subst, arith}
use Rattle.std.specs.Prelude.{Option, Some, None}
use Rattle.std.proofs.lemmas.Bool.{ne_eqb}
use Rattle.std.proofs.lemmas.List.{take_more, take_all}
use Rattle.bit_net.specs.declared.nodes.Node.{Node}
use Rattle.bit_net.specs.Runs.{Grown, Always}
use Rattle.gl_sets.specs.declared.pairs.Pair.{Pair}
use Rattle.gl_sets.specs.declared.sets.Set.{Set as Sets}
use Rattle.gl_sets.specs.Guards.{Points}
use Rattle.gl_sets.specs.Sets.{IsJoin}
use Rattle.gl_store.specs.declared.values.Val.{Val}
use Rattle.gl_store.specs.declared.values.Val.TheVariants.{Set}
use Rattle.gl_store.specs.declared.stores.Location.{Location}
use Rattle.gl_store.specs.Meets.{Meets, locations_top}
use Rattle.run_store.specs.Concrete.{Cell, Pointer}
use Rattle.sum_rows.specs.declared.row.Item.{Item}
use Rattle.sum_rows.specs.declared.row.Item.TheVariants as item
use Rattle.sum_rows.specs.declared.row.ItemRows.{ItemRows}
use Rattle.sum_rows.specs.declared.row.State.{State}
use Rattle.sum_rows.specs.declared.row.State.TheVariants as state
use Rattle.sc_world.specs.Layout.{Layout, spot_at}
use Rattle.sc_world.specs.World.{World, Ended, Env, ◌>>=◌, bit_at, done, goes_on, null, number_at, target_of}
use Rattle.sc_world.specs.Known.{count_items, escape, escape_at, free, free_at, is_lock, is_param, param_acts, param_effect, param_state, params_act, spot_behind}
use Rattle.gate_runs.specs.declared.ends.Ends.{Ends}
use Rattle.gate_runs.specs.Stands.{Does, Any}
use Rattle.gate_runs.proofs.Bind.{bind, does_done}
use Rattle.gate_steps.proofs.Known.{does_same}
use Rattle.gate_places.specs.Places.{env_of}
use Rattle.gate_entry.specs.Entry.{IsChosenNumber}
use Rattle.gate_acts.specs.Acts.{IsPointerOf}
use Rattle.gate_objects.specs.Escapes.{DoesEscape, MeetsEach}
use Rattle.gate_objects.specs.Releases.{DoesFree}
use Rattle.gate_paths.specs.Gathered.{spot_after}
use Rattle.gate_states.specs.declared.called.Called.{Called}
use Rattle.gate_fails.specs.Params.{DoesArgumentEffect, DoesParamAct, DoesParamEffect, DoesParams, DoesParamsAct, IsPickedBy}
use Rattle.gate_fails.proofs.Stepping.{done_last}

-- A pointer, where the choice spells a number.

pub is_picked : (p : Layout) (n1 ns : List Node) (bit n gate : ℕ) (pointer none picked : List Pair) → Grown n1 ns → IsChosenNumber p n1 bit 2 n gate
    → Always n1 (λ choice v. Points v none 0) → IsJoin ns gate pointer none picked → IsPickedBy p ns bit n pointer picked
is_picked p n1 ns bit n gate pointer none picked grown is to_null join =
    record {
      below = join.below;
      points = λ bits v runs few target points.
          let before = grown.runs (bit_at bits) v runs in
          subst (λ b. Points v picked (if b then target else 0)) (is.value bits v before (inl few))
          (join.points (bit_at bits) v runs target 0 points (to_null.holds (bit_at bits) v before));
    }

-- At most one of both acts is done.

far : (n k : ℕ) → k < 3 → nat_eq (suc (suc (suc n))) k ≡ false
far n k low = ne_eqb (suc (suc (suc n))) k (λ h. omega (arith, h, low))

one_effect : (env : Env) (c : Cell) (k : ℕ) (w : World)
    → goes_on (escape_at env (if nat_eq k 1 then target_of c else 0) w) (λ u. free_at env (if nat_eq k 2 then target_of c else 0))
    ≡ param_effect env (param_state k) c w
one_effect env c zero w = refl
one_effect env c (suc zero) w = done_last (escape_at env (target_of c) w)
one_effect env c (suc (suc zero)) w = refl
one_effect env c (suc (suc (suc n))) w =
    ap (λ b. goes_on (escape_at env (if b then target_of c else 0) w) (λ u. free_at env (if nat_eq (suc (suc (suc n))) 2 then target_of c else 0)))
    (far n 1 (omega arith))
    ∙ ap (λ b. goes_on (escape_at env 0 w) (λ u. free_at env (if b then target_of c else 0))) (far n 2 (omega arith))

module _ (p : Layout) (n0 n1 n2 n3 ns : List Node) (bit : ℕ) (val : Val) (pointer : List Pair) (escaping freed : Sets) (l0 l1 l2 : List Location) (g0 g1 : Ends)
    (grown1 : Grown n0 n1) (grown2 : Grown n1 n2) (grown3 : Grown n2 n3) (grown4 : Grown n3 ns) (is : IsPointerOf n0 val pointer)
    (picks_escaping : IsPickedBy p n1 bit 1 pointer escaping.pairs.items) (picks_freed : IsPickedBy p n2 bit 2 pointer freed.pairs.items)
    (escapes : DoesEscape p n3 g0 (Set escaping) l0 l1) (frees : DoesFree p ns (Set freed) l1 l2 g0 g1) where
  pub does_effect : DoesParamEffect p ns bit val l0 l2 g0 g1
  does_effect =
      record {
        top = frees.top;
        same = frees.same ∙ escapes.same;
        does = λ bits v runs few s temps turn c met.
            let env = env_of s p bits temps turn in
            let r3 = grown4.runs (bit_at bits) v runs in
            let r2 = grown3.runs (bit_at bits) v r3 in
            let r1 = grown2.runs (bit_at bits) v r2 in
            let points = is.points (bit_at bits) v (grown1.runs (bit_at bits) v r1) c met in
            let k : ℕ = number_at bits bit 2 in
            let one : ℕ = if nat_eq k 1 then target_of c else 0 in
            let two : ℕ = if nat_eq k 2 then target_of c else 0 in
            does_same v l0 l2 g0 g1 (escape env (Pointer one) >>= λ u. free env (Pointer two)) (param_effect env (param_state k) c) (Any {A = Unit {0}})
            (one_effect env c k)
            (bind v l0 l1 l2 g0 g0 g1 (escape env (Pointer one)) (λ u. free env (Pointer two)) (Any {A = Unit {0}}) (Any {A = Unit {0}})
            (escapes.does (bit_at bits) v r3 s bits temps turn (Pointer one) (picks_escaping.points bits v r1 few (target_of c) points))
            (λ u good. frees.does (bit_at bits) v runs s bits temps turn (Pointer two) (picks_freed.points bits v r2 few (target_of c) points)));
      }

-- The parameter of an item.

null_stays : (env : Env) (o : Option State) (w : World) → done tt w ≡ param_effect env o null w
null_stays env None w = refl
null_stays env (Some state.Nil) w = refl
null_stays env (Some (state.At m)) w = refl
null_stays env (Some state.Bad) w = refl
null_stays env (Some state.Held) w = refl
null_stays env (Some state.Escaped) w = refl
null_stays env (Some state.Freed) w = refl
null_stays env (Some state.Null) w = refl
null_stays env (Some state.Fresh) w = refl
null_stays env (Some state.Other) w = refl
null_stays env (Some state.Same) w = refl

args_at : (v : ℕ → Bool) (xs : List Val) (cs : List Cell) (n : ℕ) (d : Val) → n < length xs → MeetsEach v xs cs
    → Meets v (slice_index_or xs n d) (slice_index_or cs n null)
args_at v (x ∷ xs) (c ∷ cs) zero d low met = met.0
args_at v (x ∷ xs) (c ∷ cs) (suc n) d low met = args_at v xs cs n d (omega (arith, low)) met.1
args_at v [] cs n d low met = absurd (omega (arith, low))
args_at v (x ∷ xs) [] n d low met = absurd met

args_past : (v : ℕ → Bool) (xs : List Val) (cs : List Cell) (n : ℕ) → length xs ≤ n → MeetsEach v xs cs → slice_index_or cs n null ≡ null
args_past v [] [] n past met = refl
args_past v [] (c ∷ cs) n past met = absurd met
args_past v (x ∷ xs) (c ∷ cs) zero past met = absurd (omega (arith, past))
args_past v (x ∷ xs) (c ∷ cs) (suc n) past met = args_past v xs cs n (omega (arith, past)) met.1
args_past v (x ∷ xs) [] n past met = absurd met

pub argument_past : (p : Layout) (ns : List Node) (args : List Val) (n bit : ℕ) (l : List Location) (g : Ends) → locations_top l ≤ length ns
    → length args ≤ n → DoesArgumentEffect p ns args n bit l l g g
argument_past p ns args n bit l g top past =
    record {
      top = top;
      same = refl;
      does = λ bits v runs few s temps turn cs met.
          let env = env_of s p bits temps turn in
          let o : Option State = param_state (number_at bits bit 2) in
          does_same v l l g g (done tt) (param_effect env o (slice_index_or cs n null)) (Any {A = Unit {0}})
          (λ w. null_stays env o w ∙ ap (λ c. param_effect env o c w) (sym (args_past v args cs n past met)))
          (does_done v l g tt (Any {A = Unit {0}}) tt);
    }

pub argument_there : (p : Layout) (ns : List Node) (args : List Val) (n bit : ℕ) (x : Val) (l0 l1 : List Location) (g0 g1 : Ends) → n < length args
    → x ≡ slice_index_or args n x → DoesParamEffect p ns bit x l0 l1 g0 g1 → DoesArgumentEffect p ns args n bit l0 l1 g0 g1
argument_there p ns args n bit x l0 l1 g0 g1 low here acts =
    record {
      top = acts.top;
      same = acts.same;
      does = λ bits v runs few s temps turn cs met.
          let c : Cell = slice_index_or cs n null in
          acts.does bits v runs few s temps turn c (subst (λ y. Meets v y c) (sym here) (args_at v args cs n x low met));
    }

pub act_other : (p : Layout) (ns : List Node) (args : List Val) (k : ℕ) (i : Item) (l : List Location) (g : Ends) → locations_top l ≤ length ns
    → is_param i ≡ false → DoesParamAct p ns args k i l l g g
act_other p ns args k i l g top off =
    record {
      top = top;
      same = refl;
      does = λ bits v runs few s temps turn cs met.
          let env = env_of s p bits temps turn in
          does_same v l l g g (done tt) (param_acts env cs k i) (Any {A = Unit {0}}) (other env cs i off) (does_done v l g tt (Any {A = Unit {0}}) tt);
    }
  where
    other : (env : Env) (cs : List Cell) (i : Item) → is_param i ≡ false → (w : World) → done tt w ≡ param_acts env cs k i w
    other env cs item.Exit e w = refl
    other env cs (item.Lock path) e w = refl
    other env cs (item.Out n) e w = refl
    other env cs (item.Param n) e w = absurd (cc)

pub act_there : (p : Layout) (ns : List Node) (args : List Val) (k n bit : ℕ) (i : Item) (l0 l1 : List Location) (g0 g1 : Ends) → i ≡ item.Param n
    → bit ≡ (spot_at p k).bit → DoesArgumentEffect p ns args n bit l0 l1 g0 g1 → DoesParamAct p ns args k i l0 l1 g0 g1
act_there p ns args k n bit i l0 l1 g0 g1 is spot acts =
    record {
      top = acts.top;
      same = acts.same;
      does = λ bits v runs few s temps turn cs met.
          let env = env_of s p bits temps turn in
          let c : Cell = slice_index_or cs n null in
          does_same v l0 l1 g0 g1 (param_effect env (param_state (number_at bits bit 2)) c) (param_acts env cs k i) (Any {A = Unit {0}})
          (λ w. ap (λ j. param_effect env (param_state (number_at bits j 2)) c w) spot ∙ ap (λ y. param_acts env cs k y w) (sym is))
          (acts.does bits v runs few s temps turn cs met);
    }

-- All items, one after the other.

pub after_more : (test : Item → Bool) (k : ℕ) (xs : List ItemRows) (x : ItemRows)
    → spot_after test k (xs ++ x ∷ []) ≡ spot_behind (test x.item) (spot_after test k xs)
after_more test k [] x = refl
after_more test k (y ∷ xs) x = after_more test (spot_behind (test y.item) k) xs x

module _ (env : Env) (cs : List Cell) (x : ItemRows) where
  push_at : (k j : ℕ) (xs : List ItemRows) (r : Result (Unit {0}) Ended × World)
      → ((w : World) → params_act env cs k (xs ++ x ∷ []) w ≡ goes_on (params_act env cs k xs w) (λ u. param_acts env cs j x.item))
      → goes_on r (λ u. params_act env cs k (xs ++ x ∷ [])) ≡ goes_on (goes_on r (λ u. params_act env cs k xs)) (λ u. param_acts env cs j x.item)
  push_at k j xs (Ok u, w) h = h w
  push_at k j xs (Err e, w) h = refl

  params_push : (k : ℕ) (xs : List ItemRows) (w : World)
      → params_act env cs k (xs ++ x ∷ []) w ≡ goes_on (params_act env cs k xs w) (λ u. param_acts env cs (spot_after is_param k xs) x.item)
  params_push k [] w = done_last (param_acts env cs k x.item w)
  params_push k (y ∷ xs) w =
      push_at (spot_behind (is_param y.item) k) (spot_after is_param (spot_behind (is_param y.item) k) xs) xs (param_acts env cs k y.item w)
      (params_push (spot_behind (is_param y.item) k) xs)

pub acts_none : (p : Layout) (ns : List Node) (args : List Val) (k : ℕ) (items : List ItemRows) (l : List Location) (g : Ends) → locations_top l ≤ length ns
    → DoesParamsAct p ns args k (take 0 items) l l g g
acts_none p ns args k items l g top =
    record { top = top; same = refl; does = λ bits v runs few s temps turn cs met. does_done v l g tt (Any {A = Unit {0}}) tt }

pub acts_step : (p : Layout) (n1 n2 : List Node) (args : List Val) (k j : ℕ) (items : List ItemRows) (i : ℕ) (x : ItemRows) (l0 l1 l2 : List Location)
    (g0 g1 g2 : Ends) → i < length items → x ≡ get_or items i x → j ≡ spot_after is_param k (take i items) → Grown n1 n2
    → DoesParamsAct p n1 args k (take i items) l0 l1 g0 g1 → DoesParamAct p n2 args j x.item l1 l2 g1 g2
    → DoesParamsAct p n2 args k (take (i + 1) items) l0 l2 g0 g2
acts_step p n1 n2 args k j items i x l0 l1 l2 g0 g1 g2 low here spot grown so_far one =
    subst (λ xs. DoesParamsAct p n2 args k xs l0 l2 g0 g2) (sym (take_more items i x low ∙ ap (λ y. take i items ++ y ∷ []) (sym here)))
    (record {
      top = one.top;
      same = one.same ∙ so_far.same;
      does = λ bits v runs few s temps turn cs met.
          let env = env_of s p bits temps turn in
          let before = grown.runs (bit_at bits) v runs in
          does_same v l0 l2 g0 g2 (params_act env cs k (take i items) >>= λ u. param_acts env cs j x.item) (params_act env cs k (take i items ++ x ∷ []))
          (Any {A = Unit {0}})
          (λ w.
          ap (λ m. goes_on (params_act env cs k (take i items) w) (λ u. param_acts env cs m x.item)) spot ∙ sym (params_push env cs x k (take i items) w))
          (bind v l0 l1 l2 g0 g1 g2 (params_act env cs k (take i items)) (λ u. param_acts env cs j x.item) (Any {A = Unit {0}}) (Any {A = Unit {0}})
          (so_far.does bits v before few s temps turn cs met) (λ u good. one.does bits v runs few s temps turn cs met));
    })

pub acts_all : (p : Layout) (ns : List Node) (args : List Val) (k : ℕ) (items : List ItemRows) (i : ℕ) (l0 l1 : List Location) (g0 g1 : Ends)
    → length items ≤ i → DoesParamsAct p ns args k (take i items) l0 l1 g0 g1 → DoesParamsAct p ns args k items l0 l1 g0 g1
acts_all p ns args k items i l0 l1 g0 g1 high h = subst (λ xs. DoesParamsAct p ns args k xs l0 l1 g0 g1) (take_all i items high) h

-- The parameters of a call.
pub does_params : (p : Layout) (ns : List Node) (c : Called) (l0 l1 : List Location) (g0 g1 : Ends) (k : ℕ) (items : List ItemRows) → c.summary.now.items ≡ items
    → k ≡ c.occurrence.spot + count_items is_lock items → DoesParamsAct p ns c.args.now k items l0 l1 g0 g1 → DoesParams p ns c l0 l1 g0 g1
does_params p ns c l0 l1 g0 g1 k items same spot acts =
    let here : k ≡ c.occurrence.spot + count_items is_lock c.summary.now.items = spot ∙ ap (λ xs. c.occurrence.spot + count_items is_lock xs) (sym same) in
    let d : DoesParamsAct p ns c.args.now (c.occurrence.spot + count_items is_lock c.summary.now.items) c.summary.now.items l0 l1 g0 g1 =
    subst (λ j. DoesParamsAct p ns c.args.now j c.summary.now.items l0 l1 g0 g1) here
    (subst (λ xs. DoesParamsAct p ns c.args.now k xs l0 l1 g0 g1) (sym same) acts) in
    record { top = d.top; same = d.same; does = λ bits v runs few s temps turn cs met ls os ws. d.does bits v runs few s temps turn cs met }
