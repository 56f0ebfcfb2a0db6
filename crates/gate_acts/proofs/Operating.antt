-- An operation: at a location, at the target of a pair, at all of them, and where a pointer leads.
use Rattle.std.proofs.Common.{◌≡◌, ℕ, zero, suc, ◌+◌, ◌-◌, ◌<◌, ◌≤◌, nat_eq, nat_lt, Bool, true, false, not, ◌&&◌, ◌||◌, if◌then◌else◌, Option, Some, None, List, [], ◌∷◌, ◌++◌, length, take, get_or, Result, Ok, Err, refl, sym, ◌∙◌, ap, subst, arith, true≢false}
use Rattle.std.proofs.lemmas.Bool.{ltb-true, ltb-false}
use Rattle.std.proofs.lemmas.List.{take_more, take_all, get_or_past}
use Rattle.sc_base.specs.declared.pos.Pos.{Pos}
use Rattle.bit_net.specs.declared.nodes.Node.{Node}
use Rattle.bit_net.specs.declared.nodes.Gate.{Gate}
use Rattle.bit_net.specs.Runs.{Runs, Grown, Gives}
use Rattle.bit_words.specs.declared.Word.{Word as Words}
use Rattle.bit_words.specs.Number.{number}
use Rattle.gl_sets.specs.declared.pairs.Pair.{Pair}
use Rattle.gl_sets.specs.Guards.{Points, held}
use Rattle.gl_store.specs.declared.values.Val.{Val}
use Rattle.gl_store.specs.declared.values.Val.TheVariants.{Word}
use Rattle.gl_store.specs.declared.stores.Location.{Location}
use Rattle.gl_store.specs.Meets.{Meets, MeetsAll, val_kind, val_top, kinds, locations_top}
use Rattle.gl_store.specs.Steps.{IsNumberAt, IsPut, number_in}
use Rattle.fsm_spec.specs.Table.{IsWhole}
use Rattle.run_store.specs.declared.Flag.TheVariants as flag
use Rattle.run_store.specs.Concrete.{Cell, Number, Pointer, Nothing, nth_cell, marked}
use Rattle.sc_world.specs.Tree.{Ty}
use Rattle.sc_world.specs.Source.{Source}
use Rattle.sc_world.specs.Layout.{Layout, location, nowhere, is_stub, is_outer, is_there}
use Rattle.sc_world.specs.World.{World, Ended, Error, Inner, Run, ◌>>=◌, goes_on, done, ends, Env, size, put, mark, number_of, reach, state_of, set_state, target_of}
use Rattle.sc_world.specs.Eval.{fails, target_from, operation, zero_of, goes_to}
use Rattle.gate_runs.specs.declared.ends.Ends.{Ends}
use Rattle.gate_runs.specs.Stands.{Does, Any, HasFailedWhere, ends_where}
use Rattle.gate_runs.proofs.Bind.{bind, does_done}
use Rattle.gate_steps.specs.Steps.{LeadsTo, DoesMark}
use Rattle.gate_places.specs.Places.{DoesReach, Leads, env_of}
use Rattle.gate_acts.specs.declared.tables.Table.{Table}
use Rattle.gate_acts.specs.Tables.{IsTable, led_to}
use Rattle.gate_acts.specs.Acts.{where_held, acts_on, goes, operate, operate_target, GoesAt, OperatesAt, OperatesTarget, OperatesEach, IsZero, IsPointerOf, DoesOperation}
use Rattle.gate_acts.proofs.Stepping.{does_there, Agrees, does_agree, does_put, acts_none, acts_push, acts_held}

-- a number in a cell is the number that runs read there
pub same_number : (c : Cell) → number_in c ≡ number_of c
same_number (Number w n) = refl
same_number (Pointer t) = refl
same_number Nothing = refl

-- A location goes to a state, or the run ends there.

abbrev end_at : Layout → ℕ → Ended
end_at p at = if is_outer (location p at) then Error at else Inner at

-- the gates end the run first, then put the state: that is what the run does, but for its trace
goes_agrees : (env : Env) (pos : Pos) (at n : ℕ) (b : Bool) (o : Option ℕ) (w : World) → ((t : ℕ) → o ≡ Some t → n ≡ t)
    → Agrees (goes_on (ends_where (λ u. b && not (is_there o)) (end_at env.layout at) w) (λ u. where_held b (put (size env + at) (Number 4 n))))
    (where_held b (goes env pos at o) w)
goes_agrees env pos at n false o w e = (refl, refl)
goes_agrees env pos at n true None w e = (refl, refl)
goes_agrees env pos at n true (Some s) w e =
    subst (λ k. Agrees (goes_on (ends_where (λ u. false) (end_at env.layout at) w) (λ u. put (size env + at) (Number 4 n))) (set_state env at k w)) (e s refl) (refl, refl)

fails_gate : (b k : Bool) (o : Option ℕ) → k ≡ is_there o → (b && not k) ≡ (b && not (is_there o))
fails_gate b k o e = ap (λ x. b && not x) e

-- the end is an error that callers know, or not
failed : (v : ℕ → Bool) (choice : ℕ → Bool) (ns : List Node) (when at : ℕ) (old new : Ends) (p : Layout) (l : List Location) (c : Bool) → Runs ns choice v
    → HasFailedWhere ns when at old new → v when ≡ c → Does v l old (ends_where (λ u. c) (end_at p at)) l new (Any {A = Unit {0}})
failed v choice ns when at old new p l c runs has e = by (is_outer (location p at))
  where
    by : (b : Bool) → Does v l old (ends_where (λ u. c) (if b then Error at else Inner at)) l new (Any {A = Unit {0}})
    by true = has.outer choice v runs l (λ u. c) (λ w met. e)
    by false = has.inner choice v runs l (λ u. c) (λ w met. e)

module _ (s : Source) (p : Layout) (n0 n1 n2 n3 n4 : List Node) (at cell guard : ℕ) (table : Table) (old new : List Location) (g0 g1 : Ends) (none fail when : ℕ)
    (grown1 : Grown n0 n1) (grown2 : Grown n1 n2) (grown3 : Grown n2 n3) (grown4 : Grown n3 n4) (grown5 : Grown n4 n4)
    (is_none : Gives n1 none (λ choice v. not (v table.known.at))) (is_fail : Gives n2 fail (λ choice v. v guard && v none))
    (has : HasFailedWhere n3 fail at g0 g1) (is_when : Gives n4 when (λ choice v. v g1.live.at && v guard)) where
  pub goes_at : (n5 : List Node) → Grown n4 n5 → IsPut n5 when cell (Word table.state) old new → cell ≡ length p.locations + at → length table.state.bits.items ≡ 4
      → GoesAt s p n5 at guard table old new g0 g1
  goes_at n5 grown is_put here wide =
      record {
        top = is_put.below;
        same = is_put.same;
        does = λ choice v r5 bits temps turn pos o known entry.
            let env = env_of s p bits temps turn in
            let r4 = grown.runs choice v r5 in
            let r3 = grown4.runs choice v r4 in
            let r2 = grown3.runs choice v r3 in
            let r1 = grown2.runs choice v r2 in
            let c : Bool = v guard && not (is_there o) in
            let holds : v fail ≡ c = is_fail.value choice v r2 ∙ ap (λ x. v guard && x) (is_none.value choice v r1 ∙ ap not known) in
            let state : ℕ = number v table.state.bits.items in
            let first = failed v choice n3 fail at g0 g1 p old c r3 has holds in
            let second : Does v old g1 (where_held (v guard) (put cell (Number 4 state))) new g1 (Any {A = Unit {0}}) =
            does_put n5 when cell (Word table.state) old new is_put choice v r5 g1 (v guard) (Number 4 state) (is_when.value choice v r4) (record { wide = wide; value = refl }) in
            let both = bind v old old new g0 g1 g1 (ends_where (λ u. c) (end_at p at)) (λ u. where_held (v guard) (put cell (Number 4 state))) (Any {A = Unit {0}}) (Any {A = Unit {0}}) first (λ u good. second) in
            does_agree v old new g0 g1 (ends_where (λ u. c) (end_at p at) >>= λ u. where_held (v guard) (put cell (Number 4 state))) (where_held (v guard) (goes env pos at o)) (Any {A = Unit {0}})
            (λ w. subst (λ k. Agrees (goes_on (ends_where (λ u. c) (end_at p at) w) (λ u. where_held (v guard) (put k (Number 4 state)))) (where_held (v guard) (goes env pos at o) w)) (sym here)
            (goes_agrees env pos at state (v guard) o w entry))
            both;
      }

-- An operation at a location.
module _ (s : Source) (p : Layout) (n at cell guard : ℕ) (n1 n2 : List Node) (bits0 : List Gate) (table : Table) (old new : List Location) (g0 g1 : Ends) (grown : Grown n1 n2)
    (is : IsNumberAt old cell bits0) (here : cell ≡ length p.locations + at) (t : IsTable n1 bits0 (led_to s.machine n) table)
    (goes_to' : GoesAt s p n2 at guard table old new g0 g1) where
  operates_in : (v : ℕ → Bool) (bits : List Bool) (temps : List Cell) (turn : ℕ) (pos : Pos) (w : World) → MeetsAll v old w.places
      → where_held (v guard) (goes (env_of s p bits temps turn) pos at (led_to s.machine n (number v bits0))) w ≡ where_held (v guard) (operate (env_of s p bits temps turn) pos n at) w
  operates_in v bits temps turn pos w met =
      let env = env_of s p bits temps turn in
      let read : number v bits0 ≡ number_of (nth_cell w.places (length p.locations + at)) =
      is.value v w.places met ∙ ap (λ k. number_in (nth_cell w.places k)) here ∙ same_number (nth_cell w.places (length p.locations + at)) in
      ap (λ k. where_held (v guard) (goes env pos at (led_to s.machine n k)) w) read ∙ by env (v guard) (number_of (nth_cell w.places (length p.locations + at))) refl
    where
      by : (env : Env) (b : Bool) (k : ℕ) → number_of (nth_cell w.places (size env + at)) ≡ k
          → where_held b (goes env pos at (target_from env n k)) w ≡ where_held b (operate env pos n at) w
      by env false k e = refl
      by env true k e = ap (λ j. goes env pos at (target_from env n j) w) (sym e)

  pub operates_at : OperatesAt s p n2 n at guard old new g0 g1
  operates_at =
      record {
        top = goes_to'.top;
        same = goes_to'.same;
        does = λ choice v r2 bits temps turn pos.
            let r1 = grown.runs choice v r2 in
            does_there v old new g0 g1 (where_held (v guard) (goes (env_of s p bits temps turn) pos at (led_to s.machine n (number v bits0))))
            (where_held (v guard) (operate (env_of s p bits temps turn) pos n at)) (Any {A = Unit {0}}) (λ w met live. operates_in v bits temps turn pos w met)
            (goes_to'.does choice v r2 bits temps turn pos (led_to s.machine n (number v bits0)) (t.known choice v r1) (t.entry choice v r1));
      }

-- At the target of a pair.

held_done : (b : Bool) (w : World) → done tt w ≡ where_held b (done tt) w
held_done true w = refl
held_done false w = refl

-- null, and what is no location
skipped : (env : Env) (pos : Pos) (n count target : ℕ) → (0 < target → count < target) → (w : World) → done tt w ≡ operate_target env pos n count target w
skipped env pos n count zero high w = refl
skipped env pos n count (suc at) high w = by (nat_lt at count) refl
  where
    by : (b : Bool) → nat_lt at count ≡ b → done tt w ≡ (if b then operate env pos n at else done tt) w
    by true e = absurd (omega (arith, ltb-true at count e, high (omega arith)))
    by false e = refl

pub target_skipped : (s : Source) (p : Layout) (ns : List Node) (n count : ℕ) (pair : Pair) (l : List Location) (g : Ends) → locations_top l ≤ length ns
    → (0 < pair.target → count < pair.target) → OperatesTarget s p ns n count pair l l g g
target_skipped s p ns n count pair l g top high =
    record {
      top = top;
      same = refl;
      does = λ choice v runs bits temps turn pos.
          let env = env_of s p bits temps turn in
          does_there v l l g g (done tt) (where_held (v pair.guard.at) (operate_target env pos n count pair.target)) (Any {A = Unit {0}})
          (λ w met live. held_done (v pair.guard.at) w ∙ held_same (v pair.guard.at) (done tt) (operate_target env pos n count pair.target) w (skipped env pos n count pair.target high w))
          (does_done v l g tt (Any {A = Unit {0}}) tt);
    }
  where
    held_same : (b : Bool) (m k : Run (Unit {0})) (w : World) → m w ≡ k w → where_held b m w ≡ where_held b k w
    held_same true m k w e = e
    held_same false m k w e = refl

there_is : (env : Env) (pos : Pos) (n count target at : ℕ) → target ≡ at + 1 → at < count → (b : Bool) (w : World)
    → where_held b (operate env pos n at) w ≡ where_held b (operate_target env pos n count target) w
there_is env pos n count zero at e low b w = absurd (omega (arith, e))
there_is env pos n count (suc k) at e low b w =
    let same : at ≡ k = omega (arith, e) in
    ap (λ j. where_held b (operate env pos n j) w) same ∙ by b (nat_lt k count) refl
  where
    by : (b : Bool) (c : Bool) → nat_lt k count ≡ c → where_held b (operate env pos n k) w ≡ where_held b (if c then operate env pos n k else done tt) w
    by b true f = refl
    by b false f = absurd (omega (arith, ltb-false k count f, low, e))

pub target_there : (s : Source) (p : Layout) (ns : List Node) (n count at : ℕ) (pair : Pair) (old new : List Location) (g0 g1 : Ends) → pair.target ≡ at + 1 → at < count
    → OperatesAt s p ns n at pair.guard.at old new g0 g1 → OperatesTarget s p ns n count pair old new g0 g1
target_there s p ns n count at pair old new g0 g1 e low o =
    record {
      top = o.top;
      same = o.same;
      does = λ choice v runs bits temps turn pos.
          let env = env_of s p bits temps turn in
          does_there v old new g0 g1 (where_held (v pair.guard.at) (operate env pos n at)) (where_held (v pair.guard.at) (operate_target env pos n count pair.target)) (Any {A = Unit {0}})
          (λ w met live. there_is env pos n count pair.target at e low (v pair.guard.at) w) (o.does choice v runs bits temps turn pos);
    }

-- At all of them.

pub each_none : (s : Source) (p : Layout) (ns : List Node) (n count : ℕ) (pairs : List Pair) (l : List Location) (g : Ends) → locations_top l ≤ length ns
    → OperatesEach s p ns n count (take 0 pairs) l l g g
each_none s p ns n count pairs l g top =
    record {
      top = top;
      same = refl;
      does = λ choice v runs bits temps turn pos.
          does_there v l l g g (done tt) (acts_on v (operate_target (env_of s p bits temps turn) pos n count) []) (Any {A = Unit {0}})
          (λ w met live. sym (acts_none v (operate_target (env_of s p bits temps turn) pos n count) w)) (does_done v l g tt (Any {A = Unit {0}}) tt);
    }

pub each_step : (s : Source) (p : Layout) (n1 n2 : List Node) (n count i : ℕ) (pairs : List Pair) (d : Pair) (l0 l1 l2 : List Location) (g0 g1 g2 : Ends) → i < length pairs → Grown n1 n2
    → OperatesEach s p n1 n count (take i pairs) l0 l1 g0 g1 → (now : ℕ) → now ≡ count → OperatesTarget s p n2 n now (get_or pairs i d) l1 l2 g1 g2
    → OperatesEach s p n2 n count (take (i + 1) pairs) l0 l2 g0 g2
each_step s p n1 n2 n count i pairs d l0 l1 l2 g0 g1 g2 low grown so_far now same here =
    let one : OperatesTarget s p n2 n count (get_or pairs i d) l1 l2 g1 g2 = subst (λ k. OperatesTarget s p n2 n k (get_or pairs i d) l1 l2 g1 g2) same here in
    subst (λ ps. OperatesEach s p n2 n count ps l0 l2 g0 g2) (sym (take_more pairs i d low))
    (record {
      top = one.top;
      same = one.same ∙ so_far.same;
      does = λ choice v r2 bits temps turn pos.
          let r1 = grown.runs choice v r2 in
          let f = operate_target (env_of s p bits temps turn) pos n count in
          let pair : Pair = get_or pairs i d in
          does_there v l0 l2 g0 g2 (acts_on v f (take i pairs) >>= λ u. where_held (v pair.guard.at) (f pair.target)) (acts_on v f (take i pairs ++ pair ∷ [])) (Any {A = Unit {0}})
          (λ w met live. sym (acts_push v f (take i pairs) pair w))
          (bind v l0 l1 l2 g0 g1 g2 (acts_on v f (take i pairs)) (λ u. where_held (v pair.guard.at) (f pair.target)) (Any {A = Unit {0}}) (Any {A = Unit {0}})
          (so_far.does choice v r1 bits temps turn pos) (λ u good. one.does choice v r2 bits temps turn pos));
    })

pub each_whole : (s : Source) (p : Layout) (ns : List Node) (n count i : ℕ) (pairs : List Pair) (l0 l1 : List Location) (g0 g1 : Ends) → length pairs ≤ i
    → OperatesEach s p ns n count (take i pairs) l0 l1 g0 g1 → OperatesEach s p ns n count pairs l0 l1 g0 g1
each_whole s p ns n count i pairs l0 l1 g0 g1 high h = subst (λ ps. OperatesEach s p ns n count ps l0 l1 g0 g1) (take_all i pairs high) h

-- Where a pointer leads.

pub real_low : (p : Layout) (at : ℕ) → is_stub (location p at) ≡ false → at < length p.locations
real_low p at real = by (nat_lt at (length p.locations)) refl
  where
    by : (b : Bool) → nat_lt at (length p.locations) ≡ b → at < length p.locations
    by true e = ltb-true at (length p.locations) e
    by false e =
        let stub : is_stub (location p at) ≡ true = ap (λ l. is_stub l) (get_or_past p.locations at nowhere (ltb-false at (length p.locations) e)) in
        absurd (true≢false (sym stub ∙ real))

gone_same : (env : Env) (pos : Pos) (t : Ty) (at : ℕ) (o : Option ℕ) (w : World) → goes_on (goes env pos at o w) (λ u. done (zero_of env t)) ≡ goes_to env pos t at o w
gone_same env pos t at None w = refl
gone_same env pos t at (Some s) w = refl

operated_same : (env : Env) (pos : Pos) (t : Ty) (n : ℕ) (r : Result ℕ Ended × World)
    → goes_on r (λ at. mark at flag.Touched >>= λ u. operate env pos n at >>= λ u. done (zero_of env t))
    ≡ goes_on r (λ at. mark at flag.Touched >>= λ u. state_of env at >>= λ s. goes_to env pos t at (target_from env n s))
operated_same env pos t n (Ok at, w) =
    let w1 : World = record w { places = marked w.places at flag.Touched true } in
    gone_same env pos t at (target_from env n (number_of (nth_cell w1.places (size env + at)))) w1
operated_same env pos t n (Err e, w) = refl

module _ (s : Source) (p : Layout) (n0 n1 n2 n3 : List Node) (t : Ty) (n count : ℕ) (val r : Val) (pairs : List Pair) (l0 l1 l2 : List Location) (g0 g1 g2 : Ends)
    (grown1 : Grown n0 n1) (grown2 : Grown n1 n2) (grown3 : Grown n2 n3) (is : IsPointerOf n0 val pairs) (reached : DoesReach n1 p l0 pairs g0 g1)
    (marks : DoesMark n2 g1 pairs flag.Touched l0 l1) (pairs' : List Pair) (same_pairs : pairs' ≡ pairs) (each' : OperatesEach s p n3 n count pairs' l1 l2 g1 g2) (zero' : IsZero s n3 t r) (all : count ≡ length p.locations) where
  at_target : (v : ℕ → Bool) (env : Env) (pos : Pos) (at : ℕ) → Leads v g1 pairs p at → (w : World) → v g1.live.at ≡ true
      → acts_on v (operate_target env pos n count) pairs w ≡ operate env pos n at w
  at_target v env pos at leads w live =
      let low : at < count = omega (arith, all, real_low p at (leads.real live)) in
      acts_held v (operate_target env pos n count) pairs leads.leads.target leads.leads.points.one w
      ∙ ap (λ k. operate_target env pos n count k w) (leads.leads.there live) ∙ by (nat_lt at count) refl low
    where
      by : (b : Bool) → nat_lt at count ≡ b → at < count → (if b then operate env pos n at else done tt) w ≡ operate env pos n at w
      by true e low = refl
      by false e low = absurd (omega (arith, ltb-false at count e))

  each : OperatesEach s p n3 n count pairs l1 l2 g1 g2
  each = subst (λ ps. OperatesEach s p n3 n count ps l1 l2 g1 g2) same_pairs each'

  pub does_operation : DoesOperation s p n3 t n val l0 l2 g0 g2 r
  does_operation =
      record {
        below = zero'.below;
        kind = zero'.kind;
        top = each.top;
        same = each.same ∙ marks.same;
        does = λ choice v r3 bits temps turn pos c met.
            let env = env_of s p bits temps turn in
            let r2 = grown3.runs choice v r3 in
            let r1 = grown2.runs choice v r2 in
            let r0 = grown1.runs choice v r1 in
            let first = reached.does choice v r1 s bits temps turn (target_of c) (is.points choice v r0 c met) in
            let gives = zero'.value choice v r3 p bits temps turn in
            does_there v l0 l2 g0 g2
            (reach env c >>= λ at. mark at flag.Touched >>= λ u. operate env pos n at >>= λ u. done (zero_of env t)) (operation env pos t n c) (Meets v r)
            (λ w met live. operated_same env pos t n (reach env c w))
            (bind v l0 l0 l2 g0 g1 g2 (reach env c) (λ at. mark at flag.Touched >>= λ u. operate env pos n at >>= λ u. done (zero_of env t)) (Leads v g1 pairs p) (Meets v r) first (λ at leads.
            bind v l0 l1 l2 g1 g1 g2 (mark at flag.Touched) (λ u. operate env pos n at >>= λ u. done (zero_of env t)) (Any {A = Unit {0}}) (Meets v r) (marks.does choice v r2 at leads.leads) (λ u good.
            bind v l1 l2 l2 g1 g2 g2 (operate env pos n at) (λ u. done (zero_of env t)) (Any {A = Unit {0}}) (Meets v r)
            (does_there v l1 l2 g1 g2 (acts_on v (operate_target env pos n count) pairs) (operate env pos n at) (Any {A = Unit {0}}) (λ w met live. at_target v env pos at leads w live)
            (each.does choice v r3 bits temps turn pos)) (λ u good.
            does_done v l2 g2 (zero_of env t) (Meets v r) gives))));
      }
