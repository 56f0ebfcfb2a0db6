-- A try: the tests of targets, the locks that are taken, and where a pointer leads.
use Rattle.std.proofs.Common.{◌≡◌, ℕ, zero, suc, ◌+◌, ◌-◌, ◌%◌, ◌^◌, ◌<◌, ◌≤◌, nat_eq, Bool, true, false, not, ◌&&◌, if◌then◌else◌, List, [], ◌∷◌, ◌++◌, length, take, get_or, Result, Ok, Err, inl, refl, sym, ◌∙◌, ap, subst, arith}
use Rattle.std.proofs.lemmas.List.{take_more, take_all}
use Rattle.std.proofs.lemmas.List.Elements.{All-weaker}
use Rattle.std.proofs.Math.Nat.{mod-eq_of_lt}
use Rattle.bit_net.specs.declared.nodes.Node.{Node}
use Rattle.bit_net.specs.declared.nodes.Gate.{Gate}
use Rattle.bit_net.specs.Runs.{Runs, Grown, Gives}
use Rattle.bit_words.specs.declared.Word.{Word as Words}
use Rattle.bit_words.specs.Number.{number}
use Rattle.bit_words.specs.Spells.{Spells}
use Rattle.gl_sets.specs.declared.pairs.Pair.{Pair}
use Rattle.gl_sets.specs.Guards.{Points}
use Rattle.gl_sets.specs.Sets.{IsWhere}
use Rattle.gl_store.specs.declared.values.Val.{Val}
use Rattle.gl_store.specs.declared.values.Val.TheVariants.{Word}
use Rattle.gl_store.specs.declared.stores.Location.{Location}
use Rattle.gl_store.specs.Meets.{Meets, MeetsAll, kinds, locations_top}
use Rattle.gl_store.specs.Steps.{IsNumberAt, IsPut, number_in}
use Rattle.run_store.specs.declared.Flag.TheVariants as flag
use Rattle.run_store.specs.Concrete.{Cell, Number, Numbers as Kinds, Place, nth_cell, marked}
use Rattle.sc_world.specs.Tree.{Ty, int_bits}
use Rattle.sc_world.specs.Source.{Source}
use Rattle.sc_world.specs.Layout.{Layout, Occurrence}
use Rattle.sc_world.specs.World.{World, Ended, Run, ◌>>=◌, goes_on, done, Env, bit_at, size, put, mark, number_of, reach, state_of, set_state, target_of}
use Rattle.sc_world.specs.Eval.{locked, try, tried}
use Rattle.gate_runs.specs.declared.ends.Ends.{Ends}
use Rattle.gate_runs.specs.Stands.{Does, Any}
use Rattle.gate_runs.proofs.Bind.{bind, does_done}
use Rattle.gate_steps.specs.Steps.{LeadsTo, DoesMark}
use Rattle.gate_places.specs.Checks.{IsTest, HaveTests}
use Rattle.gate_places.specs.Places.{DoesReach, Leads, env_of}
use Rattle.gate_entry.specs.Entry.{IsBit}
use Rattle.gate_acts.specs.Acts.{where_held, acts_on, is_open, IsHad, lock_target, LocksTarget, LocksEach, take_at, Takes, TryFits, IsTried, IsPointerOf, DoesTry}
use Rattle.gate_acts.proofs.Stepping.{does_there, does_put, acts_none, acts_push, acts_held}
use Rattle.gate_acts.proofs.Operating.{same_number}

-- the lock at a target is not locked
pub open_test : (ns : List Node) (l : List Location) (size target cell : ℕ) (bits : List Gate) (lock gate : ℕ) (n1 : List Node) → Grown n1 ns → cell ≡ size + (target - 1)
    → IsNumberAt l cell bits → Gives n1 lock (λ choice v. nat_eq (number v bits) 1) → Gives ns gate (λ choice v. not (v lock))
    → IsTest ns l (λ ps. is_open size ps target) gate
open_test ns l size target cell bits lock gate n1 grown here is locks opens =
    record {
      below = opens.below;
      value = λ choice v runs ps met.
          opens.value choice v runs
          ∙ ap not (locks.value choice v (grown.runs choice v runs) ∙ ap (λ k. nat_eq k 1) (is.value v ps met ∙ ap (λ k. number_in (nth_cell ps k)) here));
    }

-- tests stay so while the net grows
pub tests_grown : (old ns : List Node) (l : List Location) (test : List Place → ℕ → Bool) (pairs : List Pair) (tests : List Gate) → Grown old ns → HaveTests old l test pairs tests → HaveTests ns l test pairs tests
tests_grown old ns l test pairs tests grown h =
    record {
      wide = h.wide;
      below = All-weaker (λ g. g.at < length old) (λ g. g.at < length ns) (λ g low. omega (arith, low, grown.longer)) tests h.below;
      holds = λ choice v runs ps met. h.holds choice v (grown.runs choice v runs) ps met;
    }

-- the lock can be had
pub is_had : (p : Layout) (n1 n2 ns : List Node) (l : List Location) (pairs pairs' : List Pair) (tests tests' : List Gate) (bit open' chosen gate : ℕ) → Grown n1 n2 → Grown n2 ns
    → pairs' ≡ pairs → tests' ≡ tests
    → HaveTests n1 l (λ ps target. is_open (length p.locations) ps target) pairs' tests → IsWhere n2 pairs tests' open' → IsBit p n2 bit chosen
    → Gives ns gate (λ choice v. v open' && v chosen) → IsHad p ns l pairs bit gate
is_had p n1 n2 ns l pairs pairs' tests tests' bit open' chosen gate grown1 grown2 same_pairs same_tests have' is' chooses gives =
    let have : HaveTests n1 l (λ ps target. is_open (length p.locations) ps target) pairs tests = subst (λ ps. HaveTests n1 l (λ qs target. is_open (length p.locations) qs target) ps tests) same_pairs have' in
    let is : IsWhere n2 pairs tests open' = subst (λ gs. IsWhere n2 pairs gs open') same_tests is' in
    record {
      below = gives.below;
      value = λ bits v runs few ps met t points.
          let r2 = grown2.runs (bit_at bits) v runs in
          let r1 = grown1.runs (bit_at bits) v r2 in
          gives.value (bit_at bits) v runs
          ∙ ap (λ b. b && v chosen) (is.points (bit_at bits) v r2 (λ k. is_open (length p.locations) ps k) t (have.holds (bit_at bits) v r1 ps met) points)
          ∙ ap (λ b. is_open (length p.locations) ps t && b) (chooses.value bits v r2 (inl few));
    }

-- a target is locked

swapped : (live b g : Bool) → ((live && b) && g) ≡ (live && (g && b))
swapped true true g = by g
  where
    by : (x : Bool) → x ≡ (x && true)
    by true = refl
    by false = refl
swapped true false g = by g
  where
    by : (x : Bool) → false ≡ (x && false)
    by true = refl
    by false = refl
swapped false b g = refl

held_twice : (g b : Bool) (m : Run (Unit {0})) (w : World) → where_held (g && b) m w ≡ where_held g (where_held b m) w
held_twice true b m w = refl
held_twice false b m w = refl

held_done : (g : Bool) (w : World) → done tt w ≡ where_held g (done tt) w
held_done true w = refl
held_done false w = refl

pub lock_null : (s : Source) (p : Layout) (ns : List Node) (had : ℕ) (pair : Pair) (l : List Location) → locations_top l ≤ length ns → pair.target ≡ 0 → LocksTarget s p ns had pair l l
lock_null s p ns had pair l top e =
    record {
      top = top;
      same = refl;
      does = λ choice v runs bits temps turn gates b is.
          let env = env_of s p bits temps turn in
          does_there v l l gates gates (done tt) (where_held (v pair.guard.at) (lock_target env b pair.target)) (Any {A = Unit {0}})
          (λ w met live. held_done (v pair.guard.at) w ∙ ap (λ k. where_held (v pair.guard.at) (lock_target env b k) w) (sym e)) (does_done v l gates tt (Any {A = Unit {0}}) tt);
    }

locks_there : (env : Env) (b g : Bool) (target at : ℕ) → target ≡ at + 1 → (w : World) → where_held (g && b) (set_state env at locked) w ≡ where_held g (lock_target env b target) w
locks_there env b g zero at e w = absurd (omega (arith, e))
locks_there env b g (suc k) at e w =
    let same : at ≡ k = omega (arith, e) in
    ap (λ j. where_held (g && b) (set_state env j locked) w) same ∙ held_twice g b (set_state env k locked) w

pub lock_there : (s : Source) (p : Layout) (n1 n2 ns : List Node) (had when at cell : ℕ) (pair : Pair) (word : Words) (old new : List Location) → Grown n1 n2 → Grown n2 ns → pair.target ≡ at + 1
    → cell ≡ length p.locations + at → Gives n1 when (λ choice v. v had && v pair.guard.at) → Spells n2 word.bits.items 4 (λ v. 1 % 2 ^ 4) → IsPut ns when cell (Word word) old new
    → LocksTarget s p ns had pair old new
lock_there s p n1 n2 ns had when at cell pair word old new grown1 grown2 e here is_when spells is_put =
    record {
      top = is_put.below;
      same = is_put.same;
      does = λ choice v runs bits temps turn gates b is.
          let env = env_of s p bits temps turn in
          let r2 = grown2.runs choice v runs in
          let r1 = grown1.runs choice v r2 in
          let g : Bool = v pair.guard.at in
          let holds : v when ≡ (v gates.live.at && (g && b)) = is_when.value choice v r1 ∙ ap (λ x. x && g) is ∙ swapped (v gates.live.at) b g in
          does_there v old new gates gates (where_held (g && b) (put cell (Number 4 locked))) (where_held g (lock_target env b pair.target)) (Any {A = Unit {0}})
          (λ w met live. ap (λ k. where_held (g && b) (put k (Number 4 locked)) w) here ∙ locks_there env b g pair.target at e w)
          (does_put ns when cell (Word word) old new is_put choice v runs gates (g && b) (Number 4 locked) holds (record { wide = spells.wide; value = spells.value choice v r2 ∙ mod-eq_of_lt (let low : 1 < 2 ^ 4 = omega arith in low) }));
    }

pub locks_none : (s : Source) (p : Layout) (ns : List Node) (had : ℕ) (pairs : List Pair) (l : List Location) → locations_top l ≤ length ns → LocksEach s p ns had (take 0 pairs) l l
locks_none s p ns had pairs l top =
    record {
      top = top;
      same = refl;
      does = λ choice v runs bits temps turn gates b is.
          does_there v l l gates gates (done tt) (acts_on v (lock_target (env_of s p bits temps turn) b) []) (Any {A = Unit {0}})
          (λ w met live. sym (acts_none v (lock_target (env_of s p bits temps turn) b) w)) (does_done v l gates tt (Any {A = Unit {0}}) tt);
    }

pub locks_step : (s : Source) (p : Layout) (n1 n2 : List Node) (had i : ℕ) (pairs : List Pair) (d : Pair) (l0 l1 l2 : List Location) → i < length pairs → Grown n1 n2
    → LocksEach s p n1 had (take i pairs) l0 l1 → LocksTarget s p n2 had (get_or pairs i d) l1 l2 → LocksEach s p n2 had (take (i + 1) pairs) l0 l2
locks_step s p n1 n2 had i pairs d l0 l1 l2 low grown so_far one =
    subst (λ ps. LocksEach s p n2 had ps l0 l2) (sym (take_more pairs i d low))
    (record {
      top = one.top;
      same = one.same ∙ so_far.same;
      does = λ choice v r2 bits temps turn gates b is.
          let r1 = grown.runs choice v r2 in
          let f = lock_target (env_of s p bits temps turn) b in
          let pair : Pair = get_or pairs i d in
          does_there v l0 l2 gates gates (acts_on v f (take i pairs) >>= λ u. where_held (v pair.guard.at) (f pair.target)) (acts_on v f (take i pairs ++ pair ∷ [])) (Any {A = Unit {0}})
          (λ w met live. sym (acts_push v f (take i pairs) pair w))
          (bind v l0 l1 l2 gates gates gates (acts_on v f (take i pairs)) (λ u. where_held (v pair.guard.at) (f pair.target)) (Any {A = Unit {0}}) (Any {A = Unit {0}})
          (so_far.does choice v r1 bits temps turn gates b is) (λ u good. one.does choice v r2 bits temps turn gates b is));
    })

pub locks_whole : (s : Source) (p : Layout) (ns : List Node) (had i : ℕ) (pairs : List Pair) (l0 l1 : List Location) → length pairs ≤ i
    → LocksEach s p ns had (take i pairs) l0 l1 → LocksEach s p ns had pairs l0 l1
locks_whole s p ns had i pairs l0 l1 high h = subst (λ ps. LocksEach s p ns had ps l0 l1) (take_all i pairs high) h

-- the lock to which a pointer leads is taken
module _ (s : Source) (p : Layout) (n1 n2 ns : List Node) (bit had when : ℕ) (pairs : List Pair) (l0 l1 : List Location) (gates : Ends) (grown1 : Grown n1 n2) (grown2 : Grown n2 ns)
    (is : IsHad p n1 l0 pairs bit had) (is_when : Gives n2 when (λ choice v. v gates.live.at && v had)) (pairs' : List Pair) (same_pairs : pairs' ≡ pairs) (locks' : LocksEach s p ns when pairs' l0 l1) where
  locks : LocksEach s p ns when pairs l0 l1
  locks = subst (λ ps. LocksEach s p ns when ps l0 l1) same_pairs locks'

  taken_at : (v : ℕ → Bool) (bits : List Bool) (temps : List Cell) (turn at : ℕ) (b : Bool) (leads : LeadsTo v gates pairs at) (w : World) → v gates.live.at ≡ true
      → b ≡ (is_open (length p.locations) w.places leads.target && bit_at bits bit)
      → goes_on (acts_on v (lock_target (env_of s p bits temps turn) b) pairs w) (λ u. done b) ≡ take_at (env_of s p bits temps turn) bit at w
  taken_at v bits temps turn at b leads w live e =
      let env = env_of s p bits temps turn in
      let cell : Cell = nth_cell w.places (length p.locations + at) in
      let there : leads.target - 1 ≡ at = omega (arith, leads.there live) in
      let same : b ≡ (not (nat_eq (number_of cell) locked) && bit_at bits bit) =
      e ∙ ap (λ k. not (nat_eq (number_in (nth_cell w.places (length p.locations + k))) locked) && bit_at bits bit) there
      ∙ ap (λ k. not (nat_eq k locked) && bit_at bits bit) (same_number cell) in
      ap (λ r. goes_on r (λ u. done b))
      (acts_held v (lock_target env b) pairs leads.target leads.points.one w ∙ ap (λ k. lock_target env b k w) (leads.there live))
      ∙ ap (λ x. goes_on (where_held x (set_state env at locked) w) (λ u. done x)) same

  pub does_take : Takes s p ns bit pairs l0 l1 gates had
  does_take =
      record {
        below = omega (arith, is.below, grown1.longer, grown2.longer);
        top = locks.top;
        same = locks.same;
        does = λ bits v runs few temps turn at leads.
            let env = env_of s p bits temps turn in
            let r2 = grown2.runs (bit_at bits) v runs in
            let r1 = grown1.runs (bit_at bits) v r2 in
            let b : Bool = v had in
            does_there v l0 l1 gates gates (acts_on v (lock_target env b) pairs >>= λ u. done b) (take_at env bit at) (λ x. v had ≡ x)
            (λ w met live. taken_at v bits temps turn at b leads w live (is.value bits v r1 few w.places met leads.target leads.points))
            (bind v l0 l1 l1 gates gates gates (acts_on v (lock_target env b) pairs) (λ u. done b) (Any {A = Unit {0}}) (λ x. v had ≡ x)
            (locks.does (bit_at bits) v runs bits temps turn gates b (is_when.value (bit_at bits) v r2)) (λ u good. does_done v l1 gates b (λ x. v had ≡ x) refl));
      }

-- the number that a try gives
either_number : (b : Bool) (m n k : ℕ) → k ≡ (if b then m else n) → (a c : ℕ) → m ≡ a → n ≡ c → k ≡ (if b then a else c)
either_number true m n k e a c f g = e ∙ f
either_number false m n k e a c f g = e ∙ g

pub is_tried : (s : Source) (n0 ns : List Node) (t : Ty) (success failure had width : ℕ) (yes' no' : List Gate) (word : Words) → Grown n0 ns → TryFits s t success failure → width ≡ int_bits s.widths t
    → Spells n0 yes' width (λ v. success % 2 ^ width) → Spells n0 no' width (λ v. failure % 2 ^ width)
    → Spells ns word.bits.items (length yes') (λ v. if v had then number v yes' else number v no') → IsTried s ns t success failure had (Word word)
is_tried s n0 ns t success failure had width yes' no' word grown fits e is_yes is_no chosen =
    let wide : length word.bits.items ≡ int_bits s.widths t = chosen.wide ∙ is_yes.wide ∙ e in
    record {
      below = chosen.below;
      kind = ap (λ k. Kinds k) wide;
      value = λ choice v runs.
          let r0 = grown.runs choice v runs in
          let a : number v yes' ≡ success = is_yes.value choice v r0 ∙ mod-eq_of_lt (subst (λ k. success < 2 ^ k) (sym e) fits.success_fits) in
          let b : number v no' ≡ failure = is_no.value choice v r0 ∙ mod-eq_of_lt (subst (λ k. failure < 2 ^ k) (sym e) fits.failure_fits) in
          record { wide = wide; value = either_number (v had) (number v yes') (number v no') (number v word.bits.items) (chosen.value choice v runs) success failure a b };
    }

-- The steps of a try in a run.

tried_same : (env : Env) (t : Ty) (success failure at : ℕ) (b : Bool) (w : World)
    → goes_on (goes_on (where_held b (set_state env at locked) w) (λ u. done b)) (λ x. done (Number (int_bits env.source.widths t) (if x then success else failure)))
    ≡ tried env t success failure at b w
tried_same env t success failure at true w = refl
tried_same env t success failure at false w = refl

try_same : (env : Env) (t : Ty) (o : Occurrence) (bit success failure : ℕ) → o.bit ≡ bit → (r : Result ℕ Ended × World)
    → goes_on r (λ at. mark at flag.Touched >>= λ u. take_at env bit at >>= λ b. done (Number (int_bits env.source.widths t) (if b then success else failure)))
    ≡ goes_on r (λ at. mark at flag.Touched >>= λ u. state_of env at >>= λ s. tried env t success failure at (not (nat_eq s locked) && bit_at env.choice o.bit))
try_same env t o bit success failure e (Ok at, w) =
    let w1 : World = record w { places = marked w.places at flag.Touched true } in
    let open' : Bool = not (nat_eq (number_of (nth_cell w1.places (size env + at))) locked) in
    tried_same env t success failure at (open' && bit_at env.choice bit) w1 ∙ ap (λ k. tried env t success failure at (open' && bit_at env.choice k) w1) (sym e)
try_same env t o bit success failure e (Err x, w) = refl

module _ (s : Source) (p : Layout) (n0 n1 n2 n3 ns : List Node) (t : Ty) (bit success failure had : ℕ) (val r : Val) (pairs : List Pair) (l0 l1 l2 : List Location) (g0 g1 : Ends)
    (grown1 : Grown n0 n1) (grown2 : Grown n1 n2) (grown3 : Grown n2 n3) (grown4 : Grown n3 ns) (is : IsPointerOf n0 val pairs) (reached : DoesReach n1 p l0 pairs g0 g1)
    (marks : DoesMark n2 g1 pairs flag.Touched l0 l1) (takes : Takes s p n3 bit pairs l1 l2 g1 had) (gives : IsTried s ns t success failure had r) where
  abbrev given : Bool → Cell
  given b = Number (int_bits s.widths t) (if b then success else failure)

  pub does_try : DoesTry s p ns t bit success failure val l0 l2 g0 g1 r
  does_try =
      record {
        below = gives.below;
        kind = gives.kind;
        top = omega (arith, takes.top, grown4.longer);
        same = takes.same ∙ marks.same;
        does = λ bits v runs few temps turn o e c met.
            let env = env_of s p bits temps turn in
            let r3 = grown4.runs (bit_at bits) v runs in
            let r2 = grown3.runs (bit_at bits) v r3 in
            let r1 = grown2.runs (bit_at bits) v r2 in
            let r0 = grown1.runs (bit_at bits) v r1 in
            let first = reached.does (bit_at bits) v r1 s bits temps turn (target_of c) (is.points (bit_at bits) v r0 c met) in
            does_there v l0 l2 g0 g1 (reach env c >>= λ at. mark at flag.Touched >>= λ u. take_at env bit at >>= λ b. done (given b)) (try env t o success failure c) (Meets v r)
            (λ w met live. try_same env t o bit success failure e (reach env c w))
            (bind v l0 l0 l2 g0 g1 g1 (reach env c) (λ at. mark at flag.Touched >>= λ u. take_at env bit at >>= λ b. done (given b)) (Leads v g1 pairs p) (Meets v r) first (λ at leads.
            bind v l0 l1 l2 g1 g1 g1 (mark at flag.Touched) (λ u. take_at env bit at >>= λ b. done (given b)) (Any {A = Unit {0}}) (Meets v r) (marks.does (bit_at bits) v r2 at leads.leads) (λ u good.
            bind v l1 l2 l2 g1 g1 g1 (take_at env bit at) (λ b. done (given b)) (λ b. v had ≡ b) (Meets v r) (takes.does bits v r3 few temps turn at leads.leads) (λ b tells.
            does_done v l2 g1 (given b) (Meets v r) (subst (λ x. Meets v r (given x)) tells (gives.value (bit_at bits) v runs))))));
      }
