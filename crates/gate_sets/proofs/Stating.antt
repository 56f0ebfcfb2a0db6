-- The states of locations after a known call.
use Rattle.std.proofs.Common.{◌≡◌, ℕ, zero, suc, ◌+◌, Bool, List, [], ◌∷◌, ◌++◌, length, map, refl, sym, ◌∙◌, ap, subst, arith}
use Rattle.std.specs.Prelude.{Option, Some, None}
use Rattle.bit_net.specs.declared.nodes.Node.{Node}
use Rattle.bit_net.specs.Runs.{Grown}
use Rattle.bit_words.specs.declared.Word.{Word as Words}
use Rattle.bit_words.specs.Number.{number}
use Rattle.gl_sets.specs.declared.pairs.Pair.{Pair}
use Rattle.gl_sets.specs.Guards.{targets_of}
use Rattle.gl_sets.specs.Sets.{IsMoved}
use Rattle.gl_store.specs.declared.values.Val.TheVariants.{Word}
use Rattle.gl_store.specs.declared.stores.Location.{Location}
use Rattle.run_store.specs.declared.Flag.TheVariants as flag
use Rattle.run_store.specs.Concrete.{Number}
use Rattle.sum_rows.specs.declared.row.Row.{Row}
use Rattle.sc_world.specs.Source.{Source}
use Rattle.sc_world.specs.Layout.{Layout}
use Rattle.sc_world.specs.World.{World, Env, ◌>>=◌, bit_at, done, mark, put, size, state_width}
use Rattle.sc_world.specs.Known.{Locked, set_states, state_after, with_locked}
use Rattle.layout_base.specs.Seen.{spot_of}
use Rattle.gate_runs.specs.declared.ends.Ends.{Ends}
use Rattle.gate_runs.specs.Stands.{Does, Any}
use Rattle.gate_runs.proofs.Bind.{bind}
use Rattle.gate_steps.proofs.Known.{does_same}
use Rattle.gate_places.specs.Places.{env_of}
use Rattle.gate_objects.specs.Escapes.{MarksTarget, mark_target}
use Rattle.gate_paths.specs.declared.gathered.Found.{Found}
use Rattle.gate_paths.specs.Targets.{found_target}
use Rattle.gate_paths.specs.Gathered.{put_locked, where_item}
use Rattle.gate_states.specs.States.{IsStateAfter}
use Rattle.gate_sets.specs.Each.{DoesEach, DoesOne, each}
use Rattle.gate_sets.specs.States.{AreStatesOf, SetsStates, set_one, state_target}
use Rattle.gate_sets.specs.Writing.{PutsTarget, put_target}

pub no_state : (size target : ℕ) → target ≡ 0 → 0 ≡ state_target size target
no_state size zero e = refl
no_state size (suc at) e = absurd (omega (arith, e))

pub some_state : (size target at cell state : ℕ) → target ≡ at + 1 → cell ≡ size + at → state ≡ cell + 1 → state ≡ state_target size target
some_state size zero at cell state e is next = absurd (omega (arith, e))
some_state size (suc k) at cell state e is next = omega (arith, e, is, next)

pub are_states : (p : Layout) (ns : List Node) (at states : List Pair) (ts : List ℕ) → map (λ t. state_target (length p.locations) t) (targets_of at) ≡ ts
    → IsMoved ns at ts states → AreStatesOf p ns at states
are_states p ns at states ts e is =
    record { below = is.below; points = λ choice v runs target points. is.points choice v runs (λ t. state_target (length p.locations) t) target e points }

-- One location.

state_set : (env : Env) (f : Found) (o : Option ℕ) (n : ℕ) (w : World)
    → ((at : ℕ) → n ≡ state_after env (record { rows = f.rows.now; bit = (spot_of f.spot).bit; at = at }))
    → (put_target (state_target (size env) (found_target o)) (Number state_width n) >>= λ u. mark_target (found_target o) flag.Touched) w
    ≡ each (set_one env) (put_locked f o []) w
state_set env f None n w same = refl
state_set env f (Some at) n w same = ap (λ k. (put (size env + at) (Number state_width k) >>= λ u. mark at flag.Touched) w) (same at)

pub sets_state : (s : Source) (p : Layout) (n1 n2 n3 ns : List Node) (gates : Ends) (f : Found) (word : Words) (states : List Pair) (old mid new : List Location)
    → Grown n1 n2 → Grown n2 n3 → Grown n3 ns → IsStateAfter s p n1 f.spot.bit word.bits.items → AreStatesOf p n2 (where_item f) states
    → PutsTarget n3 gates states (Word word) old mid → MarksTarget ns gates flag.Touched (where_item f) mid new
    → DoesOne s p ns gates where_item put_locked set_one f old new
sets_state s p n1 n2 n3 ns gates f word states old mid new grown12 grown23 grown34 after are puts marks =
    record {
      top = marks.top;
      same = marks.same ∙ puts.same;
      does = λ bits v runs few temps turn o found.
          let env = env_of s p bits temps turn in
          let r3 = grown34.runs (bit_at bits) v runs in
          let r2 = grown23.runs (bit_at bits) v r3 in
          let r1 = grown12.runs (bit_at bits) v r2 in
          let n : ℕ = number v word.bits.items in
          let t : ℕ = state_target (length p.locations) (found_target o) in
          does_same v old new gates gates (put_target t (Number state_width n) >>= λ u. mark_target (found_target o) flag.Touched)
          (each (set_one env) (put_locked f o [])) (Any {A = Unit {0}})
          (λ w. state_set env f o n w (λ at. after.value bits v r1 few temps turn f.rows.now at))
          (bind v old mid new gates gates gates (put_target t (Number state_width n)) (λ u. mark_target (found_target o) flag.Touched)
          (Any {A = Unit {0}}) (Any {A = Unit {0}})
          (puts.does (bit_at bits) v r3 t (Number state_width n) (are.points (bit_at bits) v r2 (found_target o) found)
          (record { wide = after.wide; value = refl }))
          (λ u good. marks.does (bit_at bits) v runs (found_target o) found));
    }

-- All of them.

pub lock_before : (f : Found) (o : Option ℕ) (ls ks : List Locked) → put_locked f o (ls ++ ks) ≡ put_locked f o ls ++ ks
lock_before f None ls ks = refl
lock_before f (Some at) ls ks = refl

states_are : (env : Env) (ls : List Locked) (w : World) → each (set_one env) ls w ≡ set_states env (map (state_after env) ls) ls w
states_are env [] w = refl
states_are env (l ∷ ls) w = states_are env ls _

pub sets_states : (s : Source) (p : Layout) (ns : List Node) (gates : Ends) (locks : List Found) (old new : List Location)
    → DoesEach s p ns gates where_item put_locked set_one locks old new → SetsStates s p ns gates locks old new
sets_states s p ns gates locks old new h =
    record {
      top = h.top;
      same = h.same;
      does = λ bits v runs few temps turn ls shown.
          let env = env_of s p bits temps turn in
          does_same v old new gates gates (each (set_one env) ls) (set_states env (map (state_after env) ls) ls) (Any {A = Unit {0}}) (states_are env ls)
          (h.does bits v runs few temps turn ls shown);
    }
