-- An error at a target, and at those of all pairs of a set.
use Rattle.std.proofs.Common.{◌≡◌, ℕ, zero, suc, ◌+◌, ◌<◌, ◌≤◌, Bool, true, false, if◌then◌else◌, List, [], ◌∷◌, ◌++◌, length, take, get_or, refl, sym, ap, subst, arith}
use Rattle.std.proofs.lemmas.List.{take_more, take_all}
use Rattle.sc_base.specs.declared.pos.Pos.{Pos}
use Rattle.bit_net.specs.declared.nodes.Node.{Node}
use Rattle.bit_net.specs.Runs.{Runs, Grown}
use Rattle.gl_sets.specs.declared.pairs.Pair.{Pair}
use Rattle.gl_store.specs.declared.stores.Location.{Location}
use Rattle.sc_world.specs.Layout.{Layout, location, is_outer}
use Rattle.sc_world.specs.World.{World, Ended, Error, Inner, Env, ◌>>=◌, done}
use Rattle.gate_runs.specs.declared.ends.Ends.{Ends}
use Rattle.gate_runs.specs.Stands.{Does, Any, HasFailedWhere, ends_where}
use Rattle.gate_runs.proofs.Bind.{bind, does_done}
use Rattle.gate_steps.proofs.Known.{does_same}
use Rattle.gate_acts.specs.Acts.{acts_on, where_held}
use Rattle.gate_fails.specs.Errors.{FailsEach, FailsTarget, fail_target}
use Rattle.gate_fails.proofs.Stepping.{Agrees, does_agree, acts_none, acts_push}

-- How a run ends by an error at a location: callers know the location, or not.
abbrev end_at : Layout → ℕ → Ended
end_at p at = if is_outer (location p at) then Error at else Inner at

failed : (v choice : ℕ → Bool) (ns : List Node) (when at : ℕ) (old new : Ends) (p : Layout) (l : List Location) → Runs ns choice v
    → HasFailedWhere ns when at old new → Does v l old (ends_where (λ u. v when) (end_at p at)) l new (Any {A = Unit {0}})
failed v choice ns when at old new p l runs has = by (is_outer (location p at))
  where
    by : (b : Bool) → Does v l old (ends_where (λ u. v when) (if b then Error at else Inner at)) l new (Any {A = Unit {0}})
    by true = has.outer choice v runs l (λ u. v when) (λ w met. refl)
    by false = has.inner choice v runs l (λ u. v when) (λ w met. refl)

-- the gates end the run: that is what the run does, but for its trace
fail_agrees : (env : Env) (pos : Pos) (at : ℕ) (b : Bool) (w : World)
    → Agrees (ends_where (λ u. b) (end_at env.layout at) w) (where_held b (fail_target env pos (suc at)) w)
fail_agrees env pos at false w = (refl, refl)
fail_agrees env pos at true w = (refl, refl)

held_done : (b : Bool) (w : World) → done tt w ≡ where_held b (done tt) w
held_done true w = refl
held_done false w = refl

pub fails_null : (ns : List Node) (pair : Pair) (g : Ends) → pair.target ≡ 0 → FailsTarget ns pair g g
fails_null ns pair g e =
    record {
      does = λ choice v runs l env pos.
          does_same v l l g g (done tt) (where_held (v pair.guard.at) (fail_target env pos pair.target)) (Any {A = Unit {0}})
          (λ w. subst (λ t. done tt w ≡ where_held (v pair.guard.at) (fail_target env pos t) w) (sym e) (held_done (v pair.guard.at) w))
          (does_done v l g tt (Any {A = Unit {0}}) tt);
    }

pub fails_there : (ns : List Node) (pair : Pair) (at : ℕ) (g0 g1 : Ends) → pair.target ≡ suc at → HasFailedWhere ns pair.guard.at at g0 g1 → FailsTarget ns pair g0 g1
fails_there ns pair at g0 g1 e has =
    record {
      does = λ choice v runs l env pos.
          subst (λ t. Does v l g0 (where_held (v pair.guard.at) (fail_target env pos t)) l g1 (Any {A = Unit {0}})) (sym e)
          (does_agree v l l g0 g1 (ends_where (λ u. v pair.guard.at) (end_at env.layout at)) (where_held (v pair.guard.at) (fail_target env pos (suc at)))
          (Any {A = Unit {0}}) (fail_agrees env pos at (v pair.guard.at)) (failed v choice ns pair.guard.at at g0 g1 env.layout l runs has));
    }

-- Pairs, one after the other.

pub fails_none : (ns : List Node) (pairs : List Pair) (g : Ends) → FailsEach ns (take 0 pairs) g g
fails_none ns pairs g =
    record {
      does = λ choice v runs l env pos.
          does_same v l l g g (done tt) (acts_on v (fail_target env pos) []) (Any {A = Unit {0}}) (λ w. sym (acts_none v (fail_target env pos) w))
          (does_done v l g tt (Any {A = Unit {0}}) tt);
    }

pub fails_step : (n1 n2 : List Node) (i : ℕ) (pairs : List Pair) (d : Pair) (g0 g1 g2 : Ends) → i < length pairs → Grown n1 n2
    → FailsEach n1 (take i pairs) g0 g1 → FailsTarget n2 (get_or pairs i d) g1 g2 → FailsEach n2 (take (i + 1) pairs) g0 g2
fails_step n1 n2 i pairs d g0 g1 g2 low grown so_far one =
    subst (λ ps. FailsEach n2 ps g0 g2) (sym (take_more pairs i d low))
    (record {
      does = λ choice v runs l env pos.
          let f = fail_target env pos in
          let pair : Pair = get_or pairs i d in
          does_same v l l g0 g2 (acts_on v f (take i pairs) >>= λ u. where_held (v pair.guard.at) (f pair.target)) (acts_on v f (take i pairs ++ pair ∷ []))
          (Any {A = Unit {0}}) (λ w. sym (acts_push v f (take i pairs) pair w))
          (bind v l l l g0 g1 g2 (acts_on v f (take i pairs)) (λ u. where_held (v pair.guard.at) (f pair.target)) (Any {A = Unit {0}}) (Any {A = Unit {0}})
          (so_far.does choice v (grown.runs choice v runs) l env pos) (λ u good. one.does choice v runs l env pos));
    })

pub fails_all : (ns : List Node) (i : ℕ) (pairs : List Pair) (g0 g1 : Ends) → length pairs ≤ i → FailsEach ns (take i pairs) g0 g1 → FailsEach ns pairs g0 g1
fails_all ns i pairs g0 g1 high h = subst (λ ps. FailsEach ns ps g0 g1) (take_all i pairs high) h
