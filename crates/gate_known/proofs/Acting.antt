-- The steps of a known call once all that it has to do with is found.
use Rattle.std.proofs.Common.{◌≡◌, ℕ, zero, suc, ◌≤◌, Bool, true, false, not, ◌||◌, if◌then◌else◌, Option, Some, None, List, length, map, refl, sym, ◌∙◌, ap, subst, arith}
use Rattle.sc_base.specs.declared.pos.Pos.{Pos}
use Rattle.bit_net.specs.declared.nodes.Node.{Node}
use Rattle.bit_net.specs.Runs.{Runs, Grown, Gives}
use Rattle.gl_store.specs.declared.values.Val.{Val}
use Rattle.gl_store.specs.declared.stores.Location.{Location}
use Rattle.gl_store.specs.Meets.{Meets, locations_top}
use Rattle.run_store.specs.Concrete.{Cell}
use Rattle.sum_rows.specs.declared.row.Gives.TheVariants as gives
use Rattle.sum_rows.specs.declared.row.State.{State}
use Rattle.sum_rows.specs.declared.row.State.TheVariants as state
use Rattle.sc_world.specs.declared.run.Reason.TheVariants as reason
use Rattle.sc_world.specs.Tree.{Ty, is_integer, is_pointer, int_bits}
use Rattle.sc_world.specs.Source.{Source}
use Rattle.sc_world.specs.Layout.{Layout, Occurrence}
use Rattle.sc_world.specs.World.{World, Env, ◌>>=◌, goes_on, done, aside, unless, bit_at, number_at, target_or_null}
use Rattle.sc_world.specs.Eval.{fails}
use Rattle.sc_world.specs.Known as known
use Rattle.sc_world.specs.Known.{Acting, Locked, Outed, acts, acts_as, acts_unless, effects, first_error, given_by, given_int, given_nothing, given_pointer, mark_if, meet_twice, param_spot, params_act, rows_stand, same_state, set_outs, set_states, set_writes, state_after}
use Rattle.gate_runs.specs.declared.ends.Ends.{Ends}
use Rattle.gate_runs.specs.Stands.{Does, Any}
use Rattle.gate_runs.proofs.Bind.{bind, does_done}
use Rattle.gate_steps.specs.Steps.{GoesOnWhere}
use Rattle.gate_steps.proofs.Known.{does_same}
use Rattle.gate_places.specs.Places.{env_of}
use Rattle.gate_paths.specs.Alias.{MeetTwice}
use Rattle.gate_rows.specs.declared.given.Given.{Given}
use Rattle.gate_rows.specs.Given.{IsGiven, is_kind}
use Rattle.layout_base.specs.Seen.{occurrence_of}
use Rattle.gate_states.specs.declared.called.Called.{Called}
use Rattle.gate_states.specs.Called.{acting_of}
use Rattle.gate_stands.specs.Standing.{RowsStand, Tells}
use Rattle.gate_fails.specs.Errors.{DoesErrEach, errs_each}
use Rattle.gate_fails.specs.Params.{DoesParams}
use Rattle.gate_sets.specs.States.{SetsStates}
use Rattle.gate_sets.specs.Outs.{SetsOuts}
use Rattle.gate_sets.specs.Writes.{SetsWrites}
use Rattle.gate_known.specs.Marked.{IsShown, MarksGiven}
use Rattle.gate_known.specs.Effects.{DoesActs, DoesActsAs, DoesEffects, GoesOnApart, IsSeen, are_apart}

-- No two items are at one location.

done_last : (b : Bool) (w : World) → goes_on (unless b reason.Alias w) (λ u. done tt) ≡ unless b reason.Alias w
done_last true w = refl
done_last false w = refl

-- what is known of a run that goes on is forgotten
bind_any : (v : ℕ → Bool) (l : List Location) (old new : Ends) (b : Bool) → Does v l old (unless b reason.Alias) l new (λ u. v new.live.at ≡ true → b ≡ true)
    → Does v l old (unless b reason.Alias) l new (Any {A = Unit {0}})
bind_any v l old new b d =
    does_same v l l old new (unless b reason.Alias >>= λ u. done tt) (unless b reason.Alias) (Any {A = Unit {0}}) (λ w. done_last b w)
    (bind v l l l old new new (unless b reason.Alias) (λ u. done tt) (λ u. v new.live.at ≡ true → b ≡ true) (Any {A = Unit {0}}) d
    (λ u good. does_done v l new tt (Any {A = Unit {0}}) tt))

pub goes_apart : (n1 n2 n3 n4 ns : List Node) (c : Called) (locks outs met apart : ℕ) (old new : Ends) → Grown n1 n2 → Grown n2 n3 → Grown n3 n4 → Grown n4 ns
    → MeetTwice n1 c.locks.now locks → MeetTwice n2 c.outs.now outs → Gives n3 met (λ choice v. v locks || v outs) → Gives n4 apart (λ choice v. not (v met))
    → GoesOnWhere ns apart reason.Alias old new → GoesOnApart ns c old new
goes_apart n1 n2 n3 n4 ns c locks outs met apart old new grown1 grown2 grown3 grown4 is_locks is_outs is_met is_apart goes =
    record {
      does = λ choice v runs l ls locked os outed.
          let r4 = grown4.runs choice v runs in
          let r3 = grown3.runs choice v r4 in
          let r2 = grown2.runs choice v r3 in
          let r1 = grown1.runs choice v r2 in
          let holds : v apart ≡ are_apart ls os =
          is_apart.value choice v r4
          ∙ ap not (is_met.value choice v r3 ∙ ap (λ b. b || v outs) (is_locks.locks choice v r1 ls locked)
          ∙ ap (λ b. meet_twice (map (λ x. x.at) ls) || b) (is_outs.outs choice v r2 os outed)) in
          bind_any v l old new (are_apart ls os) (goes.does choice v runs l (are_apart ls os) holds);
    }

-- The object of what is given: that to which the pointer leads, if it is fresh or another one.

abbrev IsObjectOf : Option known.Given → Type 0
IsObjectOf None = Unit {0}
IsObjectOf (Some g) = (same_state g.kind state.Fresh || same_state g.kind state.Other) ≡ true → g.value ≡ target_or_null g.object

pointer_object : (m : ℕ) (o : Option ℕ) → IsObjectOf (given_pointer m o)
pointer_object zero o = λ e. cc
pointer_object (suc zero) o = λ e. refl
pointer_object (suc (suc zero)) o = λ e. refl
pointer_object (suc (suc (suc n))) o = tt

object_by : (i p : Bool) (width n m : ℕ) (o : Option ℕ)
    → IsObjectOf (if i then Some (given_int width n) else (if p then given_pointer m o else Some given_nothing))
object_by true p width n m o = λ e. cc
object_by false true width n m o = pointer_object m o
object_by false false width n m o = λ e. cc

given_object : (env : Env) (o : Occurrence) (t : Ty) (g : known.Given) → given_by env o t ≡ Some g
    → (same_state g.kind state.Fresh || same_state g.kind state.Other) ≡ true → g.value ≡ target_or_null g.object
given_object env o t g e =
    subst IsObjectOf e
    (object_by (is_integer t) (is_pointer t) (int_bits env.source.widths t) (number_at env.choice o.bit (int_bits env.source.widths t))
    (number_at env.choice o.bit 2) o.object)

-- The effects, one after the other.

pub does_effects : (s : Source) (p : Layout) (n1 n2 n3 n4 ns : List Node) (c : Called) (r : Given) (l0 l1 l2 l3 l4 l5 : List Location) (g0 g1 : Ends)
    → Grown n1 n2 → Grown n2 n3 → Grown n3 n4 → Grown n4 ns
    → SetsStates s p n1 g0 c.locks.now l0 l1 → SetsOuts s p n2 g0 c.outs.now l1 l2 → SetsWrites s p n3 g0 c.writes.now l2 l3
    → DoesParams p n4 c l3 l4 g0 g1 → MarksGiven ns g1 r l4 l5 → DoesEffects s p ns c r l0 l5 g0 g1
does_effects s p n1 n2 n3 n4 ns c r l0 l1 l2 l3 l4 l5 g0 g1 grown1 grown2 grown3 grown4 states outs writes params marks =
    record {
      top = marks.top;
      same = marks.same ∙ (params.same ∙ (writes.same ∙ (outs.same ∙ states.same)));
      does = λ bits v runs few temps turn cs ls os ws seen g shown.
          let env = env_of s p bits temps turn in
          let a : Acting = acting_of c cs ls os ws in
          let r4 = grown4.runs (bit_at bits) v runs in
          let r3 = grown3.runs (bit_at bits) v r4 in
          let r2 = grown2.runs (bit_at bits) v r3 in
          let r1 = grown1.runs (bit_at bits) v r2 in
          let after : List ℕ = map (state_after env) ls in
          let behind_params = λ (u : Unit {0}). mark_if g.object g.kind >>= λ u. done g.value in
          let behind_writes = λ (u : Unit {0}). params_act env cs (param_spot a) c.summary.now.items >>= behind_params in
          let behind_outs = λ (u : Unit {0}). set_writes env ws >>= behind_writes in
          let behind_states = λ (u : Unit {0}). set_outs env os >>= behind_outs in
          bind v l0 l1 l5 g0 g0 g1 (set_states env after ls) behind_states (Any {A = Unit {0}}) (Meets v r.val)
          (states.does bits v r1 few temps turn ls seen.locks)
          (λ u good. bind v l1 l2 l5 g0 g0 g1 (set_outs env os) behind_outs (Any {A = Unit {0}}) (Meets v r.val)
          (outs.does bits v r2 few temps turn os seen.outs)
          (λ u good. bind v l2 l3 l5 g0 g0 g1 (set_writes env ws) behind_writes (Any {A = Unit {0}}) (Meets v r.val)
          (writes.does bits v r3 few temps turn ws seen.writes)
          (λ u good. bind v l3 l4 l5 g0 g1 g1 (params_act env cs (param_spot a) c.summary.now.items) behind_params (Any {A = Unit {0}}) (Meets v r.val)
          (params.does bits v r4 few s temps turn cs seen.args ls os ws)
          (λ u good. bind v l4 l5 l5 g1 g1 g1 (mark_if g.object g.kind) (λ u. done g.value) (Any {A = Unit {0}}) (Meets v r.val)
          (marks.does (bit_at bits) v runs g shown)
          (λ u good. does_done v l5 g1 g.value (Meets v r.val) shown.value)))));
    }

-- Where no item errs: the rows are asked, and then come the effects. Where the choice names nothing, no row stands.

pub does_as : (s : Source) (p : Layout) (n1 n2 n3 ns : List Node) (t : Ty) (c : Called) (r : Given) (gate : ℕ) (l0 l1 : List Location) (g0 g1 g2 : Ends)
    → Grown n1 n2 → Grown n2 n3 → Grown n3 ns → IsGiven s p n1 (occurrence_of c.occurrence) t r → RowsStand s p n2 c r l0 gate
    → GoesOnWhere n3 gate reason.NoRow g0 g1 → DoesEffects s p ns c r l0 l1 g1 g2 → DoesActsAs s p ns t c l0 l1 g0 g2 r.val
does_as s p n1 n2 n3 ns t c r gate l0 l1 g0 g1 g2 grown1 grown2 grown3 is stand goes acts =
    record {
      below = omega (arith, is.below, grown1.longer, grown2.longer, grown3.longer);
      kind = is.kind;
      top = acts.top;
      same = acts.same;
      does = λ bits v runs few temps turn cs ls os ws seen.
          let env = env_of s p bits temps turn in
          by bits v runs few temps turn cs ls os ws seen (given_by env (occurrence_of c.occurrence) t) refl;
    }
  where
    by : (bits : List Bool) (v : ℕ → Bool) → Runs ns (bit_at bits) v → length bits ≤ p.bits → (temps : List Cell) (turn : ℕ)
        → (cs : List Cell) (ls : List Locked) (os : List Outed) (ws : List known.Written) → IsSeen v c cs ls os ws
        → (x : Option known.Given) → given_by (env_of s p bits temps turn) (occurrence_of c.occurrence) t ≡ x
        → Does v l0 g0 (acts_as (env_of s p bits temps turn) (acting_of c cs ls os ws) x) l1 g2 (Meets v r.val)
    by bits v runs few temps turn cs ls os ws seen (Some g) e =
        let env = env_of s p bits temps turn in
        let a : Acting = acting_of c cs ls os ws in
        let r3 = grown3.runs (bit_at bits) v runs in
        let r2 = grown2.runs (bit_at bits) v r3 in
        let r1 = grown1.runs (bit_at bits) v r2 in
        let told = is.gives bits v r1 few temps turn g e in
        let shown : IsShown v r g = record {
          value = told.0;
          fresh = told.1.1 state.Fresh;
          other = told.1.1 state.Other;
          object = given_object env (occurrence_of c.occurrence) t g e;
        } in
        let tells : Tells v r g = record { result = told.1.0; kind = told.1.1 } in
        let behind = λ (u : Unit {0}). effects env a g (map (state_after env) ls) in
        bind v l0 l0 l1 g0 g0 g2 (rows_stand env a g) (λ b. unless b reason.NoRow >>= behind) (λ b. v gate ≡ b) (Meets v r.val)
        (stand.does bits v r2 few g0 temps turn cs seen.args ls seen.locks os seen.outs ws g tells)
        (λ b holds. bind v l0 l0 l1 g0 g1 g2 (unless b reason.NoRow) behind (λ u. v g1.live.at ≡ true → b ≡ true) (Meets v r.val)
        (goes.does (bit_at bits) v r3 l0 b holds)
        (λ u good. acts.does bits v runs few temps turn cs ls os ws seen g shown))
    by bits v runs few temps turn cs ls os ws seen None e =
        let env = env_of s p bits temps turn in
        let a : Acting = acting_of c cs ls os ws in
        let r3 = grown3.runs (bit_at bits) v runs in
        let r2 = grown2.runs (bit_at bits) v r3 in
        let r1 = grown1.runs (bit_at bits) v r2 in
        let none = is.nothing bits v r1 few temps turn e in
        let some = is.some bits v r1 few in
        let g : known.Given = record { value = some.0; result = gives.Nothing; kind = state.Nil; object = None } in
        let shown : IsShown v r g = record { value = some.1; fresh = none state.Fresh; other = none state.Other; object = λ off. cc } in
        let behind = λ (u : Unit {0}). effects env a g (map (state_after env) ls) in
        does_same v l0 l1 g0 g2 (unless false reason.NoRow >>= behind) (aside {A = Cell} reason.NoRow) (Meets v r.val) (λ w. refl)
        (bind v l0 l0 l1 g0 g1 g2 (unless false reason.NoRow) behind (λ u. v g1.live.at ≡ true → false ≡ true) (Meets v r.val)
        (goes.does (bit_at bits) v r3 l0 false (stand.nothing (bit_at bits) v r2 none))
        (λ u good. acts.does bits v runs few temps turn cs ls os ws seen g shown))

-- The call: no two items meet, no item errs, and then what it does.

abbrev FirstErrorEnds : Type 0
FirstErrorEnds =
    (env : Env) (pos : Pos) (t : Ty) (a : Acting) (ls : List Locked) (w : World)
    → goes_on (errs_each env (fails env pos) a ls w) (λ u. acts_as env a (given_by env a.occurrence t))
    ≡ acts_unless env (fails env pos) t a (first_error env ls) w

pub does_acts : (s : Source) (p : Layout) (n1 n2 ns : List Node) (t : Ty) (c : Called) (r : Val) (l0 l1 l2 : List Location) (g0 g1 g2 g3 : Ends)
    → Grown n1 n2 → Grown n2 ns → FirstErrorEnds → GoesOnApart n1 c g0 g1 → DoesErrEach s p n2 c l0 l1 g1 g2
    → DoesActsAs s p ns t c l1 l2 g2 g3 r → DoesActs s p ns t c l0 l2 g0 g3 r
does_acts s p n1 n2 ns t c r l0 l1 l2 g0 g1 g2 g3 grown1 grown2 law apart errs last =
    record {
      below = last.below;
      kind = last.kind;
      top = last.top;
      same = last.same ∙ errs.same;
      does = λ bits v runs few temps turn pos cs ls os ws seen.
          let env = env_of s p bits temps turn in
          let a : Acting = acting_of c cs ls os ws in
          let r2 = grown2.runs (bit_at bits) v runs in
          let r1 = grown1.runs (bit_at bits) v r2 in
          let given = λ (u : Unit {0}). acts_as env a (given_by env a.occurrence t) in
          bind v l0 l0 l2 g0 g1 g3 (unless (are_apart ls os) reason.Alias) (λ u. acts_unless env (fails env pos) t a (first_error env ls))
          (Any {A = Unit {0}}) (Meets v r)
          (apart.does (bit_at bits) v r1 l0 ls seen.locks os seen.outs)
          (λ u good. does_same v l0 l2 g1 g3 (errs_each env (fails env pos) a ls >>= given) (acts_unless env (fails env pos) t a (first_error env ls)) (Meets v r)
          (λ w. law env pos t a ls w)
          (bind v l0 l1 l2 g1 g2 g3 (errs_each env (fails env pos) a ls) given (Any {A = Unit {0}}) (Meets v r)
          (errs.does bits v r2 few temps turn pos cs seen.args ls seen.locks os ws)
          (λ u good. last.does bits v runs few temps turn cs ls os ws seen)));
    }
