-- All rows that a known call needs, in a run.
use Rattle.std.proofs.Common.{◌≡◌, ℕ, ◌+◌, ◌<◌, ◌≤◌, Bool, true, false, ◌&&◌, List, [], ◌∷◌, length, Result, Ok, Err, refl, sym, ◌∙◌, ap, subst}
use Rattle.std.specs.Prelude.{Option, Some, None}
use Rattle.std.specs.List.{list_all}
use Rattle.bit_net.specs.declared.nodes.Node.{Node}
use Rattle.bit_net.specs.Runs.{Runs, Grown, Gives}
use Rattle.bit_words.specs.Number.{number}
use Rattle.gl_store.specs.declared.stores.Location.{Location}
use Rattle.gl_store.specs.Meets.{MeetsAll}
use Rattle.run_store.specs.Concrete.{Cell, Place}
use Rattle.sum_rows.specs.declared.row.Gives.{Gives as Results}
use Rattle.sum_rows.specs.declared.row.ItemRows.{ItemRows}
use Rattle.sum_rows.specs.declared.row.Row.{Row}
use Rattle.sum_rows.specs.declared.row.State.{State}
use Rattle.sum_rows.specs.declared.row.State.TheVariants as state
use Rattle.sc_world.specs.Source.{Source}
use Rattle.sc_world.specs.Layout.{Layout}
use Rattle.sc_world.specs.World.{World, Ended, Run, ◌>>=◌, goes_on, done, Env, bit_at}
use Rattle.sc_world.specs.Known as known
use Rattle.sc_world.specs.Known.{Locked, Outed, count_items, exit_rows, given_number, is_lock, locks_stand, out_stands, params_stand, row, rows_stand, stands}
use Rattle.gate_runs.specs.declared.ends.Ends.{Ends}
use Rattle.gate_runs.specs.Stands.{Does}
use Rattle.gate_places.specs.Places.{env_of}
use Rattle.gate_paths.specs.declared.gathered.Found.{Found}
use Rattle.gate_paths.specs.Gathered.{AreFound, Shows, found_list, put_locked, put_out, where_item}
use Rattle.gate_rows.specs.declared.given.Given.{Given}
use Rattle.gate_rows.specs.declared.sought.Outcome.{Outcome}
use Rattle.gate_rows.specs.Sought.{gives_of}
use Rattle.gate_states.specs.declared.called.Called.{Called}
use Rattle.gate_states.specs.Called.{IsCalled, acting_of}
use Rattle.gate_states.proofs.Reading.{does_read}
use Rattle.gate_stands.specs.Items.{LocksStand, OutsStand, all_stand, lock_at_stands, out_at_stands}
use Rattle.gate_stands.specs.Params.{ParamsStand}
use Rattle.gate_stands.specs.Exits.{ExitStands}
use Rattle.gate_stands.specs.Standing.{ItemsStand, RowsStand, Tells}

-- Items in a run.

next_run : (a : Bool) (r : Result Bool Ended × World) (b : Bool) (w : World) → r ≡ (Ok b, w) → goes_on r (λ c. done (a && c)) ≡ (Ok (a && b), w)
next_run a r b w e = ap (λ x. goes_on x (λ c. done (a && c))) e

locks_run : (env : Env) (g : ℕ) (r : Results) (v : ℕ → Bool) (fs : List Found) (os : List (Option ℕ)) (w : World) → AreFound v where_item fs os
    → locks_stand env g r (found_list put_locked fs os) w ≡ (Ok (all_stand (lock_at_stands env w.places g r) fs os), w)
locks_run env g r v [] [] w h = refl
locks_run env g r v (f ∷ fs) (None ∷ os) w h = locks_run env g r v fs os w h.1
locks_run env g r v (f ∷ fs) (Some at ∷ os) w h =
    next_run (lock_at_stands env w.places g r f (Some at)) (locks_stand env g r (found_list put_locked fs os) w)
    (all_stand (lock_at_stands env w.places g r) fs os) w (locks_run env g r v fs os w h.1)
locks_run env g r v [] (o ∷ os) w h = absurd h
locks_run env g r v (f ∷ fs) [] w h = absurd h

outs_all : (env : Env) (g : ℕ) (r : Results) (v : ℕ → Bool) (fs : List Found) (os : List (Option ℕ)) → AreFound v where_item fs os
    → list_all (out_stands env g r) (found_list put_out fs os) ≡ all_stand (out_at_stands env g r) fs os
outs_all env g r v [] [] h = refl
outs_all env g r v (f ∷ fs) (None ∷ os) h = outs_all env g r v fs os h.1
outs_all env g r v (f ∷ fs) (Some at ∷ os) h = ap (λ b. out_at_stands env g r f (Some at) && b) (outs_all env g r v fs os h.1)
outs_all env g r v [] (o ∷ os) h = absurd h
outs_all env g r v (f ∷ fs) [] h = absurd h

-- All items but the end.

pub are_items : (s : Source) (p : Layout) (n0 n1 n2 n3 n4 ns : List Node) (l : List Location) (c : Called) (result : Outcome) (spot : ℕ)
    (items : List ItemRows) (locks params outs rest gate : ℕ)
    → IsCalled n0 c → Grown n0 n1 → Grown n1 n2 → Grown n2 n3 → Grown n3 n4 → Grown n4 ns → items ≡ c.summary.now.items
    → spot ≡ c.occurrence.spot + count_items is_lock items
    → LocksStand s p n1 l c.given.now result c.locks.now locks → ParamsStand s p n2 c.args.now c.given.now result spot items params
    → OutsStand s p n3 c.given.now result c.outs.now outs
    → Gives n4 rest (λ choice v. v params && v outs) → Gives ns gate (λ choice v. v locks && v rest) → ItemsStand s p ns c result l gate
are_items s p n0 n1 n2 n3 n4 ns l c result spot items locks params outs rest gate called g01 g12 g23 g34 g4 same here are_locks are_params are_outs both all =
    record {
      below = all.below;
      value = λ bits v runs few temps turn cs met ps store ls at os to.
          let env = env_of s p bits temps turn in
          let r4 = g4.runs (bit_at bits) v runs in
          let r3 = g34.runs (bit_at bits) v r4 in
          let r2 = g23.runs (bit_at bits) v r3 in
          let r1 = g12.runs (bit_at bits) v r2 in
          let n : ℕ = given_number cs in
          let r : Results = gives_of v result in
          let given : number v c.given.now ≡ n = called.given.value (bit_at bits) v (g01.runs (bit_at bits) v r1) cs met in
          let k : ℕ = c.occurrence.spot + count_items is_lock c.summary.now.items in
          let place : spot ≡ k = here ∙ ap (λ xs. c.occurrence.spot + count_items is_lock xs) same in
          let first : v locks ≡ all_stand (lock_at_stands env ps n r) c.locks.now ls =
          are_locks.value bits v r1 few temps turn ps store ls at ∙ ap (λ m. all_stand (lock_at_stands env ps m r) c.locks.now ls) given in
          let second : v params ≡ params_stand env cs n r k c.summary.now.items =
          are_params.value bits v r2 few temps turn cs met ∙ ap (λ m. params_stand env cs m r spot items) given ∙ ap (λ j. params_stand env cs n r j items) place
          ∙ ap (params_stand env cs n r k) same in
          let third : v outs ≡ all_stand (out_at_stands env n r) c.outs.now os =
          are_outs.value bits v r3 few temps turn os to ∙ ap (λ m. all_stand (out_at_stands env m r) c.outs.now os) given in
          all.value (bit_at bits) v runs ∙ ap (λ b. b && v rest) first
          ∙ ap (λ b. all_stand (lock_at_stands env ps n r) c.locks.now ls && b)
          (both.value (bit_at bits) v r4 ∙ ap (λ b. b && v outs) second ∙ ap (λ b. params_stand env cs n r k c.summary.now.items && b) third);
    }

-- All rows.

last_run : (e rest : Bool) (m : Result Bool Ended × World) (b : Bool) (w : World) → m ≡ (Ok b, w)
    → goes_on m (λ c. done (e && (c && rest))) ≡ (Ok (e && (b && rest)), w)
last_run e rest m b w is = ap (λ x. goes_on x (λ c. done (e && (c && rest)))) is

pub do_rows : (s : Source) (p : Layout) (n0 n1 n2 ns : List Node) (l : List Location) (c : Called) (r : Given) (rows : List Row) (exit items gate : ℕ)
    → IsCalled n0 c
    → Grown n0 n1 → Grown n1 n2 → Grown n2 ns → rows ≡ exit_rows c.summary.now.items → ExitStands n1 c.given.now r rows exit
    → ItemsStand s p n2 c r.outcome l items
    → Gives ns gate (λ choice v. v exit && v items) → RowsStand s p ns c r l gate
do_rows s p n0 n1 n2 ns l c r rows exit items gate called g01 g12 g2 same at_exit are both =
    record {
      below = both.below;
      does = λ bits v runs few gates temps turn cs met ls at os to ws g told.
          let env = env_of s p bits temps turn in
          let a = acting_of c cs ls os ws in
          let r2 = g2.runs (bit_at bits) v runs in
          let r1 = g12.runs (bit_at bits) v r2 in
          let n : ℕ = given_number cs in
          let k : ℕ = c.occurrence.spot + count_items is_lock c.summary.now.items in
          let e : Bool = stands (row n state.Nil g.result g.kind) (exit_rows c.summary.now.items) in
          let rest : Bool = params_stand env cs n g.result k c.summary.now.items && list_all (out_stands env n g.result) os in
          let given : number v c.given.now ≡ n = called.given.value (bit_at bits) v (g01.runs (bit_at bits) v r1) cs met in
          let first : v exit ≡ e =
          at_exit.named (bit_at bits) v r1 g.kind told.kind ∙ ap (λ m. stands (row m state.Nil (gives_of v r.outcome) g.kind) rows) given
          ∙ ap (λ y. stands (row n state.Nil y g.kind) rows) told.result ∙ ap (stands (row n state.Nil g.result g.kind)) same in
          does_read v l gates (rows_stand env a g)
          (λ w. e && (all_stand (lock_at_stands env w.places n g.result) c.locks.now at.places && rest))
          (λ b. v gate ≡ b)
          (λ w.
          last_run e rest (locks_stand env n g.result ls w) (all_stand (lock_at_stands env w.places n g.result) c.locks.now at.places) w
          (ap (λ xs. locks_stand env n g.result xs w) at.is ∙ locks_run env n g.result v c.locks.now at.places w at.found))
          (λ w store.
          both.value (bit_at bits) v runs ∙ ap (λ b. b && v items) first
          ∙ ap (λ b. e && b)
          (are.value bits v r2 few temps turn cs met w.places store at.places at.found to.places to.found
          ∙ ap (λ y.
          all_stand (lock_at_stands env w.places n y) c.locks.now at.places
          && (params_stand env cs n y k c.summary.now.items && all_stand (out_at_stands env n y) c.outs.now to.places)) told.result
          ∙ ap (λ b. all_stand (lock_at_stands env w.places n g.result) c.locks.now at.places && (params_stand env cs n g.result k c.summary.now.items && b))
          (sym (ap (list_all (out_stands env n g.result)) to.is ∙ outs_all env n g.result v c.outs.now to.places to.found))));
      nothing = λ choice v runs told.
          let r1 = g12.runs choice v (g2.runs choice v runs) in
          both.value choice v runs ∙ ap (λ b. b && v items) (at_exit.nothing choice v r1 told);
    }
