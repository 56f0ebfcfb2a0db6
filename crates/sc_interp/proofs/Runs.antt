-- The room of a run, what its calls read, and how it ends.
use Rattle.std.proofs.Common.{◌≡◌, ℕ, ◌+◌, ◌*◌, ◌<◌, ◌≤◌, length, map, vec_capacity}
use Rattle.std.proofs.Common.{sym, ap, ◌∙◌, subst, arith}
use Rattle.std.proofs.lemmas.List.{length-map}
use Rattle.std.specs.Prelude.{Result, Ok, Err, List, Bool}
use Rattle.run_store.specs.Concrete.{Cell}
use Rattle.sc_world.specs.Source.{Source}
use Rattle.sc_world.specs.Layout.{Layout}
use Rattle.sc_world.specs.World as spec
use Rattle.sc_world.specs.World.{Env, goes_on, entry_world}
use Rattle.sc_world.specs.Exec.{exec, finished, env_of, run}
use Rattle.run_world.specs.declared.pointers.Here.{Here}
use Rattle.run_world.specs.declared.value.Value.{Value}
use Rattle.run_world.specs.declared.world.Ended.{Ended}
use Rattle.run_world.specs.declared.world.World.{World}
use Rattle.run_world.specs.Seen.{Does, cell, place, env, world}
use Rattle.run_paths.specs.Seen.{FitsAll}
use Rattle.run_stmts.specs.Room.{Fits}
use Rattle.run_laws.specs.Proper.{IsProper}
use Rattle.run_answers.specs.Seen.{ended}
use Rattle.sc_interp.specs.Cells.{KeepsCells}

-- the first turn has the number 0
pub fits_first : (turn room : ℕ) → turn ≡ 0 → room + 1 < 4294967296 → Fits turn room
fits_first turn room zero low = rw zero (omega (arith, low))

-- at entry nothing has happened yet
pub entered_empty : (w : World) (s : Source) (p : Layout) (choice : List Bool) → world w ≡ entry_world s p choice
    → length w.trace.items ≡ 0
unfolding world
entered_empty w s p choice e = ap (λ (v : spec.World). length v.trace) e

-- the run of a body from the world at entry is the run of the function
pub run_from : (h : Here) (w : spec.World) → h.turn ≡ 0
    → w ≡ entry_world (env h).source (env h).layout (env h).choice
    → goes_on (exec (env h).source.body (env h) w) (finished (env h).source)
    ≡ run (env h).source (env h).layout (env h).choice
unfolding env
run_from h w zero e =
    let at : env h ≡ env_of (env h).source (env h).layout (env h).choice =
    ap (λ (t : ℕ). record (env h) { turn = t }) zero in
    ap (λ (x : Env). goes_on (exec (env h).source.body x w) (finished (env h).source)) at
    ∙ ap (λ (v : spec.World). goes_on
    (exec (env h).source.body (env_of (env h).source (env h).layout (env h).choice) v) (finished (env h).source)) e

pub ruleset run_steps = (fits_first, entered_empty, run_from)

-- calls that read the same have room for the same summaries
pub fits_still : (r s : ℕ → Env) (most : ℕ) → r ≡ s → FitsAll (r 0).source most → FitsAll (s 0).source most
fits_still r s most e fits = subst (λ (x : ℕ → Env). FitsAll (x 0).source most) e fits

-- how a run ends, as an outcome
pub run_ended : (due : Result Cell spec.Ended × spec.World) (r : Result Value Ended) (w : spec.World)
    → Does cell due r w → due ≡ (ended r, w)
run_ended due (Ok v) w done = done
run_ended due (Err e) w done = done

pub ruleset ending_steps = (run_ended)

-- The room for the next run.

twice : (m n : ℕ) → m ≡ n + n → 2 * n ≤ m
twice m n e = omega (arith, e)

-- proper worlds have two cells for each location
pub cells_kept : (s : Source) (p : Layout) → ((choice : List Bool) → IsProper s p (run s p choice).1) → KeepsCells s p
unfolding KeepsCells
cells_kept s p proper =
    λ choice. twice (length (run s p choice).1.places) (length p.locations) (proper choice).long

-- so many cells have room for as many slots
cells_room : (due : Result Cell spec.Ended × spec.World) (r : Result Value Ended) (w : World) (n : ℕ)
    → n ≤ length due.1.places → Does cell due r (world w) → n ≤ vec_capacity w.slots
unfolding world
cells_room due r w n few done =
    let same : length due.1.places ≡ length (map place w.slots.items) =
    ap (λ (x : Result Cell spec.Ended × spec.World). length x.1.places) (run_ended due r (world w) done) in
    omega (arith, few, same, length-map w.slots.items place, w.slots.ok.0, w.slots.ok.1)

few_cells : (due is : Result Cell spec.Ended × spec.World) (n : ℕ) → due ≡ is → n ≤ length is.1.places
    → n ≤ length due.1.places
few_cells due is n same few = subst (λ (x : Result Cell spec.Ended × spec.World). n ≤ length x.1.places) (sym same) few

-- behind the run of a body from the world at entry there is room for the slots of another run
pub slots_stay : (h : Here) (w : spec.World) (r : Result Value Ended) (left : World) → h.turn ≡ 0
    → w ≡ entry_world (env h).source (env h).layout (env h).choice → KeepsCells (env h).source (env h).layout
    → Does cell (goes_on (exec (env h).source.body (env h) w) (finished (env h).source)) r (world left)
    → 2 * length (env h).layout.locations ≤ vec_capacity left.slots
unfolding KeepsCells
slots_stay h w r left zero entered keeps done =
    cells_room (goes_on (exec (env h).source.body (env h) w) (finished (env h).source)) r left
    (2 * length (env h).layout.locations)
    (few_cells (goes_on (exec (env h).source.body (env h) w) (finished (env h).source))
    (run (env h).source (env h).layout (env h).choice) (2 * length (env h).layout.locations)
    (run_from h w zero entered) (keeps (env h).choice)) done
