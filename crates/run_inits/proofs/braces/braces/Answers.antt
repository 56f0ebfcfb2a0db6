-- All values, and then all stores.
use Rattle.std.proofs.Common.{◌≡◌, map, ap, sym, ◌∙◌}
use Rattle.std.proofs.lemmas.Result.{err_from_is_err_and}
use Rattle.run_world.specs.Seen.{world, env, how_ended}
use Rattle.run_inits.specs.Seen.{givens_of}
use Rattle.run_inits.specs.Stores.{due_of, stores}
use Rattle.run_inits.proofs.StoreLaws.{braces_end, braces_done}
use Rattle.run_inits.proofs.braces.braces.Goals as goal

pub returns-in_err-gather_all-clause-initialised : goal.returns-in_err-gather_all-clause-initialised
returns-in_err-gather_all-clause-initialised g c =
    let p = err_from_is_err_and c.from_residual.result c.from_residual.ensures.1 in
    rw (p.1, p.2)
    (braces_end (env c.args.here.now) c.args.at (givens_of c.args.here.now c.args.items.now)
    (how_ended c.in_err-gather_all.field-0.0) (world c.args.world.now) (world c.gather_all.new.world)
    c.in_err-gather_all.ensures.gathered)

pub returns-clause-initialised : goal.returns-clause-initialised
returns-clause-initialised g c =
    braces_done (env c.args.here.now) c.args.at (givens_of c.args.here.now c.args.items.now)
    (map due_of c.gather_all.new.space.stores.items) (world c.args.world.now) (world c.gather_all.new.world)
    (world c.clear_cells.new.world) (world c.make_stores.new.world) c.in_ok-gather_all.ensures.gathered
    c.clear_cells.ensures.cleared
    (ap (λ xs. stores (map due_of xs) (world c.clear_cells.new.world)) (sym c.as_slice.ensures.value)
    ∙ c.make_stores.ensures.stored)
