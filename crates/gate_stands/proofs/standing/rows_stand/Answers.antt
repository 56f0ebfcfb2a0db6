use Rattle.std.proofs.Common.{ap, ◌∙◌}
use Rattle.run_world.specs.Seen as seen
use Rattle.sc_world.specs.Known.{exit_rows}
use Rattle.gate_stands.proofs.Joining.{do_rows}
use Rattle.gate_stands.proofs.standing.rows_stand.Goals as goal

pub returns-clause-ok : goal.returns-clause-ok
returns-clause-ok c =
    do_rows (seen.env c.args.here.now).source (seen.env c.args.here.now).layout c.args.net.now c.exit_stands.new.net c.items_stand.new.net c.and.new.self
    c.args.store.now.locations.items c.args.called.now c.args.given.now c.exit_rows-rows.result.now _ _ _ c.requires.called c.in_ok-exit.ensures.grown
    c.in_ok-items.ensures.grown c.in_ok-r.ensures.grown (c.exit_rows-rows.ensures ∙ ap exit_rows c.as_slice.ensures) c.in_ok-exit.ensures.ok
    c.in_ok-items.ensures.ok c.in_ok-r.ensures.ok
