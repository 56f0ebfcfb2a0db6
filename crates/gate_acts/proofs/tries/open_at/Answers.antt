use Rattle.std.proofs.Common.{◌+◌, length, ◌∙◌, ap}
use Rattle.run_world.specs.Seen as seen
use Rattle.gate_acts.proofs.Taking.{open_test}
use Rattle.gate_acts.proofs.tries.open_at.Goals as goal

pub returns-clause-ok : goal.returns-clause-ok
returns-clause-ok c =
    open_test _ _ _ c.args.target c.state_cell.result c.word_at.result.now _ _ _ c.in_ok-r.ensures.grown
    (c.state_cell.ensures ∙ ap (λ k. length (seen.env c.args.here.now).layout.locations + k) c.saturating_sub-at.ensures) c.word_at.ensures c.in_ok-is_locked.ensures.ok c.in_ok-r.ensures.ok
