use Rattle.std.proofs.Common.{sym, ◌∙◌}
use Rattle.scopes.proofs.FrameLemmas.{drop_next}
use Rattle.scopes.proofs.scopes.drop_off.Goals as goal

pub loop-off-preserved : goal.loop-off-preserved
loop-off-preserved g c =
    let end = rw c.loop-off.invariant at c.pop.ensures.empty in
    drop_next c.loop-off._off c.args.stack.now c.pop.result c.pop.new.self (sym c.loop-off.invariant ∙ c.pop.ensures.top) end
