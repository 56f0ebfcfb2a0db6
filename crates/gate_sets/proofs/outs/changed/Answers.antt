use Rattle.gate_sets.proofs.Pointing.{is_changed}
use Rattle.gate_sets.proofs.outs.changed.Goals as goal

pub returns-clause-ok : goal.returns-clause-ok
returns-clause-ok c =
    is_changed _ _ _ c.args.bit c.in_ok-is_same.is_same.at c.one-none.result.pairs.items c.args.at.now.pairs.items _ c.in_ok-made.ensures.grown
    c.in_ok-is_same.ensures.ok c.one-none.ensures.points c.in_ok-made.ensures.ok
