use Rattle.gate_fails.proofs.Acting.{is_picked}
use Rattle.gate_fails.proofs.params.picked.Goals as goal

pub returns-clause-ok : goal.returns-clause-ok
returns-clause-ok c =
    is_picked _ _ _ c.args.bit c.args.n c.in_ok-chosen.chosen.at _ c.one-null.result.pairs.items c.in_ok-made.made.pairs.items c.in_ok-made.ensures.grown
    c.in_ok-chosen.ensures.ok c.one-null.ensures.points c.in_ok-made.ensures.ok
