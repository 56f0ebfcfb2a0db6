use Rattle.gate_fails.proofs.Erring.{is_erring}
use Rattle.gate_fails.proofs.errors.erring.Goals as goal

pub returns-clause-ok : goal.returns-clause-ok
returns-clause-ok c =
    is_erring _ _ _ c.args.bit c.chosen_bit-chosen.result.at _ c.one-null.result.pairs.items c.in_ok-made.made.pairs.items c.in_ok-made.ensures.grown
    c.chosen_bit-chosen.ensures c.one-null.ensures.points c.in_ok-made.ensures.ok
