use Rattle.bit_net.proofs.Growth.{Grown-refl}
use Rattle.layout_base.specs.Seen.{spot_of}
use Rattle.gate_sets.proofs.Pointing.{is_out_cell}
use Rattle.gate_sets.proofs.outs.out_cell.Goals as goal

pub returns-clause-ok : goal.returns-clause-ok
returns-clause-ok c =
    is_out_cell _ _ _ (spot_of c.args.spot) c.in_ok-is_null.is_null.at c.in_ok-object.object.pairs.items c.one-null.result.pairs.items c.in_ok-made.made
    c.in_ok-made.ensures.grown c.in_ok-is_null.ensures.ok c.in_ok-object.ensures c.one-null.ensures.points c.in_ok-made.ensures.ok
