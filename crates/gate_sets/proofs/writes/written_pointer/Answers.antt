use Rattle.layout_base.specs.Seen.{spot_of}
use Rattle.gate_sets.proofs.Filling.{pointer_written}
use Rattle.gate_sets.proofs.writes.written_pointer.Goals as goal

pub returns-clause-ok : goal.returns-clause-ok
returns-clause-ok c =
    pointer_written _ _ _ _ (spot_of c.args.spot) c.chosen_bit-bit.result.at c.in_ok-object.object.pairs.items c.one-null.result.pairs.items c.in_ok-made.made
    c.in_ok-made.ensures.grown c.in_ok-object.ensures c.one-null.ensures.points c.chosen_bit-bit.ensures c.in_ok-made.ensures.ok
