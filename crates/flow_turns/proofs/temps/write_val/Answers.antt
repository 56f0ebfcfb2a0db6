use Rattle.std.proofs.Common.{arith}
use Rattle.flow_turns.proofs.Lists.{val_at_below, vals_set}
use Rattle.flow_turns.proofs.temps.write_val.Goals as goal

pub overwrite-requires-clause-val : goal.overwrite-requires-clause-val
overwrite-requires-clause-val c = omega (arith, val_at_below c.args.vals.now c.args.k c.index-vals-k.result c.requires.place, c.requires.vals)

pub returns-clause-top : goal.returns-clause-top
returns-clause-top c =
    vals_set c.args.vals.now c.args.k c.overwrite.new.val _ (omega (arith, c.requires.vals, c.in_ok-overwrite.ensures.grown.longer)) c.in_ok-overwrite.ensures.ok.below
