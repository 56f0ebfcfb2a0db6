use Rattle.std.proofs.Common.{arith, ap}
use Rattle.gl_store.specs.Meets.{val_top}
use Rattle.gl_store.specs.declared.values.Val.TheVariants as val
use Rattle.flow_turns.specs.Kept.{vals_top}
use Rattle.flow_turns.proofs.Lists.{val_below}
use Rattle.flow_turns.proofs.turns.test_in.Goals as goal

pub test_of-requires : goal.test_of-requires
test_of-requires c =
    omega (arith, val_below c.deref.result.now c.args.from, ap val_top (c.in-Some.ensures.lookup.3.1 val.Unit), ap vals_top c.deref.ensures.value, c.requires.vals)
