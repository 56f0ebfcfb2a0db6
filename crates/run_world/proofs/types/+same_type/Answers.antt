use Rattle.std.proofs.Common.{arith}
use Rattle.run_world.proofs.Lengths.{lengths_differ}
use Rattle.run_world.proofs.types.+same_type.Goals as goal

pub same_types-returns-then-a-b : goal.same_types-returns-then-a-b
same_types-returns-then-a-b t c = lengths_differ c.args.a.now c.args.b.now (λ e. omega (arith, e))
