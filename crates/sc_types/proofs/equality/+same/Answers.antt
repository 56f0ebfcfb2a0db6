use Rattle.sc_typed.specs.Types.{same}
use Rattle.sc_types.proofs.Lists.{each_fits-length}
use Rattle.std.proofs.Common.{arith}
use Rattle.sc_types.proofs.equality.+same.Goals as goal

pub same_types-returns-then-len : goal.same_types-returns-then-len
same_types-returns-then-len t c = each_fits-length (λ p t. p t) same c.args.a.now c.args.b.now (λ e. omega (arith, e))
