use Rattle.sc_typed.specs.Types.{agreement}
use Rattle.sc_types.proofs.Lists.{each_fits-length}
use Rattle.std.proofs.Common.{arith}
use Rattle.sc_types.proofs.agreement.+agree.Goals as goal

pub agree_each-returns-then-len : goal.agree_each-returns-then-len
agree_each-returns-then-len t c = each_fits-length (λ p t. p.agrees t) agreement c.args.a.now c.args.b.now (λ e. omega (arith, e))
