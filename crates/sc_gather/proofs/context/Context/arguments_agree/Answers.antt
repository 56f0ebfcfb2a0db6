use Rattle.std.proofs.Common.{arith}
use Rattle.sc_gather.specs.Seen.{source_of}
use Rattle.sc_gather.proofs.Agreement.{agree-length}
use Rattle.sc_gather.proofs.context.Context.arguments_agree.Goals as goal

pub returns-then-args-params : goal.returns-then-args-params
returns-then-args-params c =
    agree-length (source_of c.args.self.now).structs c.args.args.now c.args.params.now (λ e. omega (arith, e))
