use Rattle.std.proofs.Common.{sym, ap, if◌then◌else◌}
use Rattle.bit_net.proofs.nodes.Net.constant.Goals as goal
use Rattle.bit_net.proofs.FoldLemmas.{Gives-constant}

pub returns-then-b : goal.returns-then-b
returns-then-b c = Gives-constant _ 1 c.args.b c.sound.ensures (sym (ap (λ k. if k then 1 else 0) c.if-b.true))

pub returns-else-b : goal.returns-else-b
returns-else-b c = Gives-constant _ 0 c.args.b c.sound.ensures (sym (ap (λ k. if k then 1 else 0) c.if-b.false))
