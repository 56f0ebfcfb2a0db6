use Rattle.std.proofs.Common.{arith}
use Rattle.sc_check.proofs.Built.{one_more, all_found}
use Rattle.sc_check.proofs.builtins.builtin_table.Goals as goal

pub loop-number-preserved : goal.loop-number-preserved
loop-number-preserved c =
    one_more c.args.machine.now c.args.names.now c.loop-number.number c.in_ok-b.b c.loop-number.builtins
    c.push.new.self _ (omega arith) c.in_ok-b.ensures c.in_ok-push.ensures.ok c.loop-number.invariant

pub returns : goal.returns
returns c =
    all_found c.args.machine.now c.args.names.now c.loop-number.number c.loop-number.builtins (omega arith)
    c.loop-number.invariant
