use Rattle.sc_jumps.proofs.Ahead.{none_ahead}
use Rattle.sc_jumps.proofs.check.+is_ahead.Goals as goal

-- src/check.rt:60:1
pub returns-in_default-3 : goal.returns-in_default-3
returns-in_default-3 t c = none_ahead c.args.label.now c.args.goto.now c.in_default.len_below
