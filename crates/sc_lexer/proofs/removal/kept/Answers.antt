use Rattle.std.proofs.Common.{take, arith}
use Rattle.sc_lexer.proofs.RemovalProofs.{kept_skip}
use Rattle.sc_tree.specs.Removal.{kept}
use Rattle.sc_lexer.proofs.removal.kept.Goals as goal

pub loop-at-preserved-then-skip-gt0 : goal.loop-at-preserved-then-skip-gt0
loop-at-preserved-then-skip-gt0 c =
    let items = c.loop-at.items.items in (
      kept_skip (kept 0 c.args.tokens) (take c.loop-at.len items) items c.loop-at.at c.loop-at.skip (omega arith) c.if-skip-gt0.true c.loop-at.invariant.0,
      omega arith,
      c.loop-at.invariant.2,
    )
