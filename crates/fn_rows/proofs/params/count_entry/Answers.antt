use Rattle.std.proofs.Common.{◌∙◌}
use Rattle.fn_rows.proofs.Counts.{count_turn, count_done}
use Rattle.fn_rows.proofs.params.count_entry.Goals as goal

pub loop-param-preserved : goal.loop-param-preserved
loop-param-preserved c =
    record {
      left =
          count_turn c.args.params.now c.loop-param.param-index c.param-item.result c.loop-param.n c.counted-n.result
          c.loop-param-test.true c.param-item.is c.loop-param.invariant.few c.counted-n.ensures.counted
          ∙ c.loop-param.invariant.left;
      few = c.counted-n.ensures.few;
    }

pub returns-clause-bits : goal.returns-clause-bits
returns-clause-bits c =
    count_done c.args.params.now c.loop-param.param-index c.loop-param.n c.loop-param-test.false c.loop-param.invariant.left
