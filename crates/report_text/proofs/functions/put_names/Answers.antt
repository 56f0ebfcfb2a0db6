use Rattle.report_text.proofs.Named.{names_more}
use Rattle.report_text.proofs.functions.put_names.Goals as goal

pub loop-param-preserved : goal.loop-param-preserved
loop-param-preserved c = (
  names_more c.args.program.now c.args.params.now c.loop-param.param-index c.param-item.result _ _ c.args.out.now.items c.loop-param.out.items _
      c.loop-param-test.true c.param-item.is c.loop-param.invariant.0 c.in_ok-count.ensures.name c.in_ok-count.ensures.count,
  c.in_ok-count.ensures.few,
)
