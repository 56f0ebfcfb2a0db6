use Rattle.bit_net.proofs.Growth.{Grown-refl, Grown-trans}
use Rattle.gate_rows.proofs.Seeking.{rows_none, rows_step, rows_all}
use Rattle.gate_rows.proofs.sought.has_row.Goals as goal

pub loop-row-init : goal.loop-row-init
loop-row-init c = record { grown = Grown-refl _; so_far = rows_none c.args.sought.now c.args.rows.now _ _ c.constant-some.ensures }

pub loop-row-preserved : goal.loop-row-preserved
loop-row-preserved c =
    record {
      grown = Grown-trans _ _ _ c.loop-row.invariant.grown (Grown-trans _ _ _ c.in_ok-here.ensures.grown c.in_ok-more.ensures.grown);
      so_far =
          rows_step c.args.sought.now c.args.rows.now _ _ _ c.loop-row.row-index _ _ _ _ c.loop-row-test.true
          c.in_ok-here.ensures.grown c.in_ok-more.ensures.grown c.loop-row.invariant.so_far c.in_ok-here.ensures.ok c.in_ok-more.ensures.ok;
    }

pub returns-clause-ok : goal.returns-clause-ok
returns-clause-ok c = rows_all c.args.sought.now c.args.rows.now _ c.loop-row.row-index _ c.loop-row-test.false c.loop-row.invariant.so_far
