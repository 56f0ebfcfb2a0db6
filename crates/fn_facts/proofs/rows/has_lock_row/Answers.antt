use Rattle.bit_net.proofs.Growth.{Grown-refl}
use Rattle.fn_facts.proofs.Rowing.{row_shown}
use Rattle.fn_facts.proofs.rows.has_lock_row.Goals as goal

pub returns-clause-ok : goal.returns-clause-ok
returns-clause-ok c =
    row_shown _ _ _ _ _ c.args.at _ _ _ _ _ c.args.row (Grown-refl _) c.in_ok-over.ensures.grown c.in_ok-has.ensures.grown c.requires.begins
    c.requires.ends c.errs_so-error.ensures c.in_ok-over.ensures.ok c.in_ok-has.ensures.ok
