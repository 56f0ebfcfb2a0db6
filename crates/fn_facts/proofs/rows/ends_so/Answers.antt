use Rattle.bit_net.proofs.Growth.{Grown-trans}
use Rattle.fn_facts.specs.Seen.{state_now}
use Rattle.fn_facts.proofs.Rowing.{and_shown_at_exit, ends_shown, state_compared_at_exit}
use Rattle.fn_facts.proofs.rows.ends_so.Goals as goal

pub returns-clause-ok : goal.returns-clause-ok
returns-clause-ok c =
    let g2 = c.in_ok-to.ensures.grown in
    let g3 = c.in_ok-change.ensures.grown in
    let to =
    state_compared_at_exit _ _ _ (λ o. state_now o c.args.at) c.state_now.result.now c.args.row.after _ g2 c.state_now.ensures c.in_ok-to.ensures.ok in
    c.in_ok-ends.ensures.ok _
    (ends_shown _ _ c.args.at _ c.args.row
    (and_shown_at_exit _ _ _ _ _ _ _ _ _ (Grown-trans _ _ _ g2 g3) g3 c.in_ok-gives.ensures.ok to c.in_ok-change.ensures.ok))
