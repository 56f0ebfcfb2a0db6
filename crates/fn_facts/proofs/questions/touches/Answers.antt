use Rattle.std.proofs.Common.{List, subst, arith}
use Rattle.bit_net.specs.declared.nodes.Gate.{Gate}
use Rattle.bit_net.specs.Runs.{Gives}
use Rattle.bit_net.proofs.Growth.{Grown-refl, Grown-trans}
use Rattle.gate_runs.specs.Stands.{told}
use Rattle.fn_facts.specs.Seen.{errs_known}
use Rattle.fn_facts.proofs.Growing.{ready_grows, shows_grows}
use Rattle.fn_facts.proofs.Touching.{touch_shown}
use Rattle.fn_facts.proofs.questions.touches.Goals as goal

pub returns-clause-ok : goal.returns-clause-ok
returns-clause-ok c =
    let g1 = c.in_ok-exits.ensures.grown in
    let g3 = c.in_ok-touched.ensures.grown in
    let g4 = c.in_ok-errs.ensures.grown in
    let g5 = c.in_ok-touches.ensures.grown in
    let noted =
    subst (λ (gs : List Gate). Gives c.at_exit.new.net c.gate_or_never-noted.result.at (λ choice v. told v gs c.args.at)) c.as_slice.ensures.value
    c.gate_or_never-noted.ensures in
    touch_shown _ _ _ _ _ _ c.args.at _ _ _ _ _ _
    (ready_grows _ _ _ (Grown-trans _ _ _ g1 (Grown-trans _ _ _ g3 (Grown-trans _ _ _ g4 g5))) c.requires.ready)
    (omega (arith, c.if-at-count.false, c.count.ensures.count)) (Grown-refl _) g3 g4 g5 (c.in_ok-exits.ensures.ok _ c.has-marked.ensures)
    (shows_grows _ _ _ (λ o. errs_known o.ended) _ g1 c.requires.known) noted
    c.in_ok-touched.ensures.ok c.in_ok-errs.ensures.ok c.in_ok-touches.ensures.ok
