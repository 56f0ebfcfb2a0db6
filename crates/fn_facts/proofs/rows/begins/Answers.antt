use Rattle.std.proofs.Common.{List, subst}
use Rattle.bit_net.specs.declared.nodes.Gate.{Gate}
use Rattle.bit_net.specs.Runs.{Gives}
use Rattle.bit_net.proofs.Growth.{Grown-trans}
use Rattle.bit_words.specs.Number.{number}
use Rattle.sum_rows.specs.declared.row.State.TheVariants as names
use Rattle.sc_world.specs.Known.{same_state}
use Rattle.fn_facts.specs.Seen.{given, state_before}
use Rattle.fn_facts.proofs.Growing.{number_grows}
use Rattle.fn_facts.proofs.Rowing.{and_shown, begins_shown, number_compared, state_compared}
use Rattle.fn_facts.proofs.rows.begins.Goals as goal

pub returns-clause-ok : goal.returns-clause-ok
returns-clause-ok c =
    let g1 = c.in_ok-before.ensures.grown in
    let g2 = c.in_ok-from.ensures.grown in
    let g3 = c.in_ok-entered.ensures.grown in
    let g4 = c.in_ok-met.ensures.grown in
    let g5 = c.in_ok-entry.ensures.grown in
    let g6 = c.in_ok-begins.ensures.grown in
    let from =
    state_compared _ _ _ (λ o. state_before o c.args.at) c.in_ok-before.before.bits.items c.args.row.before _ g2 c.in_ok-before.ensures.ok
    (subst (λ (gs : List Gate). Gives c.is_state.new.net c.in_ok-from.from.at (λ choice v. same_state c.args.row.before (names.At (number v gs))))
    c.as_slice.ensures.value c.in_ok-from.ensures.ok) in
    let entered =
    number_compared _ _ _ given c.args.given.now c.args.row.given _ g3
    (number_grows _ _ _ given c.args.given.now (Grown-trans _ _ _ g1 g2) c.requires.given) c.in_ok-entered.ensures.ok in
    let entry =
    and_shown _ _ _ _ _ _ _ _ _ (Grown-trans _ _ _ g4 g5) (Grown-trans _ _ _ g3 (Grown-trans _ _ _ g4 g5)) entered from c.in_ok-entry.ensures.ok in
    begins_shown _ _ c.args.at _ c.args.row
    (and_shown _ _ _ _ _ _ _ _ _ (Grown-trans _ _ _ g5 g6) g6 c.in_ok-met.ensures.ok entry c.in_ok-begins.ensures.ok)
