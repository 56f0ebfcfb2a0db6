use Rattle.std.proofs.Common.{◌&&◌, subst}
use Rattle.sc_world.specs.Shows.{exits}
use Rattle.sc_world.specs.Known.{same_state}
use Rattle.fn_facts.specs.declared.around.Around.{Around}
use Rattle.fn_facts.specs.Seen.{is_given}
use Rattle.fn_facts.specs.Showing.{Shows}
use Rattle.fn_walks.specs.Seen.{fate}
use Rattle.fn_questions.specs.Seen.{row_with}
use Rattle.fn_questions.proofs.Ready.{param_row_shown}
use Rattle.fn_questions.proofs.facts.Facts.params.Goals as goal

pub returns-in_ok-params-in-Some-clause-ok : goal.returns-in_ok-params-in-Some-clause-ok
returns-in_ok-params-in-Some-clause-ok c =
    param_row_shown _ _ c.args.number _ c.args.row _ c.param_object-object.ensures
    (subst
    (λ (a : Around).
    Shows a c.has_param_row.new.net (λ o. exits o && (is_given o c.args.number && row_with c.args.row (λ p. same_state c.args.row.after (fate p c.param_object-object.result)) o)) c.in_ok-params-in-Some.params.at)
    c.keep_walk.ensures.around c.in_ok-params-in-Some.ensures.ok)
