use Rattle.std.proofs.Common.{◌&&◌, subst}
use Rattle.sc_world.specs.Shows.{exits, is_fate}
use Rattle.fn_facts.specs.declared.around.Around.{Around}
use Rattle.fn_facts.specs.Showing.{Shows}
use Rattle.fn_walks.specs.Seen.{fate}
use Rattle.fn_questions.proofs.Ready.{changes_shown}
use Rattle.fn_questions.proofs.facts.Facts.changes.Goals as goal

pub returns-in_ok-changes-in-Some-clause-ok : goal.returns-in_ok-changes-in-Some-clause-ok
returns-in_ok-changes-in-Some-clause-ok c =
    changes_shown _ _ c.args.n _ _ c.param_object-object.ensures
    (subst
    (λ (a : Around).
    Shows a c.has_changed.new.net (λ o. exits o && is_fate (fate o c.param_object-object.result)) c.in_ok-changes-in-Some.changes.at)
    c.keep_walk.ensures.around c.in_ok-changes-in-Some.ensures.ok)
