use Rattle.std.proofs.Common.{None, refl, sym, ◌∙◌}
use Rattle.run_world.specs.Seen.{env}
use Rattle.fn_questions.proofs.Ready.{errs_so, new_ready}
use Rattle.fn_questions.proofs.facts.Facts.new.Goals as goal

pub returns-then-not-errs_at_locations-clause-ok : goal.returns-then-not-errs_at_locations-clause-ok
returns-then-not-errs_at_locations-clause-ok c = sym c.errs_at_locations.ensures ∙ c.if-not-errs_at_locations.true

pub returns-clause-ok : goal.returns-clause-ok
returns-clause-ok c =
    let s = (env c.args.around.here).source in
    let p = (env c.args.around.here).layout in
    new_ready
    (record { around = c.args.around; texts = c.args.texts; shared = c.in_ok-shared.shared; begun = None; ended = c.new-ended.result; walk = None })
    _ _ c.requires.few c.requires.texts c.requires.encoded c.requires.objects
    (errs_so s p (c.errors_are_at_locations.ensures.some s p) (c.errors_are_at_locations.ensures.none s p)
    (sym c.errs_at_locations.ensures ∙ c.if-not-errs_at_locations.false))
    c.in_ok-shared.ensures.grown c.in_ok-shared.ensures.ok refl c.new-ended.ensures.items refl
