use Rattle.std.proofs.Common.{◌≡◌, true, sym, ◌∙◌, ap, subst}
use Rattle.layout_base.specs.Seen as laid
use Rattle.run_world.specs.Seen.{env}
use Rattle.sc_world.specs.Layout.{site_at, occurrence_at}
use Rattle.sc_world.specs.View.{type}
use Rattle.sc_flow.specs.Seen.{calling}
use Rattle.tr_call.specs.Calls.{FirstFits, has_gates}
use Rattle.tr_call.proofs.Making.{does_call}
use Rattle.tr_call.proofs.calls.call.Goals as goal

pub act-requires-clause-can : goal.act-requires-clause-can
act-requires-clause-can c =
    let bracket = c.args.calling.now.place.token in
    let same = c.effect_of.ensures ∙ ap (λ x. x.site.effect) c.site_at-site.ensures ∙ ap (λ q. (site_at q bracket).site.effect) c.requires.same in
    subst (λ e. has_gates (env c.args.here.now).source (type c.args.calling.now.result.now) e ≡ true) (sym same) c.requires.can

pub act-requires-clause-first : goal.act-requires-clause-first
act-requires-clause-first c =
    let bracket = c.args.calling.now.place.token in
    let same = c.effect_of.ensures ∙ ap (λ x. x.site.effect) c.site_at-site.ensures ∙ ap (λ q. (site_at q bracket).site.effect) c.requires.same in
    subst (λ e. FirstFits (env c.args.here.now).source (type c.args.calling.now.result.now) c.args.args.now e) (sym same) c.requires.first

pub returns-clause-ok : goal.returns-clause-ok
returns-clause-ok c =
    let bracket = c.args.calling.now.place.token in
    let turn = c.args.calling.now.turn in
    let s = (env c.args.here.now).source in
    let same = c.effect_of.ensures ∙ ap (λ x. x.site.effect) c.site_at-site.ensures ∙ ap (λ q. (site_at q bracket).site.effect) c.requires.same in
    let there = c.occurrence_at.ensures ∙ ap (λ x. occurrence_at (laid.layout_of c.args.layout.now.places.now) x turn) c.site_at-site.ensures
    ∙ ap (λ q. occurrence_at q (site_at q bracket) turn) c.requires.same in
    does_call s _ _ (calling s.structs c.args.calling.now) _ _ c.args.args.now _ _ _ _ _ there same c.in_ok-r.ensures.ok
