use Rattle.std.proofs.Common.{sym, ◌∙◌, ap}
use Rattle.std.specs.Option.{option_copied}
use Rattle.layout_base.specs.Seen as laid
use Rattle.run_world.specs.Seen.{env}
use Rattle.sc_world.specs.View.{type}
use Rattle.tr_call.proofs.Acting.{by_none, by_some, grown_ends}
use Rattle.tr_call.proofs.callees.callee.Goals as goal

pub returns-in_ok-r-in-None-clause-ok : goal.returns-in_ok-r-in-None-clause-ok
returns-in_ok-r-in-None-clause-ok c =
    let s = (env c.args.here.now).source in
    let p = (env c.args.here.now).layout in
    let t = type c.args.acting.t.now in
    let o = laid.occurrence_of c.args.acting.occurrence in
    let step = c.in_ok-r-in-None.ensures in
    by_none s p c.args.net.now _ t o c.args.args.now _ _ c.args.ends.now c.args.ends.now _ _
    (sym c.summary_of.ensures ∙ ap option_copied c.in-None.is)
    (grown_ends _ _ _ step.grown c.requires.ready.ends) step.ok

pub returns-in_ok-r-in-Some-clause-ok : goal.returns-in_ok-r-in-Some-clause-ok
returns-in_ok-r-in-Some-clause-ok c =
    let s = (env c.args.here.now).source in
    let p = (env c.args.here.now).layout in
    let t = type c.args.acting.t.now in
    let o = laid.occurrence_of c.args.acting.occurrence in
    by_some s p c.args.net.now _ t o c.args.args.now _ _ _ _ _ _ c.in-Some.summary.now
    (sym c.summary_of.ensures ∙ ap option_copied c.in-Some.is) c.in_ok-r-in-Some.ensures.ok
