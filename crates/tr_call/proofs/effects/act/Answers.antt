use Rattle.std.proofs.Common.{arith}
use Rattle.sc_gather.specs.declared.effect.Effect.TheVariants as code
use Rattle.layout_base.specs.Seen as laid
use Rattle.run_world.specs.Seen.{env}
use Rattle.sc_world.specs.View.{type}
use Rattle.tr_call.proofs.Acting.{of_effect, act_operation, act_try, act_release, act_allocate, act_ends, act_expect, acts_known, acts_unknown, grown_ends}
use Rattle.tr_call.proofs.effects.act.Goals as goal

pub returns-in_ok-r-in-Operation-clause-ok : goal.returns-in_ok-r-in-Operation-clause-ok
returns-in_ok-r-in-Operation-clause-ok c =
    let s = (env c.args.here.now).source in
    let p = (env c.args.here.now).layout in
    let t = type c.args.acting.t.now in
    let o = laid.occurrence_of c.args.acting.occurrence in
    let step = c.in_ok-r-in-Operation.ensures in
    of_effect s p _ t o c.args.args.now _ _ _ _ _ c.args.acting.effect (code.Operation c.in-Operation.number) c.in-Operation.is
    (λ can first. act_operation s p c.args.net.now _ t o c.args.args.now _ _ _ _ _ c.in_ok-first-in-Operation.first step.grown c.in_ok-first-in-Operation.ensures
    step.ready step.locations c.in-Operation.number can step.ok) c.requires.can c.requires.first

pub returns-in_ok-r-in-Try-clause-ok : goal.returns-in_ok-r-in-Try-clause-ok
returns-in_ok-r-in-Try-clause-ok c =
    let s = (env c.args.here.now).source in
    let p = (env c.args.here.now).layout in
    let t = type c.args.acting.t.now in
    let o = laid.occurrence_of c.args.acting.occurrence in
    let step = c.in_ok-r-in-Try.ensures in
    of_effect s p _ t o c.args.args.now _ _ _ _ _ c.args.acting.effect (code.Try c.in-Try.success c.in-Try.failure) c.in-Try.is
    (λ can first. act_try s p c.args.net.now _ t o c.args.args.now _ _ _ _ _ c.in_ok-first-in-Try.first step.grown c.in_ok-first-in-Try.ensures
    step.ready step.locations c.in-Try.success c.in-Try.failure can step.ok) c.requires.can c.requires.first

pub returns-in_ok-r-in-Release-clause-ok : goal.returns-in_ok-r-in-Release-clause-ok
returns-in_ok-r-in-Release-clause-ok c =
    let s = (env c.args.here.now).source in
    let p = (env c.args.here.now).layout in
    let t = type c.args.acting.t.now in
    let o = laid.occurrence_of c.args.acting.occurrence in
    let step = c.in_ok-r-in-Release.ensures in
    of_effect s p _ t o c.args.args.now _ _ _ _ _ c.args.acting.effect code.Release c.in-Release.is
    (λ can first. act_release s p c.args.net.now _ t o c.args.args.now _ _ _ _ _ c.in_ok-first-in-Release.first step.grown c.in_ok-first-in-Release.ensures
    step.ready step.locations can step.ok) c.requires.can c.requires.first

pub returns-in_ok-r-in-Allocate-clause-ok : goal.returns-in_ok-r-in-Allocate-clause-ok
returns-in_ok-r-in-Allocate-clause-ok c =
    let s = (env c.args.here.now).source in
    let p = (env c.args.here.now).layout in
    let t = type c.args.acting.t.now in
    let o = laid.occurrence_of c.args.acting.occurrence in
    let step = c.in_ok-r-in-Allocate.ensures in
    of_effect s p _ t o c.args.args.now _ _ _ _ _ c.args.acting.effect (code.Allocate c.in-Allocate.field-0) c.in-Allocate.is
    (λ can first. act_allocate s p c.args.net.now _ t o c.args.args.now _ _ c.args.ends.now c.args.ends.now _ c.in-Allocate.field-0 can
    (grown_ends _ _ _ step.grown c.requires.ready.ends) step.ok) c.requires.can c.requires.first

pub returns-in_ok-r-in-Ends-clause-ok : goal.returns-in_ok-r-in-Ends-clause-ok
returns-in_ok-r-in-Ends-clause-ok c =
    let s = (env c.args.here.now).source in
    let p = (env c.args.here.now).layout in
    let t = type c.args.acting.t.now in
    let o = laid.occurrence_of c.args.acting.occurrence in
    let step = c.in_ok-r-in-Ends.ensures in
    of_effect s p _ t o c.args.args.now _ _ _ _ _ c.args.acting.effect code.Ends c.in-Ends.is
    (λ can first. act_ends s p c.args.net.now _ t o c.args.args.now c.args.stored.now.locations.items c.args.stored.now.locations.items _ _ _ step.ready step.locations (omega (arith, c.requires.ready.store, step.grown.longer)) step.ok)
    c.requires.can c.requires.first

pub returns-in_ok-r-in-Expect-clause-ok : goal.returns-in_ok-r-in-Expect-clause-ok
returns-in_ok-r-in-Expect-clause-ok c =
    let s = (env c.args.here.now).source in
    let p = (env c.args.here.now).layout in
    let t = type c.args.acting.t.now in
    let o = laid.occurrence_of c.args.acting.occurrence in
    of_effect s p _ t o c.args.args.now _ _ _ _ _ c.args.acting.effect code.Expect c.in-Expect.is
    (λ can first. act_expect s p c.args.net.now _ t o c.args.args.now c.args.stored.now.locations.items c.args.stored.now.locations.items c.args.ends.now c.args.ends.now _ first c.requires.ready.ends c.requires.ready.store
    c.in_ok-r-in-Expect.ensures) c.requires.can c.requires.first

pub returns-in_ok-r-in-Known-clause-ok : goal.returns-in_ok-r-in-Known-clause-ok
returns-in_ok-r-in-Known-clause-ok c =
    let s = (env c.args.here.now).source in
    let p = (env c.args.here.now).layout in
    let t = type c.args.acting.t.now in
    let o = laid.occurrence_of c.args.acting.occurrence in
    of_effect s p _ t o c.args.args.now _ _ _ _ _ c.args.acting.effect (code.Known c.in-Known.field-0) c.in-Known.is
    (λ can first. acts_known s p c.args.net.now _ t o c.args.args.now _ _ _ _ _ c.args.acting.effect c.in-Known.field-0 c.in-Known.is can
    c.in_ok-r-in-Known.ensures.ok)
    c.requires.can c.requires.first

pub returns-in_ok-r-in-Unknown-clause-ok : goal.returns-in_ok-r-in-Unknown-clause-ok
returns-in_ok-r-in-Unknown-clause-ok c =
    let s = (env c.args.here.now).source in
    let p = (env c.args.here.now).layout in
    let t = type c.args.acting.t.now in
    let o = laid.occurrence_of c.args.acting.occurrence in
    of_effect s p _ t o c.args.args.now _ _ _ _ _ c.args.acting.effect code.Unknown c.in-Unknown.is
    (λ can first. acts_unknown s p c.args.net.now _ t o c.args.args.now _ _ _ _ _ c.args.acting.effect c.in-Unknown.is can
    c.in_ok-r-in-Unknown.ensures.ok)
    c.requires.can c.requires.first
