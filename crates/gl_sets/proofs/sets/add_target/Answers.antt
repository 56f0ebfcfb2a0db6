use Rattle.std.proofs.Common.{ap, ◌∙◌, sym, refl}
use Rattle.bit_net.proofs.Growth.{Grown-refl}
use Rattle.gl_sets.specs.Guards.{has_target}
use Rattle.gl_sets.proofs.MadeLemmas.{made_there, made_never, made_new}
use Rattle.gl_sets.proofs.sets.add_target.Goals as goal

pub returns-then-holds_target : goal.returns-then-holds_target
returns-then-holds_target c of seen value s =
    made_there _ _ of seen _ _ c.args.pair refl (Grown-refl _)
    (ap (λ l. has_target l c.args.pair.target) (sym c.as_slice.ensures) ∙ sym c.holds_target.ensures ∙ c.if-holds_target.true) s

pub returns-then-is_never : goal.returns-then-is_never
returns-then-is_never c of seen value s =
    made_never _ _ of seen _ _ c.args.pair refl (Grown-refl _)
    (λ choice v r. sym (value choice v r) ∙ (c.is_never.ensures.never c.if-is_never.true).holds choice v r) s

pub returns : goal.returns
returns c of seen value s =
    made_new _ _ of seen _ _ c.args.pair c.args.pair.guard c.in_ok-push.ensures.ok (Grown-refl _)
    (ap (λ l. has_target l c.args.pair.target) (sym c.as_slice.ensures) ∙ sym c.holds_target.ensures ∙ c.if-holds_target.false)
    c.requires value s
