use Rattle.fn_questions.proofs.Kinding.{past_kind_shown, stored_kind_shown, val_below}
use Rattle.fn_questions.proofs.kinds.stored_kind_is.Goals as goal

pub kind_is-requires-clause-val : goal.kind_is-requires-clause-val
kind_is-requires-clause-val c = val_below c.args.stored.now c.args.at _ c.index-stored-at.result c.if-at-stored.true c.requires.stored

pub returns-then-at-stored-clause-ok : goal.returns-then-at-stored-clause-ok
returns-then-at-stored-clause-ok c =
    stored_kind_shown _ _ c.args.stored.now c.args.walk.now.from c.args.wanted c.args.at _ c.index-stored-at.result c.if-at-stored.true
    c.in_ok-kind.ensures.ok

pub returns-clause-ok : goal.returns-clause-ok
returns-clause-ok c =
    past_kind_shown _ _ c.args.stored.now c.args.walk.now.from c.args.wanted c.args.at _ c.if-at-stored.false c.in_ok-none.ensures.ok
