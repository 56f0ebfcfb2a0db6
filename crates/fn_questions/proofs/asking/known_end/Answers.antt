use Rattle.fn_questions.proofs.Ready.{ended_shown}
use Rattle.fn_questions.proofs.asking.known_end.Goals as goal

pub returns-then-is_end_of : goal.returns-then-is_end_of
returns-then-is_end_of c =
    λ a ns all.
    ended_shown a ns _ c.args.at c.args.row (c.is_end_of.ensures.at c.if-is_end_of.true) (c.is_end_of.ensures.gives c.if-is_end_of.true)
    (c.is_end_of.ensures.after c.if-is_end_of.true) (all c.loop-end.end-index _ c.loop-end-test.true)
