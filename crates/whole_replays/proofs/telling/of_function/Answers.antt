use Rattle.std.proofs.Common.{◌∙◌}
use Rattle.fn_replay.specs.Seen as replay
use Rattle.fn_replay.specs.Seen.{form_of}
use Rattle.whole_replays.proofs.Spares.{kept_are_callees}
use Rattle.whole_replays.proofs.Tells.{replay_is_told}
use Rattle.whole_replays.proofs.telling.of_function.Goals as goal

pub returns : goal.returns
returns c =
    let p = c.args.program.now in
    c.told_of.ensures
    ∙ replay_is_told (form_of c.args.asked.form) p c.args.asked.depth c.args.asked.reach c.args.function c.args.asked.digits.now c.callees-kept.result.now c.as_slice.result.now
    (replay.seen c.in_ok-replayed.replayed) (c.callees-kept.ensures ∙ kept_are_callees p c.args.plan.now c.args.function c.requires.planned c.requires.inside)
    (c.as_slice.ensures.value ∙ c.in_ok-verdicts.ensures) c.in_ok-replayed.ensures
