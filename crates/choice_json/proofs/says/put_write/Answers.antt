use Rattle.std.proofs.Common.{◌∙◌, ◌∷◌, ◌++◌, ap}
use Rattle.std.specs.Prelude.{codes}
use Rattle.json.specs.Token.{begin_object}
use Rattle.json.specs.Tree.{members_tokens}
use Rattle.sc_gather.specs.Seen.{meaning}
use Rattle.choice_json.specs.Calls.{call_members, write_at}
use Rattle.choice_json.specs.Says.{write_said}
use Rattle.choice_json.specs.Seen.{speaker_of}
use Rattle.choice_json.specs.Words.{value_member}
use Rattle.choice_json.proofs.says.put_write.Goals as goal

pub returns : goal.returns
unfolding write_said
returns c =
    let y = speaker_of c.args.speech.now in
    let value = value_member y c.args.word in
    c.in_ok-end_value.ensures
    ∙ c.in_ok-put_write_at.ensures value
    ∙ c.in_ok-begin_call.ensures (write_at y (meaning c.effect_of.result) c.args.write value)
    ∙ ap (λ e. c.args.text.now ++ begin_object ∷ members_tokens (call_members y (codes "write") c.args.call (write_at y e c.args.write value))) c.effect_of.ensures
