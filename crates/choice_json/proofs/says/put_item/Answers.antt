use Rattle.std.proofs.Common.{◌∙◌, ◌∷◌, ◌++◌, ap}
use Rattle.std.specs.Prelude.{codes}
use Rattle.json.specs.Token.{begin_object}
use Rattle.json.specs.Tree.{members_tokens}
use Rattle.sc_gather.specs.Seen.{meaning}
use Rattle.choice_json.specs.Calls.{call_members, item_at}
use Rattle.choice_json.specs.Says.{item_said}
use Rattle.choice_json.specs.Seen.{speaker_of}
use Rattle.choice_json.specs.Words.{value_member}
use Rattle.choice_json.proofs.says.put_item.Goals as goal

pub returns : goal.returns
unfolding item_said
returns c =
    let y = speaker_of c.args.speech.now in
    let value = value_member y c.args.word in
    c.in_ok-end_value.ensures
    ∙ c.in_ok-put_item_at.ensures value
    ∙ c.in_ok-begin_call.ensures (item_at y (meaning c.effect_of.result) c.args.item value)
    ∙ ap (λ e. c.args.text.now ++ begin_object ∷ members_tokens (call_members y (codes "item") c.args.call (item_at y e c.args.item value))) c.effect_of.ensures
