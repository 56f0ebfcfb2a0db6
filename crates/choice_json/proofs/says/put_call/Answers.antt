use Rattle.std.proofs.Common.{◌∙◌}
use Rattle.choice_json.specs.Says.{call_said}
use Rattle.choice_json.specs.Seen.{speaker_of}
use Rattle.choice_json.specs.Words.{value_member}
use Rattle.choice_json.proofs.says.put_call.Goals as goal

pub returns : goal.returns
unfolding call_said
returns c =
    c.in_ok-end_value.ensures ∙ c.in_ok-begin_call.ensures (value_member (speaker_of c.args.speech.now) c.args.word)
