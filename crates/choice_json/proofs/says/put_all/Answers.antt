use Rattle.choice_json.specs.Says.{said_value}
use Rattle.choice_json.specs.Seen.{speaker_of}
use Rattle.json_places.proofs.Arrays.{array_behind}
use Rattle.choice_json.proofs.says.put_all.Goals as goal

pub returns : goal.returns
returns c =
    array_behind (said_value (speaker_of c.args.speech.now)) c.args.said.now c.loop-one.one-index c.args.text.now c.loop-one.text _
    c.loop-one-test.false c.loop-one.invariant c.in_ok-end_array.ensures
