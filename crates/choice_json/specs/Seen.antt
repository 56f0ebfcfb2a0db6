-- What contracts see of what the JSON of a choice reads.
use Rattle.layout_base.specs.Seen.{ground_of}
use Rattle.location_texts.specs.Seen.{texts}
use Rattle.choice_json.specs.Speakers.{Speaker}
use Rattle.choice_json.specs.declared.speech.Speech.{Speech}

abbrev pub speaker_of : Speech → Speaker
speaker_of y =
    record {
      program = y.check.now.program.now;
      marks = y.check.now.marks.now;
      source = (ground_of y.ground).source;
      texts = texts y.names.now;
      firsts = y.firsts.now;
    }
