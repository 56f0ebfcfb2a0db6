-- How a run ended, in the words of its text. The location of an error is that of the run.
use Rattle.std.specs.Prelude.{codes}
use Rattle.json.specs.Json.{Json, string, object, no_members}
use Rattle.json_text.specs.Values.{with}
use Rattle.report_text.specs.declared.replays.Ending.{Ending}
use Rattle.report_text.specs.declared.replays.Ending.TheVariants as ending
use Rattle.report_text.specs.Replays.{reason_word}
use Rattle.sc_world.specs.declared.run.Reason.{Reason}

-- it is set aside
unfoldable pub aside_value : Reason → Json
aside_value r = object (with (codes "aside") (string (reason_word r)) no_members)

abbrev pub outcome_value : Ending → Json
outcome_value ending.Exit = string (codes "exit")
outcome_value ending.Error = string (codes "error")
outcome_value ending.Inner = string (codes "inner")
outcome_value (ending.Aside r) = aside_value r
