-- The text of one run: its events, and how it ended.
use Rattle.std.specs.Prelude.{ℕ, List, [], ◌++◌, codes}
use Rattle.sum_rows.specs.declared.report.Event.{Event}
use Rattle.sc_world.specs.declared.run.Reason.{Reason}
use Rattle.sc_world.specs.declared.run.Reason.TheVariants as reason
use Rattle.sc_typed.specs.declared.program.Program.{Program}
use Rattle.report_text.specs.declared.replays.Ending.{Ending}
use Rattle.report_text.specs.declared.replays.Ending.TheVariants as ending
use Rattle.report_text.specs.Shown.{trace_text}

abbrev pub reason_word : Reason → List ℕ
reason_word reason.Null = codes "null"
reason_word reason.Reach = codes "reach"
reason_word reason.Freed = codes "freed"
reason_word reason.Type = codes "type"
reason_word reason.Index = codes "index"
reason_word reason.Divide = codes "divide"
reason_word reason.Shift = codes "shift"
reason_word reason.Depth = codes "depth"
reason_word reason.Alias = codes "alias"
reason_word reason.NoRow = codes "norow"
reason_word reason.NoReturn = codes "noreturn"

-- how a run ended; an error at the location with that text
abbrev pub ending_text : Ending → (location : List ℕ) → List ℕ
ending_text ending.Exit location = codes "exit"
ending_text ending.Error location = codes "error " ++ location
ending_text ending.Inner location = codes "inner " ++ location
ending_text (ending.Aside r) location = codes "aside " ++ reason_word r

unfoldable pub ending_line : Ending → (location : List ℕ) → List ℕ
ending_line e location = codes "outcome " ++ (ending_text e location ++ codes "\n")

-- The text of the location of its error is that of its events too.
abbrev pub replay_text : Program → List Event → Ending → (location : List ℕ) → List ℕ
replay_text p events e location = trace_text p [] location events ++ ending_line e location
