-- The replay of a function: its run on the choice that digits spell, as text or as JSON.
use Rattle.std.specs.Prelude.{ℕ, Bool, Option, Some, None, List, Result, Ok, Err, slice_get}
use Rattle.fsm_spec.specs.Table.{IsWhole}
use Rattle.json.specs.Print.{print}
use Rattle.json.specs.Tree.{json_tokens}
use Rattle.line_marks.specs.declared.marks.Mark.{Mark}
use Rattle.run_json.specs.Runs.{replay_value}
use Rattle.verdict_json.specs.Tellings.{says_with}
use Rattle.sc_base.specs.declared.skip.LimitKind.{LimitKind}
use Rattle.run_store.specs.Concrete.{Cell}
use Rattle.sum_rows.specs.declared.report.Shown.{Shown}
use Rattle.sum_rows.specs.declared.report.Verdict.{Verdict}
use Rattle.sc_typed.specs.declared.program.Program.{Program}
use Rattle.sc_typed.specs.declared.program.Function.{Function}
use Rattle.sc_typed.specs.declared.program.TBody.{TBody}
use Rattle.sc_typed.specs.declared.program.TBody.TheVariants as body
use Rattle.sc_world.specs.Source.{Source}
use Rattle.sc_world.specs.Layout.{Layout}
use Rattle.sc_world.specs.Places.{places}
use Rattle.sc_world.specs.Paths.{Texts}
use Rattle.sc_world.specs.Programs.{source, machine_or_locks}
use Rattle.sc_world.specs.Shows.{Over}
use Rattle.sc_world.specs.World.{Ended, Error, Inner, Aside}
use Rattle.sc_world.specs.Verdict.{run_over, shown_over}
use Rattle.program_verdicts.specs.Verdicts.{texts}
use Rattle.report_text.specs.declared.replays.Ending.{Ending}
use Rattle.report_text.specs.declared.replays.Ending.TheVariants as ending
use Rattle.report_text.specs.Replays.{replay_text}
use Rattle.choice_texts.specs.Choices.{choice_spelled}

pub data Replayed : Type 0 where
  -- the function is skipped
  Skipped : Replayed
  -- digits spell no choice of the function
  BadChoice : Replayed
  -- the run, in the form that was asked for
  Told : (bytes : List ℕ) → Replayed

-- the form in which a run is told: as text, or as JSON with the line markers of all files
pub data Form : Type 0 where
  AsText : Form
  AsJson : (marks : List (List Mark)) → Form

-- how a run ended
abbrev pub ending_of : Result Cell Ended → Ending
ending_of (Ok v) = ending.Exit
ending_of (Err (Error at)) = ending.Error
ending_of (Err (Inner at)) = ending.Inner
ending_of (Err (Aside r)) = ending.Aside r

-- a run that is shown, as text, and how it ended
abbrev pub shown_text : Program → Shown → Ending → List ℕ
shown_text p r e = replay_text p r.trace e r.text

-- the same as JSON, with the line markers of all files; its choice says what it says of the function
abbrev pub shown_json : Program → List (List Mark) → Function → Source → Texts → Shown → Ending → List ℕ
shown_json p marks f s x r e = print (json_tokens (replay_value p marks s.depth s.reach (says_with p marks s x) f r e))

abbrev pub told_as : Form → Program → Function → Source → Texts → Shown → Ending → List ℕ
told_as AsText p f s x r e = shown_text p r e
told_as (AsJson marks) p f s x r e = shown_json p marks f s x r e

-- a run of the function in that form
abbrev pub told_run : Form → Program → Function → Source → Texts → Over → List ℕ
told_run form p f s x o = told_as form p f s x (shown_over x o) (ending_of o.ended)

-- on a choice, if there is one
abbrev pub on_choice : Form → Program → Function → Source → Texts → Option (List Bool) → Replayed
on_choice form p f s x None = BadChoice
on_choice form p f s x (Some c) = Told (told_run form p f s x (run_over s x.layout c))

-- on the choice that digits spell, if the function passes no limit
abbrev pub on_layout : Form → Program → Function → Source → (Layout → Texts) → (digits : List ℕ) → Result Layout LimitKind → Replayed
on_layout form p f s x digits (Err e) = Skipped
on_layout form p f s x digits (Ok layout) = on_choice form p f s (x layout) (choice_spelled layout.bits digits)

abbrev pub replay_of : Form → Program → Function → Source → (Layout → Texts) → (digits : List ℕ) → Replayed
replay_of form p f s x digits = on_layout form p f s x digits (places s)

-- a function whose body is not taken is skipped
abbrev pub unless_skipped : TBody → Replayed → Replayed
unless_skipped (body.Skipped s) r = Skipped
unless_skipped (body.Tree t) r = r

-- the replay of a function, given its kept callees, ascending, and the verdict of each
abbrev pub replay_by : Form → Program → (depth reach : ℕ) → ℕ → (kept : List ℕ) → List Verdict → (digits : List ℕ) → Option Function → Replayed
replay_by form p depth reach f kept vs digits None = Skipped
replay_by form p depth reach f kept vs digits (Some g) =
    unless_skipped g.body (replay_of form p g (source p f kept vs depth reach) (texts p g) digits)

abbrev pub replay_given : Form → Program → (depth reach : ℕ) → ℕ → (kept : List ℕ) → List Verdict → (digits : List ℕ) → Replayed
replay_given form p depth reach f kept vs digits = replay_by form p depth reach f kept vs digits (slice_get p.functions f)

-- the machine of states is one that a file spells, or that of locks
abbrev pub HasWholeMachine : Program → Type 0
HasWholeMachine p = IsWhole (machine_or_locks p.machine)
