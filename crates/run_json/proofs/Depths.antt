-- How deep the value nests: no deeper than texts are read.
use Rattle.std.proofs.Common.{◌≤◌, ℕ, List, max, arith}
use Rattle.json.specs.Json.{Json}
use Rattle.json.specs.Tree.{depth}
use Rattle.line_marks.specs.declared.marks.Mark.{Mark}
use Rattle.report_text.specs.declared.replays.Ending.{Ending}
use Rattle.report_text.specs.declared.replays.Ending.TheVariants as ending
use Rattle.sc_typed.specs.declared.program.Function.{Function}
use Rattle.sc_typed.specs.declared.program.Program.{Program}
use Rattle.sc_world.specs.Paths.{Texts}
use Rattle.sc_world.specs.Source.{Source}
use Rattle.sum_rows.specs.declared.report.Shown.{Shown}
use Rattle.verdict_json.specs.Runs.{run_value}
use Rattle.verdict_json.specs.Tellings.{says_with}
use Rattle.verdict_json.proofs.Depths.{options_depth, place_depth, ran_depth, with_depth}
use Rattle.run_json.specs.Outcomes.{aside_value, outcome_value}
use Rattle.run_json.specs.Runs.{function_value, ran_members, replay_value}

outcome_depth : (e : Ending) → depth (outcome_value e) ≤ 1
unfolding aside_value
outcome_depth ending.Exit = omega arith
outcome_depth ending.Error = omega arith
outcome_depth ending.Inner = omega arith
outcome_depth (ending.Aside r) = omega arith

function_depth : (p : Program) (marks : List (List Mark)) (f : Function) → depth (function_value p marks f) ≤ 3
unfolding function_value
function_depth p marks f = omega (arith, place_depth p marks f.pos)

run_depth : (p : Program) (marks : List (List Mark)) (file : ℕ) (s : Source) (x : Texts) (r : Shown)
    → depth (run_value p marks file (says_with p marks s x) r) ≤ 6
unfolding run_value
run_depth p marks file s x r =
    ran_depth p marks (says_with p marks s x) (with_depth p marks s x) file r.choice r.text r.trace

pub replay_depth : (p : Program) (marks : List (List Mark)) (d r : ℕ) (s : Source) (x : Texts) (f : Function) (run : Shown) (e : Ending)
    → depth (replay_value p marks d r (says_with p marks s x) f run e) ≤ 128
unfolding replay_value ran_members
replay_depth p marks d r s x f run e =
    omega (arith, options_depth p d r, function_depth p marks f, run_depth p marks f.pos.file s x run, outcome_depth e)
