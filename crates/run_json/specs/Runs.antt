-- The JSON of one run: the options, the function, the run as the JSON of a check shows it, and how it ended.
use Rattle.std.specs.Prelude.{ℕ, List, [], ◌∷◌, codes, decimal}
use Rattle.json.specs.Token as token
use Rattle.json.specs.Token.{Token}
use Rattle.json.specs.Json.{Json, boolean, string, object, Members, no_members}
use Rattle.json_places.specs.Places.{place_value, is_in_header}
use Rattle.json_text.specs.Values.{count_value, with}
use Rattle.line_marks.specs.declared.marks.Mark.{Mark}
use Rattle.report_text.specs.Names.{name_text}
use Rattle.report_text.specs.declared.replays.Ending.{Ending}
use Rattle.sc_typed.specs.declared.program.Function.{Function}
use Rattle.sc_typed.specs.declared.program.Program.{Program}
use Rattle.sum_rows.specs.declared.report.Shown.{Shown}
use Rattle.verdict_json.specs.Checks.{options_value}
use Rattle.verdict_json.specs.Runs.{run_value}
use Rattle.verdict_json.specs.Tellings.{Says}
use Rattle.run_json.specs.Outcomes.{outcome_value}

module _ (p : Program) (marks : List (List Mark)) where
  unfoldable pub function_value : Function → Json
  function_value f =
      object (with (codes "name") (string (name_text p f.name))
      (with (codes "place") (place_value p marks f.pos) (with (codes "in_header") (boolean (is_in_header p marks f.pos)) no_members)))

  -- a run of a function in the file with that number, whose choices say this, and how it ended
  unfoldable pub ran_members : Says → (file : ℕ) → Shown → Ending → Members
  ran_members says file r e =
      with (codes "run") (run_value p marks file says r) (with (codes "outcome") (outcome_value e) no_members)

  -- The whole value, of a function whose choices say this.
  unfoldable pub replay_value : (depth reach : ℕ) → Says → Function → Shown → Ending → Json
  replay_value depth reach says f r e =
      object (with (codes "format") (string (codes "nalvegop run"))
      (with (codes "version") (count_value 1)
      (with (codes "options") (options_value p depth reach)
      (with (codes "function") (function_value f) (ran_members says f.pos.file r e)))))

-- The tokens of the form and its number, with the opening bracket.
abbrev pub first_tokens : List Token
first_tokens =
    token.begin_object ∷ token.key (codes "format") ∷ token.string (codes "nalvegop run") ∷ token.key (codes "version")
    ∷ token.number (decimal 1) ∷ []
