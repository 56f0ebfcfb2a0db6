-- What the choices of a function say: by its layout, with its kept callees and the verdict of each.
use Rattle.std.specs.Prelude.{ℕ, Bool, Option, Some, None, List, map, slice_index_or, codes, Result, Ok, Err}
use Rattle.std.specs.Arc.{arc_value}
use Rattle.choice_json.specs.Says.{says_value}
use Rattle.json.specs.Json.{Members}
use Rattle.json_places.specs.declared.check.Check.{Check}
use Rattle.json_text.specs.Values.{with}
use Rattle.layout_base.specs.Seen.{ground_of}
use Rattle.line_marks.specs.declared.marks.Mark.{Mark}
use Rattle.location_texts.specs.Seen as named
use Rattle.plan_core.specs.Graph.{callees}
use Rattle.program_verdicts.specs.Verdicts.{no_verdict, texts}
use Rattle.sc_base.specs.declared.skip.LimitKind.{LimitKind}
use Rattle.sc_typed.specs.declared.program.Function.{Function}
use Rattle.sc_typed.specs.declared.program.Program.{Program}
use Rattle.sc_world.specs.Layout.{Layout}
use Rattle.sc_world.specs.Paths.{Texts}
use Rattle.sc_world.specs.Places.{places}
use Rattle.sc_world.specs.Programs.{source}
use Rattle.sc_world.specs.Source.{Source}
use Rattle.sum_rows.specs.declared.report.Verdict.{Verdict}
use Rattle.verdict_json.specs.declared.tellings.All.{All}
use Rattle.verdict_json.specs.declared.tellings.Telling.{Telling}

-- the member of a run that tells its choice, in front of other members
abbrev pub Says : Type 0
Says = (choice : List Bool) → Members → Members

-- the verdict of the function with that number
abbrev pub verdict_at : List Verdict → ℕ → Verdict
verdict_at vs f = slice_index_or vs f no_verdict

module _ (p : Program) (marks : List (List Mark)) where
  abbrev pub says_with : Source → Texts → Says
  says_with s x choice more = with (codes "says") (says_value p marks s x choice) more

  -- a function that passes a limit has no layout, and then there is no such member
  unfoldable pub says_by : Source → (Layout → Texts) → Result Layout LimitKind → Says
  says_by s x (Err e) choice more = more
  says_by s x (Ok layout) choice more = says_with s (x layout) choice more

  -- Of the function with that number, where the kept callees of each function are given, and the verdict of each.

  abbrev pub source_among : (depth reach : ℕ) → (kept : List (List ℕ)) → List Verdict → (n : ℕ) → Source
  source_among depth reach kept vs n = source p n (callees kept n) (map (verdict_at vs) (callees kept n)) depth reach

  unfoldable pub says_of : (depth reach : ℕ) → (kept : List (List ℕ)) → List Verdict → (n : ℕ) → Function → Says
  says_of depth reach kept vs n f =
      says_by (source_among depth reach kept vs n) (texts p f) (places (source_among depth reach kept vs n))

-- the same of what the code reads
unfoldable pub says_told : Check → Option Telling → Says
says_told c None choice more = more
says_told c (Some t) choice more =
    says_with c.program.now c.marks.now (ground_of t.ground).source (named.texts t.names.now) choice more

unfoldable pub says_among : All → (n : ℕ) → Function → Says
says_among a =
    says_of a.check.now.program.now a.check.now.marks.now a.check.now.depth a.check.now.reach a.plan.now.callees
    (map arc_value a.verdicts.now)
