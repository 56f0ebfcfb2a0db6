-- Runs that are shown: the choice in digits, the location of an error, and the events.
use Rattle.std.specs.Prelude.{ℕ, Bool, Option, Some, None, List, codes}
use Rattle.std.specs.Fmt.{signed_decimal}
use Rattle.sc_base.specs.declared.pos.NameId.{NameId}
use Rattle.sc_base.specs.declared.pos.Pos.{Pos}
use Rattle.json.specs.Json.{Json, null, boolean, string, object, Members, no_members}
use Rattle.json_text.specs.Values.{text_value, with}
use Rattle.line_marks.specs.declared.marks.Mark.{Mark}
use Rattle.sum_rows.specs.declared.report.Event.{Event}
use Rattle.sum_rows.specs.declared.report.Shown.{Shown}
use Rattle.sum_rows.specs.declared.report.What.{What}
use Rattle.sum_rows.specs.declared.report.What.TheVariants as what
use Rattle.sc_typed.specs.declared.program.Program.{Program}
use Rattle.report_text.specs.Names.{name_text}
use Rattle.report_text.specs.Shown.{choice_text}
use Rattle.json_places.specs.Arrays.{array_by}
use Rattle.json_places.specs.Places.{place_value}
use Rattle.verdict_json.specs.Tellings.{Says}

-- the kind of an event alone
abbrev pub plain_members : (kind : List ℕ) → Members
plain_members kind = with (codes "kind") (string kind) no_members

-- the kind of an event, and one member more
abbrev pub kind_members : (kind name : List ℕ) → Json → Members
kind_members kind name v = with (codes "kind") (string kind) (with name v no_members)

-- the callee of a call by name; null of one through a pointer
abbrev pub callee_value : Program → Option NameId → Json
callee_value p None = null
callee_value p (Some n) = string (name_text p n)

-- What happens. The number of a `switch` may be larger than what readers hold, so it is a string.
abbrev pub what_members : Program → What → Members
what_members p (what.Call n) = kind_members (codes "call") (codes "callee") (callee_value p n)
what_members p (what.If b) = kind_members (codes "if") (codes "holds") (boolean b)
what_members p (what.Loop b) = kind_members (codes "loop") (codes "holds") (boolean b)
what_members p (what.Switch n) = kind_members (codes "switch") (codes "number") (string (signed_decimal n))
what_members p (what.Goto n) = kind_members (codes "goto") (codes "label") (string (name_text p n))
what_members p what.Return = plain_members (codes "return")
what_members p what.End = plain_members (codes "end")
what_members p (what.Bad at) = plain_members (codes "error")

-- of a function in the file with that number
module _ (p : Program) (marks : List (List Mark)) (file : ℕ) where
  abbrev pub event_place : Event → Pos
  event_place e = record { file = file; line = e.line; col = e.col }

  unfoldable pub event_value : Event → Json
  event_value e = object (with (codes "place") (place_value p marks (event_place e)) (what_members p e.what))

  -- a run: its choice with what it says, the text of the location of its error, and its events
  unfoldable pub ran_value : Says → (choice : List Bool) → (location : List ℕ) → List Event → Json
  ran_value says choice location events =
      object (with (codes "choice") (text_value (choice_text choice))
      (with (codes "location") (text_value location)
      (with (codes "events") (array_by event_value events) (says choice no_members))))

  unfoldable pub run_value : Says → Shown → Json
  run_value says s = ran_value says s.choice s.text s.trace
