-- What a choice says, as JSON: an entry for each thing that it speaks of, in their order.
use Rattle.std.specs.Prelude.{ℕ, Bool, List, length, codes}
use Rattle.json.specs.Json.{Json, string, object}
use Rattle.json_text.specs.Values.{with}
use Rattle.json_places.specs.Arrays.{array_by}
use Rattle.line_marks.specs.declared.marks.Mark.{Mark}
use Rattle.sc_typed.specs.declared.program.Program.{Program}
use Rattle.sc_world.specs.Paths.{Texts, site_of}
use Rattle.sc_world.specs.Source.{Source, Effect}
use Rattle.choice_words.specs.declared.sayings.Said.{Said}
use Rattle.choice_words.specs.declared.sayings.Word.{Word}
use Rattle.choice_words.specs.declared.subjects.Subject.{Subject}
use Rattle.choice_words.specs.declared.subjects.Subject.TheVariants as subject
use Rattle.choice_words.specs.Things.{things}
use Rattle.choice_words.specs.Words.{said}
use Rattle.choice_json.specs.Speakers.{Speaker, speaker}
use Rattle.choice_json.specs.Words.{location_value, value_member}
use Rattle.choice_json.specs.Calls.{call_members, item_at, write_at}

module _ (y : Speaker) where
  -- of a location: its cell, or its state at entry
  unfoldable pub location_said : (kind : List ℕ) → (at : ℕ) → Word → Json
  location_said kind at w =
      object (with (codes "kind") (string kind) (with (codes "location") (location_value y at) (value_member y w)))

  -- what a call does itself
  unfoldable pub call_said : (k : ℕ) → Word → Json
  call_said k w = object (call_members y (codes "call") k (value_member y w))

  -- what the call with that number does
  abbrev pub effect_of : (k : ℕ) → Effect
  effect_of k = (site_of y.texts.layout k).effect

  -- what a known call does to an item, and to a written cell, of its callee's summary
  unfoldable pub item_said : (k i : ℕ) → Word → Json
  item_said k i w = object (call_members y (codes "item") k (item_at y (effect_of k) i (value_member y w)))

  unfoldable pub write_said : (k j : ℕ) → Word → Json
  write_said k j w = object (call_members y (codes "write") k (write_at y (effect_of k) j (value_member y w)))

  abbrev pub value_of : Subject → Word → Json
  value_of (subject.Cell at) w = location_said (codes "cell") at w
  value_of (subject.State at) w = location_said (codes "state") at w
  value_of (subject.Call k) w = call_said k w
  value_of (subject.Item k i) w = item_said k i w
  value_of (subject.Write k j) w = write_said k j w

  abbrev pub said_value : Said → Json
  said_value d = value_of d.of d.word

-- what a choice of the function says
unfoldable pub says_value : Program → List (List Mark) → Source → Texts → (choice : List Bool) → Json
says_value p marks s x choice =
    array_by (said_value (speaker p marks s x)) (said (length s.machine.states) choice (things s x.layout))
