-- What is said of one thing: a word, or a value under the word that tells what it is.
use Rattle.std.specs.Prelude.{ℕ, List, codes}
use Rattle.std.specs.Fmt.{signed_decimal}
use Rattle.json.specs.Json.{Json, string, object, Members, no_members}
use Rattle.json_text.specs.Values.{text_value, with}
use Rattle.report_text.specs.Rows.{machine_state}
use Rattle.sc_world.specs.Paths.{text_at}
use Rattle.choice_words.specs.declared.sayings.Word.{Word}
use Rattle.choice_words.specs.declared.sayings.Word.TheVariants as word
use Rattle.choice_json.specs.Speakers.{Speaker}

-- a value under a word
unfoldable pub under : (name : List ℕ) → Json → Json
under name v = object (with name v no_members)

module _ (y : Speaker) where
  -- a location by its text
  abbrev pub location_value : (at : ℕ) → Json
  location_value at = text_value (text_at y.texts at)

  -- A number may be larger than what readers hold, so it is a string. A state has its name, as in rows.
  abbrev pub word_value : Word → Json
  word_value (word.Number n) = under (codes "number") (string (signed_decimal n))
  word_value word.Null = string (codes "null")
  word_value (word.Object at) = under (codes "object") (location_value at)
  word_value (word.Fresh at) = under (codes "fresh") (location_value at)
  word_value (word.Other at) = under (codes "other") (location_value at)
  word_value word.Same = string (codes "same")
  word_value word.Succeeds = string (codes "succeeds")
  word_value word.Fails = string (codes "fails")
  word_value (word.State n) = under (codes "state") (string (machine_state y.program.machine n))
  word_value word.Errs = string (codes "error")
  word_value word.Held = string (codes "held")
  word_value word.Escaped = string (codes "escaped")
  word_value word.Freed = string (codes "freed")
  word_value word.NoRow = string (codes "none")

  -- the last member of each entry
  abbrev pub value_member : Word → Members
  value_member w = with (codes "value") (word_value w) no_members
