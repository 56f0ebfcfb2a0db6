-- The choices that the code keeps: each once, in the order in which they were first seen.
use Rattle.std.specs.Prelude.{ℕ, Bool, true, Option, Some, None, List, [], ◌∷◌, ◌++◌, if◌then◌else◌}
use Rattle.std.specs.List.{list_any}
use Rattle.sc_base.specs.declared.pos.Pos.{Pos}
use Rattle.sc_typed.specs.declared.stmt.TStmt.{TStmt}
use Rattle.sc_rules.specs.Walks.{Check, ◌>>=◌, done}
use Rattle.sc_statements.specs.declared.choices.Choice.{Choice}
use Rattle.sc_statements.specs.declared.choices.Choice.TheVariants as choice
use Rattle.sc_statements.specs.Choices.{same_choice, choice_of, new_choice}

-- a choice as a key of a set
abbrev pub key_of : Choice → Option ℕ
key_of (choice.Number n) = Some n
key_of choice.Otherwise = None

abbrev pub choice_at : Option ℕ → Choice
choice_at (Some n) = choice.Number n
choice_at None = choice.Otherwise

abbrev pub kept_with : Choice → List Choice → List Choice
kept_with c kept = if list_any (same_choice c) kept then kept else kept ++ c ∷ []

abbrev pub kept_if : Option (Choice × Pos) → List Choice → List Choice
kept_if None kept = kept
kept_if (Some (c, at)) kept = kept_with c kept

-- the faults of the items, before which those were kept
abbrev pub differ_from : List (Option TStmt) → (kept : List Choice) → Check Bool
differ_from [] kept = done true
differ_from (s ∷ ss) kept = do
  _ ← new_choice (choice_of s) kept
  differ_from ss (kept_if (choice_of s) kept)
