-- No two `case` of one `switch` have one number, and there is one `default` at most (C11 6.8.4.2).
use Rattle.std.specs.Prelude.{nat_eq, Bool, true, false, not, Option, Some, None, List, [], ◌∷◌}
use Rattle.std.specs.List.{list_any}
use Rattle.sc_base.specs.declared.pos.Pos.{Pos}
use Rattle.sc_base.specs.declared.skip.IllTyped.TheVariants as i
use Rattle.sc_typed.specs.declared.stmt.TStmt.{TStmt, TStmt-F, out-TStmt}
use Rattle.sc_rules.specs.Faults.{ill_typed_at}
use Rattle.sc_rules.specs.Walks.{Check, ◌>>=◌, done, holds_or}
use Rattle.sc_statements.specs.declared.choices.Choice.{Choice}
use Rattle.sc_statements.specs.declared.choices.Choice.TheVariants as choice

abbrev pub same_choice : Choice → Choice → Bool
same_choice (choice.Number m) (choice.Number n) = nat_eq m n
same_choice choice.Otherwise choice.Otherwise = true
same_choice _ _ = false

abbrev pub choice_layer : TStmt-F TStmt → Option (Choice × Pos)
choice_layer (TStmt-F.Case n e at) = Some (choice.Number n, at)
choice_layer (TStmt-F.Default at) = Some (choice.Otherwise, at)
choice_layer _ = None

-- what an item of a `switch` chooses, with its place; none where it is no `case` and no `default`
abbrev pub choice_of : Option TStmt → Option (Choice × Pos)
choice_of None = None
choice_of (Some s) = choice_layer (out-TStmt s)

abbrev pub seen_with : Option (Choice × Pos) → List Choice → List Choice
seen_with None seen = seen
seen_with (Some (c, at)) seen = c ∷ seen

abbrev pub new_choice : Option (Choice × Pos) → List Choice → Check Bool
new_choice None seen = done true
new_choice (Some (c, at)) seen = holds_or (not (list_any (same_choice c) seen)) (ill_typed_at i.Constant at)

-- the faults of the items of a `switch`, before which those were seen
abbrev pub choices_differ : List (Option TStmt) → (seen : List Choice) → Check Bool
choices_differ [] seen = done true
choices_differ (s ∷ ss) seen = do
  _ ← new_choice (choice_of s) seen
  choices_differ ss (seen_with (choice_of s) seen)
