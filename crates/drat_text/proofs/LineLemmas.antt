-- How many lines there are at most, and what one more line makes of a text.
use Rattle.std.proofs.Common.{◌≡◌, ℕ, suc, ◌+◌, ◌≤◌, true, false, List, [], ◌∷◌, length, refl, arith, Some}
use Rattle.std.specs.Prelude.{if◌then◌else◌}
use Rattle.std.specs.List.{onto_first}
use Rattle.drat_text.specs.Parts.{is_line_feed, lines}
use Rattle.drat_text.specs.Expecting.{Text, with_line}
use Rattle.drat_text.specs.Reading.{with_lines}

onto_counted : (b n : ℕ) (parts : List (List ℕ)) → length parts ≤ n + 1 → length (onto_first b parts) ≤ n + 2
onto_counted b n [] few = omega arith
onto_counted b n (part ∷ parts) few = omega arith

pub lines_counted : (bytes : List ℕ) → length (lines bytes) ≤ length bytes + 1
lines_counted [] = omega arith
lines_counted (b ∷ bs) =
    let more = lines_counted bs in
    elim (is_line_feed b) as (λ t. length (if t then [] ∷ lines bs else onto_first b (lines bs)) ≤ length (b ∷ bs) + 1) [
      | true ↦ omega arith
      | false ↦ let few = onto_counted b (length bs) (lines bs) more in omega arith
    ]

pub lines_more : (passed : ℕ) (text next : Text) (line : List ℕ) (rest : List (List ℕ)) → with_line text line ≡ Some next
    → with_lines passed text (line ∷ rest) ≡ with_lines (passed + 1) next rest
lines_more passed text next line rest taken = let one : passed + 1 ≡ suc passed = omega arith in rw (taken, one) refl
