-- The digits of a choice, with one digit more.
use Rattle.std.proofs.Common.{◌≡◌, ℕ, ◌+◌, Bool, List, [], ◌∷◌, ◌++◌, zero-add, append_assoc, ap, sym, ◌∙◌}
use Rattle.std.proofs.lemmas.List.FromFn.{map-range_with_len_more}
use Rattle.report_text.specs.Shown.{hex_digit, four_bits, hex_digits}

-- what is there after one more digit
pub digits_more : (before after next : List ℕ) (choice : List Bool) (count digit : ℕ) → digit ≡ hex_digit (four_bits choice count)
    → after ≡ before ++ hex_digits choice count → next ≡ after ++ digit ∷ [] → next ≡ before ++ hex_digits choice (count + 1)
digits_more before after next choice count digit is so_far step =
    let more = map-range_with_len_more (λ k. hex_digit (four_bits choice k)) 0 count count (zero-add count) in
    let group = append_assoc before (hex_digits choice count) (digit ∷ []) in
    step ∙ ap (λ l. l ++ digit ∷ []) so_far ∙ group
    ∙ ap (λ l. before ++ l) (ap (λ d. hex_digits choice count ++ d ∷ []) is ∙ sym more)
