-- The entry bits by their last one.
use Rattle.std.proofs.Common.{◌≡◌, ◌≢◌, ℕ, zero, suc, ◌-◌, ◌/◌, ◌%◌, nat_eq, List, [], ◌∷◌, ◌++◌, refl, ap, ◌∙◌, arith}
use Rattle.std.specs.List.{flat_map}
use Rattle.std.proofs.lemmas.Grind.{flat_map-append}
use Rattle.json.specs.Json.{boolean}
use Rattle.json.specs.Token.{Token}
use Rattle.json.specs.Token as token
use Rattle.json.specs.Tree.{json_tokens}
use Rattle.verdict_json.specs.Rows.{bits_values}

pub bits_end : (digits given : ℕ) → digits ≡ 0 → flat_map json_tokens (bits_values digits given) ≡ []
unfolding bits_values
bits_end zero given none = refl
bits_end (suc k) given none = absurd (omega (arith, none))

bits_step : (digits given : ℕ) → digits ≢ 0
    → bits_values digits given ≡ bits_values (digits - 1) (given / 2) ++ boolean (nat_eq (given % 2) 1) ∷ []
unfolding bits_values
bits_step zero given some = absurd (some refl)
bits_step (suc k) given some =
    let here : k ≡ suc k - 1 = omega arith in ap (λ d. bits_values d (given / 2) ++ boolean (nat_eq (given % 2) 1) ∷ []) here

pub bits_tokens : (digits given : ℕ) → digits ≢ 0
    → flat_map json_tokens (bits_values digits given)
    ≡ flat_map json_tokens (bits_values (digits - 1) (given / 2)) ++ token.boolean (nat_eq (given % 2) 1) ∷ []
bits_tokens digits given some =
    ap (flat_map json_tokens) (bits_step digits given some)
    ∙ flat_map-append json_tokens (bits_values (digits - 1) (given / 2)) (boolean (nat_eq (given % 2) 1) ∷ [])
