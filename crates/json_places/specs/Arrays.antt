-- A list of things as an array, each thing by its own value.
use Rattle.std.specs.Prelude.{List, map}
use Rattle.std.specs.List.{flat_map}
use Rattle.json.specs.Token.{Token}
use Rattle.json.specs.Json.{Json}
use Rattle.json.specs.Tree.{json_tokens}
use Rattle.json_text.specs.Values.{array_of}

unfoldable pub array_by : {X : Type 0} → (X → Json) → List X → Json
array_by value xs = array_of (map value xs)

-- the tokens of the values, one behind the other
abbrev pub tokens_by : {X : Type 0} → (X → Json) → List X → List Token
tokens_by value xs = flat_map (λ x. json_tokens (value x)) xs
