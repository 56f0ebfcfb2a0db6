-- A text whose tokens are those of a value is read as that value.
use Rattle.std.proofs.Common.{◌≡◌, ℕ, ◌≤◌, List, [], ◌++◌, Some, option_and_then, sym, ap, ◌∙◌, append-nil}
use Rattle.json.specs.Token.{Token}
use Rattle.json.specs.Lex.{tokens}
use Rattle.json.specs.Json.{Json, value, if_last, max_depth, document}
use Rattle.json.specs.Print.{print}
use Rattle.json.specs.Tree.{json_tokens, depth}
use Rattle.json.proofs.Printed.Trees.{value-json_tokens}

pub read_back : (bytes before : List ℕ) (ts : List Token) (v : Json) → bytes ≡ before ++ print ts → before ≡ [] → tokens (print ts) ≡ ts
    → ts ≡ json_tokens v → depth v ≤ max_depth → document bytes ≡ Some v
read_back bytes before ts v text empty back is shallow =
    ap document (text ∙ ap (λ b. b ++ print ts) empty)
    ∙ ap (λ t. option_and_then (λ p. if_last p.0 p.1) (value max_depth t)) (back ∙ is ∙ sym (append-nil (json_tokens v)))
    ∙ ap (option_and_then (λ p. if_last p.0 p.1)) (value-json_tokens v max_depth [] shallow)
