-- The tokens of the last members of a check, put one behind the other.
use Rattle.std.proofs.Common.{◌≡◌, List, [], ◌∷◌, ◌++◌, refl, append_assoc}
use Rattle.std.specs.Prelude.{codes}
use Rattle.json.specs.Token.{Token, end_object, key}
use Rattle.json.specs.Json.{Json, no_members}
use Rattle.json.specs.Tree.{json_tokens, members_tokens}
use Rattle.json_text.specs.Values.{with}

pub found_tokens : (made_notes notes made_functions functions totals : Json) (t0 t1 t2 t3 t4 t5 t6 t7 : List Token) → made_notes ≡ notes
    → made_functions ≡ functions → t1 ≡ t0 ++ key (codes "notes") ∷ [] → t2 ≡ t1 ++ json_tokens made_notes
    → t3 ≡ t2 ++ key (codes "functions") ∷ [] → t4 ≡ t3 ++ json_tokens made_functions → t5 ≡ t4 ++ key (codes "totals") ∷ []
    → t6 ≡ t5 ++ json_tokens totals → t7 ≡ t6 ++ end_object ∷ []
    → t7
    ≡ t0 ++ members_tokens (with (codes "notes") notes (with (codes "functions") functions (with (codes "totals") totals no_members)))
found_tokens made_notes notes made_functions functions totals t0 t1 t2 t3 t4 t5 t6 t7 n m a b c d e f g =
    simp (append_assoc, g, f, e, d, c, b, a, n, m) refl
