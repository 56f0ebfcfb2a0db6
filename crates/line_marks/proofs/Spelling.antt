-- A name, byte by byte.
use Rattle.std.proofs.Common.{◌≡◌, ℕ, ◌+◌, ◌<◌, ◌≤◌, List, [], ◌∷◌, ◌++◌, length, drop, get_or, Option, Some, None, option_map, refl, sym, ap, ◌∙◌, append_assoc}
use Rattle.std.proofs.lemmas.List.{at_drop_more, at_drop_all}
use Rattle.line_marks.specs.declared.names.Within.{Within}
use Rattle.line_marks.specs.declared.names.Spelled.{Spelled}
use Rattle.line_marks.specs.Names.{name_from, name_with, spells}

-- the name behind the byte at a place
pub name_more : (w : Within) (bytes : List ℕ) (i b : ℕ) (s : Spelled) → i < length bytes → b ≡ get_or bytes i b → s ≡ spells w b
    → name_from w (drop i bytes) ≡ name_with s (drop (i + 1) bytes) (λ next. name_from next (drop (i + 1) bytes))
unfolding name_from
name_more w bytes i b s inside at is =
    at_drop_more (name_from w) bytes i b inside
    ∙ ap (λ x. name_with (spells w x) (drop (i + 1) bytes) (λ next. name_from next (drop (i + 1) bytes))) (sym at)
    ∙ ap (λ x. name_with x (drop (i + 1) bytes) (λ next. name_from next (drop (i + 1) bytes))) (sym is)

pub name_ended : (w : Within) (bytes : List ℕ) (i : ℕ) → length bytes ≤ i → name_from w (drop i bytes) ≡ None
unfolding name_from
name_ended w bytes i past = at_drop_all (name_from w) bytes i past

-- with one byte more in front
pub one_more : (name : List ℕ) (b : ℕ) (rest : Option (List ℕ))
    → option_map (λ r. (name ++ b ∷ []) ++ r) rest ≡ option_map (λ r. name ++ r) (option_map (λ r. b ∷ r) rest)
one_more name b None = refl
one_more name b (Some r) = ap Some (append_assoc name (b ∷ []) r)
