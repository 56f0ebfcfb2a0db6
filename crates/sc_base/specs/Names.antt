-- Interned texts: a list of texts, all different, in which each new one goes behind the last.
use Rattle.std.specs.Prelude.{ℕ, Bool, true, not, ◌&&◌, List, [], ◌∷◌, ◌++◌, if◌then◌else◌}
use Rattle.std.specs.List.{position_or_len}
use Rattle.std.specs.Str.{bytes_eq}
use Rattle.sc_base.specs.Held.{is_named}

-- the place of a text: where it stands, or else the place behind the last
abbrev pub place_of : List ℕ → List (List ℕ) → ℕ
place_of text texts = position_or_len (bytes_eq text) texts

-- the texts with this one, which goes behind the last where it is not there
abbrev pub with_text : List (List ℕ) → List ℕ → List (List ℕ)
with_text texts text = if is_named text texts then texts else texts ++ text ∷ []

-- whether no text stands twice
abbrev pub all_different : List (List ℕ) → Bool
all_different [] = true
all_different (text ∷ texts) = not (is_named text texts) && all_different texts
