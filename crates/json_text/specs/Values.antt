-- Values of JSON (RFC 8259) made of what a program has. A value, its tokens and its text are those of the kit's `json`:
-- `Json`, `json_tokens`, `print`; a text is read as a value by `document`.
use Rattle.std.specs.Prelude.{ℕ, Bool, List, [], ◌∷◌, decimal}
use Rattle.std.specs.Str.Lossy.{utf8_lossy}
use Rattle.json.specs.Json.{Json, null, boolean, number, string, array, object, Items, no_items, item, Members, no_members, member}

-- bytes as a string. What is no UTF-8 in them becomes the character U+FFFD.
abbrev pub text_value : List ℕ → Json
text_value bytes = string (utf8_lossy bytes)

-- a number that is not below 0
abbrev pub count_value : ℕ → Json
count_value n = number (decimal n)

abbrev pub items_of : List Json → Items
items_of [] = no_items
items_of (v ∷ vs) = item v (items_of vs)

-- values in brackets
abbrev pub array_of : List Json → Json
array_of vs = array (items_of vs)

-- a member, in front of others
abbrev pub with : (name : List ℕ) → Json → Members → Members
with name v ms = member name v ms
