-- What the tables of numbers hold of bodies and of declarations, and what they say of them.
use Rattle.std.specs.Prelude.{ℕ, ◌+◌, Bool, not, ◌&&◌, ◌||◌, Option, Some, None, is_some, List, [], ◌∷◌, if◌then◌else◌}
use Rattle.std.specs.Option.{option_map}
use Rattle.std.specs.List.{slice_get}
use Rattle.sc_tree.specs.declared.ctype.CType.{CType}
use Rattle.sc_rules.specs.declared.walk.Record.{Record}
use Rattle.sc_program.specs.declared.bodies.Bodied.{Bodied}
use Rattle.sc_program.specs.Firsts.{or_else}
use Rattle.sc_program.specs.Places.{Key, Table, place_of, noted}

-- the table with that number for a key that has none, where the test holds
abbrev pub noted_if : Bool → Key → ℕ → Table → Table
noted_if test k n es = if test then noted k n es else es

-- Bodies: by name and file, and external ones by name alone.

abbrev pub with_body : ℕ → Bodied → Table → Table
with_body k b es = noted_if (not b.local) (b.name, None) k (noted (b.name, Some b.file) k es)

-- the table with these bodies, of which the first has the number k
abbrev pub with_bodies : ℕ → List Bodied → Table → Table
with_bodies k [] es = es
with_bodies k (b ∷ bs) es = with_bodies (k + 1) bs (with_body k b es)

abbrev pub clashes : Bodied → Table → Bool
clashes b es = is_some (place_of (b.name, Some b.file) es) || (not b.local && is_some (place_of (b.name, None) es))

-- the first of these bodies that clashes with one before it
abbrev pub clash_behind : ℕ → List Bodied → Table → Option ℕ
clash_behind k [] es = None
clash_behind k (b ∷ bs) es = if clashes b es then Some b.name else clash_behind (k + 1) bs (with_body k b es)

abbrev pub body_in : Table → (file name : ℕ) → Option ℕ
body_in es f n = or_else (place_of (n, Some f) es) (place_of (n, None) es)

-- Names of variables that are local to a file: by name and file.

abbrev pub with_local : Record → Table → Table
with_local r es = noted_if r.is_static (r.name.at, Some r.file) 0 es

abbrev pub with_locals : List Record → Table → Table
with_locals [] es = es
with_locals (r ∷ rs) es = with_locals rs (with_local r es)

abbrev pub local_in : Table → (file name : ℕ) → Bool
local_in es f n = is_some (place_of (n, Some f) es)

-- Declarations that pass a test: by the name, and the file where the name is local to it.

abbrev pub key_for : (local : ℕ → ℕ → Bool) → (file name : ℕ) → Key
key_for local f n = (n, if local f n then Some f else None)

abbrev pub key_of : (local : ℕ → ℕ → Bool) → Record → Key
key_of local r = key_for local r.file r.name.at

abbrev pub with_records : (Record → Bool) → (local : ℕ → ℕ → Bool) → ℕ → List Record → Table → Table
with_records test local k [] es = es
with_records test local k (r ∷ rs) es = with_records test local (k + 1) rs (noted_if (test r) (key_of local r) k es)

abbrev pub type_of_record : Record → CType
type_of_record r = r.ctype

abbrev pub type_at : List Record → Option ℕ → Option CType
type_at rs None = None
type_at rs (Some k) = option_map type_of_record (slice_get rs k)

abbrev pub type_in : List Record → (local : ℕ → ℕ → Bool) → (settled any : Table) → (file name : ℕ) → Option CType
type_in rs local settled any f n =
    type_at rs (or_else (place_of (key_for local f n) settled) (place_of (key_for local f n) any))
