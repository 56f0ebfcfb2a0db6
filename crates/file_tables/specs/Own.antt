-- The names of which a file has its own meaning: those with a body in it, and those of its `static` variables.
use Rattle.std.specs.Prelude.{◌≡◌, ℕ, nat_eq, ◌&&◌, List, [], ◌∷◌, ◌++◌, map, slice_index_or, if◌then◌else◌}
use Rattle.sc_rules.specs.declared.walk.Record.{Record}
use Rattle.sc_program.specs.declared.bodies.Bodied.{Bodied}

abbrev pub body_name : Bodied → ℕ
body_name b = b.name

abbrev pub record_name : Record → ℕ
record_name r = r.name.at

abbrev pub own_bodies : (file : ℕ) → List Bodied → List ℕ
own_bodies f [] = []
own_bodies f (b ∷ bs) = if nat_eq b.file f then b.name ∷ own_bodies f bs else own_bodies f bs

abbrev pub own_records : (file : ℕ) → List Record → List ℕ
own_records f [] = []
own_records f (r ∷ rs) = if nat_eq r.file f && r.is_static then r.name.at ∷ own_records f rs else own_records f rs

-- the lists by file, to which these names are added
abbrev pub IsAdded : (names : ℕ → List ℕ) → (before lists : List (List ℕ)) → Type 0
IsAdded names before lists = (f : ℕ) → slice_index_or lists f [] ≡ slice_index_or before f [] ++ names f

abbrev pub one_name : (file name : ℕ) → (f : ℕ) → List ℕ
one_name file name f = if nat_eq file f then name ∷ [] else []

abbrev pub names_of_bodies : List Bodied → List ℕ
names_of_bodies bs = map body_name bs

abbrev pub names_of_records : List Record → List ℕ
names_of_records rs = map record_name rs
