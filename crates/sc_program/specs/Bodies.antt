-- The functions with bodies of all files (C11 6.9, 5; 6.2.2): which two clash, and which one a name means in a file.
use Rattle.std.specs.Prelude.{ℕ, nat_eq, nat_lt, Bool, not, ◌&&◌, ◌||◌, Option, Some, None, List, [], ◌∷◌, ◌++◌, if◌then◌else◌}
use Rattle.std.specs.List.{list_any}
use Rattle.sc_program.specs.declared.bodies.Bodied.{Bodied}
use Rattle.sc_program.specs.Firsts.{or_else, number_where}

-- two bodies clash that have one name, and are both external or in one file
abbrev pub clash : Bodied → Bodied → Bool
clash a b = nat_eq a.name b.name && (nat_eq a.file b.file || (not a.local && not b.local))

-- the name of the first body that clashes with one before it
abbrev pub first_clash : (before bodies : List Bodied) → Option ℕ
first_clash before [] = None
first_clash before (b ∷ bs) = if list_any (clash b) before then Some b.name else first_clash (before ++ b ∷ []) bs

abbrev pub is_in_file : (file name : ℕ) → Bodied → Bool
is_in_file f n b = nat_eq b.name n && nat_eq b.file f

abbrev pub is_external : (name : ℕ) → Bodied → Bool
is_external n b = nat_eq b.name n && not b.local

-- the number of the body that a name means in a file: one in this file, else an external one
abbrev pub body_named : List Bodied → (file name : ℕ) → Option ℕ
body_named bodies f n =
    or_else (number_where (is_in_file f n) 0 bodies) (number_where (is_external n) 0 bodies)

-- a program has at most so many functions with bodies
abbrev pub most_functions : ℕ
most_functions = 4096

abbrev pub is_too_many : ℕ → Bool
is_too_many n = nat_lt most_functions n
