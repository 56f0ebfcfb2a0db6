-- The functions with bodies of all files, as the code finds them: by a test for names that are local to a file.
use Rattle.std.specs.Prelude.{ℕ, nat_eq, Bool, ◌&&◌, List, [], ◌∷◌, ◌++◌, if◌then◌else◌}
use Rattle.std.specs.List.{list_any}
use Rattle.sc_tree.specs.declared.expr.Head.{Head}
use Rattle.sc_tree.specs.declared.unit.Unit as file
use Rattle.sc_tree.specs.declared.unit.Segment.{Segment}
use Rattle.sc_tree.specs.declared.unit.Segment.TheVariants as segment
use Rattle.sc_program.specs.declared.bodies.Bodied.{Bodied}
use Rattle.sc_typing.specs.Here.{Here}
use Rattle.sc_typing.specs.Typing.{heading}
use Rattle.sc_declarations.specs.Declarations.{name_of}

abbrev pub same_pair : ℕ × ℕ → ℕ × ℕ → Bool
same_pair x y = nat_eq x.0 y.0 && nat_eq x.1 y.1

abbrev pub with_pair : List (ℕ × ℕ) → ℕ × ℕ → List (ℕ × ℕ)
with_pair ps p = if list_any (same_pair p) ps then ps else ps ++ p ∷ []

-- whether a pair is among them
abbrev pub has_pair : List (ℕ × ℕ) → (file name : ℕ) → Bool
has_pair ps f n = list_any (same_pair (f, n)) ps

abbrev pub name_in : Here → Head → ℕ
name_in here h = (name_of (heading here h).name).0.at

module _ (local : ℕ → ℕ → Bool) where
  abbrev pub body_at : Here → Segment → List Bodied
  body_at here (segment.Function h b) =
      record { file = here.file; name = name_in here h; local = local here.file (name_in here h) } ∷ []
  body_at here _ = []

  abbrev pub bodies_at : Here → List Segment → List Bodied
  bodies_at here [] = []
  bodies_at here (x ∷ xs) = body_at here x ++ bodies_at here xs

  abbrev pub bodies_over : (heres : ℕ → Here) → List file.Unit → List Bodied
  bodies_over heres [] = []
  bodies_over heres (x ∷ xs) = bodies_at (heres x.file) x.segments ++ bodies_over heres xs
