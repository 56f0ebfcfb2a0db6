-- Lines of members that have declarators.
use Rattle.std.proofs.Common.{◌≡◌, ◌≤◌, Option, List, [], ◌∷◌, map, length, refl, arith}
use Rattle.sc_tree.specs.declared.ctype.CType.{CType}
use Rattle.sc_typed.specs.declared.program.FieldDef.{FieldDef}
use Rattle.sc_typing.specs.Shapes.{AddingOne}
use Rattle.sc_typing.specs.Typing.{line, parts}

pub line_some : {A : Type 0} (f : A → AddingOne) (xs : List A) (t : Option CType) (fs : Option (List FieldDef)) → 1 ≤ length xs → line (map f xs) t fs ≡ parts (map f xs) t fs
line_some f [] t fs some = absurd (omega (arith, some))
line_some f (x ∷ xs) t fs some = refl
