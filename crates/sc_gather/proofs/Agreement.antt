-- Arguments agree with no list of parameters of another length.
use Rattle.std.proofs.Common.{◌≡◌, Bool, true, false, suc, ◌&&◌, List, [], ◌∷◌, length, refl, ap}
use Rattle.sc_typed.specs.declared.expr.TExpr.{TExpr}
use Rattle.sc_typed.specs.declared.program.Param.{Param}
use Rattle.sc_world.specs.Tree.{type_of}
use Rattle.sc_world.specs.Source.{Struct, agree, arguments_agree}
use Rattle.sc_world.specs.View.{exp, type}
use Rattle.sc_world.specs.Programs.{types_of}
use Rattle.sc_gather.specs.Seen.{arguments_of}

and_false : (b c : Bool) → false ≡ c → false ≡ (b && c)
and_false true c h = h
and_false false c h = refl

pub agree-length : (structs : List Struct) (es : List TExpr) (ps : List Param) → (length es ≡ length ps → ⊥)
    → false ≡ arguments_agree (arguments_of structs es) (types_of ps)
agree-length structs [] [] h = absurd (h refl)
agree-length structs [] (p ∷ ps) h = refl
agree-length structs (e ∷ es) [] h = refl
agree-length structs (e ∷ es) (p ∷ ps) h =
    and_false (agree (type_of (exp structs e)) (type p.ctype)) (arguments_agree (arguments_of structs es) (types_of ps))
    (agree-length structs es ps (λ q. h (ap suc q)))
