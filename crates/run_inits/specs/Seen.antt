-- Trees as contracts see them: what the definitions match on.
use Rattle.std.specs.Prelude.{ℕ, Option, List, map, length}
use Rattle.sc_typed.specs.declared.expr.TExpr.{TExpr}
use Rattle.sc_typed.specs.declared.stmt.TInit.{TInit}
use Rattle.sc_typed.specs.declared.stmt.TInitItem.{TInitItem}
use Rattle.sc_typed.specs.declared.stmt.TDeclarator.{TDeclarator}
use Rattle.sc_world.specs.Tree.{Exp, Given, Init, Dec}
use Rattle.sc_world.specs.View.{exp, given, init_if, dec}
use Rattle.run_world.specs.declared.pointers.Here.{Here}
use Rattle.run_world.specs.Seen.{env}

abbrev pub exp_of : Here → TExpr → Exp
exp_of h e = exp (env h).source.structs e

abbrev pub given_of : Here → TInitItem → Given
given_of h x = given (env h).source.structs x

abbrev pub givens_of : Here → List TInitItem → List Given
givens_of h xs = map (given (env h).source.structs) xs

abbrev pub init_of : Here → Option TInit → Init
init_of h x = init_if (env h).source.structs x

abbrev pub dec_of : Here → TDeclarator → Dec
dec_of h d = dec (env h).source.structs d

abbrev pub decs_of : Here → List TDeclarator → List Dec
decs_of h ds = map (dec (env h).source.structs) ds

-- how many cells an object has at most
abbrev pub most : Here → ℕ
most h = length (env h).layout.locations
