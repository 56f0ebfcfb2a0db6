-- What the tests of calls say.
use Rattle.std.proofs.Common.{◌≡◌, true, ◌||◌, sym}
use Rattle.std.proofs.lemmas.Bool.{and_parts, true≢false}
use Rattle.sc_world.specs.Tree.{Ty, is_integer, is_void, Exps, NoExps, Exps', type_of}
use Rattle.sc_world.specs.Source.{Effect, Operation, Try, Allocate, Release, Ends, Expect, Known, Unknown}
use Rattle.run_laws.specs.Fits.{IsFirst, FirstPoints, CallFits}
use Rattle.expr_fits.proofs.Same.{types_one}
use Rattle.function_fits.specs.Expressions.{first_points, is_first, effect_fits}

points : (es : Exps) → first_points es ≡ true → FirstPoints es
points NoExps h = tt
points (Exps' e es) h = h

first : (es : Exps) (t : Ty) → is_first es t ≡ true → IsFirst es t
first NoExps t h = absurd (true≢false (sym h))
first (Exps' e es) t h = types_one (type_of e) t h

pub call : (e : Effect) (es : Exps) (t : Ty) → effect_fits e es t ≡ true → CallFits es t e
call (Operation n) es t h =
    let x = and_parts (is_integer t || is_void t) (first_points es) h in
    (x.0, points es x.1)
call (Try a b) es t h =
    let x = and_parts (is_integer t) (first_points es) h in
    (x.0, points es x.1)
call (Allocate zeroed) es t h = h
call Release es t h =
    let x = and_parts (is_void t) (first_points es) h in
    (x.0, points es x.1)
call Ends es t h = tt
call Expect es t h = first es t h
call (Known k) es t h = h
call Unknown es t h = h
