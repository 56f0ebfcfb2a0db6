-- An expression that passes the test fits the layout.
use Rattle.std.proofs.Common.{◌≡◌, Bool, true, false, ◌&&◌, ◌||◌, sym}
use Rattle.std.specs.Prelude.{Some, None}
use Rattle.std.proofs.lemmas.Bool.{and_parts, true≢false}
use Rattle.sc_tree.specs.declared.op.UnaryOp.TheVariants as sign
use Rattle.sc_world.specs.declared.run.Origin.TheVariants as origin
use Rattle.sc_world.specs.Tree.{is_integer, is_pointer, is_array, target_or_void, same_type, Exp, Comma, Assign, Cond, Binary, Cast, Unary, PreInc, PostInc, SizeofExpr, SizeofType, Index, Call, Field, Param, Local, Global, Function, Number, Str, Convert, Temp, TempPlace, Exps, NoExps, Exps', type_of}
use Rattle.sc_world.specs.Layout.{Layout, same_pos, site_at}
use Rattle.sc_world.specs.Eval.{Want, Value, Place', is_name}
use Rattle.run_laws.specs.Fits.{converts_to, is_scalar, unless_array, if_scalar, Unless, Fits, FitAll}
use Rattle.expr_fits.specs.Here as here
use Rattle.expr_fits.proofs.Same.{types_one}
use Rattle.function_fits.specs.Expressions as test
use Rattle.function_fits.proofs.Types.{reads_and, both_same, counts, combines, operates}
use Rattle.function_fits.proofs.Places.{typed_there, stub_there, members, indexed}
use Rattle.function_fits.proofs.Calling.{call}

-- what is called fits, unless it stands there by its name
callee : (b c : Bool) (P : Type 0) → b || c ≡ true → (c ≡ true → P) → Unless b P
callee true c P h f = tt
callee false c P h f = f h

module _ (p : Layout) where
  mutual
    pub fits : (want : Want) (e : Exp) → test.fits p want e ≡ true → Fits p want e
    fits want (Comma a b t) h =
        let x = and_parts (test.fits p Value a) (test.fits p want b && same_type (type_of b) t) h in
        let y = and_parts (test.fits p want b) (same_type (type_of b) t) x.1 in
        (fits Value a x.0, fits want b y.0, types_one (type_of b) t y.1)
    fits want (Assign None w a b t) h =
        let x = and_parts (test.fits p Place' a) (test.fits p (if_scalar t) b && here.assign_fits None w (type_of a) (type_of b) t) h in
        let y = and_parts (test.fits p (if_scalar t) b) (here.assign_fits None w (type_of a) (type_of b) t) x.1 in
        let z = both_same (type_of a) (type_of b) t y.1 in
        (fits Place' a x.0, fits (if_scalar t) b y.0, z.0, z.1)
    fits want (Assign (Some o) w a b t) h =
        let x = and_parts (test.fits p Place' a) (test.fits p Value b && here.assign_fits (Some o) w (type_of a) (type_of b) t) h in
        let y = and_parts (test.fits p Value b) (here.assign_fits (Some o) w (type_of a) (type_of b) t) x.1 in
        let z = combines o w (type_of a) (type_of b) t y.1 in
        (fits Place' a x.0, fits Value b y.0, z.0, z.1, z.2, z.3, z.4)
    fits want (Cond a b c t) h =
        let u = type_of a in
        let v = type_of b in
        let w = type_of c in
        let x = and_parts (test.fits p Value a) (test.fits p want b && (test.fits p want c && test.arms_fit u v w t)) h in
        let y = and_parts (test.fits p want b) (test.fits p want c && test.arms_fit u v w t) x.1 in
        let z = and_parts (test.fits p want c) (test.arms_fit u v w t) y.1 in
        let k = and_parts (is_scalar u) (same_type v t && same_type w t) z.1 in
        let l = both_same v w t k.1 in
        (fits Value a x.0, fits want b y.0, fits want c z.0, k.0, l.0, l.1)
    fits want (Binary o a b t) h =
        let x = and_parts (test.fits p Value a) (test.fits p Value b && (here.is_read want && here.binary_fits o (type_of a) (type_of b) t)) h in
        let y = and_parts (test.fits p Value b) (here.is_read want && here.binary_fits o (type_of a) (type_of b) t) x.1 in
        let z = reads_and want (here.binary_fits o (type_of a) (type_of b) t) y.1 in
        let k = operates o (type_of a) (type_of b) t z.1 in
        (fits Value a x.0, fits Value b y.0, z.0, k.0, k.1, k.2)
    fits want (Cast a t) h =
        let x = and_parts (test.fits p (unless_array (type_of a)) a) (here.conversion_fits want (type_of a) t) h in
        let y = reads_and want (converts_to (type_of a) t) x.1 in
        (fits (unless_array (type_of a)) a x.0, y.0, y.1)
    fits want (Unary sign.Address a t) h =
        let x = and_parts (test.fits p Place' a) (here.unary_fits sign.Address want (type_of a) t) h in
        let y = reads_and want (is_pointer t) x.1 in
        (fits Place' a x.0, y.0, y.1)
    fits want (Unary sign.Deref a t) h =
        let x = and_parts (test.fits p Value a) (is_pointer (type_of a)) h in
        (fits Value a x.0, x.1)
    fits want (Unary sign.Not a t) h =
        let x = and_parts (test.fits p Value a) (here.unary_fits sign.Not want (type_of a) t) h in
        let y = reads_and want (is_scalar (type_of a) && is_integer t) x.1 in
        let z = and_parts (is_scalar (type_of a)) (is_integer t) y.1 in
        (fits Value a x.0, y.0, z.0, z.1)
    fits want (Unary sign.Plus a t) h =
        let x = and_parts (test.fits p Value a) (here.count_fits want (type_of a) t) h in
        let y = counts want (type_of a) t x.1 in
        (fits Value a x.0, y.0, y.1, y.2)
    fits want (Unary sign.Minus a t) h =
        let x = and_parts (test.fits p Value a) (here.count_fits want (type_of a) t) h in
        let y = counts want (type_of a) t x.1 in
        (fits Value a x.0, y.0, y.1, y.2)
    fits want (Unary sign.Complement a t) h =
        let x = and_parts (test.fits p Value a) (here.count_fits want (type_of a) t) h in
        let y = counts want (type_of a) t x.1 in
        (fits Value a x.0, y.0, y.1, y.2)
    fits want (PreInc d a t) h =
        let x = and_parts (test.fits p Place' a) (here.count_fits want (type_of a) t) h in
        let y = counts want (type_of a) t x.1 in
        (fits Place' a x.0, y.0, y.1, y.2)
    fits want (PostInc d a t) h =
        let x = and_parts (test.fits p Place' a) (here.count_fits want (type_of a) t) h in
        let y = counts want (type_of a) t x.1 in
        (fits Place' a x.0, y.0, y.1, y.2)
    fits want (SizeofExpr a n t) h = reads_and want (is_integer t) h
    fits want (SizeofType n t) h = reads_and want (is_integer t) h
    fits want (Index a b t) h =
        let u = type_of a in
        let v = type_of b in
        let x = and_parts (test.fits p (unless_array u) a) (test.fits p Value b && test.index_fits p u v t) h in
        let y = and_parts (test.fits p Value b) (test.index_fits p u v t) x.1 in
        let z = and_parts (is_integer v) (here.indexed_fits p (is_array u) u t) y.1 in
        (fits (unless_array u) a x.0, fits Value b y.0, z.0, indexed p (is_array u) u t z.1)
    fits want (Call c f es t) h =
        let there = test.call_fits p c.token es t in
        let placed = site_at p c.token in
        let x = and_parts (is_name f || test.fits p Value f) (test.all_fit p es && (here.is_read want && there)) h in
        let y = and_parts (test.all_fit p es) (here.is_read want && there) x.1 in
        let z = reads_and want there y.1 in
        let k = and_parts (same_pos c.token placed.site.bracket) (test.effect_fits placed.site.effect es t) z.1 in
        (callee (is_name f) (test.fits p Value f) (Fits p Value f) x.0 (λ g. fits Value f g), all es y.0, z.0, k.0, call placed.site.effect es t k.1)
    fits want (Field a n true t) h =
        let u = type_of a in
        let x = and_parts (test.fits p Value a) (here.members_behind_fit p u n t) h in
        let y = and_parts (is_pointer u) (here.members_fit p (target_or_void u) n t) x.1 in
        (fits Value a x.0, y.0, members p (target_or_void u) n t y.1)
    fits want (Field a n false t) h =
        let x = and_parts (test.fits p Place' a) (here.members_fit p (type_of a) n t) h in
        (fits Place' a x.0, members p (type_of a) n t x.1)
    fits want (Param n t) h = typed_there p (origin.Param n) t h
    fits want (Local n t) h = typed_there p (origin.Local n) t h
    fits want (Global n t) h = typed_there p (origin.Global n) t h
    fits want (Function n b t) h = stub_there p (origin.Function n) t h
    fits want (Number n t) h = reads_and want (is_integer t) h
    fits want (Str x t) h = stub_there p (origin.Literal x.token) t h
    fits want (Convert a t) h =
        let x = and_parts (test.fits p (unless_array (type_of a)) a) (here.conversion_fits want (type_of a) t) h in
        let y = reads_and want (converts_to (type_of a) t) x.1 in
        (fits (unless_array (type_of a)) a x.0, y.0, y.1)
    fits want (Temp n t) h = absurd (true≢false (sym h))
    fits want (TempPlace n t) h = absurd (true≢false (sym h))

    all : (es : Exps) → test.all_fit p es ≡ true → FitAll p es
    all NoExps h = tt
    all (Exps' e es) h =
        let x = and_parts (test.fits p Value e) (test.all_fit p es) h in
        (fits Value e x.0, all es x.1)
