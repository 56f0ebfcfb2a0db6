-- What an expression names has the type that the expression says: parameters, locals, globals and members that of their
-- declarations. A function that stands there has a function's type; a call gives no array and no function, and where it
-- has to take a pointer first, as a lock or what is released, its first argument is not made a truth value.
use Rattle.std.specs.Prelude.{◌≡◌, ℕ, Bool, true, false, Option, Some, None, slice_get}
use Rattle.sc_world.specs.Tree.{Ty, is_array, is_bool, target_or_void, Exp, Comma, Assign, Cond, Binary, Cast, Unary, PreInc, PostInc, SizeofExpr, SizeofType, Index, Call, Field, Param, Local, Global, Function, Number, Str, Convert, Temp, TempPlace, Exps, NoExps, Exps', type_of}
use Rattle.sc_world.specs.Source.{Source, Effect, Operation, Try, Allocate, Release, Ends, Expect, Known, Unknown, effect}
use Rattle.run_laws.specs.Fits.{is_function}
use Rattle.fitting_laws.specs.Typed.{HasMemberOf}

abbrev pub takes_pointer : Effect → Bool
takes_pointer (Operation n) = true
takes_pointer (Try success failure) = true
takes_pointer Release = true
takes_pointer _ = false

abbrev pub NoTruthFirst : Bool → Exps → Type 0
NoTruthFirst true (Exps' e es) = is_bool (type_of e) ≡ false
NoTruthFirst _ _ = Unit {0}

module _ (s : Source) where
  abbrev mutual
    pub NamesAgree : Exp → Type 0
    NamesAgree (Comma a b t) = NamesAgree a × NamesAgree b
    NamesAgree (Assign o works a b t) = NamesAgree a × NamesAgree b
    NamesAgree (Cond a b c t) = NamesAgree a × NamesAgree b × NamesAgree c
    NamesAgree (Binary o a b t) = NamesAgree a × NamesAgree b
    NamesAgree (Cast a t) = NamesAgree a
    NamesAgree (Unary o a t) = NamesAgree a
    NamesAgree (PreInc d a t) = NamesAgree a
    NamesAgree (PostInc d a t) = NamesAgree a
    NamesAgree (SizeofExpr a n t) = Unit {0}
    NamesAgree (SizeofType n t) = Unit {0}
    NamesAgree (Index a b t) = NamesAgree a × NamesAgree b
    NamesAgree (Call p f es t) =
        NamesAgree f × AllAgree es × (is_array t ≡ false) × (is_function t ≡ false)
        × NoTruthFirst (takes_pointer (effect s f es t)) es
    NamesAgree (Field a n true t) = NamesAgree a × HasMemberOf s (target_or_void (type_of a)) n t
    NamesAgree (Field a n false t) = NamesAgree a × HasMemberOf s (type_of a) n t
    NamesAgree (Param n t) = slice_get s.params n ≡ Some t
    NamesAgree (Local n t) = slice_get s.locals n ≡ Some t
    NamesAgree (Global n t) = slice_get s.globals n ≡ Some t
    NamesAgree (Function n b t) = is_function t ≡ true
    NamesAgree (Number n t) = Unit {0}
    NamesAgree (Str x t) = Unit {0}
    NamesAgree (Convert a t) = NamesAgree a
    NamesAgree (Temp n t) = Unit {0}
    NamesAgree (TempPlace n t) = Unit {0}

    pub AllAgree : Exps → Type 0
    AllAgree NoExps = Unit {0}
    AllAgree (Exps' e es) = NamesAgree e × AllAgree es
