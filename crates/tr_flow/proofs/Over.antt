-- Expressions over kept operands: their temps and their constants.
use Rattle.std.proofs.Common.{◌≡◌, ℕ, Bool, true, false, if◌then◌else◌, ◌&&◌, List, [], ◌∷◌, ◌++◌, refl, sym, ap}
use Rattle.std.proofs.lemmas.Bool.{true≢false}
use Rattle.run_laws.specs.Fits.{is_scalar}
use Rattle.sc_world.specs.Tree.{is_array, Exp, Assign, Binary, Cast, Unary, PreInc, PostInc, SizeofExpr, Index, Field, Convert, type_of}
use Rattle.sc_world.specs.Source.{Source}
use Rattle.flow_graph.specs.Conditions.{temps_of}
use Rattle.sc_flow.specs.Over.{over, value, object}
use Rattle.expr_fits.specs.declared.operands.Arity.{Arity}
use Rattle.expr_fits.specs.declared.operands.Arity.TheVariants as arity
use Rattle.expr_fits.specs.Fits.{constants_fit}
use Rattle.expr_fits.specs.Operands.{arity_of, has_operands}
use Rattle.tr_flow.specs.Taken.{is_over}

-- Of what is kept, a value or a place, the node names the temp; and it is no constant.

names_one : (b : Bool) (u : Exp) (x : ℕ) → temps_of (if b then object u x else value u x) ≡ x ∷ []
names_one true u x = refl
names_one false u x = refl

names_right : (b : Bool) (u : Exp) (x : ℕ) → temps_of (if b then value u x else object u x) ≡ x ∷ []
names_right true u x = refl
names_right false u x = refl

no_constant : (s : Source) (b : Bool) (u : Exp) (x : ℕ) → constants_fit s (if b then object u x else value u x) ≡ true
no_constant s true u x = refl
no_constant s false u x = refl

no_constant_right : (s : Source) (b : Bool) (u : Exp) (x : ℕ) → constants_fit s (if b then value u x else object u x) ≡ true
no_constant_right s true u x = refl
no_constant_right s false u x = refl

-- Arities are different ones.

one_none : arity.Unary ≡ arity.Nullary → ⊥
one_none e = true≢false (ap has_operands e)

two_none : arity.Binary ≡ arity.Nullary → ⊥
two_none e = true≢false (ap has_operands e)

abbrev is_two : Arity → Bool
is_two arity.Binary = true
is_two _ = false

two_one : arity.Binary ≡ arity.Unary → ⊥
two_one e = true≢false (ap is_two e)

-- Temps.

pub reads_none : (e : Exp) (x y : ℕ) → arity_of e ≡ arity.Nullary → is_over e ≡ true → temps_of (over e x y) ≡ []
reads_none (SizeofExpr u n t) x y none is = refl
reads_none (Assign o w u v t) x y none is = absurd (two_none none)
reads_none (Binary o u v t) x y none is = absurd (two_none none)
reads_none (Index u v t) x y none is = absurd (two_none none)
reads_none (Cast u t) x y none is = absurd (one_none none)
reads_none (Convert u t) x y none is = absurd (one_none none)
reads_none (Unary o u t) x y none is = absurd (one_none none)
reads_none (PreInc d u t) x y none is = absurd (one_none none)
reads_none (PostInc d u t) x y none is = absurd (one_none none)
reads_none (Field u n arrow t) x y none is = absurd (one_none none)
reads_none _ x y none is = absurd (true≢false (sym is))

pub reads_one : (e : Exp) (x y : ℕ) → arity_of e ≡ arity.Unary → temps_of (over e x y) ≡ x ∷ []
reads_one (Cast u t) x y one = names_one (is_array (type_of u)) u x
reads_one (Convert u t) x y one = names_one (is_array (type_of u)) u x
reads_one (Unary o u t) x y one = refl
reads_one (PreInc d u t) x y one = refl
reads_one (PostInc d u t) x y one = refl
reads_one (Field u n true t) x y one = refl
reads_one (Field u n false t) x y one = refl
reads_one (Assign o w u v t) x y one = absurd (two_one one)
reads_one (Binary o u v t) x y one = absurd (two_one one)
reads_one (Index u v t) x y one = absurd (two_one one)
reads_one _ x y one = absurd (one_none (sym one))

pub reads_two : (e : Exp) (x y : ℕ) → arity_of e ≡ arity.Binary → temps_of (over e x y) ≡ x ∷ y ∷ []
reads_two (Assign o w u v t) x y two = ap (λ (ns : List ℕ). x ∷ ns) (names_right (is_scalar t) v y)
reads_two (Binary o u v t) x y two = refl
reads_two (Index u v t) x y two = ap (λ (ns : List ℕ). ns ++ y ∷ []) (names_one (is_array (type_of u)) u x)
reads_two (Cast u t) x y two = absurd (two_one (sym two))
reads_two (Convert u t) x y two = absurd (two_one (sym two))
reads_two (Unary o u t) x y two = absurd (two_one (sym two))
reads_two (PreInc d u t) x y two = absurd (two_one (sym two))
reads_two (PostInc d u t) x y two = absurd (two_one (sym two))
reads_two (Field u n arrow t) x y two = absurd (two_one (sym two))
reads_two _ x y two = absurd (two_none (sym two))

-- Constants.

pub constants_alone : (s : Source) (e : Exp) (x y : ℕ) → arity_of e ≡ arity.Nullary → constants_fit s (over e x y) ≡ constants_fit s e
constants_alone s (Assign o w u v t) x y none = absurd (two_none none)
constants_alone s (Binary o u v t) x y none = absurd (two_none none)
constants_alone s (Index u v t) x y none = absurd (two_none none)
constants_alone s (Cast u t) x y none = absurd (one_none none)
constants_alone s (Convert u t) x y none = absurd (one_none none)
constants_alone s (Unary o u t) x y none = absurd (one_none none)
constants_alone s (PreInc d u t) x y none = absurd (one_none none)
constants_alone s (PostInc d u t) x y none = absurd (one_none none)
constants_alone s (Field u n arrow t) x y none = absurd (one_none none)
constants_alone s _ x y none = refl

pub constants_over : (s : Source) (e : Exp) (x y : ℕ) → has_operands (arity_of e) ≡ true → constants_fit s (over e x y) ≡ true
constants_over s (Assign o w u v t) x y some = no_constant_right s (is_scalar t) v y
constants_over s (Binary o u v t) x y some = refl
constants_over s (Index u v t) x y some = ap (λ b. b && true) (no_constant s (is_array (type_of u)) u x)
constants_over s (Cast u t) x y some = no_constant s (is_array (type_of u)) u x
constants_over s (Convert u t) x y some = no_constant s (is_array (type_of u)) u x
constants_over s (Unary o u t) x y some = refl
constants_over s (PreInc d u t) x y some = refl
constants_over s (PostInc d u t) x y some = refl
constants_over s (Field u n true t) x y some = refl
constants_over s (Field u n false t) x y some = refl
constants_over s _ x y some = absurd (true≢false (sym some))
