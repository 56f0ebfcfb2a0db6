-- Which operands of an expression can be walked, where the expression can be.
use Rattle.std.proofs.Common.{◌≡◌, Bool, true, false, not, ◌&&◌, ◌++◌, refl, sym, ◌∙◌, subst}
use Rattle.std.proofs.lemmas.Bool.{true≢false}
use Rattle.sc_tree.specs.declared.op.BinaryOp.{BinaryOp}
use Rattle.sc_tree.specs.declared.op.UnaryOp.TheVariants as sign
use Rattle.sc_world.specs.Tree.{Ty, Void, is_integer, is_pointer, is_array, target_or_void, Exp, Comma, Assign, Binary, Cast, Unary, PreInc, PostInc, Index, Field, Convert, type_of}
use Rattle.sc_world.specs.Eval.{Want, Value, Place', is_logical}
use Rattle.run_laws.specs.Fits.{is_scalar, if_scalar, unless_array, operands_fit, TypesMeet, converts_to, Indexed, MemberFits}
use Rattle.flow_graph.specs.Conditions as graph
use Rattle.flow_graph.specs.Conditions.{is_plain}
use Rattle.flow_types.specs.Kinds as flow
use Rattle.expr_fits.specs.declared.around.Around.{Around}
use Rattle.expr_fits.specs.declared.operands.Arity.TheVariants as arity
use Rattle.expr_fits.specs.Around.{layout_of, source_of, temps_of}
use Rattle.expr_fits.specs.Temps.{HaveKinds}
use Rattle.expr_fits.specs.Fits.{CanWalk, constants_fit}
use Rattle.expr_fits.specs.Operands.{Applies, arity_of, has_operands, first_operand, second_operand, first_wanted, second_wanted, with_operands}
use Rattle.tr_walk.proofs.Kept.{left_kinds, right_kinds}

-- Both of two tests hold.

left_holds : (a b : Bool) → a && b ≡ true → a ≡ true
left_holds true b e = refl
left_holds false b e = e

right_holds : (a b : Bool) → a && b ≡ true → b ≡ true
right_holds true b e = e
right_holds false b e = absurd (true≢false (sym e))

not_holds : (a : Bool) → not a ≡ true → a ≡ false
not_holds true e = sym e
not_holds false e = refl

module _ (a : Around) where
  -- an operand that is the only one, and the first and the second one of two
  pub only : (w : Want) (x : Exp) (k : flow.Kinds) → HaveKinds (source_of a) k.temps (temps_of a) (graph.temps_of x) → flow.FitsOver k (layout_of a) w x
      → is_plain x ≡ true → constants_fit (source_of a) x ≡ true → CanWalk a w x
  only w x k have fits plain constants = record { kept = k; have = have; fits = fits; plain = plain; constants = constants }

  pub left : (w : Want) (x y : Exp) (k : flow.Kinds) → HaveKinds (source_of a) k.temps (temps_of a) (graph.temps_of x ++ graph.temps_of y)
      → flow.FitsOver k (layout_of a) w x → is_plain x && is_plain y ≡ true → constants_fit (source_of a) x && constants_fit (source_of a) y ≡ true → CanWalk a w x
  left w x y k have fits plain constants =
      only w x k (left_kinds (source_of a) k.temps (temps_of a) (graph.temps_of x) (graph.temps_of y) have) fits
      (left_holds (is_plain x) (is_plain y) plain) (left_holds (constants_fit (source_of a) x) (constants_fit (source_of a) y) constants)

  pub right : (w : Want) (x y : Exp) (k : flow.Kinds) → HaveKinds (source_of a) k.temps (temps_of a) (graph.temps_of x ++ graph.temps_of y)
      → flow.FitsOver k (layout_of a) w y → is_plain x && is_plain y ≡ true → constants_fit (source_of a) x && constants_fit (source_of a) y ≡ true → CanWalk a w y
  right w x y k have fits plain constants =
      only w y k (right_kinds (source_of a) k.temps (temps_of a) (graph.temps_of x) (graph.temps_of y) have) fits
      (right_holds (is_plain x) (is_plain y) plain) (right_holds (constants_fit (source_of a) x) (constants_fit (source_of a) y) constants)

module _ (a : Around) (want : Want) where
  -- Commas.

  pub comma_left : (x y : Exp) (t : Ty) → CanWalk a want (Comma x y t) → CanWalk a Value x
  comma_left x y t can = left a Value x y can.kept can.have can.fits.0 can.plain can.constants

  pub comma_right : (x y : Exp) (t : Ty) → CanWalk a want (Comma x y t) → CanWalk a want y
  comma_right x y t can = right a want x y can.kept can.have can.fits.1 can.plain can.constants

  pub comma_type : (x y : Exp) (t : Ty) → CanWalk a want (Comma x y t) → type_of y ≡ t
  comma_type x y t can = can.fits.2

  -- Operands of operators, over any others of their types.

  pub not_logical : (o : BinaryOp) (x y : Exp) → is_plain (Binary o x y Void) ≡ true → is_logical o ≡ false
  not_logical o x y plain = not_holds (is_logical o) (left_holds (not (is_logical o)) (is_plain x && is_plain y) plain)

  both_plain : (o : BinaryOp) (x y : Exp) → is_plain (Binary o x y Void) ≡ true → is_plain x && is_plain y ≡ true
  both_plain o x y plain = right_holds (not (is_logical o)) (is_plain x && is_plain y) plain

  pub cast_is_convert : (x : Exp) (t : Ty) → CanWalk a want (Cast x t) → CanWalk a want (Convert x t)
  cast_is_convert x t can = record { kept = can.kept; have = can.have; fits = can.fits; plain = can.plain; constants = can.constants }

  -- an array is wanted as a place
  by_array : (k : flow.Kinds) (x u : Exp) → type_of x ≡ type_of u → flow.FitsOver k (layout_of a) (unless_array (type_of x)) x
      → flow.FitsOver k (layout_of a) (unless_array (type_of u)) x
  by_array k x u is fits = subst (λ t. flow.FitsOver k (layout_of a) (unless_array t) x) is fits

  pub first : (e x y : Exp) → has_operands (arity_of e) ≡ true → type_of x ≡ type_of (first_operand e) → CanWalk a want (with_operands e x y)
      → CanWalk a (first_wanted e) x
  first (Assign o w u v t) x y some is can = left a Place' x y can.kept can.have can.fits.0 can.plain can.constants
  first (Binary o u v t) x y some is can = left a Value x y can.kept can.have can.fits.0 (both_plain o x y can.plain) can.constants
  first (Index u v t) x y some is can =
      left a (unless_array (type_of u)) x y can.kept can.have (by_array can.kept x u is can.fits.0) can.plain can.constants
  first (Cast u t) x y some is can = only a (unless_array (type_of u)) x can.kept can.have (by_array can.kept x u is can.fits.0) can.plain can.constants
  first (Convert u t) x y some is can = only a (unless_array (type_of u)) x can.kept can.have (by_array can.kept x u is can.fits.0) can.plain can.constants
  first (Unary sign.Address u t) x y some is can = only a Place' x can.kept can.have can.fits.0 can.plain can.constants
  first (Unary sign.Deref u t) x y some is can = only a Value x can.kept can.have can.fits.0 can.plain can.constants
  first (Unary sign.Not u t) x y some is can = only a Value x can.kept can.have can.fits.0 can.plain can.constants
  first (Unary sign.Plus u t) x y some is can = only a Value x can.kept can.have can.fits.0 can.plain can.constants
  first (Unary sign.Minus u t) x y some is can = only a Value x can.kept can.have can.fits.0 can.plain can.constants
  first (Unary sign.Complement u t) x y some is can = only a Value x can.kept can.have can.fits.0 can.plain can.constants
  first (PreInc d u t) x y some is can = only a Place' x can.kept can.have can.fits.0 can.plain can.constants
  first (PostInc d u t) x y some is can = only a Place' x can.kept can.have can.fits.0 can.plain can.constants
  first (Field u n true t) x y some is can = only a Value x can.kept can.have can.fits.0 can.plain can.constants
  first (Field u n false t) x y some is can = only a Place' x can.kept can.have can.fits.0 can.plain can.constants
  first _ x y some is can = absurd (true≢false (sym some))

  pub second : (e x y : Exp) → arity_of e ≡ arity.Binary → CanWalk a want (with_operands e x y) → CanWalk a (second_wanted e) y
  second (Assign o w u v t) x y two can = right a (if_scalar t) x y can.kept can.have can.fits.1 can.plain can.constants
  second (Binary o u v t) x y two can = right a Value x y can.kept can.have can.fits.1 (both_plain o x y can.plain) can.constants
  second (Index u v t) x y two can = right a Value x y can.kept can.have can.fits.1 can.plain can.constants
  second _ x y two can = absurd (cc)

  -- What the operator asks of the types.

  pub applies : (e x y : Exp) → has_operands (arity_of e) ≡ true → type_of x ≡ type_of (first_operand e) → type_of y ≡ type_of (second_operand e)
      → CanWalk a want (with_operands e x y) → Applies (layout_of a) want e
  applies (Assign o w u v t) x y some l r can = (sym l ∙ can.fits.2, sym r ∙ can.fits.3)
  applies (Binary o u v t) x y some l r can = (
    not_logical o x y can.plain,
    can.fits.2,
    can.fits.3,
    subst (λ i. operands_fit o i (type_of v) ≡ true) l (subst (λ j. operands_fit o (type_of x) j ≡ true) r can.fits.4),
    subst (λ i. TypesMeet o i (type_of v) t) l (subst (λ j. TypesMeet o (type_of x) j t) r can.fits.5),
  )
  applies (Index u v t) x y some l r can =
      (subst (λ j. is_integer j ≡ true) r can.fits.2, subst (λ i. Indexed (layout_of a) (is_array i) i t) l can.fits.3)
  applies (Cast u t) x y some l r can = (can.fits.1, subst (λ i. converts_to i t ≡ true) l can.fits.2)
  applies (Convert u t) x y some l r can = (can.fits.1, subst (λ i. converts_to i t ≡ true) l can.fits.2)
  applies (Unary sign.Address u t) x y some l r can = (can.fits.1, can.fits.2)
  applies (Unary sign.Deref u t) x y some l r can = subst (λ i. is_pointer i ≡ true) l can.fits.1
  applies (Unary sign.Not u t) x y some l r can = (can.fits.1, subst (λ i. is_scalar i ≡ true) l can.fits.2, can.fits.3)
  applies (Unary sign.Plus u t) x y some l r can = (can.fits.1, sym l ∙ can.fits.2, can.fits.3)
  applies (Unary sign.Minus u t) x y some l r can = (can.fits.1, sym l ∙ can.fits.2, can.fits.3)
  applies (Unary sign.Complement u t) x y some l r can = (can.fits.1, sym l ∙ can.fits.2, can.fits.3)
  applies (PreInc d u t) x y some l r can = (can.fits.1, sym l ∙ can.fits.2, can.fits.3)
  applies (PostInc d u t) x y some l r can = (can.fits.1, sym l ∙ can.fits.2, can.fits.3)
  applies (Field u n true t) x y some l r can =
      (subst (λ i. is_pointer i ≡ true) l can.fits.1, subst (λ i. MemberFits (layout_of a) (target_or_void i) n t) l can.fits.2)
  applies (Field u n false t) x y some l r can = subst (λ i. MemberFits (layout_of a) i n t) l can.fits.1
  applies _ x y some l r can = absurd (true≢false (sym some))
