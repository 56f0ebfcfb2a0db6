-- What the test asks of operators over kept operands: that the temps keep them, and that the types fit.
use Rattle.std.proofs.Common.{◌≡◌, ℕ, Bool, true, false, ◌&&◌, Option, None, List, if◌then◌else◌, refl, sym, ap, subst}
use Rattle.sc_tree.specs.declared.op.BinaryOp.{BinaryOp}
use Rattle.sc_world.specs.Tree.{Ty, is_integer, is_array, Exp, Assign, Cast, Index, Convert, type_of}
use Rattle.sc_world.specs.Source.{Source}
use Rattle.sc_world.specs.Layout.{Layout}
use Rattle.sc_world.specs.Eval.{Want, Value, Place'}
use Rattle.flow_graph.specs.Conditions.{is_plain}
use Rattle.flow_types.specs.Kinds as flow
use Rattle.run_laws.specs.Fits.{is_scalar, if_scalar, unless_array}
use Rattle.sc_flow.specs.Over.{over, value, object}
use Rattle.expr_fits.specs.Fits.{constants_fit}
use Rattle.expr_fits.specs.Here as here

module _ (s : Source) (p : Layout) (ks : List flow.Kind) (want : Want) where
  -- all that the test asks
  abbrev pub passes : Exp → Bool
  passes e = is_plain e && (constants_fit s e && here.fits_over p ks want e)

  -- the operand of a conversion, or what an index goes into: of an array its place
  abbrev one_of : Bool → Exp → ℕ → Exp
  one_of b u x = if b then object u x else value u x

  module _ (u : Exp) (x : ℕ) where
    -- is: whether it is an array; k: what else is asked of its type
    pointed : (b : Bool) (k : Ty → Bool) → is_array (type_of u) ≡ b
        → is_plain (one_of b u x) && (constants_fit s (one_of b u x)
        && (here.fits_over p ks (unless_array (type_of (one_of b u x))) (one_of b u x) && k (type_of (one_of b u x))))
        ≡ (here.keeps ks x (unless_array (type_of u)) (type_of u) && k (type_of u))
    pointed true k is = ap (λ c. here.keeps ks x (if c then Place' else Value) (type_of u) && k (type_of u)) (sym is)
    pointed false k is =
        subst (λ c. ((here.is_read (if c then Place' else Value) && here.keeps ks x Value (type_of u)) && k (type_of u))
        ≡ (here.keeps ks x (if c then Place' else Value) (type_of u) && k (type_of u))) (sym is) refl

    pub cast_over : (t : Ty) (y : ℕ)
        → passes (over (Cast u t) x y) ≡ (here.keeps ks x (unless_array (type_of u)) (type_of u) && here.conversion_fits want (type_of u) t)
    cast_over t y = pointed (is_array (type_of u)) (λ i. here.conversion_fits want i t) refl

    pub convert_over : (t : Ty) (y : ℕ)
        → passes (over (Convert u t) x y) ≡ (here.keeps ks x (unless_array (type_of u)) (type_of u) && here.conversion_fits want (type_of u) t)
    convert_over t y = pointed (is_array (type_of u)) (λ i. here.conversion_fits want i t) refl

  module _ (u v : Exp) (x y : ℕ) (t : Ty) where
    -- what an index asks, whether it goes into an array or behind a pointer
    element : (b : Bool) → is_array (type_of u) ≡ b → passes (Index (one_of b u x) (value v y) t)
        ≡ (here.keeps ks x (unless_array (type_of u)) (type_of u)
        && (here.keeps ks y Value (type_of v) && (is_integer (type_of v) && here.indexed_fits p (is_array (type_of u)) (type_of u) t)))
    element true is =
        ap (λ c. here.keeps ks x (if c then Place' else Value) (type_of u)
        && (here.keeps ks y Value (type_of v) && (is_integer (type_of v) && here.indexed_fits p (is_array (type_of u)) (type_of u) t))) (sym is)
    element false is =
        subst (λ c. ((here.is_read (if c then Place' else Value) && here.keeps ks x Value (type_of u))
        && (here.keeps ks y Value (type_of v) && (is_integer (type_of v) && here.indexed_fits p (is_array (type_of u)) (type_of u) t)))
        ≡ (here.keeps ks x (if c then Place' else Value) (type_of u)
        && (here.keeps ks y Value (type_of v) && (is_integer (type_of v) && here.indexed_fits p (is_array (type_of u)) (type_of u) t)))) (sym is) refl

    pub index_over : passes (over (Index u v t) x y)
        ≡ (here.keeps ks x (unless_array (type_of u)) (type_of u)
        && (here.keeps ks y Value (type_of v) && (is_integer (type_of v) && here.indexed_fits p (is_array (type_of u)) (type_of u) t)))
    index_over = element (is_array (type_of u)) refl

    -- the right side of an assignment is a value where it is a scalar
    right : (b : Bool) (w : Ty) → is_scalar t ≡ b → passes (Assign None w (object u x) (if b then value v y else object v y) t)
        ≡ (here.keeps ks x Place' (type_of u) && (here.keeps ks y (if_scalar t) (type_of v) && here.assign_fits None w (type_of u) (type_of v) t))
    right true w is =
        subst (λ c. (here.keeps ks x Place' (type_of u)
        && ((here.is_read (if c then Value else Place') && here.keeps ks y Value (type_of v)) && here.assign_fits None w (type_of u) (type_of v) t))
        ≡ (here.keeps ks x Place' (type_of u)
        && (here.keeps ks y (if c then Value else Place') (type_of v) && here.assign_fits None w (type_of u) (type_of v) t))) (sym is) refl
    right false w is =
        ap (λ c. here.keeps ks x Place' (type_of u)
        && (here.keeps ks y (if c then Value else Place') (type_of v) && here.assign_fits None w (type_of u) (type_of v) t)) (sym is)

    pub assign_over : (o : Option BinaryOp) (w : Ty) → passes (over (Assign o w u v t) x y)
        ≡ (here.keeps ks x Place' (type_of u) && (here.keeps ks y (if_scalar t) (type_of v) && here.assign_fits None w (type_of u) (type_of v) t))
    assign_over o w = right (is_scalar t) w refl
