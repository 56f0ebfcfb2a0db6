-- An expression is one over its own operands; and that of a node over kept ones is one over temps.
use Rattle.std.proofs.Common.{◌≡◌, ℕ, Bool, true, false, if◌then◌else◌, Option, Some, None, List, refl, sym, ◌∙◌, ap, subst}
use Rattle.std.proofs.lemmas.Bool.{true≢false}
use Rattle.bit_net.specs.declared.nodes.Node.{Node}
use Rattle.bit_net.specs.Runs.{Grown}
use Rattle.bit_net.proofs.Growth.{Grown-refl}
use Rattle.gl_store.specs.declared.values.Val.{Val}
use Rattle.gl_store.specs.declared.stores.Location.{Location}
use Rattle.gl_store.specs.Steps.{IsSame}
use Rattle.gate_runs.specs.declared.ends.Ends.{Ends}
use Rattle.sc_tree.specs.declared.op.BinaryOp.{BinaryOp}
use Rattle.sc_tree.specs.declared.op.UnaryOp.TheVariants as sign
use Rattle.sc_world.specs.Tree.{Ty, is_array, Exp, Assign, Binary, Cast, Unary, PreInc, PostInc, SizeofExpr, SizeofType, Index, Field, Convert, type_of}
use Rattle.sc_world.specs.Eval.{Want, Value, Place'}
use Rattle.run_laws.specs.Fits.{is_scalar, if_scalar}
use Rattle.flow_types.specs.Kinds as flow
use Rattle.sc_flow.specs.Over.{over, value, object}
use Rattle.expr_fits.specs.declared.around.Around.{Around}
use Rattle.expr_fits.specs.declared.operands.Arity.TheVariants as arity
use Rattle.expr_fits.specs.Around.{layout_of, source_of, temps_of}
use Rattle.expr_fits.specs.Fits.{CanWalk}
use Rattle.expr_fits.specs.Operands.{Applies, arity_of, has_operands, first_operand, second_operand, first_wanted, second_wanted, with_operands}
use Rattle.expr_fits.specs.Temps.{HasKindFor, temp_at}
use Rattle.tr_walk.specs.Behind.{BehindOne, BehindBoth}
use Rattle.tr_walk.specs.Operands.{size_of, updates}
use Rattle.tr_walk.specs.Walks.{IsReady, Walks}
use Rattle.tr_walk.specs.declared.operators.Sides.{Sides}
use Rattle.tr_walk.proofs.Arms as arms
use Rattle.tr_walk.proofs.Can as can
use Rattle.tr_walk.proofs.Types.{integer_cell}

-- Its own operands.

pub own_is : (e : Exp) → updates e ≡ false → with_operands e (first_operand e) (second_operand e) ≡ e
own_is (Assign None w u v t) plain = refl
own_is (Assign (Some o) w u v t) plain = absurd (true≢false plain)
own_is _ plain = refl

-- a plain assignment, by the operator that is read of it
pub sets_is : (o : Option BinaryOp) (w : Ty) (x y : Exp) (t : Ty) (e : Exp) → e ≡ Assign o w x y t → o ≡ None → updates e ≡ false
sets_is o w x y t e is none = ap updates (is ∙ ap (λ p. Assign p w x y t) none)

module _ (a : Around) (want : Want) where
  pub own_first : (e : Exp) → has_operands (arity_of e) ≡ true → CanWalk a want e → CanWalk a (first_wanted e) (first_operand e)
  own_first (Assign (Some o) w u v t) some h = can.left a Place' u v h.kept h.have h.fits.0 h.plain h.constants
  own_first (Assign None w u v t) some h = can.first a want (Assign None w u v t) u v some refl h
  own_first (Binary o u v t) some h = can.first a want (Binary o u v t) u v some refl h
  own_first (Index u v t) some h = can.first a want (Index u v t) u v some refl h
  own_first (Cast u t) some h = can.first a want (Cast u t) u u some refl h
  own_first (Convert u t) some h = can.first a want (Convert u t) u u some refl h
  own_first (Unary o u t) some h = can.first a want (Unary o u t) u u some refl h
  own_first (PreInc d u t) some h = can.first a want (PreInc d u t) u u some refl h
  own_first (PostInc d u t) some h = can.first a want (PostInc d u t) u u some refl h
  own_first (Field u n arrow t) some h = can.first a want (Field u n arrow t) u u some refl h
  own_first _ some h = absurd (true≢false (sym some))

  -- the number that is added to another one is a value
  pub own_second : (e : Exp) → arity_of e ≡ arity.Binary → CanWalk a want e → CanWalk a (second_wanted e) (second_operand e)
  own_second (Assign (Some o) w u v t) two h =
      can.right a (if_scalar t) u v h.kept h.have
      (subst (λ b. flow.FitsOver h.kept (layout_of a) (if b then Value else Place') v) (sym (integer_cell t h.fits.3)) h.fits.1) h.plain h.constants
  own_second (Assign None w u v t) two h = can.second a want (Assign None w u v t) u v two h
  own_second (Binary o u v t) two h = can.second a want (Binary o u v t) u v two h
  own_second (Index u v t) two h = can.second a want (Index u v t) u v two h
  own_second _ two h = absurd (cc)

  -- in the words of the code, which has the operand out of its box
  pub first_is : (e x : Exp) (w : Want) → has_operands (arity_of e) ≡ true → CanWalk a want e → w ≡ first_wanted e → first_operand e ≡ x → CanWalk a w x
  first_is e x w some h wanted is =
      subst (λ z. CanWalk a w z) is (subst (λ z. CanWalk a z (first_operand e)) (sym wanted) (own_first e some h))

  pub second_is : (e x : Exp) (w : Want) → arity_of e ≡ arity.Binary → CanWalk a want e → w ≡ second_wanted e → second_operand e ≡ x → CanWalk a w x
  second_is e x w two h wanted is =
      subst (λ z. CanWalk a w z) is (subst (λ z. CanWalk a z (second_operand e)) (sym wanted) (own_second e two h))

  over_own : (e : Exp) → updates e ≡ false → CanWalk a want e → CanWalk a want (with_operands e (first_operand e) (second_operand e))
  over_own e plain h = subst (λ z. CanWalk a want z) (sym (own_is e plain)) h

  pub own_applies : (e : Exp) → has_operands (arity_of e) ≡ true → updates e ≡ false → CanWalk a want e → Applies (layout_of a) want e
  own_applies e some plain h = can.applies a want e (first_operand e) (second_operand e) some refl refl (over_own e plain h)

  pub one_own : (e : Exp) (n1 n2 : List Node) (l0 l1 l2 : List Location) (g0 g1 g2 : Ends) (x r : Val) → updates e ≡ false → CanWalk a want e
      → Walks a n1 (first_wanted e) (first_operand e) l0 l1 g0 g1 x → BehindOne a n1 n2 want e l1 l2 g1 g2 x r → Walks a n2 want e l0 l2 g0 g2 r
  one_own e n1 n2 l0 l1 l2 g0 g1 g2 x r plain h first made =
      subst (λ z. Walks a n2 want z l0 l2 g0 g2 r) (own_is e plain)
      (made.walks (first_operand e) (second_operand e) l0 g0 refl (over_own e plain h) first)

  pub both_own : (e : Exp) (n1 n2 n3 : List Node) (l0 l1 l2 l3 : List Location) (g0 g1 g2 g3 : Ends) (xs : Sides) (r : Val) → updates e ≡ false → CanWalk a want e
      → Grown n1 n2 → Walks a n1 (first_wanted e) (first_operand e) l0 l1 g0 g1 xs.left → Walks a n2 (second_wanted e) (second_operand e) l1 l2 g1 g2 xs.right
      → BehindBoth a n2 n3 want e l2 l3 g2 g3 xs r → Walks a n3 want e l0 l3 g0 g3 r
  both_own e n1 n2 n3 l0 l1 l2 l3 g0 g1 g2 g3 xs r plain h grown first second made =
      subst (λ z. Walks a n3 want z l0 l3 g0 g3 r) (own_is e plain)
      (made.walks n1 (first_operand e) (second_operand e) l0 l1 g0 g1 grown refl refl (over_own e plain h) first second)

  -- the same over operands out of their boxes
  pub walked_is : (ns : List Node) (w u : Want) (x y : Exp) (l0 l1 : List Location) (g0 g1 : Ends) (r : Val) → w ≡ u → x ≡ y
      → Walks a ns w x l0 l1 g0 g1 r → Walks a ns u y l0 l1 g0 g1 r
  walked_is ns w u x y l0 l1 g0 g1 r wanted is h = subst (λ z. Walks a ns u z l0 l1 g0 g1 r) is (subst (λ z. Walks a ns z x l0 l1 g0 g1 r) wanted h)

  pub kind_is : (w u : Want) (x y : Exp) (r : Val) → w ≡ u → x ≡ y → HasKindFor (source_of a) w (type_of x) r → HasKindFor (source_of a) u (type_of y) r
  kind_is w u x y r wanted is h =
      subst (λ z. HasKindFor (source_of a) u (type_of z) r) is (subst (λ z. HasKindFor (source_of a) z (type_of x) r) wanted h)

-- Kept operands.

abbrev pub kept : Want → Exp → ℕ → Exp
kept Value x n = value x n
kept Place' x n = object x n

kept_type : (w : Want) (x : Exp) (n : ℕ) → type_of (kept w x n) ≡ type_of x
kept_type Value x n = refl
kept_type Place' x n = refl

-- what is kept of an array, and of what is no scalar, is its place
kept_pointed : (b : Bool) (x : Exp) (n : ℕ) → (if b then object x n else value x n) ≡ kept (if b then Place' else Value) x n
kept_pointed true x n = refl
kept_pointed false x n = refl

kept_right : (b : Bool) (x : Exp) (n : ℕ) → (if b then value x n else object x n) ≡ kept (if b then Value else Place') x n
kept_right true x n = refl
kept_right false x n = refl

module _ (a : Around) (want : Want) (x y : ℕ) where
  -- the expression over the temps that keep its operands
  abbrev pub kept_in : Exp → Exp
  kept_in e = with_operands e (kept (first_wanted e) (first_operand e) x) (kept (second_wanted e) (second_operand e) y)

  pub over_is : (e : Exp) → has_operands (arity_of e) ≡ true → CanWalk a want (over e x y) → over e x y ≡ kept_in e
  over_is (Assign o w u v t) some h = ap (λ z. Assign None w (object u x) z t) (kept_right (is_scalar t) v y)
  over_is (Binary o u v t) some h = refl
  over_is (Index u v t) some h = ap (λ z. Index z (value v y) t) (kept_pointed (is_array (type_of u)) u x)
  over_is (Cast u t) some h = ap (λ z. Cast z t) (kept_pointed (is_array (type_of u)) u x)
  over_is (Convert u t) some h = ap (λ z. Convert z t) (kept_pointed (is_array (type_of u)) u x)
  over_is (Unary sign.Address u t) some h = absurd ((h.fits.0).0)
  over_is (Unary sign.Deref u t) some h = refl
  over_is (Unary sign.Not u t) some h = refl
  over_is (Unary sign.Plus u t) some h = refl
  over_is (Unary sign.Minus u t) some h = refl
  over_is (Unary sign.Complement u t) some h = refl
  over_is (PreInc d u t) some h = refl
  over_is (PostInc d u t) some h = refl
  over_is (Field u n true t) some h = refl
  over_is (Field u n false t) some h = refl
  over_is _ some h = absurd (true≢false (sym some))

  can_kept : (e : Exp) → has_operands (arity_of e) ≡ true → CanWalk a want (over e x y) → CanWalk a want (kept_in e)
  can_kept e some h = subst (λ z. CanWalk a want z) (over_is e some h) h

  pub over_applies : (e : Exp) → has_operands (arity_of e) ≡ true → CanWalk a want (over e x y) → Applies (layout_of a) want e
  over_applies e some h =
      can.applies a want e (kept (first_wanted e) (first_operand e) x) (kept (second_wanted e) (second_operand e) y) some
      (kept_type (first_wanted e) (first_operand e) x) (kept_type (second_wanted e) (second_operand e) y) (can_kept e some h)

  -- what is kept of an operand is walked
  kept_walks : (w : Want) (o : Exp) (n : ℕ) (ns : List Node) (l : List Location) (g : Ends) (r : Val) → IsReady a ns l g → CanWalk a w (kept w o n)
      → IsSame (temp_at (temps_of a) n) r → Walks a ns w (kept w o n) l l g g r
  kept_walks Value o n ns l g r ready h same = arms.walks_temp a ns Value n (type_of o) l g r ready h same
  kept_walks Place' o n ns l g r ready h same = arms.walks_place a ns n (type_of o) l g r ready h same

  pub first_walks : (e : Exp) (ns : List Node) (l : List Location) (g : Ends) (r : Val) → has_operands (arity_of e) ≡ true → CanWalk a want (over e x y)
      → IsReady a ns l g → IsSame (temp_at (temps_of a) x) r → Walks a ns (first_wanted e) (kept (first_wanted e) (first_operand e) x) l l g g r
  first_walks e ns l g r some h ready same =
      kept_walks (first_wanted e) (first_operand e) x ns l g r ready
      (can.first a want e (kept (first_wanted e) (first_operand e) x) (kept (second_wanted e) (second_operand e) y) some
      (kept_type (first_wanted e) (first_operand e) x) (can_kept e some h)) same

  pub second_walks : (e : Exp) (ns : List Node) (l : List Location) (g : Ends) (r : Val) → arity_of e ≡ arity.Binary → CanWalk a want (over e x y)
      → IsReady a ns l g → IsSame (temp_at (temps_of a) y) r → Walks a ns (second_wanted e) (kept (second_wanted e) (second_operand e) y) l l g g r
  second_walks e ns l g r two h ready same =
      kept_walks (second_wanted e) (second_operand e) y ns l g r ready
      (can.second a want e (kept (first_wanted e) (first_operand e) x) (kept (second_wanted e) (second_operand e) y) two (can_kept e (ap has_operands two) h)) same

  pub first_kind : (e : Exp) (ns : List Node) (l : List Location) (g : Ends) (r : Val)
      → Walks a ns (first_wanted e) (kept (first_wanted e) (first_operand e) x) l l g g r → HasKindFor (source_of a) (first_wanted e) (type_of (first_operand e)) r
  first_kind e ns l g r h = subst (λ t. HasKindFor (source_of a) (first_wanted e) t r) (kept_type (first_wanted e) (first_operand e) x) h.kind

  pub second_kind : (e : Exp) (ns : List Node) (l : List Location) (g : Ends) (r : Val)
      → Walks a ns (second_wanted e) (kept (second_wanted e) (second_operand e) y) l l g g r → HasKindFor (source_of a) (second_wanted e) (type_of (second_operand e)) r
  second_kind e ns l g r h = subst (λ t. HasKindFor (source_of a) (second_wanted e) t r) (kept_type (second_wanted e) (second_operand e) y) h.kind

  pub over_one : (e : Exp) (n1 n2 : List Node) (l0 l1 : List Location) (g0 g1 : Ends) (u r : Val) → has_operands (arity_of e) ≡ true
      → CanWalk a want (over e x y) → IsReady a n1 l0 g0 → IsSame (temp_at (temps_of a) x) u → BehindOne a n1 n2 want e l0 l1 g0 g1 u r
      → Walks a n2 want (over e x y) l0 l1 g0 g1 r
  over_one e n1 n2 l0 l1 g0 g1 u r some h ready same made =
      subst (λ z. Walks a n2 want z l0 l1 g0 g1 r) (sym (over_is e some h))
      (made.walks (kept (first_wanted e) (first_operand e) x) (kept (second_wanted e) (second_operand e) y) l0 g0
      (kept_type (first_wanted e) (first_operand e) x) (can_kept e some h) (first_walks e n1 l0 g0 u some h ready same))

  pub over_both : (e : Exp) (n1 n2 : List Node) (l0 l1 : List Location) (g0 g1 : Ends) (xs : Sides) (r : Val) → arity_of e ≡ arity.Binary
      → CanWalk a want (over e x y) → IsReady a n1 l0 g0 → IsSame (temp_at (temps_of a) x) xs.left → IsSame (temp_at (temps_of a) y) xs.right
      → BehindBoth a n1 n2 want e l0 l1 g0 g1 xs r → Walks a n2 want (over e x y) l0 l1 g0 g1 r
  over_both e n1 n2 l0 l1 g0 g1 xs r two h ready same_left same_right made =
      let some : has_operands (arity_of e) ≡ true = ap has_operands two in
      subst (λ z. Walks a n2 want z l0 l1 g0 g1 r) (sym (over_is e some h))
      (made.walks n1 (kept (first_wanted e) (first_operand e) x) (kept (second_wanted e) (second_operand e) y) l0 l0 g0 g0 (Grown-refl n1)
      (kept_type (first_wanted e) (first_operand e) x) (kept_type (second_wanted e) (second_operand e) y) (can_kept e some h)
      (first_walks e n1 l0 g0 xs.left some h ready same_left) (second_walks e n1 l0 g0 xs.right two h ready same_right))

-- What has no operands stands as it is, but for `sizeof` of an expression.

pub over_alone : (e : Exp) (x y : ℕ) → arity_of e ≡ arity.Nullary → size_of e ≡ None → over e x y ≡ e
over_alone (SizeofExpr u n t) x y alone size = absurd (cc)
over_alone (Assign o w u v t) x y alone size = absurd (cc)
over_alone (Binary o u v t) x y alone size = absurd (cc)
over_alone (Index u v t) x y alone size = absurd (cc)
over_alone (Cast u t) x y alone size = absurd (cc)
over_alone (Convert u t) x y alone size = absurd (cc)
over_alone (Unary o u t) x y alone size = absurd (cc)
over_alone (PreInc d u t) x y alone size = absurd (cc)
over_alone (PostInc d u t) x y alone size = absurd (cc)
over_alone (Field u n arrow t) x y alone size = absurd (cc)
over_alone _ x y alone size = refl

pub over_size : (e : Exp) (x y n : ℕ) → size_of e ≡ Some n → over e x y ≡ SizeofType n (type_of e)
over_size (SizeofExpr u m t) x y n size = ap (λ k. SizeofType k t) (number size)
  where
    number : {m n : ℕ} → Some m ≡ Some n → m ≡ n
    number e = cc
over_size _ x y n size = absurd (cc)
