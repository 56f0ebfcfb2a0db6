-- Expressions, with names that come later and without them, in one layout.
use Rattle.std.proofs.Common.{◌≡◌, ℕ, List, ◌∷◌, refl}
use Rattle.std.specs.Prelude.{Bool, true, false, not, nat_eq, ◌||◌, Option, Some, None, if◌then◌else◌}
use Rattle.sc_tree.specs.declared.op.BinaryOp.{BinaryOp}
use Rattle.sc_tree.specs.declared.op.UnaryOp.TheVariants as sign
use Rattle.sc_tree.specs.declared.expr.Place.{Place}
use Rattle.run_store.specs.Concrete.{Cell}
use Rattle.sc_world.specs.declared.run.Reason.TheVariants as reason
use Rattle.sc_world.specs.Tree.{Ty, is_integer, is_pointer, is_array, target_or_void, Exp, Comma, Assign, Cond, Binary, Cast, Unary, PreInc, PostInc, SizeofExpr, SizeofType, Index, Call, Field, Param, Local, Global, Function, Number, Str, Convert, Temp, TempPlace, Exps, NoExps, Exps', type_of}
use Rattle.sc_world.specs.Source.{Source}
use Rattle.sc_world.specs.Layout.{Layout, Placed, site_at}
use Rattle.sc_world.specs.World.{◌>>=◌, done, unless, Env, number_of, is_true, load, store, dereference}
use Rattle.sc_world.specs.Eval.{Want, Value, Place', Evaluator, wanted, place_of, truth_cell, needs_right, is_logical, operated, signed_as, counted, element, member, convert_of, assign_by, assign_value, assign_struct, combined, callee, is_name, call, eval, eval_all}
use Rattle.source_laws.specs.Named.{Tables, with_tables}

abbrev pub there : Source → Layout → List Bool → List Cell → ℕ → Env
there s p choice temps t = record { source = s; layout = p; choice = choice; temps = temps; turn = t }

module _ (old new : Tables) (s : Source) (p : Layout) (choice : List Bool) (temps : List Cell) (t : ℕ) where
  abbrev one : Env
  one = there (with_tables s old) p choice temps t

  abbrev other : Env
  other = there (with_tables s new) p choice temps t

  call_same : (x : Place) (f : Exp) (y : Ty) (c : Placed) (vs : List Cell) → call one x f y c vs ≡ call other x f y c vs
  call_same x f y c vs = refl

  assign_by_same : (o : Option BinaryOp) (works y : Ty) (want : Want) (q : Cell) (f : Evaluator)
      → ((w : Want) → f w one ≡ f w other) → assign_by o works y want one q f ≡ assign_by o works y want other q f
  assign_by_same None works y want q f e = λ i.
      if is_integer y || is_pointer y
      then (e Value i >>= λ v. assign_value one want y q v)
      else (e Place' i >>= λ x. assign_struct one q x)
  assign_by_same (Some o) works y want q f e = λ i. do
    old ← load (place_of q)
    v ← e Value i
    r ← combined one o works y old v
    assign_value one want y q r

  callee_same : (b : Bool) (f : Evaluator) → ((w : Want) → f w one ≡ f w other) → callee b f one ≡ callee b f other
  callee_same true f e = refl
  callee_same false f e = e Value

  mutual
    pub eval_same : (e : Exp) (want : Want) → eval e want one ≡ eval e want other
    eval_same (Comma a b y) want = λ i. do
      _ ← eval_same a Value i
      eval_same b want i
    eval_same (Assign o works a b y) want = λ i. do
      q ← eval_same a Place' i
      assign_by_same o works y want q (eval b) (λ w. eval_same b w) i
    eval_same (Cond a b c y) want = λ i. do
      x ← eval_same a Value i
      if is_true x then eval_same b want i else eval_same c want i
    eval_same (Binary o a b y) want = λ i. do
      x ← eval_same a Value i
      if is_logical o
          then (if needs_right o (is_true x)
          then (eval_same b Value i >>= λ z. done (truth_cell one y (is_true z)))
          else done (truth_cell one y (is_true x)))
          else (eval_same b Value i >>= λ z. operated one o (type_of a) y x z)
    eval_same (Cast a y) want = λ i. convert_of (type_of a) (λ w n. eval_same a w i) y one
    eval_same (Unary sign.Address a y) want = eval_same a Place'
    eval_same (Unary sign.Deref a y) want = λ i. do
      q ← eval_same a Value i
      at ← dereference one y q
      wanted want y at
    eval_same (Unary sign.Not a y) want = λ i. do
      x ← eval_same a Value i
      done (truth_cell one y (not (is_true x)))
    eval_same (Unary o a y) want = λ i. do
      x ← eval_same a Value i
      done (signed_as one o y x)
    eval_same (PreInc d a y) want = λ i. do
      q ← eval_same a Place' i
      old ← load (place_of q)
      v ← counted one d y old
      _ ← store (place_of q) v
      done v
    eval_same (PostInc d a y) want = λ i. do
      q ← eval_same a Place' i
      old ← load (place_of q)
      v ← counted one d y old
      _ ← store (place_of q) v
      done old
    eval_same (SizeofExpr a n y) want = refl
    eval_same (SizeofType n y) want = refl
    eval_same (Index a b y) want = λ i.
        if is_array (type_of a)
        then (do
          q ← eval_same a Place' i
          k ← eval_same b Value i
          at ← element one (place_of q) (number_of k)
          wanted want y at)
        else (do
          q ← eval_same a Value i
          k ← eval_same b Value i
          at ← dereference one y q
          _ ← unless (nat_eq (number_of k) 0) reason.Index
          wanted want y at)
    eval_same (Call x f es y) want = λ i. do
      _ ← callee_same (is_name f) (eval f) (λ w. eval_same f w) i
      vs ← eval_all_same es i
      call_same x f y (site_at p x.token) vs i
    eval_same (Field a n true y) want = λ i. do
      q ← eval_same a Value i
      at ← dereference one (target_or_void (type_of a)) q
      k ← member one n at
      wanted want y k
    eval_same (Field a n false y) want = λ i. do
      q ← eval_same a Place' i
      k ← member one n (place_of q)
      wanted want y k
    eval_same (Param n y) want = refl
    eval_same (Local n y) want = refl
    eval_same (Global n y) want = refl
    eval_same (Function n b y) want = refl
    eval_same (Number n y) want = refl
    eval_same (Str x y) want = refl
    eval_same (Convert a y) want = λ i. convert_of (type_of a) (λ w n. eval_same a w i) y one
    eval_same (Temp n y) want = refl
    eval_same (TempPlace n y) want = refl

    pub eval_all_same : (es : Exps) → eval_all es one ≡ eval_all es other
    eval_all_same NoExps = refl
    eval_all_same (Exps' e es) = λ i. do
      v ← eval_same e Value i
      vs ← eval_all_same es i
      done (v ∷ vs)
