-- How an operator goes on behind its operands, in the tree and on what was kept.
use Rattle.std.proofs.Common.{◌≡◌, ℕ, Bool, true, false, List, refl, ap}
use Rattle.std.specs.Prelude.{None, not, nat_eq}
use Rattle.sc_base.specs.declared.pos.NameId.{NameId}
use Rattle.sc_tree.specs.declared.op.BinaryOp.{BinaryOp}
use Rattle.sc_tree.specs.declared.op.UnaryOp.TheVariants as sign
use Rattle.sc_tree.specs.declared.op.Step.{Step}
use Rattle.run_store.specs.Concrete.{Cell}
use Rattle.sc_world.specs.declared.run.Reason.TheVariants as reason
use Rattle.sc_world.specs.Tree.{Ty, is_array, target_or_void, Exp, Assign, Binary, Cast, Unary, PreInc, PostInc, Index, Field, Convert, Temp, TempPlace, type_of}
use Rattle.sc_world.specs.Source.{Source}
use Rattle.sc_world.specs.Layout.{Layout}
use Rattle.sc_world.specs.World.{World, Run, ◌>>=◌, done, unless, Env, load, store, dereference, number_of, is_true}
use Rattle.sc_world.specs.Eval.{Want, Value, Place', eval, convert, operated, signed_as, truth_cell, counted, assign_value, assign_struct, place_of, wanted, element, member, first_element, is_logical}
use Rattle.flow_graph.specs.Nodes.{Kept, temp, reads, in_tree}
use Rattle.flow_graph.specs.Expressions.{is_scalar}
use Rattle.flow_graph.proofs.Steps.{goes_ext, goes_cong}
use Rattle.flow_graph.proofs.Same.{convert_same, operated_same, signed_same, counted_same, dereference_same}

module _ (s : Source) (p : Layout) (choice : List Bool) where
  -- an operator with one operand
  pub record One (wa : Want) (a e : Exp) (whole : ℕ → Exp) : Type 0 where
    pub after : Want → Env → Cell → Run Cell
    pub splits : (want : Want) (env : Env) (w : World) → eval e want env w ≡ (eval a wa env >>= after want env) w
    pub on_kept : (want : Want) (x : ℕ) (k : Kept) (w : World)
        → eval (whole x) want (reads s p choice k) w ≡ after want (reads s p choice k) (temp k x) w
    pub same : (want : Want) (k : Kept) (turn : ℕ) (c : Cell) (w : World)
        → after want (reads s p choice k) c w ≡ after want (in_tree s p choice turn) c w

  -- an operator with two operands, from left to right
  pub record Two (wa : Want) (a : Exp) (wb : Want) (b e : Exp) (whole : ℕ → ℕ → Exp) : Type 0 where
    pub after : Want → Env → Cell → Cell → Run Cell
    pub splits : (want : Want) (env : Env) (w : World)
        → eval e want env w ≡ (eval a wa env >>= λ x. eval b wb env >>= after want env x) w
    pub on_kept : (want : Want) (x y : ℕ) (k : Kept) (w : World)
        → eval (whole x y) want (reads s p choice k) w ≡ after want (reads s p choice k) (temp k x) (temp k y) w
    pub same : (want : Want) (k : Kept) (turn : ℕ) (c d : Cell) (w : World)
        → after want (reads s p choice k) c d w ≡ after want (in_tree s p choice turn) c d w

  -- `++` and `--`
  setting : (gives : Cell → Cell → Cell) → (at old : Cell) → Cell → Run Cell
  setting gives c old v = store (place_of c) v >>= λ _. done (gives old v)

  counting : Step → Ty → (gives : Cell → Cell → Cell) → Want → Env → Cell → Run Cell
  counting d t gives want env c =
      load (place_of c) >>= λ old. counted env d t old >>= setting gives c old

  counting_same : (d : Step) (t : Ty) (gives : Cell → Cell → Cell) (want : Want) (k : Kept) (turn : ℕ) (c : Cell) (w : World)
      → counting d t gives want (reads s p choice k) c w ≡ counting d t gives want (in_tree s p choice turn) c w
  unfolding counting
  counting_same d t gives want k turn c w =
      goes_ext (load (place_of c) w) (λ old. counted (reads s p choice k) d t old >>= setting gives c old)
      (λ old. counted (in_tree s p choice turn) d t old >>= setting gives c old)
      (λ old w'. goes_cong _ _ (setting gives c old) (setting gives c old) (counted_same s p choice k turn d t old w') (λ v w''. refl))

  pub pre : (d : Step) (a : Exp) (t : Ty) → One Place' a (PreInc d a t) (λ x. PreInc d (TempPlace x (type_of a)) t)
  unfolding counting setting
  pre d a t = record {
    after = counting d t (λ old v. v);
    splits = λ want env w. refl;
    on_kept = λ want x k w. refl;
    same = λ want k turn c w. counting_same d t (λ old v. v) want k turn c w;
  }

  pub post : (d : Step) (a : Exp) (t : Ty) → One Place' a (PostInc d a t) (λ x. PostInc d (TempPlace x (type_of a)) t)
  unfolding counting setting
  post d a t = record {
    after = counting d t (λ old v. old);
    splits = λ want env w. refl;
    on_kept = λ want x k w. refl;
    same = λ want k turn c w. counting_same d t (λ old v. old) want k turn c w;
  }

  pub negation : (a : Exp) (t : Ty) → One Value a (Unary sign.Not a t) (λ x. Unary sign.Not (Temp x (type_of a)) t)
  negation a t = record {
    after = λ want env c. done (truth_cell env t (not (is_true c)));
    splits = λ want env w. refl;
    on_kept = λ want x k w. refl;
    same = λ want k turn c w. refl;
  }

  pub plus : (a : Exp) (t : Ty) → One Value a (Unary sign.Plus a t) (λ x. Unary sign.Plus (Temp x (type_of a)) t)
  plus a t = record {
    after = λ want env c. done (signed_as env sign.Plus t c);
    splits = λ want env w. refl;
    on_kept = λ want x k w. refl;
    same = λ want k turn c w. ap (λ x. done x w) (signed_same s p choice k turn sign.Plus t c);
  }

  pub minus : (a : Exp) (t : Ty) → One Value a (Unary sign.Minus a t) (λ x. Unary sign.Minus (Temp x (type_of a)) t)
  minus a t = record {
    after = λ want env c. done (signed_as env sign.Minus t c);
    splits = λ want env w. refl;
    on_kept = λ want x k w. refl;
    same = λ want k turn c w. ap (λ x. done x w) (signed_same s p choice k turn sign.Minus t c);
  }

  pub complement : (a : Exp) (t : Ty) → One Value a (Unary sign.Complement a t) (λ x. Unary sign.Complement (Temp x (type_of a)) t)
  complement a t = record {
    after = λ want env c. done (signed_as env sign.Complement t c);
    splits = λ want env w. refl;
    on_kept = λ want x k w. refl;
    same = λ want k turn c w. ap (λ x. done x w) (signed_same s p choice k turn sign.Complement t c);
  }

  pub deref : (a : Exp) (t : Ty) → One Value a (Unary sign.Deref a t) (λ x. Unary sign.Deref (Temp x (type_of a)) t)
  deref a t = record {
    after = λ want env c. dereference env t c >>= λ at. wanted want t at;
    splits = λ want env w. refl;
    on_kept = λ want x k w. refl;
    same = λ want k turn c w. goes_cong _ _ _ _ (dereference_same s p choice k turn t c w) (λ at w'. refl);
  }

  pub arrow : (a : Exp) (n : NameId) (t : Ty) → One Value a (Field a n true t) (λ x. Field (Temp x (type_of a)) n true t)
  arrow a n t = record {
    after = λ want env c. dereference env (target_or_void (type_of a)) c >>= λ at. member env n at >>= λ m. wanted want t m;
    splits = λ want env w. refl;
    on_kept = λ want x k w. refl;
    same = λ want k turn c w. goes_cong _ _ _ _ (dereference_same s p choice k turn (target_or_void (type_of a)) c w) (λ at w'. refl);
  }

  pub dot : (a : Exp) (n : NameId) (t : Ty) → One Place' a (Field a n false t) (λ x. Field (TempPlace x (type_of a)) n false t)
  dot a n t = record {
    after = λ want env c. member env n (place_of c) >>= λ m. wanted want t m;
    splits = λ want env w. refl;
    on_kept = λ want x k w. refl;
    same = λ want k turn c w. refl;
  }

  -- conversions, of an array and of anything else
  pub cast_array : (a : Exp) (t : Ty) → is_array (type_of a) ≡ true → One Place' a (Cast a t) (λ x. Cast (TempPlace x (type_of a)) t)
  cast_array a t h = record {
    after = λ want env c. done (first_element env c);
    splits = λ want env w. rw h refl;
    on_kept = λ want x k w. rw h refl;
    same = λ want k turn c w. refl;
  }

  pub cast_value : (a : Exp) (t : Ty) → is_array (type_of a) ≡ false → One Value a (Cast a t) (λ x. Cast (Temp x (type_of a)) t)
  cast_value a t h = record {
    after = λ want env c. done (convert env (type_of a) t c);
    splits = λ want env w. rw h refl;
    on_kept = λ want x k w. rw h refl;
    same = λ want k turn c w. ap (λ x. done x w) (convert_same s p choice k turn (type_of a) t c);
  }

  pub convert_array : (a : Exp) (t : Ty) → is_array (type_of a) ≡ true → One Place' a (Convert a t)
      (λ x. Convert (TempPlace x (type_of a)) t)
  convert_array a t h = record {
    after = λ want env c. done (first_element env c);
    splits = λ want env w. rw h refl;
    on_kept = λ want x k w. rw h refl;
    same = λ want k turn c w. refl;
  }

  pub convert_value : (a : Exp) (t : Ty) → is_array (type_of a) ≡ false → One Value a (Convert a t) (λ x. Convert (Temp x (type_of a)) t)
  convert_value a t h = record {
    after = λ want env c. done (convert env (type_of a) t c);
    splits = λ want env w. rw h refl;
    on_kept = λ want x k w. rw h refl;
    same = λ want k turn c w. ap (λ x. done x w) (convert_same s p choice k turn (type_of a) t c);
  }

  -- operators with two operands
  pub operation : (o : BinaryOp) (a b : Exp) (t : Ty) → is_logical o ≡ false
      → Two Value a Value b (Binary o a b t) (λ x y. Binary o (Temp x (type_of a)) (Temp y (type_of b)) t)
  operation o a b t h = record {
    after = λ want env c d. operated env o (type_of a) t c d;
    splits = λ want env w. rw h refl;
    on_kept = λ want x y k w. rw h refl;
    same = λ want k turn c d w. ap (λ m. m w) (operated_same s p choice k turn o (type_of a) t c d);
  }

  pub element_of : (a b : Exp) (t : Ty) → is_array (type_of a) ≡ true
      → Two Place' a Value b (Index a b t) (λ x y. Index (TempPlace x (type_of a)) (Temp y (type_of b)) t)
  element_of a b t h = record {
    after = λ want env c d. element env (place_of c) (number_of d) >>= λ at. wanted want t at;
    splits = λ want env w. rw h refl;
    on_kept = λ want x y k w. rw h refl;
    same = λ want k turn c d w. refl;
  }

  pub target_of_index : (a b : Exp) (t : Ty) → is_array (type_of a) ≡ false
      → Two Value a Value b (Index a b t) (λ x y. Index (Temp x (type_of a)) (Temp y (type_of b)) t)
  target_of_index a b t h = record {
    after = λ want env c d. dereference env t c >>= λ at. unless (nat_eq (number_of d) 0) reason.Index >>= λ _. wanted want t at;
    splits = λ want env w. rw h refl;
    on_kept = λ want x y k w. rw h refl;
    same = λ want k turn c d w. goes_cong _ _ _ _ (dereference_same s p choice k turn t c w) (λ at w'. refl);
  }

  pub assign_scalar : (works : Ty) (a b : Exp) (t : Ty) → is_scalar t ≡ true
      → Two Place' a Value b (Assign None works a b t) (λ x y. Assign None works (TempPlace x (type_of a)) (Temp y (type_of b)) t)
  assign_scalar works a b t h = record {
    after = λ want env c d. assign_value env want t c d;
    splits = λ want env w. rw h refl;
    on_kept = λ want x y k w. rw h refl;
    same = λ want k turn c d w. refl;
  }

  pub assign_object : (works : Ty) (a b : Exp) (t : Ty) → is_scalar t ≡ false
      → Two Place' a Place' b (Assign None works a b t) (λ x y. Assign None works (TempPlace x (type_of a)) (TempPlace y (type_of b)) t)
  assign_object works a b t h = record {
    after = λ want env c d. assign_struct env c d;
    splits = λ want env w. rw h refl;
    on_kept = λ want x y k w. rw h refl;
    same = λ want k turn c d w. refl;
  }
