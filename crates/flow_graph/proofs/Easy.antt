-- An expression without calls and branches means the same on what is kept as in the tree.
use Rattle.std.proofs.Common.{◌≡◌, ℕ, Bool, true, false, List, refl, sym, ◌∙◌, ◌&&◌, not}
use Rattle.std.proofs.lemmas.Bool.{false≢true}
use Rattle.std.specs.Prelude.{Option, Some, None}
use Rattle.sc_tree.specs.declared.op.BinaryOp.{BinaryOp}
use Rattle.sc_tree.specs.declared.op.UnaryOp.{UnaryOp}
use Rattle.sc_tree.specs.declared.op.UnaryOp.TheVariants as sign
use Rattle.sc_world.specs.Tree.{Ty, is_array, Exp, Comma, Assign, Cond, Binary, Cast, Unary, PreInc, PostInc, SizeofExpr, SizeofType, Index, Call, Field, Param, Local, Global, Function, Number, Str, Convert, Temp, TempPlace, type_of}
use Rattle.sc_world.specs.Source.{Source}
use Rattle.sc_world.specs.Layout.{Layout}
use Rattle.sc_world.specs.World.{World, ◌>>=◌, load}
use Rattle.sc_world.specs.Eval.{Want, Value, Place', eval, combined, assign_value, place_of, is_logical}
use Rattle.flow_graph.specs.Nodes.{Kept, reads, in_tree}
use Rattle.flow_graph.specs.Expressions.{easy, is_scalar}
use Rattle.flow_graph.proofs.Steps.{goes_ext, goes_cong, and_left, and_right, not_true}
use Rattle.flow_graph.proofs.Same.{combined_same}
use Rattle.flow_graph.proofs.Follows.{One, Two, pre, post, negation, plus, minus, complement, deref, arrow, dot, cast_array, cast_value, convert_array, convert_value, operation, element_of, target_of_index, assign_scalar, assign_object}

module _ (s : Source) (p : Layout) (choice : List Bool) where
  abbrev pub Same : Exp → Type 0
  Same e =
      (want : Want) (k : Kept) (turn : ℕ) (w : World)
      → eval e want (reads s p choice k) w ≡ eval e want (in_tree s p choice turn) w

  easy_one : {wa : Want} {a e : Exp} {whole : ℕ → Exp} → One s p choice wa a e whole → Same a → Same e
  easy_one {wa = wa} o h want k turn w =
      o.splits want (reads s p choice k) w
      ∙ goes_cong _ _ (o.after want (reads s p choice k)) (o.after want (in_tree s p choice turn)) (h wa k turn w)
      (λ c w'. o.same want k turn c w')
      ∙ sym (o.splits want (in_tree s p choice turn) w)

  easy_two : {wa wb : Want} {a b e : Exp} {whole : ℕ → ℕ → Exp} → Two s p choice wa a wb b e whole → Same a → Same b → Same e
  easy_two {wa = wa} {wb = wb} {b = b} o ha hb want k turn w =
      o.splits want (reads s p choice k) w
      ∙ goes_cong _ _ (λ x. eval b wb (reads s p choice k) >>= o.after want (reads s p choice k) x)
      (λ x. eval b wb (in_tree s p choice turn) >>= o.after want (in_tree s p choice turn) x) (ha wa k turn w)
      (λ c w'. goes_cong _ _ (o.after want (reads s p choice k) c) (o.after want (in_tree s p choice turn) c)
      (hb wb k turn w') (λ d w''. o.same want k turn c d w''))
      ∙ sym (o.splits want (in_tree s p choice turn) w)

  easy_unary : (o : UnaryOp) (a : Exp) (t : Ty) → Same a → Same (Unary o a t)
  easy_unary sign.Address a t h = λ want k turn w. h Place' k turn w
  easy_unary sign.Deref a t h = easy_one (deref s p choice a t) h
  easy_unary sign.Plus a t h = easy_one (plus s p choice a t) h
  easy_unary sign.Minus a t h = easy_one (minus s p choice a t) h
  easy_unary sign.Complement a t h = easy_one (complement s p choice a t) h
  easy_unary sign.Not a t h = easy_one (negation s p choice a t) h

  easy_cast : (c : Bool) (a : Exp) (t : Ty) → is_array (type_of a) ≡ c → Same a → Same (Cast a t)
  easy_cast true a t e h = easy_one (cast_array s p choice a t e) h
  easy_cast false a t e h = easy_one (cast_value s p choice a t e) h

  easy_convert : (c : Bool) (a : Exp) (t : Ty) → is_array (type_of a) ≡ c → Same a → Same (Convert a t)
  easy_convert true a t e h = easy_one (convert_array s p choice a t e) h
  easy_convert false a t e h = easy_one (convert_value s p choice a t e) h

  easy_index : (c : Bool) (a b : Exp) (t : Ty) → is_array (type_of a) ≡ c → Same a → Same b → Same (Index a b t)
  easy_index true a b t e ha hb = easy_two (element_of s p choice a b t e) ha hb
  easy_index false a b t e ha hb = easy_two (target_of_index s p choice a b t e) ha hb

  easy_set : (c : Bool) (works : Ty) (a b : Exp) (t : Ty) → is_scalar t ≡ c → Same a → Same b → Same (Assign None works a b t)
  easy_set true works a b t e ha hb = easy_two (assign_scalar s p choice works a b t e) ha hb
  easy_set false works a b t e ha hb = easy_two (assign_object s p choice works a b t e) ha hb

  easy_update : (o : BinaryOp) (works : Ty) (a b : Exp) (t : Ty) → Same a → Same b → Same (Assign (Some o) works a b t)
  easy_update o works a b t ha hb want k turn w =
      goes_cong _ _
      (λ c. load (place_of c) >>= λ old. eval b Value (reads s p choice k) >>= λ v. combined
      (reads s p choice k) o works t old v >>= assign_value (reads s p choice k) want t c)
      (λ c. load (place_of c) >>= λ old. eval b Value (in_tree s p choice turn) >>= λ v. combined
      (in_tree s p choice turn) o works t old v >>= assign_value (in_tree s p choice turn) want t c)
      (ha Place' k turn w)
      (λ c w'. goes_ext (load (place_of c) w')
      (λ old. eval b Value (reads s p choice k) >>= λ v. combined (reads s p choice k) o works t old v >>= assign_value
      (reads s p choice k) want t c)
      (λ old. eval b Value (in_tree s p choice turn) >>= λ v. combined
      (in_tree s p choice turn) o works t old v >>= assign_value (in_tree s p choice turn) want t c)
      (λ old w''. goes_cong _ _
      (λ v. combined (reads s p choice k) o works t old v >>= assign_value (reads s p choice k) want t c)
      (λ v. combined (in_tree s p choice turn) o works t old v >>= assign_value (in_tree s p choice turn) want t c)
      (hb Value k turn w'')
      (λ v w'''. goes_cong _ _ (assign_value (reads s p choice k) want t c)
      (assign_value (in_tree s p choice turn) want t c) (combined_same s p choice k turn o works t old v w''')
      (λ r u. refl))))

  easy_assign : (o : Option BinaryOp) (works : Ty) (a b : Exp) (t : Ty) → Same a → Same b → Same (Assign o works a b t)
  easy_assign None works a b t ha hb = easy_set (is_scalar t) works a b t refl ha hb
  easy_assign (Some o) works a b t ha hb = easy_update o works a b t ha hb

  pub easy_same : (e : Exp) → easy e ≡ true → Same e
  easy_same (Comma a b t) h = λ want k turn w.
      goes_cong _ _ (λ _. eval b want (reads s p choice k)) (λ _. eval b want (in_tree s p choice turn))
      (easy_same a (and_left (easy a) (easy b) h) Value k turn w) (λ c w'. easy_same b (and_right (easy a) (easy b) h) want k turn w')
  easy_same (Assign o works a b t) h =
      easy_assign o works a b t (easy_same a (and_left (easy a) (easy b) h)) (easy_same b (and_right (easy a) (easy b) h))
  easy_same (Cond a b c t) h = absurd (false≢true h)
  easy_same (Binary o a b t) h =
      easy_two (operation s p choice o a b t (not_true (is_logical o) (and_left (not (is_logical o)) (easy a && easy b) h)))
      (easy_same a (and_left (easy a) (easy b) (and_right (not (is_logical o)) (easy a && easy b) h)))
      (easy_same b (and_right (easy a) (easy b) (and_right (not (is_logical o)) (easy a && easy b) h)))
  easy_same (Cast a t) h = easy_cast (is_array (type_of a)) a t refl (easy_same a h)
  easy_same (Unary o a t) h = easy_unary o a t (easy_same a h)
  easy_same (PreInc d a t) h = easy_one (pre s p choice d a t) (easy_same a h)
  easy_same (PostInc d a t) h = easy_one (post s p choice d a t) (easy_same a h)
  easy_same (SizeofExpr a n t) h = λ want k turn w. refl
  easy_same (SizeofType n t) h = λ want k turn w. refl
  easy_same (Index a b t) h =
      easy_index (is_array (type_of a)) a b t refl (easy_same a (and_left (easy a) (easy b) h))
      (easy_same b (and_right (easy a) (easy b) h))
  easy_same (Call q f es t) h = absurd (false≢true h)
  easy_same (Field a n true t) h = easy_one (arrow s p choice a n t) (easy_same a h)
  easy_same (Field a n false t) h = easy_one (dot s p choice a n t) (easy_same a h)
  easy_same (Param n t) h = λ want k turn w. refl
  easy_same (Local n t) h = λ want k turn w. refl
  easy_same (Global n t) h = λ want k turn w. refl
  easy_same (Function n b t) h = λ want k turn w. refl
  easy_same (Number n t) h = λ want k turn w. refl
  easy_same (Str q t) h = λ want k turn w. refl
  easy_same (Convert a t) h = easy_convert (is_array (type_of a)) a t refl (easy_same a h)
  easy_same (Temp n t) h = absurd (false≢true h)
  easy_same (TempPlace n t) h = absurd (false≢true h)
