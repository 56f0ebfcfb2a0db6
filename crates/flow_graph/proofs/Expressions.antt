-- The graph of every expression does what the tree does.
use Rattle.std.proofs.Common.{◌≡◌, ℕ, suc, ◌+◌, ◌≤◌, Bool, true, false, List, [], ◌∷◌, length, map, refl, sym, ap, subst, ◌∙◌, arith}
use Rattle.std.specs.Prelude.{Option, Some, None, if◌then◌else◌}
use Rattle.sc_tree.specs.declared.op.BinaryOp.{BinaryOp}
use Rattle.sc_tree.specs.declared.op.UnaryOp.{UnaryOp}
use Rattle.sc_tree.specs.declared.op.UnaryOp.TheVariants as sign
use Rattle.sc_tree.specs.declared.expr.Place.{Place}
use Rattle.run_store.specs.Concrete.{Cell}
use Rattle.sc_world.specs.Tree.{Ty, is_array, Exp, Comma, Assign, Cond, Binary, Cast, Unary, PreInc, PostInc, SizeofExpr, SizeofType, Index, Call, Field, Param, Local, Global, Function, Number, Str, Convert, Temp, TempPlace, Exps, NoExps, Exps', type_of}
use Rattle.sc_world.specs.Source.{Source}
use Rattle.sc_world.specs.Layout.{Layout, site_at}
use Rattle.sc_world.specs.World.{World, Run, ◌>>=◌, done, Env}
use Rattle.sc_world.specs.Eval.{Value, Place', eval, eval_all, kept_place, callee, call, is_name, is_logical}
use Rattle.flow_graph.specs.Nodes.{CallOf, Calling, Kept, temp, keep, in_tree}
use Rattle.flow_graph.specs.Growing.{Growing, Build, fresh, numbers}
use Rattle.flow_graph.specs.Expressions.{Into, Part, Goal, kept, plainly, one, two, assigned, assigning, binary, logical, converted, unary, indexed, count, called, nothing, unroll, unroll_all, easy, is_scalar}
use Rattle.flow_graph.proofs.Steps.{goes_cong, goes_assoc}
use Rattle.flow_graph.proofs.Follows.{pre, post, negation, plus, minus, complement, deref, arrow, dot, cast_array, cast_value, convert_array, convert_value, operation, element_of, target_of_index, assign_scalar, assign_object}
use Rattle.flow_graph.proofs.Easy.{easy_same}
use Rattle.flow_graph.proofs.Parts.{Agrees, agrees_refl, agrees_trans, agrees_less, Fits, Grows, grows_refl, grows_trans, grows_fresh, Serves, Lands, serves_kept}
use Rattle.flow_graph.proofs.Operands.{serves_plain, serves_plainly, serves_by, serves_one, serves_two, serves_update, serves_address, serves_comma, serves_conditional}
use Rattle.flow_graph.proofs.Logical.{is_and, serves_logical}

module _ (s : Source) (p : Layout) (choice : List Bool) (v : ℕ → Kept → Run Cell) (turn : ℕ) where
  abbrev tree : Env
  tree = in_tree s p choice turn

  -- the part does what the expression does
  abbrev pub Does : Exp → Part → Type 0
  Does e m = Serves s p choice v m (λ want. eval e want tree)

  -- the hard form of an expression, if not the easy one
  plainly_does : (e : Exp) (hard : Part) → Does e hard → Does e (plainly e hard)
  plainly_does e hard h =
      serves_plainly s p choice v e hard (λ want. eval e want tree) (easy e) refl
      (λ is want k w. easy_same s p choice e is want k turn w) h

  set_does : (c : Bool) (works : Ty) (a b : Exp) (t : Ty) (pa pb : Part) → is_scalar t ≡ c → Does a pa → Does b pb
      → Does (Assign None works a b t) (assigned works a b t pa pb)
  set_does true works a b t pa pb h da db =
      subst (λ c. Does (Assign None works a b t)
      (if c then two Place' pa Value pb (λ x y. Assign None works (TempPlace x (type_of a)) (Temp y (type_of b)) t)
      else two Place' pa Place' pb (λ x y. Assign None works (TempPlace x (type_of a)) (TempPlace y (type_of b)) t))) (sym h)
      (serves_two s p choice v turn Place' a pa Value b pb (Assign None works a b t) _ (assign_scalar s p choice works a b t h) da db)
  set_does false works a b t pa pb h da db =
      subst (λ c. Does (Assign None works a b t)
      (if c then two Place' pa Value pb (λ x y. Assign None works (TempPlace x (type_of a)) (Temp y (type_of b)) t)
      else two Place' pa Place' pb (λ x y. Assign None works (TempPlace x (type_of a)) (TempPlace y (type_of b)) t))) (sym h)
      (serves_two s p choice v turn Place' a pa Place' b pb (Assign None works a b t) _ (assign_object s p choice works a b t h) da db)

  assign_does : (o : Option BinaryOp) (works : Ty) (a b : Exp) (t : Ty) (pa pb : Part) → Does a pa → Does b pb
      → Does (Assign o works a b t) (assigning o works a b t pa pb)
  assign_does None works a b t pa pb da db = set_does (is_scalar t) works a b t pa pb refl da db
  assign_does (Some o) works a b t pa pb da db =
      serves_update s p choice v turn (record { op = o; works = works; ctype = t }) a b pa pb da db

  binary_does : (c : Bool) (o : BinaryOp) (a b : Exp) (t : Ty) (pa pb : Part) → is_logical o ≡ c → Does a pa → Does b pb
      → Does (Binary o a b t) (binary o a b t pa pb)
  binary_does true o a b t pa pb h da db =
      subst (λ c. Does (Binary o a b t)
      (if c then logical o t pa pb else two Value pa Value pb (λ x y. Binary o (Temp x (type_of a)) (Temp y (type_of b)) t))) (sym h)
      (serves_logical s p choice v turn a b t pa pb da db o (is_and s p choice v turn o h))
  binary_does false o a b t pa pb h da db =
      subst (λ c. Does (Binary o a b t)
      (if c then logical o t pa pb else two Value pa Value pb (λ x y. Binary o (Temp x (type_of a)) (Temp y (type_of b)) t))) (sym h)
      (serves_two s p choice v turn Value a pa Value b pb (Binary o a b t) _ (operation s p choice o a b t h) da db)

  cast_does : (c : Bool) (a : Exp) (t : Ty) (pa : Part) → is_array (type_of a) ≡ c → Does a pa
      → Does (Cast a t) (converted a (λ x. Cast x t) pa)
  cast_does true a t pa h da =
      subst (λ c. Does (Cast a t)
      (if c then one Place' pa (λ x. Cast (TempPlace x (type_of a)) t) else one Value pa (λ x. Cast (Temp x (type_of a)) t))) (sym h)
      (serves_one s p choice v turn Place' a (Cast a t) pa _ (cast_array s p choice a t h) da)
  cast_does false a t pa h da =
      subst (λ c. Does (Cast a t)
      (if c then one Place' pa (λ x. Cast (TempPlace x (type_of a)) t) else one Value pa (λ x. Cast (Temp x (type_of a)) t))) (sym h)
      (serves_one s p choice v turn Value a (Cast a t) pa _ (cast_value s p choice a t h) da)

  convert_does : (c : Bool) (a : Exp) (t : Ty) (pa : Part) → is_array (type_of a) ≡ c → Does a pa
      → Does (Convert a t) (converted a (λ x. Convert x t) pa)
  convert_does true a t pa h da =
      subst (λ c. Does (Convert a t)
      (if c then one Place' pa (λ x. Convert (TempPlace x (type_of a)) t) else one Value pa (λ x. Convert (Temp x (type_of a)) t))) (sym h)
      (serves_one s p choice v turn Place' a (Convert a t) pa _ (convert_array s p choice a t h) da)
  convert_does false a t pa h da =
      subst (λ c. Does (Convert a t)
      (if c then one Place' pa (λ x. Convert (TempPlace x (type_of a)) t) else one Value pa (λ x. Convert (Temp x (type_of a)) t))) (sym h)
      (serves_one s p choice v turn Value a (Convert a t) pa _ (convert_value s p choice a t h) da)

  index_does : (c : Bool) (a b : Exp) (t : Ty) (pa pb : Part) → is_array (type_of a) ≡ c → Does a pa → Does b pb
      → Does (Index a b t) (indexed a b t pa pb)
  index_does true a b t pa pb h da db =
      subst (λ c. Does (Index a b t)
      (if c then two Place' pa Value pb (λ x y. Index (TempPlace x (type_of a)) (Temp y (type_of b)) t)
      else two Value pa Value pb (λ x y. Index (Temp x (type_of a)) (Temp y (type_of b)) t))) (sym h)
      (serves_two s p choice v turn Place' a pa Value b pb (Index a b t) _ (element_of s p choice a b t h) da db)
  index_does false a b t pa pb h da db =
      subst (λ c. Does (Index a b t)
      (if c then two Place' pa Value pb (λ x y. Index (TempPlace x (type_of a)) (Temp y (type_of b)) t)
      else two Value pa Value pb (λ x y. Index (Temp x (type_of a)) (Temp y (type_of b)) t))) (sym h)
      (serves_two s p choice v turn Value a pa Value b pb (Index a b t) _ (target_of_index s p choice a b t h) da db)

  unary_does : (o : UnaryOp) (a : Exp) (t : Ty) (pa : Part) → Does a pa → Does (Unary o a t) (unary o a t pa)
  unary_does sign.Address a t pa da = serves_address s p choice v turn a pa da
  unary_does sign.Deref a t pa da = serves_one s p choice v turn Value a (Unary sign.Deref a t) pa _ (deref s p choice a t) da
  unary_does sign.Plus a t pa da = serves_one s p choice v turn Value a (Unary sign.Plus a t) pa _ (plus s p choice a t) da
  unary_does sign.Minus a t pa da = serves_one s p choice v turn Value a (Unary sign.Minus a t) pa _ (minus s p choice a t) da
  unary_does sign.Complement a t pa da =
      serves_one s p choice v turn Value a (Unary sign.Complement a t) pa _ (complement s p choice a t) da
  unary_does sign.Not a t pa da = serves_one s p choice v turn Value a (Unary sign.Not a t) pa _ (negation s p choice a t) da

  -- a place that no temp keeps
  junk_place : (n : ℕ) (t : Ty) → Does (TempPlace n t) (one Value (kept nothing) (λ x. TempPlace x t))
  junk_place n t =
      serves_by s p choice v turn Value nothing (λ want. eval (TempPlace n t) want tree) (kept nothing) (λ x. TempPlace x t)
      (record {
        after = λ want c. kept_place want t c;
        splits = λ want w. refl;
        on_kept = λ want x k w. refl;
      })
      (serves_plain s p choice v nothing (λ want. eval nothing want tree) (λ want k w. refl))

  -- Arguments.
  pub record ServesAll (m : (x next : ℕ) → Build ℕ) (n : ℕ) (does : Run (List Cell)) : Type 0 where
    pub grows : (x next : ℕ) (g : Growing) → Grows s p choice v g (m x next g).1
    pub by : (x next : ℕ) (g : Growing) (b : ℕ) → x + n ≤ g.temps → b ≤ x → Fits s p choice v (m x next g).1.nodes
        → (k : Kept) (f : List Cell → Run Cell)
        → ((new : Kept) (cs : List Cell) (w : World) → Agrees b k new → map (temp new) (numbers x n) ≡ cs → v next new w ≡ f cs w)
        → (w : World) → v (m x next g).0 k w ≡ (does >>= f) w

  no_arguments : ServesAll (λ x next. unroll_all NoExps turn x next) 0 (eval_all NoExps tree)
  no_arguments = record {
    grows = λ x next g. grows_refl s p choice v g;
    by = λ x next g b h apt fits k f goes w. goes k [] w (agrees_refl b k) refl;
  }

  one_argument : (e : Exp) (es : Exps) → Does e (unroll e turn)
      → ServesAll (λ x next. unroll_all es turn x next) (count es) (eval_all es tree)
      → ServesAll (λ x next. unroll_all (Exps' e es) turn x next) (suc (count es)) (eval_all (Exps' e es) tree)
  one_argument e es de des = record {
    grows = λ x next g. grows_trans s p choice v (des.grows (x + 1) next g) (grows_first x next g);
    by = λ x next g b h apt fits k f goes w.
        de.by (Into Value x (rest x next g).0) (rest x next g).1 b (omega (arith, h, apt, (des.grows (x + 1) next g).temps)) apt fits k
        (λ c. (eval_all es tree >>= λ cs. done (c ∷ cs)) >>= f)
        (record {
          goes = λ new c w' a told.
              des.by (x + 1) next g (x + 1) (omega (arith, h)) (omega arith) ((grows_first x next g).fits fits) new (λ cs. f (c ∷ cs))
              (λ new' cs w'' a' are.
              goes new' (c ∷ cs) w'' (agrees_trans a (agrees_less (omega (arith, apt)) a'))
              (ap (λ d. d ∷ map (temp new') (numbers (x + 1) (count es))) (a'.temps x (omega arith) ∙ told) ∙ ap (λ ds. c ∷ ds) are)) w'
              ∙ sym (goes_assoc (eval_all es tree w') (λ cs. done (c ∷ cs)) f);
        }) w
        ∙ sym (goes_assoc (eval e Value tree w) (λ c. eval_all es tree >>= λ cs. done (c ∷ cs)) f);
  }
    where
      rest : (x next : ℕ) (g : Growing) → ℕ × Growing
      rest x next g = unroll_all es turn (x + 1) next g

      grows_first : (x next : ℕ) (g : Growing) → Grows s p choice v (rest x next g).1 (unroll_all (Exps' e es) turn x next g).1
      grows_first x next g = de.grows (Into Value x (rest x next g).0) (rest x next g).1

  -- A call. What is called is evaluated first, where it is not a name.
  called_does : (c : Bool) (f : Exp) (es : Exps) → Does f (unroll f turn) → (first : ℕ) (g : Growing) (b : ℕ) → b ≤ g.temps
      → Fits s p choice v (called c (unroll f turn) first g).1.nodes → (k : Kept) (rest : Run Cell)
      → ((new : Kept) (w : World) → Agrees b k new → v first new w ≡ rest w)
      → (w : World) → v (called c (unroll f turn) first g).0 k w ≡ (callee c (eval f) tree >>= λ _. rest) w
  called_does true f es df first g b h fits k rest goes w = goes k w (agrees_refl b k)
  called_does false f es df first g b h fits k rest goes w =
      df.by (Into Value g.temps first) (fresh 1 g).1 b (omega (arith, h)) h fits k (λ _. rest)
      (record { goes = λ new c w' a told. goes new w' a }) w

  called_grows : (c : Bool) (f : Exp) → Does f (unroll f turn) → (first : ℕ) (g : Growing) → Grows s p choice v g
      (called c (unroll f turn) first g).1
  called_grows true f df first g = grows_refl s p choice v g
  called_grows false f df first g =
      grows_trans s p choice v (grows_fresh s p choice v 1 g) (df.grows (Into Value g.temps first) (fresh 1 g).1)

  module _ (q : Place) (f : Exp) (es : Exps) (t : Ty) (df : Does f (unroll f turn))
      (des : ServesAll (λ x next. unroll_all es turn x next) (count es) (eval_all es tree)) where
    abbrev calling : Calling
    calling = record { place = q; callee = f; result = t; turn = turn }

    abbrev behind_call : Goal → Growing → Growing
    behind_call k g =
        record { nodes = CallOf calling (numbers g.temps (count es)) k.temp k.next ∷ g.nodes; temps = g.temps + count es; slots = g.slots }

    abbrev arguments : Goal → Growing → ℕ × Growing
    arguments k g = unroll_all es turn g.temps (length g.nodes) (behind_call k g)

    abbrev call_part : Goal → Build ℕ
    call_part k g = called (is_name f) (unroll f turn) (arguments k g).0 (arguments k g).1

    grows_behind : (k : Goal) (g : Growing) → Grows s p choice v g (behind_call k g)
    grows_behind k g = record { fits = λ z. z.1; temps = omega arith; slots = omega arith }

    grows_arguments : (k : Goal) (g : Growing) → Grows s p choice v (behind_call k g) (arguments k g).1
    grows_arguments k g = des.grows g.temps (length g.nodes) (behind_call k g)

    grows_callee : (k : Goal) (g : Growing) → Grows s p choice v (arguments k g).1 (call_part k g).1
    grows_callee k g = called_grows (is_name f) f df (arguments k g).0 (arguments k g).1

    abbrev made : List Cell → Run Cell
    made cs = call tree q f t (site_at p q.token) cs

    by_call : (k : Goal) (g : Growing) (b : ℕ) → b ≤ g.temps → b ≤ k.temp → Fits s p choice v (call_part k g).1.nodes
        → (old : Kept) (go : Cell → Run Cell) → Lands s p choice v k b old go → (w : World)
        → v (call_part k g).0 old w ≡ (eval (Call q f es t) k.want tree >>= go) w
    by_call k g b h apt fits old go lands w =
        called_does (is_name f) f es df (arguments k g).0 (arguments k g).1 b (omega (arith, h, (grows_arguments k g).temps)) fits old
        ((eval_all es tree >>= made) >>= go)
        (λ new w' a.
        des.by g.temps (length g.nodes) (behind_call k g) b (omega arith) h ((grows_callee k g).fits fits) new (λ cs. made cs >>= go)
        (λ new' cs w'' a' are.
        ((grows_arguments k g).fits ((grows_callee k g).fits fits)).0.by new' w''
        ∙ goes_cong _ _ (λ c. v k.next (keep k.temp c new')) go (ap (λ ds. made ds w'') are)
        (λ c u. lands new' c u (agrees_trans a a'))) w'
        ∙ sym (goes_assoc (eval_all es tree w') made go)) w
        ∙ sym (goes_assoc (callee (is_name f) (eval f) tree w) (λ _. eval_all es tree >>= made) go)

    call_does : Does (Call q f es t) (unroll (Call q f es t) turn)
    call_does =
        serves_kept s p choice v call_part (λ want. eval (Call q f es t) want tree)
        (record {
          grows = λ k g. grows_trans s p choice v (grows_behind k g) (grows_trans s p choice v (grows_arguments k g) (grows_callee k g));
          by = by_call;
        })

  -- All expressions.
  mutual
    pub does : (e : Exp) → Does e (unroll e turn)
    does (Comma a b t) = plainly_does (Comma a b t) _ (serves_comma s p choice v turn a b t _ _ (does a) (does b))
    does (Assign o works a b t) = plainly_does (Assign o works a b t) _ (assign_does o works a b t _ _ (does a) (does b))
    does (Cond c a b t) = serves_conditional s p choice v turn c a b t _ _ _ (does c) (does a) (does b)
    does (Binary o a b t) = plainly_does (Binary o a b t) _ (binary_does (is_logical o) o a b t _ _ refl (does a) (does b))
    does (Cast a t) = plainly_does (Cast a t) _ (cast_does (is_array (type_of a)) a t _ refl (does a))
    does (Unary o a t) = plainly_does (Unary o a t) _ (unary_does o a t _ (does a))
    does (PreInc d a t) =
        plainly_does (PreInc d a t) _
        (serves_one s p choice v turn Place' a (PreInc d a t) _ _ (pre s p choice d a t) (does a))
    does (PostInc d a t) =
        plainly_does (PostInc d a t) _
        (serves_one s p choice v turn Place' a (PostInc d a t) _ _ (post s p choice d a t) (does a))
    does (SizeofExpr a n t) =
        plainly_does (SizeofExpr a n t) _
        (serves_plain s p choice v (SizeofType n t) (λ want. eval (SizeofExpr a n t) want tree) (λ want k w. refl))
    does (SizeofType n t) = serves_plain s p choice v (SizeofType n t) (λ want. eval (SizeofType n t) want tree) (λ want k w. refl)
    does (Index a b t) = plainly_does (Index a b t) _ (index_does (is_array (type_of a)) a b t _ _ refl (does a) (does b))
    does (Call q f es t) = call_does q f es t (does f) (all_do es)
    does (Field a n true t) =
        plainly_does (Field a n true t) _
        (serves_one s p choice v turn Value a (Field a n true t) _ _ (arrow s p choice a n t) (does a))
    does (Field a n false t) =
        plainly_does (Field a n false t) _
        (serves_one s p choice v turn Place' a (Field a n false t) _ _ (dot s p choice a n t) (does a))
    does (Param n t) = serves_plain s p choice v (Param n t) (λ want. eval (Param n t) want tree) (λ want k w. refl)
    does (Local n t) = serves_plain s p choice v (Local n t) (λ want. eval (Local n t) want tree) (λ want k w. refl)
    does (Global n t) = serves_plain s p choice v (Global n t) (λ want. eval (Global n t) want tree) (λ want k w. refl)
    does (Function n b t) = serves_plain s p choice v (Function n b t) (λ want. eval (Function n b t) want tree) (λ want k w. refl)
    does (Number n t) = serves_plain s p choice v (Number n t) (λ want. eval (Number n t) want tree) (λ want k w. refl)
    does (Str q t) = serves_plain s p choice v (Str q t) (λ want. eval (Str q t) want tree) (λ want k w. refl)
    does (Convert a t) = plainly_does (Convert a t) _ (convert_does (is_array (type_of a)) a t _ refl (does a))
    does (Temp n t) = serves_plain s p choice v nothing (λ want. eval (Temp n t) want tree) (λ want k w. refl)
    does (TempPlace n t) = junk_place n t

    all_do : (es : Exps) → ServesAll (λ x next. unroll_all es turn x next) (count es) (eval_all es tree)
    all_do NoExps = no_arguments
    all_do (Exps' e es) = one_argument e es (does e) (all_do es)
