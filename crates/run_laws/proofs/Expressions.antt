-- Expressions.
use Rattle.std.proofs.Common.{ℕ, Bool, true, false, not, List, [], ◌∷◌}
use Rattle.std.specs.Prelude.{Option, Some, None, nat_eq, slice_index_or, if◌then◌else◌}
use Rattle.sc_tree.specs.declared.op.BinaryOp.{BinaryOp}
use Rattle.sc_tree.specs.declared.op.UnaryOp.TheVariants as sign
use Rattle.run_store.specs.Concrete.{Cell, Nothing}
use Rattle.sc_world.specs.declared.run.Origin.TheVariants as origin
use Rattle.sc_world.specs.declared.run.Reason.TheVariants as reason
use Rattle.sc_world.specs.Tree.{Ty, is_array, int_bits, target_or_void, Exp, Comma, Assign, Cond, Binary, Cast, Unary, PreInc, PostInc, SizeofExpr, SizeofType, Index, Call, Field, Param, Local, Global, Function, Number, Str, Convert, Temp, TempPlace, Exps, NoExps, Exps', type_of}
use Rattle.sc_world.specs.Source.{Source}
use Rattle.sc_world.specs.Layout.{Layout, location_of, site_at}
use Rattle.sc_world.specs.World.{World, Run, ◌>>=◌, done, Env, is_true, number_of}
use Rattle.sc_world.specs.Eval.{Want, Value, Place', place_of, convert, truth_cell, assign_value, assign_struct, combined, needs_right, is_logical, Evaluator, convert_of, assign_by, callee, is_name, eval, eval_all}
use Rattle.run_laws.proofs.Steps.{Whatever, Leads, chain, gives, either, requires, weaker, Inside, Rules}
use Rattle.run_laws.proofs.Places.{AreInside, origin_place, number_inside, pointer_inside, place_inside}
use Rattle.run_laws.proofs.Values.{tree, loads, stores, dereferences, wants, wants_kept, converted, operates, signs, counts, copies, members, elements, first_inside}
use Rattle.run_laws.proofs.Calls.{calls}

module _ (s : Source) (p : Layout) (choice : List Bool) (temps : List Cell) (P : World → Type 0) (r : Rules s p temps P) where
  abbrev here : ℕ → Env
  here t = tree s p choice temps P r t

  abbrev Does : Run Cell → Type 0
  Does m = Leads P (Inside p) m

  -- what stands in an expression
  abbrev pub Evaluates : Evaluator → ℕ → Type 0
  Evaluates a t = (want : Want) → Does (a want (here t))

  assigns : (t : ℕ) (want : Want) (y : Ty) (q v : Cell) → Inside p q → Inside p v → Does (assign_value (here t) want y q v)
  assigns t want y q v hq hv =
      chain P (stores s p choice temps P r (place_of q) v (place_inside p q hq) hv)
      (λ _ _. wants s p choice temps P r want y (place_of q) (place_inside p q hq))

  assigns_struct : (t : ℕ) (q v : Cell) → Inside p q → Does (assign_struct (here t) q v)
  assigns_struct t q v hq = chain P (copies s p choice temps P r t (place_of v) (place_of q)) (λ _ _. gives P hq)

  pub combines : (t : ℕ) (o : BinaryOp) (works y : Ty) (old v : Cell) → Does (combined (here t) o works y old v)
  combines t o works y old v =
      chain P (operates s p choice temps P r t o works works (convert (here t) y works old) v)
      (λ c h. gives P (converted s p choice temps P r t works y c h))

  assigns_by : (o : Option BinaryOp) (works y : Ty) (want : Want) (t : ℕ) (q : Cell) (b : Evaluator) → Inside p q → Evaluates b t
      → Does (assign_by o works y want (here t) q b)
  assigns_by None works y want t q b hq hb =
      either P _ (chain P (hb Value) (λ v hv. assigns t want y q v hq hv)) (chain P (hb Place') (λ v _. assigns_struct t q v hq))
  assigns_by (Some o) works y want t q b hq hb =
      chain P (loads s p choice temps P r (place_of q))
      (λ old _. chain P (hb Value)
      (λ v _. chain P (combines t o works y old v) (λ c hc. assigns t want y q c hq hc)))

  converts : (u : Ty) (a : Evaluator) (y : Ty) (t : ℕ) → Evaluates a t → Does (convert_of u a y (here t))
  converts u a y t ha =
      either P (is_array u) (chain P (ha Place') (λ c h. gives P (first_inside s p choice temps P r t c h)))
      (chain P (ha Value) (λ c h. gives P (converted s p choice temps P r t u y c h)))

  pub calls_callee : (b : Bool) (f : Evaluator) (t : ℕ) → Evaluates f t → Leads P Whatever (callee b f (here t))
  calls_callee true f t hf = gives P tt
  calls_callee false f t hf = weaker P (λ _ _. tt) (hf Value)

  truths : (t : ℕ) (y : Ty) (b : Bool) → Inside p (truth_cell (here t) y b)
  truths t y b = number_inside p (int_bits s.widths y) (Rattle.sc_typed.specs.Arith.truth b)

  binary : (o : BinaryOp) (u y : Ty) (a b : Evaluator) (t : ℕ) → Evaluates a t → Evaluates b t
      → Does (a Value (here t) >>= λ x.
      (if is_logical o
      then (if needs_right o (is_true x)
      then (b Value (here t) >>= λ z. done (truth_cell (here t) y (is_true z)))
      else done (truth_cell (here t) y (is_true x)))
      else (b Value (here t) >>= λ z. Rattle.sc_world.specs.Eval.operated (here t) o u y x z)))
  binary o u y a b t ha hb =
      chain P (ha Value)
      (λ x _. either P (is_logical o)
      (either P (needs_right o (is_true x)) (chain P (hb Value) (λ z _. gives P (truths t y (is_true z))))
      (gives P (truths t y (is_true x))))
      (chain P (hb Value) (λ z _. operates s p choice temps P r t o u y x z)))

  -- `++` and `--` before and behind
  pre : (d : Rattle.sc_tree.specs.declared.op.Step.Step) (y : Ty) (a : Evaluator) (t : ℕ) → Evaluates a t
      → Does (a Place' (here t) >>= λ q. Rattle.sc_world.specs.World.load (place_of q) >>= λ old.
      Rattle.sc_world.specs.Eval.counted (here t) d y old >>= λ v. Rattle.sc_world.specs.World.store (place_of q) v >>= λ _. done v)
  pre d y a t ha =
      chain P (ha Place')
      (λ q hq. chain P (loads s p choice temps P r (place_of q))
      (λ old ho. chain P (counts s p choice temps P r t d y old)
      (λ v hv. chain P (stores s p choice temps P r (place_of q) v (place_inside p q hq) hv) (λ _ _. gives P hv))))

  post : (d : Rattle.sc_tree.specs.declared.op.Step.Step) (y : Ty) (a : Evaluator) (t : ℕ) → Evaluates a t
      → Does (a Place' (here t) >>= λ q. Rattle.sc_world.specs.World.load (place_of q) >>= λ old.
      Rattle.sc_world.specs.Eval.counted (here t) d y old >>= λ v. Rattle.sc_world.specs.World.store (place_of q) v >>= λ _. done old)
  post d y a t ha =
      chain P (ha Place')
      (λ q hq. chain P (loads s p choice temps P r (place_of q))
      (λ old ho. chain P (counts s p choice temps P r t d y old)
      (λ v hv. chain P (stores s p choice temps P r (place_of q) v (place_inside p q hq) hv) (λ _ _. gives P ho))))

  mutual
    pub evaluates : (e : Exp) (want : Want) (t : ℕ) → Does (eval e want (here t))
    evaluates (Comma a b y) want t = chain P (evaluates a Value t) (λ _ _. evaluates b want t)
    evaluates (Assign o works a b y) want t =
        chain P (evaluates a Place' t) (λ q hq. assigns_by o works y want t q (eval b) hq (λ w. evaluates b w t))
    evaluates (Cond a b c y) want t =
        chain P (evaluates a Value t) (λ x _. either P (is_true x) (evaluates b want t) (evaluates c want t))
    evaluates (Binary o a b y) want t = binary o (type_of a) y (eval a) (eval b) t (λ w. evaluates a w t) (λ w. evaluates b w t)
    evaluates (Cast a y) want t = converts (type_of a) (eval a) y t (λ w. evaluates a w t)
    evaluates (Unary sign.Address a y) want t = evaluates a Place' t
    evaluates (Unary sign.Deref a y) want t =
        chain P (evaluates a Value t)
        (λ q hq. chain P (dereferences s p choice temps P r t y q hq) (λ at ha. wants s p choice temps P r want y at ha))
    evaluates (Unary sign.Not a y) want t = chain P (evaluates a Value t) (λ x _. gives P (truths t y (not (is_true x))))
    evaluates (Unary sign.Plus a y) want t =
        chain P (evaluates a Value t) (λ x hx. gives P (signs s p choice temps P r t sign.Plus y x hx))
    evaluates (Unary sign.Minus a y) want t =
        chain P (evaluates a Value t) (λ x hx. gives P (signs s p choice temps P r t sign.Minus y x hx))
    evaluates (Unary sign.Complement a y) want t =
        chain P (evaluates a Value t) (λ x hx. gives P (signs s p choice temps P r t sign.Complement y x hx))
    evaluates (PreInc d a y) want t = pre d y (eval a) t (λ w. evaluates a w t)
    evaluates (PostInc d a y) want t = post d y (eval a) t (λ w. evaluates a w t)
    evaluates (SizeofExpr a n y) want t = gives P (number_inside p (int_bits s.widths y) n)
    evaluates (SizeofType n y) want t = gives P (number_inside p (int_bits s.widths y) n)
    evaluates (Index a b y) want t =
        either P (is_array (type_of a))
        (chain P (evaluates a Place' t)
        (λ q hq. chain P (evaluates b Value t)
        (λ k _. chain P (elements s p choice temps P r t (place_of q) (number_of k))
        (λ at ha. wants s p choice temps P r want y at ha))))
        (chain P (evaluates a Value t)
        (λ q hq. chain P (evaluates b Value t)
        (λ k _. chain P (dereferences s p choice temps P r t y q hq)
        (λ at ha. chain P (requires P (nat_eq (number_of k) 0) reason.Index)
        (λ _ _. wants s p choice temps P r want y at ha)))))
    evaluates (Call x f es y) want t =
        chain P (calls_callee (is_name f) (eval f) t (λ w. evaluates f w t))
        (λ _ _. chain P (evaluates_all es t) (λ vs hs. calls s p choice temps P r t x f y (site_at p x.token) vs hs))
    evaluates (Field a n true y) want t =
        chain P (evaluates a Value t)
        (λ q hq. chain P (dereferences s p choice temps P r t (target_or_void (type_of a)) q hq)
        (λ at _. chain P (members s p choice temps P r t n at) (λ k hk. wants s p choice temps P r want y k hk)))
    evaluates (Field a n false y) want t =
        chain P (evaluates a Place' t)
        (λ q hq. chain P (members s p choice temps P r t n (place_of q)) (λ k hk. wants s p choice temps P r want y k hk))
    evaluates (Param n y) want t =
        wants s p choice temps P r want y (location_of p (origin.Param n)) (origin_place p (origin.Param n))
    evaluates (Local n y) want t =
        wants s p choice temps P r want y (location_of p (origin.Local n)) (origin_place p (origin.Local n))
    evaluates (Global n y) want t =
        wants s p choice temps P r want y (location_of p (origin.Global n)) (origin_place p (origin.Global n))
    evaluates (Function n b y) want t =
        gives P (pointer_inside p (location_of p (origin.Function n)) (origin_place p (origin.Function n)))
    evaluates (Number n y) want t = gives P (number_inside p (int_bits s.widths y) n)
    evaluates (Str x y) want t =
        gives P (pointer_inside p (location_of p (origin.Literal x.token)) (origin_place p (origin.Literal x.token)))
    evaluates (Convert a y) want t = converts (type_of a) (eval a) y t (λ w. evaluates a w t)
    evaluates (Temp n y) want t = gives P (r.temps_inside n)
    evaluates (TempPlace n y) want t =
        wants_kept s p choice temps P r want y (slice_index_or temps n Nothing) (r.temps_inside n)

    pub evaluates_all : (es : Exps) (t : ℕ) → Leads P (AreInside p) (eval_all es (here t))
    evaluates_all NoExps t = gives P {a = []} tt
    evaluates_all (Exps' e es) t =
        chain P (evaluates e Value t) (λ v hv. chain P (evaluates_all es t) (λ vs hs. gives P {a = v ∷ vs} (hv, hs)))
