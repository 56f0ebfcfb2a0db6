-- Expressions.
use Rattle.std.proofs.Common.{ℕ, Bool, true, false, not, List, [], ◌∷◌}
use Rattle.std.specs.Prelude.{Option, Some, None, nat_eq, slice_index_or, if◌then◌else◌}
use Rattle.sc_base.specs.declared.pos.NameId.{NameId}
use Rattle.sc_tree.specs.declared.op.BinaryOp.{BinaryOp}
use Rattle.sc_tree.specs.declared.op.Step.{Step}
use Rattle.sc_tree.specs.declared.op.UnaryOp.TheVariants as sign
use Rattle.sc_typed.specs.Arith.{takes, computed}
use Rattle.sum_rows.specs.declared.path.Step.TheVariants as step
use Rattle.run_store.specs.Concrete.{Cell, Number as Num, Pointer, Nothing}
use Rattle.sc_world.specs.declared.run.Origin.TheVariants as origin
use Rattle.sc_world.specs.declared.run.Reason.TheVariants as reason
use Rattle.sc_world.specs.Tree.{Ty, is_array, int_bits, has_sign, promoted_type, target_or_void, Exp, Comma, Assign, Cond, Binary, Cast, Unary, PreInc, PostInc, SizeofExpr, SizeofType, Index, Call, Field, Param, Local, Global, Function, Number, Str, Convert, Temp, TempPlace, Exps, NoExps, Exps', type_of}
use Rattle.sc_world.specs.Layout.{location_of, part, site_at}
use Rattle.sc_world.specs.World.{Run, ◌>>=◌, done, Env, pointer_to, is_true, number_of, load, store}
use Rattle.sc_world.specs.Eval.{Want, Value, Place', scalar_at, wanted, place_of, kept_place, convert, not_taken, operated, signed_as, truth_cell, one_step, counted, cells_of, load_all, store_all, copy, part_or, member, element_or, element, first_element, assign_value, assign_struct, combined, needs_right, is_logical, Evaluator, convert_of, assign_by, callee, is_name, eval, eval_all}
use Rattle.error_laws.proofs.Steps.{Whatever, Leads, chain, gives, stops, either, requires, loads, stores, dereferences}
use Rattle.error_laws.proofs.Calls.{MayErr, calls, may_do}

-- Lists of cells.

pub loads_all : (env : Env) (ks : List ℕ) → Leads env.layout Whatever (load_all ks)
loads_all env [] = gives env.layout {a = []} tt
loads_all env (k ∷ ks) =
    chain env.layout (loads env.layout k) (λ c _. chain env.layout (loads_all env ks) (λ cs _. gives env.layout {a = c ∷ cs} tt))

pub stores_all : (env : Env) (ks : List ℕ) (cs : List Cell) → Leads env.layout Whatever (store_all ks cs)
stores_all env [] cs = gives env.layout tt
stores_all env (k ∷ ks) [] = gives env.layout tt
stores_all env (k ∷ ks) (c ∷ cs) = chain env.layout (stores env.layout k c) (λ _ _. stores_all env ks cs)

pub copies : (env : Env) (from to : ℕ) → Leads env.layout Whatever (copy env from to)
copies env from to = chain env.layout (loads_all env (cells_of env.layout from)) (λ cs _. stores_all env (cells_of env.layout to) cs)

module _ (env : Env) where
  abbrev Does : Run Cell → Type 0
  Does m = Leads env.layout Whatever m

  -- what stands in an expression
  abbrev pub Evaluates : Evaluator → Type 0
  Evaluates a = (want : Want) → Does (a want env)

  has_scalar : (at : ℕ) (y : Ty) → Does (scalar_at at y)
  has_scalar at y = either env.layout _ (loads env.layout at) (gives env.layout {a = pointer_to at} tt)

  wants : (want : Want) (y : Ty) (at : ℕ) → Does (wanted want y at)
  wants Value y at = has_scalar at y
  wants Place' y at = gives env.layout {a = pointer_to at} tt

  wants_kept : (want : Want) (y : Ty) (c : Cell) → Does (kept_place want y c)
  wants_kept Value y c = has_scalar (place_of c) y
  wants_kept Place' y c = gives env.layout {a = c} tt

  operates : (o : BinaryOp) (t r : Ty) (x y : Cell) → Does (operated env o t r x y)
  operates o t r (Num v m) (Num w n) =
      chain env.layout (requires env.layout (takes o (int_bits env.source.widths t) (has_sign t) m n) (not_taken o)) (λ _ _. gives env.layout {a = Num (int_bits env.source.widths r) (computed o (int_bits env.source.widths t) (has_sign t) m n)} tt)
  operates o t r (Pointer a) (Pointer b) = record { by = λ w. tt }
  operates o t r (Num v m) (Pointer b) = record { by = λ w. tt }
  operates o t r (Num v m) Nothing = record { by = λ w. tt }
  operates o t r (Pointer a) (Num w n) = record { by = λ w. tt }
  operates o t r (Pointer a) Nothing = record { by = λ w. tt }
  operates o t r Nothing y = record { by = λ w. tt }

  counts : (d : Step) (y : Ty) (old : Cell) → Does (counted env d y old)
  counts d y old =
      chain env.layout
      (operates (one_step d) (promoted_type y) (promoted_type y) (convert env y (promoted_type y) old) (Num (int_bits env.source.widths (promoted_type y)) 1))
      (λ v _. gives env.layout {a = convert env (promoted_type y) y v} tt)

  part_found : (o : Option ℕ) → Leads env.layout Whatever (part_or o)
  part_found None = gives env.layout {a = 0} tt
  part_found (Some at) = gives env.layout {a = at} tt

  members : (n : NameId) (at : ℕ) → Leads env.layout Whatever (member env n at)
  members n at = part_found (part env.layout at (step.Field n))

  element_found : (o : Option ℕ) → Leads env.layout Whatever (element_or o)
  element_found None = stops env.layout
  element_found (Some at) = gives env.layout {a = at} tt

  elements : (at n : ℕ) → Leads env.layout Whatever (element env at n)
  elements at n = element_found (part env.layout at (step.Elem n))

  assigns : (want : Want) (y : Ty) (q v : Cell) → Does (assign_value env want y q v)
  assigns want y q v = chain env.layout (stores env.layout (place_of q) v) (λ _ _. wants want y (place_of q))

  assigns_struct : (q v : Cell) → Does (assign_struct env q v)
  assigns_struct q v = chain env.layout (copies env (place_of v) (place_of q)) (λ _ _. gives env.layout {a = q} tt)

  combines : (o : BinaryOp) (works y : Ty) (old v : Cell) → Does (combined env o works y old v)
  combines o works y old v =
      chain env.layout (operates o works works (convert env y works old) v) (λ c _. gives env.layout {a = convert env works y c} tt)

  assigns_by : (o : Option BinaryOp) (works y : Ty) (want : Want) (q : Cell) (b : Evaluator) → Evaluates b → Does (assign_by o works y want env q b)
  assigns_by None works y want q b hb =
      either env.layout _ (chain env.layout (hb Value) (λ v _. assigns want y q v)) (chain env.layout (hb Place') (λ v _. assigns_struct q v))
  assigns_by (Some o) works y want q b hb =
      chain env.layout (loads env.layout (place_of q))
      (λ old _. chain env.layout (hb Value) (λ v _. chain env.layout (combines o works y old v) (λ c _. assigns want y q c)))

  converts : (u : Ty) (a : Evaluator) (y : Ty) → Evaluates a → Does (convert_of u a y env)
  converts u a y ha =
      either env.layout (is_array u) (chain env.layout (ha Place') (λ c _. gives env.layout {a = first_element env c} tt))
      (chain env.layout (ha Value) (λ c _. gives env.layout {a = convert env u y c} tt))

  calls_callee : (b : Bool) (f : Evaluator) → Evaluates f → Does (callee b f env)
  calls_callee true f hf = record { by = λ w. tt }
  calls_callee false f hf = hf Value

  binary : (o : BinaryOp) (u y : Ty) (a b : Evaluator) → Evaluates a → Evaluates b
      → Does (a Value env >>= λ x.
      (if is_logical o
      then (if needs_right o (is_true x)
      then (b Value env >>= λ z. done (truth_cell env y (is_true z)))
      else done (truth_cell env y (is_true x)))
      else (b Value env >>= λ z. operated env o u y x z)))
  binary o u y a b ha hb =
      chain env.layout (ha Value)
      (λ x _. either env.layout (is_logical o)
      (either env.layout (needs_right o (is_true x)) (chain env.layout (hb Value) (λ z _. gives env.layout {a = truth_cell env y (is_true z)} tt))
      (gives env.layout {a = truth_cell env y (is_true x)} tt))
      (chain env.layout (hb Value) (λ z _. operates o u y x z)))

  -- `++` and `--` before and behind
  steps : (d : Step) (y : Ty) (a : Evaluator) (gives_old : Bool) → Evaluates a
      → Does (a Place' env >>= λ q. load (place_of q) >>= λ old. counted env d y old >>= λ v. store (place_of q) v >>= λ _. done (if gives_old then old else v))
  steps d y a gives_old ha =
      chain env.layout (ha Place')
      (λ q _. chain env.layout (loads env.layout (place_of q))
      (λ old _. chain env.layout (counts d y old)
      (λ v _. chain env.layout (stores env.layout (place_of q) v) (λ _ _. gives env.layout {a = if gives_old then old else v} tt))))

  module _ (may : MayErr env.source env.layout) where
    mutual
      pub evaluates : (e : Exp) (want : Want) → Does (eval e want env)
      evaluates (Comma a b y) want = chain env.layout (evaluates a Value) (λ _ _. evaluates b want)
      evaluates (Assign o works a b y) want =
          chain env.layout (evaluates a Place') (λ q _. assigns_by o works y want q (eval b) (λ w. evaluates b w))
      evaluates (Cond a b c y) want =
          chain env.layout (evaluates a Value) (λ x _. either env.layout (is_true x) (evaluates b want) (evaluates c want))
      evaluates (Binary o a b y) want = binary o (type_of a) y (eval a) (eval b) (λ w. evaluates a w) (λ w. evaluates b w)
      evaluates (Cast a y) want = converts (type_of a) (eval a) y (λ w. evaluates a w)
      evaluates (Unary sign.Address a y) want = evaluates a Place'
      evaluates (Unary sign.Deref a y) want =
          chain env.layout (evaluates a Value) (λ q _. chain env.layout (dereferences env y q) (λ at _. wants want y at))
      evaluates (Unary sign.Not a y) want =
          chain env.layout (evaluates a Value) (λ x _. gives env.layout {a = truth_cell env y (not (is_true x))} tt)
      evaluates (Unary sign.Plus a y) want =
          chain env.layout (evaluates a Value) (λ x _. gives env.layout {a = signed_as env sign.Plus y x} tt)
      evaluates (Unary sign.Minus a y) want =
          chain env.layout (evaluates a Value) (λ x _. gives env.layout {a = signed_as env sign.Minus y x} tt)
      evaluates (Unary sign.Complement a y) want =
          chain env.layout (evaluates a Value) (λ x _. gives env.layout {a = signed_as env sign.Complement y x} tt)
      evaluates (PreInc d a y) want = steps d y (eval a) false (λ w. evaluates a w)
      evaluates (PostInc d a y) want = steps d y (eval a) true (λ w. evaluates a w)
      evaluates (SizeofExpr a n y) want = record { by = λ w. tt }
      evaluates (SizeofType n y) want = record { by = λ w. tt }
      evaluates (Index a b y) want =
          either env.layout (is_array (type_of a))
          (chain env.layout (evaluates a Place')
          (λ q _. chain env.layout (evaluates b Value)
          (λ k _. chain env.layout (elements (place_of q) (number_of k)) (λ at _. wants want y at))))
          (chain env.layout (evaluates a Value)
          (λ q _. chain env.layout (evaluates b Value)
          (λ k _. chain env.layout (dereferences env y q)
          (λ at _. chain env.layout (requires env.layout (nat_eq (number_of k) 0) reason.Index) (λ _ _. wants want y at)))))
      evaluates (Call x f es y) want =
          chain env.layout (calls_callee (is_name f) (eval f) (λ w. evaluates f w))
          (λ _ _. chain env.layout (evaluates_all es) (λ vs _. calls env x f y (site_at env.layout x.token) vs (may_do env.source env.layout x.token may)))
      evaluates (Field a n true y) want =
          chain env.layout (evaluates a Value)
          (λ q _. chain env.layout (dereferences env (target_or_void (type_of a)) q)
          (λ at _. chain env.layout (members n at) (λ k _. wants want y k)))
      evaluates (Field a n false y) want =
          chain env.layout (evaluates a Place') (λ q _. chain env.layout (members n (place_of q)) (λ k _. wants want y k))
      evaluates (Param n y) want = wants want y (location_of env.layout (origin.Param n))
      evaluates (Local n y) want = wants want y (location_of env.layout (origin.Local n))
      evaluates (Global n y) want = wants want y (location_of env.layout (origin.Global n))
      evaluates (Function n b y) want = record { by = λ w. tt }
      evaluates (Number n y) want = record { by = λ w. tt }
      evaluates (Str x y) want = record { by = λ w. tt }
      evaluates (Convert a y) want = converts (type_of a) (eval a) y (λ w. evaluates a w)
      evaluates (Temp n y) want = record { by = λ w. tt }
      evaluates (TempPlace n y) want = wants_kept want y (slice_index_or env.temps n Nothing)

      pub evaluates_all : (es : Exps) → Leads env.layout Whatever (eval_all es env)
      evaluates_all NoExps = gives env.layout {a = []} tt
      evaluates_all (Exps' e es) =
          chain env.layout (evaluates e Value) (λ v _. chain env.layout (evaluates_all es) (λ vs _. gives env.layout {a = v ∷ vs} tt))
