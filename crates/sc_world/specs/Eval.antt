-- Expressions (C11 6.5): what value an expression gives, or which place, and what that does to the world. Evaluation
-- goes from left to right.
use Rattle.std.specs.Prelude.{ℕ, zero, suc, ◌+◌, ◌-◌, ◌*◌, ◌^◌, nat_eq, nat_lt, nat_le, Bool, true, false, not, ◌&&◌, ◌||◌, Option, Some, None, List, [], ◌∷◌, ◌++◌, length, map, slice_index_or, Ok, if◌then◌else◌}
use Rattle.std.specs.List.{range_with_len}
use Rattle.sc_base.specs.declared.pos.Pos.{Pos}
use Rattle.sc_base.specs.declared.pos.NameId.{NameId}
use Rattle.sc_tree.specs.declared.op.BinaryOp.{BinaryOp}
use Rattle.sc_tree.specs.declared.op.BinaryOp.TheVariants as op
use Rattle.sc_tree.specs.declared.op.UnaryOp.{UnaryOp}
use Rattle.sc_tree.specs.declared.op.UnaryOp.TheVariants as sign
use Rattle.sc_tree.specs.declared.op.Step.{Step}
use Rattle.sc_tree.specs.declared.op.Step.TheVariants as by
use Rattle.sc_tree.specs.declared.expr.Place.{Place}
use Rattle.sc_typed.specs.Arith.{computed, takes, of_one, resized, truth}
use Rattle.fsm_spec.specs.Table.{target_of as state_from, on_any}
use Rattle.run_store.specs.declared.Flag.TheVariants as flag
use Rattle.run_store.specs.Concrete.{Cell, Number as Num, Pointer, Nothing}
use Rattle.sum_rows.specs.declared.path.Step.TheVariants as step
use Rattle.sum_rows.specs.declared.report.What.TheVariants as what
use Rattle.sum_rows.specs.declared.row.Summary.{Summary}
use Rattle.sc_world.specs.declared.run.Origin.{Origin}
use Rattle.sc_world.specs.declared.run.Origin.TheVariants as origin
use Rattle.sc_world.specs.declared.run.Reason.{Reason}
use Rattle.sc_world.specs.declared.run.Reason.TheVariants as reason
use Rattle.sc_world.specs.Tree.{Ty, Struct, is_integer, is_pointer, is_array, is_bool, int_bits, has_sign, promoted_type, target_or_void, Exp, Comma, Assign, Cond, Binary, Cast, Unary, PreInc, PostInc, SizeofExpr, SizeofType, Index, Call, Field, Param, Local, Global, Function, Number, Str, Convert, Temp, TempPlace, Exps, NoExps, Exps', type_of}
use Rattle.sc_world.specs.Source.{Source, Effect, Operation, Try, Allocate, Release, Ends, Expect, Known, Unknown, called_name, sum_at}
use Rattle.sc_world.specs.Layout.{Layout, Location, Occurrence, Placed, location, location_of, part, is_outer, is_cell, site_at, occurrence_at}
use Rattle.sc_world.specs.World.{World, Ended, Error, Inner, Run, ◌>>=◌, done, ends, aside, unless, Env, bit_at, number_at, size, any, pointer_to, null, target_of, number_of, is_true, load, put, mark, store, state_of, set_state, event, reach, dereference, target_or_null}
use Rattle.sc_world.specs.Known.{known, free, escape}

-- What is wanted of an expression: its value, or the place of an lvalue, as the pointer to it.
pub data Want : Type 0 where
  Value : Want
  Place' : Want

abbrev pub is_struct : Ty → Bool
is_struct (Struct n) = true
is_struct _ = false

-- What stands at a place: its value, as an lvalue gives it (C11 6.3.2.1), or the place itself. What has no cell is
-- told by its place.
abbrev pub scalar_at : ℕ → Ty → Run Cell
scalar_at at t = if is_integer t || is_pointer t then load at else done (pointer_to at)

abbrev pub wanted : Want → Ty → ℕ → Run Cell
wanted Value t at = scalar_at at t
wanted Place' t at = done (pointer_to at)

-- the location that a place is; stubs and null have none, and nothing is asked of them
abbrev pub place_of : Cell → ℕ
place_of c = target_of c - 1

-- what was kept of a place is the pointer to it; it is not checked again
abbrev pub kept_place : Want → Ty → Cell → Run Cell
kept_place Value t c = scalar_at (place_of c) t
kept_place Place' t c = done c

-- Conversions of a value (C11 6.3).
abbrev pub number_to : Env → Ty → Ty → ℕ → Cell
number_to env from to n =
    if is_bool to
    then Num 1 (truth (not (nat_eq n 0)))
    else (if is_integer to
    then Num (int_bits env.source.widths to) (resized (has_sign from) (int_bits env.source.widths from) (int_bits env.source.widths to) n)
    else (if is_pointer to then null else Nothing))

abbrev pub pointer_as : Env → Ty → ℕ → Cell
pointer_as env to p =
    if is_bool to then Num 1 (truth (not (nat_eq p 0))) else (if is_pointer to then Pointer p else Nothing)

-- an integer that becomes a pointer is a null constant
abbrev pub convert : Env → (from to : Ty) → Cell → Cell
convert env from to (Num w n) = number_to env from to n
convert env from to (Pointer p) = pointer_as env to p
convert env from to Nothing = Nothing

-- Operators.

abbrev pub is_division : BinaryOp → Bool
is_division op.Div = true
is_division op.Rem = true
is_division _ = false

-- why an operator that does not take two numbers sets a run aside
abbrev pub not_taken : BinaryOp → Reason
not_taken o = if is_division o then reason.Divide else reason.Shift

-- the width of a result: that of an `int` for a comparison
abbrev pub result_bits : Env → Ty → ℕ
result_bits env t = int_bits env.source.widths t

abbrev pub on_numbers : Env → BinaryOp → (operands result : Ty) → ℕ → ℕ → Run Cell
on_numbers env o t r m n = do
  _ ← unless (takes o (int_bits env.source.widths t) (has_sign t) m n) (not_taken o)
  done (Num (result_bits env r) (computed o (int_bits env.source.widths t) (has_sign t) m n))

abbrev pub is_equality : BinaryOp → Bool
is_equality op.Equal = true
is_equality _ = false

-- pointers are compared as equal or not
abbrev pub on_pointers : Env → BinaryOp → Ty → ℕ → ℕ → Run Cell
on_pointers env o r p q = done (Num (result_bits env r) (truth (if is_equality o then nat_eq p q else not (nat_eq p q))))

abbrev pub operated : Env → BinaryOp → (operands result : Ty) → Cell → Cell → Run Cell
operated env o t r (Num v m) (Num w n) = on_numbers env o t r m n
operated env o t r (Pointer p) (Pointer q) = on_pointers env o r p q
operated env o t r _ _ = done Nothing

-- `+`, `-` and `~`, on a promoted operand
abbrev pub signed_as : Env → UnaryOp → Ty → Cell → Cell
signed_as env o t (Num w n) = Num (int_bits env.source.widths t) (of_one o (int_bits env.source.widths t) n)
signed_as env o t c = c

abbrev pub truth_cell : Env → Ty → Bool → Cell
truth_cell env t b = Num (int_bits env.source.widths t) (truth b)

-- `++` and `--` count in the promoted type
abbrev pub one_step : Step → BinaryOp
one_step by.Up = op.Add
one_step by.Down = op.Sub

abbrev pub counted : Env → Step → Ty → Cell → Run Cell
counted env s t old =
    operated env (one_step s) (promoted_type t) (promoted_type t) (convert env t (promoted_type t) old)
    (Num (int_bits env.source.widths (promoted_type t)) 1)
    >>= λ v. done (convert env (promoted_type t) t v)

-- Structs: the cells of an object, in order.

abbrev pub up_from : (ℕ → Bool) → Origin → Bool
up_from f (origin.Part up s) = f up
up_from f _ = false

-- whether location k is the location `at` or a part of it; parts stand behind their whole
abbrev pub is_within : (fuel : ℕ) → Layout → (at k : ℕ) → Bool
is_within zero p at k = nat_eq at k
is_within (suc more) p at k = nat_eq at k || up_from (is_within more p at) (location p k).origin

abbrev pub cells_among : Layout → (at : ℕ) → List ℕ → List ℕ
cells_among p at [] = []
cells_among p at (k ∷ ks) =
    if is_cell (location p k) && is_within 256 p at k then k ∷ cells_among p at ks else cells_among p at ks

abbrev pub cells_of : Layout → ℕ → List ℕ
cells_of p at = cells_among p at (range_with_len 0 (length p.locations))

abbrev pub load_all : List ℕ → Run (List Cell)
load_all [] = done []
load_all (k ∷ ks) = do
  c ← load k
  cs ← load_all ks
  done (c ∷ cs)

abbrev pub store_all : List ℕ → List Cell → Run (Unit {0})
store_all [] cs = done tt
store_all (k ∷ ks) [] = done tt
store_all (k ∷ ks) (c ∷ cs) = do
  _ ← store k c
  store_all ks cs

-- the cells of the object on the right are read, then those on the left are stored (C11 6.5.16.1)
abbrev pub copy : Env → (from to : ℕ) → Run (Unit {0})
copy env from to = do
  cs ← load_all (cells_of env.layout from)
  store_all (cells_of env.layout to) cs

-- Places.

abbrev pub part_or : Option ℕ → Run ℕ
part_or None = done 0
part_or (Some at) = done at

-- the member of the location; a member that the text names is there
abbrev pub member : Env → NameId → ℕ → Run ℕ
member env n at = part_or (part env.layout at (step.Field n))

abbrev pub element_or : Option ℕ → Run ℕ
element_or None = aside reason.Index
element_or (Some at) = done at

-- the element of an array with the number; only those that are shown have locations
abbrev pub element : Env → ℕ → ℕ → Run ℕ
element env at n = element_or (part env.layout at (step.Elem n))

abbrev pub or_itself : ℕ → Option ℕ → ℕ
or_itself at None = at
or_itself at (Some k) = k

-- the pointer to the first element of an array
abbrev pub first_element : Env → Cell → Cell
first_element env p = pointer_to (or_itself (place_of p) (part env.layout (place_of p) (step.Elem 0)))

-- Calls.

abbrev pub first_arg : List Cell → Cell
first_arg [] = null
first_arg (v ∷ vs) = v

-- an error at a location: the run ends there
abbrev pub fails : Env → Pos → ℕ → Run Cell
fails env p at = do
  _ ← event p (what.Bad at)
  ends (if is_outer (location env.layout at) then Error at else Inner at)

-- an operation goes to its target; from any state to the first target that is one
abbrev pub target_from : Env → (operation state : ℕ) → Option ℕ
target_from env n s = if nat_eq s any then on_any env.source.machine n else state_from env.source.machine n s

abbrev pub zero_of : Env → Ty → Cell
zero_of env t = if is_integer t then Num (int_bits env.source.widths t) 0 else Nothing

abbrev pub goes_to : Env → Pos → Ty → ℕ → Option ℕ → Run Cell
goes_to env p t at None = fails env p at
goes_to env p t at (Some s) = set_state env at s >>= λ _. done (zero_of env t)

abbrev pub operation : Env → Pos → Ty → ℕ → Cell → Run Cell
operation env p t n v = do
  at ← reach env v
  _ ← mark at flag.Touched
  s ← state_of env at
  goes_to env p t at (target_from env n s)

abbrev pub locked : ℕ
locked = 1

abbrev pub tried : Env → Ty → (success failure at : ℕ) → Bool → Run Cell
tried env t success failure at true = set_state env at locked >>= λ _. done (Num (int_bits env.source.widths t) success)
tried env t success failure at false = done (Num (int_bits env.source.widths t) failure)

-- a lock that is locked cannot be had, any other one is if the choice says so
abbrev pub try : Env → Ty → Occurrence → (success failure : ℕ) → Cell → Run Cell
try env t o success failure v = do
  at ← reach env v
  _ ← mark at flag.Touched
  s ← state_of env at
  tried env t success failure at (not (nat_eq s locked) && bit_at env.choice o.bit)

abbrev pub mark_object : Option ℕ → Run (Unit {0})
mark_object None = done tt
mark_object (Some at) = mark at flag.Allocated

abbrev pub allocate : Env → Occurrence → Run Cell
allocate env o =
    if bit_at env.choice o.bit then (mark_object o.object >>= λ _. done (target_or_null o.object)) else done null

abbrev pub escape_all : Env → List Cell → Run (Unit {0})
escape_all env [] = done tt
escape_all env (v ∷ vs) = do
  _ ← escape env v
  escape_all env vs

abbrev pub escaped_object : Env → Cell → Run Cell
escaped_object env p = escape env p >>= λ _. done p

-- an unknown call: its arguments' objects escape, and the choice says what it gives
abbrev pub unknown : Env → Occurrence → Ty → List Cell → Run Cell
unknown env o t vs = do
  _ ← escape_all env vs
  if is_integer t
      then done (Num (int_bits env.source.widths t) (number_at env.choice o.bit (int_bits env.source.widths t)))
      else (if is_pointer t
      then (if bit_at env.choice o.bit then escaped_object env (target_or_null o.object) else done null)
      else done Nothing)

abbrev pub release : Env → Cell → Run Cell
release env v = free env v >>= λ _. done Nothing

abbrev pub known_by : Env → Pos → Ty → Occurrence → List Cell → Option Summary → Run Cell
known_by env p t o vs None = unknown env o t vs
known_by env p t o vs (Some sum) = known env (fails env p) o t sum vs

-- what a call does
abbrev pub act : Env → Pos → Ty → Occurrence → List Cell → Effect → Run Cell
act env p t o vs (Operation n) = operation env p t n (first_arg vs)
act env p t o vs (Try a b) = try env t o a b (first_arg vs)
act env p t o vs (Allocate zeroed) = allocate env o
act env p t o vs Release = release env (first_arg vs)
act env p t o vs Ends = aside reason.NoReturn
act env p t o vs Expect = done (first_arg vs)
act env p t o vs (Known k) = known_by env p t o vs (sum_at env.source k)
act env p t o vs Unknown = unknown env o t vs

-- The call of a text in the turn at hand.
abbrev pub call : Env → Place → Exp → Ty → Placed → List Cell → Run Cell
call env p f t s vs = do
  _ ← event p.first (what.Call (called_name f))
  act env p.first t (occurrence_at env.layout s env.turn) vs s.site.effect

abbrev pub is_name : Exp → Bool
is_name (Function n b t) = true
is_name _ = false

-- Assignment. `+=` and its kin take the left place, the value there, the right value, and store.
abbrev pub assign_value : Env → Want → Ty → Cell → Cell → Run Cell
assign_value env want t p v = do
  _ ← store (place_of p) v
  wanted want t (place_of p)

abbrev pub assign_struct : Env → Cell → Cell → Run Cell
assign_struct env p q = do
  _ ← copy env (place_of q) (place_of p)
  done p

abbrev pub combined : Env → BinaryOp → (works t : Ty) → Cell → Cell → Run Cell
combined env o works t old v =
    operated env o works works (convert env t works old) v >>= λ r. done (convert env works t r)

-- whether the value that is not 0 is wanted of `&&` or `||`
abbrev pub needs_right : BinaryOp → Bool → Bool
needs_right op.Or x = not x
needs_right _ x = x

abbrev pub is_logical : BinaryOp → Bool
is_logical op.And = true
is_logical op.Or = true
is_logical _ = false

-- how an expression that stands in another one is evaluated
abbrev pub Evaluator : Type 0
Evaluator = Want → Env → Run Cell

-- the value of an expression of one type in another type; an array gives the pointer to its first element
abbrev pub convert_of : Ty → Evaluator → Ty → Env → Run Cell
convert_of u a t env =
    if is_array u
    then (a Place' env >>= λ p. done (first_element env p))
    else (a Value env >>= λ v. done (convert env u t v))

abbrev pub assign_by : Option BinaryOp → (works t : Ty) → Want → Env → Cell → Evaluator → Run Cell
assign_by None works t want env p b =
    if is_integer t || is_pointer t
    then (b Value env >>= λ v. assign_value env want t p v)
    else (b Place' env >>= λ q. assign_struct env p q)
assign_by (Some o) works t want env p b = do
  old ← load (place_of p)
  v ← b Value env
  r ← combined env o works t old v
  assign_value env want t p r

-- a function that is called by its name is not evaluated
abbrev pub callee : Bool → Evaluator → Env → Run Cell
callee true f env = done null
callee false f env = f Value env

abbrev mutual
  pub eval : Exp → Want → Env → Run Cell
  eval (Comma a b t) want env = do
    _ ← eval a Value env
    eval b want env
  eval (Assign o works a b t) want env = do
    p ← eval a Place' env
    assign_by o works t want env p (eval b)
  eval (Cond a b c t) want env = do
    x ← eval a Value env
    if is_true x then eval b want env else eval c want env
  eval (Binary o a b t) want env = do
    x ← eval a Value env
    if is_logical o
        then (if needs_right o (is_true x)
        then (eval b Value env >>= λ y. done (truth_cell env t (is_true y)))
        else done (truth_cell env t (is_true x)))
        else (eval b Value env >>= λ y. operated env o (type_of a) t x y)
  eval (Cast a t) want env = convert_of (type_of a) (eval a) t env
  eval (Unary sign.Address a t) want env = eval a Place' env
  eval (Unary sign.Deref a t) want env = do
    p ← eval a Value env
    at ← dereference env t p
    wanted want t at
  eval (Unary sign.Not a t) want env = do
    x ← eval a Value env
    done (truth_cell env t (not (is_true x)))
  eval (Unary o a t) want env = do
    x ← eval a Value env
    done (signed_as env o t x)
  eval (PreInc s a t) want env = do
    p ← eval a Place' env
    old ← load (place_of p)
    v ← counted env s t old
    _ ← store (place_of p) v
    done v
  eval (PostInc s a t) want env = do
    p ← eval a Place' env
    old ← load (place_of p)
    v ← counted env s t old
    _ ← store (place_of p) v
    done old
  eval (SizeofExpr a n t) want env = done (Num (int_bits env.source.widths t) n)
  eval (SizeofType n t) want env = done (Num (int_bits env.source.widths t) n)
  eval (Index a b t) want env =
      if is_array (type_of a)
      then (do
        p ← eval a Place' env
        k ← eval b Value env
        at ← element env (place_of p) (number_of k)
        wanted want t at)
      else (do
        p ← eval a Value env
        k ← eval b Value env
        at ← dereference env t p
        _ ← unless (nat_eq (number_of k) 0) reason.Index
        wanted want t at)
  eval (Call p f es t) want env = do
    _ ← callee (is_name f) (eval f) env
    vs ← eval_all es env
    call env p f t (site_at env.layout p.token) vs
  eval (Field a n true t) want env = do
    p ← eval a Value env
    at ← dereference env (target_or_void (type_of a)) p
    k ← member env n at
    wanted want t k
  eval (Field a n false t) want env = do
    p ← eval a Place' env
    k ← member env n (place_of p)
    wanted want t k
  eval (Param n t) want env = wanted want t (location_of env.layout (origin.Param n))
  eval (Local n t) want env = wanted want t (location_of env.layout (origin.Local n))
  eval (Global n t) want env = wanted want t (location_of env.layout (origin.Global n))
  eval (Function n b t) want env = done (pointer_to (location_of env.layout (origin.Function n)))
  eval (Number n t) want env = done (Num (int_bits env.source.widths t) n)
  eval (Str p t) want env = done (pointer_to (location_of env.layout (origin.Literal p.token)))
  eval (Convert a t) want env = convert_of (type_of a) (eval a) t env
  eval (Temp n t) want env = done (slice_index_or env.temps n Nothing)
  eval (TempPlace n t) want env = kept_place want t (slice_index_or env.temps n Nothing)

  pub eval_all : Exps → Env → Run (List Cell)
  eval_all NoExps env = done []
  eval_all (Exps' e es) env = do
    v ← eval e Value env
    vs ← eval_all es env
    done (v ∷ vs)
