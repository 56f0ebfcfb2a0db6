-- The graph of an expression. Calls, `&&`, `||`, `? :` are nodes and branches of their own, and so is the comma where an
-- operand has one of them. An expression without them is one node as it stands; else each operand is kept, and a node
-- reads what was kept.
use Rattle.std.specs.Prelude.{ℕ, suc, ◌+◌, Bool, true, false, not, ◌&&◌, ◌||◌, Option, Some, None, if◌then◌else◌}
use Rattle.sc_tree.specs.declared.ctype.IntKind.TheVariants as kind
use Rattle.sc_tree.specs.declared.op.BinaryOp.{BinaryOp}
use Rattle.sc_tree.specs.declared.op.BinaryOp.TheVariants as op
use Rattle.sc_tree.specs.declared.op.UnaryOp.{UnaryOp}
use Rattle.sc_tree.specs.declared.op.UnaryOp.TheVariants as sign
use Rattle.sc_world.specs.Tree.{Ty, Void, Int, is_integer, is_pointer, is_array, Exp, Comma, Assign, Cond, Binary, Cast, Unary, PreInc, PostInc, SizeofExpr, SizeofType, Index, Call, Field, Param, Local, Global, Function, Number, Str, Convert, Temp, TempPlace, Exps, NoExps, Exps', type_of}
use Rattle.sc_world.specs.Eval.{Want, Value, Place', is_name, is_logical}
use Rattle.flow_graph.specs.Nodes.{Keep, CallOf, Update, Branch, Updating}
use Rattle.flow_graph.specs.Growing.{Build, ◌>>=◌, pure, put, fresh, numbers}

-- whether an expression has no call, no `&&`, no `||` and no `? :`
abbrev pub easy : Exp → Bool
easy (Comma a b t) = easy a && easy b
easy (Assign o w a b t) = easy a && easy b
easy (Cond a b c t) = false
easy (Binary o a b t) = not (is_logical o) && (easy a && easy b)
easy (Cast a t) = easy a
easy (Unary o a t) = easy a
easy (PreInc s a t) = easy a
easy (PostInc s a t) = easy a
easy (SizeofExpr a n t) = easy a
easy (SizeofType n t) = true
easy (Index a b t) = easy a && easy b
easy (Call p f es t) = false
easy (Field a n arrow t) = easy a
easy (Param n t) = true
easy (Local n t) = true
easy (Global n t) = true
easy (Function n b t) = true
easy (Number n t) = true
easy (Str p t) = true
easy (Convert a t) = easy a
easy (Temp n t) = false
easy (TempPlace n t) = false

-- Where an expression goes on.
pub data Aim : Type 0 where
  -- its value, or its place, is kept, and then the walk goes on at a node
  Into : Want → (temp next : ℕ) → Aim
  -- at `hit` where its value is not 0, else at `miss`
  Test : (hit miss : ℕ) → Aim

-- what an expression is made into: a step from where it goes on to the node where it begins
abbrev pub Part : Type 0
Part = Aim → Build ℕ

-- where a value goes that is kept
pub record Goal : Type 0 where
  pub want : Want
  pub temp : ℕ
  pub next : ℕ

-- a test keeps the value and branches on it
abbrev pub goal : Aim → Build Goal
goal (Into want t next) = pure (record { want = want; temp = t; next = next })
goal (Test hit miss) = fresh 1 >>= λ t. put (Branch t hit miss) >>= λ at. pure (record { want = Value; temp = t; next = at })

abbrev pub kept : Exp → Part
kept e aim = goal aim >>= λ k. put (Keep k.want k.temp e k.next)

-- one node for an easy expression
abbrev pub plainly : Exp → Part → Part
plainly e hard aim = if easy e then kept e aim else hard aim

-- an operand, or two from left to right, is kept; `whole` is the expression on what was kept
abbrev pub one : Want → Part → (whole : ℕ → Exp) → Part
one want a whole aim = do
  k ← goal aim
  x ← fresh 1
  at ← put (Keep k.want k.temp (whole x) k.next)
  a (Into want x at)

abbrev pub two : Want → Part → Want → Part → (whole : ℕ → ℕ → Exp) → Part
two left a right b whole aim = do
  k ← goal aim
  x ← fresh 1
  y ← fresh 1
  at ← put (Keep k.want k.temp (whole x y) k.next)
  second ← b (Into right y at)
  a (Into left x second)

abbrev pub comma : Part → Part → Part
comma a b aim = do
  at ← b aim
  x ← fresh 1
  a (Into Value x at)

-- Assignment. `+=` and its kin keep the place, the value there and the right value.
abbrev pub is_scalar : Ty → Bool
is_scalar t = is_integer t || is_pointer t

abbrev pub assigned : Ty → Exp → Exp → Ty → Part → Part → Part
assigned works a b t l r =
    if is_scalar t
    then two Place' l Value r (λ x y. Assign None works (TempPlace x (type_of a)) (Temp y (type_of b)) t)
    else two Place' l Place' r (λ x y. Assign None works (TempPlace x (type_of a)) (TempPlace y (type_of b)) t)

-- what is read of an object as a scalar; no object of another type is read so
abbrev pub as_scalar : Ty → Ty
as_scalar t = if is_scalar t then t else Int kind.Int

abbrev pub updating : Updating → Part → Part → Part
updating u l r aim = do
  k ← goal aim
  x ← fresh 1
  y ← fresh 1
  z ← fresh 1
  at ← put (Update u k.want x y z k.temp k.next)
  second ← r (Into Value z at)
  old ← put (Keep Value y (TempPlace x (as_scalar u.ctype)) second)
  l (Into Place' x old)

abbrev pub assigning : Option BinaryOp → Ty → Exp → Exp → Ty → Part → Part → Part
assigning None works a b t l r = assigned works a b t l r
assigning (Some o) works a b t l r = updating (record { op = o; works = works; ctype = t }) l r

-- `&&` and `||`: where the walk goes on when the value is not 0, and when it is
pub record Sides : Type 0 where
  pub hit : ℕ
  pub miss : ℕ

abbrev pub sides : Ty → Aim → Build Sides
sides t (Into want x next) = do
  hit ← put (Keep Value x (Number 1 t) next)
  miss ← put (Keep Value x (Number 0 t) next)
  pure (record { hit = hit; miss = miss })
sides t (Test hit miss) = pure (record { hit = hit; miss = miss })

-- the test of the left operand: `second` is where the right one begins
abbrev pub first_test : BinaryOp → (second : ℕ) → Sides → Aim
first_test op.Or second c = Test c.hit second
first_test _ second c = Test second c.miss

abbrev pub logical : BinaryOp → Ty → Part → Part → Part
logical o t a b aim = do
  c ← sides t aim
  second ← b (Test c.hit c.miss)
  a (first_test o second c)

abbrev pub binary : BinaryOp → Exp → Exp → Ty → Part → Part → Part
binary o a b t l r =
    if is_logical o
    then logical o t l r
    else two Value l Value r (λ x y. Binary o (Temp x (type_of a)) (Temp y (type_of b)) t)

abbrev pub conditional : Part → Part → Part → Part
conditional c a b aim = do
  hit ← a aim
  miss ← b aim
  c (Test hit miss)

-- a conversion keeps the place of an array, and the value of anything else
abbrev pub converted : Exp → (whole : Exp → Exp) → Part → Part
converted a whole l =
    if is_array (type_of a)
    then one Place' l (λ x. whole (TempPlace x (type_of a)))
    else one Value l (λ x. whole (Temp x (type_of a)))

-- `&` gives the place of its operand
abbrev pub address : Part → Part
address a aim = do
  k ← goal aim
  a (Into Place' k.temp k.next)

abbrev pub unary : UnaryOp → Exp → Ty → Part → Part
unary sign.Address a t l = address l
unary o a t l = one Value l (λ x. Unary o (Temp x (type_of a)) t)

abbrev pub indexed : Exp → Exp → Ty → Part → Part → Part
indexed a b t l r =
    if is_array (type_of a)
    then two Place' l Value r (λ x y. Index (TempPlace x (type_of a)) (Temp y (type_of b)) t)
    else two Value l Value r (λ x y. Index (Temp x (type_of a)) (Temp y (type_of b)) t)

abbrev pub count : Exps → ℕ
count NoExps = 0
count (Exps' e es) = suc (count es)

-- what is called, where it is not a name, is evaluated, and its value kept in a temp that nobody reads
abbrev pub called : Bool → Part → ℕ → Build ℕ
called true f next = pure next
called false f next = fresh 1 >>= λ x. f (Into Value x next)

-- what gives nothing, for temps of a tree, which no tree has
abbrev pub nothing : Exp
nothing = Cast (Number 0 (Int kind.Int)) Void

abbrev mutual
  pub unroll : Exp → (turn : ℕ) → Part
  unroll (Comma a b t) turn = plainly (Comma a b t) (comma (unroll a turn) (unroll b turn))
  unroll (Assign o w a b t) turn = plainly (Assign o w a b t) (assigning o w a b t (unroll a turn) (unroll b turn))
  unroll (Cond a b c t) turn = conditional (unroll a turn) (unroll b turn) (unroll c turn)
  unroll (Binary o a b t) turn = plainly (Binary o a b t) (binary o a b t (unroll a turn) (unroll b turn))
  unroll (Cast a t) turn = plainly (Cast a t) (converted a (λ x. Cast x t) (unroll a turn))
  unroll (Unary o a t) turn = plainly (Unary o a t) (unary o a t (unroll a turn))
  unroll (PreInc s a t) turn = plainly (PreInc s a t) (one Place' (unroll a turn) (λ x. PreInc s (TempPlace x (type_of a)) t))
  unroll (PostInc s a t) turn = plainly (PostInc s a t) (one Place' (unroll a turn) (λ x. PostInc s (TempPlace x (type_of a)) t))
  unroll (SizeofExpr a n t) turn = plainly (SizeofExpr a n t) (kept (SizeofType n t))
  unroll (SizeofType n t) turn = kept (SizeofType n t)
  unroll (Index a b t) turn = plainly (Index a b t) (indexed a b t (unroll a turn) (unroll b turn))
  unroll (Call p f es t) turn = λ aim. do
    k ← goal aim
    x ← fresh (count es)
    at ← put (CallOf (record { place = p; callee = f; result = t; turn = turn }) (numbers x (count es)) k.temp k.next)
    first ← unroll_all es turn x at
    called (is_name f) (unroll f turn) first
  unroll (Field a n true t) turn = plainly (Field a n true t) (one Value (unroll a turn) (λ x. Field (Temp x (type_of a)) n true t))
  unroll (Field a n false t) turn =
      plainly (Field a n false t) (one Place' (unroll a turn) (λ x. Field (TempPlace x (type_of a)) n false t))
  unroll (Param n t) turn = kept (Param n t)
  unroll (Local n t) turn = kept (Local n t)
  unroll (Global n t) turn = kept (Global n t)
  unroll (Function n b t) turn = kept (Function n b t)
  unroll (Number n t) turn = kept (Number n t)
  unroll (Str p t) turn = kept (Str p t)
  unroll (Convert a t) turn = plainly (Convert a t) (converted a (λ x. Convert x t) (unroll a turn))
  unroll (Temp n t) turn = kept nothing
  unroll (TempPlace n t) turn = one Value (kept nothing) (λ x. TempPlace x t)

  -- the arguments of a call, from left to right, each kept in a temp from x on
  pub unroll_all : Exps → (turn x next : ℕ) → Build ℕ
  unroll_all NoExps turn x next = pure next
  unroll_all (Exps' e es) turn x next = do
    at ← unroll_all es turn (x + 1) next
    unroll e turn (Into Value x at)
