-- Pieces of the definitions, cut as the code is cut: the nodes that are made before the operands of an expression are.
use Rattle.std.specs.Prelude.{ℕ, ◌+◌, Bool, true, false, Option, Some, None, List, length, if◌then◌else◌}
use Rattle.sc_base.specs.declared.pos.Pos.{Pos}
use Rattle.sum_rows.specs.declared.report.What.TheVariants as what
use Rattle.sc_world.specs.declared.run.Reason.TheVariants as reason
use Rattle.sc_tree.specs.declared.op.BinaryOp.{BinaryOp}
use Rattle.sc_tree.specs.declared.op.UnaryOp.{UnaryOp}
use Rattle.sc_tree.specs.declared.op.UnaryOp.TheVariants as sign
use Rattle.sc_world.specs.Tree.{Ty, is_array, Exp, Comma, Assign, Cond, Binary, Cast, Unary, PreInc, PostInc, SizeofExpr, SizeofType, Index, Call, Field, Param, Local, Global, Function, Number, Str, Convert, Temp, TempPlace, Given, Stm, type_of}
use Rattle.sc_world.specs.Eval.{Want, Value, Place', is_name, is_logical}
use Rattle.flow_graph.specs.Nodes.{Node, Keep, CallOf, Update, Calling, Updating, Fill, Mark, MarkSwitch, Exit, SetAside}
use Rattle.flow_graph.specs.Growing.{Build, ◌>>=◌, pure, put, fresh, fresh_slots, numbers}
use Rattle.flow_graph.specs.Expressions.{Aim, Into, Part, goal, easy, is_scalar, as_scalar, kept, nothing, comma, logical, conditional, address, count, called, unroll, unroll_all, one as ones}
use Rattle.flow_graph.specs.Statements as stmt
use Rattle.sc_flow.specs.Over.{over}
use Rattle.sc_flow.specs.Seen as seen
use Rattle.sc_flow.specs.declared.operands.One.{One}
use Rattle.sc_flow.specs.declared.operands.Two.{Two}
use Rattle.sc_flow.specs.declared.operands.Three.{Three}

abbrev pub truth : Bool → Ty → (temp next : ℕ) → Build ℕ
truth holds t temp next = put (Keep Value temp (Number (seen.truth holds) t) next)

-- a node that reads one kept operand, and one that reads two: the temps of the operands, and the node
abbrev pub one : (whole : ℕ → Exp) → Aim → Build One
one whole aim = do
  k ← goal aim
  x ← fresh 1
  at ← put (Keep k.want k.temp (whole x) k.next)
  pure (record { operand = x; next = at })

abbrev pub two : (whole : ℕ → ℕ → Exp) → Aim → Build Two
two whole aim = do
  k ← goal aim
  x ← fresh 1
  y ← fresh 1
  at ← put (Keep k.want k.temp (whole x y) k.next)
  pure (record { left = x; right = y; next = at })

-- `+=` and its kin: the temps of the place, of the value there and of the right value
abbrev pub update : Updating → Aim → Build Three
update u aim = do
  k ← goal aim
  x ← fresh 1
  y ← fresh 1
  z ← fresh 1
  at ← put (Update u k.want x y z k.temp k.next)
  pure (record { place = x; former = y; right = z; next = at })

-- the value that the object has before
abbrev pub former : Ty → (place temp next : ℕ) → Build ℕ
former t place temp next = put (Keep Value temp (TempPlace place (as_scalar t)) next)

-- what is kept of a temp for a place, which no tree of typing has
abbrev pub temp_place : Ty → Part
temp_place t = ones Value (kept nothing) (λ x. TempPlace x t)

-- a call with so many arguments: the temp of the first one
abbrev pub calls : Calling → (count : ℕ) → Aim → Build One
calls c count aim = do
  k ← goal aim
  x ← fresh count
  at ← put (CallOf c (numbers x count) k.temp k.next)
  pure (record { operand = x; next = at })

-- an expression for a node that takes its value or, where it is no scalar, its object
abbrev pub given : (make : Exp → (next : ℕ) → Node) → Exp → Part → (next : ℕ) → Build ℕ
given make e part next =
    if easy e
    then put (make e next)
    else (fresh 1 >>= λ x.
    if is_scalar (type_of e)
    then (put (make (Temp x (type_of e)) next) >>= λ at. part (Into Value x at))
    else (put (make (TempPlace x (type_of e)) next) >>= λ at. part (Into Place' x at)))

-- a local is filled from values in braces: the slot of the first one
abbrev pub fills : (local : ℕ) → List Given → (next : ℕ) → Build One
fills n xs next = do
  k ← fresh_slots (length xs)
  at ← put (Fill n xs (numbers k (length xs)) next)
  pure (record { operand = k; next = at })

-- a `switch` whose cases begin as told
abbrev pub choose : Exp → Pos → (turn : ℕ) → List stmt.Chosen → (default : ℕ) → Build ℕ
choose e p turn cases default = do
  x ← fresh 1
  first ← stmt.chain x cases default
  at ← put (MarkSwitch p (type_of e) x first)
  unroll e turn (Into Value x at)

-- behind its last turn a loop tests once more, and where the condition holds the walk is set aside
abbrev pub last_test : (test : ℕ → ℕ → Build ℕ) → (miss : ℕ) → Build ℕ
last_test test miss = do
  at ← put (SetAside reason.Depth)
  test at miss

-- a loop that tests before its body, with a step behind the body where it has one
abbrev pub turns : (depth : ℕ) → (test step : Option Exp) → Stm → (turn : ℕ) → Pos → stmt.Piece
turns depth e step s turn p =
    stmt.while_turns depth 0
    (λ t. stmt.test_or_true e (stmt.turn_of turn (depth + 1) t) p)
    (λ t. stmt.with_step (stmt.unroll_stm depth s (stmt.turn_of turn depth t)) (stmt.dropped_if step (stmt.turn_of turn depth t)))

-- a loop that tests behind its body
abbrev pub do_turns : (depth : ℕ) → Exp → Stm → (turn : ℕ) → Pos → stmt.Piece
do_turns depth e s turn p =
    stmt.do_turns depth 0
    (λ t. stmt.tested (unroll e (stmt.turn_of turn depth t)) p what.Loop)
    (λ t. stmt.unroll_stm depth s (stmt.turn_of turn depth t))

-- what stands behind a body that ends there
abbrev pub ending : Pos → Build ℕ
ending p = do
  out ← put (Exit None)
  put (Mark p what.End out)

-- What a hard expression is made into. What is kept of an operand: of the right side of `=` its value or, where it is no
-- scalar, its object; of an array its place; before `.` the object, before `->` the pointer.
abbrev pub right_want : Ty → Want
right_want t = if is_scalar t then Value else Place'

abbrev pub operand_want : Exp → Want
operand_want a = if is_array (type_of a) then Place' else Value

abbrev pub arrow_want : Bool → Want
arrow_want true = Value
arrow_want false = Place'

abbrev pub with_one : Exp → Want → Part → Part
with_one e want a aim = one (λ x. over e x 0) aim >>= λ s. a (Into want s.operand s.next)

abbrev pub with_two : Exp → (left : Want) → Part → (right : Want) → Part → Part
with_two e left a right b aim =
    two (over e) aim >>= λ s. b (Into right s.right s.next) >>= λ second. a (Into left s.left second)

abbrev pub with_update : Updating → Part → Part → Part
with_update u l r aim = do
  s ← update u aim
  second ← r (Into Value s.right s.next)
  before ← former u.ctype s.place s.former second
  l (Into Place' s.place before)

abbrev pub assign_hard : Option BinaryOp → Ty → Exp → Exp → Ty → Part → Part → Part
assign_hard None works a b t l r = with_two (Assign None works a b t) Place' l (right_want t) r
assign_hard (Some o) works a b t l r = with_update (record { op = o; works = works; ctype = t }) l r

abbrev pub binary_hard : BinaryOp → Exp → Exp → Ty → Part → Part → Part
binary_hard o a b t l r = if is_logical o then logical o t l r else with_two (Binary o a b t) Value l Value r

abbrev pub unary_hard : UnaryOp → Exp → Ty → Part → Part
unary_hard sign.Address a t l = address l
unary_hard o a t l = with_one (Unary o a t) Value l

abbrev pub hard : Exp → (turn : ℕ) → Part
hard (Comma a b t) turn = comma (unroll a turn) (unroll b turn)
hard (Assign o w a b t) turn = assign_hard o w a b t (unroll a turn) (unroll b turn)
hard (Cond a b c t) turn = conditional (unroll a turn) (unroll b turn) (unroll c turn)
hard (Binary o a b t) turn = binary_hard o a b t (unroll a turn) (unroll b turn)
hard (Cast a t) turn = with_one (Cast a t) (operand_want a) (unroll a turn)
hard (Unary o a t) turn = unary_hard o a t (unroll a turn)
hard (PreInc s a t) turn = with_one (PreInc s a t) Place' (unroll a turn)
hard (PostInc s a t) turn = with_one (PostInc s a t) Place' (unroll a turn)
hard (SizeofExpr a n t) turn = kept (SizeofType n t)
hard (SizeofType n t) turn = kept (SizeofType n t)
hard (Index a b t) turn = with_two (Index a b t) (operand_want a) (unroll a turn) Value (unroll b turn)
hard (Call p f es t) turn = λ aim. do
  s ← calls (record { place = p; callee = f; result = t; turn = turn }) (count es) aim
  first ← unroll_all es turn s.operand s.next
  called (is_name f) (unroll f turn) first
hard (Field a n arrow t) turn = with_one (Field a n arrow t) (arrow_want arrow) (unroll a turn)
hard (Param n t) turn = kept (Param n t)
hard (Local n t) turn = kept (Local n t)
hard (Global n t) turn = kept (Global n t)
hard (Function n b t) turn = kept (Function n b t)
hard (Number n t) turn = kept (Number n t)
hard (Str p t) turn = kept (Str p t)
hard (Convert a t) turn = with_one (Convert a t) (operand_want a) (unroll a turn)
hard (Temp n t) turn = kept nothing
hard (TempPlace n t) turn = temp_place t
