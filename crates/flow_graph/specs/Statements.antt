-- The graph of a statement (C11 6.8). A statement is told where the walk goes on behind it, and where each `break`,
-- `continue` and label leads.
use Rattle.std.specs.Prelude.{ℕ, zero, suc, ◌+◌, ◌*◌, nat_eq, Bool, true, false, Option, Some, None, List, [], ◌∷◌, length, if◌then◌else◌}
use Rattle.sc_base.specs.declared.pos.Pos.{Pos}
use Rattle.sc_base.specs.declared.pos.NameId.{NameId}
use Rattle.sc_typed.specs.declared.stmt.Declared.{Declared}
use Rattle.sc_typed.specs.declared.stmt.Declared.TheVariants as declared
use Rattle.sum_rows.specs.declared.report.What.{What}
use Rattle.sum_rows.specs.declared.report.What.TheVariants as what
use Rattle.sc_world.specs.declared.run.Reason.TheVariants as reason
use Rattle.sc_world.specs.Tree.{Exp, Temp, TempPlace, type_of, Given, Init, NoInit, One, Braces, Dec, Start, NoStart, Begin, Declare, Stm, Block, Decl, Evaluate, If, IfElse, While, Do, For, Switch, Case, Default, Goto, Break, Continue, Return, Label, Stms, NoStms, Stms'}
use Rattle.sc_world.specs.Eval.{Value, Place'}
use Rattle.flow_graph.specs.Nodes.{KeepCells, Set, Fill, Choose, Mark, MarkSwitch, Exit, SetAside}
use Rattle.flow_graph.specs.Growing.{Build, ◌>>=◌, pure, put, fresh, fresh_slots, numbers}
use Rattle.flow_graph.specs.Expressions.{Into, Test, Part, easy, is_scalar, unroll}

-- a label that stands further on, with its node
pub record Target : Type 0 where
  pub name : NameId
  pub at : ℕ

-- where the walk goes on: behind the statement, at a `break`, at a `continue`, at the labels further on, the nearest
-- first, and at a label that is not there, which is the end of the body
pub record Targets : Type 0 where
  pub next : ℕ
  pub leave : ℕ
  pub again : ℕ
  pub lost : ℕ
  pub labels : List Target

abbrev pub look : NameId → List Target → (lost : ℕ) → ℕ
look n [] lost = lost
look n (t ∷ ts) lost = if nat_eq n.at t.name.at then t.at else look n ts lost

-- what a statement is made into
abbrev pub Piece : Type 0
Piece = Targets → Build ℕ

-- a condition, with its events behind it
abbrev pub tested : Part → Pos → (Bool → What) → (hit miss : ℕ) → Build ℕ
tested e p x hit miss = do
  held ← put (Mark p (x true) hit)
  failed ← put (Mark p (x false) miss)
  e (Test held failed)

-- an expression whose value nobody reads
abbrev pub dropped : Part → (next : ℕ) → Build ℕ
dropped e next = do
  x ← fresh 1
  e (Into Value x next)

abbrev pub dropped_if : Option Exp → (turn next : ℕ) → Build ℕ
dropped_if None turn next = pure next
dropped_if (Some e) turn next = dropped (unroll e turn) next

-- Initialisers.

-- a local set to one value
abbrev pub set_to : (local : ℕ) → Exp → Part → (next : ℕ) → Build ℕ
set_to n e part next =
    if easy e
    then put (Set n e next)
    else (fresh 1 >>= λ x.
    if is_scalar (type_of e)
    then (put (Set n (Temp x (type_of e)) next) >>= λ at. part (Into Value x at))
    else (put (Set n (TempPlace x (type_of e)) next) >>= λ at. part (Into Place' x at)))

-- the cells of a value are kept
abbrev pub cells_kept : (slot : ℕ) → Exp → Part → (next : ℕ) → Build ℕ
cells_kept n e part next =
    if easy e
    then put (KeepCells n e next)
    else (fresh 1 >>= λ x.
    if is_scalar (type_of e)
    then (put (KeepCells n (Temp x (type_of e)) next) >>= λ at. part (Into Value x at))
    else (put (KeepCells n (TempPlace x (type_of e)) next) >>= λ at. part (Into Place' x at)))

abbrev pub all_kept : List Given → (turn slot next : ℕ) → Build ℕ
all_kept [] turn n next = pure next
all_kept (x ∷ xs) turn n next = do
  at ← all_kept xs turn (n + 1) next
  cells_kept n x.value (unroll x.value turn) at

abbrev pub filled_by : (local : ℕ) → List Given → (turn next : ℕ) → Build ℕ
filled_by n xs turn next = do
  k ← fresh_slots (length xs)
  at ← put (Fill n xs (numbers k (length xs)) next)
  all_kept xs turn k at

abbrev pub initialised : (local : ℕ) → Init → (turn next : ℕ) → Build ℕ
initialised n NoInit turn next = pure next
initialised n (One e) turn next = set_to n e (unroll e turn) next
initialised n (Braces xs) turn next = filled_by n xs turn next

abbrev pub declared_by : Declared → Init → (turn next : ℕ) → Build ℕ
declared_by (declared.Local n) x turn next = initialised n x turn next
declared_by _ x turn next = pure next

abbrev pub declarators : List Dec → (turn next : ℕ) → Build ℕ
declarators [] turn next = pure next
declarators (d ∷ ds) turn next = do
  at ← declarators ds turn next
  declared_by d.declared d.init turn at

-- Loops. The turns are made from the last one to the first: behind its last turn the condition is tested once more, and
-- where it holds the walk is set aside.
abbrev pub turn_of : (turn times t : ℕ) → ℕ
turn_of turn n t = turn * n + t

-- behind the body of a loop
abbrev pub in_loop : Targets → (next : ℕ) → Targets
in_loop k next = record k { next = next; leave = k.next; again = next }

abbrev pub last_turn : (test : ℕ → ℕ → Build ℕ) → Targets → Build ℕ
last_turn test k = do
  at ← put (SetAside reason.Depth)
  test at k.next

abbrev pub while_turn : (test : ℕ → ℕ → Build ℕ) → Piece → (rest : Piece) → Piece
while_turn test body rest k = do
  again ← rest k
  at ← body (in_loop k again)
  test at k.next

-- `test` and `body` are told the turn
abbrev pub while_turns : (left t : ℕ) → (test : ℕ → ℕ → ℕ → Build ℕ) → (body : ℕ → Piece) → Piece
while_turns zero t test body = last_turn (test t)
while_turns (suc more) t test body = while_turn (test t) (body t) (while_turns more (t + 1) test body)

-- a loop that tests behind its body
abbrev pub do_turn : (test : ℕ → ℕ → Build ℕ) → Piece → (rest : Targets → Build ℕ) → Piece
do_turn test body rest k = do
  again ← rest k
  at ← test again k.next
  body (in_loop k at)

abbrev pub aside_at : Targets → Build ℕ
aside_at k = put (SetAside reason.Depth)

abbrev pub do_turns : (left t : ℕ) → (test : ℕ → ℕ → ℕ → Build ℕ) → (body : ℕ → Piece) → Piece
do_turns zero t test body = aside_at
do_turns (suc more) t test body = do_turn (test t) (body t) (do_turns more (t + 1) test body)

-- the step of a `for` stands behind its body, and a `continue` leads to it
abbrev pub with_step : Piece → (step : ℕ → Build ℕ) → Piece
with_step body step k = do
  at ← step k.next
  body (record k { next = at; again = at })

abbrev pub test_or_true : Option Exp → (turn : ℕ) → Pos → (hit miss : ℕ) → Build ℕ
test_or_true None turn p hit miss = put (Mark p (what.Loop true) hit)
test_or_true (Some e) turn p hit miss = tested (unroll e turn) p what.Loop hit miss

abbrev pub started : Start → (turn next : ℕ) → Build ℕ
started NoStart turn next = pure next
started (Begin e) turn next = dropped (unroll e turn) next
started (Declare ds) turn next = declarators ds turn next

-- Blocks and `switch`.

-- a `case` of a block, with its node
pub record Chosen : Type 0 where
  pub number : ℕ
  pub at : ℕ

-- a block, or what is left of one: where it begins, and where its labels, its cases and its `default` are
pub record Opened : Type 0 where
  pub at : ℕ
  pub labels : List Target
  pub cases : List Chosen
  pub default : Option ℕ

abbrev pub closed : Targets → Opened
closed k = record { at = k.next; labels = k.labels; cases = []; default = None }

-- the labels in front of a statement
abbrev pub labels_of : Stm → (at : ℕ) → List Target → List Target
labels_of (Label n s) at ts = record { name = n; at = at } ∷ labels_of s at ts
labels_of _ at ts = ts

abbrev pub cases_of : Stm → (at : ℕ) → List Chosen → List Chosen
cases_of (Case n e) at cs = record { number = n; at = at } ∷ cs
cases_of _ at cs = cs

abbrev pub default_of : Stm → (at : ℕ) → Option ℕ → Option ℕ
default_of Default at d = Some at
default_of _ at d = d

abbrev pub opened : Stm → (at : ℕ) → (rest : Opened) → Opened
opened s at r =
    record {
      at = at;
      labels = labels_of s at r.labels;
      cases = cases_of s at r.cases;
      default = default_of s at r.default;
    }

abbrev pub item : Stm → Piece → Opened → Targets → Build Opened
item s part rest k = do
  at ← part (record k { next = rest.at; labels = rest.labels })
  pure (opened s at rest)

abbrev pub node_or : ℕ → Option ℕ → ℕ
node_or n None = n
node_or n (Some at) = at

-- the cases of a `switch`, in their order
abbrev pub chain : (temp : ℕ) → List Chosen → (default : ℕ) → Build ℕ
chain t [] default = pure default
chain t (c ∷ cs) default = do
  rest ← chain t cs default
  put (Choose t c.number c.at rest)

abbrev pub switched : Part → Pos → Exp → (items : Targets → Build Opened) → Piece
switched part p e items k = do
  r ← items (record k { leave = k.next })
  x ← fresh 1
  first ← chain x r.cases (node_or k.next r.default)
  at ← put (MarkSwitch p (type_of e) x first)
  part (Into Value x at)

-- `return`
abbrev pub returning : Option Exp → (turn : ℕ) → Pos → Build ℕ
returning None turn p = do
  at ← put (Exit None)
  put (Mark p what.Return at)
returning (Some e) turn p = do
  x ← fresh 1
  at ← put (Exit (Some x))
  m ← put (Mark p what.Return at)
  unroll e turn (Into Value x m)

module _ (depth : ℕ) where
  abbrev mutual
    pub unroll_stm : Stm → (turn : ℕ) → Piece
    unroll_stm (Block ss end) turn k = unroll_stms ss turn k >>= λ r. pure r.at
    unroll_stm (Decl ds) turn k = declarators ds turn k.next
    unroll_stm (Evaluate e) turn k = dropped_if e turn k.next
    unroll_stm (If p e s) turn k = do
      hit ← unroll_stm s turn k
      tested (unroll e turn) p what.If hit k.next
    unroll_stm (IfElse p e s r) turn k = do
      hit ← unroll_stm s turn k
      miss ← unroll_stm r turn k
      tested (unroll e turn) p what.If hit miss
    unroll_stm (While p e s) turn k =
        while_turns depth 0
        (λ t. tested (unroll e (turn_of turn (depth + 1) t)) p what.Loop)
        (λ t. unroll_stm s (turn_of turn depth t)) k
    unroll_stm (Do p s e) turn k =
        do_turns depth 0
        (λ t. tested (unroll e (turn_of turn depth t)) p what.Loop)
        (λ t. unroll_stm s (turn_of turn depth t)) k
    unroll_stm (For p f c n s) turn k = do
      at ← while_turns depth 0
          (λ t. test_or_true c (turn_of turn (depth + 1) t) p)
          (λ t. with_step (unroll_stm s (turn_of turn depth t)) (dropped_if n (turn_of turn depth t))) k
      started f turn at
    unroll_stm (Switch p e ss) turn k = switched (unroll e turn) p e (unroll_stms ss turn) k
    unroll_stm (Case n e) turn k = pure k.next
    unroll_stm Default turn k = pure k.next
    unroll_stm (Goto p n) turn k = put (Mark p (what.Goto n) (look n k.labels k.lost))
    unroll_stm Break turn k = pure k.leave
    unroll_stm Continue turn k = pure k.again
    unroll_stm (Return p e) turn k = returning e turn p
    unroll_stm (Label n s) turn k = unroll_stm s turn k

    pub unroll_stms : Stms → (turn : ℕ) → Targets → Build Opened
    unroll_stms NoStms turn k = pure (closed k)
    unroll_stms (Stms' s rest) turn k = do
      r ← unroll_stms rest turn k
      item s (unroll_stm s turn) r k
