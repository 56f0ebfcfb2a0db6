-- Each node goes on at older ones: of statements, and of the whole.
use Rattle.std.proofs.Common.{ℕ, zero, suc, ◌+◌, ◌≤◌, ◌<◌, Bool, true, false, List, [], ◌∷◌, length, subst, sym, arith}
use Rattle.std.specs.Prelude.{Option, Some, None, if◌then◌else◌}
use Rattle.sc_base.specs.declared.pos.Pos.{Pos}
use Rattle.sc_base.specs.declared.pos.NameId.{NameId}
use Rattle.sc_typed.specs.declared.stmt.Declared.{Declared}
use Rattle.sc_typed.specs.declared.stmt.Declared.TheVariants as declared
use Rattle.sum_rows.specs.declared.report.What.{What}
use Rattle.sum_rows.specs.declared.report.What.TheVariants as what
use Rattle.sc_world.specs.declared.run.Reason.TheVariants as reason
use Rattle.sc_world.specs.Tree.{Exp, Temp, TempPlace, type_of, Given, Init, NoInit, One, Braces, Dec, Start, NoStart, Begin, Declare, Stm, Block, Decl, Evaluate, If, IfElse, While, Do, For, Switch, Case, Default, Goto, Break, Continue, Return, Label, Stms, NoStms, Stms'}
use Rattle.sc_world.specs.Exec.{has_label, is_default}
use Rattle.sc_world.specs.Eval.{Want, Value, Place'}
use Rattle.flow_graph.specs.Nodes.{Node, KeepCells, Set, Fill, Mark, MarkSwitch, Exit, SetAside}
use Rattle.flow_graph.specs.Growing.{Growing, Build, ◌>>=◌, pure, put, fresh, numbers}
use Rattle.flow_graph.specs.Expressions.{Into, Test, Part, easy, is_scalar, unroll}
use Rattle.flow_graph.specs.Statements.{Targets, look, Piece, tested, test_or_true, dropped, dropped_if, cells_kept, all_kept, filled_by, initialised, declared_by, declarators, started, in_loop, last_turn, while_turn, while_turns, do_turn, do_turns, with_step, turn_of, Chosen, Opened, cases_of, default_of, item, node_or, chain, switched, returning, unroll_stm, unroll_stms}
use Rattle.flow_graph.proofs.Blocks.{look_labels, default_node}
use Rattle.flow_graph.proofs.Order.{Ordered, Placed, longer_trans, Orders, expression_orders}

pub record ThenOrders (m : (next : ℕ) → Build ℕ) : Type 0 where
  pub by : (next : ℕ) (g : Growing) → Ordered g.nodes → next < length g.nodes → Placed g (m next g)

pub record TestOrders (m : (hit miss : ℕ) → Build ℕ) : Type 0 where
  pub by : (hit miss : ℕ) (g : Growing) → Ordered g.nodes → hit < length g.nodes → miss < length g.nodes → Placed g (m hit miss g)

placed_itself : (at : ℕ) (g : Growing) → Ordered g.nodes → at < length g.nodes → Placed g (at, g)
placed_itself at g ord h = record { ordered = ord; below = h; longer = omega arith }

tests_order : (e : Exp) (turn : ℕ) (q : Pos) (x : Bool → What) → TestOrders (tested (unroll e turn) q x)
tests_order e turn q x = record {
  by = λ hit miss g ord h m.
      longer_trans g (marks hit miss g) _ (omega arith)
      ((expression_orders e turn).by (Test (length g.nodes) (suc (length g.nodes))) (marks hit miss g)
      (omega (arith, m), (h, ord)) (omega arith, omega arith));
}
  where
    marks : (hit miss : ℕ) → Growing → Growing
    marks hit miss g = record g { nodes = Mark q (x false) miss ∷ Mark q (x true) hit ∷ g.nodes }

test_if_orders : (c : Option Exp) (turn : ℕ) (q : Pos) → TestOrders (test_or_true c turn q)
test_if_orders None turn q = record { by = λ hit miss g ord h m. record { ordered = (h, ord); below = omega arith; longer = omega arith } }
test_if_orders (Some e) turn q = tests_order e turn q what.Loop

drop_orders : (e : Exp) (turn : ℕ) → ThenOrders (dropped (unroll e turn))
drop_orders e turn = record {
  by = λ next g ord h. longer_trans g (fresh 1 g).1 _ (omega arith)
      ((expression_orders e turn).by (Into Value g.temps next) (fresh 1 g).1 ord h);
}

drop_if_orders : (e : Option Exp) (turn : ℕ) → ThenOrders (dropped_if e turn)
drop_if_orders None turn = record { by = λ next g ord h. placed_itself next g ord h }
drop_if_orders (Some e) turn = drop_orders e turn

-- a node that reads a kept value, and the value
behind_node : (n : Node) (m : Part) (want : Want) (x : ℕ) (g : Growing) → Orders m → Ordered (n ∷ g.nodes)
    → Placed g (m (Into want x (length g.nodes)) (put n g).1)
behind_node n m want x g o ord =
    longer_trans g (put n g).1 _ (omega arith) (o.by (Into want x (length g.nodes)) (put n g).1 ord (omega arith))

set_hard : (c : Bool) (n : ℕ) (e : Exp) (m : Part) (x next : ℕ) (g : Growing) → Orders m → Ordered g.nodes → next < length g.nodes
    → Placed g ((if c then (put (Set n (Temp x (type_of e)) next) >>= λ at. m (Into Value x at)) else
    (put (Set n (TempPlace x (type_of e)) next) >>= λ at. m (Into Place' x at))) g)
set_hard true n e m x next g o ord h = behind_node (Set n (Temp x (type_of e)) next) m Value x g o (h, ord)
set_hard false n e m x next g o ord h = behind_node (Set n (TempPlace x (type_of e)) next) m Place' x g o (h, ord)

set_orders : (c : Bool) (n : ℕ) (e : Exp) (m : Part) → Orders m
    → ThenOrders (λ next. if c then put (Set n e next) else
    (fresh 1 >>= λ x. if is_scalar (type_of e) then (put (Set n (Temp x (type_of e)) next) >>= λ at. m (Into Value x at)) else
    (put (Set n (TempPlace x (type_of e)) next) >>= λ at. m (Into Place' x at))))
set_orders true n e m o = record { by = λ next g ord h. record { ordered = (h, ord); below = omega arith; longer = omega arith } }
set_orders false n e m o = record {
  by = λ next g ord h. longer_trans g (fresh 1 g).1 _ (omega arith)
      (set_hard (is_scalar (type_of e)) n e m g.temps next (fresh 1 g).1 o ord h);
}

cells_hard : (c : Bool) (n : ℕ) (e : Exp) (m : Part) (x next : ℕ) (g : Growing) → Orders m → Ordered g.nodes → next < length g.nodes
    → Placed g ((if c then (put (KeepCells n (Temp x (type_of e)) next) >>= λ at. m (Into Value x at)) else
    (put (KeepCells n (TempPlace x (type_of e)) next) >>= λ at. m (Into Place' x at))) g)
cells_hard true n e m x next g o ord h = behind_node (KeepCells n (Temp x (type_of e)) next) m Value x g o (h, ord)
cells_hard false n e m x next g o ord h = behind_node (KeepCells n (TempPlace x (type_of e)) next) m Place' x g o (h, ord)

cells_order : (c : Bool) (n : ℕ) (e : Exp) (m : Part) → Orders m
    → ThenOrders (λ next. if c then put (KeepCells n e next) else
    (fresh 1 >>= λ x. if is_scalar (type_of e) then (put (KeepCells n (Temp x (type_of e)) next) >>= λ at. m (Into Value x at)) else
    (put (KeepCells n (TempPlace x (type_of e)) next) >>= λ at. m (Into Place' x at))))
cells_order true n e m o = record { by = λ next g ord h. record { ordered = (h, ord); below = omega arith; longer = omega arith } }
cells_order false n e m o = record {
  by = λ next g ord h. longer_trans g (fresh 1 g).1 _ (omega arith)
      (cells_hard (is_scalar (type_of e)) n e m g.temps next (fresh 1 g).1 o ord h);
}

-- one step in front of another
then_orders : (first second : (next : ℕ) → Build ℕ) → ThenOrders first → ThenOrders second → ThenOrders (λ next. second next >>= first)
then_orders first second a b = record {
  by = λ next g ord h.
      longer_trans g (second next g).1 _ (b.by next g ord h).longer
      (a.by (second next g).0 (second next g).1 (b.by next g ord h).ordered (b.by next g ord h).below);
}

all_cells_order : (xs : List Given) (turn n : ℕ) → ThenOrders (λ next. all_kept xs turn n next)
all_cells_order [] turn n = record { by = λ next g ord h. placed_itself next g ord h }
all_cells_order (x ∷ xs) turn n =
    then_orders (λ at. cells_kept n x.value (unroll x.value turn) at) (λ next. all_kept xs turn (n + 1) next)
    (cells_order (easy x.value) n x.value (unroll x.value turn) (expression_orders x.value turn)) (all_cells_order xs turn (n + 1))

fill_orders : (n : ℕ) (xs : List Given) (turn : ℕ) → ThenOrders (filled_by n xs turn)
fill_orders n xs turn = record {
  by = λ next g ord h.
      longer_trans g (behind next g) _ (omega arith)
      ((all_cells_order xs turn g.slots).by (length g.nodes) (behind next g) (h, ord) (omega arith));
}
  where
    behind : (next : ℕ) → Growing → Growing
    behind next g = record { nodes = Fill n xs (numbers g.slots (length xs)) next ∷ g.nodes; temps = g.temps; slots = g.slots + length xs }

itself_orders : ThenOrders (λ next. pure next)
itself_orders = record { by = λ next g ord h. placed_itself next g ord h }

initial_orders : (n : ℕ) (x : Init) (turn : ℕ) → ThenOrders (initialised n x turn)
initial_orders n NoInit turn = itself_orders
initial_orders n (One e) turn = set_orders (easy e) n e (unroll e turn) (expression_orders e turn)
initial_orders n (Braces xs) turn = fill_orders n xs turn

declared_orders : (d : Declared) (x : Init) (turn : ℕ) → ThenOrders (declared_by d x turn)
declared_orders (declared.Local n) x turn = initial_orders n x turn
declared_orders (declared.Global n) x turn = itself_orders
declared_orders declared.Function x turn = itself_orders

declarators_order : (ds : List Dec) (turn : ℕ) → ThenOrders (declarators ds turn)
declarators_order [] turn = itself_orders
declarators_order (d ∷ ds) turn =
    then_orders (λ at. declared_by d.declared d.init turn at) (λ next. declarators ds turn next)
    (declared_orders d.declared d.init turn) (declarators_order ds turn)

start_orders : (f : Start) (turn : ℕ) → ThenOrders (started f turn)
start_orders NoStart turn = itself_orders
start_orders (Begin e) turn = drop_orders e turn
start_orders (Declare ds) turn = declarators_order ds turn

-- Statements.
pub record TargetsIn (m : ℕ) (k : Targets) : Type 0 where
  pub next : k.next < m
  pub leave : k.leave < m
  pub again : k.again < m
  pub label : (n : NameId) → look n k.labels k.lost < m

in_more : {m n : ℕ} {k : Targets} → m ≤ n → TargetsIn m k → TargetsIn n k
in_more h t = record {
  next = omega (arith, h, t.next);
  leave = omega (arith, h, t.leave);
  again = omega (arith, h, t.again);
  label = λ l. omega (arith, h, t.label l);
}

in_loop_in : {m : ℕ} {k : Targets} (at : ℕ) → at < m → TargetsIn m k → TargetsIn m (in_loop k at)
in_loop_in at h t = record { next = h; leave = t.next; again = h; label = t.label }

pub record PieceOrders (m : Piece) : Type 0 where
  pub by : (k : Targets) (g : Growing) → Ordered g.nodes → TargetsIn (length g.nodes) k → Placed g (m k g)

last_orders : (test : (hit miss : ℕ) → Build ℕ) → TestOrders test → PieceOrders (last_turn test)
last_orders test o = record {
  by = λ k g ord t.
      longer_trans g (put (SetAside reason.Depth) g).1 _ (omega arith)
      (o.by (length g.nodes) k.next (put (SetAside reason.Depth) g).1 (tt, ord) (omega arith) (omega (arith, t.next)));
}

while_orders : (test : (hit miss : ℕ) → Build ℕ) (body rest : Piece) → TestOrders test → PieceOrders body → PieceOrders rest
    → PieceOrders (while_turn test body rest)
while_orders test body rest ot ob or' = record {
  by = λ k g ord t.
      longer_trans g (begins k g).1 _ (omega (arith, (or'.by k g ord t).longer, (placed k g ord t).longer))
      (ot.by (begins k g).0 k.next (begins k g).1 (placed k g ord t).ordered (placed k g ord t).below
      (omega (arith, t.next, (or'.by k g ord t).longer, (placed k g ord t).longer)));
}
  where
    begins : Targets → Build ℕ
    begins k g = body (in_loop k (rest k g).0) (rest k g).1

    placed : (k : Targets) (g : Growing) → Ordered g.nodes → TargetsIn (length g.nodes) k → Placed (rest k g).1 (begins k g)
    placed k g ord t =
        ob.by (in_loop k (rest k g).0) (rest k g).1 (or'.by k g ord t).ordered
        (in_loop_in (rest k g).0 (or'.by k g ord t).below (in_more (or'.by k g ord t).longer t))

turns_order : (left t : ℕ) (test : ℕ → (hit miss : ℕ) → Build ℕ) (body : ℕ → Piece)
    → ((t : ℕ) → TestOrders (test t)) → ((t : ℕ) → PieceOrders (body t)) → PieceOrders (while_turns left t test body)
turns_order zero t test body ot ob = last_orders (test t) (ot t)
turns_order (suc more) t test body ot ob =
    while_orders (test t) (body t) (while_turns more (t + 1) test body) (ot t) (ob t)
    (turns_order more (t + 1) test body ot ob)

do_orders : (test : (hit miss : ℕ) → Build ℕ) (body rest : Piece) → TestOrders test → PieceOrders body → PieceOrders rest
    → PieceOrders (do_turn test body rest)
do_orders test body rest ot ob or' = record {
  by = λ k g ord t.
      longer_trans g (tests k g).1 _ (omega (arith, (or'.by k g ord t).longer, (placed k g ord t).longer))
      (ob.by (in_loop k (tests k g).0) (tests k g).1 (placed k g ord t).ordered
      (in_loop_in (tests k g).0 (placed k g ord t).below
      (in_more (omega (arith, (or'.by k g ord t).longer, (placed k g ord t).longer)) t)));
}
  where
    tests : Targets → Build ℕ
    tests k g = test (rest k g).0 k.next (rest k g).1

    placed : (k : Targets) (g : Growing) → Ordered g.nodes → TargetsIn (length g.nodes) k → Placed (rest k g).1 (tests k g)
    placed k g ord t =
        ot.by (rest k g).0 k.next (rest k g).1 (or'.by k g ord t).ordered (or'.by k g ord t).below
        (omega (arith, t.next, (or'.by k g ord t).longer))

do_turns_order : (left t : ℕ) (test : ℕ → (hit miss : ℕ) → Build ℕ) (body : ℕ → Piece)
    → ((t : ℕ) → TestOrders (test t)) → ((t : ℕ) → PieceOrders (body t)) → PieceOrders (do_turns left t test body)
do_turns_order zero t test body ot ob =
    record { by = λ k g ord t. record { ordered = (tt, ord); below = omega arith; longer = omega arith } }
do_turns_order (suc more) t test body ot ob =
    do_orders (test t) (body t) (do_turns more (t + 1) test body) (ot t) (ob t)
    (do_turns_order more (t + 1) test body ot ob)

step_orders : (body : Piece) (step : (next : ℕ) → Build ℕ) → PieceOrders body → ThenOrders step → PieceOrders (with_step body step)
step_orders body step ob os = record {
  by = λ k g ord t.
      longer_trans g (step k.next g).1 _ (os.by k.next g ord t.next).longer
      (ob.by (record k { next = (step k.next g).0; again = (step k.next g).0 }) (step k.next g).1 (os.by k.next g ord t.next).ordered
      (record {
        next = (os.by k.next g ord t.next).below;
        leave = omega (arith, t.leave, (os.by k.next g ord t.next).longer);
        again = (os.by k.next g ord t.next).below;
        label = λ l. omega (arith, t.label l, (os.by k.next g ord t.next).longer);
      }));
}

-- Blocks.
abbrev pub CasesIn : ℕ → List Chosen → Type 0
CasesIn m [] = Unit {0}
CasesIn m (c ∷ cs) = (c.at < m) × CasesIn m cs

cases_more : {m n : ℕ} (cs : List Chosen) → m ≤ n → CasesIn m cs → CasesIn n cs
cases_more [] h x = tt
cases_more (c ∷ cs) h x = (omega (arith, h, x.0), cases_more cs h x.1)

pub record PlacedBlock (g : Growing) (k : Targets) (r : Opened × Growing) : Type 0 where
  pub ordered : Ordered r.1.nodes
  pub below : r.0.at < length r.1.nodes
  pub longer : length g.nodes ≤ length r.1.nodes
  pub label : (n : NameId) → look n r.0.labels k.lost < length r.1.nodes
  pub cases : CasesIn (length r.1.nodes) r.0.cases
  pub default : (other : ℕ) → other < length r.1.nodes → node_or other r.0.default < length r.1.nodes

pub record BlockOrders (m : Targets → Build Opened) : Type 0 where
  pub by : (k : Targets) (g : Growing) → Ordered g.nodes → TargetsIn (length g.nodes) k → PlacedBlock g k (m k g)

one_below : (c : Bool) (at other m : ℕ) → at < m → other < m → (if c then at else other) < m
one_below true at other m h l = h
one_below false at other m h l = l

cases_of_in : (x : Stm) (at m : ℕ) (cs : List Chosen) → at < m → CasesIn m cs → CasesIn m (cases_of x at cs)
cases_of_in (Block ss end) at m cs h x = x
cases_of_in (Decl ds) at m cs h x = x
cases_of_in (Evaluate e) at m cs h x = x
cases_of_in (If q e y) at m cs h x = x
cases_of_in (IfElse q e y z) at m cs h x = x
cases_of_in (While q e y) at m cs h x = x
cases_of_in (Do q y e) at m cs h x = x
cases_of_in (For q f c n y) at m cs h x = x
cases_of_in (Switch q e ss) at m cs h x = x
cases_of_in (Case n e) at m cs h x = (h, x)
cases_of_in Default at m cs h x = x
cases_of_in (Goto q n) at m cs h x = x
cases_of_in Break at m cs h x = x
cases_of_in Continue at m cs h x = x
cases_of_in (Return q e) at m cs h x = x
cases_of_in (Label n y) at m cs h x = x

default_below : (d : Option ℕ) (other m n : ℕ) → other < n → m ≤ n → ((other : ℕ) → other < m → node_or other d < m)
    → 0 < m → node_or other d < n
default_below None other m n h l f p = h
default_below (Some at) other m n h l f p = omega (arith, l, f 0 p)

item_orders : (x : Stm) (part : Piece) (items : Targets → Build Opened) → PieceOrders part → BlockOrders items
    → BlockOrders (λ k g. item x part (items k g).0 k (items k g).1)
item_orders x part items op ob = record {
  by = λ k g ord t. record {
    ordered = (placed k g ord t).ordered;
    below = (placed k g ord t).below;
    longer = omega (arith, (ob.by k g ord t).longer, (placed k g ord t).longer);
    label = λ n.
        subst (λ at. at < length (begins k g).1.nodes) (sym (look_labels n x (begins k g).0 k.lost (items k g).0.labels))
        (one_below (has_label n x) (begins k g).0 (look n (items k g).0.labels k.lost) (length (begins k g).1.nodes)
        (placed k g ord t).below
        (omega (arith, (ob.by k g ord t).label n, (placed k g ord t).longer)));
    cases = cases_of_in x (begins k g).0 (length (begins k g).1.nodes) (items k g).0.cases (placed k g ord t).below
        (cases_more (items k g).0.cases (placed k g ord t).longer (ob.by k g ord t).cases);
    default = λ other h. defaults k g ord t other h;
  };
}
  where
    targets : Targets → Growing → Targets
    targets k g = record k { next = (items k g).0.at; labels = (items k g).0.labels }

    begins : Targets → Build ℕ
    begins k g = part (targets k g) (items k g).1

    placed : (k : Targets) (g : Growing) → Ordered g.nodes → TargetsIn (length g.nodes) k → Placed (items k g).1 (begins k g)
    placed k g ord t =
        op.by (targets k g) (items k g).1 (ob.by k g ord t).ordered
        (record {
          next = (ob.by k g ord t).below;
          leave = omega (arith, t.leave, (ob.by k g ord t).longer);
          again = omega (arith, t.again, (ob.by k g ord t).longer);
          label = (ob.by k g ord t).label;
        })

    defaults : (k : Targets) (g : Growing) → Ordered g.nodes → TargetsIn (length g.nodes) k → (other : ℕ)
        → other < length (begins k g).1.nodes
        → node_or other (default_of x (begins k g).0 (items k g).0.default) < length (begins k g).1.nodes
    defaults k g ord t other h =
        subst (λ at. at < length (begins k g).1.nodes) (sym (default_node x (begins k g).0 other (items k g).0.default))
        (one_below (is_default x) (begins k g).0 (node_or other (items k g).0.default) (length (begins k g).1.nodes)
        (placed k g ord t).below
        (default_below (items k g).0.default other (length (items k g).1.nodes) (length (begins k g).1.nodes) h
        (placed k g ord t).longer (ob.by k g ord t).default (omega (arith, (ob.by k g ord t).below))))

chain_orders : (t : ℕ) (cs : List Chosen) (other : ℕ) (g : Growing) → Ordered g.nodes → CasesIn (length g.nodes) cs → other < length g.nodes
    → Placed g (chain t cs other g)
chain_orders t [] other g ord cases h = placed_itself other g ord h
chain_orders t (c ∷ cs) other g ord cases h =
    record {
      ordered = (
        (omega (arith, cases.0, (chain_orders t cs other g ord cases.1 h).longer), (chain_orders t cs other g ord cases.1 h).below),
        (chain_orders t cs other g ord cases.1 h).ordered,
      );
      below = omega arith;
      longer = omega (arith, (chain_orders t cs other g ord cases.1 h).longer);
    }

switch_orders : (e : Exp) (turn : ℕ) (q : Pos) (items : Targets → Build Opened) → BlockOrders items → PieceOrders
    (switched (unroll e turn) q e items)
switch_orders e turn q items o = record {
  by = λ k g ord t.
      longer_trans g (marked k g) _ (omega (arith, (block k g ord t).longer, (placed k g ord t).longer))
      ((expression_orders e turn).by (Into Value (temp_of k g) (length (first k g).1.nodes)) (marked k g)
      ((placed k g ord t).below, (placed k g ord t).ordered) (omega arith));
}
  where
    inner : Targets → Targets
    inner k = record k { leave = k.next }

    temp_of : Targets → Growing → ℕ
    temp_of k g = (items (inner k) g).1.temps

    other : Targets → Growing → ℕ
    other k g = node_or k.next (items (inner k) g).0.default

    first : Targets → Growing → ℕ × Growing
    first k g = chain (temp_of k g) (items (inner k) g).0.cases (other k g) (fresh 1 (items (inner k) g).1).1

    marked : Targets → Growing → Growing
    marked k g = (put (MarkSwitch q (type_of e) (temp_of k g) (first k g).0) (first k g).1).1

    block : (k : Targets) (g : Growing) → Ordered g.nodes → TargetsIn (length g.nodes) k → PlacedBlock g (inner k) (items (inner k) g)
    block k g ord t = o.by (inner k) g ord (record { next = t.next; leave = t.next; again = t.again; label = t.label })

    placed : (k : Targets) (g : Growing) → Ordered g.nodes → TargetsIn (length g.nodes) k → Placed (items (inner k) g).1 (first k g)
    placed k g ord t =
        longer_trans (items (inner k) g).1 (fresh 1 (items (inner k) g).1).1 _ (omega arith)
        (chain_orders (temp_of k g) (items (inner k) g).0.cases (other k g) (fresh 1 (items (inner k) g).1).1
        (block k g ord t).ordered (block k g ord t).cases
        ((block k g ord t).default k.next (omega (arith, t.next, (block k g ord t).longer))))

return_orders : (e : Option Exp) (turn : ℕ) (q : Pos) → PieceOrders (λ k. returning e turn q)
return_orders None turn q =
    record {
      by = λ k g ord t. record {
        ordered =
            (omega arith, (tt, ord));
        below = omega arith;
        longer = omega arith;
      };
    }
return_orders (Some e) turn q = record {
  by = λ k g ord t.
      longer_trans g (out g) _ (omega arith)
      ((expression_orders e turn).by (Into Value g.temps (suc (length g.nodes))) (out g) (omega arith, (tt, ord)) (omega arith));
}
  where
    out : Growing → Growing
    out g = record { nodes = Mark q what.Return (length g.nodes) ∷ Exit (Some g.temps) ∷ g.nodes; temps = g.temps + 1; slots = g.slots }

if_orders : (q : Pos) (e : Exp) (turn : ℕ) (part : Piece) → PieceOrders part
    → PieceOrders (λ k g. tested (unroll e turn) q what.If (part k g).0 k.next (part k g).1)
if_orders q e turn part o = record {
  by = λ k g ord t.
      longer_trans g (part k g).1 _ (o.by k g ord t).longer
      ((tests_order e turn q what.If).by (part k g).0 k.next (part k g).1 (o.by k g ord t).ordered (o.by k g ord t).below
      (omega (arith, t.next, (o.by k g ord t).longer)));
}

if_else_orders : (q : Pos) (e : Exp) (turn : ℕ) (hit miss : Piece) → PieceOrders hit → PieceOrders miss
    → PieceOrders (λ k g. tested (unroll e turn) q what.If (hit k g).0 (miss k (hit k g).1).0 (miss k (hit k g).1).1)
if_else_orders q e turn hit miss oh om = record {
  by = λ k g ord t.
      longer_trans g (miss k (hit k g).1).1 _ (omega (arith, (oh.by k g ord t).longer, (second k g ord t).longer))
      ((tests_order e turn q what.If).by (hit k g).0 (miss k (hit k g).1).0 (miss k (hit k g).1).1 (second k g ord t).ordered
      (omega (arith, (oh.by k g ord t).below, (second k g ord t).longer)) (second k g ord t).below);
}
  where
    second : (k : Targets) (g : Growing) → Ordered g.nodes → TargetsIn (length g.nodes) k → Placed (hit k g).1 (miss k (hit k g).1)
    second k g ord t = om.by k (hit k g).1 (oh.by k g ord t).ordered (in_more (oh.by k g ord t).longer t)

then_piece : (m : (next : ℕ) → Build ℕ) → ThenOrders m → PieceOrders (λ k. m k.next)
then_piece m o = record { by = λ k g ord t. o.by k.next g ord t.next }

for_orders : (loop : Piece) (start : (next : ℕ) → Build ℕ) → PieceOrders loop → ThenOrders start → PieceOrders (λ k. loop k >>= start)
for_orders loop start ol os = record {
  by = λ k g ord t.
      longer_trans g (loop k g).1 _ (ol.by k g ord t).longer
      (os.by (loop k g).0 (loop k g).1 (ol.by k g ord t).ordered (ol.by k g ord t).below);
}

module _ (depth : ℕ) where
  mutual
    pub statement_orders : (x : Stm) (turn : ℕ) → PieceOrders (unroll_stm depth x turn)
    statement_orders (Block xs end) turn = record {
      by = λ k g ord t. record {
        ordered = ((block_orders xs turn).by k g ord t).ordered;
        below = ((block_orders xs turn).by k g ord t).below;
        longer = ((block_orders xs turn).by k g ord t).longer;
      };
    }
    statement_orders (Decl ds) turn = then_piece (declarators ds turn) (declarators_order ds turn)
    statement_orders (Evaluate e) turn = then_piece (dropped_if e turn) (drop_if_orders e turn)
    statement_orders (If q e x) turn = if_orders q e turn (unroll_stm depth x turn) (statement_orders x turn)
    statement_orders (IfElse q e x y) turn =
        if_else_orders q e turn (unroll_stm depth x turn) (unroll_stm depth y turn) (statement_orders x turn)
        (statement_orders y turn)
    statement_orders (While q e x) turn =
        turns_order depth 0 (λ t. tested (unroll e (turn_of turn (depth + 1) t)) q what.Loop)
        (λ t. unroll_stm depth x (turn_of turn depth t))
        (λ t. tests_order e (turn_of turn (depth + 1) t) q what.Loop) (λ t. statement_orders x (turn_of turn depth t))
    statement_orders (Do q x e) turn =
        do_turns_order depth 0 (λ t. tested (unroll e (turn_of turn depth t)) q what.Loop) (λ t. unroll_stm depth x (turn_of turn depth t))
        (λ t. tests_order e (turn_of turn depth t) q what.Loop) (λ t. statement_orders x (turn_of turn depth t))
    statement_orders (For q f c n x) turn =
        for_orders
        (while_turns depth 0 (λ t. test_or_true c (turn_of turn (depth + 1) t) q)
        (λ t. with_step (unroll_stm depth x (turn_of turn depth t)) (dropped_if n (turn_of turn depth t))))
        (started f turn)
        (turns_order depth 0 (λ t. test_or_true c (turn_of turn (depth + 1) t) q)
        (λ t. with_step (unroll_stm depth x (turn_of turn depth t)) (dropped_if n (turn_of turn depth t)))
        (λ t. test_if_orders c (turn_of turn (depth + 1) t) q)
        (λ t. step_orders (unroll_stm depth x (turn_of turn depth t)) (dropped_if n (turn_of turn depth t))
        (statement_orders x (turn_of turn depth t))
        (drop_if_orders n (turn_of turn depth t))))
        (start_orders f turn)
    statement_orders (Switch q e xs) turn = switch_orders e turn q (unroll_stms depth xs turn) (block_orders xs turn)
    statement_orders (Case n e) turn = record { by = λ k g ord t. placed_itself k.next g ord t.next }
    statement_orders Default turn = record { by = λ k g ord t. placed_itself k.next g ord t.next }
    statement_orders (Goto q n) turn =
        record { by = λ k g ord t. record { ordered = (t.label n, ord); below = omega arith; longer = omega arith } }
    statement_orders Break turn = record { by = λ k g ord t. placed_itself k.leave g ord t.leave }
    statement_orders Continue turn = record { by = λ k g ord t. placed_itself k.again g ord t.again }
    statement_orders (Return q e) turn = return_orders e turn q
    statement_orders (Label n x) turn = statement_orders x turn

    pub block_orders : (xs : Stms) (turn : ℕ) → BlockOrders (unroll_stms depth xs turn)
    block_orders NoStms turn = record {
      by = λ k g ord t. record {
        ordered = ord;
        below = t.next;
        longer = omega arith;
        label = t.label;
        cases = tt;
        default = λ other h. h;
      };
    }
    block_orders (Stms' x xs) turn =
        item_orders x (unroll_stm depth x turn) (unroll_stms depth xs turn) (statement_orders x turn)
        (block_orders xs turn)
