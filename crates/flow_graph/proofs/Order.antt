-- Each node goes on at older ones: of the shapes of expressions.
use Rattle.std.proofs.Common.{ℕ, ◌+◌, ◌≤◌, ◌<◌, Bool, true, false, List, [], ◌∷◌, length, arith}
use Rattle.std.specs.Prelude.{Option, Some, None, if◌then◌else◌}
use Rattle.sc_tree.specs.declared.op.BinaryOp.{BinaryOp}
use Rattle.sc_tree.specs.declared.op.BinaryOp.TheVariants as op
use Rattle.sc_tree.specs.declared.op.UnaryOp.{UnaryOp}
use Rattle.sc_tree.specs.declared.op.UnaryOp.TheVariants as sign
use Rattle.sc_tree.specs.declared.expr.Place.{Place}
use Rattle.sc_world.specs.Tree.{Ty, is_array, Exp, Comma, Assign, Cond, Binary, Cast, Unary, PreInc, PostInc, SizeofExpr, SizeofType, Index, Call, Field, Param, Local, Global, Function, Number, Str, Convert, Temp, TempPlace, Exps, NoExps, Exps', type_of}
use Rattle.sc_world.specs.Eval.{Want, Value, Place', is_name, is_logical}
use Rattle.flow_graph.specs.Nodes.{Node, Keep, KeepCells, CallOf, Update, Updating, Set, Fill, Branch, Choose, Mark, MarkSwitch, Exit, SetAside}
use Rattle.flow_graph.specs.Growing.{Growing, Build, put, fresh, numbers}
use Rattle.flow_graph.specs.Expressions.{Aim, Into, Test, Part, Goal, goal, kept, plainly, one, two, comma, conditional, Sides, sides, first_test, logical, updating, address, assigning, binary, converted, unary, indexed, called, count, nothing, as_scalar, unroll, unroll_all, easy, is_scalar}

-- whether a node goes on at nodes below a number
abbrev pub IsBelow : ℕ → Node → Type 0
IsBelow m (Keep want t e next) = next < m
IsBelow m (KeepCells n e next) = next < m
IsBelow m (CallOf c args t next) = next < m
IsBelow m (Update u want at old right t next) = next < m
IsBelow m (Set n e next) = next < m
IsBelow m (Fill n xs slots next) = next < m
IsBelow m (Branch t hit miss) = (hit < m) × (miss < m)
IsBelow m (Choose t n hit miss) = (hit < m) × (miss < m)
IsBelow m (Mark q x next) = next < m
IsBelow m (MarkSwitch q t from next) = next < m
IsBelow m (Exit from) = Unit {0}
IsBelow m (SetAside r) = Unit {0}

abbrev pub Ordered : List Node → Type 0
Ordered [] = Unit {0}
Ordered (n ∷ ns) = IsBelow (length ns) n × Ordered ns

-- what a step gives: a node of an ordered graph that has not fewer nodes
pub record Placed (g : Growing) (r : ℕ × Growing) : Type 0 where
  pub ordered : Ordered r.1.nodes
  pub below : r.0 < length r.1.nodes
  pub longer : length g.nodes ≤ length r.1.nodes

abbrev pub AimIn : ℕ → Aim → Type 0
AimIn m (Into want t next) = next < m
AimIn m (Test hit miss) = (hit < m) × (miss < m)

pub record Orders (m : Part) : Type 0 where
  pub by : (aim : Aim) (g : Growing) → Ordered g.nodes → AimIn (length g.nodes) aim → Placed g (m aim g)

pub record OrdersGoal (m : Goal → Build ℕ) : Type 0 where
  pub by : (k : Goal) (g : Growing) → Ordered g.nodes → k.next < length g.nodes → Placed g (m k g)

pub longer_trans : (f g : Growing) (r : ℕ × Growing) → length f.nodes ≤ length g.nodes → Placed g r → Placed f r
longer_trans f g r h x = record { ordered = x.ordered; below = x.below; longer = omega (arith, h, x.longer) }

pub orders_goal : (m : Goal → Build ℕ) → OrdersGoal m → Orders (λ aim g. m (goal aim g).0 (goal aim g).1)
orders_goal m o = record { by = by }
  where
    by : (aim : Aim) (g : Growing) → Ordered g.nodes → AimIn (length g.nodes) aim → Placed g (m (goal aim g).0 (goal aim g).1)
    by (Into want t next) g ord a = o.by (record { want = want; temp = t; next = next }) g ord a
    by (Test hit miss) g ord a =
        longer_trans g (record { nodes = Branch g.temps hit miss ∷ g.nodes; temps = g.temps + 1; slots = g.slots }) _ (omega arith)
        (o.by (record { want = Value; temp = g.temps; next = length g.nodes })
        (record { nodes = Branch g.temps hit miss ∷ g.nodes; temps = g.temps + 1; slots = g.slots }) (a, ord) (omega arith))

pub kept_orders : (e : Exp) → Orders (kept e)
kept_orders e = orders_goal (λ k. put (Keep k.want k.temp e k.next))
    (record { by = λ k g ord h. record { ordered = (h, ord); below = omega arith; longer = omega arith } })

pub plainly_orders : (e : Exp) (hard : Part) → Orders hard → Orders (plainly e hard)
plainly_orders e hard o = chosen (easy e)
  where
    chosen : (c : Bool) → Orders (λ aim. if c then kept e aim else hard aim)
    chosen true = kept_orders e
    chosen false = o

pub one_orders : (want : Want) (a : Part) (whole : ℕ → Exp) → Orders a → Orders (one want a whole)
one_orders want a whole o = orders_goal (λ k g. a (Into want g.temps (length g.nodes)) (behind k g))
    (record {
      by = λ k g ord h. longer_trans g (behind k g) _ (omega arith)
          (o.by (Into want g.temps (length g.nodes)) (behind k g) (h, ord) (omega arith));
    })
  where
    behind : Goal → Growing → Growing
    behind k g = record { nodes = Keep k.want k.temp (whole g.temps) k.next ∷ g.nodes; temps = g.temps + 1; slots = g.slots }

pub two_orders : (left : Want) (a : Part) (right : Want) (b : Part) (whole : ℕ → ℕ → Exp) → Orders a → Orders b → Orders
    (two left a right b whole)
two_orders left a right b whole oa ob = orders_goal (λ k g. a (Into left g.temps (second k g).0) (second k g).1)
    (record {
      by = λ k g ord h.
          longer_trans g (second k g).1 _ (omega (arith, (placed k g ord h).longer))
          (oa.by (Into left g.temps (second k g).0) (second k g).1 (placed k g ord h).ordered (placed k g ord h).below);
    })
  where
    behind : Goal → Growing → Growing
    behind k g = record {
      nodes = Keep k.want k.temp
          (whole g.temps (g.temps + 1)) k.next ∷ g.nodes;
      temps = g.temps + 1 + 1;
      slots = g.slots;
    }

    second : Goal → Build ℕ
    second k g = b (Into right (g.temps + 1) (length g.nodes)) (behind k g)

    placed : (k : Goal) (g : Growing) → Ordered g.nodes → k.next < length g.nodes → Placed g (second k g)
    placed k g ord h =
        longer_trans g (behind k g) _ (omega arith)
        (ob.by (Into right (g.temps + 1) (length g.nodes)) (behind k g) (h, ord) (omega arith))

pub updating_orders : (u : Updating) (l r : Part) → Orders l → Orders r → Orders (updating u l r)
updating_orders u l r ol or' = orders_goal (λ k g. l (Into Place' g.temps (length (right k g).1.nodes)) (old k g))
    (record {
      by = λ k g ord h.
          longer_trans g (old k g) _ (omega (arith, (placed k g ord h).longer))
          (ol.by (Into Place' g.temps (length (right k g).1.nodes)) (old k g)
          ((placed k g ord h).below, (placed k g ord h).ordered) (omega arith));
    })
  where
    behind : Goal → Growing → Growing
    behind k g =
        record {
          nodes = Update u k.want g.temps (g.temps + 1) (g.temps + 1 + 1) k.temp k.next ∷ g.nodes;
          temps = g.temps + 1 + 1 + 1;
          slots = g.slots;
        }

    right : Goal → Build ℕ
    right k g = r (Into Value (g.temps + 1 + 1) (length g.nodes)) (behind k g)

    old : Goal → Growing → Growing
    old k g = (put (Keep Value (g.temps + 1) (TempPlace g.temps (as_scalar u.ctype)) (right k g).0) (right k g).1).1

    placed : (k : Goal) (g : Growing) → Ordered g.nodes → k.next < length g.nodes → Placed g (right k g)
    placed k g ord h =
        longer_trans g (behind k g) _ (omega arith)
        (or'.by (Into Value (g.temps + 1 + 1) (length g.nodes)) (behind k g) (h, ord) (omega arith))

pub address_orders : (a : Part) → Orders a → Orders (address a)
address_orders a o =
    orders_goal (λ k g. a (Into Place' k.temp k.next) g)
    (record { by = λ k g ord h. o.by (Into Place' k.temp k.next) g ord h })

pub comma_orders : (a b : Part) → Orders a → Orders b → Orders (comma a b)
comma_orders a b oa ob = record {
  by = λ aim g ord h.
      longer_trans g (b aim g).1 _ (ob.by aim g ord h).longer
      (longer_trans (b aim g).1 (fresh 1 (b aim g).1).1 _ (omega arith)
      (oa.by (Into Value (b aim g).1.temps (b aim g).0) (fresh 1 (b aim g).1).1 (ob.by aim g ord h).ordered (ob.by aim g ord h).below));
}

pub aim_longer : (aim : Aim) (m n : ℕ) → m ≤ n → AimIn m aim → AimIn n aim
aim_longer (Into want t next) m n h a = omega (arith, h, a)
aim_longer (Test hit miss) m n h a = (omega (arith, h, a.0), omega (arith, h, a.1))

pub conditional_orders : (c a b : Part) → Orders c → Orders a → Orders b → Orders (conditional c a b)
conditional_orders c a b oc oa ob = record {
  by = λ aim g ord h.
      longer_trans g (miss aim g).1 _ (omega (arith, (oa.by aim g ord h).longer, (second aim g ord h).longer))
      (oc.by (Test (a aim g).0 (miss aim g).0) (miss aim g).1 (second aim g ord h).ordered
      (omega (arith, (oa.by aim g ord h).below, (second aim g ord h).longer), (second aim g ord h).below));
}
  where
    miss : Aim → Build ℕ
    miss aim g = b aim (a aim g).1

    second : (aim : Aim) (g : Growing) → Ordered g.nodes → AimIn (length g.nodes) aim → Placed (a aim g).1 (miss aim g)
    second aim g ord h =
        ob.by aim (a aim g).1 (oa.by aim g ord h).ordered
        (aim_longer aim (length g.nodes) (length (a aim g).1.nodes) (oa.by aim g ord h).longer h)

-- where `&&` and `||` go on
record PlacedSides (g : Growing) (r : Sides × Growing) : Type 0 where
  ordered : Ordered r.1.nodes
  hit : r.0.hit < length r.1.nodes
  miss : r.0.miss < length r.1.nodes
  longer : length g.nodes ≤ length r.1.nodes

sides_order : (t : Ty) (aim : Aim) (g : Growing) → Ordered g.nodes → AimIn (length g.nodes) aim → PlacedSides g (sides t aim g)
sides_order t (Into want x next) g ord h = record {
  ordered = (omega (arith, h), (h, ord));
  hit = omega arith;
  miss = omega arith;
  longer = omega arith;
}
sides_order t (Test hit miss) g ord h = record { ordered = ord; hit = h.0; miss = h.1; longer = omega arith }

first_in : (o : BinaryOp) (second : ℕ) (c : Sides) (m : ℕ) → second < m → c.hit < m → c.miss < m → AimIn m (first_test o second c)
first_in op.Or second c m s h i = (h, s)
first_in op.And second c m s h i = (s, i)
first_in op.BitOr second c m s h i = (s, i)
first_in op.BitXor second c m s h i = (s, i)
first_in op.BitAnd second c m s h i = (s, i)
first_in op.Equal second c m s h i = (s, i)
first_in op.NotEqual second c m s h i = (s, i)
first_in op.Less second c m s h i = (s, i)
first_in op.Greater second c m s h i = (s, i)
first_in op.LessEqual second c m s h i = (s, i)
first_in op.GreaterEqual second c m s h i = (s, i)
first_in op.ShiftLeft second c m s h i = (s, i)
first_in op.ShiftRight second c m s h i = (s, i)
first_in op.Add second c m s h i = (s, i)
first_in op.Sub second c m s h i = (s, i)
first_in op.Mul second c m s h i = (s, i)
first_in op.Div second c m s h i = (s, i)
first_in op.Rem second c m s h i = (s, i)

pub logical_orders : (o : BinaryOp) (t : Ty) (a b : Part) → Orders a → Orders b → Orders (logical o t a b)
logical_orders o t a b oa ob = record {
  by = λ aim g ord h.
      longer_trans g (second aim g).1 _ (omega (arith, (sides_order t aim g ord h).longer, (placed aim g ord h).longer))
      (oa.by (first_test o (second aim g).0 (sides t aim g).0) (second aim g).1 (placed aim g ord h).ordered
      (first_in o (second aim g).0 (sides t aim g).0 (length (second aim g).1.nodes) (placed aim g ord h).below
      (omega (arith, (sides_order t aim g ord h).hit, (placed aim g ord h).longer))
      (omega (arith, (sides_order t aim g ord h).miss, (placed aim g ord h).longer))));
}
  where
    second : Aim → Build ℕ
    second aim g = b (Test (sides t aim g).0.hit (sides t aim g).0.miss) (sides t aim g).1

    placed : (aim : Aim) (g : Growing) → Ordered g.nodes → AimIn (length g.nodes) aim → Placed (sides t aim g).1 (second aim g)
    placed aim g ord h =
        ob.by (Test (sides t aim g).0.hit (sides t aim g).0.miss) (sides t aim g).1 (sides_order t aim g ord h).ordered
        ((sides_order t aim g ord h).hit, (sides_order t aim g ord h).miss)

-- All expressions.
set_orders : (c : Bool) (left : Want) (p q : Want) (a b : Part) (x y : ℕ → ℕ → Exp) → Orders a → Orders b
    → Orders (if c then two left a p b x else two left a q b y)
set_orders true left p q a b x y oa ob = two_orders left a p b x oa ob
set_orders false left p q a b x y oa ob = two_orders left a q b y oa ob

assign_orders : (o : Option BinaryOp) (works : Ty) (a b : Exp) (t : Ty) (l r : Part) → Orders l → Orders r → Orders
    (assigning o works a b t l r)
assign_orders None works a b t l r ol or' =
    set_orders (is_scalar t) Place' Value Place' l r
    (λ x y. Assign None works (TempPlace x (type_of a)) (Temp y (type_of b)) t)
    (λ x y. Assign None works (TempPlace x (type_of a)) (TempPlace y (type_of b)) t) ol or'
assign_orders (Some o) works a b t l r ol or' = updating_orders (record { op = o; works = works; ctype = t }) l r ol or'

binary_orders : (c : Bool) (o : BinaryOp) (t : Ty) (l r : Part) (whole : ℕ → ℕ → Exp) → Orders l → Orders r
    → Orders (if c then logical o t l r else two Value l Value r whole)
binary_orders true o t l r whole ol or' = logical_orders o t l r ol or'
binary_orders false o t l r whole ol or' = two_orders Value l Value r whole ol or'

one_or : (c : Bool) (p q : Want) (a : Part) (x y : ℕ → Exp) → Orders a → Orders (if c then one p a x else one q a y)
one_or true p q a x y o = one_orders p a x o
one_or false p q a x y o = one_orders q a y o

index_or : (c : Bool) (l r : Part) (x y : ℕ → ℕ → Exp) → Orders l → Orders r → Orders
    (if c then two Place' l Value r x else two Value l Value r y)
index_or true l r x y ol or' = two_orders Place' l Value r x ol or'
index_or false l r x y ol or' = two_orders Value l Value r y ol or'

unary_orders : (o : UnaryOp) (a : Exp) (t : Ty) (l : Part) → Orders l → Orders (unary o a t l)
unary_orders sign.Address a t l ol = address_orders l ol
unary_orders sign.Deref a t l ol = one_orders Value l (λ x. Unary sign.Deref (Temp x (type_of a)) t) ol
unary_orders sign.Plus a t l ol = one_orders Value l (λ x. Unary sign.Plus (Temp x (type_of a)) t) ol
unary_orders sign.Minus a t l ol = one_orders Value l (λ x. Unary sign.Minus (Temp x (type_of a)) t) ol
unary_orders sign.Complement a t l ol = one_orders Value l (λ x. Unary sign.Complement (Temp x (type_of a)) t) ol
unary_orders sign.Not a t l ol = one_orders Value l (λ x. Unary sign.Not (Temp x (type_of a)) t) ol

pub record OrdersAll (m : (x next : ℕ) → Build ℕ) : Type 0 where
  pub by : (x next : ℕ) (g : Growing) → Ordered g.nodes → next < length g.nodes → Placed g (m x next g)

called_orders : (c : Bool) (f : Part) (next : ℕ) (g : Growing) → Orders f → Ordered g.nodes → next < length g.nodes
    → Placed g (called c f next g)
called_orders true f next g o ord h = record { ordered = ord; below = h; longer = omega arith }
called_orders false f next g o ord h = longer_trans g (fresh 1 g).1 _ (omega arith) (o.by (Into Value g.temps next) (fresh 1 g).1 ord h)

arguments_order : (e : Exp) (es : Exps) (turn : ℕ) → Orders (unroll e turn) → OrdersAll (λ x next. unroll_all es turn x next)
    → OrdersAll (λ x next. unroll_all (Exps' e es) turn x next)
arguments_order e es turn o os = record {
  by = λ x next g ord h.
      longer_trans g (unroll_all es turn (x + 1) next g).1 _ (os.by (x + 1) next g ord h).longer
      (o.by (Into Value x (unroll_all es turn (x + 1) next g).0) (unroll_all es turn (x + 1) next g).1
      (os.by (x + 1) next g ord h).ordered (os.by (x + 1) next g ord h).below);
}

call_orders : (q : Place) (f : Exp) (es : Exps) (t : Ty) (turn : ℕ) → Orders (unroll f turn) → OrdersAll
    (λ x next. unroll_all es turn x next)
    → Orders (unroll (Call q f es t) turn)
call_orders q f es t turn o os = orders_goal (λ k g. called (is_name f) (unroll f turn) (arguments k g).0 (arguments k g).1)
    (record {
      by = λ k g ord h.
          longer_trans g (arguments k g).1 _ (omega (arith, (placed k g ord h).longer))
          (called_orders (is_name f) (unroll f turn) (arguments k g).0 (arguments k g).1 o (placed k g ord h).ordered
          (placed k g ord h).below);
    })
  where
    behind : Goal → Growing → Growing
    behind k g =
        record {
          nodes = CallOf (record { place = q; callee = f; result = t; turn = turn }) (numbers g.temps (count es)) k.temp k.next ∷ g.nodes;
          temps = g.temps + count es;
          slots = g.slots;
        }

    arguments : Goal → Build ℕ
    arguments k g = unroll_all es turn g.temps (length g.nodes) (behind k g)

    placed : (k : Goal) (g : Growing) → Ordered g.nodes → k.next < length g.nodes → Placed (behind k g) (arguments k g)
    placed k g ord h = os.by g.temps (length g.nodes) (behind k g) (h, ord) (omega arith)

mutual
  pub expression_orders : (e : Exp) (turn : ℕ) → Orders (unroll e turn)
  expression_orders (Comma a b t) turn =
      plainly_orders (Comma a b t) _
      (comma_orders (unroll a turn) (unroll b turn) (expression_orders a turn) (expression_orders b turn))
  expression_orders (Assign o works a b t) turn =
      plainly_orders (Assign o works a b t) (assigning o works a b t (unroll a turn) (unroll b turn))
      (assign_orders o works a b t (unroll a turn) (unroll b turn) (expression_orders a turn) (expression_orders b turn))
  expression_orders (Cond c a b t) turn =
      conditional_orders (unroll c turn) (unroll a turn) (unroll b turn) (expression_orders c turn)
      (expression_orders a turn) (expression_orders b turn)
  expression_orders (Binary o a b t) turn =
      plainly_orders (Binary o a b t) (binary o a b t (unroll a turn) (unroll b turn))
      (binary_orders (is_logical o) o t (unroll a turn) (unroll b turn)
      (λ x y. Binary o (Temp x (type_of a)) (Temp y (type_of b)) t) (expression_orders a turn)
      (expression_orders b turn))
  expression_orders (Cast a t) turn =
      plainly_orders (Cast a t) (converted a (λ x. Cast x t) (unroll a turn))
      (one_or (is_array (type_of a)) Place' Value (unroll a turn) (λ x. Cast (TempPlace x (type_of a)) t)
      (λ x. Cast (Temp x (type_of a)) t) (expression_orders a turn))
  expression_orders (Unary o a t) turn =
      plainly_orders (Unary o a t) (unary o a t (unroll a turn))
      (unary_orders o a t (unroll a turn) (expression_orders a turn))
  expression_orders (PreInc d a t) turn =
      plainly_orders (PreInc d a t) _
      (one_orders Place' (unroll a turn) (λ x. PreInc d (TempPlace x (type_of a)) t) (expression_orders a turn))
  expression_orders (PostInc d a t) turn =
      plainly_orders (PostInc d a t) _
      (one_orders Place' (unroll a turn) (λ x. PostInc d (TempPlace x (type_of a)) t) (expression_orders a turn))
  expression_orders (SizeofExpr a n t) turn = plainly_orders (SizeofExpr a n t) _ (kept_orders (SizeofType n t))
  expression_orders (SizeofType n t) turn = kept_orders (SizeofType n t)
  expression_orders (Index a b t) turn =
      plainly_orders (Index a b t) (indexed a b t (unroll a turn) (unroll b turn))
      (index_or (is_array (type_of a)) (unroll a turn) (unroll b turn) (λ x y. Index (TempPlace x (type_of a)) (Temp y (type_of b)) t)
      (λ x y. Index (Temp x (type_of a)) (Temp y (type_of b)) t) (expression_orders a turn) (expression_orders b turn))
  expression_orders (Call q f es t) turn = call_orders q f es t turn (expression_orders f turn) (arguments_orders es turn)
  expression_orders (Field a n true t) turn =
      plainly_orders (Field a n true t) _
      (one_orders Value (unroll a turn) (λ x. Field (Temp x (type_of a)) n true t) (expression_orders a turn))
  expression_orders (Field a n false t) turn =
      plainly_orders (Field a n false t) _
      (one_orders Place' (unroll a turn) (λ x. Field (TempPlace x (type_of a)) n false t)
      (expression_orders a turn))
  expression_orders (Param n t) turn = kept_orders (Param n t)
  expression_orders (Local n t) turn = kept_orders (Local n t)
  expression_orders (Global n t) turn = kept_orders (Global n t)
  expression_orders (Function n b t) turn = kept_orders (Function n b t)
  expression_orders (Number n t) turn = kept_orders (Number n t)
  expression_orders (Str q t) turn = kept_orders (Str q t)
  expression_orders (Convert a t) turn =
      plainly_orders (Convert a t) (converted a (λ x. Convert x t) (unroll a turn))
      (one_or (is_array (type_of a)) Place' Value (unroll a turn) (λ x. Convert (TempPlace x (type_of a)) t)
      (λ x. Convert (Temp x (type_of a)) t) (expression_orders a turn))
  expression_orders (Temp n t) turn = kept_orders nothing
  expression_orders (TempPlace n t) turn = one_orders Value (kept nothing) (λ x. TempPlace x t) (kept_orders nothing)

  pub arguments_orders : (es : Exps) (turn : ℕ) → OrdersAll (λ x next. unroll_all es turn x next)
  arguments_orders NoExps turn = record { by = λ x next g ord h. record { ordered = ord; below = h; longer = omega arith } }
  arguments_orders (Exps' e es) turn = arguments_order e es turn (expression_orders e turn) (arguments_orders es turn)
