-- How many nodes the pieces of a graph have.
use Rattle.std.proofs.Common.{◌≡◌, ℕ, zero, suc, ◌+◌, ◌-◌, ◌*◌, ◌≤◌, ◌<◌, Bool, true, false, List, [], ◌∷◌, length, map, drop, refl, arith}
use Rattle.std.specs.Prelude.{Option, Some, None, if◌then◌else◌}
use Rattle.std.proofs.lemmas.List.{length-drop, length-map}
use Rattle.sc_base.specs.declared.pos.Pos.{Pos}
use Rattle.sc_tree.specs.declared.op.BinaryOp.{BinaryOp}
use Rattle.sc_tree.specs.declared.op.UnaryOp.{UnaryOp}
use Rattle.sc_tree.specs.declared.op.UnaryOp.TheVariants as sign
use Rattle.sc_tree.specs.declared.expr.Place.{Place}
use Rattle.sc_typed.specs.declared.stmt.Declared.{Declared}
use Rattle.sc_typed.specs.declared.stmt.Declared.TheVariants as declared
use Rattle.sum_rows.specs.declared.report.What.{What}
use Rattle.sum_rows.specs.declared.report.What.TheVariants as what
use Rattle.sc_world.specs.declared.run.Reason.TheVariants as reason
use Rattle.sc_world.specs.Tree.{Ty, is_array, Exp, Comma, Assign, Cond, Binary, Cast, Unary, PreInc, PostInc, SizeofExpr, SizeofType, Index, Call, Field, Param, Local, Global, Function, Number, Str, Convert, Temp, TempPlace, Exps, NoExps, Exps', type_of, Given, Init, NoInit, One, Braces, Dec, Start, NoStart, Begin, Declare, Stm, Block, Decl, Evaluate, If, IfElse, While, Do, For, Switch, Case, Default, Goto, Break, Continue, Return, Label, Stms, NoStms, Stms'}
use Rattle.sc_world.specs.Source.{Source}
use Rattle.sc_world.specs.Exec.{end_of}
use Rattle.sc_world.specs.Eval.{Want, Value, Place', is_name, is_logical}
use Rattle.flow_graph.specs.Nodes.{Node, Keep, KeepCells, CallOf, Update, Updating, Set, Fill, Branch, Mark, MarkSwitch, Exit, SetAside}
use Rattle.flow_graph.specs.Growing.{Growing, empty, Build, ◌>>=◌, pure, put, fresh, numbers}
use Rattle.flow_graph.specs.Expressions.{Aim, Into, Test, Part, Goal, goal, kept, plainly, one, two, comma, conditional, Sides, sides, first_test, logical, updating, address, assigning, binary, converted, unary, indexed, called, count, nothing, as_scalar, unroll, unroll_all, easy, is_scalar}
use Rattle.flow_graph.specs.Statements.{Targets, look, Piece, tested, test_or_true, dropped, dropped_if, cells_kept, all_kept, filled_by, initialised, declared_by, declarators, started, in_loop, last_turn, while_turn, while_turns, do_turn, do_turns, with_step, turn_of, Chosen, Opened, cases_of, item, node_or, chain, switched, returning, unroll_stm, unroll_stms}
use Rattle.flow_graph.specs.Unrolled.{all_at, grown, turned, flow}
use Rattle.flow_sizes.specs.Sizes.{size, all_sizes, size_if, given_sizes, init_size, dec_sizes, start_size, times, unrolled, all_unrolled}

-- so many nodes more at most
pub record Adds (n : ℕ) (g h : Growing) : Type 0 where
  pub few : length h.nodes ≤ length g.nodes + n

-- an expression: three for each node of the tree; of a part that keeps its value one is left for the branch of a test
pub record Small (p : Part) (n : ℕ) : Type 0 where
  pub by : (aim : Aim) (g : Growing) → Adds (3 * n) g (p aim g).1

record Spare (p : Goal → Build ℕ) (n : ℕ) : Type 0 where
  by : (k : Goal) (g : Growing) → Adds n g (p k g).1

spare : (p : Goal → Build ℕ) (n m : ℕ) → Spare p n → n < 3 * m → Small (λ aim g. p (goal aim g).0 (goal aim g).1) m
spare p n m o h = record { by = by }
  where
    by : (aim : Aim) (g : Growing) → Adds (3 * m) g (p (goal aim g).0 (goal aim g).1).1
    by (Into want x next) g =
        record { few = omega (arith, h, (o.by (record { want = want; temp = x; next = next }) g).few) }
    by (Test hit miss) g =
        record {
          few = omega (
            arith,
            h,
            (o.by (record { want = Value; temp = g.temps; next = length g.nodes })
                (record { nodes = Branch g.temps hit miss ∷ g.nodes; temps = g.temps + 1; slots = g.slots })).few,
          );
        }

kept_small : (e : Exp) (n : ℕ) → 0 < n → Small (kept e) n
kept_small e n h =
    spare (λ k. put (Keep k.want k.temp e k.next)) 1 n (record { by = λ k g. record { few = omega arith } }) (omega (arith, h))

plainly_small : (e : Exp) (hard : Part) (n : ℕ) → 0 < n → Small hard n → Small (plainly e hard) n
plainly_small e hard n h o = chosen (easy e)
  where
    chosen : (c : Bool) → Small (λ aim. if c then kept e aim else hard aim) n
    chosen true = kept_small e n h
    chosen false = o

one_small : (want : Want) (a : Part) (whole : ℕ → Exp) (n : ℕ) → Small a n → Small (one want a whole) (1 + n)
one_small want a whole n o =
    spare (λ k g. a (Into want g.temps (length g.nodes)) (behind k g)) (1 + 3 * n) (1 + n)
    (record { by = λ k g. record { few = omega (arith, (o.by (Into want g.temps (length g.nodes)) (behind k g)).few) } }) (omega arith)
  where
    behind : Goal → Growing → Growing
    behind k g = record { nodes = Keep k.want k.temp (whole g.temps) k.next ∷ g.nodes; temps = g.temps + 1; slots = g.slots }

two_small : (left : Want) (a : Part) (right : Want) (b : Part) (whole : ℕ → ℕ → Exp) (m n : ℕ) → Small a m → Small b n
    → Small (two left a right b whole) (1 + (m + n))
two_small left a right b whole m n oa ob =
    spare (λ k g. a (Into left g.temps (second k g).0) (second k g).1) (1 + 3 * (m + n)) (1 + (m + n))
    (record {
      by = λ k g. record {
        few = omega (
          arith,
          (oa.by (Into left g.temps (second k g).0) (second k g).1).few,
          (ob.by (Into right (g.temps + 1) (length g.nodes)) (behind k g)).few,
        );
      };
    }) (omega arith)
  where
    behind : Goal → Growing → Growing
    behind k g = record {
      nodes = Keep k.want k.temp
          (whole g.temps (g.temps + 1)) k.next ∷ g.nodes;
      temps = g.temps + 1 + 1;
      slots = g.slots;
    }

    second : Goal → Build ℕ
    second k g = b (Into right (g.temps + 1) (length g.nodes)) (behind k g)

updating_small : (u : Updating) (l r : Part) (m n : ℕ) → Small l m → Small r n → Small (updating u l r) (1 + (m + n))
updating_small u l r m n ol or' =
    spare (λ k g. l (Into Place' g.temps (length (right k g).1.nodes)) (old k g)) (2 + 3 * (m + n)) (1 + (m + n))
    (record {
      by = λ k g. record {
        few = omega (
          arith,
          (ol.by (Into Place' g.temps (length (right k g).1.nodes)) (old k g)).few,
          (or'.by (Into Value (g.temps + 1 + 1) (length g.nodes)) (behind k g)).few,
        );
      };
    }) (omega arith)
  where
    behind : Goal → Growing → Growing
    behind k g =
        record {
          nodes = Update u k.want g.temps (g.temps + 1) (g.temps + 1 + 1) k.temp k.next ∷ g.nodes;
          temps = g.temps + 1 + 1 + 1;
          slots = g.slots;
        }

    right : Goal → Build ℕ
    right k g = r (Into Value (g.temps + 1 + 1) (length g.nodes)) (behind k g)

    old : Goal → Growing → Growing
    old k g = (put (Keep Value (g.temps + 1) (TempPlace g.temps (as_scalar u.ctype)) (right k g).0) (right k g).1).1

address_small : (a : Part) (n : ℕ) → Small a n → Small (address a) (1 + n)
address_small a n o =
    spare (λ k g. a (Into Place' k.temp k.next) g) (3 * n) (1 + n)
    (record { by = λ k g. o.by (Into Place' k.temp k.next) g }) (omega arith)

comma_small : (a b : Part) (m n : ℕ) → Small a m → Small b n → Small (comma a b) (1 + (m + n))
comma_small a b m n oa ob = record {
  by = λ aim g. record {
    few = omega (arith, (ob.by aim g).few, (oa.by (Into Value (b aim g).1.temps (b aim g).0) (fresh 1 (b aim g).1).1).few);
  };
}

conditional_small : (c a b : Part) (l m n : ℕ) → Small c l → Small a m → Small b n → Small (conditional c a b) (1 + (l + (m + n)))
conditional_small c a b l m n oc oa ob = record {
  by = λ aim g. record {
    few = omega (
      arith,
      (oa.by aim g).few,
      (ob.by aim (a aim g).1).few,
      (oc.by (Test (a aim g).0 (b aim (a aim g).1).0) (b aim (a aim g).1).1).few,
    );
  };
}

sides_small : (t : Ty) (aim : Aim) (g : Growing) → Adds 2 g (sides t aim g).1
sides_small t (Into want x next) g = record { few = omega arith }
sides_small t (Test hit miss) g = record { few = omega arith }

logical_small : (o : BinaryOp) (t : Ty) (a b : Part) (m n : ℕ) → Small a m → Small b n → Small (logical o t a b) (1 + (m + n))
logical_small o t a b m n oa ob = record {
  by = λ aim g. record {
    few = omega (
      arith,
      (sides_small t aim g).few,
      (ob.by (at_sides aim g) (sides t aim g).1).few,
      (oa.by (first_test o (second aim g).0 (sides t aim g).0) (second aim g).1).few,
    );
  };
}
  where
    at_sides : Aim → Growing → Aim
    at_sides aim g = Test (sides t aim g).0.hit (sides t aim g).0.miss

    second : Aim → Build ℕ
    second aim g = b (at_sides aim g) (sides t aim g).1

two_or : (c : Bool) (left : Want) (p q : Want) (a b : Part) (x y : ℕ → ℕ → Exp) (m n : ℕ) → Small a m → Small b n
    → Small (if c then two left a p b x else two left a q b y) (1 + (m + n))
two_or true left p q a b x y m n oa ob = two_small left a p b x m n oa ob
two_or false left p q a b x y m n oa ob = two_small left a q b y m n oa ob

assigning_small : (o : Option BinaryOp) (works : Ty) (a b : Exp) (t : Ty) (l r : Part) (m n : ℕ) → Small l m → Small r n
    → Small (assigning o works a b t l r) (1 + (m + n))
assigning_small None works a b t l r m n ol or' =
    two_or (is_scalar t) Place' Value Place' l r
    (λ x y. Assign None works (TempPlace x (type_of a)) (Temp y (type_of b)) t)
    (λ x y. Assign None works (TempPlace x (type_of a)) (TempPlace y (type_of b)) t) m n ol or'
assigning_small (Some o) works a b t l r m n ol or' =
    updating_small (record { op = o; works = works; ctype = t }) l r m n ol or'

binary_small : (c : Bool) (o : BinaryOp) (t : Ty) (l r : Part) (whole : ℕ → ℕ → Exp) (m n : ℕ) → Small l m → Small r n
    → Small (if c then logical o t l r else two Value l Value r whole) (1 + (m + n))
binary_small true o t l r whole m n ol or' = logical_small o t l r m n ol or'
binary_small false o t l r whole m n ol or' = two_small Value l Value r whole m n ol or'

one_or : (c : Bool) (p q : Want) (a : Part) (x y : ℕ → Exp) (n : ℕ) → Small a n
    → Small (if c then one p a x else one q a y) (1 + n)
one_or true p q a x y n o = one_small p a x n o
one_or false p q a x y n o = one_small q a y n o

index_or : (c : Bool) (l r : Part) (x y : ℕ → ℕ → Exp) (m n : ℕ) → Small l m → Small r n
    → Small (if c then two Place' l Value r x else two Value l Value r y) (1 + (m + n))
index_or true l r x y m n ol or' = two_small Place' l Value r x m n ol or'
index_or false l r x y m n ol or' = two_small Value l Value r y m n ol or'

unary_small : (o : UnaryOp) (a : Exp) (t : Ty) (l : Part) (n : ℕ) → Small l n → Small (unary o a t l) (1 + n)
unary_small sign.Address a t l n o = address_small l n o
unary_small sign.Deref a t l n o = one_small Value l (λ x. Unary sign.Deref (Temp x (type_of a)) t) n o
unary_small sign.Plus a t l n o = one_small Value l (λ x. Unary sign.Plus (Temp x (type_of a)) t) n o
unary_small sign.Minus a t l n o = one_small Value l (λ x. Unary sign.Minus (Temp x (type_of a)) t) n o
unary_small sign.Complement a t l n o = one_small Value l (λ x. Unary sign.Complement (Temp x (type_of a)) t) n o
unary_small sign.Not a t l n o = one_small Value l (λ x. Unary sign.Not (Temp x (type_of a)) t) n o

-- a step in front of a node
pub record ThenSmall (p : (next : ℕ) → Build ℕ) (n : ℕ) : Type 0 where
  pub by : (next : ℕ) (g : Growing) → Adds (3 * n) g (p next g).1

pub record AllSmall (p : (x next : ℕ) → Build ℕ) (n : ℕ) : Type 0 where
  pub by : (x next : ℕ) (g : Growing) → Adds (3 * n) g (p x next g).1

dropped_small : (p : Part) (n : ℕ) → Small p n → ThenSmall (λ next g. p (Into Value g.temps next) (fresh 1 g).1) n
dropped_small p n o =
    record { by = λ next g. record { few = omega (arith, (o.by (Into Value g.temps next) (fresh 1 g).1).few) } }

called_small : (c : Bool) (f : Part) (n : ℕ) → Small f n → ThenSmall (called c f) n
called_small true f n o = record { by = λ next g. record { few = omega arith } }
called_small false f n o = dropped_small f n o

argument_small : (e : Exp) (es : Exps) (turn m n : ℕ) → Small (unroll e turn) m → AllSmall (λ x next. unroll_all es turn x next) n
    → AllSmall (λ x next. unroll_all (Exps' e es) turn x next) (m + n)
argument_small e es turn m n o os = record {
  by = λ x next g. record {
    few = omega (
      arith,
      (os.by (x + 1) next g).few,
      (o.by (Into Value x (unroll_all es turn (x + 1) next g).0) (unroll_all es turn (x + 1) next g).1).few,
    );
  };
}

call_small : (q : Place) (f : Exp) (es : Exps) (t : Ty) (turn m n : ℕ) → Small (unroll f turn) m
    → AllSmall (λ x next. unroll_all es turn x next) n → Small (unroll (Call q f es t) turn) (1 + (m + n))
call_small q f es t turn m n o os =
    spare (λ k g. called (is_name f) (unroll f turn) (arguments k g).0 (arguments k g).1) (1 + 3 * (m + n)) (1 + (m + n))
    (record {
      by = λ k g. record {
        few = omega (
          arith,
          (os.by g.temps (length g.nodes) (behind k g)).few,
          ((called_small (is_name f) (unroll f turn) m o).by (arguments k g).0 (arguments k g).1).few,
        );
      };
    }) (omega arith)
  where
    behind : Goal → Growing → Growing
    behind k g =
        record {
          nodes = CallOf (record { place = q; callee = f; result = t; turn = turn }) (numbers g.temps (count es)) k.temp k.next ∷ g.nodes;
          temps = g.temps + count es;
          slots = g.slots;
        }

    arguments : Goal → Build ℕ
    arguments k g = unroll_all es turn g.temps (length g.nodes) (behind k g)

place_small : (t : Ty) → Small (one Value (kept nothing) (λ x. TempPlace x t)) 1
place_small t =
    spare (λ k g. kept nothing (Into Value g.temps (length g.nodes)) (behind k g)) 2 1
    (record { by = λ k g. record { few = omega arith } }) (omega arith)
  where
    behind : Goal → Growing → Growing
    behind k g = record { nodes = Keep k.want k.temp (TempPlace g.temps t) k.next ∷ g.nodes; temps = g.temps + 1; slots = g.slots }

mutual
  pub expression_small : (e : Exp) (turn : ℕ) → Small (unroll e turn) (size e)
  expression_small (Comma a b t) turn =
      plainly_small (Comma a b t) _ (1 + (size a + size b)) (omega arith)
      (comma_small (unroll a turn) (unroll b turn) (size a) (size b) (expression_small a turn) (expression_small b turn))
  expression_small (Assign o works a b t) turn =
      plainly_small (Assign o works a b t) (assigning o works a b t (unroll a turn) (unroll b turn)) (1 + (size a + size b)) (omega arith)
      (assigning_small o works a b t (unroll a turn) (unroll b turn) (size a) (size b) (expression_small a turn) (expression_small b turn))
  expression_small (Cond c a b t) turn =
      conditional_small (unroll c turn) (unroll a turn) (unroll b turn) (size c) (size a) (size b) (expression_small c turn)
      (expression_small a turn) (expression_small b turn)
  expression_small (Binary o a b t) turn =
      plainly_small (Binary o a b t) (binary o a b t (unroll a turn) (unroll b turn)) (1 + (size a + size b)) (omega arith)
      (binary_small (is_logical o) o t (unroll a turn) (unroll b turn)
      (λ x y. Binary o (Temp x (type_of a)) (Temp y (type_of b)) t) (size a) (size b) (expression_small a turn) (expression_small b turn))
  expression_small (Cast a t) turn =
      plainly_small (Cast a t) (converted a (λ x. Cast x t) (unroll a turn)) (1 + size a) (omega arith)
      (one_or (is_array (type_of a)) Place' Value (unroll a turn) (λ x. Cast (TempPlace x (type_of a)) t)
      (λ x. Cast (Temp x (type_of a)) t) (size a) (expression_small a turn))
  expression_small (Unary o a t) turn =
      plainly_small (Unary o a t) (unary o a t (unroll a turn)) (1 + size a) (omega arith)
      (unary_small o a t (unroll a turn) (size a) (expression_small a turn))
  expression_small (PreInc d a t) turn =
      plainly_small (PreInc d a t) _ (1 + size a) (omega arith)
      (one_small Place' (unroll a turn) (λ x. PreInc d (TempPlace x (type_of a)) t) (size a) (expression_small a turn))
  expression_small (PostInc d a t) turn =
      plainly_small (PostInc d a t) _ (1 + size a) (omega arith)
      (one_small Place' (unroll a turn) (λ x. PostInc d (TempPlace x (type_of a)) t) (size a) (expression_small a turn))
  expression_small (SizeofExpr a n t) turn =
      plainly_small (SizeofExpr a n t) _ (1 + size a) (omega arith) (kept_small (SizeofType n t) (1 + size a) (omega arith))
  expression_small (SizeofType n t) turn = kept_small (SizeofType n t) 1 (omega arith)
  expression_small (Index a b t) turn =
      plainly_small (Index a b t) (indexed a b t (unroll a turn) (unroll b turn)) (1 + (size a + size b)) (omega arith)
      (index_or (is_array (type_of a)) (unroll a turn) (unroll b turn) (λ x y. Index (TempPlace x (type_of a)) (Temp y (type_of b)) t)
      (λ x y. Index (Temp x (type_of a)) (Temp y (type_of b)) t) (size a) (size b) (expression_small a turn) (expression_small b turn))
  expression_small (Call q f es t) turn =
      call_small q f es t turn (size f) (all_sizes es) (expression_small f turn) (arguments_small es turn)
  expression_small (Field a n true t) turn =
      plainly_small (Field a n true t) _ (1 + size a) (omega arith)
      (one_small Value (unroll a turn) (λ x. Field (Temp x (type_of a)) n true t) (size a) (expression_small a turn))
  expression_small (Field a n false t) turn =
      plainly_small (Field a n false t) _ (1 + size a) (omega arith)
      (one_small Place' (unroll a turn) (λ x. Field (TempPlace x (type_of a)) n false t) (size a) (expression_small a turn))
  expression_small (Param n t) turn = kept_small (Param n t) 1 (omega arith)
  expression_small (Local n t) turn = kept_small (Local n t) 1 (omega arith)
  expression_small (Global n t) turn = kept_small (Global n t) 1 (omega arith)
  expression_small (Function n b t) turn = kept_small (Function n b t) 1 (omega arith)
  expression_small (Number n t) turn = kept_small (Number n t) 1 (omega arith)
  expression_small (Str q t) turn = kept_small (Str q t) 1 (omega arith)
  expression_small (Convert a t) turn =
      plainly_small (Convert a t) (converted a (λ x. Convert x t) (unroll a turn)) (1 + size a) (omega arith)
      (one_or (is_array (type_of a)) Place' Value (unroll a turn) (λ x. Convert (TempPlace x (type_of a)) t)
      (λ x. Convert (Temp x (type_of a)) t) (size a) (expression_small a turn))
  expression_small (Temp n t) turn = kept_small nothing 1 (omega arith)
  expression_small (TempPlace n t) turn = place_small t

  pub arguments_small : (es : Exps) (turn : ℕ) → AllSmall (λ x next. unroll_all es turn x next) (all_sizes es)
  arguments_small NoExps turn = record { by = λ x next g. record { few = omega arith } }
  arguments_small (Exps' e es) turn = argument_small e es turn (size e) (all_sizes es) (expression_small e turn) (arguments_small es turn)

-- Statements. A condition has two nodes more than its expression.
record TestSmall (p : (hit miss : ℕ) → Build ℕ) (n : ℕ) : Type 0 where
  by : (hit miss : ℕ) (g : Growing) → Adds (2 + 3 * n) g (p hit miss g).1

tests_small : (e : Exp) (turn : ℕ) (q : Pos) (x : Bool → What) → TestSmall (tested (unroll e turn) q x) (size e)
tests_small e turn q x = record {
  by = λ hit miss g. record {
    few = omega (arith, ((expression_small e turn).by (Test (length g.nodes) (suc (length g.nodes))) (marks hit miss g)).few);
  };
}
  where
    marks : (hit miss : ℕ) → Growing → Growing
    marks hit miss g = record g { nodes = Mark q (x false) miss ∷ Mark q (x true) hit ∷ g.nodes }

test_if_small : (c : Option Exp) (turn : ℕ) (q : Pos) → TestSmall (test_or_true c turn q) (size_if c)
test_if_small None turn q = record { by = λ hit miss g. record { few = omega arith } }
test_if_small (Some e) turn q = tests_small e turn q what.Loop

itself_small : (n : ℕ) → ThenSmall (λ next. pure next) n
itself_small n = record { by = λ next g. record { few = omega arith } }

drop_if_small : (e : Option Exp) (turn : ℕ) → ThenSmall (dropped_if e turn) (size_if e)
drop_if_small None turn = itself_small 0
drop_if_small (Some e) turn = dropped_small (unroll e turn) (size e) (expression_small e turn)

-- a node that reads a kept value, and the value
read_small : (n : Node) (p : Part) (want : Want) (x : ℕ) (g : Growing) (m : ℕ) → Small p m
    → Adds (1 + 3 * m) g (p (Into want x (length g.nodes)) (put n g).1).1
read_small n p want x g m o = record { few = omega (arith, (o.by (Into want x (length g.nodes)) (put n g).1).few) }

hard_small : (c : Bool) (a b : Node) (p : Part) (x : ℕ) (g : Growing) (m : ℕ) → Small p m
    → Adds (1 + 3 * m) g ((if c then (put a >>= λ at. p (Into Value x at)) else (put b >>= λ at. p (Into Place' x at))) g).1
hard_small true a b p x g m o = read_small a p Value x g m o
hard_small false a b p x g m o = read_small b p Place' x g m o

record ValueSmall (p : (next : ℕ) → Build ℕ) (n : ℕ) : Type 0 where
  by : (next : ℕ) (g : Growing) → Adds (1 + 3 * n) g (p next g).1

set_small : (c : Bool) (n : ℕ) (e : Exp) (p : Part) (m : ℕ) → Small p m
    → ValueSmall (λ next. if c then put (Set n e next) else
    (fresh 1 >>= λ x. if is_scalar (type_of e) then (put (Set n (Temp x (type_of e)) next) >>= λ at. p (Into Value x at)) else
    (put (Set n (TempPlace x (type_of e)) next) >>= λ at. p (Into Place' x at)))) m
set_small true n e p m o = record { by = λ next g. record { few = omega arith } }
set_small false n e p m o = record {
  by = λ next g. record {
    few = (hard_small (is_scalar (type_of e)) (Set n (Temp g.temps (type_of e)) next) (Set n (TempPlace g.temps (type_of e)) next) p g.temps
        (fresh 1 g).1 m o).few;
  };
}

cells_small : (c : Bool) (n : ℕ) (e : Exp) (p : Part) (m : ℕ) → Small p m
    → ValueSmall (λ next. if c then put (KeepCells n e next) else
    (fresh 1 >>= λ x. if is_scalar (type_of e) then (put (KeepCells n (Temp x (type_of e)) next) >>= λ at. p (Into Value x at)) else
    (put (KeepCells n (TempPlace x (type_of e)) next) >>= λ at. p (Into Place' x at)))) m
cells_small true n e p m o = record { by = λ next g. record { few = omega arith } }
cells_small false n e p m o = record {
  by = λ next g. record {
    few = (hard_small (is_scalar (type_of e)) (KeepCells n (Temp g.temps (type_of e)) next) (KeepCells n (TempPlace g.temps (type_of e)) next)
        p g.temps (fresh 1 g).1 m o).few;
  };
}

values_small : (xs : List Given) (turn : ℕ) → AllSmall (λ n next. all_kept xs turn n next) (given_sizes xs)
values_small [] turn = record { by = λ n next g. record { few = omega arith } }
values_small (x ∷ xs) turn = record {
  by = λ n next g. record {
    few = omega (
      arith,
      ((values_small xs turn).by (n + 1) next g).few,
      ((cells_small (easy x.value) n x.value (unroll x.value turn) (size x.value) (expression_small x.value turn)).by
          (all_kept xs turn (n + 1) next g).0 (all_kept xs turn (n + 1) next g).1).few,
    );
  };
}

initial_small : (n : ℕ) (x : Init) (turn : ℕ) → ValueSmall (initialised n x turn) (init_size x)
initial_small n NoInit turn = record { by = λ next g. record { few = omega arith } }
initial_small n (One e) turn = set_small (easy e) n e (unroll e turn) (size e) (expression_small e turn)
initial_small n (Braces xs) turn = record {
  by = λ next g. record { few = omega (arith, ((values_small xs turn).by g.slots (length g.nodes) (made next g)).few) };
}
  where
    made : (next : ℕ) → Growing → Growing
    made next g = record { nodes = Fill n xs (numbers g.slots (length xs)) next ∷ g.nodes; temps = g.temps; slots = g.slots + length xs }

declared_small : (d : Declared) (x : Init) (turn : ℕ) → ValueSmall (declared_by d x turn) (init_size x)
declared_small (declared.Local n) x turn = initial_small n x turn
declared_small (declared.Global n) x turn = record { by = λ next g. record { few = omega arith } }
declared_small declared.Function x turn = record { by = λ next g. record { few = omega arith } }

declarators_small : (ds : List Dec) (turn : ℕ) → ThenSmall (declarators ds turn) (dec_sizes ds)
declarators_small [] turn = itself_small 0
declarators_small (d ∷ ds) turn = record {
  by = λ next g. record {
    few = omega (
      arith,
      ((declarators_small ds turn).by next g).few,
      ((declared_small d.declared d.init turn).by (declarators ds turn next g).0 (declarators ds turn next g).1).few,
    );
  };
}

start_small : (f : Start) (turn : ℕ) → ThenSmall (started f turn) (start_size f)
start_small NoStart turn = itself_small 0
start_small (Begin e) turn = dropped_small (unroll e turn) (size e) (expression_small e turn)
start_small (Declare ds) turn = declarators_small ds turn

pub record PieceSmall (p : Piece) (n : ℕ) : Type 0 where
  pub by : (k : Targets) (g : Growing) → Adds (3 * n) g (p k g).1

last_small : (test : (hit miss : ℕ) → Build ℕ) (m : ℕ) → TestSmall test m → PieceSmall (last_turn test) (1 + m)
last_small test m o = record {
  by = λ k g. record { few = omega (arith, (o.by (length g.nodes) k.next (put (SetAside reason.Depth) g).1).few) };
}

while_small : (test : (hit miss : ℕ) → Build ℕ) (body rest : Piece) (l m n : ℕ) → TestSmall test l → PieceSmall body m
    → PieceSmall rest n → PieceSmall (while_turn test body rest) (1 + (l + m) + n)
while_small test body rest l m n ot ob or' = record {
  by = λ k g. record {
    few = omega (
      arith,
      (or'.by k g).few,
      (ob.by (in_loop k (rest k g).0) (rest k g).1).few,
      (ot.by (begins k g).0 k.next (begins k g).1).few,
    );
  };
}
  where
    begins : Targets → Build ℕ
    begins k g = body (in_loop k (rest k g).0) (rest k g).1

more_small : {p : Piece} (m n : ℕ) → m ≤ n → PieceSmall p m → PieceSmall p n
more_small m n h o = record { by = λ k g. record { few = omega (arith, h, (o.by k g).few) } }

turns_small : (left t : ℕ) (test : ℕ → (hit miss : ℕ) → Build ℕ) (body : ℕ → Piece) (l m : ℕ)
    → ((t : ℕ) → TestSmall (test t) l) → ((t : ℕ) → PieceSmall (body t) m)
    → PieceSmall (while_turns left t test body) (1 + l + times left (1 + (l + m)))
turns_small zero t test body l m ot ob = more_small (1 + l) (1 + l + times 0 (1 + (l + m))) (omega arith) (last_small (test t) l (ot t))
turns_small (suc more) t test body l m ot ob =
    more_small (1 + (l + m) + (1 + l + times more (1 + (l + m)))) (1 + l + times (suc more) (1 + (l + m))) (omega arith)
    (while_small (test t) (body t) (while_turns more (t + 1) test body) l m (1 + l + times more (1 + (l + m))) (ot t) (ob t)
    (turns_small more (t + 1) test body l m ot ob))

do_small : (test : (hit miss : ℕ) → Build ℕ) (body rest : Piece) (l m n : ℕ) → TestSmall test l → PieceSmall body m
    → PieceSmall rest n → PieceSmall (do_turn test body rest) (1 + (l + m) + n)
do_small test body rest l m n ot ob or' = record {
  by = λ k g. record {
    few = omega (
      arith,
      (or'.by k g).few,
      (ot.by (rest k g).0 k.next (rest k g).1).few,
      (ob.by (in_loop k (tests k g).0) (tests k g).1).few,
    );
  };
}
  where
    tests : Targets → Build ℕ
    tests k g = test (rest k g).0 k.next (rest k g).1

do_turns_small : (left t : ℕ) (test : ℕ → (hit miss : ℕ) → Build ℕ) (body : ℕ → Piece) (l m : ℕ)
    → ((t : ℕ) → TestSmall (test t) l) → ((t : ℕ) → PieceSmall (body t) m)
    → PieceSmall (do_turns left t test body) (1 + times left (1 + (l + m)))
do_turns_small zero t test body l m ot ob = record { by = λ k g. record { few = omega arith } }
do_turns_small (suc more) t test body l m ot ob =
    more_small (1 + (l + m) + (1 + times more (1 + (l + m)))) (1 + times (suc more) (1 + (l + m))) (omega arith)
    (do_small (test t) (body t) (do_turns more (t + 1) test body) l m (1 + times more (1 + (l + m))) (ot t) (ob t)
    (do_turns_small more (t + 1) test body l m ot ob))

step_small : (body : Piece) (step : (next : ℕ) → Build ℕ) (m n : ℕ) → PieceSmall body m → ThenSmall step n
    → PieceSmall (with_step body step) (n + m)
step_small body step m n ob os = record {
  by = λ k g. record {
    few = omega (
      arith,
      (os.by k.next g).few,
      (ob.by (record k { next = (step k.next g).0; again = (step k.next g).0 }) (step k.next g).1).few,
    );
  };
}

-- Blocks: a `case` has a node of its own in front of the items of a `switch`.
pub record AddsBlock (n : ℕ) (g : Growing) (r : Opened × Growing) : Type 0 where
  pub few : length r.1.nodes + length r.0.cases ≤ length g.nodes + n

pub record BlockSmall (p : Targets → Build Opened) (n : ℕ) : Type 0 where
  pub by : (k : Targets) (g : Growing) → AddsBlock (3 * n) g (p k g)

-- how many cases a statement is, and how many nodes it has
abbrev one_case : Stm → ℕ
one_case (Block ss end) = 0
one_case (Decl ds) = 0
one_case (Evaluate e) = 0
one_case (If q e y) = 0
one_case (IfElse q e y z) = 0
one_case (While q e y) = 0
one_case (Do q y e) = 0
one_case (For q f c n y) = 0
one_case (Switch q e ss) = 0
one_case (Case n e) = 1
one_case Default = 0
one_case (Goto q n) = 0
one_case Break = 0
one_case Continue = 0
one_case (Return q e) = 0
one_case (Label n y) = 0

cases_more : (x : Stm) (at : ℕ) (cs : List Chosen) → length (cases_of x at cs) ≤ length cs + one_case x
cases_more (Block ss end) at cs = omega arith
cases_more (Decl ds) at cs = omega arith
cases_more (Evaluate e) at cs = omega arith
cases_more (If q e y) at cs = omega arith
cases_more (IfElse q e y z) at cs = omega arith
cases_more (While q e y) at cs = omega arith
cases_more (Do q y e) at cs = omega arith
cases_more (For q f c n y) at cs = omega arith
cases_more (Switch q e ss) at cs = omega arith
cases_more (Case n e) at cs = omega arith
cases_more Default at cs = omega arith
cases_more (Goto q n) at cs = omega arith
cases_more Break at cs = omega arith
cases_more Continue at cs = omega arith
cases_more (Return q e) at cs = omega arith
cases_more (Label n y) at cs = omega arith

-- with its case, a statement has not more
record ItemSmall (x : Stm) (p : Piece) (n : ℕ) : Type 0 where
  by : (k : Targets) (g : Growing) → Adds (3 * n - one_case x) g (p k g).1
  some : one_case x ≤ 3 * n

item_small : (x : Stm) (part : Piece) (items : Targets → Build Opened) (m n : ℕ) → ItemSmall x part m → BlockSmall items n
    → BlockSmall (λ k g. item x part (items k g).0 k (items k g).1) (m + n)
item_small x part items m n op ob = record {
  by = λ k g. record {
    few = omega (
      arith,
      op.some,
      (ob.by k g).few,
      (op.by (to k g) (items k g).1).few,
      cases_more x (part (to k g) (items k g).1).0 (items k g).0.cases,
    );
  };
}
  where
    to : Targets → Growing → Targets
    to k g = record k { next = (items k g).0.at; labels = (items k g).0.labels }

chain_small : (x : ℕ) (cs : List Chosen) (other : ℕ) (g : Growing) → Adds (length cs) g (chain x cs other g).1
chain_small x [] other g = record { few = omega arith }
chain_small x (c ∷ cs) other g = record { few = omega (arith, (chain_small x cs other g).few) }

switch_small : (e : Exp) (turn : ℕ) (q : Pos) (items : Targets → Build Opened) (n : ℕ) → BlockSmall items n
    → PieceSmall (switched (unroll e turn) q e items) (1 + (size e + n))
switch_small e turn q items n o = record {
  by = λ k g. record {
    few = omega (
      arith,
      (o.by (within k) g).few,
      (chain_small (temp_of k g) (items (within k) g).0.cases (other k g) (fresh 1 (items (within k) g).1).1).few,
      ((expression_small e turn).by (Into Value (temp_of k g) (length (first k g).1.nodes)) (marked k g)).few,
    );
  };
}
  where
    within : Targets → Targets
    within k = record k { leave = k.next }

    temp_of : Targets → Growing → ℕ
    temp_of k g = (items (within k) g).1.temps

    other : Targets → Growing → ℕ
    other k g = node_or k.next (items (within k) g).0.default

    first : Targets → Growing → ℕ × Growing
    first k g = chain (temp_of k g) (items (within k) g).0.cases (other k g) (fresh 1 (items (within k) g).1).1

    marked : Targets → Growing → Growing
    marked k g = (put (MarkSwitch q (type_of e) (temp_of k g) (first k g).0) (first k g).1).1

return_small : (e : Option Exp) (turn : ℕ) (q : Pos) → PieceSmall (λ k. returning e turn q) (1 + size_if e)
return_small None turn q = record { by = λ k g. record { few = omega arith } }
return_small (Some e) turn q = record {
  by = λ k g. record { few = omega (arith, ((expression_small e turn).by (Into Value g.temps (suc (length g.nodes))) (out g)).few) };
}
  where
    out : Growing → Growing
    out g = record { nodes = Mark q what.Return (length g.nodes) ∷ Exit (Some g.temps) ∷ g.nodes; temps = g.temps + 1; slots = g.slots }

then_small : (p : (next : ℕ) → Build ℕ) (n : ℕ) → ThenSmall p n → PieceSmall (λ k. p k.next) (1 + n)
then_small p n o = record { by = λ k g. record { few = omega (arith, (o.by k.next g).few) } }

plain_item : (x : Stm) (p : Piece) (n : ℕ) → one_case x ≡ 0 → PieceSmall p n → ItemSmall x p n
plain_item x p n none o = record {
  by = λ k g. record { few = omega (arith, none, (o.by k g).few) };
  some = omega (arith, none);
}

-- a `case` itself has no node
abbrev NoNode : Stm → Piece → Type 0
NoNode (Block ss end) p = Unit {0}
NoNode (Decl ds) p = Unit {0}
NoNode (Evaluate e) p = Unit {0}
NoNode (If q e y) p = Unit {0}
NoNode (IfElse q e y z) p = Unit {0}
NoNode (While q e y) p = Unit {0}
NoNode (Do q y e) p = Unit {0}
NoNode (For q f c n y) p = Unit {0}
NoNode (Switch q e ss) p = Unit {0}
NoNode (Case n e) p = (k : Targets) (g : Growing) → length (p k g).1.nodes ≤ length g.nodes
NoNode Default p = Unit {0}
NoNode (Goto q n) p = Unit {0}
NoNode Break p = Unit {0}
NoNode Continue p = Unit {0}
NoNode (Return q e) p = Unit {0}
NoNode (Label n y) p = Unit {0}

as_item : (x : Stm) (p : Piece) (n : ℕ) → NoNode x p → 0 < n → PieceSmall p n → ItemSmall x p n
as_item (Block ss end) p m none low o = plain_item (Block ss end) p m refl o
as_item (Decl ds) p m none low o = plain_item (Decl ds) p m refl o
as_item (Evaluate e) p m none low o = plain_item (Evaluate e) p m refl o
as_item (If q e y) p m none low o = plain_item (If q e y) p m refl o
as_item (IfElse q e y z) p m none low o = plain_item (IfElse q e y z) p m refl o
as_item (While q e y) p m none low o = plain_item (While q e y) p m refl o
as_item (Do q y e) p m none low o = plain_item (Do q y e) p m refl o
as_item (For q f c n y) p m none low o = plain_item (For q f c n y) p m refl o
as_item (Switch q e ss) p m none low o = plain_item (Switch q e ss) p m refl o
as_item (Case n e) p m none low o = record {
  by = λ k g. record { few = omega (arith, none k g) };
  some = omega (arith, low);
}
as_item Default p m none low o = plain_item Default p m refl o
as_item (Goto q n) p m none low o = plain_item (Goto q n) p m refl o
as_item Break p m none low o = plain_item Break p m refl o
as_item Continue p m none low o = plain_item Continue p m refl o
as_item (Return q e) p m none low o = plain_item (Return q e) p m refl o
as_item (Label n y) p m none low o = plain_item (Label n y) p m refl o

for_small : (loop : Piece) (start : (next : ℕ) → Build ℕ) (m n : ℕ) → PieceSmall loop m → ThenSmall start n
    → PieceSmall (λ k. loop k >>= start) (m + n)
for_small loop start m n ol os = record {
  by = λ k g. record { few = omega (arith, (ol.by k g).few, (os.by (loop k g).0 (loop k g).1).few) };
}

module _ (depth : ℕ) where
  case_small : (x : Stm) (turn : ℕ) → NoNode x (unroll_stm depth x turn)
  case_small (Block ss end) turn = tt
  case_small (Decl ds) turn = tt
  case_small (Evaluate e) turn = tt
  case_small (If q e y) turn = tt
  case_small (IfElse q e y z) turn = tt
  case_small (While q e y) turn = tt
  case_small (Do q y e) turn = tt
  case_small (For q f c n y) turn = tt
  case_small (Switch q e ss) turn = tt
  case_small (Case n e) turn = λ k g. omega arith
  case_small Default turn = tt
  case_small (Goto q n) turn = tt
  case_small Break turn = tt
  case_small Continue turn = tt
  case_small (Return q e) turn = tt
  case_small (Label n y) turn = tt

  positive : (x : Stm) → 0 < unrolled depth x
  positive (Block ss end) = omega arith
  positive (Decl ds) = omega arith
  positive (Evaluate e) = omega arith
  positive (If q e y) = omega arith
  positive (IfElse q e y z) = omega arith
  positive (While q e y) = omega arith
  positive (Do q y e) = omega arith
  positive (For q f c n y) = omega arith
  positive (Switch q e ss) = omega arith
  positive (Case n e) = omega arith
  positive Default = omega arith
  positive (Goto q n) = omega arith
  positive Break = omega arith
  positive Continue = omega arith
  positive (Return q e) = omega arith
  positive (Label n y) = omega arith

  mutual
    pub statement_small : (x : Stm) (turn : ℕ) → PieceSmall (unroll_stm depth x turn) (unrolled depth x)
    statement_small (Block xs end) turn =
        record { by = λ k g. record { few = omega (arith, ((block_small xs turn).by k g).few) } }
    statement_small (Decl ds) turn = then_small (declarators ds turn) (dec_sizes ds) (declarators_small ds turn)
    statement_small (Evaluate e) turn = then_small (dropped_if e turn) (size_if e) (drop_if_small e turn)
    statement_small (If q e x) turn = record {
      by = λ k g. record {
        few = omega (
          arith,
          ((statement_small x turn).by k g).few,
          ((tests_small e turn q what.If).by (unroll_stm depth x turn k g).0 k.next (unroll_stm depth x turn k g).1).few,
        );
      };
    }
    statement_small (IfElse q e x y) turn = record {
      by = λ k g. record {
        few = omega (
          arith,
          ((statement_small x turn).by k g).few,
          ((statement_small y turn).by k (unroll_stm depth x turn k g).1).few,
          ((tests_small e turn q what.If).by (unroll_stm depth x turn k g).0
              (unroll_stm depth y turn k (unroll_stm depth x turn k g).1).0
              (unroll_stm depth y turn k (unroll_stm depth x turn k g).1).1).few,
        );
      };
    }
    statement_small (While q e x) turn =
        more_small (1 + size e + times depth (1 + (size e + unrolled depth x)))
        (1 + (size e + times depth (1 + (size e + unrolled depth x)))) (omega arith)
        (turns_small depth 0 (λ t. tested (unroll e (turn_of turn (depth + 1) t)) q what.Loop)
        (λ t. unroll_stm depth x (turn_of turn depth t)) (size e) (unrolled depth x)
        (λ t. tests_small e (turn_of turn (depth + 1) t) q what.Loop) (λ t. statement_small x (turn_of turn depth t)))
    statement_small (Do q x e) turn =
        do_turns_small depth 0 (λ t. tested (unroll e (turn_of turn depth t)) q what.Loop) (λ t. unroll_stm depth x (turn_of turn depth t))
        (size e) (unrolled depth x)
        (λ t. tests_small e (turn_of turn depth t) q what.Loop) (λ t. statement_small x (turn_of turn depth t))
    statement_small (For q f c n x) turn =
        more_small (1 + size_if c + times depth (1 + (size_if c + (size_if n + unrolled depth x))) + start_size f)
        (1 + (start_size f + (size_if c + times depth (1 + (size_if c + (size_if n + unrolled depth x)))))) (omega arith)
        (for_small
        (while_turns depth 0 (λ t. test_or_true c (turn_of turn (depth + 1) t) q)
        (λ t. with_step (unroll_stm depth x (turn_of turn depth t)) (dropped_if n (turn_of turn depth t))))
        (started f turn) (1 + size_if c + times depth (1 + (size_if c + (size_if n + unrolled depth x)))) (start_size f)
        (turns_small depth 0 (λ t. test_or_true c (turn_of turn (depth + 1) t) q)
        (λ t. with_step (unroll_stm depth x (turn_of turn depth t)) (dropped_if n (turn_of turn depth t)))
        (size_if c) (size_if n + unrolled depth x)
        (λ t. test_if_small c (turn_of turn (depth + 1) t) q)
        (λ t. step_small (unroll_stm depth x (turn_of turn depth t)) (dropped_if n (turn_of turn depth t)) (unrolled depth x) (size_if n)
        (statement_small x (turn_of turn depth t)) (drop_if_small n (turn_of turn depth t))))
        (start_small f turn))
    statement_small (Switch q e xs) turn =
        switch_small e turn q (unroll_stms depth xs turn) (all_unrolled depth xs) (block_small xs turn)
    statement_small (Case n e) turn = record { by = λ k g. record { few = omega arith } }
    statement_small Default turn = record { by = λ k g. record { few = omega arith } }
    statement_small (Goto q n) turn = record { by = λ k g. record { few = omega arith } }
    statement_small Break turn = record { by = λ k g. record { few = omega arith } }
    statement_small Continue turn = record { by = λ k g. record { few = omega arith } }
    statement_small (Return q e) turn = return_small e turn q
    statement_small (Label n x) turn = more_small (unrolled depth x) (1 + unrolled depth x) (omega arith) (statement_small x turn)

    pub block_small : (xs : Stms) (turn : ℕ) → BlockSmall (unroll_stms depth xs turn) (all_unrolled depth xs)
    block_small NoStms turn = record { by = λ k g. record { few = omega arith } }
    block_small (Stms' x xs) turn =
        item_small x (unroll_stm depth x turn) (unroll_stms depth xs turn) (unrolled depth x) (all_unrolled depth xs)
        (as_item x (unroll_stm depth x turn) (unrolled depth x) (case_small x turn) (positive x) (statement_small x turn)) (block_small xs turn)

-- the whole
abbrev at_end : Stm → Growing
at_end x = record { nodes = Mark (end_of x) what.End 0 ∷ Exit None ∷ []; temps = 0; slots = 0 }

few_left : (f : Node → Node) (j : ℕ) (ns : List Node) → length (map f (drop j ns)) ≤ length ns
few_left f j ns = omega (arith, length-map (drop j ns) f, length-drop j ns)

pub graphs_small : (s : Source) → length (flow s).nodes ≤ 2 + 3 * unrolled s.depth s.body
graphs_small s =
    omega (
      arith,
      few_left (turned (grown s.depth s.body).0) (length (grown s.depth s.body).1.nodes - ((grown s.depth s.body).0 + 1))
          (grown s.depth s.body).1.nodes,
      ((statement_small s.depth s.body 0).by (all_at 1) (at_end s.body)).few,
    )
