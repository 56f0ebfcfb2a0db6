-- Statements of their parts (C11 6.8); none where a part has a fault. The parts are zipped: all are there, or none is.
use Rattle.std.specs.Prelude.{Option, Some, None, List, [], ◌∷◌, ◌++◌}
use Rattle.std.specs.Option.{option_zip}
use Rattle.sc_base.specs.declared.pos.Pos.{Pos}
use Rattle.sc_base.specs.declared.pos.NameId.{NameId}
use Rattle.sc_typed.specs.declared.expr.TExpr.{TExpr}
use Rattle.sc_typed.specs.declared.stmt.TStmt.{TStmt}
use Rattle.sc_typed.specs.declared.stmt.TStmt.TheVariants as st
use Rattle.sc_typed.specs.declared.stmt.TForStart.{TForStart}
use Rattle.sc_typed.specs.declared.stmt.TForStart.TheVariants as tstart

abbrev pub in_front : Option TStmt → Option (List TStmt) → Option (List TStmt)
in_front None ss = None
in_front (Some s) None = None
in_front (Some s) (Some ss) = Some (s ∷ ss)

-- all items, none where one has a fault
abbrev pub all_items : List (Option TStmt) → Option (List TStmt)
all_items [] = Some []
all_items (s ∷ ss) = in_front s (all_items ss)

-- the items so far and one more, none where one has a fault
abbrev pub with_last : Option (List TStmt) → Option TStmt → Option (List TStmt)
with_last None s = None
with_last (Some ss) None = None
with_last (Some ss) (Some s) = Some (ss ++ s ∷ [])

abbrev pub block_of : Pos → Pos → Option (List TStmt) → Option TStmt
block_of from to None = None
block_of from to (Some ss) = Some (st.Block ss from to)

abbrev pub expression_of : Pos → Option TExpr → Option TStmt
expression_of at None = None
expression_of at (Some e) = Some (st.Expr (Some e) at)

abbrev pub if_with : Pos → Option (TExpr × TStmt) → Option TStmt
if_with at None = None
if_with at (Some (e, s)) = Some (st.If e s None at)

abbrev pub if_of : Pos → Option TExpr → Option TStmt → Option TStmt
if_of at e s = if_with at (option_zip e s)

abbrev pub if_else_with : Pos → Option ((TExpr × TStmt) × TStmt) → Option TStmt
if_else_with at None = None
if_else_with at (Some ((e, s), t)) = Some (st.If e s (Some t) at)

abbrev pub if_else_of : Pos → Option TExpr → Option TStmt → Option TStmt → Option TStmt
if_else_of at e s t = if_else_with at (option_zip (option_zip e s) t)

abbrev pub while_with : Pos → Option (TExpr × TStmt) → Option TStmt
while_with at None = None
while_with at (Some (e, s)) = Some (st.While e s at)

abbrev pub while_of : Pos → Option TExpr → Option TStmt → Option TStmt
while_of at e s = while_with at (option_zip e s)

abbrev pub do_with : Pos → Option (TStmt × TExpr) → Option TStmt
do_with at None = None
do_with at (Some (s, e)) = Some (st.Do s e at)

abbrev pub do_of : Pos → Option TStmt → Option TExpr → Option TStmt
do_of at s e = do_with at (option_zip s e)

-- a part of a `for` that may be left out: none where it has a fault
abbrev pub optional : Option TExpr → Option (Option TExpr)
optional None = None
optional (Some e) = Some (Some e)

abbrev pub start_of : Option TExpr → Option TForStart
start_of None = None
start_of (Some e) = Some (tstart.Expr e)

abbrev pub for_with : Pos → Option ((TForStart × Option TExpr) × (Option TExpr × TStmt)) → Option TStmt
for_with at None = None
for_with at (Some ((f, c), (n, s))) = Some (st.For f c n s at)

abbrev pub for_of : Pos → Option TForStart → (test step : Option (Option TExpr)) → Option TStmt → Option TStmt
for_of at f c n s = for_with at (option_zip (option_zip f c) (option_zip n s))

abbrev pub switch_with : Pos → Pos → Option (TExpr × List TStmt) → Option TStmt
switch_with at to None = None
switch_with at to (Some (e, ss)) = Some (st.Switch e ss at to)

abbrev pub switch_of : Pos → Pos → Option TExpr → Option (List TStmt) → Option TStmt
switch_of at to e ss = switch_with at to (option_zip e ss)

abbrev pub label_of : NameId → Pos → Option TStmt → Option TStmt
label_of name at None = None
label_of name at (Some s) = Some (st.Label name s at)
