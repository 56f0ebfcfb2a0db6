-- Statements that are plain leave what is outside of their block as it is: by induction over the trees of bodies.
use Rattle.std.proofs.Common.{◌≡◌, Bool, true, false, ◌&&◌, not, List, [], ◌∷◌, map, refl, sym, subst, ◌∙◌}
use Rattle.std.specs.Prelude.{ℕ, Option, Some, None}
use Rattle.std.specs.List.{list_any}
use Rattle.sc_base.specs.declared.pos.Pos.{Pos}
use Rattle.sc_base.specs.declared.skip.IllTyped.TheVariants as i
use Rattle.sc_tree.specs.declared.ctype.CType.{CType}
use Rattle.sc_tree.specs.declared.ctype.Widths.{Widths}
use Rattle.sc_tree.specs.declared.expr.Expr.{Expr}
use Rattle.sc_tree.specs.declared.stmt.ForStart.{ForStart}
use Rattle.sc_tree.specs.declared.stmt.ForStart.TheVariants as start
use Rattle.sc_typed.specs.declared.stmt.TForStart.TheVariants as tstart
use Rattle.sc_tree.specs.declared.stmt.Stmt.{Stmt, Stmt-F, roll-Stmt}
use Rattle.sc_tree.specs.declared.stmt.Stmt.TheFolds as trees
use Rattle.sc_typed.specs.declared.expr.TExpr.{TExpr}
use Rattle.sc_typed.specs.declared.stmt.TStmt.{TStmt}
use Rattle.sc_typed.specs.declared.stmt.TStmt.TheVariants as st
use Rattle.sc_typed.specs.Types.{is_integer, is_scalar, is_void}
use Rattle.sc_typed.specs.Constants.{constant_bits}
use Rattle.sc_rules.specs.Faults.{ill_typed_at}
use Rattle.sc_rules.specs.Walks.{Check, given, scoped}
use Rattle.sc_rules.specs.Conversions.{type_of, converted}
use Rattle.sc_statements.specs.declared.choices.Choice.{Choice}
use Rattle.sc_statements.specs.Forms.{all_items, block_of, expression_of, if_of, if_else_of, while_of, do_of, optional, start_of, for_of, switch_of, label_of}
use Rattle.sc_statements.specs.Choices.{same_choice, choice_of, seen_with, new_choice, choices_differ}
use Rattle.sc_statements.specs.Statements.{statement, scalar, switched, case_number, case_of, jump, returned, return_void, return_as}
use Rattle.sc_typing.specs.Here.{Here}
use Rattle.sc_typing.specs.Typing.{typing, valued}
use Rattle.sc_bodies.specs.Bodies as spec
use Rattle.sc_bodies.specs.Bodies.{Inside, in_loop, in_switch, Stating, stmt_step, stating}
use Rattle.sc_declarations.specs.Declarations.{declaration}
use Rattle.scopes.specs.Frames.{Frames}
use Rattle.sc_rules.specs.declared.walk.Tag.{Tag}
use Rattle.plain_bodies.specs.Leaves.{FaultAlone, InBlock}
use Rattle.plain_bodies.specs.Plain.{plain, plain_if, plain_start, stmt_plain, plain_statement}
use Rattle.plain_bodies.proofs.Steps.{keeps, by_then, by_done, by_if, by_given, by_test}
use Rattle.plain_bodies.proofs.Rules.{converted_kept}
use Rattle.plain_bodies.proofs.Walk.{Each, valued_kept}
use Rattle.plain_bodies.proofs.Plain.{first_so, second_so, each_so}
use Rattle.plain_bodies.proofs.Induction.{expressions_kept}
use Rattle.plain_bodies.proofs.Within.{stays, fault, in_then, in_done, in_scope}
use Rattle.plain_bodies.proofs.Declarations.{declaration_left}

module _ (T : Frames Tag) where
  -- Rules.

  scalar_kept : (at : Pos) (e : TExpr) → FaultAlone T (scalar at e)
  scalar_kept at e = by_if (is_scalar (type_of e)) _ _ (keeps (λ w. refl)) (keeps (λ w. refl))

  switched_kept : (at : Pos) (e : TExpr) → FaultAlone T (switched at e)
  switched_kept at e = by_if (is_integer (type_of e)) _ _ (keeps (λ w. refl)) (keeps (λ w. refl))

  number_kept : (w : Widths) (at : Pos) (t : Option CType) (e : TExpr) (n : Option ℕ) → FaultAlone T (case_number w at t e n)
  number_kept w at t e None = keeps (λ v. refl)
  number_kept w at None e (Some n) = keeps (λ v. refl)
  number_kept w at (Some t) e (Some n) = keeps (λ v. refl)

  jump_kept : (b : Bool) (y : TStmt) (at : Pos) → FaultAlone T (jump b y at)
  jump_kept true y at = keeps (λ w. refl)
  jump_kept false y at = keeps (λ w. refl)

  void_kept : (at : Pos) (e : TExpr) → FaultAlone T (return_void at e)
  void_kept at e = by_if (is_void (type_of e)) _ _ (keeps (λ w. refl)) (keeps (λ w. refl))

  return_kept : (w : Widths) (at : Pos) (t : Option CType) (e : TExpr) → FaultAlone T (return_as w at t e)
  return_kept w at None e = keeps (λ v. refl)
  return_kept w at (Some t) e = by_if (is_void t) _ _ (void_kept at e) (by_done (converted w i.Return at t e) (returned at) (converted_kept w i.Return at t e))

  choice_kept : (c : Option (Choice × Pos)) (seen : List Choice) → FaultAlone T (new_choice c seen)
  choice_kept None seen = keeps (λ w. refl)
  choice_kept (Some (c, at)) seen = by_test (not (list_any (same_choice c) seen)) (ill_typed_at i.Constant at)

  choices_kept : (ys : List (Option TStmt)) (seen : List Choice) → FaultAlone T (choices_differ ys seen)
  choices_kept [] seen = keeps (λ w. refl)
  choices_kept (y ∷ ys) seen = by_then _ _ (choice_kept (choice_of y) seen) (λ b. choices_kept ys (seen_with (choice_of y) seen))

  -- Steps.

  pub record OfStating (x : Stating) : Type 0 where
    pub run : (r : Inside) → InBlock T (x.run r)
    pub bare : (r : Inside) → InBlock T (x.bare r)

  items_kept : (xs : List Stating) (r : Inside) → Each OfStating xs → InBlock T (spec.items xs r)
  items_kept [] r ks = stays (λ w block. (refl, block))
  items_kept (x ∷ xs) r ks = in_then (x.run r) _ (ks.0.run r) (λ y. in_done (spec.items xs r) (λ ys. y ∷ ys) (items_kept xs r ks.1))

  block_kept : (xs : List Stating) (from to : Pos) (r : Inside) → Each OfStating xs → InBlock T (spec.block xs from to r)
  block_kept xs from to r ks = in_done (spec.items xs r) (λ ys. block_of from to (all_items ys)) (items_kept xs r ks)

  body_kept : (xs : List Stating) (r : Inside) → Each OfStating xs → InBlock T (spec.switch_body xs r)
  body_kept xs r ks = in_then (spec.items xs r) _ (items_kept xs r ks) (λ ys. in_done (choices_differ ys []) (λ c. all_items ys) (fault (choices_kept ys [])))

  module _ (here : Here) where
    value_kept : (e : Expr) → plain T e ≡ true → FaultAlone T (valued (typing here e))
    value_kept e h = valued_kept (typing here e) (expressions_kept T here e h)

    condition_kept : (at : Pos) (e : Expr) → plain T e ≡ true → FaultAlone T (spec.condition here at e)
    condition_kept at e h = by_then (valued (typing here e)) _ (value_kept e h) (λ x. by_given x (scalar at) (scalar_kept at))

    if_kept : (at : Pos) (e : Expr) (x : Stating) (r : Inside) → plain T e ≡ true → OfStating x → InBlock T (spec.if_statement here at e x None r)
    if_kept at e x r h k =
        in_then (spec.condition here at e) _ (fault (condition_kept at e h)) (λ c. in_done (scoped (x.run r)) (λ y. if_of at c y) (in_scope (x.run r) (k.run r)))

    if_else_kept : (at : Pos) (e : Expr) (x z : Stating) (r : Inside) → plain T e ≡ true → OfStating x → OfStating z → InBlock T (spec.if_statement here at e x (Some z) r)
    if_else_kept at e x z r h k l =
        in_then (spec.condition here at e) _ (fault (condition_kept at e h)) (λ c.
        in_then (scoped (x.run r)) _ (in_scope (x.run r) (k.run r)) (λ y. in_done (scoped (z.run r)) (λ t. if_else_of at c y t) (in_scope (z.run r) (l.run r))))

    while_kept : (at : Pos) (e : Expr) (x : Stating) (r : Inside) → plain T e ≡ true → OfStating x → InBlock T (spec.while_statement here at e x r)
    while_kept at e x r h k =
        in_then (spec.condition here at e) _ (fault (condition_kept at e h)) (λ c. in_done (scoped (x.run (in_loop r))) (λ y. while_of at c y) (in_scope (x.run (in_loop r)) (k.run (in_loop r))))

    do_kept : (at : Pos) (x : Stating) (e : Expr) (r : Inside) → plain T e ≡ true → OfStating x → InBlock T (spec.do_statement here at x e r)
    do_kept at x e r h k =
        in_then (scoped (x.run (in_loop r))) _ (in_scope (x.run (in_loop r)) (k.run (in_loop r))) (λ y. in_done (spec.condition here at e) (λ c. do_of at y c) (fault (condition_kept at e h)))

    start_kept : (f : ForStart) → plain_start T f ≡ true → InBlock T (spec.for_start here f)
    start_kept start.Nothing h = stays (λ w block. (refl, block))
    start_kept (start.Expr e) h = in_done (valued (typing here e)) (λ x. start_of x) (fault (value_kept e h))
    start_kept (start.Decl d at) h = in_done (declaration here false d) (λ ds. Some (tstart.Decl ds at)) (declaration_left here d h)

    test_kept : (at : Pos) (c : Option Expr) → plain_if T c ≡ true → FaultAlone T (spec.condition_if here at c)
    test_kept at None h = keeps (λ w. refl)
    test_kept at (Some e) h = by_done (spec.condition here at e) (λ x. optional x) (condition_kept at e h)

    value_if_kept : (n : Option Expr) → plain_if T n ≡ true → FaultAlone T (spec.value_if here n)
    value_if_kept None h = keeps (λ w. refl)
    value_if_kept (Some e) h = by_done (valued (typing here e)) (λ x. optional x) (value_kept e h)

    for_kept : (at : Pos) (f : ForStart) (c n : Option Expr) (x : Stating) (r : Inside) → plain_start T f ≡ true → plain_if T c ≡ true → plain_if T n ≡ true → OfStating x → InBlock T (spec.for_statement here at f c n x r)
    for_kept at f c n x r hf hc hn k =
        in_then (spec.for_start here f) _ (start_kept f hf) (λ g.
        in_then (spec.condition_if here at c) _ (fault (test_kept at c hc)) (λ d.
        in_then (spec.value_if here n) _ (fault (value_if_kept n hn)) (λ m.
        in_done (scoped (x.run (in_loop r))) (λ y. for_of at g d m y) (in_scope (x.run (in_loop r)) (k.run (in_loop r))))))

    switch_kept : (at to : Pos) (e : Expr) (xs : List Stating) (r : Inside) → plain T e ≡ true → Each OfStating xs → InBlock T (spec.switch_statement here at to e xs r)
    switch_kept at to e xs r h ks =
        in_then (valued (typing here e)) _ (fault (value_kept e h)) (λ x.
        in_then (given x (switched at)) _ (fault (by_given x (switched at) (switched_kept at))) (λ y.
        in_done (scoped (spec.switch_body xs (in_switch y r))) (λ ys. switch_of at to y ys) (in_scope (spec.switch_body xs (in_switch y r)) (body_kept xs (in_switch y r) ks))))

    case_kept : (at : Pos) (e : Expr) (r : Inside) → plain T e ≡ true → FaultAlone T (spec.case_statement here at e r)
    case_kept at e r h = by_then (valued (typing here e)) _ (value_kept e h) (λ x. by_given x (case_of here.widths at r.switch) (λ y. number_kept here.widths at r.switch y (constant_bits here.widths y)))

    leaving_kept : (at : Pos) (e : Option Expr) (r : Inside) → plain_if T e ≡ true → FaultAlone T (spec.return_statement here at e r)
    leaving_kept at None r h = keeps (λ w. refl)
    leaving_kept at (Some e) r h = by_then (valued (typing here e)) _ (value_kept e h) (λ x. by_given x (return_as here.widths at r.result) (return_kept here.widths at r.result))

    expression_kept : (at : Pos) (e : Option Expr) → plain_if T e ≡ true → FaultAlone T (spec.expression_statement here at e)
    expression_kept at None h = keeps (λ w. refl)
    expression_kept at (Some e) h = by_done (valued (typing here e)) (λ x. expression_of at x) (value_kept e h)

    -- The trees.

    abbrev Known : Type 0
    Known = (x : Stmt) × (plain_statement T x ≡ true → OfStating (stating here x))

    abbrev bare_tree : Stmt-F Known → Stmt-F Stmt
    bare_tree y = trees.map-Stmt Known Stmt (λ e. e.0) y

    abbrev typed_tree : Stmt-F Known → Stmt-F Stating
    typed_tree y = trees.map-Stmt Stmt Stating (stating here) (bare_tree y)

    abbrev tested_tree : Stmt-F Known → Stmt-F Bool
    tested_tree y = trees.map-Stmt Stmt Bool (plain_statement T) (bare_tree y)

    same_step : (m : Inside → Check (Option TStmt)) → ((r : Inside) → InBlock T (m r)) → OfStating (record { run = m; bare = m })
    same_step m k = record { run = k; bare = k }

    scoped_step : (m : Inside → Check (Option TStmt)) → ((r : Inside) → InBlock T (m r)) → OfStating (record { run = λ r. scoped (m r); bare = λ r. scoped (m r) })
    scoped_step m k = record { run = λ r. in_scope (m r) (k r); bare = λ r. in_scope (m r) (k r) }

    case_tree : (y : Stmt-F Known) → (stmt_plain T) (tested_tree y) ≡ true → OfStating (stmt_step here (typed_tree y))
    case_tree (Stmt-F.Block xs from to) h =
        let ks : Each OfStating (map (stating here) (map (λ x. x.0) xs)) = each_so (stating here) (plain_statement T) OfStating xs h in
        record {
          run = λ r. in_scope (spec.block (map (stating here) (map (λ x. x.0) xs)) from to r) (block_kept (map (stating here) (map (λ x. x.0) xs)) from to r ks);
          bare = λ r. block_kept (map (stating here) (map (λ x. x.0) xs)) from to r ks;
        }
    case_tree (Stmt-F.Decl d at) h = same_step _ (λ r. in_then (declaration here false d) (λ ds. statement (st.Decl ds at)) (declaration_left here d h) (λ ds. stays (λ w block. (refl, block))))
    case_tree (Stmt-F.Expr e at) h = same_step _ (λ r. fault (expression_kept at e h))
    case_tree (Stmt-F.If e x None at) h =
        scoped_step _ (λ r. if_kept at e (stating here x.0) r (first_so (plain T e) _ h) (x.1 (second_so (plain T e) _ h)))
    case_tree (Stmt-F.If e x (Some z) at) h =
        let rest : (plain_statement T x.0 && (plain_statement T) z.0) ≡ true = second_so (plain T e) _ h in
        scoped_step _ (λ r. if_else_kept at e (stating here x.0) (stating here z.0) r (first_so (plain T e) _ h) (x.1 (first_so (plain_statement T x.0) _ rest)) (z.1 (second_so (plain_statement T x.0) _ rest)))
    case_tree (Stmt-F.While e x at) h = scoped_step _ (λ r. while_kept at e (stating here x.0) r (first_so (plain T e) _ h) (x.1 (second_so (plain T e) _ h)))
    case_tree (Stmt-F.Do x e at) h = scoped_step _ (λ r. do_kept at (stating here x.0) e r (second_so (plain_statement T x.0) _ h) (x.1 (first_so (plain_statement T x.0) _ h)))
    case_tree (Stmt-F.For f x at) h =
        let rest : (plain_if T f.test && (plain_if T f.step && (plain_statement T) x.0)) ≡ true = second_so (plain_start T f.start) _ h in
        let last : (plain_if T f.step && (plain_statement T) x.0) ≡ true = second_so (plain_if T f.test) _ rest in
        scoped_step _ (λ r.
        for_kept at f.start f.test f.step (stating here x.0) r (first_so (plain_start T f.start) _ h) (first_so (plain_if T f.test) _ rest) (first_so (plain_if T f.step) _ last) (x.1 (second_so (plain_if T f.step) _ last)))
    case_tree (Stmt-F.Switch e xs at to) h =
        scoped_step _ (λ r.
        switch_kept at to e (map (stating here) (map (λ x. x.0) xs)) r (first_so (plain T e) _ h) (each_so (stating here) (plain_statement T) OfStating xs (second_so (plain T e) _ h)))
    case_tree (Stmt-F.Case e at) h = same_step _ (λ r. fault (case_kept at e r h))
    case_tree (Stmt-F.Default at) h = same_step _ (λ r. stays (λ w block. (refl, block)))
    case_tree (Stmt-F.Goto name at) h = same_step _ (λ r. stays (λ w block. (refl, block)))
    case_tree (Stmt-F.Break at) h = same_step _ (λ r. fault (jump_kept r.leaves (st.Break at) at))
    case_tree (Stmt-F.Continue at) h = same_step _ (λ r. fault (jump_kept r.loop (st.Continue at) at))
    case_tree (Stmt-F.Return e at) h = same_step _ (λ r. fault (leaving_kept at e r h))
    case_tree (Stmt-F.Label name x at) h = same_step _ (λ r. in_done ((stating here x.0).run r) (λ y. label_of name at y) ((x.1 h).run r))

    abbrev Law : Stmt → Type 0
    Law x = (plain_statement T) x ≡ true → OfStating (stating here x)

    step_tree : (x : Stmt-F Stmt) (y : Stmt-F Known) → bare_tree y ≡ x → Law (roll-Stmt x)
    step_tree x y is =
        subst (λ (z : Stmt-F Stmt). Law (roll-Stmt z)) is (λ h.
        subst OfStating (sym (trees.fold-roll-Stmt Stating (stmt_step here) (bare_tree y))) (case_tree y (sym (trees.fold-roll-Stmt Bool (stmt_plain T) (bare_tree y)) ∙ h)))

    pub statements_kept : (x : Stmt) → Law x
    statements_kept = trees.ind-Stmt Law step_tree
