-- Statements are typed: by induction over the trees of bodies.
use Rattle.std.proofs.Common.{◌≡◌, ℕ, Bool, true, false, List, [], ◌∷◌, map, refl, sym, ap, subst, ◌∙◌}
use Rattle.std.proofs.lemmas.Bool.{true≢false}
use Rattle.std.specs.Prelude.{Option, Some, None, if◌then◌else◌}
use Rattle.std.specs.Option.{option_zip}
use Rattle.sc_base.specs.declared.pos.Pos.{Pos}
use Rattle.sc_base.specs.declared.pos.NameId.{NameId}
use Rattle.sc_base.specs.declared.skip.IllTyped.TheVariants as i
use Rattle.sc_tree.specs.declared.ctype.CType.{CType}
use Rattle.sc_tree.specs.declared.ctype.CType.TheVariants as ty
use Rattle.sc_tree.specs.declared.ctype.Widths.{Widths}
use Rattle.sc_tree.specs.declared.expr.Expr.{Expr}
use Rattle.sc_tree.specs.declared.decl.Decl.{Decl as FileDecl}
use Rattle.sc_tree.specs.declared.stmt.ForStart.{ForStart}
use Rattle.sc_tree.specs.declared.stmt.ForStart.TheVariants as start
use Rattle.sc_tree.specs.declared.stmt.Stmt.{Stmt, Stmt-F, roll-Stmt}
use Rattle.sc_tree.specs.declared.stmt.Stmt.TheFolds as trees
use Rattle.sc_typed.specs.declared.expr.TExpr.{TExpr}
use Rattle.sc_typed.specs.declared.stmt.TDeclarator.{TDeclarator}
use Rattle.sc_typed.specs.declared.stmt.TForStart.{TForStart}
use Rattle.sc_typed.specs.declared.stmt.TForStart.TheVariants as tstart
use Rattle.sc_typed.specs.declared.stmt.TStmt.{TStmt, TStmt-F, roll-TStmt}
use Rattle.sc_typed.specs.declared.stmt.TStmt.TheFolds as folds
use Rattle.sc_typed.specs.declared.stmt.TStmt.TheVariants as st
use Rattle.sc_typed.specs.Types as typed
use Rattle.sc_typed.specs.Constants.{constant_bits}
use Rattle.sc_rules.specs.Faults.{ill_typed_at}
use Rattle.sc_rules.specs.Walks.{Check, ◌>>=◌, done, given, no_scope, open_scope, scoped}
use Rattle.sc_rules.specs.Conversions.{type_of, promote, converted}
use Rattle.sc_statements.specs.Forms.{in_front, all_items, block_of, expression_of, if_with, if_of, if_else_with, if_else_of, while_with, while_of, do_with, do_of, optional, start_of, for_with, for_of, switch_with, switch_of, label_of}
use Rattle.sc_statements.specs.Choices.{choices_differ}
use Rattle.sc_statements.specs.Statements.{scalar, switched, statement, case_number, case_of, jump, returned, return_void, return_as}
use Rattle.sc_typing.specs.Here.{Here}
use Rattle.sc_typing.specs.Typing.{typing, valued}
use Rattle.sc_declarations.specs.Declarations.{declaration}
use Rattle.sc_bodies.specs.Bodies as spec
use Rattle.sc_bodies.specs.Bodies.{Inside, in_loop, in_switch, Stating, stmt_step, stating}
use Rattle.sc_world.specs.Tree as tree
use Rattle.sc_world.specs.Tree.{Ty, Stm, Stms, NoStms, Stms', Block, Decl, Evaluate, If, IfElse, While, Do, For, Switch, Case, Default, Goto, Break, Continue, Return, Label}
use Rattle.sc_world.specs.Source.{Source}
use Rattle.sc_world.specs.View.{type, exp, exp_if, dec, start_of as seen_start, stms, stm, stm_step}
use Rattle.sc_world.specs.Eval.{Value}
use Rattle.run_laws.specs.Fits.{is_scalar}
use Rattle.fitting_laws.specs.Typed.{IsTyped}
use Rattle.fitting_laws.specs.Statements.{StatementTyped, StatementsTyped, StartTyped, TestTypedIf, TypedIf}
use Rattle.typed_laws.specs.Named.{NamesAgree}
use Rattle.typed_laws.specs.Agrees.{StatementAgrees, StatementsAgree, StartAgrees, AgreesIf, ResultIs}
use Rattle.typed_laws.specs.Meanings.{MeansAlike}
use Rattle.typed_laws.proofs.Types.{void_seen, type_void}
use Rattle.typed_laws.proofs.Trees.{typed_of}
use Rattle.typed_laws.proofs.Steps.{OnSome, Every, Gives, by_then, by_done, by_some, by_none, by_fault, by_if, by_unless, by_given, behind}
use Rattle.typed_laws.proofs.Made.{seen, Valued, Brought, seen_scalar}
use Rattle.typed_laws.proofs.Operators.{in_integer, brought_integer}
use Rattle.typed_laws.proofs.Values.{Given, converted_made}
use Rattle.typed_laws.proofs.Walk.{Each, valued_made}
use Rattle.typed_laws.proofs.Induction.{expressions_made}
use Rattle.typed_laws.proofs.Declared.{Declarators, declarators_typed, declaration_made}

zipped : {A B : Type 0} (P : A → Type 0) (Q : B → Type 0) (a : Option A) (b : Option B) → OnSome P a → OnSome Q b → OnSome (λ (x : A × B). P x.0 × Q x.1) (option_zip a b)
zipped P Q None b h k = tt
zipped P Q (Some a) None h k = tt
zipped P Q (Some a) (Some b) h k = (h, k)

in_scope : {A : Type 0} (P : A → Type 0) (m : Check A) → Every P m → Every P (scoped m)
in_scope P m h = record { all = λ w. h.all (open_scope no_scope w).1 }

each : {A B : Type 0} (f : A → B) (P : B → Type 0) (xs : List ((a : A) × P (f a))) → Each P (map f (map (λ x. x.0) xs))
each f P [] = tt
each f P (x ∷ xs) = (x.1, each f P xs)

void_is : (t : Ty) → tree.is_void t ≡ true → t ≡ tree.Void
void_is tree.Void h = refl
void_is _ h = absurd (true≢false (sym h))

module _ (s : Source) where
  abbrev seen_stm : TStmt → Stm
  seen_stm y = stm s.structs y

  pub record StmtMade (y : TStmt) : Type 0 where
    pub typed : StatementAgrees s (seen_stm y) → StatementTyped s (seen_stm y)

  stmt_by : (y : TStmt) (f : TStmt-F TStmt) (m : Stm) → roll-TStmt f ≡ y → stm_step s.structs (folds.map-TStmt TStmt Stm (stm s.structs) f) ≡ m → (StatementAgrees s m → StatementTyped s m) → StmtMade y
  stmt_by y f m rolls computes h =
      let is : seen_stm y ≡ m = ap (stm s.structs) (sym rolls) ∙ (folds.fold-roll-TStmt Stm (stm_step s.structs) f ∙ computes) in
      record { typed = λ a. subst (StatementTyped s) (sym is) (h (subst (StatementAgrees s) is a)) }

  abbrev pub AllMade : List TStmt → Type 0
  AllMade [] = Unit {0}
  AllMade (y ∷ ys) = StmtMade y × AllMade ys

  all_typed : (ys : List TStmt) → AllMade ys → StatementsAgree s (stms (map (stm s.structs) ys)) → StatementsTyped s (stms (map (stm s.structs) ys))
  all_typed [] h a = tt
  all_typed (y ∷ ys) h a = (h.0.typed a.0, all_typed ys h.1 a.1)

  -- Expressions that stand in statements.

  abbrev ValueMade : TExpr → Type 0
  ValueMade x = NamesAgree s (seen s x) → IsTyped s Value (seen s x)

  abbrev Test : TExpr → Type 0
  Test x = ValueMade x × (is_scalar (tree.type_of (seen s x)) ≡ true)

  abbrev Whole : TExpr → Type 0
  Whole x = ValueMade x × (tree.is_integer (tree.type_of (seen s x)) ≡ true)

  abbrev If' : (TExpr → Type 0) → Option TExpr → Type 0
  If' P None = Unit {0}
  If' P (Some x) = P x

  test_typed : (c : Option TExpr) → If' Test c → AgreesIf s (exp_if s.structs c) → TestTypedIf s (exp_if s.structs c)
  test_typed None h a = tt
  test_typed (Some x) h a = (h.0 a, h.1)

  if_typed : (c : Option TExpr) → If' ValueMade c → AgreesIf s (exp_if s.structs c) → TypedIf s (exp_if s.structs c)
  if_typed None h a = tt
  if_typed (Some x) h a = h a

  abbrev StartMade : TForStart → Type 0
  StartMade tstart.Nothing = Unit {0}
  StartMade (tstart.Expr e) = ValueMade e
  StartMade (tstart.Decl ds p) = Declarators s ds

  start_typed : (f : TForStart) → StartMade f → StartAgrees s (seen_start s.structs f) → StartTyped s (seen_start s.structs f)
  start_typed tstart.Nothing h a = tt
  start_typed (tstart.Expr e) h a = h a
  start_typed (tstart.Decl ds p) h a = declarators_typed s ds h a

  -- Statements of their parts.

  block_made : (from to : Pos) (ys : Option (List TStmt)) → OnSome AllMade ys → OnSome StmtMade (block_of from to ys)
  block_made from to None h = tt
  block_made from to (Some ys) h = stmt_by (st.Block ys from to) (TStmt-F.Block ys from to) (Block (stms (map (stm s.structs) ys)) to) (st.rolls-Block ys from to) refl (all_typed ys h)

  if_made : (at : Pos) (o : Option (TExpr × TStmt)) → OnSome (λ (x : TExpr × TStmt). Test x.0 × StmtMade x.1) o → OnSome StmtMade (if_with at o)
  if_made at None h = tt
  if_made at (Some (e, y)) h = stmt_by (st.If e y None at) (TStmt-F.If e y None at) (If at (seen s e) (seen_stm y)) (st.rolls-If e y None at) refl (λ a. ((h.0.0 a.0, h.0.1), h.1.typed a.1))

  if_else_made : (at : Pos) (o : Option ((TExpr × TStmt) × TStmt)) → OnSome (λ (x : (TExpr × TStmt) × TStmt). (Test x.0.0 × StmtMade x.0.1) × StmtMade x.1) o → OnSome StmtMade (if_else_with at o)
  if_else_made at None h = tt
  if_else_made at (Some ((e, y), z)) h =
      stmt_by (st.If e y (Some z) at) (TStmt-F.If e y (Some z) at) (IfElse at (seen s e) (seen_stm y) (seen_stm z)) (st.rolls-If e y (Some z) at) refl (λ a. ((h.0.0.0 a.0, h.0.0.1), h.0.1.typed a.1, h.1.typed a.2))

  while_made : (at : Pos) (o : Option (TExpr × TStmt)) → OnSome (λ (x : TExpr × TStmt). Test x.0 × StmtMade x.1) o → OnSome StmtMade (while_with at o)
  while_made at None h = tt
  while_made at (Some (e, y)) h = stmt_by (st.While e y at) (TStmt-F.While e y at) (While at (seen s e) (seen_stm y)) (st.rolls-While e y at) refl (λ a. ((h.0.0 a.0, h.0.1), h.1.typed a.1))

  do_made : (at : Pos) (o : Option (TStmt × TExpr)) → OnSome (λ (x : TStmt × TExpr). StmtMade x.0 × Test x.1) o → OnSome StmtMade (do_with at o)
  do_made at None h = tt
  do_made at (Some (y, e)) h = stmt_by (st.Do y e at) (TStmt-F.Do y e at) (Do at (seen_stm y) (seen s e)) (st.rolls-Do y e at) refl (λ a. (h.0.typed a.0, (h.1.0 a.1, h.1.1)))

  abbrev ForMade : (TForStart × Option TExpr) × (Option TExpr × TStmt) → Type 0
  ForMade x = (StartMade x.0.0 × If' Test x.0.1) × (If' ValueMade x.1.0 × StmtMade x.1.1)

  for_made : (at : Pos) (o : Option ((TForStart × Option TExpr) × (Option TExpr × TStmt))) → OnSome ForMade o → OnSome StmtMade (for_with at o)
  for_made at None h = tt
  for_made at (Some ((f, c), (n, y))) h =
      stmt_by (st.For f c n y at) (TStmt-F.For f c n y at) (For at (seen_start s.structs f) (exp_if s.structs c) (exp_if s.structs n) (seen_stm y)) (st.rolls-For f c n y at) refl
      (λ a. (start_typed f h.0.0 a.0, test_typed c h.0.1 a.1, if_typed n h.1.0 a.2, h.1.1.typed a.3))

  switch_made : (at to : Pos) (o : Option (TExpr × List TStmt)) → OnSome (λ (x : TExpr × List TStmt). Whole x.0 × AllMade x.1) o → OnSome StmtMade (switch_with at to o)
  switch_made at to None h = tt
  switch_made at to (Some (e, ys)) h =
      stmt_by (st.Switch e ys at to) (TStmt-F.Switch e ys at to) (Switch at (seen s e) (stms (map (stm s.structs) ys))) (st.rolls-Switch e ys at to) refl (λ a. (h.0.0 a.0, h.0.1, all_typed ys h.1 a.1))

  label_made : (name : NameId) (at : Pos) (o : Option TStmt) → OnSome StmtMade o → OnSome StmtMade (label_of name at o)
  label_made name at None h = tt
  label_made name at (Some y) h = stmt_by (st.Label name y at) (TStmt-F.Label name y at) (Label name (seen_stm y)) (st.rolls-Label name y at) refl h.typed

  evaluate_made : (e : Option TExpr) (at : Pos) → If' ValueMade e → StmtMade (st.Expr e at)
  evaluate_made e at h = stmt_by (st.Expr e at) (TStmt-F.Expr e at) (Evaluate (exp_if s.structs e)) (st.rolls-Expr e at) refl (if_typed e h)

  expression_made : (at : Pos) (o : Option TExpr) → OnSome ValueMade o → OnSome StmtMade (expression_of at o)
  expression_made at None h = tt
  expression_made at (Some e) h = evaluate_made (Some e) at h

  decl_made : (ds : List TDeclarator) (at : Pos) → Declarators s ds → StmtMade (st.Decl ds at)
  decl_made ds at h = stmt_by (st.Decl ds at) (TStmt-F.Decl ds at) (Decl (map (dec s.structs) ds)) (st.rolls-Decl ds at) refl (declarators_typed s ds h)

  default_made : (at : Pos) → StmtMade (st.Default at)
  default_made at = stmt_by (st.Default at) (TStmt-F.Default at) Default (st.rolls-Default at) refl (λ a. tt)

  case_made : (n : ℕ) (e : TExpr) (at : Pos) → StmtMade (st.Case n e at)
  case_made n e at = stmt_by (st.Case n e at) (TStmt-F.Case n e at) (Case n (seen s e)) (st.rolls-Case n e at) refl (λ a. tt)

  goto_made : (n : NameId) (at : Pos) → StmtMade (st.Goto n at)
  goto_made n at = stmt_by (st.Goto n at) (TStmt-F.Goto n at) (Goto at n) (st.rolls-Goto n at) refl (λ a. tt)

  break_made : (at : Pos) → StmtMade (st.Break at)
  break_made at = stmt_by (st.Break at) (TStmt-F.Break at) Break (st.rolls-Break at) refl (λ a. tt)

  continue_made : (at : Pos) → StmtMade (st.Continue at)
  continue_made at = stmt_by (st.Continue at) (TStmt-F.Continue at) Continue (st.rolls-Continue at) refl (λ a. tt)

  return_made : (e : TExpr) (at : Pos) → ValueMade e → tree.type_of (seen s e) ≡ s.result → StmtMade (st.Return (Some e) at)
  return_made e at h is = stmt_by (st.Return (Some e) at) (TStmt-F.Return (Some e) at) (Return at (Some (seen s e))) (st.rolls-Return (Some e) at) refl (λ a. (h a, is))

  return_nothing : (at : Pos) → StmtMade (st.Return None at)
  return_nothing at = stmt_by (st.Return None at) (TStmt-F.Return None at) (Return at None) (st.rolls-Return None at) refl (λ a. tt)

  -- Rules.

  value_of : (o : Option TExpr) → OnSome (Valued s) o → OnSome ValueMade o
  value_of None h = tt
  value_of (Some x) h = h.value

  scalar_made : (at : Pos) (e : TExpr) → Valued s e → Gives Test (scalar at e)
  scalar_made at e v = by_unless Test (typed.is_scalar (type_of e)) _ (ill_typed_at i.Operand at) (λ h. by_some Test e (v.value, seen_scalar s e true h))

  switched_made : (at : Pos) (e : TExpr) → Valued s e → Gives Whole (switched at e)
  switched_made at e v =
      by_unless Whole (typed.is_integer (type_of e)) _ (ill_typed_at i.Operand at) (λ h.
      let r = in_integer s (typed.promoted_kind (type_of e)) e v h in
      by_some Whole (promote e) (r.value, brought_integer s (typed.promoted_kind (type_of e)) (promote e) r))

  number_made : (w : Widths) (at : Pos) (t : Option CType) (e : TExpr) (n : Option ℕ) → Gives StmtMade (case_number w at t e n)
  number_made w at t e None = by_fault StmtMade (ill_typed_at i.Constant at)
  number_made w at None e (Some n) = by_none StmtMade
  number_made w at (Some t) e (Some n) = by_some StmtMade _ (case_made _ e at)

  jump_made : (b : Bool) (y : TStmt) (at : Pos) → StmtMade y → Gives StmtMade (jump b y at)
  jump_made true y at h = by_some StmtMade y h
  jump_made false y at h = by_fault StmtMade (ill_typed_at i.Constant at)

  void_made : (at : Pos) (t : CType) (e : TExpr) → typed.is_void t ≡ true → type t ≡ s.result → Valued s e → Gives StmtMade (return_void at e)
  void_made at t e h is v =
      by_unless StmtMade (typed.is_void (type_of e)) _ (ill_typed_at i.Return at) (λ k.
      by_some StmtMade (st.Return (Some e) at) (return_made e at v.value (typed_of s.structs e ∙ (void_is (type (type_of e)) (void_seen (type_of e) ∙ k) ∙ (sym (void_is (type t) (void_seen t ∙ h)) ∙ is)))))

  return_as_made : (w : Widths) (at : Pos) (t : Option CType) (e : TExpr) → ResultIs s t → Valued s e → Gives StmtMade (return_as w at t e)
  return_as_made w at None e is v = by_none StmtMade
  return_as_made w at (Some t) e is v =
      by_if (OnSome StmtMade) (typed.is_void t) _ _ (λ h. void_made at t e h is v)
      (λ h. by_then (OnSome (Given s t)) (OnSome StmtMade) (converted w i.Return at t e) _ (converted_made s w i.Return at t e v) (λ x hx. by_done (OnSome StmtMade) (returned at x) (side x hx)))
    where
      side : (x : Option TExpr) → OnSome (Given s t) x → OnSome StmtMade (returned at x)
      side None h = tt
      side (Some y) h = return_made y at h.value (h.type ∙ is)

  -- Steps.

  pub record OfStating (x : Stating) : Type 0 where
    pub run : (r : Inside) → ResultIs s r.result → Gives StmtMade (x.run r)
    pub bare : (r : Inside) → ResultIs s r.result → Gives StmtMade (x.bare r)

  abbrev Listed : List (Option TStmt) → Type 0
  Listed [] = Unit {0}
  Listed (y ∷ ys) = OnSome StmtMade y × Listed ys

  items_made : (xs : List Stating) (r : Inside) → Each OfStating xs → ResultIs s r.result → Every Listed (spec.items xs r)
  items_made [] r h is = by_done Listed [] tt
  items_made (x ∷ xs) r h is =
      by_then (OnSome StmtMade) Listed (x.run r) _ (h.0.run r is) (λ y hy. by_then Listed Listed (spec.items xs r) _ (items_made xs r h.1 is) (λ ys hys. by_done Listed (y ∷ ys) (hy, hys)))

  listed : (ys : List (Option TStmt)) → Listed ys → OnSome AllMade (all_items ys)
  listed [] h = tt
  listed (y ∷ ys) h = joined y (all_items ys) h.0 (listed ys h.1)
    where
      joined : (y : Option TStmt) (r : Option (List TStmt)) → OnSome StmtMade y → OnSome AllMade r → OnSome AllMade (in_front y r)
      joined None r h k = tt
      joined (Some y) None h k = tt
      joined (Some y) (Some ys) h k = (h, k)

  block_step : (xs : List Stating) (from to : Pos) (r : Inside) → Each OfStating xs → ResultIs s r.result → Gives StmtMade (spec.block xs from to r)
  block_step xs from to r h is = by_then Listed (OnSome StmtMade) (spec.items xs r) _ (items_made xs r h is) (λ ys hys. by_done (OnSome StmtMade) _ (block_made from to (all_items ys) (listed ys hys)))

  body_step : (xs : List Stating) (r : Inside) → Each OfStating xs → ResultIs s r.result → Gives AllMade (spec.switch_body xs r)
  body_step xs r h is =
      by_then Listed (OnSome AllMade) (spec.items xs r) _ (items_made xs r h is) (λ ys hys. behind (OnSome AllMade) (choices_differ ys []) _ (λ c. by_done (OnSome AllMade) (all_items ys) (listed ys hys)))

  in_switch_is : (y : Option TExpr) (r : Inside) → ResultIs s r.result → ResultIs s (in_switch y r).result
  in_switch_is None r is = is
  in_switch_is (Some e) r is = is

  module _ (here : Here) (alike : MeansAlike here s) where
    value_made : (e : Expr) → Gives (Valued s) (valued (typing here e))
    value_made e = valued_made s (typing here e) (expressions_made s here alike e)

    condition_made : (at : Pos) (e : Expr) → Gives Test (spec.condition here at e)
    condition_made at e = by_then (OnSome (Valued s)) (OnSome Test) (valued (typing here e)) _ (value_made e) (λ x hx. by_given (Valued s) Test x (scalar at) hx (λ y v. scalar_made at y v))

    if_step : (at : Pos) (e : Expr) (x : Stating) (r : Inside) → OfStating x → ResultIs s r.result → Gives StmtMade (spec.if_statement here at e x None r)
    if_step at e x r h is =
        by_then (OnSome Test) (OnSome StmtMade) (spec.condition here at e) _ (condition_made at e) (λ c hc.
        by_then (OnSome StmtMade) (OnSome StmtMade) (scoped (x.run r)) _ (in_scope (OnSome StmtMade) (x.run r) (h.run r is)) (λ y hy.
        by_done (OnSome StmtMade) (if_of at c y) (if_made at (option_zip c y) (zipped Test StmtMade c y hc hy))))

    if_else_step : (at : Pos) (e : Expr) (x z : Stating) (r : Inside) → OfStating x → OfStating z → ResultIs s r.result → Gives StmtMade (spec.if_statement here at e x (Some z) r)
    if_else_step at e x z r h k is =
        by_then (OnSome Test) (OnSome StmtMade) (spec.condition here at e) _ (condition_made at e) (λ c hc.
        by_then (OnSome StmtMade) (OnSome StmtMade) (scoped (x.run r)) _ (in_scope (OnSome StmtMade) (x.run r) (h.run r is)) (λ y hy.
        by_then (OnSome StmtMade) (OnSome StmtMade) (scoped (z.run r)) _ (in_scope (OnSome StmtMade) (z.run r) (k.run r is)) (λ t ht.
        by_done (OnSome StmtMade) (if_else_of at c y t) (if_else_made at (option_zip (option_zip c y) t) (zipped (λ (x : TExpr × TStmt). Test x.0 × StmtMade x.1) StmtMade (option_zip c y) t (zipped Test StmtMade c y hc hy) ht)))))

    while_step : (at : Pos) (e : Expr) (x : Stating) (r : Inside) → OfStating x → ResultIs s r.result → Gives StmtMade (spec.while_statement here at e x r)
    while_step at e x r h is =
        by_then (OnSome Test) (OnSome StmtMade) (spec.condition here at e) _ (condition_made at e) (λ c hc.
        by_then (OnSome StmtMade) (OnSome StmtMade) (scoped (x.run (in_loop r))) _ (in_scope (OnSome StmtMade) (x.run (in_loop r)) (h.run (in_loop r) is)) (λ y hy.
        by_done (OnSome StmtMade) (while_of at c y) (while_made at (option_zip c y) (zipped Test StmtMade c y hc hy))))

    do_step : (at : Pos) (x : Stating) (e : Expr) (r : Inside) → OfStating x → ResultIs s r.result → Gives StmtMade (spec.do_statement here at x e r)
    do_step at x e r h is =
        by_then (OnSome StmtMade) (OnSome StmtMade) (scoped (x.run (in_loop r))) _ (in_scope (OnSome StmtMade) (x.run (in_loop r)) (h.run (in_loop r) is)) (λ y hy.
        by_then (OnSome Test) (OnSome StmtMade) (spec.condition here at e) _ (condition_made at e) (λ c hc.
        by_done (OnSome StmtMade) (do_of at y c) (do_made at (option_zip y c) (zipped StmtMade Test y c hy hc))))

    started : (o : Option TExpr) → OnSome (Valued s) o → OnSome StartMade (start_of o)
    started None h = tt
    started (Some x) h = h.value

    start_made : (f : ForStart) → Gives StartMade (spec.for_start here f)
    start_made start.Nothing = by_some StartMade tstart.Nothing tt
    start_made (start.Expr e) = by_then (OnSome (Valued s)) (OnSome StartMade) (valued (typing here e)) _ (value_made e) (λ x hx. by_done (OnSome StartMade) (start_of x) (started x hx))
    start_made (start.Decl d at) = by_then (Declarators s) (OnSome StartMade) (declaration here false d) _ (declaration_made s here alike false d) (λ ds hds. by_some StartMade (tstart.Decl ds at) hds)

    optional_made : (P : TExpr → Type 0) (o : Option TExpr) → OnSome P o → OnSome (If' P) (optional o)
    optional_made P None h = tt
    optional_made P (Some x) h = h

    test_if_made : (at : Pos) (c : Option Expr) → Gives (If' Test) (spec.condition_if here at c)
    test_if_made at None = by_some (If' Test) None tt
    test_if_made at (Some e) = by_then (OnSome Test) (OnSome (If' Test)) (spec.condition here at e) _ (condition_made at e) (λ x hx. by_done (OnSome (If' Test)) (optional x) (optional_made Test x hx))

    value_if_made : (n : Option Expr) → Gives (If' ValueMade) (spec.value_if here n)
    value_if_made None = by_some (If' ValueMade) None tt
    value_if_made (Some e) = by_then (OnSome (Valued s)) (OnSome (If' ValueMade)) (valued (typing here e)) _ (value_made e) (λ x hx. by_done (OnSome (If' ValueMade)) (optional x) (optional_made ValueMade x (value_of x hx)))

    for_step : (at : Pos) (f : ForStart) (c n : Option Expr) (x : Stating) (r : Inside) → OfStating x → ResultIs s r.result → Gives StmtMade (spec.for_statement here at f c n x r)
    for_step at f c n x r h is =
        by_then (OnSome StartMade) (OnSome StmtMade) (spec.for_start here f) _ (start_made f) (λ g hg.
        by_then (OnSome (If' Test)) (OnSome StmtMade) (spec.condition_if here at c) _ (test_if_made at c) (λ d hd.
        by_then (OnSome (If' ValueMade)) (OnSome StmtMade) (spec.value_if here n) _ (value_if_made n) (λ m hm.
        by_then (OnSome StmtMade) (OnSome StmtMade) (scoped (x.run (in_loop r))) _ (in_scope (OnSome StmtMade) (x.run (in_loop r)) (h.run (in_loop r) is)) (λ y hy.
        by_done (OnSome StmtMade) (for_of at g d m y) (for_made at (option_zip (option_zip g d) (option_zip m y))
        (zipped (λ (x : TForStart × Option TExpr). StartMade x.0 × If' Test x.1) (λ (x : Option TExpr × TStmt). If' ValueMade x.0 × StmtMade x.1) (option_zip g d) (option_zip m y) (zipped StartMade (If' Test) g d hg hd) (zipped (If' ValueMade) StmtMade m y hm hy)))))))

    switch_step : (at to : Pos) (e : Expr) (xs : List Stating) (r : Inside) → Each OfStating xs → ResultIs s r.result → Gives StmtMade (spec.switch_statement here at to e xs r)
    switch_step at to e xs r h is =
        by_then (OnSome (Valued s)) (OnSome StmtMade) (valued (typing here e)) _ (value_made e) (λ x hx.
        by_then (OnSome Whole) (OnSome StmtMade) (given x (switched at)) _ (by_given (Valued s) Whole x (switched at) hx (λ y v. switched_made at y v)) (λ y hy.
        by_then (OnSome AllMade) (OnSome StmtMade) (scoped (spec.switch_body xs (in_switch y r))) _ (in_scope (OnSome AllMade) (spec.switch_body xs (in_switch y r)) (body_step xs (in_switch y r) h (in_switch_is y r is))) (λ ys hys.
        by_done (OnSome StmtMade) (switch_of at to y ys) (switch_made at to (option_zip y ys) (zipped Whole AllMade y ys hy hys)))))

    case_step : (at : Pos) (e : Expr) (r : Inside) → Gives StmtMade (spec.case_statement here at e r)
    case_step at e r = by_then (OnSome (Valued s)) (OnSome StmtMade) (valued (typing here e)) _ (value_made e) (λ x hx. by_given (Valued s) StmtMade x (case_of here.widths at r.switch) hx (λ y v. number_made here.widths at r.switch y (constant_bits here.widths y)))

    return_step : (at : Pos) (e : Option Expr) (r : Inside) → ResultIs s r.result → Gives StmtMade (spec.return_statement here at e r)
    return_step at None r is = by_some StmtMade (st.Return None at) (return_nothing at)
    return_step at (Some e) r is = by_then (OnSome (Valued s)) (OnSome StmtMade) (valued (typing here e)) _ (value_made e) (λ x hx. by_given (Valued s) StmtMade x (return_as here.widths at r.result) hx (λ y v. return_as_made here.widths at r.result y is v))

    expression_step : (at : Pos) (e : Option Expr) → Gives StmtMade (spec.expression_statement here at e)
    expression_step at None = by_some StmtMade (st.Expr None at) (evaluate_made None at tt)
    expression_step at (Some e) = by_then (OnSome (Valued s)) (OnSome StmtMade) (valued (typing here e)) _ (value_made e) (λ x hx. by_done (OnSome StmtMade) (expression_of at x) (expression_made at x (value_of x hx)))

    decl_step : (d : FileDecl) (at : Pos) → Gives StmtMade (declaration here false d >>= λ ds. statement (st.Decl ds at))
    decl_step d at = by_then (Declarators s) (OnSome StmtMade) (declaration here false d) _ (declaration_made s here alike false d) (λ ds hds. by_some StmtMade (st.Decl ds at) (decl_made ds at hds))

    -- The trees.

    abbrev Known : Type 0
    Known = (x : Stmt) × OfStating (stating here x)

    abbrev bare_tree : Stmt-F Known → Stmt-F Stmt
    bare_tree y = trees.map-Stmt Known Stmt (λ e. e.0) y

    abbrev typed_tree : Stmt-F Known → Stmt-F Stating
    typed_tree y = trees.map-Stmt Stmt Stating (stating here) (bare_tree y)

    same_step : (m : Inside → Check (Option TStmt)) → ((r : Inside) → ResultIs s r.result → Gives StmtMade (m r)) → OfStating (record { run = m; bare = m })
    same_step m h = record { run = h; bare = h }

    scoped_step : (m : Inside → Check (Option TStmt)) → ((r : Inside) → ResultIs s r.result → Gives StmtMade (m r)) → OfStating (record { run = λ r. scoped (m r); bare = λ r. scoped (m r) })
    scoped_step m h = record { run = λ r is. in_scope (OnSome StmtMade) (m r) (h r is); bare = λ r is. in_scope (OnSome StmtMade) (m r) (h r is) }

    case_tree : (y : Stmt-F Known) → OfStating (stmt_step here (typed_tree y))
    case_tree (Stmt-F.Block xs from to) =
        record {
          run = λ r is. in_scope (OnSome StmtMade) (spec.block (map (stating here) (map (λ x. x.0) xs)) from to r) (block_step (map (stating here) (map (λ x. x.0) xs)) from to r (each (stating here) OfStating xs) is);
          bare = λ r is. block_step (map (stating here) (map (λ x. x.0) xs)) from to r (each (stating here) OfStating xs) is;
        }
    case_tree (Stmt-F.Decl d at) = same_step _ (λ r is. decl_step d at)
    case_tree (Stmt-F.Expr e at) = same_step _ (λ r is. expression_step at e)
    case_tree (Stmt-F.If e x None at) = scoped_step _ (λ r is. if_step at e (stating here x.0) r x.1 is)
    case_tree (Stmt-F.If e x (Some z) at) = scoped_step _ (λ r is. if_else_step at e (stating here x.0) (stating here z.0) r x.1 z.1 is)
    case_tree (Stmt-F.While e x at) = scoped_step _ (λ r is. while_step at e (stating here x.0) r x.1 is)
    case_tree (Stmt-F.Do x e at) = scoped_step _ (λ r is. do_step at (stating here x.0) e r x.1 is)
    case_tree (Stmt-F.For h x at) = scoped_step _ (λ r is. for_step at h.start h.test h.step (stating here x.0) r x.1 is)
    case_tree (Stmt-F.Switch e xs at to) = scoped_step _ (λ r is. switch_step at to e (map (stating here) (map (λ x. x.0) xs)) r (each (stating here) OfStating xs) is)
    case_tree (Stmt-F.Case e at) = same_step _ (λ r is. case_step at e r)
    case_tree (Stmt-F.Default at) = same_step _ (λ r is. by_some StmtMade (st.Default at) (default_made at))
    case_tree (Stmt-F.Goto name at) = same_step _ (λ r is. by_some StmtMade (st.Goto name at) (goto_made name at))
    case_tree (Stmt-F.Break at) = same_step _ (λ r is. jump_made r.leaves (st.Break at) at (break_made at))
    case_tree (Stmt-F.Continue at) = same_step _ (λ r is. jump_made r.loop (st.Continue at) at (continue_made at))
    case_tree (Stmt-F.Return e at) = same_step _ (λ r is. return_step at e r is)
    case_tree (Stmt-F.Label name x at) = same_step _ (λ r is. by_then (OnSome StmtMade) (OnSome StmtMade) ((stating here x.0).run r) _ (x.1.run r is) (λ y hy. by_done (OnSome StmtMade) (label_of name at y) (label_made name at y hy)))

    step_tree : (x : Stmt-F Stmt) (y : Stmt-F Known) → bare_tree y ≡ x → OfStating (stating here (roll-Stmt x))
    step_tree x y is = subst (λ (z : Stmt-F Stmt). OfStating (stating here (roll-Stmt z))) is (subst OfStating (sym (trees.fold-roll-Stmt Stating (stmt_step here) (bare_tree y))) (case_tree y))

    pub statements_made : (x : Stmt) → OfStating (stating here x)
    statements_made = trees.ind-Stmt (λ x. OfStating (stating here x)) step_tree
