-- What typing gives in one walk.
use Rattle.std.proofs.Common.{◌≡◌, Bool, true, refl, sym, subst}
use Rattle.std.specs.Prelude.{Option, Some, None}
use Rattle.sc_tree.specs.declared.expr.Expr.{Expr}
use Rattle.sc_typed.specs.declared.expr.TExpr.{TExpr}
use Rattle.sc_typed.specs.Constants.{is_lvalue}
use Rattle.sc_rules.specs.declared.walk.Walk.{Walk}
use Rattle.sc_typing.specs.Here.{Here}
use Rattle.sc_typing.specs.Typing.{typing, valued}
use Rattle.sc_world.specs.Source.{Source}
use Rattle.sc_world.specs.View.{exp, stm}
use Rattle.sc_world.specs.Eval.{Value, Place'}
use Rattle.fitting_laws.specs.Typed.{IsTyped}
use Rattle.typed_laws.specs.Named.{NamesAgree}
use Rattle.typed_laws.specs.Meanings.{MeansAlike}
use Rattle.typed_laws.proofs.Steps.{OnSome}
use Rattle.typed_laws.proofs.Made.{Valued}
use Rattle.typed_laws.proofs.Members.{MadeAs}
use Rattle.typed_laws.proofs.Walk.{valued_made}
use Rattle.typed_laws.proofs.Induction.{expressions_made}
use Rattle.typed_laws.proofs.Stated.{StmtMade, OfStating, statements_made}
use Rattle.sc_tree.specs.declared.stmt.Stmt.{Stmt}
use Rattle.sc_typed.specs.declared.stmt.TStmt.{TStmt}
use Rattle.sc_bodies.specs.Bodies.{Inside, stating}
use Rattle.fitting_laws.specs.Statements.{StatementTyped}
use Rattle.typed_laws.specs.Agrees.{ResultIs, StatementAgrees}

pub values_typed : (s : Source) (here : Here) → MeansAlike here s → (e : Expr) (w : Walk) (x : TExpr) → (valued (typing here e) w).0 ≡ Some x → NamesAgree s (exp s.structs x) → IsTyped s Value (exp s.structs x)
values_typed s here alike e w x is names =
    let v : Valued s x = subst (OnSome (Valued s)) is ((valued_made s (typing here e) (expressions_made s here alike e)).all w) in
    v.value names

pub places_typed : (s : Source) (here : Here) → MeansAlike here s → (e : Expr) (w : Walk) (x : TExpr) → ((typing here e).run w).0 ≡ Some x → NamesAgree s (exp s.structs x) → is_lvalue x ≡ true → IsTyped s Place' (exp s.structs x)
places_typed s here alike e w x is names l =
    let m : MadeAs s (typing here e).name x = subst (OnSome (MadeAs s (typing here e).name)) is ((expressions_made s here alike e).all w) in
    m.is.place names l

pub statements_typed : (s : Source) (here : Here) → MeansAlike here s → (x : Stmt) (r : Inside) → ResultIs s r.result → (w : Walk) (y : TStmt) → ((stating here x).bare r w).0 ≡ Some y → StatementAgrees s (stm s.structs y) → StatementTyped s (stm s.structs y)
statements_typed s here alike x r result w y is agrees =
    let m : StmtMade s y = subst (OnSome (StmtMade s)) is (((statements_made s here alike x).bare r result).all w) in
    m.typed agrees
