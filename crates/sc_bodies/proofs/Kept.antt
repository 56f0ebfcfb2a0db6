-- Steps that declare no variable with linkage: the globals of the walk stay as they are.
use Rattle.std.proofs.Common.{◌≡◌, Bool, true, false, Option, Some, None, Result, Ok, Err}
use Rattle.std.proofs.Common.{IfOk, OnOk, List, [], ◌∷◌, ℕ, if◌then◌else◌, refl, sym, ◌∙◌, ap}
use Rattle.sc_base.specs.declared.pos.Pos.{Pos}
use Rattle.sc_base.specs.declared.skip.IllTyped.{IllTyped}
use Rattle.sc_base.specs.declared.skip.IllTyped.TheVariants as i
use Rattle.sc_tree.specs.declared.ctype.CType.{CType}
use Rattle.sc_tree.specs.declared.ctype.OpaqueKind.{OpaqueKind}
use Rattle.sc_tree.specs.declared.ctype.Widths.{Widths}
use Rattle.sc_typed.specs.declared.expr.TExpr.{TExpr}
use Rattle.sc_typed.specs.declared.program.Global.{Global}
use Rattle.sc_typed.specs.declared.stmt.TStmt.{TStmt}
use Rattle.sc_typed.specs.Types.{is_integer, is_scalar, is_void}
use Rattle.sc_typed.specs.Constants.{constant_bits}
use Rattle.sc_rules.specs.declared.walk.Walk.{Walk}
use Rattle.sc_rules.specs.declared.walk.Fault.{Fault}
use Rattle.sc_rules.specs.Gives.{Gives}
use Rattle.sc_names.specs.declared.scope.Scope.{Scope as Closed}
use Rattle.sc_rules.specs.Walks.{Scope, close_scope, Check, then_with, ◌>>=◌, done, given, fault, ill_typed, holds_or}
use Rattle.sc_rules.specs.Conversions.{type_of, promote, opaque_kind}
use Rattle.sc_rules.specs.Conversions.{converts, converted_or, converted_unless, converted}
use Rattle.sc_statements.specs.declared.choices.Choice.{Choice}
use Rattle.sc_statements.specs.Choices.{choice_of, seen_with, new_choice, choices_differ}
use Rattle.sc_statements.specs.Statements.{scalar, switched, statement, no_statement, case_number}
use Rattle.sc_statements.specs.Statements.{case_of, jump, returned, return_void, return_as}

abbrev pub Keeps : {A : Type 0} → Check A → Type 0
Keeps m = (w : Walk) → (m w).1.globals ≡ w.globals

-- what a step that is known to end in a walk leaves of it
pub left : {A : Type 0} (r : A × Walk) (x : A) (v : Walk) (gs : List Global)
    → r ≡ (x, v) → r.1.globals ≡ gs → v.globals ≡ gs
left {A = A} r x v gs is kept = ap (λ (p : A × Walk). p.1.globals) (sym is) ∙ kept

-- the same of a step that may be refused for want of memory
pub gives_left : {A E : Type 0} (due : A × Walk) (r : Result A E) (v : Walk) (gs : List Global)
    → Gives due r v → due.1.globals ≡ gs → OnOk r (v.globals ≡ gs)
gives_left due (Ok x) v gs is kept = left due x v gs is kept
gives_left due (Err e) v gs is kept = tt

pub closes_left : {E : Type 0} (r : Result Closed E) (w v : Walk)
    → IfOk r (λ s. close_scope w ≡ (record { names = s.names; tags = s.tags }, v)) → OnOk r (v.globals ≡ w.globals)
closes_left (Ok s) w v is = ap (λ (p : Scope × Walk). p.1.globals) (sym is)
closes_left (Err e) w v is = tt

by_if : {A : Type 0} (b : Bool) (m n : Check A) → Keeps m → Keeps n → Keeps (if b then m else n)
by_if true m n first second = first
by_if false m n first second = second

by_then : {A B : Type 0} (r : A × Walk) (f : A → Check B) (gs : List Global)
    → r.1.globals ≡ gs → ((a : A) → Keeps (f a)) → (then_with r f).1.globals ≡ gs
by_then (a, v) f gs is by = by a v ∙ is

pub given_kept : {A B : Type 0} (x : Option A) (f : A → Check (Option B)) → ((a : A) → Keeps (f a)) → Keeps (given x f)
given_kept None f by w = refl
given_kept (Some a) f by w = by a w

pub scalar_kept : (at : Pos) (e : TExpr) → Keeps (scalar at e)
scalar_kept at e = by_if (is_scalar (type_of e)) (done (Some e)) (ill_typed _ at) (λ w. refl) (λ w. refl)

pub switched_kept : (at : Pos) (e : TExpr) → Keeps (switched at e)
switched_kept at e = by_if (is_integer (type_of e)) (done (Some (promote e))) (ill_typed _ at) (λ w. refl) (λ w. refl)

number_kept : (ws : Widths) (at : Pos) (t : Option CType) (e : TExpr) (n : Option ℕ) → Keeps (case_number ws at t e n)
number_kept ws at t e None w = refl
number_kept ws at None e (Some n) w = refl
number_kept ws at (Some t) e (Some n) w = refl

pub case_kept : (ws : Widths) (at : Pos) (t : Option CType) (e : TExpr) → Keeps (case_of ws at t e)
case_kept ws at t e = number_kept ws at t e (constant_bits ws e)

pub jump_kept : (allowed : Bool) (s : TStmt) (at : Pos) → Keeps (jump allowed s at)
jump_kept true s at w = refl
jump_kept false s at w = refl

or_kept : (allowed : Bool) (kind : IllTyped) (at : Pos) (t : CType) (e : TExpr)
    → Keeps (converted_or allowed kind at t e)
or_kept true kind at t e w = refl
or_kept false kind at t e w = refl

unless_kept : (k : Option OpaqueKind) (ws : Widths) (kind : IllTyped) (at : Pos) (t : CType) (e : TExpr)
    → Keeps (converted_unless k ws kind at t e)
unless_kept None ws kind at t e w = or_kept (converts ws e t) kind at t e w
unless_kept (Some k) ws kind at t e w = by_if (is_integer (type_of e)) _ _ (λ v. refl) (λ v. refl) w

converted_kept : (ws : Widths) (kind : IllTyped) (at : Pos) (t : CType) (e : TExpr) → Keeps (converted ws kind at t e)
converted_kept ws kind at t e w = unless_kept (opaque_kind t) ws kind at t e w

void_kept : (at : Pos) (e : TExpr) → Keeps (return_void at e)
void_kept at e w = by_if (is_void (type_of e)) _ _ (λ v. refl) (λ v. refl) w

value_kept : (ws : Widths) (at : Pos) (t : CType) (e : TExpr)
    → Keeps (converted ws i.Return at t e >>= λ x. done (returned at x))
value_kept ws at t e w =
    by_then (converted ws i.Return at t e w) (λ x. done (returned at x)) w.globals
    (converted_kept ws i.Return at t e w) (λ x v. refl)

pub return_kept : (ws : Widths) (at : Pos) (t : Option CType) (e : TExpr) → Keeps (return_as ws at t e)
return_kept ws at None e w = refl
return_kept ws at (Some t) e w = by_if (is_void t) _ _ (void_kept at e) (value_kept ws at t e) w

holds_kept : (test : Bool) (f : Fault) → Keeps (holds_or test f)
holds_kept true f w = refl
holds_kept false f w = refl

choice_kept : (c : Option (Choice × Pos)) (seen : List Choice) → Keeps (new_choice c seen)
choice_kept None seen w = refl
choice_kept (Some (c, at)) seen w = holds_kept _ _ w

pub choices_kept : (ss : List (Option TStmt)) (seen : List Choice) → Keeps (choices_differ ss seen)
choices_kept [] seen w = refl
choices_kept (s ∷ ss) seen w =
    by_then (new_choice (choice_of s) seen w) (λ _. choices_differ ss (seen_with (choice_of s) seen)) w.globals
    (choice_kept (choice_of s) seen w) (λ _ v. choices_kept ss (seen_with (choice_of s) seen) v)
