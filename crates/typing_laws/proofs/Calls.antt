-- The rules of calls (C11 6.5.2.2) leave the globals as they are.
use Rattle.std.proofs.Common.{◌&&◌, Option, Some, None, List, [], ◌∷◌, length, refl}
use Rattle.sc_base.specs.declared.pos.Pos.{Pos}
use Rattle.sc_base.specs.declared.pos.NameId.{NameId}
use Rattle.sc_base.specs.declared.skip.IllTyped.TheVariants as i
use Rattle.sc_tree.specs.declared.ctype.CType.{CType}
use Rattle.sc_tree.specs.declared.ctype.Signature.{Signature}
use Rattle.sc_tree.specs.declared.ctype.Widths.{Widths}
use Rattle.sc_tree.specs.declared.expr.Place.{Place}
use Rattle.sc_typed.specs.declared.expr.TExpr.{TExpr}
use Rattle.sc_rules.specs.declared.walk.Builtin.{Builtin}
use Rattle.sc_rules.specs.declared.walk.Builtin.TheVariants as b
use Rattle.sc_rules.specs.declared.walk.Given.{Given}
use Rattle.sc_rules.specs.declared.walk.Given.TheVariants as takes
use Rattle.sc_typed.specs.Types.{is_aggregate, is_integer, is_pointer}
use Rattle.sc_typed.specs.Constants.{is_null_constant}
use Rattle.sc_rules.specs.Conversions.{type_of}
use Rattle.sc_calls.specs.Calls.{result_of, takes_many, is_function_name, has_count, promoted_argument, argument_to, argument_unless, argument, front, behind, with_first, arguments, finished_call, params_of, call_with, call_taken, called_signature, call_as, call, callee, given_of, pointer_argument, in_front, first_pointer, builtin_arguments, no_pointer, passed_unless, passed, builtin_callee, builtin_params, builtin_given, builtin_as, builtin_result, signature_or, builtin_call}
use Rattle.typing_laws.specs.Kept.{KeepsGlobals}
use Rattle.typing_laws.proofs.Steps.{keeps, by_then, by_done, by_if}
use Rattle.typing_laws.proofs.Rules.{value_kept, converted_kept}

-- Arguments.

promoted_kept : (at : Pos) (a : TExpr) → KeepsGlobals (promoted_argument at a)
promoted_kept at a = by_if (is_integer (type_of a)) _ _ (keeps (λ w. refl)) (by_if (is_pointer (type_of a)) _ _ (keeps (λ w. refl)) (keeps (λ w. refl)))

to_kept : (ws : Widths) (at : Pos) (t : Option CType) (a : TExpr) → KeepsGlobals (argument_to ws at t a)
to_kept ws at None a = promoted_kept at a
to_kept ws at (Some t) a = converted_kept ws i.Operand at t a

unless_kept : (ws : Widths) (at : Pos) (t : Option CType) (a : TExpr) → KeepsGlobals (argument_unless ws at t a)
unless_kept ws at t a = by_if (is_aggregate (type_of a)) _ _ (keeps (λ w. refl)) (to_kept ws at t a)

argument_kept : (ws : Widths) (at : Pos) (t : Option CType) (a : Option TExpr) → KeepsGlobals (argument ws at t a)
argument_kept ws at t None = keeps (λ w. refl)
argument_kept ws at t (Some a) = unless_kept ws at t a

arguments_kept : (ws : Widths) (at : Pos) (ts : List CType) (xs : List (Option TExpr)) → KeepsGlobals (arguments ws at ts xs)
arguments_kept ws at ts [] = keeps (λ w. refl)
arguments_kept ws at ts (x ∷ xs) = by_then _ _ (argument_kept ws at (front ts) x) (λ y. by_done _ (λ r. with_first y r) (arguments_kept ws at (behind ts) xs))

-- Calls.

with_kept : (p : Place) (t : CType) (f : TExpr) (r : Option (List TExpr)) → KeepsGlobals (call_with p t f r)
with_kept p t f r = by_if (is_aggregate t) _ _ (keeps (λ w. refl)) (keeps (λ w. refl))

taken_kept : (ws : Widths) (s : Signature) (p : Place) (f : TExpr) (xs : List (Option TExpr)) → KeepsGlobals (call_taken ws s p f xs)
taken_kept ws s p f xs = by_then _ _ (arguments_kept ws p.first (params_of s) xs) (λ r. with_kept p (result_of s) f r)

as_kept : (ws : Widths) (s : Option Signature) (p : Place) (f : TExpr) (xs : List (Option TExpr)) → KeepsGlobals (call_as ws s p f xs)
as_kept ws None p f xs = keeps (λ w. refl)
as_kept ws (Some s) p f xs = by_if (takes_many s (length xs)) _ _ (taken_kept ws s p f xs) (keeps (λ w. refl))

pub call_kept : (ws : Widths) (p : Place) (f : Option TExpr) (xs : List (Option TExpr)) → KeepsGlobals (call ws p f xs)
call_kept ws p None xs = keeps (λ w. refl)
call_kept ws p (Some f) xs = as_kept ws (called_signature (type_of f)) p f xs

pub callee_kept : (e : TExpr) → KeepsGlobals (callee e)
callee_kept e = by_if (is_function_name e) _ _ (keeps (λ w. refl)) (value_kept e)

-- Built-in functions.

pointer_kept : (ws : Widths) (at : Pos) (a : TExpr) → KeepsGlobals (pointer_argument ws at a)
pointer_kept ws at a = by_if (is_pointer (type_of a)) _ _ (keeps (λ w. refl)) (by_if (is_null_constant ws a) _ _ (keeps (λ w. refl)) (keeps (λ w. refl)))

first_kept : (ws : Widths) (at : Pos) (xs : List (Option TExpr)) → KeepsGlobals (first_pointer ws at xs)
first_kept ws at [] = keeps (λ w. refl)
first_kept ws at (None ∷ xs) = keeps (λ w. refl)
first_kept ws at (Some a ∷ xs) = by_done _ (λ x. in_front x xs) (pointer_kept ws at a)

taking_kept : (ws : Widths) (g : Given) (at : Pos) (xs : List (Option TExpr)) → KeepsGlobals (builtin_arguments ws g at xs)
taking_kept ws takes.Pointer at xs = first_kept ws at xs
taking_kept ws takes.Any at xs = keeps (λ w. refl)
taking_kept ws takes.Two at xs = keeps (λ w. refl)

passed_unless_kept : (at : Option Pos) (xs : List TExpr) → KeepsGlobals (passed_unless at xs)
passed_unless_kept None xs = keeps (λ w. refl)
passed_unless_kept (Some at) xs = keeps (λ w. refl)

passed_kept : (g : Given) (r : Option (List TExpr)) → KeepsGlobals (passed g r)
passed_kept g None = keeps (λ w. refl)
passed_kept takes.Pointer (Some xs) = passed_unless_kept (no_pointer xs) xs
passed_kept takes.Any (Some xs) = keeps (λ w. refl)
passed_kept takes.Two (Some xs) = keeps (λ w. refl)

given_kept : (ws : Widths) (name : NameId) (f : Builtin) (s : Signature) (q p : Place) (xs : Option (List (Option TExpr))) → KeepsGlobals (builtin_given ws name f s q p xs)
given_kept ws name f s q p None = keeps (λ w. refl)
given_kept ws name f s q p (Some xs) =
    by_then _ _ (arguments_kept ws p.first (builtin_params (given_of f) s) xs) (λ r.
    by_done _ (λ r. finished_call p (builtin_result f) (builtin_callee name f q) r) (passed_kept (given_of f) r))

builtin_as_kept : (ws : Widths) (name : NameId) (f : Builtin) (s : Signature) (q p : Place) (xs : List (Option TExpr)) → KeepsGlobals (builtin_as ws name f s q p xs)
builtin_as_kept ws name f s q p xs = by_if (has_count (given_of f) (length xs) && takes_many s (length xs)) _ _ (by_then _ _ (taking_kept ws (given_of f) p.first xs) (λ r. given_kept ws name f s q p r)) (keeps (λ w. refl))

pub builtin_kept : (ws : Widths) (name : NameId) (f : Builtin) (visible : Option Signature) (q p : Place) (xs : List (Option TExpr)) → KeepsGlobals (builtin_call ws name f visible q p xs)
builtin_kept ws name b.Refused visible q p xs = keeps (λ w. refl)
builtin_kept ws name (b.Nothing g) visible q p xs = builtin_as_kept ws name (b.Nothing g) (signature_or (builtin_result (b.Nothing g)) visible) q p xs
builtin_kept ws name (b.Int g) visible q p xs = builtin_as_kept ws name (b.Int g) (signature_or (builtin_result (b.Int g)) visible) q p xs
builtin_kept ws name (b.Long g) visible q p xs = builtin_as_kept ws name (b.Long g) (signature_or (builtin_result (b.Long g)) visible) q p xs
builtin_kept ws name (b.Object g) visible q p xs = builtin_as_kept ws name (b.Object g) (signature_or (builtin_result (b.Object g)) visible) q p xs
