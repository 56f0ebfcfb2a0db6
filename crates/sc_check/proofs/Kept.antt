-- Steps of a function's head that declare no variable with linkage: the globals of the walk stay as they are.
use Rattle.std.proofs.Common.{◌≡◌, ℕ, Bool, true, false, not, Option, Some, None, Result, Ok, Err, IfOk, OnOk, List}
use Rattle.std.proofs.Common.{[], ◌∷◌, refl, sym, ◌∙◌, ap}
use Rattle.sc_base.specs.declared.pos.Pos.{Pos}
use Rattle.sc_base.specs.declared.pos.NameId.{NameId}
use Rattle.sc_base.specs.declared.skip.Unsupported.TheVariants as u
use Rattle.sc_base.specs.declared.skip.IllTyped.TheVariants as i
use Rattle.sc_tree.specs.declared.ctype.CType.{CType}
use Rattle.sc_tree.specs.declared.ctype.Signature.{Signature, out-Signature}
use Rattle.sc_tree.specs.declared.ctype.OpaqueKind.{OpaqueKind}
use Rattle.sc_typed.specs.declared.program.Global.{Global}
use Rattle.sc_typed.specs.Types.{is_aggregate, is_void}
use Rattle.scopes.specs.Frames.{here as declared_here}
use Rattle.sc_rules.specs.declared.walk.Walk.{Walk}
use Rattle.sc_rules.specs.declared.walk.Fault.{Fault}
use Rattle.sc_rules.specs.declared.walk.Entity.{Entity}
use Rattle.sc_rules.specs.Gives.{Gives}
use Rattle.sc_rules.specs.Walks.{Scope, close_scope, Check, then_with, ◌>>=◌, holds_or}
use Rattle.sc_rules.specs.Conversions.{opaque_kind}
use Rattle.sc_rules.specs.Faults.{unsupported_at, ill_typed_at}
use Rattle.sc_names.specs.declared.scope.Scope.{Scope as Closed}
use Rattle.sc_names.specs.Notes.{note_unless}
use Rattle.sc_names.specs.Names.{declare_or}
use Rattle.sc_declare.specs.declared.functions.Parameter.{Parameter}
use Rattle.sc_declare.specs.Functions.{no_opaque, value_at, parameter_at, parameter_if, own_parameters, result_at}
use Rattle.sc_declare.specs.Functions.{signature_if, signature_at, function_beside, declare_function}
use Rattle.sc_declare.specs.Functions.{declare_function_if, local_function}
use Rattle.sc_jumps.specs.declared.jumps.Goto.{Goto}
use Rattle.sc_jumps.specs.Jumps.{Way, Found, is_ahead, label_of, labels_differ, leads_to, gotos_lead, jumps_of}
use Rattle.typing_laws.specs.Kept.{KeepsGlobals}

-- what a step that is known to end in a walk leaves of it
pub left : {A : Type 0} (r : A × Walk) (x : A) (v : Walk) (gs : List Global)
    → r ≡ (x, v) → r.1.globals ≡ gs → v.globals ≡ gs
left {A = A} r x v gs is kept = ap (λ (p : A × Walk). p.1.globals) (sym is) ∙ kept

-- the same of a step that may be refused for want of memory
pub gives_left : {A E : Type 0} (due : A × Walk) (r : Result A E) (v : Walk) (gs : List Global)
    → Gives due r v → due.1.globals ≡ gs → OnOk r (v.globals ≡ gs)
gives_left due (Ok x) v gs is kept = left due x v gs is kept
gives_left due (Err e) v gs is kept = tt

pub closes_left : {E : Type 0} (r : Result Closed E) (w v : Walk)
    → IfOk r (λ s. close_scope w ≡ (record { names = s.names; tags = s.tags }, v)) → OnOk r (v.globals ≡ w.globals)
closes_left (Ok s) w v is = ap (λ (p : Scope × Walk). p.1.globals) (sym is)
closes_left (Err e) w v is = tt

keeps : {A : Type 0} {m : Check A} → ((w : Walk) → (m w).1.globals ≡ w.globals) → KeepsGlobals m
keeps k = record { kept = k }

then_left : {A B : Type 0} (r : A × Walk) (f : A → Check B) (gs : List Global)
    → r.1.globals ≡ gs → ((a : A) → KeepsGlobals (f a)) → (then_with r f).1.globals ≡ gs
then_left (a, v) f gs is rest = (rest a).kept v ∙ is

by_then : {A B : Type 0} (m : Check A) (f : A → Check B)
    → KeepsGlobals m → ((a : A) → KeepsGlobals (f a)) → KeepsGlobals (m >>= f)
by_then m f first rest = record { kept = λ w. then_left (m w) f w.globals (first.kept w) rest }

pub holds_kept : (test : Bool) (f : Fault) → KeepsGlobals (holds_or test f)
holds_kept true f = keeps (λ w. refl)
holds_kept false f = keeps (λ w. refl)

note_kept : (test : Bool) (f : Fault) → KeepsGlobals (note_unless test f)
note_kept true f = keeps (λ w. refl)
note_kept false f = keeps (λ w. refl)

opaque_kept : (at : Pos) (k : Option OpaqueKind) → KeepsGlobals (no_opaque at k)
opaque_kept at None = keeps (λ w. refl)
opaque_kept at (Some k) = keeps (λ w. refl)

value_kept : (at : Pos) (t : CType) → KeepsGlobals (value_at at t)
value_kept at t =
    by_then _ _ (opaque_kept at (opaque_kind t)) (λ x. note_kept (not (is_aggregate t)) (unsupported_at u.Struct at))

parameter_kept : (at : Pos) (t : CType) → KeepsGlobals (parameter_at at t)
parameter_kept at t =
    by_then _ _ (value_kept at t) (λ x. note_kept (not (is_void t)) (ill_typed_at i.Incomplete at))

if_kept : (at : Pos) (t : Option CType) → KeepsGlobals (parameter_if at t)
if_kept at None = keeps (λ w. refl)
if_kept at (Some t) = parameter_kept at t

own_kept : (ps : List Parameter) → KeepsGlobals (own_parameters ps)
own_kept [] = keeps (λ w. refl)
own_kept (p ∷ ps) = by_then _ _ (if_kept p.pos p.ctype) (λ x. own_kept ps)

result_kept : (at : Pos) (s : Option Signature) → KeepsGlobals (result_at at s)
result_kept at None = keeps (λ w. refl)
result_kept at (Some s) = value_kept at (out-Signature s).result

pub signature_kept : (at : Pos) (t : Option CType) (ps : List Parameter) → KeepsGlobals (signature_at at t (Some ps))
signature_kept at t ps = by_then _ _ (result_kept at (signature_if t)) (λ x. own_kept ps)

or_kept : (e : Option Entity) (name : NameId) (at : Pos) → KeepsGlobals (declare_or e name at)
or_kept None name at = keeps (λ w. refl)
or_kept (Some e) name at = keeps (λ w. refl)

beside_kept : (name : NameId) (at : Pos) (t : CType) (brackets : Bool)
    → KeepsGlobals (declare_function name at t brackets)
beside_kept name at t brackets =
    keeps (λ w. (or_kept (function_beside (declared_here name.at w.names) t brackets) name at).kept w)

pub declare_kept : (name : NameId) (at : Pos) (t : Option CType) (brackets : Bool)
    → KeepsGlobals (declare_function_if name at t brackets)
declare_kept name at None brackets = keeps (λ w. refl)
declare_kept name at (Some t) brackets = beside_kept name at t brackets

pub local_kept : (file : ℕ) (name : NameId) (is_local : Bool) → KeepsGlobals (local_function file name is_local)
local_kept file name true = keeps (λ w. refl)
local_kept file name false = keeps (λ w. refl)

labels_kept : (again : List Pos) → KeepsGlobals (labels_differ again)
labels_kept [] = keeps (λ w. refl)
labels_kept (at ∷ rest) = by_then _ _ (holds_kept false (ill_typed_at i.Again at)) (λ x. labels_kept rest)

leads_kept : (way : Option Way) (g : Goto) → KeepsGlobals (leads_to way g)
leads_kept None g = holds_kept false (ill_typed_at i.Label g.pos)
leads_kept (Some way) g = holds_kept (is_ahead way g.way) (unsupported_at u.Goto g.pos)

gotos_kept : (j : Found) (gs : List Goto) → KeepsGlobals (gotos_lead j gs)
gotos_kept j [] = keeps (λ w. refl)
gotos_kept j (g ∷ gs) = by_then _ _ (leads_kept (label_of g.name j) g) (λ x. gotos_kept j gs)

pub jumps_kept : (j : Found) → KeepsGlobals (jumps_of j)
jumps_kept j = by_then _ _ (labels_kept j.again) (λ x. gotos_kept j j.gotos)
