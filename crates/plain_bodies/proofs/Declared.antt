-- What declares functions and locals in a block leaves what is outside as it is.
use Rattle.std.proofs.Common.{ℕ, Bool, true, false, not, Option, Some, None, List, [], ◌∷◌, refl}
use Rattle.sc_base.specs.declared.pos.Pos.{Pos}
use Rattle.sc_base.specs.declared.pos.NameId.{NameId}
use Rattle.sc_base.specs.declared.skip.Unsupported.TheVariants as u
use Rattle.sc_base.specs.declared.skip.IllTyped.TheVariants as i
use Rattle.sc_tree.specs.declared.ctype.CType.{CType}
use Rattle.sc_tree.specs.declared.ctype.OpaqueKind.{OpaqueKind}
use Rattle.sc_tree.specs.declared.ctype.Signature.{Signature, out-Signature}
use Rattle.sc_tree.specs.declared.ctype.Widths.{Widths}
use Rattle.sc_typed.specs.Types.{is_aggregate, is_void}
use Rattle.sc_typed.specs.declared.stmt.Declared.TheVariants as declares
use Rattle.scopes.specs.Frames.{Frames, here as declared_here}
use Rattle.sc_rules.specs.declared.walk.Tag.{Tag}
use Rattle.sc_rules.specs.declared.walk.Entity.{Entity}
use Rattle.sc_rules.specs.declared.walk.Entity.TheVariants as entity
use Rattle.sc_rules.specs.declared.walk.Fault.{Fault}
use Rattle.sc_rules.specs.Faults.{unsupported_at, ill_typed_at}
use Rattle.sc_rules.specs.Conversions.{opaque_kind}
use Rattle.sc_names.specs.Notes.{note_unless}
use Rattle.sc_names.specs.Names.{declare_if, declare_or}
use Rattle.sc_declare.specs.declared.functions.Parameter.{Parameter}
use Rattle.sc_declare.specs.Functions.{no_opaque, value_at, parameter_at, parameter_if, own_parameters, typedef_parameters, typedef_parameters_if, params_if, parameters_at, signature_if, result_at, signature_at, function_beside, declare_function, declare_function_if, local_function}
use Rattle.sc_declare.specs.Declarators.{without_init, function_declared}
use Rattle.sc_declare.specs.Locals.{add_local, name_local, local_type_at, declare_local, retype_local, lengthened, with_length, lengthened_if, lengthen}
use Rattle.plain_bodies.specs.Leaves.{FaultAlone, InBlock}
use Rattle.plain_bodies.proofs.Steps.{keeps, by_then}
use Rattle.plain_bodies.proofs.Parts.{new_kept, object_kept}
use Rattle.plain_bodies.proofs.Within.{stays, fault, in_then, in_done, in_declare}

module _ {T : Frames Tag} where
  pub note_kept : (test : Bool) (f : Fault) → FaultAlone T (note_unless test f)
  note_kept true f = keeps (λ w. refl)
  note_kept false f = keeps (λ w. refl)

  -- Functions.

  opaque_kept : (at : Pos) (k : Option OpaqueKind) → FaultAlone T (no_opaque at k)
  opaque_kept at None = keeps (λ w. refl)
  opaque_kept at (Some k) = keeps (λ w. refl)

  value_at_kept : (at : Pos) (t : CType) → FaultAlone T (value_at at t)
  value_at_kept at t = by_then _ _ (opaque_kept at (opaque_kind t)) (λ x. note_kept (not (is_aggregate t)) (unsupported_at u.Struct at))

  parameter_kept : (at : Pos) (t : CType) → FaultAlone T (parameter_at at t)
  parameter_kept at t = by_then _ _ (value_at_kept at t) (λ x. note_kept (not (is_void t)) (ill_typed_at i.Incomplete at))

  parameter_if_kept : (at : Pos) (t : Option CType) → FaultAlone T (parameter_if at t)
  parameter_if_kept at None = keeps (λ w. refl)
  parameter_if_kept at (Some t) = parameter_kept at t

  own_kept : (ps : List Parameter) → FaultAlone T (own_parameters ps)
  own_kept [] = keeps (λ w. refl)
  own_kept (p ∷ ps) = by_then _ _ (parameter_if_kept p.pos p.ctype) (λ x. own_kept ps)

  types_kept : (at : Pos) (ts : List CType) → FaultAlone T (typedef_parameters at ts)
  types_kept at [] = keeps (λ w. refl)
  types_kept at (t ∷ ts) = by_then _ _ (parameter_kept at t) (λ x. types_kept at ts)

  types_if_kept : (at : Pos) (ts : Option (List CType)) → FaultAlone T (typedef_parameters_if at ts)
  types_if_kept at None = keeps (λ w. refl)
  types_if_kept at (Some ts) = types_kept at ts

  parameters_kept : (at : Pos) (ps : Option (List Parameter)) (s : Option Signature) → FaultAlone T (parameters_at at ps s)
  parameters_kept at (Some ps) s = own_kept ps
  parameters_kept at None s = types_if_kept at (params_if s)

  result_kept : (at : Pos) (s : Option Signature) → FaultAlone T (result_at at s)
  result_kept at None = keeps (λ w. refl)
  result_kept at (Some s) = value_at_kept at (out-Signature s).result

  signature_kept : (at : Pos) (t : Option CType) (ps : Option (List Parameter)) → FaultAlone T (signature_at at t ps)
  signature_kept at t ps = by_then _ _ (result_kept at (signature_if t)) (λ x. parameters_kept at ps (signature_if t))

  or_left : (e : Option Entity) (name : NameId) (at : Pos) → InBlock T (declare_or e name at)
  or_left None name at = fault (note_kept false (ill_typed_at i.Again at))
  or_left (Some e) name at = in_declare name e

  beside_left : (name : NameId) (at : Pos) (t : CType) (brackets : Bool) → InBlock T (declare_function name at t brackets)
  beside_left name at t brackets = record { kept = λ w has block. (or_left (function_beside (declared_here name.at w.names) t brackets) name at).kept w has block }

  function_if_left : (name : NameId) (at : Pos) (t : Option CType) (brackets : Bool) → InBlock T (declare_function_if name at t brackets)
  function_if_left name at None brackets = stays (λ w block. (refl, block))
  function_if_left name at (Some t) brackets = beside_left name at t brackets

  pub function_left : (file : ℕ) (name : NameId) (at : Pos) (t : Option CType) (ps : Option (List Parameter)) → InBlock T (function_declared file false name at t ps)
  function_left file name at t ps =
      in_then (signature_at at t ps) _ (fault (signature_kept at t ps)) (λ x.
      in_then (declare_function_if name at t false) _ (function_if_left name at t false) (λ y.
      in_done (local_function file name false) (λ z. without_init name at declares.Function) (stays (λ w block. (refl, block)))))

  -- Locals.

  type_kept : (ws : Widths) (at : Pos) (t : CType) → FaultAlone T (local_type_at ws at t)
  type_kept ws at t = by_then _ _ (opaque_kept at (opaque_kind t)) (λ x. object_kept ws at t)

  if_left : (new : Bool) (name : NameId) (e : Entity) → InBlock T (declare_if new name e)
  if_left true name e = in_declare name e
  if_left false name e = stays (λ w block. (refl, block))

  name_left : (name : NameId) (at : Pos) (t : CType) → InBlock T (name_local name at t)
  name_left name at t =
      in_then _ _ (fault (new_kept name at)) (λ new.
      in_then (add_local name t) _ (stays (λ w block. (refl, block))) (λ n. in_done (declare_if new name (entity.Local n t)) (λ x. n) (if_left new name (entity.Local n t))))

  pub local_left : (ws : Widths) (name : NameId) (at : Pos) (t : CType) → InBlock T (declare_local ws name at t)
  local_left ws name at t = in_then (local_type_at ws at t) _ (fault (type_kept ws at t)) (λ x. name_left name at t)

  longer_left : (ws : Widths) (n : ℕ) (name : NameId) (at : Pos) (t : CType) → InBlock T (lengthened ws n name at t)
  longer_left ws n name at t =
      in_then _ _ (fault (object_kept ws at t)) (λ x. in_then (retype_local n t) _ (stays (λ w block. (refl, block))) (λ y. in_declare name (entity.Local n t)))

  longer_if_left : (ws : Widths) (n : ℕ) (name : NameId) (at : Pos) (t : Option CType) → InBlock T (lengthened_if ws n name at t)
  longer_if_left ws n name at None = stays (λ w block. (refl, block))
  longer_if_left ws n name at (Some t) = longer_left ws n name at t

  pub lengthen_left : (ws : Widths) (n : ℕ) (name : NameId) (at : Pos) (m : Option ℕ) (t : CType) → InBlock T (lengthen ws n name at m t)
  lengthen_left ws n name at None t = stays (λ w block. (refl, block))
  lengthen_left ws n name at (Some m) t = longer_if_left ws n name at (with_length t m)
