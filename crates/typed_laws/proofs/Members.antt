-- Members of structs, and names, make expressions that are typed where what they name has its type.
use Rattle.std.proofs.Common.{◌≡◌, ◌⊎◌, ℕ, ◌+◌, Bool, true, false, not, ◌&&◌, ◌||◌, List, [], ◌∷◌, map, refl, sym, ap, subst, ◌∙◌, inl, inr}
use Rattle.std.proofs.lemmas.Bool.{true≢false, and_parts, or_left, or_right}
use Rattle.std.specs.Prelude.{Option, Some, None, if◌then◌else◌}
use Rattle.sc_base.specs.declared.pos.NameId.{NameId}
use Rattle.sc_base.specs.declared.skip.Unsupported.TheVariants as u
use Rattle.sc_base.specs.declared.skip.IllTyped.TheVariants as i
use Rattle.sc_tree.specs.declared.token.StrToken.{StrToken}
use Rattle.sc_tree.specs.declared.ctype.CType.{CType, CType-F, out-CType}
use Rattle.sc_tree.specs.declared.ctype.CType.TheVariants as ty
use Rattle.sc_tree.specs.declared.ctype.Signature.{Signature}
use Rattle.sc_tree.specs.declared.ctype.IntKind.TheVariants as kind
use Rattle.sc_tree.specs.declared.expr.Place.{Place}
use Rattle.sc_typed.specs.declared.expr.TExpr.{TExpr, out-TExpr}
use Rattle.sc_typed.specs.declared.expr.What.{What}
use Rattle.sc_typed.specs.declared.expr.What.TheVariants as what
use Rattle.sc_typed.specs.declared.program.StructDef.{StructDef}
use Rattle.sc_typed.specs.Types as typed
use Rattle.sc_rules.specs.declared.walk.Walk.{Walk}
use Rattle.sc_rules.specs.declared.walk.Entity.{Entity}
use Rattle.sc_rules.specs.declared.walk.Entity.TheVariants as entity
use Rattle.sc_rules.specs.Faults.{with_fault, ill_typed_at, unsupported_at}
use Rattle.sc_rules.specs.Walks.{Check, ◌>>=◌, done, name_means}
use Rattle.sc_rules.specs.Conversions.{node, type_of, value}
use Rattle.sc_operators.specs.Binary.{int, made}
use Rattle.sc_unary.specs.declared.members.Meant.{Meant}
use Rattle.sc_unary.specs.declared.members.Meant.TheVariants as means
use Rattle.sc_unary.specs.Members.{find_member, struct_number, field_type, plain_field, access, field_in, target_or_void, accessed, field}
use Rattle.sc_parts.specs.Names.{is_wide, bytes_of, text_of, string, global_type, a_global, named, a_name, undeclared}
use Rattle.sc_parts.specs.Operands.{indexed}
use Rattle.sc_parts.specs.Operands as operands
use Rattle.sc_world.specs.Tree as tree
use Rattle.sc_world.specs.Tree.{Ty, Exp, Field, Param, Local, Global, Function, Number, Str, Convert, Array}
use Rattle.sc_world.specs.Source.{Source}
use Rattle.sc_world.specs.View.{type, exp, member_name}
use Rattle.sc_world.specs.Eval.{Want, Value, Place'}
use Rattle.run_laws.specs.Fits.{may_be_stub, is_function}
use Rattle.fitting_laws.specs.Typed.{HasMemberOf, IsTyped, names_function}
use Rattle.typed_laws.specs.Named.{NamesAgree}
use Rattle.typed_laws.proofs.Types.{type_array}
use Rattle.typed_laws.proofs.Trees.{typed_of, field_seen, param_seen, local_seen, global_seen, function_seen, int_seen, str_seen}
use Rattle.typed_laws.proofs.Steps.{OnSome, Every, Gives, by_then, by_done, by_some, by_none, by_fault, by_if, by_unless, behind}
use Rattle.typed_laws.proofs.Made.{clash, is_object, seen, Made, Fresh, Valued, any_made, any_base, value_typed, unless_place, seen_pointer, seen_array}
use Rattle.typed_laws.proofs.Values.{value_made}
use Rattle.typed_laws.proofs.Unary.{Indexable, int_made}

never : {A : Type 0} → false ≡ true → A
never h = absurd (true≢false (sym h))

function_stub : (t : Ty) → is_function t ≡ true → may_be_stub t ≡ true
function_stub (tree.Func r known ts v) h = refl
function_stub _ h = never h

module _ (s : Source) where
  -- Members.

  -- what stands before `.` and `->`
  abbrev pub Accessible : Bool → TExpr → Type 0
  Accessible true a = Valued s a
  Accessible false a = NamesAgree s (seen s a) → typed.is_aggregate (type_of a) ≡ true → IsTyped s Place' (seen s a)

  aggregate_object : (t : CType) → typed.is_aggregate t ≡ true → is_object t ≡ true
  aggregate_object t h = or_left (typed.is_aggregate t) (typed.is_array t || typed.is_function t) h

  pub accessed_made : (arrow : Bool) (a : TExpr) → Made s a → Gives (Accessible arrow) (operands.accessed arrow a)
  accessed_made true a m = value_made s a m
  accessed_made false a m =
      by_if (OnSome (Accessible false)) (typed.is_aggregate (type_of a)) _ _ (λ h. by_some (Accessible false) a (λ names k. m.object names (aggregate_object (type_of a) k)))
      (λ h. by_then (OnSome (Valued s)) (OnSome (Accessible false)) (value a) done (value_made s a m) (λ o v. by_done (OnSome (Accessible false)) o (as_value o v)))
    where
      as_value : (o : Option TExpr) → OnSome (Valued s) o → OnSome (Accessible false) o
      as_value None v = tt
      as_value (Some y) v = λ names k. v.object names (aggregate_object (type_of y) k)

  pointer_to_struct : (t : CType) → typed.is_aggregate (target_or_void (typed.target t)) ≡ true → typed.is_pointer t ≡ true
  unfolding out-CType denote.Hole.Carrier.out
  pointer_to_struct t h = layer (out-CType t) h
    where
      layer : (f : CType-F CType Signature) → typed.is_aggregate (target_or_void (typed.target_layer f)) ≡ true → typed.is_pointer_layer f ≡ true
      layer (CType-F.Ptr v) h = refl
      layer _ h = never h

  member_made : (structs : List StructDef) (k : ℕ) (arrow : Bool) (p : Place) (a : TExpr) → typed.is_aggregate (accessed arrow (type_of a)) ≡ true → Accessible arrow a → Fresh s (plain_field structs k arrow (accessed arrow (type_of a)) p a)
  member_made structs k true p a h v =
      any_made s (plain_field structs k true (accessed true (type_of a)) p a) (Field (seen s a) (member_name s.structs (struct_number (accessed true (type_of a))) k) true (type (field_type structs (accessed true (type_of a)) k))) refl
      (field_seen s.structs a (struct_number (accessed true (type_of a))) k true (field_type structs (accessed true (type_of a)) k) p)
      (λ names want. (v.value names.0, seen_pointer s a true (pointer_to_struct (type_of a) h), names.1))
  member_made structs k false p a h place =
      any_made s (plain_field structs k false (type_of a) p a) (Field (seen s a) (member_name s.structs (struct_number (type_of a)) k) false (type (field_type structs (type_of a) k))) refl
      (field_seen s.structs a (struct_number (type_of a)) k false (field_type structs (type_of a) k) p)
      (λ names want. (place names.0 h, names.1))

  access_made : (m : Meant) (arrow : Bool) (p : Place) (a : TExpr) → typed.is_aggregate (accessed arrow (type_of a)) ≡ true → Accessible arrow a → Gives (Fresh s) (access m arrow (accessed arrow (type_of a)) p a)
  access_made means.Missing arrow p a h v = by_fault (Fresh s) (ill_typed_at i.Field p.token)
  access_made means.OfUnion arrow p a h v = by_fault (Fresh s) (unsupported_at u.Union p.token)
  access_made means.Bits arrow p a h v = by_fault (Fresh s) (unsupported_at u.BitField p.token)
  access_made means.Unnamed arrow p a h v = by_fault (Fresh s) (unsupported_at u.Anon p.token)
  access_made (means.Plain k) arrow p a h v = record { all = λ w. member_made w.structs k arrow p a h v }

  pub field_made : (name : NameId) (arrow : Bool) (p : Place) (a : TExpr) → Accessible arrow a → Gives (Fresh s) (field name arrow p a)
  field_made name arrow p a v = record { all = λ w. side w (typed.is_aggregate (accessed arrow (type_of a))) refl }
    where
      side : (w : Walk) (b : Bool) → typed.is_aggregate (accessed arrow (type_of a)) ≡ b
          → OnSome (Fresh s) (if b then access (find_member w.structs name (accessed arrow (type_of a))) arrow (accessed arrow (type_of a)) p a w else (None, record w { first = with_fault w.first (ill_typed_at i.Operand p.token) })).0
      side w true h = (access_made (find_member w.structs name (accessed arrow (type_of a))) arrow p a h v).all w
      side w false h = tt

  -- What stands before `[`.

  array_object : (t : CType) → typed.is_array t ≡ true → is_object t ≡ true
  array_object t h = or_right (typed.is_aggregate t) (typed.is_array t || typed.is_function t) (or_left (typed.is_array t) (typed.is_function t) h)

  pub indexed_made : (a : TExpr) → Made s a → Gives (Indexable s) (indexed a)
  indexed_made a m =
      by_if (OnSome (Indexable s)) (typed.is_array (type_of a)) _ _
      (λ h. by_some (Indexable s) a (record { typed = λ names. subst (λ w. IsTyped s w (seen s a)) (sym (unless_place s (tree.type_of (seen s a)) (seen_array s a true h))) (m.object names (array_object (type_of a) h)) }))
      (λ h. by_then (OnSome (Valued s)) (OnSome (Indexable s)) (value a) done (value_made s a m) (λ o v. by_done (OnSome (Indexable s)) o (as_value o v)))
    where
      as_value : (o : Option TExpr) → OnSome (Valued s) o → OnSome (Indexable s) o
      as_value None v = tt
      as_value (Some y) v = record { typed = value_typed s y v }

  -- Strings.

  pub string_made : (ss : List StrToken) (p : Place) → Gives (Fresh s) (string ss p)
  string_made ss p =
      by_if (OnSome (Fresh s)) (is_wide ss) _ _ (λ h. by_fault (Fresh s) (unsupported_at u.Odd p.token))
      (λ h. by_some (Fresh s) (text_of (bytes_of ss) p) (any_made s (text_of (bytes_of ss) p) (Str p (type (ty.Array (ty.Int kind.Char) (Some (bytes_of ss + 1))))) refl (str_seen s.structs (bytes_of ss) (ty.Array (ty.Int kind.Char) (Some (bytes_of ss + 1))) p)
      (λ names want. ap may_be_stub (type_array (ty.Int kind.Char) (Some (bytes_of ss + 1))))))

  -- Names. A function is met by its name alone.

  -- which function the expression is, if it is one: that of the name
  abbrev pub NameIs : Option (NameId × Place) → Exp → Type 0
  NameIs None e = names_function e ≡ false
  NameIs (Some (n, p)) (Function m b t) = m ≡ n
  NameIs (Some (n, p)) e = names_function e ≡ false

  pub record MadeAs (name : Option (NameId × Place)) (x : TExpr) : Type 0 where
    pub is : Made s x
    pub names : NameIs name (seen s x)

  by_name : (n : Option (NameId × Place)) (x : TExpr) (e : Exp) → seen s x ≡ e → NameIs n e → NameIs n (seen s x)
  by_name n x e is h = subst (NameIs n) (sym is) h

  pub function_made : (n : NameId) (body : Option ℕ) (t : CType) (p : Place) → Made s (node (what.Function n body) t p)
  function_made n body t p = any_base s (node (what.Function n body) t p) (Function n body (type t)) (function_seen s.structs n body t p) (λ names want. function_stub (type t) names)

  named_made : (settled : Bool) (body : Option ℕ) (name : NameId) (q : Place) (p : Place) (e : Option Entity) → Gives (MadeAs (Some (name, q))) (named settled body name p e)
  named_made settled body name q p None = by_fault (MadeAs (Some (name, q))) (ill_typed_at i.Name p.token)
  named_made settled body name q p (Some (entity.Typedef t)) = by_fault (MadeAs (Some (name, q))) (ill_typed_at i.Name p.token)
  named_made settled body name q p (Some (entity.Function t brackets)) =
      by_some (MadeAs (Some (name, q))) (node (what.Function name body) t p) (record { is = function_made name body t p; names = by_name (Some (name, q)) (node (what.Function name body) t p) (Function name body (type t)) (function_seen s.structs name body t p) refl })
  named_made settled body name q p (Some (entity.Constant n)) =
      by_some (MadeAs (Some (name, q))) (node (what.Int n) int p) (record { is = (int_made s n kind.Int p).made; names = by_name (Some (name, q)) (node (what.Int n) int p) (Number n (type int)) (int_seen s.structs n int p) refl })
  named_made settled body name q p (Some (entity.Global n t)) =
      record {
        all = λ w. record {
          is = any_base s (node (what.Global n) (global_type settled w.globals n t) p) (Global n (type (global_type settled w.globals n t))) (global_seen s.structs n (global_type settled w.globals n t) p) (λ names want. names);
          names = by_name (Some (name, q)) (node (what.Global n) (global_type settled w.globals n t) p) (Global n (type (global_type settled w.globals n t))) (global_seen s.structs n (global_type settled w.globals n t) p) refl;
        };
      }
  named_made settled body name q p (Some (entity.Param n t)) =
      by_some (MadeAs (Some (name, q))) (node (what.Param n) t p) (record { is = any_base s (node (what.Param n) t p) (Param n (type t)) (param_seen s.structs n t p) (λ names want. names); names = by_name (Some (name, q)) (node (what.Param n) t p) (Param n (type t)) (param_seen s.structs n t p) refl })
  named_made settled body name q p (Some (entity.Local n t)) =
      by_some (MadeAs (Some (name, q))) (node (what.Local n) t p) (record { is = any_base s (node (what.Local n) t p) (Local n (type t)) (local_seen s.structs n t p) (λ names want. names); names = by_name (Some (name, q)) (node (what.Local n) t p) (Local n (type t)) (local_seen s.structs n t p) refl })

  pub name_made : (settled : Bool) (body : Option ℕ) (name : NameId) (p : Place) → Gives (MadeAs (Some (name, p))) (a_name settled body name p)
  name_made settled body name p = behind (OnSome (MadeAs (Some (name, p)))) (name_means name) _ (λ e. named_made settled body name p p e)
