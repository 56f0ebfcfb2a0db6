-- Members of structs and unions (C11 6.5.2.3, 6.7.2.1).
use Rattle.std.specs.Prelude.{slice_index_or, ℕ, zero, suc, ◌+◌, Bool, true, false, Option, Some, None, List, [], ◌∷◌, if◌then◌else◌}
use Rattle.sc_base.specs.declared.pos.NameId.{NameId}
use Rattle.sc_base.specs.declared.skip.Unsupported.TheVariants as u
use Rattle.sc_base.specs.declared.skip.IllTyped.TheVariants as i
use Rattle.sc_tree.specs.declared.ctype.CType.{CType, CType-F, out-CType}
use Rattle.sc_tree.specs.declared.ctype.CType.TheVariants as ty
use Rattle.sc_tree.specs.declared.ctype.Signature.{Signature}
use Rattle.sc_tree.specs.declared.expr.Place.{Place}
use Rattle.sc_typed.specs.declared.program.FieldDef.{FieldDef}
use Rattle.sc_typed.specs.declared.program.StructDef.{StructDef}
use Rattle.sc_typed.specs.declared.expr.TExpr.{TExpr}
use Rattle.sc_typed.specs.declared.expr.What.TheVariants as what
use Rattle.sc_typed.specs.Extents.{struct_at}
use Rattle.sc_typed.specs.Types.{target, is_aggregate}
pub use Rattle.struct_table.specs.Members.{is_there, is_called, is_unnamed}
use Rattle.struct_table.specs.Structs.{members_of}
use Rattle.sc_unary.specs.declared.members.Meant.{Meant}
use Rattle.sc_unary.specs.declared.members.Meant.TheVariants as means
use Rattle.sc_rules.specs.Walks.{Check, ◌>>=◌, done, unsupported, ill_typed}
use Rattle.sc_rules.specs.Conversions.{node, type_of}

abbrev pub meant_by : (union : Bool) → ℕ → FieldDef → Meant
meant_by true k f = means.OfUnion
meant_by false k f = if is_there f.bits then means.Bits else means.Plain k

-- among the members themselves, of which the first has the number k
abbrev pub among : (union : Bool) → NameId → ℕ → List FieldDef → Meant
among union name k [] = means.Missing
among union name k (f ∷ fs) = if is_called name f.name then meant_by union k f else among union name (k + 1) fs

-- what the name means in an unnamed member, read from outside
abbrev pub through_unnamed : (union : Bool) → Meant → Meant
through_unnamed union means.Missing = means.Missing
through_unnamed union means.OfUnion = means.OfUnion
through_unnamed true _ = means.OfUnion
through_unnamed false means.Bits = means.Bits
through_unnamed false _ = means.Unnamed

abbrev pub or_next : Meant → Meant → Meant
or_next means.Missing m = m
or_next m _ = m

-- the members of a struct or union type, and whether it is a union
pub record Body : Type 0 where
  pub union : Bool
  pub fields : List FieldDef

abbrev pub no_body : Body
no_body = record { union = false; fields = [] }

abbrev pub body_at : List StructDef → ℕ → Body
body_at structs n = record { union = (struct_at structs n).union; fields = members_of (struct_at structs n) }

abbrev pub body_layer : List StructDef → CType-F CType Signature → Body
body_layer structs (CType-F.Struct n) = body_at structs n
body_layer structs (CType-F.Union n) = body_at structs n
body_layer structs _ = no_body

abbrev pub body_of : List StructDef → CType → Body
body_of structs t = body_layer structs (out-CType t)

-- among the unnamed members, where `inside` finds a name in the type of one
abbrev pub among_unnamed : (inside : CType → Meant) → (union : Bool) → List FieldDef → Meant
among_unnamed inside union [] = means.Missing
among_unnamed inside union (f ∷ fs) =
    or_next (if is_unnamed f then through_unnamed union (inside f.ctype) else means.Missing) (among_unnamed inside union fs)

-- An unnamed member stands in the body that it is a member of, and no more than 128 bodies stand in one another.
unfoldable pub member : (deep : ℕ) → List StructDef → NameId → CType → Meant
member zero structs name t = means.Missing
member (suc deep) structs name t =
    or_next (among (body_of structs t).union name 0 (body_of structs t).fields)
    (among_unnamed (member deep structs name) (body_of structs t).union (body_of structs t).fields)

abbrev pub find_member : List StructDef → NameId → CType → Meant
find_member = member 128

-- the number of a struct or union type
abbrev pub number_layer : CType-F CType Signature → ℕ
number_layer (CType-F.Struct n) = n
number_layer (CType-F.Union n) = n
number_layer _ = 0

abbrev pub struct_number : CType → ℕ
struct_number t = number_layer (out-CType t)

abbrev pub no_field : FieldDef
no_field = record { name = None; ctype = ty.Void; bits = None }

-- the type of the member with that number
abbrev pub field_type : List StructDef → CType → ℕ → CType
field_type structs t k = (slice_index_or (body_of structs t).fields k no_field).ctype

abbrev pub plain_field : List StructDef → ℕ → (arrow : Bool) → CType → Place → TExpr → TExpr
plain_field structs k arrow t p e = node (what.Field e (struct_number t) k arrow) (field_type structs t k) p

abbrev pub access : Meant → (arrow : Bool) → CType → Place → TExpr → Check (Option TExpr)
access means.Missing arrow t p e = ill_typed i.Field p.token
access means.OfUnion arrow t p e = unsupported u.Union p.token
access means.Bits arrow t p e = unsupported u.BitField p.token
access means.Unnamed arrow t p e = unsupported u.Anon p.token
access (means.Plain k) arrow t p e = λ w. (Some (plain_field w.structs k arrow t p e), w)

-- a member of what has the type t
abbrev pub field_in : NameId → (arrow : Bool) → CType → Place → TExpr → Check (Option TExpr)
field_in name arrow t p e w =
    if is_aggregate t then access (find_member w.structs name t) arrow t p e w else ill_typed i.Operand p.token w

abbrev pub target_or_void : Option CType → CType
target_or_void None = ty.Void
target_or_void (Some t) = t

-- the type whose member is named: with `->` that of what the pointer points to
abbrev pub accessed : (arrow : Bool) → CType → CType
accessed true t = target_or_void (target t)
accessed false t = t

-- `e . name`, or `e -> name` with the flag; the place's token is the name
abbrev pub field : NameId → (arrow : Bool) → Place → TExpr → Check (Option TExpr)
field name arrow p e = field_in name arrow (accessed arrow (type_of e)) p e
