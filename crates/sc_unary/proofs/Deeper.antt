-- The search for a member, one body deeper.
use Rattle.std.proofs.Common.{◌≡◌, ℕ, ◌<◌, ◌-◌, zero, suc, List, arith, refl}
use Rattle.sc_base.specs.declared.pos.NameId.{NameId}
use Rattle.sc_tree.specs.declared.ctype.CType.{CType}
use Rattle.sc_typed.specs.declared.program.StructDef.{StructDef}
use Rattle.sc_unary.specs.Members.{member, or_next, among, among_unnamed, body_of}

pub member_deeper : (deep : ℕ) (structs : List StructDef) (name : NameId) (t : CType) → 0 < deep → member deep structs name t ≡ or_next (among (body_of structs t).union name 0 (body_of structs t).fields) (among_unnamed (member (deep - 1) structs name) (body_of structs t).union (body_of structs t).fields)
unfolding member
member_deeper zero structs name t h = absurd (omega (arith, h))
member_deeper (suc deep) structs name t h = let e : suc deep - 1 ≡ deep = omega arith in rw e refl
