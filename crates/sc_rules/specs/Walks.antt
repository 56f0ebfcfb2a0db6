-- Steps of typing. A step reads and changes the walk, and gives something; it gives nothing where there is a
-- fault in what it is given. An expression with a fault in it has no type: a rule that looks at types is
-- judged only where all its operands have them.
use Rattle.std.specs.Prelude.{ℕ, Bool, true, false, Option, Some, None, List, [], ◌∷◌, ◌++◌, slice_set, slice_index_or, length, if◌then◌else◌}
use Rattle.sc_base.specs.declared.pos.Pos.{Pos}
use Rattle.sc_base.specs.declared.pos.NameId.{NameId}
use Rattle.sc_base.specs.declared.skip.Unsupported.{Unsupported}
use Rattle.sc_base.specs.declared.skip.IllTyped.{IllTyped}
use Rattle.sc_typed.specs.declared.program.StructDef.{StructDef}
use Rattle.scopes.specs.Frames.{declared, opened, closed, innermost, meaning, here as declared_here}
use Rattle.sc_rules.specs.declared.walk.Walk.{Walk}
use Rattle.sc_rules.specs.declared.walk.Entity.{Entity}
use Rattle.sc_rules.specs.declared.walk.Tag.{Tag}
use Rattle.sc_rules.specs.declared.walk.Fault.{Fault}
use Rattle.sc_rules.specs.Faults.{with_fault, unsupported_at, ill_typed_at}

abbrev pub Check : Type 0 → Type 0
Check A = Walk → A × Walk

abbrev pub then_with : {A B : Type 0} → A × Walk → (A → Check B) → B × Walk
then_with (a, w) f = f a w

infixl 10 ◌>>=◌
abbrev pub ◌>>=◌ : {A B : Type 0} → Check A → (A → Check B) → Check B
◌>>=◌ m f w = then_with (m w) f

abbrev pub done : {A : Type 0} → A → Check A
done a w = (a, w)

-- goes on only with something
abbrev pub given : {A B : Type 0} → Option A → (A → Check (Option B)) → Check (Option B)
given None f = done None
given (Some a) f = f a

abbrev pub both : {A B C : Type 0} → Option A → Option B → (A → B → Check (Option C)) → Check (Option C)
both None b f = done None
both (Some a) None f = done None
both (Some a) (Some b) f = f a b

-- notes a fault, and gives nothing
abbrev pub fault : {A : Type 0} → Fault → Check (Option A)
fault f w = (None, record w { first = with_fault w.first f })

abbrev pub unsupported : {A : Type 0} → Unsupported → Pos → Check (Option A)
unsupported kind pos = fault (unsupported_at kind pos)

abbrev pub ill_typed : {A : Type 0} → IllTyped → Pos → Check (Option A)
ill_typed kind pos = fault (ill_typed_at kind pos)

-- notes a fault where the test does not hold, and says whether it holds
abbrev pub holds_or : Bool → Fault → Check Bool
holds_or true f w = (true, w)
holds_or false f w = (false, record w { first = with_fault w.first f })

-- The names in scope.

abbrev pub name_means : NameId → Check (Option Entity)
name_means n w = (meaning n.at w.names, w)

abbrev pub name_here : NameId → Check (Option Entity)
name_here n w = (declared_here n.at w.names, w)

abbrev pub declare : NameId → Entity → Check (Unit {0})
declare n what w = (tt, record w { names = declared n.at what w.names })

abbrev pub tag_means : NameId → Check (Option Tag)
tag_means n w = (meaning n.at w.tags, w)

abbrev pub tag_here : NameId → Check (Option Tag)
tag_here n w = (declared_here n.at w.tags, w)

abbrev pub declare_tag : NameId → Tag → Check (Unit {0})
declare_tag n what w = (tt, record w { tags = declared n.at what w.tags })

-- A scope with the names and tags that it has.
pub record Scope : Type 0 where
  pub names : List (ℕ × Entity)
  pub tags : List (ℕ × Tag)

abbrev pub no_scope : Scope
no_scope = record { names = []; tags = [] }

abbrev pub open_scope : Scope → Check (Unit {0})
open_scope s w = (tt, record w { names = opened s.names w.names; tags = opened s.tags w.tags })

-- closes the innermost scope, and gives it
abbrev pub close_scope : Check Scope
close_scope w = (
  record { names = innermost w.names.blocks; tags = innermost w.tags.blocks },
  record w { names = closed w.names; tags = closed w.tags },
)

-- a step in a scope of its own (C11 6.2.1, 6.8)
abbrev pub scoped : {A : Type 0} → Check A → Check A
scoped m = do
  _ ← open_scope no_scope
  a ← m
  _ ← close_scope
  done a
