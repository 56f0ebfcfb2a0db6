-- Steps that leave nothing of the walk behind but a fault, or what ends with the innermost scope.
use Rattle.std.specs.Prelude.{◌≡◌, ℕ, Bool, true, false, None, List, [], ◌∷◌}
use Rattle.sc_base.specs.declared.pos.NameId.{NameId}
use Rattle.scopes.specs.Frames.{Frames, closed}
use Rattle.sc_rules.specs.declared.walk.Walk.{Walk}
use Rattle.sc_rules.specs.declared.walk.Tag.{Tag}
use Rattle.sc_rules.specs.declared.walk.TagKind.{TagKind}
use Rattle.sc_rules.specs.Walks.{Check}
use Rattle.plain_bodies.specs.Tagged.{is_tagged}

-- what has the tags that those scopes have
pub record HasTags (tags here : Frames Tag) : Type 0 where
  pub has : (kind : TagKind) (name : NameId) → is_tagged tags kind name ≡ true → is_tagged here kind name ≡ true

-- a walk without the fault that it noted
abbrev pub faultless : Walk → Walk
faultless w = record w { first = None }

-- a step that changes the fault alone, of every walk that has those tags
pub record FaultAlone (tags : Frames Tag) {A : Type 0} (m : Check A) : Type 0 where
  pub kept : (w : Walk) → HasTags tags w.tags → faultless (m w).1 ≡ faultless w

-- a walk without what ends with the innermost scope and with the function
abbrev pub outside : Walk → Walk
outside w = record w { names = closed w.names; locals = []; first = None }

abbrev pub is_open : {T : Type 0} → List (List (ℕ × T)) → Bool
is_open [] = false
is_open (b ∷ bs) = true

-- a step in a block that leaves what is outside as it is
pub record InBlock (tags : Frames Tag) {A : Type 0} (m : Check A) : Type 0 where
  pub kept : (w : Walk) → HasTags tags w.tags → is_open w.names.blocks ≡ true
      → (outside (m w).1 ≡ outside w) × (is_open (m w).1.names.blocks ≡ true)
