-- The laws that tie the reading to the grammar: what is read is spelled, and what is spelled is read.
use Rattle.std.specs.Prelude.{◌≡◌, ◌≤◌, ℕ, Bool, true, false, List, [], ◌++◌, Some}
use Rattle.sc_base.specs.declared.pos.NameId.{NameId}
use Rattle.sc_tree.specs.declared.token.Token.{Token}
use Rattle.sc_tree.specs.declared.decl.Init.{Init}
use Rattle.sc_tree.specs.declared.decl.Decl.{Decl}
use Rattle.sc_tree.specs.declared.stmt.Stmt.{Stmt}
use Rattle.sc_tree.specs.declared.unit.Segment.{Segment}
use Rattle.sc_tree.specs.declared.unit.FileDecl.{FileDecl}
use Rattle.sc_tree.specs.declared.grammar.Level.TheVariants.{Assignment}
use Rattle.sc_tree.specs.Statements.{Initialises, ADeclaration, States}
use Rattle.sc_tree.specs.declared.expr.Head.{Head}
use Rattle.sc_tree.specs.Units.{Fits, AllFit, IsDeclaration, IsFunction}
use Rattle.sc_parse_unit.specs.declared.found.Outline.{Outline}
use Rattle.sc_parse_unit.specs.declared.found.Outline.TheVariants as outline
use Rattle.sc_parse_front.specs.Front.{front_reserved}
use Rattle.sc_parse_expr.specs.Read.{Read, read}
use Rattle.sc_parse_expr.specs.Laws.{ends_expr}
use Rattle.sc_parse_unit.specs.Reading.{initialiser, body_declaration, is_else, statement, Outlined, outlined, outline_of, segment_of, segments_of}

-- ---- what is read is spelled

pub record TakesInit (types : List NameId) (limit : ℕ) (ts : List Token) (r : Read Init) : Type 0 where
  pub span : List Token
  pub split : ts ≡ span ++ r.rest
  pub spelled : Initialises types r.height r.it span
  pub low : r.height ≤ limit

pub record TakesDecl (types : List NameId) (limit : ℕ) (ts : List Token) (r : Read Decl) : Type 0 where
  pub span : List Token
  pub split : ts ≡ span ++ r.rest
  pub spelled : ADeclaration types r.height r.it span
  pub low : r.height ≤ limit

pub record TakesStmt (types : List NameId) (limit : ℕ) (ts : List Token) (r : Read Stmt) : Type 0 where
  pub span : List Token
  pub split : ts ≡ span ++ r.rest
  -- whether it ends in an `if` that could take an `else`; none follows then
  pub is_open : Bool
  pub spelled : States types is_open r.height r.it span
  pub closed : is_open ≡ true → is_else (front_reserved r.rest) ≡ false
  pub low : r.height ≤ limit

pub record IsSound (types : List NameId) (limit : ℕ) : Type 0 where
  pub init : (ts : List Token) (r : Read Init) → initialiser types limit ts ≡ Some r → TakesInit types limit ts r
  pub declaration : (ts : List Token) (r : Read Decl) → body_declaration types limit ts ≡ Some r → TakesDecl types limit ts r
  pub statement : (ts : List Token) (r : Read Stmt) → statement types limit ts ≡ Some r → TakesStmt types limit ts r

-- ---- what is spelled is read

pub record IsComplete (types : List NameId) (limit : ℕ) : Type 0 where
  pub init : (h : ℕ) (t : Init) (s rest : List Token) → Initialises types h t s → h ≤ limit → ends_expr Assignment rest ≡ true
      → initialiser types limit (s ++ rest) ≡ Some (read t h rest)
  pub declaration : (h : ℕ) (t : Decl) (s rest : List Token) → ADeclaration types h t s → h ≤ limit → 1 ≤ limit
      → body_declaration types limit (s ++ rest) ≡ Some (read t h rest)
  pub statement : (b : Bool) (h : ℕ) (t : Stmt) (s rest : List Token) → States types b h t s → h ≤ limit → (b ≡ true → is_else (front_reserved rest) ≡ false)
      → statement types limit (s ++ rest) ≡ Some (read t h rest)

-- ---- segments

abbrev pub Outlines : List NameId → List Token → Outline → List NameId → List Token → Type 0
Outlines types ts (outline.Decl x) behind inside = IsDeclaration types behind ts x
Outlines types ts (outline.Function x) behind inside = IsFunction types ts x inside × (behind ≡ types)

-- what a segment is read as before its body, it is; and what it is, it is read as
pub record IsOutline (types : List NameId) (ts : List Token) : Type 0 where
  pub sound : (o : Outlined) → outline_of types ts ≡ Some o → Outlines types ts o.it o.types o.inside
  pub declaration : (behind : List NameId) (x : FileDecl) → IsDeclaration types behind ts x → outline_of types ts ≡ Some (outlined (outline.Decl x) behind [])
  pub function : (x : Head) (inside : List Token) → IsFunction types ts x inside → outline_of types ts ≡ Some (outlined (outline.Function x) types inside)

-- what a segment is read as, it is; and it is nothing else
pub record IsSegment (types : List NameId) (ts : List Token) : Type 0 where
  pub fits : Fits types (segment_of types ts).types ts (segment_of types ts).it
  pub only : (behind : List NameId) (x : Segment) → Fits types behind ts x → (x ≡ (segment_of types ts).it) × (behind ≡ (segment_of types ts).types)

pub record AreSegments (types : List NameId) (ts : List Token) (from : ℕ) (ends : List ℕ) : Type 0 where
  pub fit : AllFit types ts from ends (segments_of types ts from ends)
  pub only : (xs : List Segment) → AllFit types ts from ends xs → xs ≡ segments_of types ts from ends
