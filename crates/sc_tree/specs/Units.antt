-- What the segments of a file are (C11 6.9): declarations and functions, or nothing of the grammar.
--
-- The typedef names declared before decide the grammar, so each segment is spelled with those that the
-- segments before it leave. A typedef name holds from the end of its declarator on.
use Rattle.std.specs.Prelude.{◌≡◌, ◌≤◌, ℕ, zero, suc, max, ◌-◌, Bool, true, false, List, [], ◌∷◌, ◌++◌, take, drop, Some, None, if◌then◌else◌}
use Rattle.sc_base.specs.declared.pos.Pos.{Pos}
use Rattle.sc_base.specs.declared.pos.NameId.{NameId}
use Rattle.sc_base.specs.declared.skip.Skip.TheVariants.{Grammar}
use Rattle.sc_tree.specs.declared.token.Token.{Token}
use Rattle.sc_tree.specs.declared.token.Kind.{Kind}
use Rattle.sc_tree.specs.declared.token.Kind.TheVariants as k
use Rattle.sc_tree.specs.declared.token.Punct.TheVariants as sign
use Rattle.sc_tree.specs.declared.expr.Head.{Head, roll-Head}
use Rattle.sc_tree.specs.declared.expr.Declarator.{Declarator}
use Rattle.sc_tree.specs.declared.decl.Init.{Init}
use Rattle.sc_tree.specs.declared.decl.InitDeclarator.{InitDeclarator}
use Rattle.sc_tree.specs.declared.stmt.Stmt.{Stmt}
use Rattle.sc_tree.specs.declared.unit.Segment.{Segment}
use Rattle.sc_tree.specs.declared.unit.FileDecl.{FileDecl}
use Rattle.sc_tree.specs.declared.unit.FileDecl.TheVariants as file
use Rattle.sc_tree.specs.declared.unit.Segment.TheVariants as segment
use Rattle.sc_tree.specs.declared.unit.Body.TheVariants as body
use Rattle.sc_tree.specs.declared.grammar.Naming.TheVariants as naming
use Rattle.sc_tree.specs.declared.grammar.Core.{Core}
use Rattle.sc_tree.specs.declared.grammar.Core.TheVariants as core
use Rattle.sc_tree.specs.declared.grammar.Specified.{Specified}
use Rattle.sc_tree.specs.Tokens.{punct, first_pos, is_type}
use Rattle.sc_tree.specs.Trees.{max_height}
use Rattle.sc_tree.specs.Grammar.{Specifies, Declares}
use Rattle.sc_tree.specs.Statements.{Initialises, States, declaration}

-- the typedef names with one more
abbrev pub with_type : List NameId → NameId → List NameId
with_type types w = if is_type types w then types else types ++ w ∷ []

-- what a declarator of a typedef adds to them
abbrev pub with_core : List NameId → Core → List NameId
with_core types core.Nameless = types
with_core types (core.Bare w) = with_type types w
with_core types (core.Function w named) = with_type types w
with_core types (core.Other w) = with_type types w

abbrev pub with_declared : Bool → List NameId → Core → List NameId
with_declared true types c = with_core types c
with_declared false types c = types

-- A declarator at file scope, where the flag is set in a typedef: the typedef names before it, and behind it.
pub data AFileDeclarator : Bool → List NameId → List NameId → ℕ → InitDeclarator → List Token → Type 0 where
  plain : {c : Core} {h : ℕ} {t : Declarator} {s : List Token} (def : Bool) (types : List NameId) → Declares types naming.Required c h t s
      → AFileDeclarator def types (with_declared def types c) h (record { declarator = t; init = None }) s
  set : {c : Core} {h m : ℕ} {t : Declarator} {i : Init} {s r : List Token} (def : Bool) (types : List NameId) (p : Pos) → Declares types naming.Required c h t s
      → Initialises (with_declared def types c) m i r
      → AFileDeclarator def types (with_declared def types c) (max h m) (record { declarator = t; init = Some i }) (s ++ punct sign.Assign p ∷ r)

pub data FileDeclarators : Bool → List NameId → List NameId → ℕ → List InitDeclarator → List Token → Type 0 where
  one : {def : Bool} {types behind : List NameId} {h : ℕ} {x : InitDeclarator} {s : List Token} → AFileDeclarator def types behind h x s
      → FileDeclarators def types behind h (x ∷ []) s
  more : {def : Bool} {types between behind : List NameId} {h m : ℕ} {x : InitDeclarator} {xs : List InitDeclarator} {s r : List Token} (p : Pos)
      → AFileDeclarator def types between h x s → FileDeclarators def between behind m xs r
      → FileDeclarators def types behind (max h m) (x ∷ xs) (s ++ punct sign.Comma p ∷ r)

-- A declaration at file scope: the typedef names before it, and behind it.
pub data AFileDeclaration : List NameId → List NameId → ℕ → FileDecl → List Token → Type 0 where
  empty : (types : List NameId) (p : Pos) → AFileDeclaration types types 0 (file.Empty p) (punct sign.Semicolon p ∷ [])
  bare : {types : List NameId} {h : ℕ} {f : Specified} {s : List Token} (p : Pos) → Specifies types h f s
      → AFileDeclaration types types h (file.Full (declaration (first_pos s) f [])) (s ++ punct sign.Semicolon p ∷ [])
  full : {types behind : List NameId} {h m : ℕ} {f : Specified} {xs : List InitDeclarator} {s r : List Token} (p : Pos) → Specifies types h f s
      → FileDeclarators f.typedef types behind m xs r
      → AFileDeclaration types behind (max h m) (file.Full (declaration (first_pos s) f xs)) (s ++ (r ++ punct sign.Semicolon p ∷ []))

-- The head of a function: its parameters stand directly round its name, and each has a name.
pub data AFunctionHead (types : List NameId) : ℕ → Head → List Token → Type 0 where
  a_function_head : {h m : ℕ} {f : Specified} {t : Declarator} {s r : List Token} (w : NameId) → Specifies types h f s
      → Declares types naming.Required (core.Function w true) m t r
      → AFunctionHead types (max h m) (roll-Head (record { pos = first_pos s; specs = f.specs; declarator = t })) (s ++ r)

-- ---- tokens in braces

-- Whether a token opens a bracket, closes one, or does neither.
pub data Turn : Type 0 where
  Opens : Turn
  Closes : Turn
  Neither : Turn

abbrev pub turn_of : Kind → Turn
turn_of (k.Punct sign.LeftParen) = Opens
turn_of (k.Punct sign.LeftBracket) = Opens
turn_of (k.Punct sign.LeftBrace) = Opens
turn_of (k.Punct sign.RightParen) = Closes
turn_of (k.Punct sign.RightBracket) = Closes
turn_of (k.Punct sign.RightBrace) = Closes
turn_of _ = Neither

abbrev pub is_brace : Kind → Bool
is_brace (k.Punct sign.LeftBrace) = true
is_brace _ = false

abbrev pub is_empty : List Token → Bool
is_empty [] = true
is_empty (t ∷ ts) = false

-- one token more, where `go` says it of the tokens behind it and `last` that there are none
abbrev pub closes_by : Turn → ℕ → (ℕ → Bool) → Bool → Bool
closes_by Opens n go last = go (suc n)
closes_by Closes zero go last = false
closes_by Closes (suc zero) go last = last
closes_by Closes (suc (suc n)) go last = go (suc n)
closes_by Neither n go last = go n

-- Whether the tokens close the last of that many open brackets with their last token, and not before. (The
-- brackets of a file are matched before it is cut into segments, so their kinds need not be compared.)
abbrev pub closes : ℕ → List Token → Bool
closes n [] = false
closes n (t ∷ ts) = closes_by (turn_of t.kind) n (λ m. closes m ts) (is_empty ts)

-- whether they begin with a brace whose other half ends them
abbrev pub is_braced : List Token → Bool
is_braced [] = false
is_braced (t ∷ ts) = elim (is_brace t.kind) [ true ↦ closes 1 ts | false ↦ false ]

-- ---- segments

-- the tokens spell the block, which is not too high to be a tree
pub record IsBlock (types : List NameId) (ts : List Token) (x : Stmt) : Type 0 where
  pub height : ℕ
  pub low : height ≤ max_height
  pub spelled : States types false height x ts

pub record IsDeclaration (types behind : List NameId) (ts : List Token) (x : FileDecl) : Type 0 where
  pub height : ℕ
  pub low : height ≤ max_height
  pub spelled : AFileDeclaration types behind height x ts

-- the tokens are the head of a function and a body in braces
pub record IsFunction (types : List NameId) (ts : List Token) (x : Head) (inside : List Token) : Type 0 where
  pub before : List Token
  pub split : ts ≡ before ++ inside
  pub height : ℕ
  pub low : height ≤ max_height
  pub spelled : AFunctionHead types height x before
  pub braced : is_braced inside ≡ true

-- A segment: what it is with the typedef names before it, and those behind it.
pub data Fits (types : List NameId) : List NameId → List Token → Segment → Type 0 where
  a_declaration : {behind : List NameId} {ts : List Token} {x : FileDecl} → IsDeclaration types behind ts x → Fits types behind ts (segment.Decl x)
  a_function : {ts inside : List Token} {x : Head} {b : Stmt} → IsFunction types ts x inside → IsBlock types inside b
      → Fits types types ts (segment.Function x (body.Tree b))
  -- its body spells no block
  a_skipped_body : {ts inside : List Token} {x : Head} → IsFunction types ts x inside → ((b : Stmt) → IsBlock types inside b → ⊥)
      → Fits types types ts (segment.Function x (body.Skipped (Grammar (first_pos inside))))
  -- it spells neither
  a_skipped : (ts : List Token) → ((behind : List NameId) (x : FileDecl) → IsDeclaration types behind ts x → ⊥)
      → ((x : Head) (inside : List Token) → IsFunction types ts x inside → ⊥)
      → Fits types types ts (segment.Skipped (Grammar (first_pos ts)))

-- All segments of a file, each from the end of the one before it to its own.
pub data AllFit : List NameId → List Token → ℕ → List ℕ → List Segment → Type 0 where
  none : (types : List NameId) (ts : List Token) (from : ℕ) → AllFit types ts from [] []
  next : {types behind : List NameId} {ts : List Token} {from end : ℕ} {ends : List ℕ} {x : Segment} {xs : List Segment}
      → Fits types behind (take (end - from) (drop from ts)) x → AllFit behind ts end ends xs → AllFit types ts from (end ∷ ends) (x ∷ xs)
