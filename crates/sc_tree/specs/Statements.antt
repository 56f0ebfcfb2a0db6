-- Which tokens spell which initialiser, declaration and statement (C11 6.7, 6.7.9, 6.8): one case for each
-- row of the grammar. Each statement counts one for the height, and so does each pair of braces of an
-- initialiser; `case` and `default` count nothing.
use Rattle.std.specs.Prelude.{◌≡◌, ℕ, suc, max, Bool, true, false, List, [], ◌∷◌, ◌++◌, Option, Some, None}
use Rattle.sc_base.specs.declared.pos.Pos.{Pos}
use Rattle.sc_base.specs.declared.pos.NameId.{NameId}
use Rattle.sc_tree.specs.declared.token.Token.{Token}
use Rattle.sc_tree.specs.declared.token.Punct.TheVariants as sign
use Rattle.sc_tree.specs.declared.token.Reserved.TheVariants as key
use Rattle.sc_tree.specs.declared.expr.Expr.{Expr}
use Rattle.sc_tree.specs.declared.expr.Declarator.{Declarator}
use Rattle.sc_tree.specs.declared.decl.Init.{Init}
use Rattle.sc_tree.specs.declared.decl.Init.TheVariants as init
use Rattle.sc_tree.specs.declared.decl.InitItem.{InitItem, roll-InitItem}
use Rattle.sc_tree.specs.declared.decl.Designator.{Designator}
use Rattle.sc_tree.specs.declared.decl.Designator.TheVariants as designator
use Rattle.sc_tree.specs.declared.decl.Decl.{Decl}
use Rattle.sc_tree.specs.declared.decl.InitDeclarator.{InitDeclarator}
use Rattle.sc_tree.specs.declared.stmt.Stmt.{Stmt}
use Rattle.sc_tree.specs.declared.stmt.Stmt.TheVariants as stmt
use Rattle.sc_tree.specs.declared.stmt.ForStart.{ForStart}
use Rattle.sc_tree.specs.declared.stmt.ForStart.TheVariants as first
use Rattle.sc_tree.specs.declared.stmt.ForHead.{ForHead}
use Rattle.sc_tree.specs.declared.grammar.Level.TheVariants.{Choice, Assignment, Whole}
use Rattle.sc_tree.specs.declared.grammar.Naming.TheVariants as naming
use Rattle.sc_tree.specs.declared.grammar.Core.{Core}
use Rattle.sc_tree.specs.declared.grammar.BodyForm.TheVariants as form
use Rattle.sc_tree.specs.declared.grammar.Specified.{Specified}
use Rattle.sc_tree.specs.Tokens.{word, punct, reserved, first_pos}
use Rattle.sc_tree.specs.Grammar.{Spells, Specifies, Declares}

-- ---- initialisers (C11 6.7.9)

pub data ADesignator (types : List NameId) : ℕ → Designator → List Token → Type 0 where
  of_field : (w : NameId) (p q : Pos) → ADesignator types 0 (designator.Field w) (punct sign.Dot p ∷ word w q ∷ [])
  of_index : {h : ℕ} {t : Expr} {s : List Token} (p q : Pos) → Spells types Choice h t s
      → ADesignator types h (designator.Index t) (punct sign.LeftBracket p ∷ (s ++ punct sign.RightBracket q ∷ []))

-- one or more, one behind the other
pub data Designates (types : List NameId) : ℕ → List Designator → List Token → Type 0 where
  one_designator : {h : ℕ} {x : Designator} {s : List Token} → ADesignator types h x s → Designates types h (x ∷ []) s
  more_designators : {h m : ℕ} {x : Designator} {xs : List Designator} {s r : List Token} → ADesignator types h x s → Designates types m xs r
      → Designates types (max h m) (x ∷ xs) (s ++ r)

mutual
  pub data Initialises (types : List NameId) : ℕ → Init → List Token → Type 0 where
    a_value : {h : ℕ} {t : Expr} {s : List Token} → Spells types Assignment h t s → Initialises types h (init.One t) s
    empty_braces : (p q : Pos) → Initialises types 1 (init.List []) (punct sign.LeftBrace p ∷ punct sign.RightBrace q ∷ [])
    in_braces : {h : ℕ} {xs : List InitItem} {s : List Token} (p q : Pos) → InitItems types h xs s
        → Initialises types (suc h) (init.List xs) (punct sign.LeftBrace p ∷ (s ++ punct sign.RightBrace q ∷ []))

  -- one or more with commas between; a comma may end them
  pub data InitItems (types : List NameId) : ℕ → List InitItem → List Token → Type 0 where
    last_item : {h : ℕ} {x : InitItem} {s : List Token} → AnInitItem types h x s → InitItems types h (x ∷ []) s
    last_item_with_comma : {h : ℕ} {x : InitItem} {s : List Token} (p : Pos) → AnInitItem types h x s → InitItems types h (x ∷ []) (s ++ punct sign.Comma p ∷ [])
    more_items : {h m : ℕ} {x : InitItem} {xs : List InitItem} {s r : List Token} (p : Pos) → AnInitItem types h x s → InitItems types m xs r
        → InitItems types (max h m) (x ∷ xs) (s ++ punct sign.Comma p ∷ r)

  pub data AnInitItem (types : List NameId) : ℕ → InitItem → List Token → Type 0 where
    an_item : {h : ℕ} {t : Init} {s : List Token} → Initialises types h t s → AnInitItem types h (roll-InitItem (record { designators = []; init = t })) s
    a_designated : {h m : ℕ} {xs : List Designator} {t : Init} {s r : List Token} (p : Pos) → Designates types h xs s → Initialises types m t r
        → AnInitItem types (max h m) (roll-InitItem (record { designators = xs; init = t })) (s ++ punct sign.Assign p ∷ r)

-- ---- declarations in a body (C11 6.7)

-- a declarator with its initialiser, if it has one
pub data AnInitDeclarator (types : List NameId) : ℕ → InitDeclarator → List Token → Type 0 where
  uninitialised : {c : Core} {h : ℕ} {t : Declarator} {s : List Token} → Declares types naming.Required c h t s
      → AnInitDeclarator types h (record { declarator = t; init = None }) s
  initialised : {c : Core} {h m : ℕ} {t : Declarator} {i : Init} {s r : List Token} (p : Pos) → Declares types naming.Required c h t s → Initialises types m i r
      → AnInitDeclarator types (max h m) (record { declarator = t; init = Some i }) (s ++ punct sign.Assign p ∷ r)

pub data InitDeclarators (types : List NameId) : ℕ → List InitDeclarator → List Token → Type 0 where
  one_declared : {h : ℕ} {x : InitDeclarator} {s : List Token} → AnInitDeclarator types h x s → InitDeclarators types h (x ∷ []) s
  more_declared : {h m : ℕ} {x : InitDeclarator} {xs : List InitDeclarator} {s r : List Token} (p : Pos) → AnInitDeclarator types h x s → InitDeclarators types m xs r
      → InitDeclarators types (max h m) (x ∷ xs) (s ++ punct sign.Comma p ∷ r)

-- specifiers without `typedef` and without the body of a struct, union or enum
pub record IsPlain (f : Specified) : Type 0 where
  pub no_typedef : f.typedef ≡ false
  pub no_body : f.form ≡ form.NoBody

abbrev pub declaration : Pos → Specified → List InitDeclarator → Decl
declaration p f xs = record { pos = p; specs = f.specs; parts = xs }

pub data ADeclaration (types : List NameId) : ℕ → Decl → List Token → Type 0 where
  without_declarators : {h : ℕ} {f : Specified} {s : List Token} (p : Pos) → Specifies types h f s → IsPlain f
      → ADeclaration types h (declaration (first_pos s) f []) (s ++ punct sign.Semicolon p ∷ [])
  with_declarators : {h m : ℕ} {f : Specified} {xs : List InitDeclarator} {s r : List Token} (p : Pos) → Specifies types h f s → IsPlain f → InitDeclarators types m xs r
      → ADeclaration types (max h m) (declaration (first_pos s) f xs) (s ++ (r ++ punct sign.Semicolon p ∷ []))

-- ---- statements (C11 6.8)

-- an expression that may be left out
pub data AtMost (types : List NameId) : ℕ → Option Expr → List Token → Type 0 where
  left_out : AtMost types 0 None []
  there : {h : ℕ} {t : Expr} {s : List Token} → Spells types Whole h t s → AtMost types h (Some t) s

-- what stands between the brackets of a `for`
abbrev pub for_head : ForStart → Option Expr → Option Expr → ForHead
for_head f c e = record { start = f; test = c; step = e }

-- what stands in the first place of a `for`, with its semicolon
pub data Starts (types : List NameId) : ℕ → ForStart → List Token → Type 0 where
  with_nothing : (p : Pos) → Starts types 0 first.Nothing (punct sign.Semicolon p ∷ [])
  with_expr : {h : ℕ} {t : Expr} {s : List Token} (p : Pos) → Spells types Whole h t s → Starts types h (first.Expr t) (s ++ punct sign.Semicolon p ∷ [])
  with_declaration : {h : ℕ} {t : Decl} {s : List Token} → ADeclaration types h t s → Starts types (suc h) (first.Decl t (first_pos s)) s

mutual
  -- Statements. The flag says whether the statement ends in an `if` that could take an `else`: one that
  -- does may not stand between the condition of an `if` and its `else`, so an `else` belongs to the nearest
  -- `if` (C11 6.8.4.1, paragraph 3).
  pub data States (types : List NameId) : Bool → ℕ → Stmt → List Token → Type 0 where
    a_block : {h : ℕ} {xs : List Stmt} {s : List Token} (p q : Pos) → Items types false h xs s
        → States types false (suc h) (stmt.Block xs p q) (punct sign.LeftBrace p ∷ (s ++ punct sign.RightBrace q ∷ []))
    an_expression : {h : ℕ} {t : Expr} {s : List Token} (p : Pos) → Spells types Whole h t s
        → States types false (suc h) (stmt.Expr (Some t) (first_pos s)) (s ++ punct sign.Semicolon p ∷ [])
    no_expression : (p : Pos) → States types false 1 (stmt.Expr None p) (punct sign.Semicolon p ∷ [])
    an_if : {b : Bool} {h m : ℕ} {c : Expr} {x : Stmt} {s r : List Token} (p q o : Pos) → Spells types Whole h c s → States types b m x r
        → States types true (suc (max h m)) (stmt.If c x None p) (reserved key.If p ∷ punct sign.LeftParen q ∷ (s ++ punct sign.RightParen o ∷ r))
    an_if_else : {b : Bool} {h m n : ℕ} {c : Expr} {x y : Stmt} {s r u : List Token} (p q o v : Pos) → Spells types Whole h c s → States types false m x r → States types b n y u
        → States types b (suc (max h (max m n))) (stmt.If c x (Some y) p)
        (reserved key.If p ∷ punct sign.LeftParen q ∷ (s ++ punct sign.RightParen o ∷ (r ++ reserved key.Else v ∷ u)))
    a_while : {b : Bool} {h m : ℕ} {c : Expr} {x : Stmt} {s r : List Token} (p q o : Pos) → Spells types Whole h c s → States types b m x r
        → States types b (suc (max h m)) (stmt.While c x p) (reserved key.While p ∷ punct sign.LeftParen q ∷ (s ++ punct sign.RightParen o ∷ r))
    a_do : {b : Bool} {h m : ℕ} {c : Expr} {x : Stmt} {s r : List Token} (p q o v w : Pos) → States types b h x s → Spells types Whole m c r
        → States types false (suc (max h m)) (stmt.Do x c p)
        (reserved key.Do p ∷ (s ++ reserved key.While q ∷ punct sign.LeftParen o ∷ (r ++ punct sign.RightParen v ∷ punct sign.Semicolon w ∷ [])))
    a_for : {b : Bool} {h k m n : ℕ} {f : ForStart} {c e : Option Expr} {x : Stmt} {s r u v : List Token} (p q o w : Pos)
        → Starts types h f s → AtMost types k c r → AtMost types m e u → States types b n x v
        → States types b (suc (max h (max k (max m n)))) (stmt.For (for_head f c e) x p)
        (reserved key.For p ∷ punct sign.LeftParen q ∷ (s ++ (r ++ punct sign.Semicolon o ∷ (u ++ punct sign.RightParen w ∷ v))))
    a_switch : {h m : ℕ} {c : Expr} {xs : List Stmt} {s r : List Token} (p q o v w : Pos) → Spells types Whole h c s → Items types true m xs r
        → States types false (suc (max h m)) (stmt.Switch c xs p w)
        (reserved key.Switch p ∷ punct sign.LeftParen q ∷ (s ++ punct sign.RightParen o ∷ punct sign.LeftBrace v ∷ (r ++ punct sign.RightBrace w ∷ [])))
    a_goto : (l : NameId) (p q o : Pos) → States types false 1 (stmt.Goto l p) (reserved key.Goto p ∷ word l q ∷ punct sign.Semicolon o ∷ [])
    a_break : (p q : Pos) → States types false 1 (stmt.Break p) (reserved key.Break p ∷ punct sign.Semicolon q ∷ [])
    a_continue : (p q : Pos) → States types false 1 (stmt.Continue p) (reserved key.Continue p ∷ punct sign.Semicolon q ∷ [])
    a_return : {h : ℕ} {t : Option Expr} {s : List Token} (p q : Pos) → AtMost types h t s
        → States types false (suc h) (stmt.Return t p) (reserved key.Return p ∷ (s ++ punct sign.Semicolon q ∷ []))
    a_label : {b : Bool} {h : ℕ} {x : Stmt} {s : List Token} (l : NameId) (p q : Pos) → States types b h x s
        → States types b (suc h) (stmt.Label l x p) (word l p ∷ punct sign.Colon q ∷ s)

  -- What stands between braces; the flag is set in those of a `switch`.
  pub data Items (types : List NameId) : Bool → ℕ → List Stmt → List Token → Type 0 where
    no_item : (switch : Bool) → Items types switch 0 [] []
    more : {switch : Bool} {h m : ℕ} {x : Stmt} {xs : List Stmt} {s r : List Token} → AnItem types switch h x s → Items types switch m xs r
        → Items types switch (max h m) (x ∷ xs) (s ++ r)

  pub data AnItem (types : List NameId) : Bool → ℕ → Stmt → List Token → Type 0 where
    a_statement : {b : Bool} {h : ℕ} {x : Stmt} {s : List Token} (switch : Bool) → States types b h x s → AnItem types switch h x s
    a_declared : {h : ℕ} {t : Decl} {s : List Token} (switch : Bool) → ADeclaration types h t s → AnItem types switch (suc h) (stmt.Decl t (first_pos s)) s
    a_case : {h : ℕ} {t : Expr} {s : List Token} (p q : Pos) → Spells types Choice h t s
        → AnItem types true h (stmt.Case t p) (reserved key.Case p ∷ (s ++ punct sign.Colon q ∷ []))
    a_default : (p q : Pos) → AnItem types true 0 (stmt.Default p) (reserved key.Default p ∷ punct sign.Colon q ∷ [])
