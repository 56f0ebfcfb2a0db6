-- Which tokens spell which expression, type and declarator (C11 6.5, 6.7): one case for each row of the
-- grammar. In each, `h` is the height of the tree, which counts one for each expression and each
-- declarator on the way down, for each pair of round brackets round one, for each `*` of a declarator,
-- and for each body of a struct, union or enum.
--
-- `types` are the typedef names declared before. They decide the grammar: a typedef name is never an
-- expression, and never the name of a variable, a parameter or a function.
use Rattle.std.specs.Prelude.{◌≡◌, ℕ, suc, max, Bool, true, false, ◌&&◌, List, [], ◌∷◌, ◌++◌, Option, Some, None, ℤ, if◌then◌else◌}
use Rattle.sc_base.specs.declared.pos.Pos.{Pos}
use Rattle.sc_base.specs.declared.pos.NameId.{NameId}
use Rattle.sc_tree.specs.declared.token.Token.{Token}
use Rattle.sc_tree.specs.declared.token.Kind.{Kind}
use Rattle.sc_tree.specs.declared.token.Kind.TheVariants as k
use Rattle.sc_tree.specs.declared.token.Punct.{Punct}
use Rattle.sc_tree.specs.declared.token.Punct.TheVariants as sign
use Rattle.sc_tree.specs.declared.token.Reserved.{Reserved}
use Rattle.sc_tree.specs.declared.token.Reserved.TheVariants as key
use Rattle.sc_tree.specs.declared.token.IntToken.{IntToken}
use Rattle.sc_tree.specs.declared.token.StrToken.{StrToken}
use Rattle.sc_tree.specs.declared.op.UnaryOp.{UnaryOp}
use Rattle.sc_tree.specs.declared.op.BinaryOp.{BinaryOp}
use Rattle.sc_tree.specs.declared.op.AssignOp.{AssignOp}
use Rattle.sc_tree.specs.declared.op.Step.{Step}
use Rattle.sc_tree.specs.declared.expr.Expr.{Expr}
use Rattle.sc_tree.specs.declared.expr.Expr.TheVariants as e
use Rattle.sc_tree.specs.declared.expr.Storage.{Storage}
use Rattle.sc_tree.specs.declared.expr.Head.{Head, roll-Head}
use Rattle.sc_tree.specs.declared.expr.Base.TheVariants as base
use Rattle.sc_tree.specs.declared.expr.Aggregate.{roll-Aggregate}
use Rattle.sc_tree.specs.declared.expr.Member.{Member, roll-Member}
use Rattle.sc_tree.specs.declared.expr.Part.{Part, roll-Part}
use Rattle.sc_tree.specs.declared.expr.EnumSpec.{roll-EnumSpec}
use Rattle.sc_tree.specs.declared.expr.Enumerator.{Enumerator, roll-Enumerator}
use Rattle.sc_tree.specs.declared.expr.Declarator.{Declarator}
use Rattle.sc_tree.specs.declared.expr.Declarator.TheVariants as d
use Rattle.sc_tree.specs.declared.grammar.Level.{Level}
use Rattle.sc_tree.specs.declared.grammar.Level.TheVariants.{Primary, Postfix, Prefix, Cast, Operators, Choice, Assignment, Whole}
use Rattle.sc_tree.specs.declared.grammar.Naming.{Naming}
use Rattle.sc_tree.specs.declared.grammar.Naming.TheVariants as naming
use Rattle.sc_tree.specs.declared.grammar.Core.{Core}
use Rattle.sc_tree.specs.declared.grammar.Core.TheVariants as core
use Rattle.sc_tree.specs.declared.grammar.BodyForm.{BodyForm}
use Rattle.sc_tree.specs.declared.grammar.BodyForm.TheVariants as form
use Rattle.sc_tree.specs.declared.grammar.TypeWord.{TypeWord}
use Rattle.sc_tree.specs.declared.grammar.Piece.{Piece}
use Rattle.sc_tree.specs.declared.grammar.Piece.TheVariants as piece
use Rattle.sc_tree.specs.declared.grammar.Gathered.{Gathered}
use Rattle.sc_tree.specs.declared.grammar.Specified.{Specified}
use Rattle.sc_tree.specs.Operators.{binding, binary, unary, step, assign, field}
use Rattle.sc_tree.specs.TypeWords.{storage_word, type_word}
use Rattle.sc_tree.specs.Specifiers.{no_pieces, with_pieces, finished}
use Rattle.sc_tree.specs.Tokens.{token, word, punct, reserved, first_pos, at, after, is_type}

-- whether the word begins a struct (false) or a union (true)
abbrev pub record_word : Reserved → Option Bool
record_word key.Struct = Some false
record_word key.Union = Some true
record_word _ = None

-- the body of a struct or union makes its specifiers one with a body, and without a tag one by itself
abbrev pub body_form : Option NameId → BodyForm
body_form (Some tag) = form.WithBody
body_form None = form.Untagged

-- whether the word may be the name of such a declarator
abbrev pub may_name : Naming → List NameId → NameId → Bool
may_name naming.Required types w = if is_type types w then false else true
may_name naming.Member types w = true
may_name naming.Optional types w = if is_type types w then false else true
may_name naming.Absent types w = false

-- whether such a declarator may be without a name
abbrev pub may_lack : Naming → Bool
may_lack naming.Required = false
may_lack naming.Member = false
may_lack naming.Optional = true
may_lack naming.Absent = true

-- what a declarator declares behind a `*` or before an array's brackets
abbrev pub covered : Core → Core
covered (core.Bare w) = core.Other w
covered c = c

-- what it declares before the brackets of parameters, all of which have names or not
abbrev pub called : Bool → Core → Core
called named (core.Bare w) = core.Function w named
called named c = c

-- whether it has a name
abbrev pub is_named : Core → Bool
is_named core.Nameless = false
is_named _ = true

-- whether the word is `void`
abbrev pub is_void_word : Kind → Bool
is_void_word (k.Reserved key.Void) = true
is_void_word _ = false

-- the form of parameters that is `void` alone
abbrev pub is_void : List Token → Bool
is_void [] = false
is_void (t ∷ ts) = elim ts [ [] ↦ is_void_word t.kind | u ∷ us ↦ false ]

-- One or more string literals (C11 6.4.5), which are one string.
pub data Strings : List StrToken → List Token → Type 0 where
  one_string : (x : StrToken) (p : Pos) → Strings (x ∷ []) (token (k.Str x) p ∷ [])
  more_strings : {xs : List StrToken} {s : List Token} (x : StrToken) (p : Pos) → Strings xs s → Strings (x ∷ xs) (token (k.Str x) p ∷ s)

mutual
  -- Expressions (C11 6.5), by level.
  pub data Spells (types : List NameId) : Level → ℕ → Expr → List Token → Type 0 where
    -- C11 6.5.1
    a_name : (w : NameId) (p : Pos) → is_type types w ≡ false → Spells types Primary 1 (e.Name w (at p)) (word w p ∷ [])
    an_int : (i : IntToken) (p : Pos) → Spells types Primary 1 (e.Int i (at p)) (token (k.Int i) p ∷ [])
    a_char : (c : ℤ) (p : Pos) → Spells types Primary 1 (e.Char c (at p)) (token (k.Char c) p ∷ [])
    an_odd : (p : Pos) → Spells types Primary 1 (e.Odd (at p)) (token k.Odd p ∷ [])
    a_string : {ss : List StrToken} {s : List Token} → Strings ss s → Spells types Primary 1 (e.Str ss (at (first_pos s))) s
    brackets : {h : ℕ} {t : Expr} {s : List Token} (p q : Pos) → Spells types Whole h t s
        → Spells types Primary (suc h) t (punct sign.LeftParen p ∷ (s ++ punct sign.RightParen q ∷ []))
    -- C11 6.5.2
    a_primary : {h : ℕ} {t : Expr} {s : List Token} → Spells types Primary h t s → Spells types Postfix h t s
    an_index : {h m : ℕ} {a b : Expr} {s r : List Token} (p q : Pos) → Spells types Postfix h a s → Spells types Whole m b r
        → Spells types Postfix (suc (max h m)) (e.Index a b (after s p)) (s ++ punct sign.LeftBracket p ∷ (r ++ punct sign.RightBracket q ∷ []))
    a_call : {h m : ℕ} {a : Expr} {args : List Expr} {s r : List Token} (p q : Pos) → Spells types Postfix h a s → Arguments types m args r
        → Spells types Postfix (suc (max h m)) (e.Call a args (after s p)) (s ++ punct sign.LeftParen p ∷ (r ++ punct sign.RightParen q ∷ []))
    a_field : {h : ℕ} {a : Expr} {s : List Token} (o : Punct) (arrow : Bool) (w : NameId) (p q : Pos) → field o ≡ Some arrow → Spells types Postfix h a s
        → Spells types Postfix (suc h) (e.Field a w arrow (after s q)) (s ++ punct o p ∷ word w q ∷ [])
    a_step_behind : {h : ℕ} {a : Expr} {s : List Token} (o : Punct) (by : Step) (p : Pos) → step o ≡ Some by → Spells types Postfix h a s
        → Spells types Postfix (suc h) (e.PostInc by a (after s p)) (s ++ punct o p ∷ [])
    -- C11 6.5.3
    a_postfix : {h : ℕ} {t : Expr} {s : List Token} → Spells types Postfix h t s → Spells types Prefix h t s
    a_unary : {h : ℕ} {a : Expr} {s : List Token} (o : Punct) (op : UnaryOp) (p : Pos) → unary o ≡ Some op → Spells types Cast h a s
        → Spells types Prefix (suc h) (e.Unary op a (at p)) (punct o p ∷ s)
    a_step_before : {h : ℕ} {a : Expr} {s : List Token} (o : Punct) (by : Step) (p : Pos) → step o ≡ Some by → Spells types Prefix h a s
        → Spells types Prefix (suc h) (e.PreInc by a (at p)) (punct o p ∷ s)
    a_size : {h : ℕ} {a : Expr} {s : List Token} (p : Pos) → Spells types Prefix h a s
        → Spells types Prefix (suc h) (e.SizeofExpr a (at p)) (reserved key.Sizeof p ∷ s)
    a_size_of_type : {named : Bool} {h : ℕ} {t : Head} {s : List Token} (p q o : Pos) → Heads types naming.Absent named h t s
        → Spells types Prefix (suc h) (e.SizeofType t (at p)) (reserved key.Sizeof p ∷ punct sign.LeftParen q ∷ (s ++ punct sign.RightParen o ∷ []))
    -- C11 6.5.4
    a_prefix : {h : ℕ} {t : Expr} {s : List Token} → Spells types Prefix h t s → Spells types Cast h t s
    a_cast : {named : Bool} {h m : ℕ} {t : Head} {a : Expr} {s r : List Token} (p q : Pos) → Heads types naming.Absent named h t s → Spells types Cast m a r
        → Spells types Cast (suc (max h m)) (e.Cast t a (at p)) (punct sign.LeftParen p ∷ (s ++ punct sign.RightParen q ∷ r))
    -- C11 6.5.5 to 6.5.14
    an_operand : {h : ℕ} {t : Expr} {s : List Token} → Spells types Cast h t s → Spells types (Operators 0) h t s
    stronger : {l h : ℕ} {t : Expr} {s : List Token} → Spells types (Operators l) h t s → Spells types (Operators (suc l)) h t s
    a_binary : {l h m : ℕ} {a b : Expr} {s r : List Token} (o : Punct) (op : BinaryOp) (p : Pos) → binary o ≡ binding (suc l) op
        → Spells types (Operators (suc l)) h a s → Spells types (Operators l) m b r
        → Spells types (Operators (suc l)) (suc (max h m)) (e.Binary op a b (after s p)) (s ++ punct o p ∷ r)
    -- C11 6.5.15
    no_choice : {h : ℕ} {t : Expr} {s : List Token} → Spells types (Operators 10) h t s → Spells types Choice h t s
    a_choice : {h m n : ℕ} {a b c : Expr} {s r u : List Token} (p q : Pos) → Spells types (Operators 10) h a s → Spells types Whole m b r → Spells types Choice n c u
        → Spells types Choice (suc (max h (max m n))) (e.Cond a b c (after s p)) (s ++ punct sign.Question p ∷ (r ++ punct sign.Colon q ∷ u))
    -- C11 6.5.16
    no_assignment : {h : ℕ} {t : Expr} {s : List Token} → Spells types Choice h t s → Spells types Assignment h t s
    an_assignment : {h m : ℕ} {a b : Expr} {s r : List Token} (o : Punct) (op : AssignOp) (p : Pos) → assign o ≡ Some op
        → Spells types Prefix h a s → Spells types Assignment m b r
        → Spells types Assignment (suc (max h m)) (e.Assign op a b (after s p)) (s ++ punct o p ∷ r)
    -- C11 6.5.17
    no_comma : {h : ℕ} {t : Expr} {s : List Token} → Spells types Assignment h t s → Spells types Whole h t s
    a_comma : {h m : ℕ} {a b : Expr} {s r : List Token} (p : Pos) → Spells types Whole h a s → Spells types Assignment m b r
        → Spells types Whole (suc (max h m)) (e.Comma a b (after s p)) (s ++ punct sign.Comma p ∷ r)

  -- What stands between the brackets of a call: nothing, or arguments with commas between.
  pub data Arguments (types : List NameId) : ℕ → List Expr → List Token → Type 0 where
    no_arguments : Arguments types 0 [] []
    arguments : {h : ℕ} {ts : List Expr} {s : List Token} → Listed types h ts s → Arguments types h ts s

  pub data Listed (types : List NameId) : ℕ → List Expr → List Token → Type 0 where
    one_argument : {h : ℕ} {t : Expr} {s : List Token} → Spells types Assignment h t s → Listed types h (t ∷ []) s
    more_arguments : {h m : ℕ} {t : Expr} {ts : List Expr} {s r : List Token} (p : Pos) → Spells types Assignment h t s → Listed types m ts r
        → Listed types (max h m) (t ∷ ts) (s ++ punct sign.Comma p ∷ r)

  -- Specifiers and a declarator of that naming; the flag says whether it has a name.
  pub data Heads (types : List NameId) : Naming → Bool → ℕ → Head → List Token → Type 0 where
    a_head : {n : Naming} {f : Specified} {c : Core} {h m : ℕ} {t : Declarator} {s r : List Token} → Specifies types h f s → Declares types n c m t r
        → Heads types n (is_named c) (max h m) (roll-Head (record { pos = first_pos s; specs = f.specs; declarator = t })) (s ++ r)

  -- Specifiers (C11 6.7): pieces in any order that make a type.
  pub data Specifies (types : List NameId) : ℕ → Specified → List Token → Type 0 where
    pieces : {h : ℕ} {ps : List Piece} {g : Gathered} {f : Specified} {s : List Token} → Pieces types h ps s
        → with_pieces no_pieces ps ≡ Some g → finished g ≡ Some f → Specifies types h f s

  pub data Pieces (types : List NameId) : ℕ → List Piece → List Token → Type 0 where
    no_piece : Pieces types 0 [] []
    more_pieces : {h m : ℕ} {x : Piece} {xs : List Piece} {s r : List Token} → APiece types h x s → Pieces types m xs r
        → Pieces types (max h m) (x ∷ xs) (s ++ r)

  pub data APiece (types : List NameId) : ℕ → Piece → List Token → Type 0 where
    -- C11 6.7.1, 6.7.4
    a_storage_word : (w : Reserved) (x : Storage) (p : Pos) → storage_word w ≡ Some x → APiece types 0 (piece.Storage x) (reserved w p ∷ [])
    -- C11 6.7.2
    a_type_word : (w : Reserved) (x : TypeWord) (p : Pos) → type_word w ≡ Some x → APiece types 0 (piece.Word x) (reserved w p ∷ [])
    -- C11 6.7.8
    a_typedef_name : (w : NameId) (p : Pos) → is_type types w ≡ true → APiece types 0 (piece.Whole (base.Named w p) form.NoBody) (word w p ∷ [])
    -- C11 6.7.2.1
    a_record : (w : Reserved) (u : Bool) (tag : NameId) (p q : Pos) → record_word w ≡ Some u
        → APiece types 0 (piece.Whole (base.Struct (roll-Aggregate (record { pos = q; union = u; tag = Some tag; body = None }))) form.NoBody)
        (reserved w p ∷ word tag q ∷ [])
    a_record_body : {h : ℕ} {ms : List Member} {s : List Token} (w : Reserved) (u : Bool) (p q o : Pos) → record_word w ≡ Some u → Members types h ms s
        → APiece types (suc h) (piece.Whole (base.Struct (roll-Aggregate (record { pos = p; union = u; tag = None; body = Some ms }))) form.Untagged)
        (reserved w p ∷ punct sign.LeftBrace q ∷ (s ++ punct sign.RightBrace o ∷ []))
    a_record_whole : {h : ℕ} {ms : List Member} {s : List Token} (w : Reserved) (u : Bool) (tag : NameId) (p q o v : Pos) → record_word w ≡ Some u → Members types h ms s
        → APiece types (suc h) (piece.Whole (base.Struct (roll-Aggregate (record { pos = q; union = u; tag = Some tag; body = Some ms }))) form.WithBody)
        (reserved w p ∷ word tag q ∷ punct sign.LeftBrace o ∷ (s ++ punct sign.RightBrace v ∷ []))
    -- C11 6.7.2.2
    an_enum : (tag : NameId) (p q : Pos)
        → APiece types 0 (piece.Whole (base.Enum (roll-EnumSpec (record { pos = q; tag = Some tag; body = None }))) form.NoBody)
        (reserved key.Enum p ∷ word tag q ∷ [])
    an_enum_body : {h : ℕ} {xs : List Enumerator} {s : List Token} (p q o : Pos) → Enumerators types h xs s
        → APiece types (suc h) (piece.Whole (base.Enum (roll-EnumSpec (record { pos = p; tag = None; body = Some xs }))) form.WithBody)
        (reserved key.Enum p ∷ punct sign.LeftBrace q ∷ (s ++ punct sign.RightBrace o ∷ []))
    an_enum_whole : {h : ℕ} {xs : List Enumerator} {s : List Token} (tag : NameId) (p q o v : Pos) → Enumerators types h xs s
        → APiece types (suc h) (piece.Whole (base.Enum (roll-EnumSpec (record { pos = q; tag = Some tag; body = Some xs }))) form.WithBody)
        (reserved key.Enum p ∷ word tag q ∷ punct sign.LeftBrace o ∷ (s ++ punct sign.RightBrace v ∷ []))

  -- The lines between the braces of a struct or union; there may be none.
  pub data Members (types : List NameId) : ℕ → List Member → List Token → Type 0 where
    no_member : Members types 0 [] []
    more_members : {h m : ℕ} {x : Member} {xs : List Member} {s r : List Token} → AMember types h x s → Members types m xs r
        → Members types (max h m) (x ∷ xs) (s ++ r)

  pub data AMember (types : List NameId) : ℕ → Member → List Token → Type 0 where
    a_member : {h m : ℕ} {f : Specified} {xs : List Part} {s r : List Token} (p : Pos) → Specifies types h f s → Parts types m xs r
        → AMember types (max h m) (roll-Member (record { specs = f.specs; parts = xs })) (s ++ (r ++ punct sign.Semicolon p ∷ []))
    -- a struct or union with a body and no tag may stand without a declarator (C11 6.7.2.1, paragraph 13)
    an_untagged : {h : ℕ} {f : Specified} {s : List Token} (p : Pos) → Specifies types h f s → f.form ≡ form.Untagged
        → AMember types h (roll-Member (record { specs = f.specs; parts = [] })) (s ++ punct sign.Semicolon p ∷ [])

  -- One or more members of a line, with commas between.
  pub data Parts (types : List NameId) : ℕ → List Part → List Token → Type 0 where
    one_part : {h : ℕ} {x : Part} {s : List Token} → APart types h x s → Parts types h (x ∷ []) s
    more_parts : {h m : ℕ} {x : Part} {xs : List Part} {s r : List Token} (p : Pos) → APart types h x s → Parts types m xs r
        → Parts types (max h m) (x ∷ xs) (s ++ punct sign.Comma p ∷ r)

  pub data APart (types : List NameId) : ℕ → Part → List Token → Type 0 where
    a_plain_part : {c : Core} {h : ℕ} {t : Declarator} {s : List Token} → Declares types naming.Member c h t s
        → APart types h (roll-Part (record { declarator = Some t; width = None })) s
    a_bit_field : {c : Core} {h m : ℕ} {t : Declarator} {w : Expr} {s r : List Token} (p : Pos) → Declares types naming.Member c h t s → Spells types Choice m w r
        → APart types (max h m) (roll-Part (record { declarator = Some t; width = Some w })) (s ++ punct sign.Colon p ∷ r)
    a_padding : {h : ℕ} {w : Expr} {s : List Token} (p : Pos) → Spells types Choice h w s
        → APart types h (roll-Part (record { declarator = None; width = Some w })) (punct sign.Colon p ∷ s)

  -- One or more enumerators with commas between; a comma may end them.
  pub data Enumerators (types : List NameId) : ℕ → List Enumerator → List Token → Type 0 where
    last_enumerator : {h : ℕ} {x : Enumerator} {s : List Token} → AnEnumerator types h x s → Enumerators types h (x ∷ []) s
    last_with_comma : {h : ℕ} {x : Enumerator} {s : List Token} (p : Pos) → AnEnumerator types h x s → Enumerators types h (x ∷ []) (s ++ punct sign.Comma p ∷ [])
    more_enumerators : {h m : ℕ} {x : Enumerator} {xs : List Enumerator} {s r : List Token} (p : Pos) → AnEnumerator types h x s → Enumerators types m xs r
        → Enumerators types (max h m) (x ∷ xs) (s ++ punct sign.Comma p ∷ r)

  pub data AnEnumerator (types : List NameId) : ℕ → Enumerator → List Token → Type 0 where
    an_enumerator : (w : NameId) (p : Pos) → AnEnumerator types 0 (roll-Enumerator (record { pos = p; name = w; value = None })) (word w p ∷ [])
    an_enumerator_set : {h : ℕ} {v : Expr} {s : List Token} (w : NameId) (p q : Pos) → Spells types Choice h v s
        → AnEnumerator types h (roll-Enumerator (record { pos = p; name = w; value = Some v })) (word w p ∷ punct sign.Assign q ∷ s)

  -- Declarators (C11 6.7.6): the `*` bind more weakly than what stands behind the name.
  pub data Declares (types : List NameId) : Naming → Core → ℕ → Declarator → List Token → Type 0 where
    a_direct : {n : Naming} {c : Core} {h : ℕ} {t : Declarator} {s : List Token} → Directs types n c h t s → Declares types n c h t s
    a_pointer : {n : Naming} {c : Core} {h : ℕ} {t : Declarator} {s : List Token} (p : Pos) → Declares types n c h t s
        → Declares types n (covered c) (suc h) (d.Pointer t) (punct sign.Star p ∷ s)

  pub data Directs (types : List NameId) : Naming → Core → ℕ → Declarator → List Token → Type 0 where
    a_declared_name : (n : Naming) (w : NameId) (p : Pos) → may_name n types w ≡ true → Directs types n (core.Bare w) 1 (d.Name (Some (w, p))) (word w p ∷ [])
    no_name : (n : Naming) → may_lack n ≡ true → Directs types n core.Nameless 1 (d.Name None) []
    -- in brackets, and not empty
    in_brackets : {n : Naming} {c : Core} {h : ℕ} {t : Declarator} {x : Token} {s : List Token} (p q : Pos) → Declares types n c h t (x ∷ s)
        → Directs types n c (suc h) t (punct sign.LeftParen p ∷ ((x ∷ s) ++ punct sign.RightParen q ∷ []))
    an_array : {n : Naming} {c : Core} {h : ℕ} {t : Declarator} {s : List Token} (p q : Pos) → Directs types n c h t s
        → Directs types n (covered c) (suc h) (d.Array t None) (s ++ punct sign.LeftBracket p ∷ punct sign.RightBracket q ∷ [])
    an_array_of : {n : Naming} {c : Core} {h m : ℕ} {t : Declarator} {l : Expr} {s r : List Token} (p q : Pos) → Directs types n c h t s → Spells types Choice m l r
        → Directs types n (covered c) (suc (max h m)) (d.Array t (Some l)) (s ++ punct sign.LeftBracket p ∷ (r ++ punct sign.RightBracket q ∷ []))
    a_function : {n : Naming} {c : Core} {named dots : Bool} {h m : ℕ} {t : Declarator} {ps : Option (List Head)} {s r : List Token} (p q : Pos) → Directs types n c h t s
        → Parameters types named m ps dots r
        → Directs types n (called named c) (suc (max h m)) (d.Func t ps dots) (s ++ punct sign.LeftParen p ∷ (r ++ punct sign.RightParen q ∷ []))

  -- What stands between the brackets of a function's parameters (C11 6.7.6.3); the first flag says whether
  -- each has a name, the second whether `...` stands behind them.
  pub data Parameters (types : List NameId) : Bool → ℕ → Option (List Head) → Bool → List Token → Type 0 where
    no_parameters : Parameters types true 0 None false []
    void_alone : (p : Pos) → Parameters types true 0 (Some []) false (reserved key.Void p ∷ [])
    the_parameters : {named : Bool} {h : ℕ} {hs : List Head} {s : List Token} → ManyHeads types named h hs s → is_void s ≡ false
        → Parameters types named h (Some hs) false s
    and_more : {named : Bool} {h : ℕ} {hs : List Head} {s : List Token} (p q : Pos) → ManyHeads types named h hs s
        → Parameters types named h (Some hs) true (s ++ punct sign.Comma p ∷ punct sign.Ellipsis q ∷ [])

  pub data ManyHeads (types : List NameId) : Bool → ℕ → List Head → List Token → Type 0 where
    one_head : {named : Bool} {h : ℕ} {x : Head} {s : List Token} → Heads types naming.Optional named h x s → ManyHeads types named h (x ∷ []) s
    more_heads : {named others : Bool} {h m : ℕ} {x : Head} {xs : List Head} {s r : List Token} (p : Pos) → Heads types naming.Optional named h x s
        → ManyHeads types others m xs r → ManyHeads types (named && others) (max h m) (x ∷ xs) (s ++ punct sign.Comma p ∷ r)
