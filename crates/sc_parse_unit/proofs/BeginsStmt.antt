-- How statements, declarations and initialisers begin: what tells a label, a keyword, a declaration and an
-- expression apart.
use Rattle.std.proofs.Common.{◌≡◌, ℕ, Bool, true, false, not, ◌||◌, List, [], ◌∷◌, ◌++◌, Option, Some, None, refl, ap, ◌∙◌, append_assoc}
use Rattle.std.specs.Prelude.{if◌then◌else◌}
use Rattle.sc_base.specs.declared.pos.NameId.{NameId}
use Rattle.sc_tree.specs.declared.token.Token.{Token}
use Rattle.sc_tree.specs.declared.token.Kind.{Kind}
use Rattle.sc_tree.specs.declared.token.Kind.TheVariants as k
use Rattle.sc_tree.specs.declared.token.StrToken.{StrToken}
use Rattle.sc_tree.specs.declared.token.Punct.{Punct}
use Rattle.sc_tree.specs.declared.token.Punct.TheVariants as sign
use Rattle.sc_tree.specs.declared.token.Reserved.TheVariants as key
use Rattle.sc_tree.specs.declared.op.AssignOp.{AssignOp}
use Rattle.sc_tree.specs.declared.op.Step.{Step}
use Rattle.sc_tree.specs.declared.expr.Expr.{Expr}
use Rattle.sc_tree.specs.declared.grammar.Level.{Level}
use Rattle.sc_tree.specs.declared.grammar.Piece.{Piece}
use Rattle.sc_tree.specs.declared.grammar.Specified.{Specified}
use Rattle.sc_tree.specs.Operators.{Binding, binary, step, assign, field}
use Rattle.sc_tree.specs.Tokens.{token, word, punct, reserved, is_type}
use Rattle.sc_tree.specs.Grammar as g
use Rattle.sc_tree.specs.Grammar.{may_lack, Strings, one_string, more_strings, Spells, Specifies, pieces, Pieces, no_piece, more_pieces, APiece, Declares}
use Rattle.sc_parse_front.specs.Front.{punct_of, word_of, reserved_of, front, front_word, front_reserved, behind, is_right_paren}
use Rattle.sc_parse_front.specs.Front.{is_left_brace, is_right_brace, is_colon, is_semicolon, is_type_word, begins_piece, begins_type}
use Rattle.sc_parse_expr.specs.Laws.{opens_expr, BeginsExpr, BeginsSpecs, opens_declarator, BeginsDeclarator}
use Rattle.sc_parse_unit.specs.Reading.{begins_designator, label_at, keyword, NoKeyword, marker, NoMarker}

-- ---- labels

-- a label begins with a word
pub no_word_no_label : (ts : List Token) → front_word ts ≡ None → label_at ts ≡ None
no_word_no_label ts e = by (is_colon (front (behind ts)))
  where
    by : (b : Bool) → (if b then front_word ts else None) ≡ None
    by true = e
    by false = refl

field_no_colon : (o : Punct) (arrow : Bool) → field o ≡ Some arrow → is_colon (Some o) ≡ false
field_no_colon sign.Colon arrow e = absurd cc
field_no_colon _ arrow e = refl

step_no_colon : (o : Punct) (by : Step) → step o ≡ Some by → is_colon (Some o) ≡ false
step_no_colon sign.Colon by e = absurd cc
step_no_colon _ by e = refl

binary_no_colon : (o : Punct) (b : Binding) → binary o ≡ Some b → is_colon (Some o) ≡ false
binary_no_colon sign.Colon b e = absurd cc
binary_no_colon _ b e = refl

assign_no_colon : (o : Punct) (op : AssignOp) → assign o ≡ Some op → is_colon (Some o) ≡ false
assign_no_colon sign.Colon op e = absurd cc
assign_no_colon _ op e = refl

strings_no_label : {xs : List StrToken} {s : List Token} → Strings xs s → (rest : List Token) → label_at (s ++ rest) ≡ None
strings_no_label (one_string x p) rest = no_word_no_label (token (k.Str x) p ∷ rest) refl
strings_no_label (more_strings {s = s} x p more) rest = no_word_no_label (token (k.Str x) p ∷ (s ++ rest)) refl

-- no expression begins as a label does: what follows its first word is no colon, inside or behind it
pub expr_no_label : (types : List NameId) {level : Level} {h : ℕ} {t : Expr} {s : List Token} → Spells types level h t s
    → (rest : List Token) → is_colon (front rest) ≡ false
    → label_at (s ++ rest) ≡ None
expr_no_label types (g.a_name w p e) rest end = rw end refl
expr_no_label types (g.an_int i p) rest end = no_word_no_label (token (k.Int i) p ∷ rest) refl
expr_no_label types (g.a_char c p) rest end = no_word_no_label (token (k.Char c) p ∷ rest) refl
expr_no_label types (g.an_odd p) rest end = no_word_no_label (token k.Odd p ∷ rest) refl
expr_no_label types (g.a_string ss) rest end = strings_no_label ss rest
expr_no_label types (g.brackets {s = s} p q d) rest end = no_word_no_label (punct sign.LeftParen p ∷ ((s ++ punct sign.RightParen q ∷ []) ++ rest)) refl
expr_no_label types (g.a_primary d) rest end = expr_no_label types d rest end
expr_no_label types (g.an_index p q d x) rest end = rw (append_assoc _ _ rest) (expr_no_label types d _ refl)
expr_no_label types (g.a_call p q d x) rest end = rw (append_assoc _ _ rest) (expr_no_label types d _ refl)
expr_no_label types (g.a_field o arrow w p q e d) rest end = rw (append_assoc _ _ rest) (expr_no_label types d _ (field_no_colon o arrow e))
expr_no_label types (g.a_step_behind o by p e d) rest end = rw (append_assoc _ _ rest) (expr_no_label types d _ (step_no_colon o by e))
expr_no_label types (g.a_postfix d) rest end = expr_no_label types d rest end
expr_no_label types (g.a_unary {s = s} o op p e d) rest end = no_word_no_label (punct o p ∷ (s ++ rest)) refl
expr_no_label types (g.a_step_before {s = s} o by p e d) rest end = no_word_no_label (punct o p ∷ (s ++ rest)) refl
expr_no_label types (g.a_size {s = s} p d) rest end = no_word_no_label (reserved key.Sizeof p ∷ (s ++ rest)) refl
expr_no_label types (g.a_size_of_type {s = s} p q o d) rest end =
    no_word_no_label (reserved key.Sizeof p ∷ punct sign.LeftParen q ∷ ((s ++ punct sign.RightParen o ∷ []) ++ rest)) refl
expr_no_label types (g.a_prefix d) rest end = expr_no_label types d rest end
expr_no_label types (g.a_cast {s = s} {r = r} p q d x) rest end = no_word_no_label (punct sign.LeftParen p ∷ ((s ++ punct sign.RightParen q ∷ r) ++ rest)) refl
expr_no_label types (g.an_operand d) rest end = expr_no_label types d rest end
expr_no_label types (g.stronger d) rest end = expr_no_label types d rest end
expr_no_label types (g.a_binary o op p e d x) rest end = rw (append_assoc _ _ rest) (expr_no_label types d _ (binary_no_colon o _ e))
expr_no_label types (g.no_choice d) rest end = expr_no_label types d rest end
expr_no_label types (g.a_choice p q d x y) rest end = rw (append_assoc _ _ rest) (expr_no_label types d _ refl)
expr_no_label types (g.no_assignment d) rest end = expr_no_label types d rest end
expr_no_label types (g.an_assignment o op p e d x) rest end = rw (append_assoc _ _ rest) (expr_no_label types d _ (assign_no_colon o op e))
expr_no_label types (g.no_comma d) rest end = expr_no_label types d rest end
expr_no_label types (g.a_comma p d x) rest end = rw (append_assoc _ _ rest) (expr_no_label types d _ refl)

-- specifiers hold no colon at their front
piece_no_colon : {types : List NameId} {h : ℕ} {x : Piece} {s : List Token} → APiece types h x s → (rest : List Token) → is_colon (front (s ++ rest)) ≡ false
piece_no_colon (g.a_storage_word w x p e) rest = refl
piece_no_colon (g.a_type_word w x p e) rest = refl
piece_no_colon (g.a_typedef_name w p e) rest = refl
piece_no_colon (g.a_record w u tag p q e) rest = refl
piece_no_colon (g.a_record_body w u p q o e m) rest = refl
piece_no_colon (g.a_record_whole w u tag p q o v e m) rest = refl
piece_no_colon (g.an_enum tag p q) rest = refl
piece_no_colon (g.an_enum_body p q o m) rest = refl
piece_no_colon (g.an_enum_whole tag p q o v m) rest = refl

pieces_no_colon : {types : List NameId} {h : ℕ} {xs : List Piece} {s : List Token} → Pieces types h xs s → (rest : List Token) → is_colon (front rest) ≡ false
    → is_colon (front (s ++ rest)) ≡ false
pieces_no_colon no_piece rest end = end
pieces_no_colon (more_pieces {s = s} {r = r} x more) rest end = rw (append_assoc s r rest) (piece_no_colon x _)

piece_no_label : {types : List NameId} {h : ℕ} {x : Piece} {s : List Token} → APiece types h x s → (rest : List Token) → is_colon (front rest) ≡ false
    → label_at (s ++ rest) ≡ None
piece_no_label (g.a_storage_word w x p e) rest end = no_word_no_label (reserved w p ∷ rest) refl
piece_no_label (g.a_type_word w x p e) rest end = no_word_no_label (reserved w p ∷ rest) refl
piece_no_label (g.a_typedef_name w p e) rest end = rw end refl
piece_no_label (g.a_record w u tag p q e) rest end = no_word_no_label (reserved w p ∷ word tag q ∷ rest) refl
piece_no_label (g.a_record_body {s = s} w u p q o e m) rest end =
    no_word_no_label (reserved w p ∷ punct sign.LeftBrace q ∷ ((s ++ punct sign.RightBrace o ∷ []) ++ rest)) refl
piece_no_label (g.a_record_whole {s = s} w u tag p q o v e m) rest end =
    no_word_no_label (reserved w p ∷ word tag q ∷ punct sign.LeftBrace o ∷ ((s ++ punct sign.RightBrace v ∷ []) ++ rest)) refl
piece_no_label (g.an_enum tag p q) rest end = no_word_no_label (reserved key.Enum p ∷ word tag q ∷ rest) refl
piece_no_label (g.an_enum_body {s = s} p q o m) rest end = no_word_no_label
    (reserved key.Enum p ∷ punct sign.LeftBrace q ∷ ((s ++ punct sign.RightBrace o ∷ []) ++ rest)) refl
piece_no_label (g.an_enum_whole {s = s} tag p q o v m) rest end =
    no_word_no_label (reserved key.Enum p ∷ word tag q ∷ punct sign.LeftBrace o ∷ ((s ++ punct sign.RightBrace v ∷ []) ++ rest)) refl

-- ---- the first token

-- what is said of each token that may begin it is so of what is spelled, whatever stands behind it
pub of_expr : {A : Type 0} {types : List NameId} {s : List Token} (f : List Token → A) (v : A) → BeginsExpr types s
    → ((t : Token) (ts : List Token) → opens_expr types t.kind ≡ true → f (t ∷ ts) ≡ v) → (rest : List Token) → f (s ++ rest) ≡ v
of_expr f v b fact rest = ap (λ (z : List Token). f (z ++ rest)) b.whole ∙ fact b.first (b.others ++ rest) b.opens

pub of_specs : {A : Type 0} {types : List NameId} {s : List Token} (f : List Token → A) (v : A) → BeginsSpecs types s
    → ((t : Token) (ts : List Token) → begins_type types (t ∷ []) ≡ true → f (t ∷ ts) ≡ v) → (rest : List Token) → f (s ++ rest) ≡ v
of_specs f v b fact rest = ap (λ (z : List Token). f (z ++ rest)) b.whole ∙ fact b.first (b.others ++ rest) b.opens

pub of_declarator : {A : Type 0} {s : List Token} (f : List Token → A) (v : A) → BeginsDeclarator s
    → ((t : Token) (ts : List Token) → opens_declarator t.kind ≡ true → f (t ∷ ts) ≡ v) → (rest : List Token) → f (s ++ rest) ≡ v
of_declarator f v b fact rest = ap (λ (z : List Token). f (z ++ rest)) b.whole ∙ fact b.first (b.others ++ rest) b.opens

-- the signs that begin none of them
abbrev pub is_end : Option Punct → Bool
is_end (Some sign.Semicolon) = true
is_end (Some sign.RightParen) = true
is_end (Some sign.RightBrace) = true
is_end (Some sign.LeftBrace) = true
is_end (Some sign.Dot) = true
is_end (Some sign.LeftBracket) = true
is_end (Some sign.Colon) = true
is_end _ = false

pub no_semicolon : (o : Option Punct) → is_end o ≡ false → is_semicolon o ≡ false
no_semicolon (Some sign.Semicolon) e = absurd cc
no_semicolon _ e = refl

pub no_right_paren : (o : Option Punct) → is_end o ≡ false → is_right_paren o ≡ false
no_right_paren (Some sign.RightParen) e = absurd cc
no_right_paren _ e = refl

pub no_right_brace : (o : Option Punct) → is_end o ≡ false → is_right_brace o ≡ false
no_right_brace (Some sign.RightBrace) e = absurd cc
no_right_brace _ e = refl

pub no_left_brace : (o : Option Punct) → is_end o ≡ false → is_left_brace o ≡ false
no_left_brace (Some sign.LeftBrace) e = absurd cc
no_left_brace _ e = refl

pub no_colon : (o : Option Punct) → is_end o ≡ false → is_colon o ≡ false
no_colon (Some sign.Colon) e = absurd cc
no_colon _ e = refl

pub no_designator : (o : Option Punct) → is_end o ≡ false → begins_designator o ≡ false
no_designator (Some sign.Dot) e = absurd cc
no_designator (Some sign.LeftBracket) e = absurd cc
no_designator _ e = refl

-- ---- expressions

expr_kind_no_end : (types : List NameId) (x : Kind) → opens_expr types x ≡ true → is_end (punct_of x) ≡ false
expr_kind_no_end types (k.Punct sign.Semicolon) e = absurd cc
expr_kind_no_end types (k.Punct sign.RightParen) e = absurd cc
expr_kind_no_end types (k.Punct sign.RightBrace) e = absurd cc
expr_kind_no_end types (k.Punct sign.LeftBrace) e = absurd cc
expr_kind_no_end types (k.Punct sign.Dot) e = absurd cc
expr_kind_no_end types (k.Punct sign.LeftBracket) e = absurd cc
expr_kind_no_end types (k.Punct sign.Colon) e = absurd cc
expr_kind_no_end types (k.Punct _) e = refl
expr_kind_no_end types _ e = refl

pub expr_no_end : {types : List NameId} {s : List Token} → BeginsExpr types s → (rest : List Token) → is_end (front (s ++ rest)) ≡ false
expr_no_end {types = types} b rest = of_expr (λ z. is_end (front z)) false b (λ t ts e. expr_kind_no_end types t.kind e) rest

not_true : (b : Bool) → not b ≡ true → b ≡ false
not_true true e = absurd cc
not_true false e = refl

expr_kind_no_type : (types : List NameId) (x : Kind) → opens_expr types x ≡ true → (begins_piece (reserved_of x) || is_type_word types (word_of x)) ≡ false
expr_kind_no_type types (k.Word w) e = not_true (is_type types w) e
expr_kind_no_type types (k.Reserved key.Sizeof) e = refl
expr_kind_no_type types (k.Reserved _) e = absurd cc
expr_kind_no_type types _ e = refl

pub expr_no_type : {types : List NameId} {s : List Token} → BeginsExpr types s → (rest : List Token) → begins_type types (s ++ rest) ≡ false
expr_no_type {types = types} b rest = of_expr (λ z. begins_type types z) false b (λ t ts e. expr_kind_no_type types t.kind e) rest

expr_kind_no_keyword : (types : List NameId) (x : Kind) → opens_expr types x ≡ true → keyword (reserved_of x) ≡ NoKeyword
expr_kind_no_keyword types (k.Reserved key.Sizeof) e = refl
expr_kind_no_keyword types (k.Reserved _) e = absurd cc
expr_kind_no_keyword types _ e = refl

pub expr_no_keyword : {types : List NameId} {s : List Token} → BeginsExpr types s → (rest : List Token) → keyword (front_reserved (s ++ rest)) ≡ NoKeyword
expr_no_keyword {types = types} b rest = of_expr (λ z. keyword (front_reserved z)) NoKeyword b (λ t ts e. expr_kind_no_keyword types t.kind e) rest

expr_kind_no_marker : (types : List NameId) (x : Kind) → opens_expr types x ≡ true → marker (reserved_of x) ≡ NoMarker
expr_kind_no_marker types (k.Reserved key.Sizeof) e = refl
expr_kind_no_marker types (k.Reserved _) e = absurd cc
expr_kind_no_marker types _ e = refl

pub expr_no_marker : {types : List NameId} {s : List Token} → BeginsExpr types s → (rest : List Token) → marker (front_reserved (s ++ rest)) ≡ NoMarker
expr_no_marker {types = types} b rest = of_expr (λ z. marker (front_reserved z)) NoMarker b (λ t ts e. expr_kind_no_marker types t.kind e) rest

-- ---- specifiers

specs_kind_no_end : (types : List NameId) (x : Kind) → (begins_piece (reserved_of x) || is_type_word types (word_of x)) ≡ true → is_end (punct_of x) ≡ false
specs_kind_no_end types (k.Punct p) e = absurd cc
specs_kind_no_end types _ e = refl

pub specs_no_end : {types : List NameId} {s : List Token} → BeginsSpecs types s → (rest : List Token) → is_end (front (s ++ rest)) ≡ false
specs_no_end {types = types} b rest = of_specs (λ z. is_end (front z)) false b (λ t ts e. specs_kind_no_end types t.kind e) rest

pub specs_type : {types : List NameId} {s : List Token} → BeginsSpecs types s → (rest : List Token) → begins_type types (s ++ rest) ≡ true
specs_type {types = types} b rest = of_specs (λ z. begins_type types z) true b (λ t ts e. e) rest

specs_kind_no_marker : (types : List NameId) (x : Kind) → (begins_piece (reserved_of x) || is_type_word types (word_of x)) ≡ true
    → marker (reserved_of x) ≡ NoMarker
specs_kind_no_marker types (k.Reserved key.Case) e = absurd cc
specs_kind_no_marker types (k.Reserved key.Default) e = absurd cc
specs_kind_no_marker types (k.Reserved _) e = refl
specs_kind_no_marker types _ e = refl

pub specs_no_marker : {types : List NameId} {s : List Token} → BeginsSpecs types s → (rest : List Token) → marker (front_reserved (s ++ rest)) ≡ NoMarker
specs_no_marker {types = types} b rest = of_specs (λ z. marker (front_reserved z)) NoMarker b (λ t ts e. specs_kind_no_marker types t.kind e) rest

pub specs_no_label : {types : List NameId} {h : ℕ} {f : Specified} {s : List Token} → Specifies types h f s → BeginsSpecs types s
    → (rest : List Token) → is_colon (front rest) ≡ false
    → label_at (s ++ rest) ≡ None
specs_no_label (pieces ps e x) b rest end = by ps b
  where
    by : {types : List NameId} {h : ℕ} {xs : List Piece} {s : List Token} → Pieces types h xs s → BeginsSpecs types s → label_at (s ++ rest) ≡ None
    by no_piece b = absurd (empty b.first b.others b.whole)
      where
        empty : (x : Token) (xs : List Token) → [] ≡ x ∷ xs → ⊥
        empty x xs e = cc
    by (more_pieces {s = s} {r = r} x more) b = rw (append_assoc s r rest) (piece_no_label x _ (pieces_no_colon more rest end))

-- ---- declarators

declarator_kind_no_end : (x : Kind) → opens_declarator x ≡ true → is_end (punct_of x) ≡ false
declarator_kind_no_end (k.Punct sign.Semicolon) e = absurd cc
declarator_kind_no_end (k.Punct sign.RightParen) e = absurd cc
declarator_kind_no_end (k.Punct sign.RightBrace) e = absurd cc
declarator_kind_no_end (k.Punct sign.LeftBrace) e = absurd cc
declarator_kind_no_end (k.Punct sign.Dot) e = absurd cc
declarator_kind_no_end (k.Punct sign.LeftBracket) e = absurd cc
declarator_kind_no_end (k.Punct sign.Colon) e = absurd cc
declarator_kind_no_end (k.Punct _) e = refl
declarator_kind_no_end _ e = refl

pub declarator_no_end : {s : List Token} → BeginsDeclarator s → (rest : List Token) → is_end (front (s ++ rest)) ≡ false
declarator_no_end b rest = of_declarator (λ z. is_end (front z)) false b (λ t ts e. declarator_kind_no_end t.kind e) rest

declarator_kind_no_piece : (x : Kind) → opens_declarator x ≡ true → begins_piece (reserved_of x) ≡ false
declarator_kind_no_piece (k.Reserved r) e = absurd cc
declarator_kind_no_piece _ e = refl

pub declarator_no_piece : {s : List Token} → BeginsDeclarator s → (rest : List Token) → begins_piece (front_reserved (s ++ rest)) ≡ false
declarator_no_piece b rest = of_declarator (λ z. begins_piece (front_reserved z)) false b (λ t ts e. declarator_kind_no_piece t.kind e) rest
