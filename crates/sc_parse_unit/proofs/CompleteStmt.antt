-- What is spelled is read: statements. By recursion on what spells them; statements within them are read by
-- `inner`.
use Rattle.std.proofs.Common.{◌≡◌, ℕ, zero, suc, ◌≤◌, max, Bool, true, false, not, ◌&&◌, ◌||◌, List, [], ◌∷◌, ◌++◌, length, Option, Some}
use Rattle.std.proofs.Common.{None, refl, sym, ap, ap₂, subst, ◌∙◌, append_assoc, arith, length-append, lt-ltb}
use Rattle.std.proofs.lemmas.List.{append-nil}
use Rattle.sc_base.specs.declared.pos.Pos.{Pos}
use Rattle.sc_base.specs.declared.pos.NameId.{NameId}
use Rattle.sc_tree.specs.declared.token.Token.{Token}
use Rattle.sc_tree.specs.declared.token.Kind.{Kind}
use Rattle.sc_tree.specs.declared.token.Kind.TheVariants as k
use Rattle.sc_tree.specs.declared.token.Punct.{Punct}
use Rattle.sc_tree.specs.declared.token.Punct.TheVariants as sign
use Rattle.sc_tree.specs.declared.token.Reserved.{Reserved}
use Rattle.sc_tree.specs.declared.token.Reserved.TheVariants as key
use Rattle.sc_tree.specs.declared.expr.Expr.{Expr}
use Rattle.sc_tree.specs.declared.stmt.Stmt.{Stmt}
use Rattle.sc_tree.specs.declared.stmt.Stmt.TheVariants as stmt
use Rattle.sc_tree.specs.declared.stmt.ForStart.{ForStart}
use Rattle.sc_tree.specs.declared.stmt.ForStart.TheVariants as first
use Rattle.sc_tree.specs.declared.grammar.Level.TheVariants.{Choice, Whole}
use Rattle.sc_tree.specs.Tokens.{punct, word, reserved, first_pos}
use Rattle.sc_tree.specs.Grammar.{Spells}
use Rattle.sc_tree.specs.Statements as g
use Rattle.sc_tree.specs.Statements.{ADeclaration, for_head, AtMost, left_out, there, Starts, with_nothing, with_expr, with_declaration, States, Items, AnItem}
use Rattle.sc_parse_front.specs.Front.{punct_of, word_of, reserved_of, front, front_reserved, is_right_brace, is_right_paren, is_semicolon}
use Rattle.sc_parse_front.specs.Front.{begins_piece, is_type_word, begins_type}
use Rattle.sc_parse_expr.specs.Read.{Read, read, Parse, node, many}
use Rattle.sc_parse_expr.specs.Reading.Grammar.{with_item}
use Rattle.sc_parse_expr.specs.Laws.{opens_expr, ends_expr, BeginsExpr, BeginsSpecs}
use Rattle.sc_parse_expr.specs.Laws as below
use Rattle.sc_parse_expr.proofs.Begins.{begins_expr}
use Rattle.sc_parse_expr.proofs.Inner.{node_is, has_turn, many_end, many_more}
use Rattle.sc_parse_unit.specs.Reading as reading
use Rattle.sc_parse_unit.specs.Reading.{is_else, is_while, taking_word, body_declaration, Keyword, NoKeyword, keyword, Marker, ACase}
use Rattle.sc_parse_unit.specs.Reading.{ADefault, NoMarker, marker, label_at, is_label, condition, at_most, local, case_item, default_item}
use Rattle.sc_parse_unit.specs.Reading.{if_else, if_rest, for_expr, for_local, for_start, expression, plain_item, marked_item, items}
use Rattle.sc_parse_unit.specs.Reading.{by_keyword, by_label, statement_by, statement}
use Rattle.sc_parse_unit.proofs.BeginsStmt.{is_end, expr_no_end, expr_no_type, expr_no_keyword, expr_no_marker, expr_no_label, specs_no_end}
use Rattle.sc_parse_unit.proofs.BeginsStmt.{specs_type, specs_no_marker, no_semicolon, no_right_paren, no_right_brace, no_left_brace}
use Rattle.sc_parse_unit.proofs.BeginsStmt.{no_word_no_label}
use Rattle.sc_parse_unit.proofs.CompleteDecl.{decl_begins, decl_no_label, specs_first, declaration_read}

-- ---- how items begin

-- the first token, which is neither a closing brace nor `else`
pub record BeginsItem (s : List Token) : Type 0 where
  pub first : Token
  pub others : List Token
  pub whole : s ≡ first ∷ others
  pub no_brace : is_right_brace (punct_of first.kind) ≡ false
  pub no_else : is_else (reserved_of first.kind) ≡ false

goes_on : {s : List Token} → BeginsItem s → (rest : List Token) → is_right_brace (front (s ++ rest)) ≡ false
goes_on b rest = ap (λ (z : List Token). is_right_brace (front (z ++ rest))) b.whole ∙ b.no_brace

not_else : {s : List Token} → BeginsItem s → (rest : List Token) → is_else (front_reserved (s ++ rest)) ≡ false
not_else b rest = ap (λ (z : List Token). is_else (front_reserved (z ++ rest))) b.whole ∙ b.no_else

not_empty : {s : List Token} → BeginsItem s → 1 ≤ length s
not_empty b = subst (λ (z : List Token). 1 ≤ length z) (sym b.whole) (omega arith)

pub expr_first : {types : List NameId} {s : List Token} → BeginsExpr types s → (rest : List Token) → first_pos (s ++ rest) ≡ first_pos s
expr_first b rest = ap (λ (z : List Token). first_pos (z ++ rest)) b.whole ∙ sym (ap first_pos b.whole)

expr_kind_no_else : (types : List NameId) (x : Kind) → opens_expr types x ≡ true → is_else (reserved_of x) ≡ false
expr_kind_no_else types (k.Reserved key.Else) e = absurd cc
expr_kind_no_else types (k.Reserved _) e = refl
expr_kind_no_else types _ e = refl

expr_begins_item : (types : List NameId) (s r : List Token) → BeginsExpr types s → BeginsItem (s ++ r)
expr_begins_item types s r b = record {
  first = b.first;
  others = b.others ++ r;
  whole = ap (λ (z : List Token). z ++ r) b.whole;
  no_brace = no_right_brace _ (expr_no_end (record { first = b.first; others = []; whole = refl; opens = b.opens }) []);
  no_else = expr_kind_no_else types b.first.kind b.opens;
}

specs_kind_no_else : (types : List NameId) (x : Kind) → (begins_piece (reserved_of x) || is_type_word types (word_of x)) ≡ true
    → is_else (reserved_of x) ≡ false
specs_kind_no_else types (k.Reserved key.Else) e = absurd cc
specs_kind_no_else types (k.Reserved _) e = refl
specs_kind_no_else types _ e = refl

specs_begins_item : (types : List NameId) (s : List Token) → BeginsSpecs types s → BeginsItem s
specs_begins_item types s b = record {
  first = b.first;
  others = b.others;
  whole = b.whole;
  no_brace = no_right_brace _ (specs_no_end (record { first = b.first; others = []; whole = refl; opens = b.opens }) []);
  no_else = specs_kind_no_else types b.first.kind b.opens;
}

begun : (t : Token) (ts : List Token) → is_right_brace (punct_of t.kind) ≡ false → is_else (reserved_of t.kind) ≡ false → BeginsItem (t ∷ ts)
begun t ts e o = record { first = t; others = ts; whole = refl; no_brace = e; no_else = o }

state_begins : {types : List NameId} {b : Bool} {h : ℕ} {x : Stmt} {s : List Token} → States types b h x s → BeginsItem s
state_begins (g.a_block p q d) = begun _ _ refl refl
state_begins {types = types} (g.an_expression {s = s} p d) = expr_begins_item types s _ (begins_expr types _ _ _ _ d)
state_begins (g.no_expression p) = begun _ _ refl refl
state_begins (g.an_if p q o d x) = begun _ _ refl refl
state_begins (g.an_if_else p q o v d x y) = begun _ _ refl refl
state_begins (g.a_while p q o d x) = begun _ _ refl refl
state_begins (g.a_do p q o v w d x) = begun _ _ refl refl
state_begins (g.a_for p q o w f c e x) = begun _ _ refl refl
state_begins (g.a_switch p q o v w d xs) = begun _ _ refl refl
state_begins (g.a_goto l p q o) = begun _ _ refl refl
state_begins (g.a_break p q) = begun _ _ refl refl
state_begins (g.a_continue p q) = begun _ _ refl refl
state_begins (g.a_return p q d) = begun _ _ refl refl
state_begins (g.a_label l p q d) = begun _ _ refl refl

item_begins : {types : List NameId} {switch : Bool} {h : ℕ} {x : Stmt} {s : List Token} → AnItem types switch h x s → BeginsItem s
item_begins (g.a_statement switch d) = state_begins d
item_begins {types = types} (g.a_declared {s = s} switch d) = specs_begins_item types s (decl_begins d)
item_begins (g.a_case p q d) = begun _ _ refl refl
item_begins (g.a_default p q) = begun _ _ refl refl

-- a statement begins with no `case` and no `default`
state_no_marker : {types : List NameId} {b : Bool} {h : ℕ} {x : Stmt} {s : List Token} → States types b h x s → (rest : List Token)
    → marker (front_reserved (s ++ rest)) ≡ NoMarker
state_no_marker (g.a_block p q d) rest = refl
state_no_marker {types = types} (g.an_expression {s = s} p d) rest =
    rw (append_assoc s (punct sign.Semicolon p ∷ []) rest) (expr_no_marker (begins_expr types _ _ _ _ d) (punct sign.Semicolon p ∷ rest))
state_no_marker (g.no_expression p) rest = refl
state_no_marker (g.an_if p q o d x) rest = refl
state_no_marker (g.an_if_else p q o v d x y) rest = refl
state_no_marker (g.a_while p q o d x) rest = refl
state_no_marker (g.a_do p q o v w d x) rest = refl
state_no_marker (g.a_for p q o w f c e x) rest = refl
state_no_marker (g.a_switch p q o v w d xs) rest = refl
state_no_marker (g.a_goto l p q o) rest = refl
state_no_marker (g.a_break p q) rest = refl
state_no_marker (g.a_continue p q) rest = refl
state_no_marker (g.a_return p q d) rest = refl
state_no_marker (g.a_label l p q d) rest = refl

and_false : (b : Bool) → (b && false) ≡ false
and_false true = refl
and_false false = refl

-- nor with a word of a type, but before the colon of a label
state_no_type : {types : List NameId} {b : Bool} {h : ℕ} {x : Stmt} {s : List Token} → States types b h x s → (rest : List Token)
    → (begins_type types (s ++ rest) && not (is_label (label_at (s ++ rest)))) ≡ false
state_no_type (g.a_block p q d) rest = refl
state_no_type {types = types} (g.an_expression {s = s} p d) rest =
    rw (append_assoc s (punct sign.Semicolon p ∷ []) rest, expr_no_type (begins_expr types _ _ _ _ d) (punct sign.Semicolon p ∷ rest)) refl
state_no_type (g.no_expression p) rest = refl
state_no_type (g.an_if p q o d x) rest = refl
state_no_type (g.an_if_else p q o v d x y) rest = refl
state_no_type (g.a_while p q o d x) rest = refl
state_no_type (g.a_do p q o v w d x) rest = refl
state_no_type (g.a_for p q o w f c e x) rest = refl
state_no_type (g.a_switch p q o v w d xs) rest = refl
state_no_type (g.a_goto l p q o) rest = refl
state_no_type (g.a_break p q) rest = refl
state_no_type (g.a_continue p q) rest = refl
state_no_type (g.a_return p q d) rest = refl
state_no_type {types = types} (g.a_label {s = s} l p q d) rest = and_false (begins_type types (word l p ∷ punct sign.Colon q ∷ (s ++ rest)))

-- ---- statements

node_at : {A : Type 0} (limit : ℕ) (x : A) (high : ℕ) (rest : List Token) → suc high ≤ limit → node limit x high rest ≡ Some (read x (suc high) rest)
node_at limit x high rest low = rw (lt-ltb high limit (omega arith)) refl

module _ (types : List NameId) (known : (limit : ℕ) → below.IsComplete types limit) (limit : ℕ) (inner : Parse Stmt)
    (complete : (b : Bool) (h : ℕ) (t : Stmt) (s rest : List Token) → States types b h t s → h ≤ limit → (b ≡ true → is_else (front_reserved rest) ≡ false)
    → inner (s ++ rest) ≡ Some (read t h rest)) where
  condition_read : {h : ℕ} {c : Expr} {s : List Token} → Spells types Whole h c s → h ≤ limit → (p q : Pos) (rest : List Token)
      → condition types limit inner (punct sign.LeftParen p ∷ (s ++ punct sign.RightParen q ∷ rest)) ≡ Some (read c h rest)
  unfolding condition
  condition_read {h = h} {c = c} {s = s} d low p q rest = rw ((known limit).expr Whole h c s (punct sign.RightParen q ∷ rest) d low refl).1 refl

  at_most_read : {h : ℕ} {t : Option Expr} {s : List Token} → AtMost types h t s → h ≤ limit → (test : Option Punct → Bool)
      → ((o : Option Punct) → is_end o ≡ false → test o ≡ false)
      → (rest : List Token) → test (front rest) ≡ true → ends_expr Whole rest ≡ true → at_most types limit inner test (s ++ rest) ≡ Some (read t h rest)
  unfolding at_most
  at_most_read left_out low test other rest end ends = rw end refl
  at_most_read (there {h = h} {t = t} {s = s} d) low test other rest end ends =
      rw (other _ (expr_no_end (begins_expr types _ _ _ _ d) rest), ((known limit).expr Whole h t s rest d low ends).1) refl

  start_read : {h : ℕ} {f : ForStart} {s : List Token} → Starts types h f s → h ≤ limit → (rest : List Token)
      → for_start types limit inner (s ++ rest) ≡ Some (read f h rest)
  unfolding for_start for_expr for_local
  start_read (with_nothing p) low rest = refl
  start_read (with_expr {h = h} {t = t} {s = s} p d) low rest =
      let end = punct sign.Semicolon p ∷ rest in
      let b = begins_expr types _ _ _ _ d in
      rw (
        append_assoc s (punct sign.Semicolon p ∷ []) rest,
        no_semicolon _ (expr_no_end b end),
        expr_no_type b end,
        ((known limit).expr Whole h t s end d low refl).1,
      ) refl
  start_read (with_declaration {h = h} {t = t} {s = s} d) low rest =
      let b = decl_begins d in
      rw (
        no_semicolon _ (specs_no_end b rest),
        specs_type b rest,
        declaration_read types known limit h t s rest d (omega arith) (omega arith),
        specs_first b rest,
      )
      (node_at limit (first.Decl t (first_pos s)) h rest low)

  -- ---- items

  unmarked : (switch : Bool) (ts : List Token) (r : Option (Read Stmt)) → marker (front_reserved ts) ≡ NoMarker
      → plain_item types limit inner ts ≡ r → reading.an_item types limit inner switch ts ≡ r
  unfolding reading.an_item marked_item
  unmarked true ts r e x = rw e x
  unmarked false ts r e x = x

  item_read : {switch : Bool} {h : ℕ} {x : Stmt} {s : List Token} → AnItem types switch h x s → h ≤ limit → (rest : List Token)
      → is_else (front_reserved rest) ≡ false
      → reading.an_item types limit inner switch (s ++ rest) ≡ Some (read x h rest)
  unfolding reading.an_item marked_item plain_item case_item default_item local
  item_read (g.a_statement {b = b} {h = h} {x = x} {s = s} switch d) low rest closed =
      unmarked switch (s ++ rest) (Some (read x h rest)) (state_no_marker d rest) (rw (state_no_type d rest) (complete b h x s rest d low (λ e. closed)))
  item_read (g.a_declared {h = h} {t = t} {s = s} switch d) low rest closed =
      let b = decl_begins d in
      unmarked switch (s ++ rest) (Some (read (stmt.Decl t (first_pos s)) (suc h) rest)) (specs_no_marker b rest)
      (rw (
        specs_type b rest,
        decl_no_label d rest,
        declaration_read types known limit h t s rest d (omega arith) (omega arith),
        specs_first b rest,
      ) (node_at limit (stmt.Decl t (first_pos s)) h rest low))
  item_read (g.a_case {h = h} {t = t} {s = s} p q d) low rest closed =
      rw (append_assoc s (punct sign.Colon q ∷ []) rest, ((known limit).expr Choice h t s (punct sign.Colon q ∷ rest) d low refl).1) refl
  item_read (g.a_default p q) low rest closed = refl

  items_no_else : {switch : Bool} {m : ℕ} {xs : List Stmt} {s : List Token} → Items types switch m xs s → (q : Pos) (rest : List Token)
      → is_else (front_reserved (s ++ punct sign.RightBrace q ∷ rest)) ≡ false
  items_no_else (g.no_item switch) q rest = refl
  items_no_else (g.more {s = s} {r = r} d ds) q rest = rw (append_assoc s r (punct sign.RightBrace q ∷ rest))
      (not_else (item_begins d) (r ++ punct sign.RightBrace q ∷ rest))

  many_read : {switch : Bool} {m : ℕ} {xs : List Stmt} {s : List Token} → Items types switch m xs s → m ≤ limit → (n : ℕ) → length s ≤ n
      → (ys : List Stmt) (h : ℕ) (q : Pos) (rest : List Token)
      → many (reading.an_item types limit inner switch) with_item is_right_brace n ys h (s ++ punct sign.RightBrace q ∷ rest)
      ≡ Some (read (ys ++ xs) (max h m) (punct sign.RightBrace q ∷ rest))
  many_read (g.no_item switch) low n room ys h q rest =
      let end = punct sign.RightBrace q ∷ rest in
      many_end (reading.an_item types limit inner switch) with_item is_right_brace n ys h end refl
      ∙ ap₂ (λ (z : List Stmt) (w : ℕ). Some (read z w end)) (sym (append-nil ys)) (omega arith)
  many_read (g.more {switch = switch} {h = m} {m = j} {x = x} {xs = xs} {s = s} {r = r} d ds) low n room ys h q rest =
      let some = not_empty (item_begins d) in
      let long = length-append s r in
      let turn = has_turn n (omega (arith, room, some, long)) in
      let same = turn.1 in
      let end = punct sign.RightBrace q ∷ rest in
      let step = many_more (reading.an_item types limit inner switch) with_item is_right_brace turn.0 ys h (s ++ (r ++ end)) x m (r ++ end)
      (goes_on (item_begins d) (r ++ end))
      (item_read d (omega arith) (r ++ end) (items_no_else ds q rest)) in
      let others = many_read ds (omega arith) turn.0 (omega (arith, room, some, long, same)) (ys ++ x ∷ []) (max h m) q rest in
      rw (same, append_assoc s r end) (step ∙ (others ∙ ap₂ (λ (z : List Stmt) (w : ℕ). Some (read z w end)) (append_assoc ys (x ∷ []) xs) (omega arith)))

  items_read : {switch : Bool} {m : ℕ} {xs : List Stmt} {s : List Token} → Items types switch m xs s → m ≤ limit → (q : Pos) (rest : List Token)
      → items types limit inner switch (s ++ punct sign.RightBrace q ∷ rest) ≡ Some (read xs m (punct sign.RightBrace q ∷ rest))
  unfolding items
  items_read {m = m} {xs = xs} {s = s} d low q rest =
      let end = punct sign.RightBrace q ∷ rest in
      let long = length-append s end in
      let high : max 0 m ≡ m = omega arith in
      many_read d low (length (s ++ end)) (omega (arith, long)) [] 0 q rest ∙ ap (λ (w : ℕ). Some (read xs w end)) high

  -- ---- what a statement begins with

  unlabelled : (ts : List Token) (r : Option (Read Stmt)) → label_at ts ≡ None → by_label types limit inner None ts ≡ r → statement_by types limit inner ts ≡ r
  unfolding statement_by
  unlabelled ts r e x = rw e x

  worded : (w : Reserved) (p : Pos) (ts : List Token) (r : Option (Read Stmt))
      → by_keyword types limit inner (keyword (Some w)) (reserved w p ∷ ts) ≡ r → statement_by types limit inner (reserved w p ∷ ts) ≡ r
  unfolding by_label
  worded w p ts r x = unlabelled (reserved w p ∷ ts) r (no_word_no_label (reserved w p ∷ ts) refl) x

  expression_read : {h : ℕ} {t : Expr} {s : List Token} → Spells types Whole h t s → h ≤ limit → (p : Pos) (rest : List Token)
      → statement_by types limit inner (s ++ punct sign.Semicolon p ∷ rest) ≡ Some (read (stmt.Expr (Some t) (first_pos s)) (suc h) rest)
  unfolding by_label by_keyword expression
  expression_read {h = h} {t = t} {s = s} d low p rest =
      let end = punct sign.Semicolon p ∷ rest in
      let b = begins_expr types _ _ _ _ d in
      unlabelled (s ++ end) (Some (read (stmt.Expr (Some t) (first_pos s)) (suc h) rest)) (expr_no_label types d end refl)
      (rw (no_left_brace _ (expr_no_end b end), expr_no_keyword b end, at_most_read (there d) low is_semicolon no_semicolon end refl refl, expr_first b end)
      (node_is limit (stmt.Expr (Some t) (first_pos s)) h rest low))

  state_read : {b : Bool} {h : ℕ} {t : Stmt} {s : List Token} → States types b h t s → h ≤ suc limit → (rest : List Token)
      → (b ≡ true → is_else (front_reserved rest) ≡ false)
      → statement_by types limit inner (s ++ rest) ≡ Some (read t h rest)
  unfolding statement_by by_label by_keyword reading.a_block reading.an_if if_rest if_else reading.a_while reading.a_do reading.do_rest
      reading.do_test reading.a_for reading.for_begin reading.for_rest reading.for_last reading.a_switch reading.a_goto reading.a_break
      reading.a_continue reading.a_return expression at_most reading.a_label
  state_read (g.a_block {h = h} {xs = xs} {s = s} p q d) low rest closed =
      let ts = punct sign.LeftBrace p ∷ ((s ++ punct sign.RightBrace q ∷ []) ++ rest) in
      unlabelled ts (Some (read (stmt.Block xs p q) (suc h) rest)) (no_word_no_label ts refl)
      (rw (append_assoc s (punct sign.RightBrace q ∷ []) rest, items_read d (omega arith) q rest) (node_is limit (stmt.Block xs p q) h rest (omega arith)))
  state_read (g.an_expression {h = h} {t = t} {s = s} p d) low rest closed =
      rw (append_assoc s (punct sign.Semicolon p ∷ []) rest) (expression_read d (omega arith) p rest)
  state_read (g.no_expression p) low rest closed =
      let ts = punct sign.Semicolon p ∷ rest in
      unlabelled ts (Some (read (stmt.Expr None p) 1 rest)) (no_word_no_label ts refl) (node_is limit (stmt.Expr None p) 0 rest (omega arith))
  state_read (g.an_if {b = b} {h = h} {m = m} {c = c} {x = x} {s = s} {r = r} p q o d y) low rest closed =
      let out = stmt.If c x None p in
      worded key.If p (punct sign.LeftParen q ∷ ((s ++ punct sign.RightParen o ∷ r) ++ rest)) (Some (read out (suc (max h m)) rest))
      (rw (
        append_assoc s (punct sign.RightParen o ∷ r) rest,
        condition_read d (omega arith) q o (r ++ rest),
        complete b m x r rest y (omega arith) (λ e. closed refl),
        closed refl,
      )
      (node_is limit out (max h m) rest (omega arith)))
  state_read (g.an_if_else {b = b} {h = h} {m = m} {n = n} {c = c} {x = x} {y = y} {s = s} {r = r} {u = u} p q o v d i j) low rest closed =
      let out = stmt.If c x (Some y) p in
      worded key.If p (punct sign.LeftParen q ∷ ((s ++ punct sign.RightParen o ∷ (r ++ reserved key.Else v ∷ u)) ++ rest))
      (Some (read out (suc (max h (max m n))) rest))
      (rw (
        append_assoc s (punct sign.RightParen o ∷ (r ++ reserved key.Else v ∷ u)) rest,
        append_assoc r (reserved key.Else v ∷ u) rest,
        condition_read d (omega arith) q o (r ++ reserved key.Else v ∷ (u ++ rest)),
        complete false m x r (reserved key.Else v ∷ (u ++ rest)) i (omega arith) (λ e. absurd cc),
        complete b n y u rest j (omega arith) closed,
      )
      (node_is limit out (max h (max m n)) rest (omega arith)))
  state_read (g.a_while {b = b} {h = h} {m = m} {c = c} {x = x} {s = s} {r = r} p q o d y) low rest closed =
      let out = stmt.While c x p in
      worded key.While p (punct sign.LeftParen q ∷ ((s ++ punct sign.RightParen o ∷ r) ++ rest)) (Some (read out (suc (max h m)) rest))
      (rw (append_assoc s (punct sign.RightParen o ∷ r) rest, condition_read d (omega arith) q o (r ++ rest), complete b m x r rest y (omega arith) closed)
      (node_is limit out (max h m) rest (omega arith)))
  state_read (g.a_do {b = b} {h = h} {m = m} {c = c} {x = x} {s = s} {r = r} p q o v w y d) low rest closed =
      let out = stmt.Do x c p in
      let ending = punct sign.RightParen v ∷ punct sign.Semicolon w ∷ [] in
      let tail = reserved key.While q ∷ punct sign.LeftParen o ∷ (r ++ punct sign.RightParen v ∷ punct sign.Semicolon w ∷ rest) in
      worded key.Do p ((s ++ reserved key.While q ∷ punct sign.LeftParen o ∷ (r ++ ending)) ++ rest) (Some (read out (suc (max h m)) rest))
      (rw (
        append_assoc s (reserved key.While q ∷ punct sign.LeftParen o ∷ (r ++ ending)) rest,
        append_assoc r ending rest,
        complete b h x s tail y (omega arith) (λ e. refl),
        condition_read d (omega arith) o v (punct sign.Semicolon w ∷ rest),
      )
      (node_is limit out (max h m) rest (omega arith)))
  state_read (g.a_for {b = b} {h = h} {k = j} {m = m} {n = n} {f = f} {c = c} {e = e} {x = x} {s = s} {r = r} {u = u} {v = v} p q o w df dc
      de y) low rest closed =
      let out = stmt.For (for_head f c e) x p in
      let inside = u ++ punct sign.RightParen w ∷ v in
      let two = punct sign.Semicolon o ∷ (u ++ punct sign.RightParen w ∷ (v ++ rest)) in
      worded key.For p (punct sign.LeftParen q ∷ ((s ++ (r ++ punct sign.Semicolon o ∷ inside)) ++ rest)) (Some (read out (suc (max h (max j (max m n)))) rest))
      (rw (
        append_assoc s (r ++ punct sign.Semicolon o ∷ inside) rest,
        append_assoc r (punct sign.Semicolon o ∷ inside) rest,
        append_assoc u (punct sign.RightParen w ∷ v) rest,
        start_read df (omega arith) (r ++ two),
        at_most_read dc (omega arith) is_semicolon no_semicolon two refl refl,
        at_most_read de (omega arith) is_right_paren no_right_paren (punct sign.RightParen w ∷ (v ++ rest)) refl refl,
        complete b n x v rest y (omega arith) closed,
      )
      (node_is limit out (max h (max j (max m n))) rest (omega arith)))
  state_read (g.a_switch {h = h} {m = m} {c = c} {xs = xs} {s = s} {r = r} p q o v w d ds) low rest closed =
      let out = stmt.Switch c xs p w in
      let inside = r ++ punct sign.RightBrace w ∷ [] in
      worded key.Switch p (punct sign.LeftParen q ∷ ((s ++ punct sign.RightParen o ∷ punct sign.LeftBrace v ∷ inside) ++ rest))
      (Some (read out (suc (max h m)) rest))
      (rw (
        append_assoc s (punct sign.RightParen o ∷ punct sign.LeftBrace v ∷ inside) rest,
        append_assoc r (punct sign.RightBrace w ∷ []) rest,
        condition_read d (omega arith) q o (punct sign.LeftBrace v ∷ (r ++ punct sign.RightBrace w ∷ rest)),
        items_read ds (omega arith) w rest,
      )
      (node_is limit out (max h m) rest (omega arith)))
  state_read (g.a_goto l p q o) low rest closed =
      worded key.Goto p (word l q ∷ punct sign.Semicolon o ∷ rest) (Some (read (stmt.Goto l p) 1 rest)) (node_is limit (stmt.Goto l p) 0 rest (omega arith))
  state_read (g.a_break p q) low rest closed =
      worded key.Break p (punct sign.Semicolon q ∷ rest) (Some (read (stmt.Break p) 1 rest)) (node_is limit (stmt.Break p) 0 rest (omega arith))
  state_read (g.a_continue p q) low rest closed =
      worded key.Continue p (punct sign.Semicolon q ∷ rest) (Some (read (stmt.Continue p) 1 rest)) (node_is limit (stmt.Continue p) 0 rest (omega arith))
  state_read (g.a_return {h = h} {t = t} {s = s} p q d) low rest closed =
      worded key.Return p ((s ++ punct sign.Semicolon q ∷ []) ++ rest) (Some (read (stmt.Return t p) (suc h) rest))
      (rw (
        append_assoc s (punct sign.Semicolon q ∷ []) rest,
        at_most_read d (omega arith) is_semicolon no_semicolon (punct sign.Semicolon q ∷ rest) refl refl,
      )
      (node_is limit (stmt.Return t p) h rest (omega arith)))
  state_read (g.a_label {b = b} {h = h} {x = x} {s = s} l p q d) low rest closed =
      rw (complete b h x s rest d (omega arith) closed) (node_is limit (stmt.Label l x p) h rest (omega arith))

-- no statement has a height of 0
state_is_high : {types : List NameId} {b : Bool} {h : ℕ} {x : Stmt} {s : List Token} → States types b h x s → 1 ≤ h
state_is_high (g.a_block p q d) = omega arith
state_is_high (g.an_expression p d) = omega arith
state_is_high (g.no_expression p) = omega arith
state_is_high (g.an_if p q o d x) = omega arith
state_is_high (g.an_if_else p q o v d x y) = omega arith
state_is_high (g.a_while p q o d x) = omega arith
state_is_high (g.a_do p q o v w d x) = omega arith
state_is_high (g.a_for p q o w f c e x) = omega arith
state_is_high (g.a_switch p q o v w d xs) = omega arith
state_is_high (g.a_goto l p q o) = omega arith
state_is_high (g.a_break p q) = omega arith
state_is_high (g.a_continue p q) = omega arith
state_is_high (g.a_return p q d) = omega arith
state_is_high (g.a_label l p q d) = omega arith

module _ (types : List NameId) (known : (limit : ℕ) → below.IsComplete types limit) where
  pub statement_read : (limit : ℕ) (b : Bool) (h : ℕ) (t : Stmt) (s rest : List Token) → States types b h t s → h ≤ limit
      → (b ≡ true → is_else (front_reserved rest) ≡ false)
      → statement types limit (s ++ rest) ≡ Some (read t h rest)
  unfolding statement
  statement_read zero b h t s rest d low closed = let high = state_is_high d in let bad : ⊥ = omega arith in absurd bad
  statement_read (suc n) b h t s rest d low closed = state_read types known n (λ us. statement types n us) (statement_read n) d low rest closed
