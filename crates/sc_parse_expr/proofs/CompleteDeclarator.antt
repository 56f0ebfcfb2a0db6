-- What is spelled is read: declarators. By recursion on what spells them; parts under a node are read by
-- `inner`.
use Rattle.std.proofs.Common.{◌≡◌, ℕ, zero, suc, ◌+◌, ◌≤◌, max, Bool, true, false, not, ◌&&◌, ◌||◌, if◌then◌else◌, List, [], ◌∷◌, ◌++◌}
use Rattle.std.proofs.Common.{length, Option, Some, None, refl, ap, ap₂, ◌∙◌, append_assoc, append-nil, arith, length-append}
use Rattle.std.proofs.lemmas.Bool.{and_parts, and_right, not-true, or_right}
use Rattle.std.proofs.Math.Bool.{and_assoc}
use Rattle.sc_base.specs.declared.pos.Pos.{Pos}
use Rattle.sc_base.specs.declared.pos.NameId.{NameId}
use Rattle.sc_tree.specs.declared.token.Token.{Token}
use Rattle.sc_tree.specs.declared.token.Kind.{Kind}
use Rattle.sc_tree.specs.declared.token.Kind.TheVariants as k
use Rattle.sc_tree.specs.declared.token.Punct.{Punct}
use Rattle.sc_tree.specs.declared.token.Punct.TheVariants as sign
use Rattle.sc_tree.specs.declared.token.Reserved.TheVariants as key
use Rattle.sc_tree.specs.declared.expr.Expr.{Expr}
use Rattle.sc_tree.specs.declared.expr.Head.{Head}
use Rattle.sc_tree.specs.declared.expr.Declarator.{Declarator}
use Rattle.sc_tree.specs.declared.expr.Declarator.TheVariants as d
use Rattle.sc_tree.specs.declared.grammar.Level.TheVariants.{Choice}
use Rattle.sc_tree.specs.declared.grammar.Naming.{Naming}
use Rattle.sc_tree.specs.declared.grammar.Naming.TheVariants as naming
use Rattle.sc_tree.specs.declared.grammar.Core.{Core}
use Rattle.sc_tree.specs.declared.grammar.Core.TheVariants as core
use Rattle.sc_tree.specs.declared.grammar.Piece.{Piece}
use Rattle.sc_tree.specs.declared.grammar.Specified.{Specified}
use Rattle.sc_tree.specs.Tokens.{punct, is_type}
use Rattle.sc_tree.specs.Grammar as g
use Rattle.sc_tree.specs.Grammar.{may_name, may_lack, covered, called, is_void_word, is_void, Spells, Heads, a_head, Specifies, pieces}
use Rattle.sc_tree.specs.Grammar.{Pieces, no_piece, more_pieces, APiece, Declares, a_direct, a_pointer, Directs, Parameters, ManyHeads}
use Rattle.sc_tree.specs.Grammar.{one_head, more_heads}
use Rattle.sc_parse_expr.specs.declared.found.Wanted.{Wanted}
use Rattle.sc_parse_expr.specs.declared.found.Phrase.{Phrase}
use Rattle.sc_parse_expr.specs.declared.found.Declared.{Declared}
use Rattle.sc_parse_expr.specs.declared.found.Headed.{Headed}
use Rattle.sc_parse_front.specs.Front.{punct_of, word_of, reserved_of, front, front_word, front_reserved, behind, is_left_paren}
use Rattle.sc_parse_front.specs.Front.{is_right_paren, is_right_bracket, is_star, is_ellipsis, is_void_key, is_some, is_type_word}
use Rattle.sc_parse_front.specs.Front.{begins_piece, begins_type, Suffix, Indexing, Calling, suffix}
use Rattle.sc_parse_expr.specs.Read.{Read, read, Parse, Listed, commas}
use Rattle.sc_parse_expr.specs.Reading.{operand, declared, params, Roll, enrolled, inner_expr, inner_head, pointed, enclosed, encloses}
use Rattle.sc_parse_expr.specs.Reading.{unnamed, begun, open_array, long_array, array_of, parameters, function_of, derived, derive, direct}
use Rattle.sc_parse_expr.specs.Reading.{declarator}
use Rattle.sc_parse_expr.specs.Laws.{ends_specs, ends_declarator}
use Rattle.sc_parse_front.specs.Front.{is_derived}
use Rattle.sc_parse_expr.proofs.Begins.{Begins, by_first, longer, not_empty, expr_begins, no_right_bracket, head_begins, opens_piece}
use Rattle.sc_parse_expr.proofs.Begins.{piece_begins, piece_no_sign, is_a_type, no_specs, MayBegin, left_out, opened, opens_direct}
use Rattle.sc_parse_expr.proofs.Begins.{opens_declared, direct_begins, declarator_begins}
use Rattle.sc_parse_expr.proofs.Inner.{no_value, node_is, has_turn, commas_last, commas_end, commas_more, IsInner, and_false, head_read}

-- ---- tokens

-- a declarator in brackets begins neither with `)` nor with a type
word_no_type : (n : Naming) (types : List NameId) (w : NameId) → may_name n types w ≡ true → (may_lack n && is_type types w) ≡ false
word_no_type naming.Required types w e = refl
word_no_type naming.Member types w e = refl
word_no_type naming.Optional types w e = turned (is_type types w) e
  where
    turned : (b : Bool) → (if b then false else true) ≡ true → b ≡ false
    turned true e = absurd cc
    turned false e = refl
word_no_type naming.Absent types w e = absurd cc

kind_encloses : (n : Naming) (types : List NameId) (x : Kind) → opens_declared n types x ≡ true
    → (may_lack n && (is_right_paren (punct_of x) || (begins_piece (reserved_of x) || is_type_word types (word_of x)))) ≡ false
kind_encloses n types (k.Word w) e = word_no_type n types w e
kind_encloses n types (k.Punct sign.RightParen) e = and_false (may_lack n) e
kind_encloses n types (k.Punct _) e = and_right (may_lack n) false refl
kind_encloses n types _ e = absurd cc

may_enclose : (n : Naming) (types : List NameId) (x : Token) (s : List Token) → MayBegin n (opens_declared n types) (x ∷ s)
    → (may_lack n && (is_right_paren (punct_of x.kind) || begins_type types (x ∷ []))) ≡ false
may_enclose n types x s (left_out may e) = absurd cc
may_enclose n types x s (opened b) =
    by_first (λ ts. may_lack n && (is_right_paren (front ts) || begins_type types ts)) false b (λ t ts e. kind_encloses n types t.kind e)

-- a direct declarator does not begin with `*`
kind_no_star : (n : Naming) (types : List NameId) (x : Kind) → opens_direct n types x ≡ true → is_star (punct_of x) ≡ false
kind_no_star n types (k.Punct sign.Star) e = and_false (may_lack n) e
kind_no_star n types (k.Punct _) e = refl
kind_no_star n types _ e = refl

no_star : (n : Naming) (types : List NameId) (s : List Token) → MayBegin n (opens_direct n types) s → (rest : List Token)
    → is_star (front rest) ≡ false → is_star (front (s ++ rest)) ≡ false
no_star n types s (left_out may e) rest other = ap (λ (z : List Token). is_star (front (z ++ rest))) e ∙ other
no_star n types s (opened b) rest other = by_first (λ ts. is_star (front ts)) false (longer b rest) (λ t ts e. kind_no_star n types t.kind e)

-- no declarator begins with `)`
kind_no_paren : (n : Naming) (types : List NameId) (x : Kind) → opens_declared n types x ≡ true → is_right_paren (punct_of x) ≡ false
kind_no_paren n types (k.Punct sign.RightParen) e = and_false (may_lack n) e
kind_no_paren n types (k.Punct _) e = refl
kind_no_paren n types _ e = refl

no_paren : (n : Naming) (types : List NameId) (s : List Token) → MayBegin n (opens_declared n types) s → (rest : List Token)
    → is_right_paren (front rest) ≡ false → is_right_paren (front (s ++ rest)) ≡ false
no_paren n types s (left_out may e) rest other = ap (λ (z : List Token). is_right_paren (front (z ++ rest))) e ∙ other
no_paren n types s (opened b) rest other = by_first (λ ts. is_right_paren (front ts)) false (longer b rest) (λ t ts e. kind_no_paren n types t.kind e)

-- ---- the second token of a head is no `)`

piece_second : {types : List NameId} {h : ℕ} {x : Piece} {s : List Token} → APiece types h x s → (rest : List Token)
    → is_right_paren (front rest) ≡ false → is_right_paren (front (behind (s ++ rest))) ≡ false
piece_second (g.a_storage_word w x p e) rest other = other
piece_second (g.a_type_word w x p e) rest other = other
piece_second (g.a_typedef_name w p e) rest other = other
piece_second (g.a_record w u tag p q e) rest other = refl
piece_second (g.a_record_body w u p q o e ms) rest other = refl
piece_second (g.a_record_whole w u tag p q o v e ms) rest other = refl
piece_second (g.an_enum tag p q) rest other = refl
piece_second (g.an_enum_body p q o xs) rest other = refl
piece_second (g.an_enum_whole tag p q o v xs) rest other = refl

pieces_front : (types : List NameId) {h : ℕ} {ps : List Piece} {s : List Token} → Pieces types h ps s → (rest : List Token)
    → is_right_paren (front rest) ≡ false → is_right_paren (front (s ++ rest)) ≡ false
pieces_front types no_piece rest other = other
pieces_front types (more_pieces {r = r} x more) rest other = ap is_right_paren (piece_no_sign types (longer (longer (piece_begins types x) r) rest))

specs_second : (types : List NameId) {h : ℕ} {f : Specified} {s : List Token} → Specifies types h f s → (rest : List Token)
    → is_right_paren (front rest) ≡ false → is_right_paren (front (behind (s ++ rest))) ≡ false
specs_second types (pieces no_piece e done) rest other = no_specs _ _ e done
specs_second types (pieces (more_pieces {s = s} {r = r} x more) e done) rest other =
    rw (append_assoc s r rest) (piece_second x (r ++ rest) (pieces_front types more rest other))

head_second : (types : List NameId) {n : Naming} {named : Bool} {h : ℕ} {t : Head} {s : List Token} → Heads types n named h t s
    → (rest : List Token) → is_right_paren (front rest) ≡ false → is_right_paren (front (behind (s ++ rest))) ≡ false
head_second types (a_head {n = n} {s = s} {r = r} x y) rest other =
    rw (append_assoc s r rest) (specs_second types x (r ++ rest) (no_paren n types r (declarator_begins types y) rest other))

many_second : (types : List NameId) {named : Bool} {h : ℕ} {ts : List Head} {s : List Token} → ManyHeads types named h ts s
    → (rest : List Token) → is_right_paren (front rest) ≡ false → is_right_paren (front (behind (s ++ rest))) ≡ false
many_second types (one_head x) rest other = head_second types x rest other
many_second types (more_heads {s = s} {r = r} p x more) rest other =
    rw (append_assoc s (punct sign.Comma p ∷ r) rest) (head_second types x (punct sign.Comma p ∷ (r ++ rest)) refl)

many_begin : (types : List NameId) {named : Bool} {h : ℕ} {ts : List Head} {s : List Token} → ManyHeads types named h ts s → Begins (opens_piece types) s
many_begin types (one_head x) = head_begins types x
many_begin types (more_heads p x more) = longer (head_begins types x) _

-- parameters that are not `void` alone do not look so
kind_no_void : (x : Kind) → is_void_word x ≡ false → is_void_key (reserved_of x) ≡ false
kind_no_void (k.Reserved key.Void) e = absurd cc
kind_no_void (k.Reserved _) e = refl
kind_no_void _ e = refl

no_void : (s rest : List Token) → 1 ≤ length s → is_void s ≡ false → is_right_paren (front (behind s)) ≡ false
    → (is_void_key (front_reserved (s ++ rest)) && is_right_paren (front (behind (s ++ rest)))) ≡ false
no_void [] rest some void second = let bad : ⊥ = omega arith in absurd bad
no_void (t ∷ []) rest some void second = rw (kind_no_void t.kind void) refl
no_void (t ∷ u ∷ us) rest some void second = rw second (and_right (is_void_key (reserved_of t.kind)) false refl)

-- ---- what follows

ends_word : (ts : List Token) → ends_declarator ts ≡ true → front_word ts ≡ None
ends_word ts e = no_value (front_word ts) (not-true (is_some (front_word ts)) (and_parts (not (is_some (front_word ts))) _ e).0)

ends_star : (ts : List Token) → ends_declarator ts ≡ true → is_star (front ts) ≡ false
ends_star ts e = not-true (is_star (front ts)) (and_parts (not (is_star (front ts))) _ (and_parts (not (is_some (front_word ts))) _ e).1).0

ends_derived : (ts : List Token) → ends_declarator ts ≡ true → is_derived (suffix (front ts)) ≡ false
ends_derived ts e = not-true (is_derived (suffix (front ts))) (and_parts (not (is_star (front ts))) _ (and_parts (not (is_some (front_word ts))) _ e).1).1

derived_paren : (o : Option Punct) → is_derived (suffix o) ≡ false → is_left_paren o ≡ false
derived_paren (Some sign.LeftParen) e = absurd cc
derived_paren (Some _) e = refl
derived_paren None e = refl

-- ---- steps of the reading

module _ (types : List NameId) (below : ℕ) (inner : Wanted → Parse Phrase) where
  -- the reading comes to its loop with the declarator in hand
  pub record DirectComes (n : Naming) (c : Core) (h : ℕ) (t : Declarator) (s rest : List Token) : Type 0 where
    pub turns : ℕ
    pub enough : suc below ≤ h + turns
    pub comes : direct types (suc below) inner n (s ++ rest) ≡ derive types (suc below) inner turns (read (declared t c) h rest)

  -- what follows is neither a name nor a declarator in brackets
  record Quiet (n : Naming) (ts : List Token) : Type 0 where
    word : front_word ts ≡ None
    bracket : (is_left_paren (front ts) && encloses types (suc below) inner n (behind ts)) ≡ false

  ends_quietly : (n : Naming) (ts : List Token) → ends_declarator ts ≡ true → Quiet n ts
  ends_quietly n ts e = record { word = ends_word ts e; bracket = rw (derived_paren (front ts) (ends_derived ts e)) refl }

  further : (n : Naming) (c : Core) (h : ℕ) (t : Declarator) (s tail : List Token) → DirectComes n c h t s tail → h ≤ below
      → (c2 : Core) (high : ℕ) (t2 : Declarator) (x rest : List Token) → x ++ rest ≡ tail → h ≤ high
      → ((m : ℕ) → derive types (suc below) inner (suc m) (read (declared t c) h tail)
      ≡ derive types (suc below) inner m (read (declared t2 c2) (suc high) rest))
      → DirectComes n c2 (suc high) t2 (s ++ x) rest
  further n c h t s tail it low c2 high t2 x rest flat rise step =
      let many = it.enough in
      let turn = has_turn it.turns (omega (arith, many)) in
      let same = turn.1 in
      record {
        turns = turn.0;
        enough = omega (arith, many, same);
        comes = ap (direct types (suc below) inner n) (append_assoc s x rest ∙ ap (λ (z : List Token). s ++ z) flat)
            ∙ (it.comes
            ∙ (ap (λ (z : ℕ). derive types (suc below) inner z (read (declared t c) h tail)) same
            ∙ step turn.0));
      }

  derived_stop : (go : Read Declared → Option (Read Declared)) (x : Suffix) (t : Read Declared) → is_derived x ≡ false
      → derived types (suc below) inner go x t ≡ Some t
  unfolding derived
  derived_stop go Indexing t e = absurd cc
  derived_stop go Calling t e = absurd cc
  derived_stop go _ t e = refl

  derive_stop : (m : ℕ) (t : Read Declared) → is_derived (suffix (front t.rest)) ≡ false → derive types (suc below) inner m t ≡ Some t
  unfolding derive
  derive_stop zero t e = derived_stop (λ r. None) (suffix (front t.rest)) t e
  derive_stop (suc m) t e = derived_stop (λ r. derive types (suc below) inner m r) (suffix (front t.rest)) t e

  array_step : (m : ℕ) (p q : Pos) (t : Declarator) (c : Core) (h : ℕ) (rest : List Token) → h ≤ below
      → derive types (suc below) inner (suc m) (read (declared t c) h (punct sign.LeftBracket p ∷ punct sign.RightBracket q ∷ rest))
      ≡ derive types (suc below) inner m (read (declared (d.Array t None) (covered c)) (suc h) rest)
  unfolding derive derived array_of open_array
  array_step m p q t c h rest low = rw (node_is below (declared (d.Array t None) (covered c)) h rest low) refl

  length_step : (m : ℕ) (p q : Pos) (t : Declarator) (c : Core) (l : Expr) (u : Bool) (h j : ℕ) (r rest : List Token) → max h j ≤ below
      → is_right_bracket (front (r ++ punct sign.RightBracket q ∷ rest)) ≡ false
      → inner_expr types (suc below) inner Choice (r ++ punct sign.RightBracket q ∷ rest) ≡ Some (read (operand l u) j (punct sign.RightBracket q ∷ rest))
      → derive types (suc below) inner (suc m) (read (declared t c) h (punct sign.LeftBracket p ∷ (r ++ punct sign.RightBracket q ∷ rest)))
      ≡ derive types (suc below) inner m (read (declared (d.Array t (Some l)) (covered c)) (suc (max h j)) rest)
  unfolding derive derived array_of long_array
  length_step m p q t c l u h j r rest low other one = rw (other, one, node_is below (declared (d.Array t (Some l)) (covered c)) (max h j) rest low) refl

  function_step : (m : ℕ) (p q : Pos) (t : Declarator) (c : Core) (ps : Option (List Head)) (named dots : Bool) (h j : ℕ)
      (r rest : List Token) → max h j ≤ below
      → parameters types (suc below) inner (r ++ punct sign.RightParen q ∷ rest) ≡ Some (read (params ps named dots) j (punct sign.RightParen q ∷ rest))
      → derive types (suc below) inner (suc m) (read (declared t c) h (punct sign.LeftParen p ∷ (r ++ punct sign.RightParen q ∷ rest)))
      ≡ derive types (suc below) inner m (read (declared (d.Func t ps dots) (called named c)) (suc (max h j)) rest)
  unfolding derive derived function_of
  function_step m p q t c ps named dots h j r rest low one = rw (one, node_is below (declared (d.Func t ps dots) (called named c)) (max h j) rest low) refl

module _ (types : List NameId) (below : ℕ) (inner : Wanted → Parse Phrase) (parts : IsInner types below inner) where
  -- ---- parameters

  -- heads with commas between, up to where the last one is read
  heads_listed : (tail : List Token) (last : Roll → ℕ → Option (Read (Listed Roll))) → ends_specs tail ≡ true → ends_declarator tail ≡ true
      → ((n : ℕ) (xs : Roll) (h : ℕ) (ts : List Token) (x : Headed) (high : ℕ) → inner_head types (suc below) inner naming.Optional ts ≡ Some (read x high tail)
      → commas (inner_head types (suc below) inner naming.Optional) enrolled is_ellipsis (suc n) xs h ts ≡ last (enrolled xs x) (max h high))
      → {named : Bool} {m : ℕ} {ts : List Head} {s : List Token} → ManyHeads types named m ts s → m ≤ below → (n : ℕ) → length s ≤ n
      → (xs : List Head) (all : Bool) (h : ℕ)
      → commas (inner_head types (suc below) inner naming.Optional) enrolled is_ellipsis n (record { heads = xs; named = all }) h (s ++ tail)
      ≡ last (record { heads = xs ++ ts; named = all && named }) (max h m)
  heads_listed tail last ends_s ends_d end (one_head {named = named} {h = m} {x = t} {s = s} x) low n room xs all h =
      let one = head_read types below inner parts x low tail ends_s ends_d in
      let some = not_empty (head_begins types x) in
      let turn = has_turn n (omega (arith, room, some)) in
      rw turn.1 (end turn.0 (record { heads = xs; named = all }) h (s ++ tail) (record { head = t; named = named }) m one)
  heads_listed tail last ends_s ends_d end (more_heads {named = named} {others = others} {h = m} {m = j} {x = t} {xs = ts} {s = s} {r = r} p
      x more) low n room xs all h =
      let one = head_read types below inner parts x (omega arith) (punct sign.Comma p ∷ (r ++ tail)) refl refl in
      let long = length-append s (punct sign.Comma p ∷ r) in
      let turn = has_turn n (omega (arith, room, long)) in
      let same = turn.1 in
      let no_dots : is_ellipsis (front (r ++ tail)) ≡ false = ap is_ellipsis (piece_no_sign types (longer (many_begin types more) tail)) in
      let step = commas_more (inner_head types (suc below) inner naming.Optional) enrolled is_ellipsis turn.0
      (record { heads = xs; named = all }) h (s ++ punct sign.Comma p ∷ (r ++ tail)) (record { head = t; named = named }) m p
      (r ++ tail) one no_dots in
      let rest = heads_listed tail last ends_s ends_d end more (omega arith) turn.0 (omega (arith, room, long, same)) (xs ++ t ∷ []) (all && named) (max h m) in
      let roll : ((xs ++ t ∷ []) ++ ts ≡ xs ++ t ∷ ts) × (((all && named) && others) ≡ (all && (named && others))) =
      (append_assoc xs (t ∷ []) ts, and_assoc all named others) in
      rw (same, append_assoc s (punct sign.Comma p ∷ r) tail)
      (step ∙ (rest ∙ (ap₂ (λ (z : List Head) (w : Bool). last (record { heads = z; named = w }) (max (max h m) j)) roll.0 roll.1
      ∙ ap (λ (w : ℕ). last (record { heads = xs ++ t ∷ ts; named = all && (named && others) }) w) (omega arith))))

  parameters_begin : {named dots : Bool} {m : ℕ} {ps : Option (List Head)} {s : List Token} → Parameters types named m ps dots s → (q : Pos) (rest : List Token)
      → (is_right_paren (front (s ++ punct sign.RightParen q ∷ rest)) || begins_type types (s ++ punct sign.RightParen q ∷ rest)) ≡ true
  parameters_begin g.no_parameters q rest = refl
  parameters_begin (g.void_alone p) q rest = refl
  parameters_begin (g.the_parameters {s = s} x void) q rest =
      let tail = punct sign.RightParen q ∷ rest in
      or_right (is_right_paren (front (s ++ tail))) (begins_type types (s ++ tail)) (is_a_type types (longer (many_begin types x) tail))
  parameters_begin (g.and_more {s = s} p o x) q rest =
      let dots = punct sign.Comma p ∷ punct sign.Ellipsis o ∷ [] in
      let tail = punct sign.RightParen q ∷ rest in
      or_right (is_right_paren (front ((s ++ dots) ++ tail))) (begins_type types ((s ++ dots) ++ tail))
      (is_a_type types (longer (longer (many_begin types x) dots) tail))

  parameters_read : {named dots : Bool} {m : ℕ} {ps : Option (List Head)} {s : List Token} → Parameters types named m ps dots s → m ≤ below
      → (q : Pos) (rest : List Token)
      → parameters types (suc below) inner (s ++ punct sign.RightParen q ∷ rest) ≡ Some (read (params ps named dots) m (punct sign.RightParen q ∷ rest))
  unfolding parameters
  parameters_read g.no_parameters low q rest = refl
  parameters_read (g.void_alone p) low q rest = refl
  parameters_read (g.the_parameters {named = named} {h = m} {hs = ts} {s = s} x void) low q rest =
      let tail = punct sign.RightParen q ∷ rest in
      let begins = many_begin types x in
      let second : is_right_paren (front (behind s)) ≡ false = rw (append-nil s) at (many_second types x [] refl) in
      let long = length-append s tail in
      let last : Roll → ℕ → Option (Read (Listed Roll)) = λ xs h. Some (read (record { items = xs; comma = false }) h tail) in
      let all = heads_listed tail last refl refl (λ n xs h ts y high one.
      commas_last (inner_head types (suc below) inner naming.Optional) enrolled is_ellipsis n xs h ts y high tail one refl)
      x low (length (s ++ tail)) (omega (arith, long)) [] true 0 in
      let high : max 0 m ≡ m = omega arith in
      rw (piece_no_sign types (longer begins tail), no_void s tail (not_empty begins) void second, all)
      (ap (λ (w : ℕ). Some (read (params (Some ts) named false) w tail)) high)
  parameters_read (g.and_more {named = named} {h = m} {hs = ts} {s = s} p o x) low q rest =
      let tail = punct sign.Comma p ∷ punct sign.Ellipsis o ∷ punct sign.RightParen q ∷ rest in
      let behind_it = punct sign.Ellipsis o ∷ punct sign.RightParen q ∷ rest in
      let begins = many_begin types x in
      let void : (is_void_key (front_reserved (s ++ tail)) && is_right_paren (front (behind (s ++ tail)))) ≡ false =
      rw (many_second types x tail refl) (and_right (is_void_key (front_reserved (s ++ tail))) false refl) in
      let long = length-append s tail in
      let last : Roll → ℕ → Option (Read (Listed Roll)) = λ xs h. Some (read (record { items = xs; comma = true }) h behind_it) in
      let all = heads_listed tail last refl refl (λ n xs h ts y high one.
      commas_end (inner_head types (suc below) inner naming.Optional) enrolled is_ellipsis n xs h ts y high p behind_it one refl)
      x low (length (s ++ tail)) (omega (arith, long)) [] true 0 in
      let high : max 0 m ≡ m = omega arith in
      rw (
        append_assoc s (punct sign.Comma p ∷ punct sign.Ellipsis o ∷ []) (punct sign.RightParen q ∷ rest),
        piece_no_sign types (longer begins tail),
        void,
        all,
      )
      (ap (λ (w : ℕ). Some (read (params (Some ts) named true) w (punct sign.RightParen q ∷ rest))) high)

  -- ---- declarators

  read_direct : {n : Naming} {c : Core} {h : ℕ} {t : Declarator} {s : List Token} → Directs types n c h t s → h ≤ suc below
      → (rest : List Token) → (may_lack n ≡ true → Quiet types below inner n rest)
      → DirectComes types below inner n c h t s rest
  unfolding direct begun unnamed enclosed
  read_direct (g.a_declared_name n w p e) low rest quiet =
      record {
        turns = suc below;
        enough = omega arith;
        comes =
            rw (e, node_is below (declared (d.Name (Some (w, p))) (core.Bare w)) 0 rest (omega arith)) refl;
      }
  read_direct (g.no_name n e) low rest quiet =
      let is = quiet e in
      record {
        turns = suc below;
        enough = omega arith;
        comes =
            rw (is.word, is.bracket, e, node_is below (declared (d.Name None) core.Nameless) 0 rest (omega arith)) refl;
      }
  read_direct (g.in_brackets {n = n} {c = c} {h = h} {t = t} {x = x} {s = s} p q y) low rest quiet =
      let one = parts.declarator n c h t (x ∷ s) (punct sign.RightParen q ∷ rest) y (omega arith) refl in
      let encloses_it = may_enclose n types x s (declarator_begins types y) in
      record {
        turns = suc below;
        enough = omega arith;
        comes =
            rw (append_assoc s (punct sign.RightParen q ∷ []) rest, encloses_it, one, node_is below (declared t c) h rest (omega arith)) refl;
      }
  read_direct (g.an_array {n = n} {c = c} {h = h} {t = t} {s = s} p q y) low rest quiet =
      let tail = punct sign.LeftBracket p ∷ punct sign.RightBracket q ∷ rest in
      further types below inner n c h t s tail (read_direct y (omega arith) tail (λ _. record { word = refl; bracket = refl })) (omega arith)
      (covered c) h (d.Array t None) (punct sign.LeftBracket p ∷ punct sign.RightBracket q ∷ []) rest refl (omega arith)
      (λ m. array_step types below inner m p q t c h rest (omega arith))
  read_direct (g.an_array_of {n = n} {c = c} {h = h} {m = j} {t = t} {l = l} {s = s} {r = r} p q y z) low rest quiet =
      let tail = punct sign.LeftBracket p ∷ (r ++ punct sign.RightBracket q ∷ rest) in
      let one = parts.expr Choice j l r (punct sign.RightBracket q ∷ rest) z (omega arith) refl in
      further types below inner n c h t s tail (read_direct y (omega arith) tail (λ _. record { word = refl; bracket = refl })) (omega arith)
      (covered c) (max h j) (d.Array t (Some l)) (punct sign.LeftBracket p ∷ (r ++ punct sign.RightBracket q ∷ [])) rest
      (ap (λ (w : List Token). punct sign.LeftBracket p ∷ w) (append_assoc r (punct sign.RightBracket q ∷ []) rest)) (omega arith)
      (λ m. length_step types below inner m p q t c l one.0 h j r rest (omega arith) (no_right_bracket types (longer (expr_begins types z) _)) one.1)
  read_direct (g.a_function {n = n} {c = c} {named = named} {dots = dots} {h = h} {m = j} {t = t} {ps = ps} {s = s} {r = r} p q y z) low rest quiet =
      let tail = punct sign.LeftParen p ∷ (r ++ punct sign.RightParen q ∷ rest) in
      let one = parameters_read z (omega arith) q rest in
      further types below inner n c h t s tail (read_direct y (omega arith) tail
      (λ lack. record { word = refl; bracket = rw (lack, parameters_begin z q rest) refl })) (omega arith)
      (called named c) (max h j) (d.Func t ps dots) (punct sign.LeftParen p ∷ (r ++ punct sign.RightParen q ∷ [])) rest
      (ap (λ (w : List Token). punct sign.LeftParen p ∷ w) (append_assoc r (punct sign.RightParen q ∷ []) rest)) (omega arith)
      (λ m. function_step types below inner m p q t c ps named dots h j r rest (omega arith) one)

  pub read_declarator : {n : Naming} {c : Core} {h : ℕ} {t : Declarator} {s : List Token} → Declares types n c h t s → h ≤ suc below
      → (rest : List Token) → ends_declarator rest ≡ true
      → declarator types (suc below) inner n (s ++ rest) ≡ Some (read (declared t c) h rest)
  unfolding declarator pointed
  read_declarator (a_direct {n = n} {c = c} {h = h} {t = t} {s = s} y) low rest ends =
      let it = read_direct y low rest (λ _. ends_quietly types below inner n rest ends) in
      rw (no_star n types s (direct_begins types y) rest (ends_star rest ends))
      (it.comes ∙ derive_stop types below inner it.turns (read (declared t c) h rest) (ends_derived rest ends))
  read_declarator (a_pointer {n = n} {c = c} {h = h} {t = t} {s = s} p y) low rest ends =
      let one = parts.declarator n c h t s rest y (omega arith) ends in
      rw one (node_is below (declared (d.Pointer t) (covered c)) h rest (omega arith))
