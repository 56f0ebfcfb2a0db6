-- How phrases begin: by recursion on what spells them.
use Rattle.std.proofs.Common.{◌≡◌, ℕ, ◌≤◌, Bool, true, false, not, ◌&&◌, ◌||◌, List, [], ◌∷◌, ◌++◌, length, Some, None, refl, sym, ap}
use Rattle.std.proofs.Common.{subst, ◌∙◌, append_assoc, arith}
use Rattle.std.proofs.lemmas.Bool.{and_left, not-true, or_left, or_right}
use Rattle.sc_base.specs.declared.pos.NameId.{NameId}
use Rattle.sc_tree.specs.declared.token.Token.{Token}
use Rattle.sc_tree.specs.declared.token.Kind.{Kind}
use Rattle.sc_tree.specs.declared.token.Kind.TheVariants as k
use Rattle.sc_tree.specs.declared.token.StrToken.{StrToken}
use Rattle.sc_tree.specs.declared.token.Punct.{Punct}
use Rattle.sc_tree.specs.declared.token.Punct.TheVariants as sign
use Rattle.sc_tree.specs.declared.token.Reserved.{Reserved}
use Rattle.sc_tree.specs.declared.token.Reserved.TheVariants as key
use Rattle.sc_tree.specs.declared.expr.Expr.{Expr}
use Rattle.sc_tree.specs.declared.expr.Head.{Head}
use Rattle.sc_tree.specs.declared.expr.Declarator.{Declarator}
use Rattle.sc_tree.specs.declared.grammar.Level.{Level}
use Rattle.sc_tree.specs.declared.grammar.Level.TheVariants.{Primary, Postfix, Prefix}
use Rattle.sc_tree.specs.declared.grammar.Naming.{Naming}
use Rattle.sc_tree.specs.declared.grammar.Naming.TheVariants as naming
use Rattle.sc_tree.specs.declared.grammar.Core.{Core}
use Rattle.sc_tree.specs.declared.grammar.Piece.{Piece}
use Rattle.sc_tree.specs.declared.grammar.Gathered.{Gathered}
use Rattle.sc_tree.specs.declared.grammar.Specified.{Specified}
use Rattle.sc_tree.specs.Operators.{unary, step}
use Rattle.sc_tree.specs.TypeWords.{storage_word, type_word}
use Rattle.sc_tree.specs.Specifiers.{no_pieces, with_pieces, finished}
use Rattle.sc_tree.specs.Tokens.{token, word, punct, reserved, first_pos, is_type}
use Rattle.sc_tree.specs.Grammar as g
use Rattle.sc_tree.specs.Grammar.{record_word, may_name, may_lack, Strings, one_string, more_strings, Spells, Arguments, Listed, Heads}
use Rattle.sc_tree.specs.Grammar.{a_head, Specifies, pieces, Pieces, no_piece, more_pieces, APiece, Members, AMember, Parts, APart}
use Rattle.sc_tree.specs.Grammar.{Enumerators, AnEnumerator, Declares, a_direct, a_pointer, Directs, Parameters, ManyHeads}
use Rattle.sc_parse_front.specs.Front.{punct_of, word_of, reserved_of, front, front_reserved, behind, is_left_paren, is_right_paren}
use Rattle.sc_parse_front.specs.Front.{is_left_bracket, is_right_bracket, is_star, is_some, is_sizeof, is_type_word, begins_piece}
use Rattle.sc_parse_front.specs.Front.{begins_type, unary_at, step_at}
use Rattle.sc_parse_expr.specs.Laws.{opens_expr, BeginsExpr, BeginsSpecs, opens_declarator, BeginsDeclarator}

-- ---- tokens that begin with one that the test takes

pub record Begins (test : Kind → Bool) (s : List Token) : Type 0 where
  pub first : Token
  pub others : List Token
  pub whole : s ≡ first ∷ others
  pub opens : test first.kind ≡ true

pub longer : {test : Kind → Bool} {s : List Token} → Begins test s → (r : List Token) → Begins test (s ++ r)
longer b r = record { first = b.first; others = b.others ++ r; whole = ap (λ (z : List Token). z ++ r) b.whole; opens = b.opens }

pub weaker : {test other : Kind → Bool} {s : List Token} → ((x : Kind) → test x ≡ true → other x ≡ true) → Begins test s → Begins other s
weaker f b = record { first = b.first; others = b.others; whole = b.whole; opens = f b.first.kind b.opens }

-- what is said of the first token's kind is so of the tokens
pub by_first : {A : Type 0} {test : Kind → Bool} {s : List Token} (f : List Token → A) (v : A) → Begins test s
    → ((t : Token) (ts : List Token) → test t.kind ≡ true → f (t ∷ ts) ≡ v) → f s ≡ v
by_first f v b fact = ap f b.whole ∙ fact b.first b.others b.opens

pub not_empty : {test : Kind → Bool} {s : List Token} → Begins test s → 1 ≤ length s
not_empty b = subst (λ (z : List Token). 1 ≤ length z) (sym b.whole) (omega arith)

pub first_stays : {test : Kind → Bool} {s : List Token} → Begins test s → (r : List Token) → first_pos (s ++ r) ≡ first_pos s
first_stays b r = ap (λ (z : List Token). first_pos (z ++ r)) b.whole ∙ sym (ap first_pos b.whole)

-- ---- expressions

-- a token that may begin a primary expression
abbrev pub opens_postfix : List NameId → Kind → Bool
opens_postfix types (k.Word w) = not (is_type types w)
opens_postfix types (k.Int i) = true
opens_postfix types (k.Char c) = true
opens_postfix types k.Odd = true
opens_postfix types (k.Str x) = true
opens_postfix types (k.Punct p) = is_left_paren (Some p)
opens_postfix types (k.Reserved r) = false

postfix_opens : (types : List NameId) (x : Kind) → opens_postfix types x ≡ true → opens_expr types x ≡ true
postfix_opens types (k.Punct p) e = or_left _ _ e
postfix_opens types (k.Reserved r) e = absurd cc
postfix_opens types (k.Word w) e = e
postfix_opens types _ e = refl

strings_begin : (types : List NameId) {xs : List StrToken} {s : List Token} → Strings xs s → Begins (opens_postfix types) s
strings_begin types (one_string x p) = record { first = token (k.Str x) p; others = []; whole = refl; opens = refl }
strings_begin types (more_strings {s = s} x p more) = record { first = token (k.Str x) p; others = s; whole = refl; opens = refl }

pub primary_begins : (types : List NameId) {h : ℕ} {t : Expr} {s : List Token} → Spells types Primary h t s → Begins (opens_postfix types) s
primary_begins types (g.a_name w p e) = record { first = word w p; others = []; whole = refl; opens = ap not e }
primary_begins types (g.an_int i p) = record { first = token (k.Int i) p; others = []; whole = refl; opens = refl }
primary_begins types (g.a_char c p) = record { first = token (k.Char c) p; others = []; whole = refl; opens = refl }
primary_begins types (g.an_odd p) = record { first = token k.Odd p; others = []; whole = refl; opens = refl }
primary_begins types (g.a_string ss) = strings_begin types ss
primary_begins types (g.brackets {s = s} p q d) = record {
  first = punct sign.LeftParen p;
  others = s ++ punct sign.RightParen q ∷ [];
  whole = refl;
  opens = refl;
}

pub postfix_begins : (types : List NameId) {h : ℕ} {t : Expr} {s : List Token} → Spells types Postfix h t s → Begins (opens_postfix types) s
postfix_begins types (g.a_primary d) = primary_begins types d
postfix_begins types (g.an_index p q d x) = longer (postfix_begins types d) _
postfix_begins types (g.a_call p q d x) = longer (postfix_begins types d) _
postfix_begins types (g.a_field o arrow w p q e d) = longer (postfix_begins types d) _
postfix_begins types (g.a_step_behind o by p e d) = longer (postfix_begins types d) _

pub expr_begins : (types : List NameId) {level : Level} {h : ℕ} {t : Expr} {s : List Token} → Spells types level h t s → Begins (opens_expr types) s
expr_begins types (g.a_name w p e) = record { first = word w p; others = []; whole = refl; opens = ap not e }
expr_begins types (g.an_int i p) = record { first = token (k.Int i) p; others = []; whole = refl; opens = refl }
expr_begins types (g.a_char c p) = record { first = token (k.Char c) p; others = []; whole = refl; opens = refl }
expr_begins types (g.an_odd p) = record { first = token k.Odd p; others = []; whole = refl; opens = refl }
expr_begins types (g.a_string ss) = weaker (postfix_opens types) (strings_begin types ss)
expr_begins types (g.brackets {s = s} p q d) = record { first = punct sign.LeftParen p; others = s ++ punct sign.RightParen q ∷ []; whole = refl; opens = refl }
expr_begins types (g.a_primary d) = expr_begins types d
expr_begins types (g.an_index p q d x) = longer (expr_begins types d) _
expr_begins types (g.a_call p q d x) = longer (expr_begins types d) _
expr_begins types (g.a_field o arrow w p q e d) = longer (expr_begins types d) _
expr_begins types (g.a_step_behind o by p e d) = longer (expr_begins types d) _
expr_begins types (g.a_postfix d) = expr_begins types d
expr_begins types (g.a_unary {s = s} o op p e d) =
    record {
      first = punct o p;
      others = s;
      whole = refl;
      opens =
          or_right (is_left_paren (Some o)) _ (or_left (is_some (unary o)) (is_some (step o)) (ap is_some e));
    }
expr_begins types (g.a_step_before {s = s} o by p e d) =
    record {
      first = punct o p;
      others = s;
      whole = refl;
      opens =
          or_right (is_left_paren (Some o)) _ (or_right (is_some (unary o)) (is_some (step o)) (ap is_some e));
    }
expr_begins types (g.a_size {s = s} p d) = record { first = reserved key.Sizeof p; others = s; whole = refl; opens = refl }
expr_begins types (g.a_size_of_type {s = s} p q o d) = record
    { first = reserved key.Sizeof p; others = punct sign.LeftParen q ∷ (s ++ punct sign.RightParen o ∷ []); whole = refl; opens = refl }
expr_begins types (g.a_prefix d) = expr_begins types d
expr_begins types (g.a_cast {s = s} {r = r} p q d x) = record
    { first = punct sign.LeftParen p; others = s ++ punct sign.RightParen q ∷ r; whole = refl; opens = refl }
expr_begins types (g.an_operand d) = expr_begins types d
expr_begins types (g.stronger d) = expr_begins types d
expr_begins types (g.a_binary o op p e d x) = longer (expr_begins types d) _
expr_begins types (g.no_choice d) = expr_begins types d
expr_begins types (g.a_choice p q d x y) = longer (expr_begins types d) _
expr_begins types (g.no_assignment d) = expr_begins types d
expr_begins types (g.an_assignment o op p e d x) = longer (expr_begins types d) _
expr_begins types (g.no_comma d) = expr_begins types d
expr_begins types (g.a_comma p d x) = longer (expr_begins types d) _

pub begins_expr : (types : List NameId) (level : Level) (h : ℕ) (t : Expr) (s : List Token) → Spells types level h t s → BeginsExpr types s
begins_expr types level h t s d =
    let b = expr_begins types d in
    record { first = b.first; others = b.others; whole = b.whole; opens = b.opens }

-- an expression begins with no word of a type
kind_not_type : (types : List NameId) (x : Kind) → opens_expr types x ≡ true → (begins_piece (reserved_of x) || is_type_word types (word_of x)) ≡ false
kind_not_type types (k.Word w) e = not-true (is_type types w) e
kind_not_type types (k.Reserved key.Sizeof) e = refl
kind_not_type types (k.Reserved _) e = absurd cc
kind_not_type types _ e = refl

pub no_type : (types : List NameId) {s : List Token} → Begins (opens_expr types) s → begins_type types s ≡ false
no_type types b = by_first (begins_type types) false b (λ t ts e. kind_not_type types t.kind e)

-- nor with an end of what may hold it
kind_not_paren : (types : List NameId) (x : Kind) → opens_expr types x ≡ true → is_right_paren (punct_of x) ≡ false
kind_not_paren types (k.Punct sign.RightParen) e = absurd cc
kind_not_paren types (k.Punct _) e = refl
kind_not_paren types _ e = refl

pub no_right_paren : (types : List NameId) {s : List Token} → Begins (opens_expr types) s → is_right_paren (front s) ≡ false
no_right_paren types b = by_first (λ s. is_right_paren (front s)) false b (λ t ts e. kind_not_paren types t.kind e)

kind_not_bracket : (types : List NameId) (x : Kind) → opens_expr types x ≡ true → is_right_bracket (punct_of x) ≡ false
kind_not_bracket types (k.Punct sign.RightBracket) e = absurd cc
kind_not_bracket types (k.Punct _) e = refl
kind_not_bracket types _ e = refl

pub no_right_bracket : (types : List NameId) {s : List Token} → Begins (opens_expr types) s → is_right_bracket (front s) ≡ false
no_right_bracket types b = by_first (λ s. is_right_bracket (front s)) false b (λ t ts e. kind_not_bracket types t.kind e)

-- a postfix expression begins with no operator
kind_not_unary : (types : List NameId) (x : Kind) → opens_postfix types x ≡ true → unary_at (punct_of x) ≡ None
kind_not_unary types (k.Punct sign.LeftParen) e = refl
kind_not_unary types (k.Punct _) e = absurd cc
kind_not_unary types _ e = refl

pub no_unary : (types : List NameId) {s : List Token} → Begins (opens_postfix types) s → unary_at (front s) ≡ None
no_unary types b = by_first (λ s. unary_at (front s)) None b (λ t ts e. kind_not_unary types t.kind e)

kind_not_step : (types : List NameId) (x : Kind) → opens_postfix types x ≡ true → step_at (punct_of x) ≡ None
kind_not_step types (k.Punct sign.LeftParen) e = refl
kind_not_step types (k.Punct _) e = absurd cc
kind_not_step types _ e = refl

pub no_step : (types : List NameId) {s : List Token} → Begins (opens_postfix types) s → step_at (front s) ≡ None
no_step types b = by_first (λ s. step_at (front s)) None b (λ t ts e. kind_not_step types t.kind e)

kind_not_sizeof : (types : List NameId) (x : Kind) → opens_postfix types x ≡ true → is_sizeof (reserved_of x) ≡ false
kind_not_sizeof types (k.Reserved r) e = absurd cc
kind_not_sizeof types _ e = refl

pub no_sizeof : (types : List NameId) {s : List Token} → Begins (opens_postfix types) s → is_sizeof (front_reserved s) ≡ false
no_sizeof types b = by_first (λ s. is_sizeof (front_reserved s)) false b (λ t ts e. kind_not_sizeof types t.kind e)

-- no prefix expression begins as a cast does
abbrev opens_cast : List NameId → List Token → Bool
opens_cast types ts = is_left_paren (front ts) && begins_type types (behind ts)

strings_no_cast : (types : List NameId) {xs : List StrToken} {s : List Token} → Strings xs s → (rest : List Token) → opens_cast types (s ++ rest) ≡ false
strings_no_cast types (one_string x p) rest = refl
strings_no_cast types (more_strings x p more) rest = refl

primary_no_cast : (types : List NameId) {h : ℕ} {t : Expr} {s : List Token} → Spells types Primary h t s → (rest : List Token)
    → opens_cast types (s ++ rest) ≡ false
primary_no_cast types (g.a_name w p e) rest = refl
primary_no_cast types (g.an_int i p) rest = refl
primary_no_cast types (g.a_char c p) rest = refl
primary_no_cast types (g.an_odd p) rest = refl
primary_no_cast types (g.a_string ss) rest = strings_no_cast types ss rest
primary_no_cast types (g.brackets {s = s} p q d) rest = no_type types (longer (longer (expr_begins types d) _) rest)

postfix_no_cast : (types : List NameId) {h : ℕ} {t : Expr} {s : List Token} → Spells types Postfix h t s → (rest : List Token)
    → opens_cast types (s ++ rest) ≡ false
postfix_no_cast types (g.a_primary d) rest = primary_no_cast types d rest
postfix_no_cast types (g.an_index p q d x) rest = rw (append_assoc _ _ rest) (postfix_no_cast types d _)
postfix_no_cast types (g.a_call p q d x) rest = rw (append_assoc _ _ rest) (postfix_no_cast types d _)
postfix_no_cast types (g.a_field o arrow w p q e d) rest = rw (append_assoc _ _ rest) (postfix_no_cast types d _)
postfix_no_cast types (g.a_step_behind o by p e d) rest = rw (append_assoc _ _ rest) (postfix_no_cast types d _)

unary_no_bracket : (o : Punct) → is_some (unary o) ≡ true → is_left_paren (Some o) ≡ false
unary_no_bracket sign.LeftParen e = absurd cc
unary_no_bracket _ e = refl

step_no_bracket : (o : Punct) → is_some (step o) ≡ true → is_left_paren (Some o) ≡ false
step_no_bracket sign.LeftParen e = absurd cc
step_no_bracket _ e = refl

pub prefix_no_cast : (types : List NameId) {h : ℕ} {t : Expr} {s : List Token} → Spells types Prefix h t s → (rest : List Token)
    → opens_cast types (s ++ rest) ≡ false
prefix_no_cast types (g.a_postfix d) rest = postfix_no_cast types d rest
prefix_no_cast types (g.a_unary o op p e d) rest = and_left (is_left_paren (Some o)) _ (unary_no_bracket o (ap is_some e))
prefix_no_cast types (g.a_step_before o by p e d) rest = and_left (is_left_paren (Some o)) _ (step_no_bracket o (ap is_some e))
prefix_no_cast types (g.a_size p d) rest = refl
prefix_no_cast types (g.a_size_of_type p q o d) rest = refl

-- ---- specifiers

abbrev pub opens_piece : List NameId → Kind → Bool
opens_piece types x = begins_piece (reserved_of x) || is_type_word types (word_of x)

storage_opens : (w : Reserved) → is_some (storage_word w) ≡ true → begins_piece (Some w) ≡ true
storage_opens w e = or_left _ _ e

word_opens : (w : Reserved) → is_some (type_word w) ≡ true → begins_piece (Some w) ≡ true
word_opens w e = or_right (is_some (storage_word w)) _ (or_left _ _ e)

record_opens : (w : Reserved) → is_some (record_word w) ≡ true → begins_piece (Some w) ≡ true
record_opens w e = or_right (is_some (storage_word w)) _ (or_right (is_some (type_word w)) _ (or_left _ _ e))

begun_by : (types : List NameId) (w : Reserved) (p : _) (others : List Token) → begins_piece (Some w) ≡ true
    → Begins (opens_piece types) (reserved w p ∷ others)
begun_by types w p others e = record { first = reserved w p; others = others; whole = refl; opens = or_left _ _ e }

pub piece_begins : (types : List NameId) {h : ℕ} {x : Piece} {s : List Token} → APiece types h x s → Begins (opens_piece types) s
piece_begins types (g.a_storage_word w x p e) = begun_by types w p _ (storage_opens w (ap is_some e))
piece_begins types (g.a_type_word w x p e) = begun_by types w p _ (word_opens w (ap is_some e))
piece_begins types (g.a_typedef_name w p e) = record { first = word w p; others = []; whole = refl; opens = e }
piece_begins types (g.a_record w u tag p q e) = begun_by types w p _ (record_opens w (ap is_some e))
piece_begins types (g.a_record_body w u p q o e ms) = begun_by types w p _ (record_opens w (ap is_some e))
piece_begins types (g.a_record_whole w u tag p q o v e ms) = begun_by types w p _ (record_opens w (ap is_some e))
piece_begins types (g.an_enum tag p q) = begun_by types key.Enum p _ refl
piece_begins types (g.an_enum_body p q o xs) = begun_by types key.Enum p _ refl
piece_begins types (g.an_enum_whole tag p q o v xs) = begun_by types key.Enum p _ refl

pub no_specs : {A : Type 0} (x : Gathered) (f : Specified) → Some no_pieces ≡ Some x → finished x ≡ Some f → A
no_specs x f e done =
    let same : no_pieces ≡ x = cc in
    let bad : finished no_pieces ≡ Some f = subst (λ (y : Gathered). finished y ≡ Some f) (sym same) done in
    absurd cc

pieces_begin : (types : List NameId) {h : ℕ} {ps : List Piece} {s : List Token} → Pieces types h ps s
    → (x : Gathered) (f : Specified) → with_pieces no_pieces ps ≡ Some x → finished x ≡ Some f → Begins (opens_piece types) s
pieces_begin types no_piece x f e done = no_specs x f e done
pieces_begin types (more_pieces d more) x f e done = longer (piece_begins types d) _

pub specs_begin : (types : List NameId) {h : ℕ} {f : Specified} {s : List Token} → Specifies types h f s → Begins (opens_piece types) s
specs_begin types (pieces d e done) = pieces_begin types d _ _ e done

pub begins_specs : (types : List NameId) (h : ℕ) (f : Specified) (s : List Token) → Specifies types h f s → BeginsSpecs types s
begins_specs types h f s d =
    let b = specs_begin types d in
    record { first = b.first; others = b.others; whole = b.whole; opens = b.opens }

pub head_begins : (types : List NameId) {n : Naming} {named : Bool} {h : ℕ} {t : Head} {s : List Token} → Heads types n named h t s
    → Begins (opens_piece types) s
head_begins types (a_head d x) = longer (specs_begin types d) _

pub is_a_type : (types : List NameId) {s : List Token} → Begins (opens_piece types) s → begins_type types s ≡ true
is_a_type types b = by_first (begins_type types) true b (λ t ts e. e)

-- a piece begins with no sign at all
kind_piece_sign : (types : List NameId) (x : Kind) → opens_piece types x ≡ true → punct_of x ≡ None
kind_piece_sign types (k.Punct p) e = absurd cc
kind_piece_sign types _ e = refl

pub piece_no_sign : (types : List NameId) {s : List Token} → Begins (opens_piece types) s → front s ≡ None
piece_no_sign types b = by_first front None b (λ t ts e. kind_piece_sign types t.kind e)

-- ---- declarators

-- a token that may begin a declarator of that naming, if it does not begin with `*`
abbrev pub opens_direct : Naming → List NameId → Kind → Bool
opens_direct n types (k.Word w) = may_name n types w
opens_direct n types (k.Punct p) = is_left_paren (Some p) || (may_lack n && is_left_bracket (Some p))
opens_direct n types _ = false

abbrev pub opens_declared : Naming → List NameId → Kind → Bool
opens_declared n types x = is_star (punct_of x) || opens_direct n types x

-- it is empty, or begins so
pub data MayBegin (n : Naming) (test : Kind → Bool) (s : List Token) : Type 0 where
  left_out : may_lack n ≡ true → s ≡ [] → MayBegin n test s
  opened : Begins test s → MayBegin n test s

then_token : {n : Naming} {test : Kind → Bool} {s : List Token} → MayBegin n test s → (x : Token) (r : List Token)
    → (may_lack n ≡ true → test x.kind ≡ true) → MayBegin n test (s ++ x ∷ r)
then_token (left_out lack e) x r f = opened (record { first = x; others = r; whole = ap (λ (z : List Token). z ++ x ∷ r) e; opens = f lack })
then_token (opened b) x r f = opened (longer b _)

pub direct_begins : (types : List NameId) {n : Naming} {c : Core} {h : ℕ} {t : Declarator} {s : List Token} → Directs types n c h t s
    → MayBegin n (opens_direct n types) s
direct_begins types (g.a_declared_name n w p e) = opened (record { first = word w p; others = []; whole = refl; opens = e })
direct_begins types (g.no_name n e) = left_out e refl
direct_begins types (g.in_brackets p q d) = opened (record { first = punct sign.LeftParen p; others = _; whole = refl; opens = refl })
direct_begins types (g.an_array p q d) = then_token (direct_begins types d) _ _ (λ lack. rw lack refl)
direct_begins types (g.an_array_of p q d x) = then_token (direct_begins types d) _ _ (λ lack. rw lack refl)
direct_begins types (g.a_function p q d x) = then_token (direct_begins types d) _ _ (λ lack. refl)

may_weaker : {n : Naming} {test other : Kind → Bool} {s : List Token} → ((x : Kind) → test x ≡ true → other x ≡ true) → MayBegin n test s → MayBegin n other s
may_weaker f (left_out lack e) = left_out lack e
may_weaker f (opened b) = opened (weaker f b)

pub declarator_begins : (types : List NameId) {n : Naming} {c : Core} {h : ℕ} {t : Declarator} {s : List Token} → Declares types n c h t s
    → MayBegin n (opens_declared n types) s
declarator_begins types (a_direct d) = may_weaker (λ x e. or_right _ _ e) (direct_begins types d)
declarator_begins types (a_pointer p d) = opened (record { first = punct sign.Star p; others = _; whole = refl; opens = refl })

kind_named : (n : Naming) (types : List NameId) (x : Kind) → may_lack n ≡ false → opens_declared n types x ≡ true → opens_declarator x ≡ true
kind_named n types (k.Word w) lack e = refl
kind_named n types (k.Punct sign.Star) lack e = refl
kind_named n types (k.Punct sign.LeftParen) lack e = refl
kind_named naming.Required types (k.Punct sign.LeftBracket) lack e = absurd cc
kind_named naming.Member types (k.Punct sign.LeftBracket) lack e = absurd cc
kind_named naming.Optional types (k.Punct sign.LeftBracket) lack e = absurd cc
kind_named naming.Absent types (k.Punct sign.LeftBracket) lack e = absurd cc
kind_named naming.Required types (k.Punct _) lack e = absurd cc
kind_named naming.Member types (k.Punct _) lack e = absurd cc
kind_named naming.Optional types (k.Punct _) lack e = absurd cc
kind_named naming.Absent types (k.Punct _) lack e = absurd cc
kind_named n types _ lack e = absurd cc

must_begin : (types : List NameId) {n : Naming} {s : List Token} → may_lack n ≡ false → MayBegin n (opens_declared n types) s → Begins opens_declarator s
must_begin types lack (left_out may e) = absurd cc
must_begin types {n = n} lack (opened b) = weaker (λ x e. kind_named n types x lack e) b

pub named_begins : (types : List NameId) {n : Naming} {c : Core} {h : ℕ} {t : Declarator} {s : List Token} → may_lack n ≡ false
    → Declares types n c h t s → Begins opens_declarator s
named_begins types lack d = must_begin types lack (declarator_begins types d)

pub begins_declarator : (types : List NameId) (n : Naming) (c : Core) (h : ℕ) (t : Declarator) (s : List Token) → may_lack n ≡ false
    → Declares types n c h t s → BeginsDeclarator s
begins_declarator types n c h t s lack d =
    let b = named_begins types lack d in
    record { first = b.first; others = b.others; whole = b.whole; opens = b.opens }

-- ---- heights

pub expr_is_high : {types : List NameId} {level : Level} {h : ℕ} {t : Expr} {s : List Token} → Spells types level h t s → 1 ≤ h
expr_is_high (g.a_name w p e) = omega arith
expr_is_high (g.an_int i p) = omega arith
expr_is_high (g.a_char c p) = omega arith
expr_is_high (g.an_odd p) = omega arith
expr_is_high (g.a_string ss) = omega arith
expr_is_high (g.brackets p q d) = omega arith
expr_is_high (g.a_primary d) = expr_is_high d
expr_is_high (g.an_index p q d x) = omega arith
expr_is_high (g.a_call p q d x) = omega arith
expr_is_high (g.a_field o arrow w p q e d) = omega arith
expr_is_high (g.a_step_behind o by p e d) = omega arith
expr_is_high (g.a_postfix d) = expr_is_high d
expr_is_high (g.a_unary o op p e d) = omega arith
expr_is_high (g.a_step_before o by p e d) = omega arith
expr_is_high (g.a_size p d) = omega arith
expr_is_high (g.a_size_of_type p q o d) = omega arith
expr_is_high (g.a_prefix d) = expr_is_high d
expr_is_high (g.a_cast p q d x) = omega arith
expr_is_high (g.an_operand d) = expr_is_high d
expr_is_high (g.stronger d) = expr_is_high d
expr_is_high (g.a_binary o op p e d x) = omega arith
expr_is_high (g.no_choice d) = expr_is_high d
expr_is_high (g.a_choice p q d x y) = omega arith
expr_is_high (g.no_assignment d) = expr_is_high d
expr_is_high (g.an_assignment o op p e d x) = omega arith
expr_is_high (g.no_comma d) = expr_is_high d
expr_is_high (g.a_comma p d x) = omega arith

direct_is_high : {types : List NameId} {n : Naming} {c : Core} {h : ℕ} {t : Declarator} {s : List Token} → Directs types n c h t s → 1 ≤ h
direct_is_high (g.a_declared_name n w p e) = omega arith
direct_is_high (g.no_name n e) = omega arith
direct_is_high (g.in_brackets p q d) = omega arith
direct_is_high (g.an_array p q d) = omega arith
direct_is_high (g.an_array_of p q d x) = omega arith
direct_is_high (g.a_function p q d x) = omega arith

pub declarator_is_high : {types : List NameId} {n : Naming} {c : Core} {h : ℕ} {t : Declarator} {s : List Token} → Declares types n c h t s → 1 ≤ h
declarator_is_high (a_direct d) = direct_is_high d
declarator_is_high (a_pointer p d) = omega arith

pub head_is_high : {types : List NameId} {n : Naming} {named : Bool} {h : ℕ} {t : Head} {s : List Token} → Heads types n named h t s → 1 ≤ h
head_is_high (a_head d x) = let high = declarator_is_high x in omega arith
