-- What is known of the reading of parts, and lists that are read item by item.
use Rattle.std.proofs.Common.{◌≡◌, ℕ, zero, suc, ◌≤◌, max, Bool, true, false, not, ◌&&◌, List, ◌∷◌, ◌++◌, Option, Some, None, refl, ap, ◌∙◌}
use Rattle.std.proofs.Common.{append_assoc, arith, lt-ltb}
use Rattle.sc_base.specs.declared.pos.Pos.{Pos}
use Rattle.sc_base.specs.declared.pos.NameId.{NameId}
use Rattle.sc_tree.specs.declared.token.Token.{Token}
use Rattle.sc_tree.specs.declared.token.Kind.{Kind}
use Rattle.sc_tree.specs.declared.token.Kind.TheVariants as k
use Rattle.sc_tree.specs.declared.token.Punct.{Punct}
use Rattle.sc_tree.specs.declared.token.Punct.TheVariants as sign
use Rattle.sc_tree.specs.declared.expr.Expr.{Expr}
use Rattle.sc_tree.specs.declared.expr.Head.{Head}
use Rattle.sc_tree.specs.declared.expr.Declarator.{Declarator}
use Rattle.sc_tree.specs.declared.grammar.Level.{Level}
use Rattle.sc_tree.specs.declared.grammar.Naming.{Naming}
use Rattle.sc_tree.specs.declared.grammar.Core.{Core}
use Rattle.sc_tree.specs.declared.grammar.Specified.{Specified}
use Rattle.sc_tree.specs.Tokens.{punct}
use Rattle.sc_tree.specs.Grammar.{may_lack, Spells, Heads, a_head, Specifies, Declares}
use Rattle.sc_parse_expr.specs.declared.found.Wanted.{Wanted}
use Rattle.sc_parse_expr.specs.declared.found.Phrase.{Phrase}
use Rattle.sc_parse_front.specs.Front.{punct_of, reserved_of, front, is_comma, is_left_brace, is_some, begins_piece}
use Rattle.sc_parse_expr.specs.Read.{read, Parse, node, commas, listed, listing, many}
use Rattle.sc_parse_expr.specs.Reading.{operand, declared, inner_expr, inner_specs, inner_declarator, inner_head, headed}
use Rattle.sc_parse_expr.specs.Laws.{ends_expr, ends_specs, ends_declarator}
use Rattle.sc_parse_expr.proofs.Begins.{by_first, longer, first_stays, MayBegin, left_out, opened, opens_declared, specs_begin}
use Rattle.sc_parse_expr.proofs.Begins.{declarator_begins, declarator_is_high}

-- ---- steps

pub no_value : {A : Type 0} (o : Option A) → is_some o ≡ false → o ≡ None
no_value (Some x) e = absurd cc
no_value None e = refl

pub node_is : {A : Type 0} (below : ℕ) (x : A) (high : ℕ) (rest : List Token) → high ≤ below → node (suc below) x high rest ≡ Some (read x (suc high) rest)
node_is below x high rest low = rw (lt-ltb high (suc below) (omega arith)) refl

pub has_turn : (n : ℕ) → 1 ≤ n → (m : ℕ) × (n ≡ suc m)
has_turn zero low = let bad : ⊥ = omega arith in absurd bad
has_turn (suc n) low = (n, refl)

module _ {A B : Type 0} (item : Parse A) (add : B → A → B) (ends : Option Punct → Bool) where
  -- the last item
  pub commas_last : (n : ℕ) (xs : B) (h : ℕ) (ts : List Token) (x : A) (high : ℕ) (rest : List Token) → item ts ≡ Some (read x high rest)
      → is_comma (front rest) ≡ false
      → commas item add ends (suc n) xs h ts ≡ Some (read (record { items = add xs x; comma = false }) (max h high) rest)
  unfolding commas listed listing
  commas_last n xs h ts x high rest e none = rw (e, none) refl

  -- the last item, and a comma behind it
  pub commas_end : (n : ℕ) (xs : B) (h : ℕ) (ts : List Token) (x : A) (high : ℕ) (p : Pos) (rest : List Token) → item ts
      ≡ Some (read x high (punct sign.Comma p ∷ rest)) → ends (front rest) ≡ true
      → commas item add ends (suc n) xs h ts ≡ Some (read (record { items = add xs x; comma = true }) (max h high) rest)
  unfolding commas listed listing
  commas_end n xs h ts x high p rest e end = rw (e, end) refl

  -- an item, and more behind a comma
  pub commas_more : (n : ℕ) (xs : B) (h : ℕ) (ts : List Token) (x : A) (high : ℕ) (p : Pos) (rest : List Token) → item ts
      ≡ Some (read x high (punct sign.Comma p ∷ rest)) → ends (front rest) ≡ false
      → commas item add ends (suc n) xs h ts ≡ commas item add ends n (add xs x) (max h high) rest
  unfolding commas listed listing
  commas_more n xs h ts x high p rest e more = rw (e, more) refl

  pub many_end : (n : ℕ) (xs : B) (h : ℕ) (ts : List Token) → ends (front ts) ≡ true → many item add ends n xs h ts ≡ Some (read xs h ts)
  unfolding many
  many_end zero xs h ts e = rw e refl
  many_end (suc n) xs h ts e = rw e refl

  pub many_more : (n : ℕ) (xs : B) (h : ℕ) (ts : List Token) (x : A) (high : ℕ) (rest : List Token) → ends (front ts) ≡ false → item ts
      ≡ Some (read x high rest)
      → many item add ends (suc n) xs h ts ≡ many item add ends n (add xs x) (max h high) rest
  unfolding many
  many_more n xs h ts x high rest more e = rw (more, e) refl

-- ---- the parts

-- What is spelled with a height below the limit, `inner` reads.
pub record IsInner (types : List NameId) (below : ℕ) (inner : Wanted → Parse Phrase) : Type 0 where
  pub expr : (level : Level) (h : ℕ) (t : Expr) (s rest : List Token) → Spells types level h t s → h ≤ below → ends_expr level rest ≡ true
      → (u : Bool) × (inner_expr types (suc below) inner level (s ++ rest) ≡ Some (read (operand t u) h rest))
  pub specs : (h : ℕ) (f : Specified) (s rest : List Token) → Specifies types h f s → h ≤ below → 1 ≤ below → ends_specs rest ≡ true
      → inner_specs types (suc below) inner (s ++ rest) ≡ Some (read f h rest)
  pub declarator : (n : Naming) (c : Core) (h : ℕ) (t : Declarator) (s rest : List Token) → Declares types n c h t s → h ≤ below → ends_declarator rest ≡ true
      → inner_declarator types (suc below) inner n (s ++ rest) ≡ Some (read (declared t c) h rest)

-- ---- heads

pub and_false : {A : Type 0} (b : Bool) → (b && false) ≡ true → A
and_false true e = absurd cc
and_false false e = absurd cc

-- a declarator does not go on with the specifiers before it
kind_ends_specs : (n : Naming) (types : List NameId) (x : Kind) → opens_declared n types x ≡ true
    → (not (begins_piece (reserved_of x)) && not (is_left_brace (punct_of x))) ≡ true
kind_ends_specs n types (k.Punct sign.LeftBrace) e = and_false (may_lack n) e
kind_ends_specs n types (k.Punct _) e = refl
kind_ends_specs n types (k.Word w) e = refl
kind_ends_specs n types _ e = absurd cc

may_end_specs : (types : List NameId) {n : Naming} {s : List Token} → MayBegin n (opens_declared n types) s → (rest : List Token)
    → ends_specs rest ≡ true → ends_specs (s ++ rest) ≡ true
may_end_specs types (left_out may e) rest ends = ap (λ (z : List Token). ends_specs (z ++ rest)) e ∙ ends
may_end_specs types {n = n} (opened b) rest ends = by_first ends_specs true (longer b rest) (λ t ts e. kind_ends_specs n types t.kind e)

pub declarator_ends_specs : (types : List NameId) {n : Naming} {c : Core} {h : ℕ} {t : Declarator} {s : List Token}
    → Declares types n c h t s → (rest : List Token) → ends_specs rest ≡ true → ends_specs (s ++ rest) ≡ true
declarator_ends_specs types d rest ends = may_end_specs types (declarator_begins types d) rest ends

module _ (types : List NameId) (below : ℕ) (inner : Wanted → Parse Phrase) (parts : IsInner types below inner) where
  pub head_read : {n : Naming} {named : Bool} {h : ℕ} {t : Head} {s : List Token} → Heads types n named h t s → h ≤ below
      → (rest : List Token) → ends_specs rest ≡ true → ends_declarator rest ≡ true
      → inner_head types (suc below) inner n (s ++ rest) ≡ Some (read (record { head = t; named = named }) h rest)
  unfolding inner_head headed
  head_read (a_head {n = n} {f = f} {c = c} {h = h} {m = m} {t = t} {s = s} {r = r} d x) low rest ends_s ends_d =
      let high = declarator_is_high x in
      let one = parts.specs h f s (r ++ rest) d (omega arith) (omega arith) (declarator_ends_specs types x rest ends_s) in
      let two = parts.declarator n c m t r rest x (omega arith) ends_d in
      rw (append_assoc s r rest, one, two, first_stays (specs_begin types d) (r ++ rest)) refl
