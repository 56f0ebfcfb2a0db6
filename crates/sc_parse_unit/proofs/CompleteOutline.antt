-- What is spelled is read: what a segment is before the body of a function.
use Rattle.std.proofs.Common.{◌≡◌, ℕ, suc, ◌≤◌, max, Bool, true, false, List, [], ◌∷◌, ◌++◌, length, Some, refl, ap, ap₂, ◌∙◌, append_assoc}
use Rattle.std.proofs.Common.{arith, length-append}
use Rattle.sc_base.specs.declared.pos.Pos.{Pos}
use Rattle.sc_base.specs.declared.pos.NameId.{NameId}
use Rattle.sc_tree.specs.declared.token.Token.{Token}
use Rattle.sc_tree.specs.declared.token.Kind.{Kind}
use Rattle.sc_tree.specs.declared.token.Kind.TheVariants as k
use Rattle.sc_tree.specs.declared.token.Punct.TheVariants as sign
use Rattle.sc_tree.specs.declared.expr.Head.{Head}
use Rattle.sc_tree.specs.declared.unit.FileDecl.{FileDecl}
use Rattle.sc_tree.specs.declared.decl.InitDeclarator.{InitDeclarator}
use Rattle.sc_tree.specs.declared.grammar.Naming.TheVariants as naming
use Rattle.sc_tree.specs.declared.grammar.Core.TheVariants as core
use Rattle.sc_tree.specs.Tokens.{punct}
use Rattle.sc_tree.specs.Trees.{max_height}
use Rattle.sc_tree.specs.Units as g
use Rattle.sc_tree.specs.Units.{with_declared, AFileDeclarator, FileDeclarators, AFileDeclaration, AFunctionHead, a_function_head, is_brace}
use Rattle.sc_tree.specs.Units.{is_braced, is_empty, closes, IsDeclaration, IsFunction}
use Rattle.sc_parse_expr.specs.declared.found.Declared.{Declared}
use Rattle.sc_parse_front.specs.Front.{front, behind, is_left_brace, is_comma}
use Rattle.sc_parse_expr.specs.Read.{Read, read, Parse}
use Rattle.sc_parse_expr.specs.Reading.Parse.{declarator_at}
use Rattle.sc_parse_expr.specs.Reading.Found.{declared}
use Rattle.sc_parse_expr.specs.Laws.{ends_declarator, BeginsDeclarator}
use Rattle.sc_parse_expr.specs.Laws as below
use Rattle.sc_parse_expr.proofs.Begins.{begins_specs}
use Rattle.sc_parse_expr.proofs.Inner.{has_turn}
use Rattle.sc_parse_unit.specs.declared.found.Outline.TheVariants as outline
use Rattle.sc_parse_unit.specs.Reading.{with_init, FileParts, file_parts, file_rest, file_declarator, file_declarators, outlined, ended}
use Rattle.sc_parse_unit.specs.Reading.{function_head, first_declared, specified, outline_of}
use Rattle.sc_parse_unit.proofs.BeginsStmt.{declarator_no_end, specs_no_end, no_semicolon}
use Rattle.sc_parse_unit.proofs.CompleteInit.{initialiser_read}
use Rattle.sc_parse_unit.proofs.CompleteDecl.{longer_declarator, specs_first, declarator_not_empty, required_begins, declarator_ends_specs}
use Rattle.sc_parse_unit.proofs.CompleteDecl.{IsBehind, behind_comma, behind_semicolon, with_no_init, with_some_init}

-- ---- tokens in braces

kind_is_brace : (x : Kind) → is_brace x ≡ true → x ≡ k.Punct sign.LeftBrace
kind_is_brace (k.Punct sign.LeftBrace) e = refl
kind_is_brace (k.Punct _) e = absurd cc
kind_is_brace _ e = absurd cc

brace_holds : (b c : Bool) → (elim b as (λ x. Bool) [ true ↦ c | false ↦ false ]) ≡ true → b ≡ true
brace_holds true c e = refl
brace_holds false c e = absurd cc

-- what is said of tokens that begin with a brace is so of tokens in braces
pub of_braced : {A : Type 0} (f : List Token → A) (v : A) → ((p : Pos) (us : List Token) → f (punct sign.LeftBrace p ∷ us) ≡ v)
    → (ts : List Token) → is_braced ts ≡ true → f ts ≡ v
of_braced f v fact [] e = absurd cc
of_braced f v fact (t ∷ ts) e =
    let kind : t.kind ≡ k.Punct sign.LeftBrace = kind_is_brace t.kind (brace_holds (is_brace t.kind) (closes 1 ts) e) in
    ap (λ (x : Kind). f (record { kind = x; pos = t.pos } ∷ ts)) kind ∙ fact t.pos ts

-- ---- declarators at file scope

file_part_begins : {def : Bool} {types between : List NameId} {h : ℕ} {x : InitDeclarator} {s : List Token}
    → AFileDeclarator def types between h x s → BeginsDeclarator s
file_part_begins (g.plain def types d) = required_begins d
file_part_begins (g.set def types p d x) = longer_declarator (required_begins d) _

file_parts_begin : {def : Bool} {types between : List NameId} {h : ℕ} {xs : List InitDeclarator} {s : List Token}
    → FileDeclarators def types between h xs s → BeginsDeclarator s
file_parts_begin (g.one d) = file_part_begins d
file_parts_begin (g.more p d ds) = longer_declarator (file_part_begins d) _

-- the reading of a declarator, and of what follows it
record FilePart (def : Bool) (types between : List NameId) (h : ℕ) (x : InitDeclarator) (s rest : List Token) : Type 0 where
  pub t : Read Declared
  pub named : declarator_at types max_height naming.Required (s ++ rest) ≡ Some t
  pub whole : with_init (with_declared def types t.it.core) max_height t ≡ Some (read x h rest)
  pub leaves : with_declared def types t.it.core ≡ between
  pub no_body : is_left_brace (front t.rest) ≡ false

file_last : (go : List InitDeclarator → List NameId → ℕ → Parse FileParts) (def : Bool) (ys : List InitDeclarator) (types : List NameId)
    (h : ℕ) (t : Read Declared) (x : InitDeclarator) (m : ℕ) (rest : List Token)
    → with_init (with_declared def types t.it.core) max_height t ≡ Some (read x m rest) → is_comma (front rest) ≡ false
    → file_declarator go def ys types h t ≡ Some (read (file_parts (ys ++ x ∷ []) (with_declared def types t.it.core)) (max h m) rest)
unfolding file_declarator file_rest
file_last go def ys types h t x m rest e none = rw (e, none) refl

file_more : (go : List InitDeclarator → List NameId → ℕ → Parse FileParts) (def : Bool) (ys : List InitDeclarator) (types : List NameId)
    (h : ℕ) (t : Read Declared) (x : InitDeclarator) (m : ℕ) (p : Pos) (rest : List Token)
    → with_init (with_declared def types t.it.core) max_height t ≡ Some (read x m (punct sign.Comma p ∷ rest))
    → file_declarator go def ys types h t ≡ go (ys ++ x ∷ []) (with_declared def types t.it.core) (max h m) rest
unfolding file_declarator file_rest
file_more go def ys types h t x m p rest e = rw e refl

declarators_step : (n : ℕ) (def : Bool) (ys : List InitDeclarator) (types : List NameId) (h : ℕ) (ts : List Token) (t : Read Declared)
    → declarator_at types max_height naming.Required ts ≡ Some t
    → file_declarators (suc n) def ys types h ts ≡ file_declarator (λ zs us m rs. file_declarators n def zs us m rs) def ys types h t
unfolding file_declarators
declarators_step n def ys types h ts t e = rw e refl

-- what the first declarator leaves for those behind it
record FirstRead (def : Bool) (types between : List NameId) (m : ℕ) (xs : List InitDeclarator) (s end : List Token) : Type 0 where
  pub t : Read Declared
  pub named : declarator_at types max_height naming.Required (s ++ end) ≡ Some t
  pub no_body : is_left_brace (front t.rest) ≡ false
  pub whole : file_declarator (λ zs us m rs. file_declarators (length rs) def zs us m rs) def [] types 0 t ≡ Some (read (file_parts xs between) m end)

module _ (known : (types : List NameId) (limit : ℕ) → below.IsComplete types limit) where
  file_part : {def : Bool} {types between : List NameId} {h : ℕ} {x : InitDeclarator} {s : List Token}
      → AFileDeclarator def types between h x s → h ≤ max_height
      → (rest : List Token) → IsBehind rest → is_left_brace (front rest) ≡ false → FilePart def types between h x s rest
  file_part (g.plain {c = c} {h = h} {t = t} {s = s} def types d) low rest ends brace = record {
    t = read (declared t c) h rest;
    named = (known types max_height).declarator naming.Required c h t s rest d low ends.declarator;
    whole = with_no_init (with_declared def types c) max_height t c h rest ends.plain;
    leaves = refl;
    no_body = brace;
  }
  file_part (g.set {c = c} {h = h} {m = m} {t = t} {i = i} {s = s} {r = r} def types p d x) low rest ends brace =
      let us = with_declared def types c in
      record {
        t = read (declared t c) h (punct sign.Assign p ∷ (r ++ rest));
        named = rw (append_assoc s (punct sign.Assign p ∷ r) rest)
            ((known types max_height).declarator naming.Required c h t s (punct sign.Assign p ∷ (r ++ rest)) d (omega arith) refl);
        whole = with_some_init us max_height t c h m i p r rest (initialiser_read us (known us) max_height m i r rest x (omega arith) ends.init);
        leaves = refl;
        no_body = refl;
      }

  file_read : {def : Bool} {types between : List NameId} {m : ℕ} {xs : List InitDeclarator} {s : List Token}
      → FileDeclarators def types between m xs s → m ≤ max_height → (n : ℕ) → length s ≤ n
      → (ys : List InitDeclarator) (h : ℕ) (q : Pos) (rest : List Token)
      → file_declarators n def ys types h (s ++ punct sign.Semicolon q ∷ rest)
      ≡ Some (read (file_parts (ys ++ xs) between) (max h m) (punct sign.Semicolon q ∷ rest))
  file_read (g.one {def = def} {types = types} {h = m} {x = x} {s = s} d) low n room ys h q rest =
      let some = declarator_not_empty (file_part_begins d) in
      let turn = has_turn n (omega (arith, room, some)) in
      let end = punct sign.Semicolon q ∷ rest in
      let part = file_part d low end (behind_semicolon q rest) refl in
      rw turn.1 (declarators_step turn.0 def ys types h (s ++ end) part.t part.named
      ∙ (file_last (λ zs us m rs. file_declarators turn.0 def zs us m rs) def ys types h part.t x m end part.whole refl
      ∙ ap (λ (us : List NameId). Some (read (file_parts (ys ++ x ∷ []) us) (max h m) end)) part.leaves))
  file_read (g.more {def = def} {types = types} {between = between} {behind = after} {h = m} {m = j} {x = x} {xs = xs} {s = s} {r = r} p d
      ds) low n room ys h q rest =
      let long = length-append s (punct sign.Comma p ∷ r) in
      let turn = has_turn n (omega (arith, room, long)) in
      let same = turn.1 in
      let end = punct sign.Semicolon q ∷ rest in
      let part = file_part d (omega arith) (punct sign.Comma p ∷ (r ++ end)) (behind_comma p (r ++ end)) refl in
      let others = file_read ds (omega arith) turn.0 (omega (arith, room, long, same)) (ys ++ x ∷ []) (max h m) q rest in
      rw (same, append_assoc s (punct sign.Comma p ∷ r) end)
      (declarators_step turn.0 def ys types h (s ++ punct sign.Comma p ∷ (r ++ end)) part.t part.named
      ∙ (file_more (λ zs us m rs. file_declarators turn.0 def zs us m rs) def ys types h part.t x m p (r ++ end) part.whole
      ∙ (ap (λ (us : List NameId). file_declarators turn.0 def (ys ++ x ∷ []) us (max h m) (r ++ end)) part.leaves
      ∙ (others ∙ ap₂ (λ (z : List InitDeclarator) (w : ℕ). Some (read (file_parts z after) w end)) (append_assoc ys (x ∷ []) xs) (omega arith)))))

  first_read : {def : Bool} {types between : List NameId} {m : ℕ} {xs : List InitDeclarator} {s : List Token}
      → FileDeclarators def types between m xs s → m ≤ max_height → (q : Pos) (rest : List Token)
      → FirstRead def types between m xs s (punct sign.Semicolon q ∷ rest)
  first_read (g.one {def = def} {types = types} {h = m} {x = x} {s = s} d) low q rest =
      let end = punct sign.Semicolon q ∷ rest in
      let part = file_part d low end (behind_semicolon q rest) refl in
      let high : max 0 m ≡ m = omega arith in
      record {
        t = part.t;
        named = part.named;
        no_body = part.no_body;
        whole = file_last (λ zs us m rs. file_declarators (length rs) def zs us m rs) def [] types 0 part.t x m end part.whole refl
            ∙ ap₂ (λ (us : List NameId) (w : ℕ). Some (read (file_parts (x ∷ []) us) w end)) part.leaves high;
      }
  first_read (g.more {def = def} {types = types} {between = between} {behind = after} {h = m} {m = j} {x = x} {xs = xs} {s = s} {r = r} p d ds) low q rest =
      let end = punct sign.Semicolon q ∷ rest in
      let part = file_part d (omega arith) (punct sign.Comma p ∷ (r ++ end)) (behind_comma p (r ++ end)) refl in
      let long = length-append r end in
      let others = file_read ds (omega arith) (length (r ++ end)) (omega (arith, long)) (x ∷ []) (max 0 m) q rest in
      let high : max (max 0 m) j ≡ max m j = omega arith in
      record {
        t = part.t;
        named = ap (λ (z : List Token). declarator_at types max_height naming.Required z) (append_assoc s (punct sign.Comma p ∷ r) end) ∙ part.named;
        no_body = part.no_body;
        whole = file_more (λ zs us m rs. file_declarators (length rs) def zs us m rs) def [] types 0 part.t x m p (r ++ end) part.whole
            ∙ (ap (λ (us : List NameId). file_declarators (length (r ++ end)) def (x ∷ []) us (max 0 m) (r ++ end)) part.leaves
            ∙ (others ∙ ap (λ (w : ℕ). Some (read (file_parts (x ∷ xs) after) w end)) high));
      }

  -- ---- segments before their bodies

  declaration_spelled : {types behind : List NameId} {h : ℕ} {x : FileDecl} {ts : List Token} → AFileDeclaration types behind h x ts → h ≤ max_height
      → outline_of types ts ≡ Some (outlined (outline.Decl x) behind [])
  unfolding outline_of specified first_declared ended
  declaration_spelled (g.empty types p) low = refl
  declaration_spelled (g.bare {types = types} {h = h} {f = f} {s = s} p d) low =
      let end = punct sign.Semicolon p ∷ [] in
      let b = begins_specs types h f s d in
      rw (no_semicolon _ (specs_no_end b end), (known types max_height).specs h f s end d low (omega arith) refl, specs_first b end) refl
  declaration_spelled (g.full {types = types} {behind = after} {h = h} {m = m} {f = f} {xs = xs} {s = s} {r = r} p d ds) low =
      let end = punct sign.Semicolon p ∷ [] in
      let b = begins_specs types h f s d in
      let c = file_parts_begin ds in
      let one = first_read ds (omega arith) p [] in
      rw (
        no_semicolon _ (specs_no_end b (r ++ end)),
        (known types max_height).specs h f s (r ++ end) d (omega arith) (omega arith) (declarator_ends_specs c end),
        specs_first b (r ++ end),
        no_semicolon _ (declarator_no_end c end),
        one.named,
        one.no_body,
        one.whole,
      ) refl

  pub declaration_outlined : (types : List NameId) (ts : List Token) (behind : List NameId) (x : FileDecl) → IsDeclaration types behind ts x
      → outline_of types ts ≡ Some (outlined (outline.Decl x) behind [])
  declaration_outlined types ts behind x d = declaration_spelled d.spelled d.low

  head_spelled : {types : List NameId} {h : ℕ} {x : Head} {s : List Token} → AFunctionHead types h x s → h ≤ max_height
      → (inside : List Token) → is_braced inside ≡ true
      → outline_of types (s ++ inside) ≡ Some (outlined (outline.Function x) types inside)
  unfolding outline_of specified first_declared function_head
  head_spelled {types = types} (a_function_head {h = h} {m = m} {f = f} {t = t} {s = s} {r = r} w d y) low inside braced =
      let b = begins_specs types h f s d in
      let c = required_begins y in
      let ends = of_braced ends_declarator true (λ p us. refl) inside braced in
      let opens = of_braced (λ z. is_left_brace (front z)) true (λ p us. refl) inside braced in
      rw (
        append_assoc s r inside,
        no_semicolon _ (specs_no_end b (r ++ inside)),
        (known types max_height).specs h f s (r ++ inside) d (omega arith) (omega arith) (declarator_ends_specs c inside),
        specs_first b (r ++ inside),
        no_semicolon _ (declarator_no_end c inside),
        (known types max_height).declarator naming.Required (core.Function w true) m t r inside y (omega arith) ends,
        opens,
        braced,
      ) refl

  pub function_outlined : (types : List NameId) (ts : List Token) (x : Head) (inside : List Token) → IsFunction types ts x inside
      → outline_of types ts ≡ Some (outlined (outline.Function x) types inside)
  function_outlined types ts x inside f = ap (λ (z : List Token). outline_of types z) f.split ∙ head_spelled f.spelled f.low inside f.braced
