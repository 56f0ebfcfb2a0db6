-- What is spelled is read: declarations in a body.
use Rattle.std.proofs.Common.{◌≡◌, ℕ, ◌≤◌, max, true, false, List, [], ◌∷◌, ◌++◌, length, Some, None, refl, sym, ap, ap₂, subst, ◌∙◌}
use Rattle.std.proofs.Common.{append_assoc, arith, length-append}
use Rattle.sc_base.specs.declared.pos.Pos.{Pos}
use Rattle.sc_base.specs.declared.pos.NameId.{NameId}
use Rattle.sc_tree.specs.declared.token.Token.{Token}
use Rattle.sc_tree.specs.declared.token.Punct.TheVariants as sign
use Rattle.sc_tree.specs.declared.expr.Declarator.{Declarator}
use Rattle.sc_tree.specs.declared.decl.Init.{Init}
use Rattle.sc_tree.specs.declared.decl.Decl.{Decl}
use Rattle.sc_tree.specs.declared.decl.InitDeclarator.{InitDeclarator}
use Rattle.sc_tree.specs.declared.grammar.Level.TheVariants.{Assignment}
use Rattle.sc_tree.specs.declared.grammar.Naming.TheVariants as naming
use Rattle.sc_tree.specs.declared.grammar.Core.{Core}
use Rattle.sc_tree.specs.declared.grammar.Specified.{Specified}
use Rattle.sc_tree.specs.Tokens.{punct, first_pos}
use Rattle.sc_tree.specs.Grammar.{Declares}
use Rattle.sc_tree.specs.Statements.{AnInitDeclarator, uninitialised, initialised, InitDeclarators, one_declared, more_declared, IsPlain}
use Rattle.sc_tree.specs.Statements.{ADeclaration, without_declarators, with_declarators}
use Rattle.sc_parse_front.specs.Front.{front, is_equals}
use Rattle.sc_parse_expr.specs.Read.{read, commas}
use Rattle.sc_parse_expr.specs.Reading.Found.{declared}
use Rattle.sc_parse_expr.specs.Reading.Grammar.{with_item, never}
use Rattle.sc_parse_expr.specs.Laws.{ends_expr, ends_specs, ends_declarator, BeginsSpecs, BeginsDeclarator}
use Rattle.sc_parse_expr.specs.Laws as below
use Rattle.sc_parse_expr.proofs.Begins.{begins_specs, begins_declarator}
use Rattle.sc_parse_expr.proofs.Inner.{has_turn, commas_last, commas_more}
use Rattle.sc_parse_unit.specs.Reading.{initialiser, declared_as, with_init, init_declarator, is_plain, declarators, declared_plain, body_declaration, label_at}
use Rattle.sc_parse_unit.proofs.BeginsStmt.{declarator_no_end, declarator_no_piece, no_left_brace, no_semicolon, no_colon, specs_no_label}
use Rattle.sc_parse_unit.proofs.CompleteInit.{initialiser_read}

-- ---- how they begin

pub longer_declarator : {s : List Token} → BeginsDeclarator s → (r : List Token) → BeginsDeclarator (s ++ r)
longer_declarator b r = record { first = b.first; others = b.others ++ r; whole = ap (λ (z : List Token). z ++ r) b.whole; opens = b.opens }

pub longer_specs : {types : List NameId} {s : List Token} → BeginsSpecs types s → (r : List Token) → BeginsSpecs types (s ++ r)
longer_specs b r = record { first = b.first; others = b.others ++ r; whole = ap (λ (z : List Token). z ++ r) b.whole; opens = b.opens }

pub specs_first : {types : List NameId} {s : List Token} → BeginsSpecs types s → (rest : List Token) → first_pos (s ++ rest) ≡ first_pos s
specs_first b rest = ap (λ (z : List Token). first_pos (z ++ rest)) b.whole ∙ sym (ap first_pos b.whole)

pub declarator_not_empty : {s : List Token} → BeginsDeclarator s → 1 ≤ length s
declarator_not_empty b = subst (λ (z : List Token). 1 ≤ length z) (sym b.whole) (omega arith)

pub required_begins : {types : List NameId} {c : Core} {h : ℕ} {t : Declarator} {s : List Token} → Declares types naming.Required c h t s → BeginsDeclarator s
required_begins {types = types} {c = c} {h = h} {t = t} {s = s} d = begins_declarator types naming.Required c h t s refl d

part_begins : {types : List NameId} {h : ℕ} {x : InitDeclarator} {s : List Token} → AnInitDeclarator types h x s → BeginsDeclarator s
part_begins (uninitialised d) = required_begins d
part_begins (initialised p d i) = longer_declarator (required_begins d) _

parts_begin : {types : List NameId} {h : ℕ} {xs : List InitDeclarator} {s : List Token} → InitDeclarators types h xs s → BeginsDeclarator s
parts_begin (one_declared d) = part_begins d
parts_begin (more_declared p d more) = longer_declarator (part_begins d) _

pub decl_begins : {types : List NameId} {h : ℕ} {t : Decl} {s : List Token} → ADeclaration types h t s → BeginsSpecs types s
decl_begins {types = types} (without_declarators p d plain) = longer_specs (begins_specs types _ _ _ d) _
decl_begins {types = types} (with_declarators p d plain xs) = longer_specs (begins_specs types _ _ _ d) _

-- a declarator does not go on with the specifiers before it
pub declarator_ends_specs : {s : List Token} → BeginsDeclarator s → (rest : List Token) → ends_specs (s ++ rest) ≡ true
declarator_ends_specs b rest = rw (declarator_no_piece b rest, no_left_brace _ (declarator_no_end b rest)) refl

pub decl_no_label : {types : List NameId} {h : ℕ} {t : Decl} {s : List Token} → ADeclaration types h t s → (rest : List Token) → label_at (s ++ rest) ≡ None
decl_no_label {types = types} (without_declarators {s = s} p d plain) rest =
    rw (append_assoc s (punct sign.Semicolon p ∷ []) rest) (specs_no_label d (begins_specs types _ _ _ d) (punct sign.Semicolon p ∷ rest) refl)
decl_no_label {types = types} (with_declarators {s = s} {r = r} p d plain xs) rest =
    rw (append_assoc s (r ++ punct sign.Semicolon p ∷ []) rest, append_assoc r (punct sign.Semicolon p ∷ []) rest)
    (specs_no_label d (begins_specs types _ _ _ d) (r ++ punct sign.Semicolon p ∷ rest)
    (no_colon _ (declarator_no_end (parts_begin xs) (punct sign.Semicolon p ∷ rest))))

-- ---- declarators with their initialisers

-- what may stand behind one
pub record IsBehind (rest : List Token) : Type 0 where
  pub declarator : ends_declarator rest ≡ true
  pub init : ends_expr Assignment rest ≡ true
  pub plain : is_equals (front rest) ≡ false

pub behind_comma : (p : Pos) (rest : List Token) → IsBehind (punct sign.Comma p ∷ rest)
behind_comma p rest = record { declarator = refl; init = refl; plain = refl }

pub behind_semicolon : (p : Pos) (rest : List Token) → IsBehind (punct sign.Semicolon p ∷ rest)
behind_semicolon p rest = record { declarator = refl; init = refl; plain = refl }

pub with_no_init : (types : List NameId) (limit : ℕ) (t : Declarator) (c : Core) (h : ℕ) (rest : List Token) → is_equals (front rest) ≡ false
    → with_init types limit (read (declared t c) h rest) ≡ Some (read (declared_as t None) h rest)
unfolding with_init
with_no_init types limit t c h rest e = rw e refl

pub with_some_init : (types : List NameId) (limit : ℕ) (t : Declarator) (c : Core) (h m : ℕ) (i : Init) (p : Pos) (r rest : List Token)
    → initialiser types limit (r ++ rest) ≡ Some (read i m rest)
    → with_init types limit (read (declared t c) h (punct sign.Assign p ∷ (r ++ rest))) ≡ Some (read (declared_as t (Some i)) (max h m) rest)
unfolding with_init
with_some_init types limit t c h m i p r rest e = rw e refl

module _ (types : List NameId) (known : (limit : ℕ) → below.IsComplete types limit) (limit : ℕ) where
  part_read : {h : ℕ} {x : InitDeclarator} {s : List Token} → AnInitDeclarator types h x s → h ≤ limit → (rest : List Token) → IsBehind rest
      → init_declarator types limit (s ++ rest) ≡ Some (read x h rest)
  unfolding init_declarator
  part_read (uninitialised {c = c} {h = h} {t = t} {s = s} d) low rest ends =
      rw ((known limit).declarator naming.Required c h t s rest d low ends.declarator) (with_no_init types limit t c h rest ends.plain)
  part_read (initialised {c = c} {h = h} {m = m} {t = t} {i = i} {s = s} {r = r} p d x) low rest ends =
      rw (
        append_assoc s (punct sign.Assign p ∷ r) rest,
        (known limit).declarator naming.Required c h t s
            (punct sign.Assign p ∷ (r ++ rest)) d (omega arith) refl,
      )
      (with_some_init types limit t c h m i p r rest (initialiser_read types known limit m i r rest x (omega arith) ends.init))

  parts_read : {m : ℕ} {xs : List InitDeclarator} {s : List Token} → InitDeclarators types m xs s → m ≤ limit → (n : ℕ) → length s ≤ n
      → (ys : List InitDeclarator) (h : ℕ) (q : Pos) (rest : List Token)
      → commas (init_declarator types limit) with_item never n ys h (s ++ punct sign.Semicolon q ∷ rest)
      ≡ Some (read (record { items = ys ++ xs; comma = false }) (max h m) (punct sign.Semicolon q ∷ rest))
  parts_read (one_declared {h = m} {x = x} {s = s} d) low n room ys h q rest =
      let some = declarator_not_empty (part_begins d) in
      let turn = has_turn n (omega (arith, room, some)) in
      let end = punct sign.Semicolon q ∷ rest in
      rw turn.1 (commas_last (init_declarator types limit) with_item never turn.0 ys h (s ++ end) x m end (part_read d low end (behind_semicolon q rest)) refl)
  parts_read (more_declared {h = m} {m = j} {x = x} {xs = xs} {s = s} {r = r} p d more) low n room ys h q rest =
      let long = length-append s (punct sign.Comma p ∷ r) in
      let turn = has_turn n (omega (arith, room, long)) in
      let same = turn.1 in
      let end = punct sign.Semicolon q ∷ rest in
      let step = commas_more (init_declarator types limit) with_item never turn.0 ys h (s ++ punct sign.Comma p ∷ (r ++ end)) x m p (r ++ end)
      (part_read d (omega arith) (punct sign.Comma p ∷ (r ++ end)) (behind_comma p (r ++ end))) refl in
      let others = parts_read more (omega arith) turn.0 (omega (arith, room, long, same)) (ys ++ x ∷ []) (max h m) q rest in
      rw (same, append_assoc s (punct sign.Comma p ∷ r) end)
      (step ∙ (others ∙ ap₂ (λ (z : List InitDeclarator) (w : ℕ). Some (read (record { items = z; comma = false }) w end))
      (append_assoc ys (x ∷ []) xs) (omega arith)))

  -- ---- declarations

  plain_is : (f : Specified) → IsPlain f → is_plain f ≡ true
  plain_is f p = rw (p.no_typedef, p.no_body) refl

  pub declaration_read : (h : ℕ) (t : Decl) (s rest : List Token) → ADeclaration types h t s → h ≤ limit → 1 ≤ limit
      → body_declaration types limit (s ++ rest) ≡ Some (read t h rest)
  unfolding body_declaration declared_plain declarators
  declaration_read h t x rest (without_declarators {f = f} {s = s} p d plain) low high =
      let end = punct sign.Semicolon p ∷ rest in
      let one = (known limit).specs h f s end d low high refl in
      rw (append_assoc s (punct sign.Semicolon p ∷ []) rest, one, plain_is f plain, specs_first (begins_specs types h f s d) end) refl
  declaration_read h t x rest (with_declarators {h = j} {m = m} {f = f} {xs = xs} {s = s} {r = r} p d plain ds) low high =
      let end = punct sign.Semicolon p ∷ rest in
      let one = (known limit).specs j f s (r ++ end) d (omega arith) high (declarator_ends_specs (parts_begin ds) end) in
      let long = length-append r end in
      let two = parts_read ds (omega arith) (length (r ++ end)) (omega (arith, long)) [] 0 p rest in
      let tall : max 0 m ≡ m = omega arith in
      rw (
        append_assoc s (r ++ punct sign.Semicolon p ∷ []) rest,
        append_assoc r (punct sign.Semicolon p ∷ []) rest,
        one,
        plain_is f plain,
        specs_first (begins_specs types j f s d) (r ++ end),
        no_semicolon _ (declarator_no_end (parts_begin ds) end),
        two,
        tall,
      ) refl
