-- Declarations in a body: what is read is spelled.
use Rattle.std.proofs.Common.{◌≡◌, ℕ, ◌≤◌, max, Bool, true, false, List, [], ◌∷◌, ◌++◌, length, Some, None, refl, sym, ap, subst, ◌∙◌, arith, ⊎_elim}
use Rattle.std.specs.Prelude.{not}
use Rattle.std.proofs.lemmas.Bool.{and_parts}
use Rattle.sc_base.specs.declared.pos.Pos.{Pos}
use Rattle.sc_base.specs.declared.pos.NameId.{NameId}
use Rattle.sc_tree.specs.declared.token.Token.{Token}
use Rattle.sc_tree.specs.declared.token.Kind.{Kind}
use Rattle.sc_tree.specs.declared.token.Punct.TheVariants as sign
use Rattle.sc_tree.specs.declared.decl.Init.{Init}
use Rattle.sc_tree.specs.declared.decl.Decl.{Decl}
use Rattle.sc_tree.specs.declared.decl.InitDeclarator.{InitDeclarator}
use Rattle.sc_tree.specs.declared.grammar.Naming.TheVariants as naming
use Rattle.sc_tree.specs.declared.grammar.BodyForm.{BodyForm}
use Rattle.sc_tree.specs.declared.grammar.BodyForm.TheVariants as form
use Rattle.sc_tree.specs.declared.grammar.Specified.{Specified}
use Rattle.sc_tree.specs.Tokens.{punct, first_pos}
use Rattle.sc_tree.specs.Statements.{Initialises, AnInitDeclarator, uninitialised, initialised, InitDeclarators, one_declared}
use Rattle.sc_tree.specs.Statements.{more_declared, IsPlain, declaration, ADeclaration, without_declarators, with_declarators}
use Rattle.sc_parse_expr.specs.declared.found.Declared.{Declared}
use Rattle.sc_parse_front.specs.Front.{front, behind, is_equals, is_semicolon}
use Rattle.sc_parse_expr.specs.Read.{Read, read, taking, commas}
use Rattle.sc_parse_expr.specs.Reading.Parse.{specs_at, declarator_at}
use Rattle.sc_parse_expr.specs.Reading.Grammar.{with_item, never}
use Rattle.sc_parse_expr.specs.Laws as lower
use Rattle.sc_parse_expr.proofs.Tools.{bind_some, if_is, test_is, given, Splits, glue, front_is, equals, semicolon, taken}
use Rattle.sc_parse_expr.proofs.SoundLists.{Item, Chained, last, more}
use Rattle.sc_parse_expr.proofs.Begins.{Begins, first_stays, longer, specs_begin}
use Rattle.sc_parse_unit.specs.Reading.{initialiser, declared_as, with_init, init_declarator, is_plain_form, is_plain, declarators}
use Rattle.sc_parse_unit.specs.Reading.{declared_plain, body_declaration}
use Rattle.sc_parse_unit.specs.Laws.{TakesInit, TakesDecl}
use Rattle.sc_parse_unit.proofs.Rows.{chain_low, only_items_took}

-- the place where the tokens begin is that of what was cut off
pub cut_begins : {test : Kind → Bool} {ts s rest : List Token} → Splits ts s rest → Begins test s → first_pos s ≡ first_pos ts
cut_begins {rest = rest} split b = sym (ap first_pos split.is ∙ first_stays b rest)

-- What holds of a declarator without an initialiser, and of one with what was read behind the `=`, holds of
-- what was read behind a declarator.
pub with_init_is : (types : List NameId) (limit : ℕ) → ((ts : List Token) (i : Read Init) → initialiser types limit ts ≡ Some i
    → TakesInit types limit ts i) → (P : Read InitDeclarator → Type 0) (t : Read Declared) (x : Read InitDeclarator)
    → with_init types limit t ≡ Some x
    → P (read (declared_as t.it.declarator None) t.height t.rest)
    → ((i : Read Init) (p : Pos) (s : List Token) → Splits t.rest (punct sign.Assign p ∷ s) i.rest → Initialises types i.height i.it s → i.height ≤ limit
    → P (read (declared_as t.it.declarator (Some i.it)) (max t.height i.height) i.rest))
    → P x
unfolding with_init
with_init_is types limit inits P t x is without set = ⊎_elim
    (λ a. let i = bind_some (initialiser types limit (behind t.rest)) _ x a.1 in
    let w = inits (behind t.rest) i.value i.is in
    let split = glue (front_is t.rest sign.Assign (equals (front t.rest) a.0)) (record { is = w.split }) in
    given P (read (declared_as t.it.declarator (Some i.value.it)) (max t.height i.value.height) i.value.rest) x i.gives
    (set i.value (first_pos t.rest) w.span split w.spelled w.low))
    (λ a. given P (read (declared_as t.it.declarator None) t.height t.rest) x a.1 without)
    (if_is (is_equals (front t.rest)) _ _ (Some x) is)

-- ---- specifiers without `typedef` and without a body

plain_typedef : (b : Bool) → not b ≡ true → b ≡ false
plain_typedef true e = absurd cc
plain_typedef false e = refl

plain_form : (f : BodyForm) → is_plain_form f ≡ true → f ≡ form.NoBody
plain_form form.NoBody e = refl
plain_form _ e = absurd cc

plain_is : (f : Specified) → is_plain f ≡ true → IsPlain f
plain_is f e = let t = and_parts (not f.typedef) (is_plain_form f.form) e in
    record { no_typedef = plain_typedef f.typedef t.0; no_body = plain_form f.form t.1 }

-- ---- declarations

module _ (types : List NameId) (limit : ℕ) (exprs : lower.IsSound types limit)
    (inits : (ts : List Token) (i : Read Init) → initialiser types limit ts ≡ Some i → TakesInit types limit ts i) where
  abbrev PartFits : InitDeclarator → ℕ → List Token → Type 0
  PartFits x h s = AnInitDeclarator types h x s × (h ≤ limit)

  part_took : (ts : List Token) (x : Read InitDeclarator) → init_declarator types limit ts ≡ Some x → Item PartFits ts x
  unfolding init_declarator
  part_took ts x is =
      let t = bind_some (declarator_at types limit naming.Required ts) _ x is in
      let w = exprs.declarator naming.Required ts t.value t.is in
      with_init_is types limit inits (λ (y : Read InitDeclarator). Item PartFits ts y) t.value x t.gives
      (record { span = w.span; split = record { is = w.split }; good = (uninitialised w.spelled, w.low) })
      (λ i p s split spelled low. let a = w.low in record {
        span = _;
        split = glue (record { is = w.split }) split;
        good =
            (initialised p w.spelled spelled, omega arith);
      })

  parts_of : (xs : List InitDeclarator) (h : ℕ) (s : List Token) → Chained PartFits xs h s → InitDeclarators types h xs s
  parts_of _ _ _ (last g) = one_declared g.0
  parts_of _ _ _ (more {xs = xs} {m = m} {r = r} p g c) = more_declared p g.0 (parts_of xs m r c)

  moved : (f : Specified) (xs : List InitDeclarator) (h : ℕ) (s : List Token) {p q : Pos} → p ≡ q
      → ADeclaration types h (declaration p f xs) s → ADeclaration types h (declaration q f xs) s
  moved f xs h s e d = subst (λ (p : Pos). ADeclaration types h (declaration p f xs) s) e d

  declarators_took : (ts : List Token) (f : Read Specified) → lower.TakesSpecs types limit ts f → IsPlain f.it → (x : Read Decl)
      → declarators types limit (first_pos ts) f ≡ Some x → TakesDecl types limit ts x
  unfolding declarators
  declarators_took ts f w plain x is =
      let xs = bind_some (commas (init_declarator types limit) with_item never (length f.rest) [] 0 f.rest) _ x is in
      let c = bind_some (taking is_semicolon xs.value.rest) _ x xs.gives in
      let t = only_items_took (init_declarator types limit) PartFits part_took (length f.rest) f.rest xs.value xs.is in
      let before : Splits ts w.span f.rest = record { is = w.split } in
      let close = taken is_semicolon sign.Semicolon semicolon xs.value.rest c.value c.is in
      let spelled = with_declarators (first_pos xs.value.rest) w.spelled plain (parts_of xs.value.it.items xs.value.height t.span t.chained) in
      let a = w.low in
      let b = chain_low limit (λ y h s g. g.1) xs.value.it.items xs.value.height t.span t.chained in
      given (λ (y : Read Decl). TakesDecl types limit ts y) (read (declaration (first_pos ts) f.it xs.value.it.items)
      (max f.height xs.value.height) c.value) x c.gives
      (record {
        span = _;
        split = (glue before (glue t.split close)).is;
        spelled =
            moved f.it xs.value.it.items _ _ (cut_begins before (specs_begin types w.spelled)) spelled;
        low = omega arith;
      })

  plain_took : (ts : List Token) (f : Read Specified) → lower.TakesSpecs types limit ts f → IsPlain f.it → (x : Read Decl)
      → declared_plain types limit (first_pos ts) f ≡ Some x → TakesDecl types limit ts x
  unfolding declared_plain
  plain_took ts f w plain x is =
      let before : Splits ts w.span f.rest = record { is = w.split } in
      ⊎_elim
      (λ t. given (λ (y : Read Decl). TakesDecl types limit ts y) (read (declaration (first_pos ts) f.it []) f.height (behind f.rest)) x t.1
      (record {
        span = _;
        split = (glue before (front_is f.rest sign.Semicolon (semicolon (front f.rest) t.0))).is;
        spelled = moved f.it [] _ _ (cut_begins before (specs_begin types w.spelled)) (without_declarators (first_pos f.rest) w.spelled plain);
        low = w.low;
      }))
      (λ t. declarators_took ts f w plain x t.1)
      (if_is (is_semicolon (front f.rest)) _ _ (Some x) is)

  pub declaration_took : (ts : List Token) (x : Read Decl) → body_declaration types limit ts ≡ Some x → TakesDecl types limit ts x
  unfolding body_declaration
  declaration_took ts x is =
      let f = bind_some (specs_at types limit ts) _ x is in
      let t = test_is (is_plain f.value.it) _ x f.gives in
      plain_took ts f.value (exprs.specs ts f.value f.is) (plain_is f.value.it t.0) x t.1

-- what begins as specifiers do
pub declaration_begins : (types : List NameId) (h : ℕ) (t : Decl) (s : List Token) → ADeclaration types h t s → (r : List Token)
    → first_pos (s ++ r) ≡ first_pos s
declaration_begins types _ _ _ (without_declarators p d plain) r = first_stays (longer (specs_begin types d) _) r
declaration_begins types _ _ _ (with_declarators p d plain xs) r = first_stays (longer (specs_begin types d) _) r
