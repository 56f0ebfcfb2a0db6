-- Segments before their bodies: what is read is spelled.
use Rattle.std.proofs.Common.{◌≡◌, ℕ, zero, suc, ◌≤◌, max, Bool, true, List, [], ◌∷◌, ◌++◌, length, Some, None, refl, sym, subst, ◌∙◌}
use Rattle.std.proofs.Common.{append_assoc, arith, ⊎_elim}
use Rattle.std.specs.Prelude.{if◌then◌else◌, ◌&&◌}
use Rattle.std.proofs.lemmas.Bool.{and_parts}
use Rattle.std.proofs.lemmas.List.{append-nil}
use Rattle.sc_base.specs.declared.pos.Pos.{Pos}
use Rattle.sc_base.specs.declared.pos.NameId.{NameId}
use Rattle.sc_tree.specs.declared.token.Token.{Token}
use Rattle.sc_tree.specs.declared.token.Punct.TheVariants as sign
use Rattle.sc_tree.specs.declared.expr.Head.{roll-Head}
use Rattle.sc_tree.specs.declared.decl.InitDeclarator.{InitDeclarator}
use Rattle.sc_tree.specs.declared.grammar.Naming.TheVariants as naming
use Rattle.sc_tree.specs.declared.grammar.Core.{Core}
use Rattle.sc_tree.specs.declared.grammar.Core.TheVariants as core
use Rattle.sc_tree.specs.declared.grammar.Specified.{Specified}
use Rattle.sc_tree.specs.Tokens.{punct, first_pos}
use Rattle.sc_tree.specs.Trees.{max_height}
use Rattle.sc_tree.specs.Grammar.{Declares}
use Rattle.sc_tree.specs.Statements.{declaration}
use Rattle.sc_tree.specs.Units as units
use Rattle.sc_tree.specs.declared.unit.FileDecl.TheVariants as file
use Rattle.sc_tree.specs.Units.{with_declared, AFileDeclarator, FileDeclarators, AFileDeclaration, AFunctionHead, a_function_head, is_empty, is_braced}
use Rattle.sc_parse_expr.specs.declared.found.Declared.{Declared}
use Rattle.sc_parse_front.specs.Front.{front, behind, is_comma, is_semicolon, is_left_brace}
use Rattle.sc_parse_expr.specs.Read.{Read, read, Parse, taking}
use Rattle.sc_parse_expr.specs.Reading.Parse.{specs_at, declarator_at}
use Rattle.sc_parse_expr.specs.Reading.Grammar.{with_item}
use Rattle.sc_parse_expr.specs.Laws as lower
use Rattle.sc_parse_expr.proofs.Tools.{bind_some, if_is, test_is, given, Splits, glue, front_is, comma, semicolon, taken}
use Rattle.sc_parse_expr.proofs.SoundLists.{Item}
use Rattle.sc_parse_expr.proofs.Begins.{specs_begin}
use Rattle.sc_parse_unit.specs.declared.found.Outline.TheVariants as outline
use Rattle.sc_parse_unit.specs.Reading.{with_init, FileParts, file_parts, file_rest, file_declarator, file_declarators, Outlined, outlined}
use Rattle.sc_parse_unit.specs.Reading.{ended, is_function, function_head, first_declared, specified, is_lone_semicolon, outline_of}
use Rattle.sc_parse_unit.specs.Laws.{Outlines}
use Rattle.sc_parse_unit.proofs.SoundInit.{init_took}
use Rattle.sc_parse_unit.proofs.SoundDecl.{cut_begins, with_init_is}

-- where nothing is left, all was taken
all_taken : (ts s rest : List Token) → Splits ts s rest → is_empty rest ≡ true → s ≡ ts
all_taken ts s [] split e = sym (split.is ∙ append-nil s)
all_taken ts s (t ∷ rest) split e = absurd cc

-- the declarator of a function with a name for each parameter
record OfFunction (c : Core) : Type 0 where
  name : NameId
  is : c ≡ core.Function name true

function_is : (c : Core) → is_function c ≡ true → OfFunction c
function_is (core.Function w true) e = record { name = w; is = refl }
function_is _ e = absurd cc

-- What the declarators took that stand behind others of that height, and the typedef names behind them.
record TookParts (def : Bool) (types : List NameId) (xs : List InitDeclarator) (h : ℕ) (ts : List Token) (x : Read FileParts) : Type 0 where
  ys : List InitDeclarator
  height : ℕ
  span : List Token
  split : Splits ts span x.rest
  spelled : FileDeclarators def types x.it.types height ys span
  tall : x.height ≡ max h height
  whole : x.it.parts ≡ xs ++ ys
  low : height ≤ max_height

-- A declarator with its initialiser, where these are the typedef names before it and behind it.
abbrev PartFits : Bool → List NameId → List NameId → InitDeclarator → ℕ → List Token → Type 0
PartFits def types between x h s = AFileDeclarator def types between h x s × (h ≤ max_height)

rest_took : (go : List InitDeclarator → List NameId → ℕ → Parse FileParts) (def : Bool)
    → ((xs : List InitDeclarator) (us : List NameId) (m : ℕ) (rs : List Token) (y : Read FileParts) → go xs us m rs ≡ Some y → TookParts def us xs m rs y)
    → (types between : List NameId) (xs : List InitDeclarator) (h : ℕ) (ts : List Token) (x : Read InitDeclarator) → Item (PartFits def types between) ts x
    → (y : Read FileParts) → file_rest go xs between h x ≡ Some y → TookParts def types xs h ts y
unfolding file_rest
rest_took go def ih types between xs h ts x a y is = ⊎_elim
    (λ t. let k = ih (with_item xs x.it) between (max h x.height) (behind x.rest) y t.1 in
    let e = k.tall in
    let m = a.good.1 in
    let n = k.low in
    record {
      ys = x.it ∷ k.ys;
      height = max x.height k.height;
      span = _;
      split = glue a.split (glue (front_is x.rest sign.Comma (comma (front x.rest) t.0)) k.split);
      spelled = units.more (first_pos x.rest) a.good.0 k.spelled;
      tall = omega arith;
      whole = k.whole ∙ append_assoc xs (x.it ∷ []) k.ys;
      low = omega arith;
    })
    (λ t. given (λ (z : Read FileParts). TookParts def types xs h ts z) (read (file_parts (with_item xs x.it) between) (max h x.height) x.rest) y t.1
    (record { ys = x.it ∷ []; height = x.height; span = a.span; split = a.split; spelled = units.one a.good.0; tall = refl; whole = refl; low = a.good.1 }))
    (if_is (is_comma (front x.rest)) _ _ (Some y) is)

module _ (exprs : (types : List NameId) (limit : ℕ) → lower.IsSound types limit) where
  -- ---- declarators at file scope

  declarator_took : (go : List InitDeclarator → List NameId → ℕ → Parse FileParts) (def : Bool)
      → ((xs : List InitDeclarator) (us : List NameId) (m : ℕ) (rs : List Token) (y : Read FileParts) → go xs us m rs ≡ Some y → TookParts def us xs m rs y)
      → (types : List NameId) (xs : List InitDeclarator) (h : ℕ) (ts : List Token) (t : Read Declared)
      → lower.TakesDeclarator types max_height naming.Required ts t
      → (y : Read FileParts) → file_declarator go def xs types h t ≡ Some y → TookParts def types xs h ts y
  unfolding file_declarator
  declarator_took go def ih types xs h ts t w y is =
      let between = with_declared def types t.it.core in
      let x = bind_some (with_init between max_height t) (file_rest go xs between h) y is in
      let part = with_init_is between max_height (λ us i e. init_took between (exprs between) max_height us i e)
      (λ (z : Read InitDeclarator). Item (PartFits def types between) ts z) t x.value x.is
      (record { span = w.span; split = record { is = w.split }; good = (units.plain def types w.spelled, w.low) })
      (λ i p s split spelled low. let a = w.low in record {
        span = _;
        split = glue (record { is = w.split }) split;
        good =
            (units.set def types p w.spelled spelled, omega arith);
      }) in
      rest_took go def ih types between xs h ts x.value part y x.gives

  declarators_took : (n : ℕ) (def : Bool) (xs : List InitDeclarator) (types : List NameId) (h : ℕ) (ts : List Token) (y : Read FileParts)
      → file_declarators n def xs types h ts ≡ Some y → TookParts def types xs h ts y
  unfolding file_declarators
  declarators_took zero def xs types h ts y is = absurd cc
  declarators_took (suc n) def xs types h ts y is =
      let t = bind_some (declarator_at types max_height naming.Required ts) _ y is in
      declarator_took (λ ys us m rs. file_declarators n def ys us m rs) def (λ ys us m rs z e. declarators_took n def ys us m rs z e) types xs h ts t.value
      ((exprs types max_height).declarator naming.Required ts t.value t.is) y t.gives

  -- ---- what a segment is

  -- the tokens spell what they were taken for
  abbrev Good : List NameId → List Token → Outlined → Type 0
  Good types ts o = Outlines types ts o.it o.types o.inside

  ended_took : (types : List NameId) (ts : List Token) (f : Read Specified) → lower.TakesSpecs types max_height ts f → (xs : Read FileParts)
      → TookParts f.it.typedef types [] 0 f.rest xs
      → (o : Outlined) → ended (first_pos ts) f xs ≡ Some o → Good types ts o
  unfolding ended
  ended_took types ts f w xs t o is =
      let c = bind_some (taking is_semicolon xs.rest) _ o is in
      let e = test_is (is_empty c.value) _ o c.gives in
      let before : Splits ts w.span f.rest = record { is = w.split } in
      let close = taken is_semicolon sign.Semicolon semicolon xs.rest c.value c.is in
      let all = all_taken ts _ c.value (glue before (glue t.split close)) e.0 in
      let parts = subst (λ ys. FileDeclarators f.it.typedef types xs.it.types t.height ys t.span) (sym t.whole) t.spelled in
      let spelled = subst (λ (p : Pos). AFileDeclaration types xs.it.types (max f.height t.height)
      (file.Full (declaration p f.it xs.it.parts)) (w.span ++ (t.span ++ punct sign.Semicolon (first_pos xs.rest) ∷ [])))
      (cut_begins before (specs_begin types w.spelled))
      (units.full (first_pos xs.rest) w.spelled parts) in
      let a = w.low in
      let b = t.low in
      given (Good types ts) (outlined (outline.Decl (file.Full (declaration (first_pos ts) f.it xs.it.parts))) xs.it.types []) o e.1
      (record {
        height = max f.height t.height;
        low = omega arith;
        spelled =
            subst (λ (us : List Token). AFileDeclaration types xs.it.types (max f.height t.height)
            (file.Full (declaration (first_pos ts) f.it xs.it.parts)) us) all spelled;
      })

  head_took : (types : List NameId) (ts : List Token) (f : Read Specified) → lower.TakesSpecs types max_height ts f → (t : Read Declared)
      → lower.TakesDeclarator types max_height naming.Required f.rest t
      → (o : Outlined) → function_head types (first_pos ts) f t ≡ Some o → Good types ts o
  unfolding function_head
  head_took types ts f w t v o is =
      let e = test_is (is_function t.it.core && is_braced t.rest) _ o is in
      let b = and_parts (is_function t.it.core) (is_braced t.rest) e.0 in
      let c = function_is t.it.core b.0 in
      let before : Splits ts w.span f.rest = record { is = w.split } in
      let declares = subst (λ (k : Core). Declares types naming.Required k t.height t.it.declarator v.span) c.is v.spelled in
      let spelled = subst (λ (p : Pos). AFunctionHead types (max f.height t.height)
      (roll-Head (record { pos = p; specs = f.it.specs; declarator = t.it.declarator })) (w.span ++ v.span))
      (cut_begins before (specs_begin types w.spelled))
      (a_function_head c.name w.spelled declares) in
      let m = w.low in
      let n = v.low in
      given (Good types ts) (outlined (outline.Function (roll-Head
      (record { pos = first_pos ts; specs = f.it.specs; declarator = t.it.declarator }))) types t.rest) o e.1 (
        record {
          before = w.span ++ v.span;
          split = (glue before (record { is = v.split })).is;
          height = max f.height t.height;
          low =
              omega arith;
          spelled = spelled;
          braced = b.1;
        },
        refl,
      )

  first_took : (types : List NameId) (ts : List Token) (f : Read Specified) → lower.TakesSpecs types max_height ts f → (t : Read Declared)
      → lower.TakesDeclarator types max_height naming.Required f.rest t
      → (o : Outlined) → first_declared types (first_pos ts) f t ≡ Some o → Good types ts o
  unfolding first_declared
  first_took types ts f w t v o is = ⊎_elim
      (λ a. head_took types ts f w t v o a.1)
      (λ a. let go : List InitDeclarator → List NameId → ℕ → Parse FileParts = λ xs us m rs. file_declarators (length rs) f.it.typedef xs us m rs in
      let xs = bind_some (file_declarator go f.it.typedef [] types 0 t) (ended (first_pos ts) f) o a.1 in
      ended_took types ts f w xs.value (declarator_took go f.it.typedef
      (λ ys us m rs y e. declarators_took (length rs) f.it.typedef ys us m rs y e) types [] 0 f.rest t v xs.value xs.is) o xs.gives)
      (if_is (is_left_brace (front t.rest)) _ _ (Some o) is)

  bare_took : (types : List NameId) (ts : List Token) (f : Read Specified) → lower.TakesSpecs types max_height ts f → is_semicolon (front f.rest) ≡ true
      → (o : Outlined) → (if is_empty (behind f.rest) then Some
      (outlined (outline.Decl (file.Full (declaration (first_pos ts) f.it []))) types []) else None) ≡ Some o → Good types ts o
  bare_took types ts f w ends o is =
      let e = test_is (is_empty (behind f.rest)) _ o is in
      let before : Splits ts w.span f.rest = record { is = w.split } in
      let all = all_taken ts _ (behind f.rest) (glue before (front_is f.rest sign.Semicolon (semicolon (front f.rest) ends))) e.0 in
      let spelled = subst (λ (p : Pos). AFileDeclaration types types f.height (file.Full (declaration p f.it []))
      (w.span ++ punct sign.Semicolon (first_pos f.rest) ∷ [])) (cut_begins before (specs_begin types w.spelled))
      (units.bare (first_pos f.rest) w.spelled) in
      given (Good types ts) (outlined (outline.Decl (file.Full (declaration (first_pos ts) f.it []))) types []) o e.1
      (record {
        height = f.height;
        low = w.low;
        spelled = subst
            (λ (us : List Token). AFileDeclaration types types f.height (file.Full (declaration (first_pos ts) f.it [])) us) all spelled;
      })

  specified_took : (types : List NameId) (ts : List Token) (f : Read Specified) → lower.TakesSpecs types max_height ts f → (o : Outlined)
      → specified types (first_pos ts) f ≡ Some o → Good types ts o
  unfolding specified
  specified_took types ts f w o is = ⊎_elim
      (λ a. bare_took types ts f w a.0 o a.1)
      (λ a. let t = bind_some (declarator_at types max_height naming.Required f.rest) _ o a.1 in
      first_took types ts f w t.value ((exprs types max_height).declarator naming.Required f.rest t.value t.is) o t.gives)
      (if_is (is_semicolon (front f.rest)) _ _ (Some o) is)

  lone_took : (types : List NameId) (ts : List Token) → is_lone_semicolon ts ≡ true
      → Good types ts (outlined (outline.Decl (file.Empty (first_pos ts))) types [])
  lone_took types ts lone =
      let b = and_parts (is_semicolon (front ts)) (is_empty (behind ts)) lone in
      let all = all_taken ts _ (behind ts) (front_is ts sign.Semicolon (semicolon (front ts) b.0)) b.1 in
      record {
        height = 0;
        low = omega arith;
        spelled = subst
            (λ (us : List Token). AFileDeclaration types types 0 (file.Empty (first_pos ts)) us) all (units.empty types (first_pos ts));
      }

  pub outline_took : (types : List NameId) (ts : List Token) (o : Outlined) → outline_of types ts ≡ Some o → Outlines types ts o.it o.types o.inside
  unfolding outline_of
  outline_took types ts o is = ⊎_elim
      (λ a. given (Good types ts) (outlined (outline.Decl (file.Empty (first_pos ts))) types []) o a.1 (lone_took types ts a.0))
      (λ a. let f = bind_some (specs_at types max_height ts) (specified types (first_pos ts)) o a.1 in
      specified_took types ts f.value ((exprs types max_height).specs ts f.value f.is) o f.gives)
      (if_is (is_lone_semicolon ts) _ _ (Some o) is)
