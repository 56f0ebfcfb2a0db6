-- Initialisers: what is read is spelled.
use Rattle.std.proofs.Common.{◌≡◌, ℕ, zero, suc, ◌≤◌, max, Bool, true, false, List, [], ◌∷◌, ◌++◌, length, Option, Some, None, refl, sym}
use Rattle.std.proofs.Common.{ap, subst, ◌∙◌, append_assoc, arith, ⊎_elim}
use Rattle.std.specs.Prelude.{if◌then◌else◌, not}
use Rattle.std.proofs.lemmas.List.{append-nil}
use Rattle.sc_base.specs.declared.pos.NameId.{NameId}
use Rattle.sc_tree.specs.declared.token.Token.{Token}
use Rattle.sc_tree.specs.declared.token.Punct.{Punct}
use Rattle.sc_tree.specs.declared.token.Punct.TheVariants as sign
use Rattle.sc_tree.specs.declared.decl.Init.{Init}
use Rattle.sc_tree.specs.declared.decl.Init.TheVariants as init
use Rattle.sc_tree.specs.declared.decl.InitItem.{InitItem}
use Rattle.sc_tree.specs.declared.decl.Designator.{Designator}
use Rattle.sc_tree.specs.declared.decl.Designator.TheVariants as designator
use Rattle.sc_tree.specs.declared.grammar.Level.TheVariants.{Choice, Assignment}
use Rattle.sc_tree.specs.Tables.{◌>>=◌}
use Rattle.sc_tree.specs.Tokens.{punct, first_pos}
use Rattle.sc_tree.specs.Statements.{ADesignator, of_field, of_index, Designates, one_designator, more_designators, a_value, empty_braces}
use Rattle.sc_tree.specs.Statements.{in_braces, InitItems, last_item, last_item_with_comma, more_items, AnInitItem, an_item, a_designated}
use Rattle.sc_parse_front.specs.Front.{front, front_word, behind, is_left_brace, is_right_brace, is_right_bracket, is_equals}
use Rattle.sc_parse_expr.specs.Read.{Read, read, Parse, node, taking, commas, many}
use Rattle.sc_parse_expr.specs.Reading.Parse.{expr_at}
use Rattle.sc_parse_expr.specs.Reading.Grammar.{with_item}
use Rattle.sc_parse_expr.specs.Laws as lower
use Rattle.sc_parse_expr.proofs.Tools.{bind_some, if_is, given, node_is, Splits, glue, One, front_is, front_word_is, right_bracket}
use Rattle.sc_parse_expr.proofs.Tools.{left_brace, right_brace, equals, taken}
use Rattle.sc_parse_expr.proofs.SoundLists.{Item, Chained, last, more, Ending, plain, with_comma, Row, empty, next}
use Rattle.sc_parse_unit.specs.Reading as u
use Rattle.sc_parse_unit.specs.Reading.{is_dot, begins_designator, is_no_designator, a_designator, designators, item_of, initialiser}
use Rattle.sc_parse_unit.specs.Laws.{TakesInit}
use Rattle.sc_parse_unit.proofs.Rows.{row_low, items_took, rows_took}

dot : (o : Option Punct) → is_dot o ≡ true → o ≡ Some sign.Dot
dot (Some sign.Dot) e = refl
dot _ e = absurd cc

bracket : (o : Option Punct) → not (begins_designator o) ≡ false → is_dot o ≡ false → o ≡ Some sign.LeftBracket
bracket (Some sign.LeftBracket) e d = refl
bracket (Some sign.Dot) e d = absurd cc
bracket _ e d = absurd cc

-- a step that is tested before is one that tests
tested_step : {A B : Type 0} (b : Bool) (y : Option B) (o : Option A) (f g : A → Option B) → ((a : A) → f a ≡ g a)
    → (if b then y else (o >>= f)) ≡ (if b then y else ((if b then None else o) >>= g))
tested_step true y o f g e = refl
tested_step false y None f g e = refl
tested_step false y (Some a) f g e = e a

-- ---- designators

abbrev DesignatorFits : List NameId → ℕ → Designator → ℕ → List Token → Type 0
DesignatorFits types limit x h s = ADesignator types h x s × (h ≤ limit)

abbrev pub DesignatorsFit : List NameId → ℕ → List Designator → ℕ → List Token → Type 0
DesignatorsFit types limit xs h s = Designates types h xs s × (h ≤ limit)

abbrev no_designator : Option Punct → Bool
no_designator o = not (begins_designator o)

module _ (types : List NameId) (limit : ℕ) (exprs : lower.IsSound types limit) where
  field_took : (ts : List Token) (x : Read Designator) → is_dot (front ts) ≡ true
      → (front_word (behind ts) >>= λ w. Some (read (designator.Field w) 0 (behind (behind ts)))) ≡ Some x
      → Item (DesignatorFits types limit) ts x
  field_took ts x there is =
      let w = bind_some (front_word (behind ts)) _ x is in
      given (λ (y : Read Designator). Item (DesignatorFits types limit) ts y) (read (designator.Field w.value) 0 (behind (behind ts))) x w.gives
      (record {
        span = _;
        split = glue (front_is ts sign.Dot (dot (front ts) there)) (front_word_is (behind ts) w.value w.is);
        good =
            (of_field w.value (first_pos ts) (first_pos (behind ts)), omega arith);
      })

  index_took : (ts : List Token) (x : Read Designator) → front ts ≡ Some sign.LeftBracket
      → (expr_at types limit Choice (behind ts) >>= λ a. taking is_right_bracket a.rest >>= λ rest.
      Some (read (designator.Index a.it.tree) a.height rest)) ≡ Some x
      → Item (DesignatorFits types limit) ts x
  index_took ts x there is =
      let a = bind_some (expr_at types limit Choice (behind ts)) _ x is in
      let c = bind_some (taking is_right_bracket a.value.rest) _ x a.gives in
      let w = exprs.expr Choice (behind ts) a.value a.is in
      let close = taken is_right_bracket sign.RightBracket right_bracket a.value.rest c.value c.is in
      given (λ (y : Read Designator). Item (DesignatorFits types limit) ts y) (read (designator.Index a.value.it.tree) a.value.height c.value) x c.gives
      (record {
        span = _;
        split = glue (front_is ts sign.LeftBracket there) (glue (record { is = w.split }) close);
        good =
            (of_index (first_pos ts) (first_pos a.value.rest) w.spelled, w.low);
      })

  a_designator_took : (ts : List Token) (x : Read Designator) → is_no_designator ts ≡ false → a_designator types limit ts ≡ Some x
      → Item (DesignatorFits types limit) ts x
  unfolding a_designator
  a_designator_took ts x begins is = ⊎_elim
      (λ t. field_took ts x t.0 t.1)
      (λ t. index_took ts x (bracket (front ts) begins t.0) t.1)
      (if_is (is_dot (front ts)) _ _ (Some x) is)

  abbrev tested : Parse Designator
  tested ts = if is_no_designator ts then None else a_designator types limit ts

  tested_took : (ts : List Token) (x : Read Designator) → tested ts ≡ Some x → Item (DesignatorFits types limit) ts x
  tested_took ts x is = ⊎_elim
      (λ t. absurd cc)
      (λ t. a_designator_took ts x t.0 t.1)
      (if_is (is_no_designator ts) None (a_designator types limit ts) (Some x) is)

  as_many : (n : ℕ) (xs : List Designator) (h : ℕ) (ts : List Token) → designators types limit n xs h ts ≡ many tested with_item no_designator n xs h ts
  unfolding designators many
  as_many zero xs h ts = refl
  as_many (suc n) xs h ts = tested_step (is_no_designator ts) (Some (read xs h ts)) (a_designator types limit ts) _ _
      (λ a. as_many n (with_item xs a.it) (max h a.height) a.rest)

  -- a row that is not empty
  designates_of : (x : Designator) (h : ℕ) (s : List Token) → ADesignator types h x s → (xs : List Designator) (m : ℕ) (r : List Token)
      → Row (DesignatorFits types limit) xs m r
      → Designates types (max h m) (x ∷ xs) (s ++ r)
  designates_of x h s d _ _ _ empty = let tall : h ≡ max h 0 = omega arith in
      subst (λ (m : ℕ). Designates types m (x ∷ []) (s ++ [])) tall
      (subst (λ (v : List Token). Designates types h (x ∷ []) v) (sym (append-nil s)) (one_designator d))
  designates_of x h s d _ _ _ (next {x = y} {xs = ys} {h = k} {m = m} {s = t} {r = r} g row) = more_designators d (designates_of y k t g.0 ys m r row)

  some_row : (ts rest : List Token) → is_no_designator ts ≡ false → is_no_designator rest ≡ true
      → (xs : List Designator) (h : ℕ) (s : List Token) → Row (DesignatorFits types limit) xs h s → Splits ts s rest
      → Designates types h xs s
  some_row ts rest begins ends _ _ _ empty split = let same : is_no_designator ts ≡ is_no_designator rest = ap is_no_designator split.is in absurd cc
  some_row ts rest begins ends _ _ _ (next {x = x} {xs = xs} {h = h} {m = m} {s = s} {r = r} g row) split = designates_of x h s g.0 xs m r row

  pub designators_took : (ts : List Token) (x : Read (List Designator)) → is_no_designator ts ≡ false
      → designators types limit (length ts) [] 0 ts ≡ Some x → Item (DesignatorsFit types limit) ts x
  designators_took ts x begins is =
      let t = rows_took tested no_designator (DesignatorFits types limit) tested_took (length ts) ts x (sym (as_many (length ts) [] 0 ts) ∙ is) in
      record {
        span = t.span;
        split = t.split;
        good = (some_row ts x.rest begins t.ended x.it x.height t.span t.row t.split, row_low limit (λ y h s g. g.1) x.it x.height t.span t.row);
      }

-- ---- initialisers

module _ (types : List NameId) (below : ℕ) (inner : Parse Init) (exprs : lower.IsSound types below) (values : lower.IsSound types (suc below))
    (parts : (ts : List Token) (x : Read Init) → inner ts ≡ Some x → TakesInit types below ts x) where
  abbrev ItemFits : InitItem → ℕ → List Token → Type 0
  ItemFits x h s = AnInitItem types h x s × (h ≤ below)

  designated_item : (ts us : List Token) (ds : Read (List Designator)) (i : Read Init) → Item (DesignatorsFit types below) ts ds
      → One ds.rest (punct sign.Assign (first_pos ds.rest)) us → TakesInit types below us i
      → Item ItemFits ts (read (item_of ds.it i.it) (max ds.height i.height) i.rest)
  designated_item ts us ds i d sets w =
      let a = d.good.1 in
      let b = w.low in
      record { span = _; split = glue d.split (glue sets (record { is = w.split })); good = (a_designated (first_pos ds.rest) d.good.0 w.spelled, omega arith) }

  designated_took : (ts : List Token) (x : Read InitItem) → is_no_designator ts ≡ false → u.designated types below inner ts ≡ Some x → Item ItemFits ts x
  unfolding u.designated
  designated_took ts x begins is =
      let ds = bind_some (designators types below (length ts) [] 0 ts) _ x is in
      let c = bind_some (taking is_equals ds.value.rest) _ x ds.gives in
      let i = bind_some (inner c.value) _ x c.gives in
      given (λ (y : Read InitItem). Item ItemFits ts y) (read (item_of ds.value.it i.value.it) (max ds.value.height i.value.height) i.value.rest) x i.gives
      (designated_item ts c.value ds.value i.value (designators_took types below exprs ts ds.value begins ds.is)
      (taken is_equals sign.Assign equals ds.value.rest c.value c.is) (parts c.value i.value i.is))

  undesignated_took : (ts : List Token) (x : Read InitItem) → u.undesignated types below inner ts ≡ Some x → Item ItemFits ts x
  unfolding u.undesignated
  undesignated_took ts x is =
      let i = bind_some (inner ts) _ x is in
      let w = parts ts i.value i.is in
      given (λ (y : Read InitItem). Item ItemFits ts y) (read (item_of [] i.value.it) i.value.height i.value.rest) x i.gives
      (record { span = w.span; split = record { is = w.split }; good = (an_item w.spelled, w.low) })

  init_item_took : (ts : List Token) (x : Read InitItem) → u.init_item types below inner ts ≡ Some x → Item ItemFits ts x
  unfolding u.init_item
  init_item_took ts x is = ⊎_elim
      (λ t. undesignated_took ts x t.1)
      (λ t. designated_took ts x t.0 t.1)
      (if_is (is_no_designator ts) _ _ (Some x) is)

  items_of : (xs : List InitItem) (h : ℕ) (s : List Token) → Chained ItemFits xs h s → (c : Bool) (tail rest : List Token)
      → Ending is_right_brace c tail rest → InitItems types h xs (s ++ tail)
  items_of _ _ _ (last {x = x} {h = h} {s = s} g) _ _ _ (plain rest) =
      subst (λ (v : List Token). InitItems types h (x ∷ []) v) (sym (append-nil s)) (last_item g.0)
  items_of _ _ _ (last g) _ _ _ (with_comma p rest e) = last_item_with_comma p g.0
  items_of _ _ _ (more {x = x} {xs = xs} {h = h} {m = m} {s = s} {r = r} p g c) k tail rest e =
      subst (λ (v : List Token). InitItems types (max h m) (x ∷ xs) v) (sym (append_assoc s (punct sign.Comma p ∷ r) tail))
      (more_items p g.0 (items_of xs m r c k tail rest e))

  some_braces : (ts us : List Token) (x : Read Init) → One ts (punct sign.LeftBrace (first_pos ts)) us
      → (commas (u.init_item types below inner) with_item is_right_brace (length us) [] 0 us >>= λ xs. taking is_right_brace xs.rest
      >>= λ rest. node (suc below) (init.List xs.it.items) xs.height rest) ≡ Some x
      → TakesInit types (suc below) ts x
  some_braces ts us x begins is =
      let xs = bind_some (commas (u.init_item types below inner) with_item is_right_brace (length us) [] 0 us) _ x is in
      let c = bind_some (taking is_right_brace xs.value.rest) _ x xs.gives in
      let t = items_took (u.init_item types below inner) is_right_brace ItemFits init_item_took (length us) us xs.value xs.is in
      let close = taken is_right_brace sign.RightBrace right_brace xs.value.rest c.value c.is in
      let spelled = items_of xs.value.it.items xs.value.height t.span t.chained xs.value.it.comma t.tail xs.value.rest t.ending in
      let split = glue begins (glue t.split close) in
      node_is (λ (y : Read Init). TakesInit types (suc below) ts y) (suc below) (init.List xs.value.it.items) xs.value.height c.value x c.gives
      (λ low. record { span = _; split = split.is; spelled = in_braces (first_pos ts) (first_pos xs.value.rest) spelled; low = low })

  braces_took : (ts us : List Token) (x : Read Init) → One ts (punct sign.LeftBrace (first_pos ts)) us → u.braces types below inner us
      ≡ Some x → TakesInit types (suc below) ts x
  unfolding u.braces
  braces_took ts us x begins is = ⊎_elim
      (λ t. node_is (λ (y : Read Init). TakesInit types (suc below) ts y) (suc below) (init.List []) 0 (behind us) x t.1
      (λ low. record {
        span = _;
        split = (glue begins (front_is us sign.RightBrace (right_brace (front us) t.0))).is;
        spelled =
            empty_braces (first_pos ts) (first_pos us);
        low = low;
      }))
      (λ t. some_braces ts us x begins t.1)
      (if_is (is_right_brace (front us)) _ _ (Some x) is)

  init_value_took : (ts : List Token) (x : Read Init) → u.init_value types below inner ts ≡ Some x → TakesInit types (suc below) ts x
  unfolding u.init_value
  init_value_took ts x is =
      let a = bind_some (expr_at types (suc below) Assignment ts) _ x is in
      let w = values.expr Assignment ts a.value a.is in
      given (λ (y : Read Init). TakesInit types (suc below) ts y) (read (init.One a.value.it.tree) a.value.height a.value.rest) x a.gives
      (record { span = w.span; split = w.split; spelled = a_value w.spelled; low = w.low })

  pub initialiser_took : (ts : List Token) (x : Read Init) → u.initialiser_by types below inner ts ≡ Some x → TakesInit types (suc below) ts x
  unfolding u.initialiser_by
  initialiser_took ts x is = ⊎_elim
      (λ t. braces_took ts (behind ts) x (front_is ts sign.LeftBrace (left_brace (front ts) t.0)) t.1)
      (λ t. init_value_took ts x t.1)
      (if_is (is_left_brace (front ts)) _ _ (Some x) is)

-- an initialiser that is read
pub init_took : (types : List NameId) → ((limit : ℕ) → lower.IsSound types limit) → (limit : ℕ) (ts : List Token) (x : Read Init)
    → initialiser types limit ts ≡ Some x → TakesInit types limit ts x
unfolding initialiser
init_took types exprs zero ts x is = absurd cc
init_took types exprs (suc n) ts x is = initialiser_took types n (λ us. initialiser types n us) (exprs n) (exprs (suc n))
    (λ us y e. init_took types exprs n us y e) ts x is
