-- What is spelled is read: initialisers. By recursion on what spells them; those in braces are read by
-- `inner`.
use Rattle.std.proofs.Common.{◌≡◌, ℕ, zero, suc, ◌≤◌, max, Bool, true, false, List, [], ◌∷◌, ◌++◌, length, Some, refl, sym, ap, ap₂, subst}
use Rattle.std.proofs.Common.{◌∙◌, append_assoc, arith, length-append}
use Rattle.sc_base.specs.declared.pos.Pos.{Pos}
use Rattle.sc_base.specs.declared.pos.NameId.{NameId}
use Rattle.sc_tree.specs.declared.token.Token.{Token}
use Rattle.sc_tree.specs.declared.token.Punct.TheVariants as sign
use Rattle.sc_tree.specs.declared.decl.Init.{Init}
use Rattle.sc_tree.specs.declared.decl.Init.TheVariants as init
use Rattle.sc_tree.specs.declared.decl.InitItem.{InitItem}
use Rattle.sc_tree.specs.declared.decl.Designator.{Designator}
use Rattle.sc_tree.specs.declared.grammar.Level.TheVariants.{Choice, Assignment}
use Rattle.sc_tree.specs.Tokens.{punct, word}
use Rattle.sc_tree.specs.Statements.{ADesignator, of_field, of_index, Designates, one_designator, more_designators, Initialises, a_value}
use Rattle.sc_tree.specs.Statements.{empty_braces, in_braces, InitItems, last_item, last_item_with_comma, more_items, AnInitItem, an_item}
use Rattle.sc_tree.specs.Statements.{a_designated}
use Rattle.sc_parse_front.specs.Front.{punct_of, front, is_right_brace}
use Rattle.sc_parse_expr.specs.Read.{read, Parse, commas}
use Rattle.sc_parse_expr.specs.Reading.Grammar.{with_item}
use Rattle.sc_parse_expr.specs.Reading.Parse.{parse}
use Rattle.sc_parse_expr.specs.Laws.{ends_expr}
use Rattle.sc_parse_expr.specs.Laws as below
use Rattle.sc_parse_expr.proofs.Begins.{begins_expr}
use Rattle.sc_parse_expr.proofs.Inner.{node_is, has_turn, commas_last, commas_end, commas_more}
use Rattle.sc_parse_unit.specs.Reading.{begins_designator, a_designator, designators, designated, undesignated, init_item, braces}
use Rattle.sc_parse_unit.specs.Reading.{init_value, initialiser_by, initialiser}
use Rattle.sc_parse_unit.proofs.BeginsStmt.{is_end, expr_no_end, no_right_brace, no_left_brace, no_designator}

-- ---- how they begin

-- the first token, which is no closing brace; the flag says whether a designator may begin there
pub record BeginsInit (may : Bool) (s : List Token) : Type 0 where
  pub first : Token
  pub others : List Token
  pub whole : s ≡ first ∷ others
  pub no_brace : is_right_brace (punct_of first.kind) ≡ false
  pub kind : begins_designator (punct_of first.kind) ≡ may

longer : {may : Bool} {s : List Token} → BeginsInit may s → (r : List Token) → BeginsInit may (s ++ r)
longer b r = record { first = b.first; others = b.others ++ r; whole = ap (λ (z : List Token). z ++ r) b.whole; no_brace = b.no_brace; kind = b.kind }

goes_on : {may : Bool} {s : List Token} → BeginsInit may s → (rest : List Token) → is_right_brace (front (s ++ rest)) ≡ false
goes_on b rest = ap (λ (z : List Token). is_right_brace (front (z ++ rest))) b.whole ∙ b.no_brace

designates : {may : Bool} {s : List Token} → BeginsInit may s → (rest : List Token) → begins_designator (front (s ++ rest)) ≡ may
designates b rest = ap (λ (z : List Token). begins_designator (front (z ++ rest))) b.whole ∙ b.kind

not_empty : {may : Bool} {s : List Token} → BeginsInit may s → 1 ≤ length s
not_empty b = subst (λ (z : List Token). 1 ≤ length z) (sym b.whole) (omega arith)

designator_begins : {types : List NameId} {h : ℕ} {x : Designator} {s : List Token} → ADesignator types h x s → BeginsInit true s
designator_begins (of_field w p q) = record { first = punct sign.Dot p; others = word w q ∷ []; whole = refl; no_brace = refl; kind = refl }
designator_begins (of_index {s = s} p q d) = record {
  first = punct sign.LeftBracket p;
  others = s ++ punct sign.RightBracket q ∷ [];
  whole = refl;
  no_brace = refl;
  kind = refl;
}

designates_begin : {types : List NameId} {h : ℕ} {xs : List Designator} {s : List Token} → Designates types h xs s → BeginsInit true s
designates_begin (one_designator d) = designator_begins d
designates_begin (more_designators d more) = longer (designator_begins d) _

expr_begins_init : (types : List NameId) (s : List Token) → below.BeginsExpr types s → BeginsInit false s
expr_begins_init types s b =
    let no = no_end in
    record { first = b.first; others = b.others; whole = b.whole; no_brace = no_right_brace _ no; kind = no_designator _ no }
  where
    no_end : is_end (punct_of b.first.kind) ≡ false
    no_end = expr_no_end (record { first = b.first; others = []; whole = refl; opens = b.opens }) []

init_begins : {types : List NameId} {h : ℕ} {t : Init} {s : List Token} → Initialises types h t s → BeginsInit false s
init_begins {types = types} (a_value {s = s} d) = expr_begins_init types s (begins_expr types _ _ _ _ d)
init_begins (empty_braces p q) = record { first = punct sign.LeftBrace p; others = punct sign.RightBrace q ∷ []; whole = refl; no_brace = refl; kind = refl }
init_begins (in_braces {s = s} p q d) = record {
  first = punct sign.LeftBrace p;
  others = s ++ punct sign.RightBrace q ∷ [];
  whole = refl;
  no_brace = refl;
  kind = refl;
}

-- ---- designators

module _ (types : List NameId) (limit : ℕ) (known : below.IsComplete types limit) where
  designator_read : {h : ℕ} {x : Designator} {s : List Token} → ADesignator types h x s → h ≤ limit → (rest : List Token)
      → a_designator types limit (s ++ rest) ≡ Some (read x h rest)
  unfolding a_designator
  designator_read (of_field w p q) low rest = refl
  designator_read (of_index {h = h} {t = t} {s = s} p q d) low rest =
      let one = known.expr Choice h t s (punct sign.RightBracket q ∷ rest) d low refl in
      rw (append_assoc s (punct sign.RightBracket q ∷ []) rest, one.1) refl

  designators_stop : (n : ℕ) (xs : List Designator) (h : ℕ) (rest : List Token) → begins_designator (front rest) ≡ false
      → designators types limit n xs h rest ≡ Some (read xs h rest)
  unfolding designators
  designators_stop zero xs h rest e = rw e refl
  designators_stop (suc n) xs h rest e = rw e refl

  designators_step : (n : ℕ) (xs : List Designator) (h : ℕ) (ts : List Token) (x : Designator) (m : ℕ) (rest : List Token) → begins_designator (front ts) ≡ true
      → a_designator types limit ts ≡ Some (read x m rest)
      → designators types limit (suc n) xs h ts ≡ designators types limit n (xs ++ x ∷ []) (max h m) rest
  unfolding designators
  designators_step n xs h ts x m rest e one = rw (e, one) refl

  designates_read : {m : ℕ} {xs : List Designator} {s : List Token} → Designates types m xs s → m ≤ limit → (n : ℕ) → length s ≤ n
      → (ys : List Designator) (h : ℕ) (rest : List Token)
      → begins_designator (front rest) ≡ false → designators types limit n ys h (s ++ rest) ≡ Some (read (ys ++ xs) (max h m) rest)
  designates_read (one_designator {h = m} {x = x} {s = s} d) low n room ys h rest end =
      let some = not_empty (designator_begins d) in
      let turn = has_turn n (omega (arith, room, some)) in
      rw turn.1 (designators_step turn.0 ys h (s ++ rest) x m rest (designates (designator_begins d) rest) (designator_read d low rest)
      ∙ designators_stop turn.0 (ys ++ x ∷ []) (max h m) rest end)
  designates_read (more_designators {h = m} {m = j} {x = x} {xs = xs} {s = s} {r = r} d more) low n room ys h rest end =
      let some = not_empty (designator_begins d) in
      let long = length-append s r in
      let turn = has_turn n (omega (arith, room, some, long)) in
      let same = turn.1 in
      let step = designators_step turn.0 ys h (s ++ (r ++ rest)) x m (r ++ rest) (designates (designator_begins d) (r ++ rest))
      (designator_read d (omega arith) (r ++ rest)) in
      let others = designates_read more (omega arith) turn.0 (omega (arith, room, some, long, same)) (ys ++ x ∷ []) (max h m) rest end in
      rw (same, append_assoc s r rest) (step ∙ (others ∙ ap₂ (λ (z : List Designator) (w : ℕ). Some (read z w rest))
      (append_assoc ys (x ∷ []) xs) (omega arith)))

-- ---- initialisers

module _ (types : List NameId) (limit : ℕ) (inner : Parse Init) (known : below.IsComplete types limit)
    (complete : (h : ℕ) (t : Init) (s rest : List Token) → Initialises types h t s → h ≤ limit → ends_expr Assignment rest ≡ true
    → inner (s ++ rest) ≡ Some (read t h rest)) where
  item_read : {h : ℕ} {x : InitItem} {s : List Token} → AnInitItem types h x s → h ≤ limit → (rest : List Token) → ends_expr Assignment rest ≡ true
      → init_item types limit inner (s ++ rest) ≡ Some (read x h rest)
  unfolding init_item undesignated designated
  item_read (an_item {h = h} {t = t} {s = s} d) low rest ends =
      rw (designates (init_begins d) rest, complete h t s rest d low ends) refl
  item_read (a_designated {h = h} {m = m} {xs = xs} {t = t} {s = s} {r = r} p ds d) low rest ends =
      let long = length-append s (punct sign.Assign p ∷ (r ++ rest)) in
      let one = designates_read types limit known ds (omega arith) (length (s ++ punct sign.Assign p ∷ (r ++ rest))) (omega (arith, long))
      [] 0 (punct sign.Assign p ∷ (r ++ rest)) refl in
      let high : max 0 h ≡ h = omega arith in
      rw (
        append_assoc s (punct sign.Assign p ∷ r) rest,
        designates (designates_begin ds) (punct sign.Assign p ∷ (r ++ rest)),
        one,
        complete m t r rest d (omega arith) ends,
        high,
      ) refl

  item_begins : {h : ℕ} {x : InitItem} {s : List Token} → AnInitItem types h x s → (may : Bool) × BeginsInit may s
  item_begins (an_item d) = (false, init_begins d)
  item_begins (a_designated p ds d) = (true, longer (designates_begin ds) _)

  items_begin : {h : ℕ} {xs : List InitItem} {s : List Token} → InitItems types h xs s → (may : Bool) × BeginsInit may s
  items_begin (last_item d) = item_begins d
  items_begin (last_item_with_comma p d) = ((item_begins d).0, longer (item_begins d).1 _)
  items_begin (more_items p d more) = ((item_begins d).0, longer (item_begins d).1 _)

  items_read : {m : ℕ} {xs : List InitItem} {s : List Token} → InitItems types m xs s → m ≤ limit → (n : ℕ) → length s ≤ n
      → (ys : List InitItem) (h : ℕ) (q : Pos) (rest : List Token)
      → (c : Bool) × (commas (init_item types limit inner) with_item is_right_brace n ys h (s ++ punct sign.RightBrace q ∷ rest)
      ≡ Some (read (record { items = ys ++ xs; comma = c }) (max h m) (punct sign.RightBrace q ∷ rest)))
  items_read (last_item {h = m} {x = x} {s = s} d) low n room ys h q rest =
      let some = not_empty (item_begins d).1 in
      let turn = has_turn n (omega (arith, room, some)) in
      let end = punct sign.RightBrace q ∷ rest in
      (false, rw turn.1 (commas_last (init_item types limit inner) with_item is_right_brace turn.0 ys h (s ++ end) x m end (item_read d low end refl) refl))
  items_read (last_item_with_comma {h = m} {x = x} {s = s} p d) low n room ys h q rest =
      let long = length-append s (punct sign.Comma p ∷ []) in
      let turn = has_turn n (omega (arith, room, long)) in
      let end = punct sign.RightBrace q ∷ rest in (
        true,
        rw (turn.1, append_assoc s (punct sign.Comma p ∷ []) end)
            (commas_end (init_item types limit inner) with_item is_right_brace turn.0 ys h (s ++ punct sign.Comma p ∷ end) x m p end
            (item_read d low (punct sign.Comma p ∷ end) refl) refl),
      )
  items_read (more_items {h = m} {m = j} {x = x} {xs = xs} {s = s} {r = r} p d more) low n room ys h q rest =
      let long = length-append s (punct sign.Comma p ∷ r) in
      let turn = has_turn n (omega (arith, room, long)) in
      let same = turn.1 in
      let end = punct sign.RightBrace q ∷ rest in
      let step = commas_more (init_item types limit inner) with_item is_right_brace turn.0 ys h (s ++ punct sign.Comma p ∷ (r ++ end)) x m p (r ++ end)
      (item_read d (omega arith) (punct sign.Comma p ∷ (r ++ end)) refl) (goes_on (items_begin more).1 end) in
      let others = items_read more (omega arith) turn.0 (omega (arith, room, long, same)) (ys ++ x ∷ []) (max h m) q rest in (
        others.0,
        ap₂ (λ (z : ℕ) (w : List Token). commas (init_item types limit inner) with_item is_right_brace z ys h w) same
            (append_assoc s (punct sign.Comma p ∷ r) end)
            ∙ (step ∙ (others.1 ∙ ap₂ (λ (z : List InitItem) (w : ℕ). Some (read (record { items = z; comma = others.0 }) w end))
            (append_assoc ys (x ∷ []) xs) (omega arith))),
      )

  init_read : below.IsComplete types (suc limit) → {h : ℕ} {t : Init} {s : List Token} → Initialises types h t s → h ≤ suc limit
      → (rest : List Token) → ends_expr Assignment rest ≡ true
      → initialiser_by types limit inner (s ++ rest) ≡ Some (read t h rest)
  unfolding initialiser_by init_value braces
  init_read all (a_value {h = h} {t = t} {s = s} d) low rest ends =
      let one = all.expr Assignment h t s rest d low ends in
      rw (no_left_brace _ (expr_no_end (begins_expr types _ _ _ _ d) rest), one.1) refl
  init_read all (empty_braces p q) low rest ends = node_is limit (init.List []) 0 rest (omega arith)
  init_read all (in_braces {h = h} {xs = xs} {s = s} p q d) low rest ends =
      let end = punct sign.RightBrace q ∷ rest in
      let long = length-append s end in
      let one = items_read d (omega arith) (length (s ++ end)) (omega (arith, long)) [] 0 q rest in
      let high : max 0 h ≡ h = omega arith in
      rw (append_assoc s (punct sign.RightBrace q ∷ []) rest, goes_on (items_begin d).1 end, one.1, high) (node_is limit (init.List xs) h rest (omega arith))

-- a limit of 0 reads no expression
no_expr : {A : Type 0} (types : List NameId) (known : below.IsComplete types 0) {h : ℕ} {t : Init} {s : List Token}
    → Initialises types h t s → h ≤ 0 → (rest : List Token) → ends_expr Assignment rest ≡ true → A
unfolding parse
no_expr types known (a_value {h = h} {t = t} {s = s} d) low rest ends = let bad = (known.expr Assignment h t s rest d low ends).1 in absurd cc
no_expr types known (empty_braces p q) low rest ends = let bad : ⊥ = omega arith in absurd bad
no_expr types known (in_braces p q d) low rest ends = let bad : ⊥ = omega arith in absurd bad

module _ (types : List NameId) (known : (limit : ℕ) → below.IsComplete types limit) where
  pub initialiser_read : (limit : ℕ) (h : ℕ) (t : Init) (s rest : List Token) → Initialises types h t s → h ≤ limit → ends_expr Assignment rest ≡ true
      → initialiser types limit (s ++ rest) ≡ Some (read t h rest)
  unfolding initialiser
  initialiser_read zero h t s rest d low ends = no_expr types (known 0) d low rest ends
  initialiser_read (suc n) h t s rest d low ends =
      init_read types n (λ us. initialiser types n us) (known n) (initialiser_read n) (known (suc n)) d low rest ends
