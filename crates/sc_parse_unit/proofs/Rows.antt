-- What lists that are read item by item have taken, where nothing was read before them.
use Rattle.std.proofs.Common.{◌≡◌, ℕ, ◌≤◌, Bool, true, List, [], ◌++◌, Option, Some, refl, sym, ap, subst, ◌∙◌, arith}
use Rattle.std.proofs.lemmas.List.{append-nil}
use Rattle.sc_tree.specs.declared.token.Token.{Token}
use Rattle.sc_tree.specs.declared.token.Punct.{Punct}
use Rattle.sc_parse_front.specs.Front.{front}
use Rattle.sc_parse_expr.specs.Read.{Read, Parse, Listed, commas, many}
use Rattle.sc_parse_expr.specs.Reading.Grammar.{with_item, never}
use Rattle.sc_parse_expr.proofs.Tools.{Splits}
use Rattle.sc_parse_expr.proofs.SoundLists.{Item, Chained, last, more, Ending, plain, with_comma, Row, empty, next, all_items, commas_took, many_took}

-- no item is higher than the limit, so the list is not
pub chain_low : {A : Type 0} {Good : A → ℕ → List Token → Type 0} (limit : ℕ) → ((x : A) (h : ℕ) (s : List Token) → Good x h s → h ≤ limit)
    → (xs : List A) (h : ℕ) (s : List Token) → Chained Good xs h s → h ≤ limit
chain_low limit low _ _ _ (last {x = x} {h = h} {s = s} g) = low x h s g
chain_low limit low _ _ _ (more {x = x} {xs = xs} {h = h} {m = m} {s = s} {r = r} p g c) =
    let a : h ≤ limit = low x h s g in
    let b : m ≤ limit = chain_low limit low xs m r c in
    omega arith

pub row_low : {A : Type 0} {Good : A → ℕ → List Token → Type 0} (limit : ℕ) → ((x : A) (h : ℕ) (s : List Token) → Good x h s → h ≤ limit)
    → (xs : List A) (h : ℕ) (s : List Token) → Row Good xs h s → h ≤ limit
row_low limit low _ _ _ empty = omega arith
row_low limit low _ _ _ (next {x = x} {xs = xs} {h = h} {m = m} {s = s} {r = r} g c) =
    let a : h ≤ limit = low x h s g in
    let b : m ≤ limit = row_low limit low xs m r c in
    omega arith

-- items with commas between, and what stands behind the last
pub record Items {A : Type 0} (ends : Option Punct → Bool) (Good : A → ℕ → List Token → Type 0) (ts : List Token) (x : Read (Listed (List A))) : Type 0 where
  pub span : List Token
  pub tail : List Token
  pub split : Splits ts (span ++ tail) x.rest
  pub chained : Chained Good x.it.items x.height span
  pub ending : Ending ends x.it.comma tail x.rest

pub items_took : {A : Type 0} (item : Parse A) (ends : Option Punct → Bool) (Good : A → ℕ → List Token → Type 0)
    → ((ts : List Token) (a : Read A) → item ts ≡ Some a → Item Good ts a)
    → (n : ℕ) (ts : List Token) (x : Read (Listed (List A))) → commas item with_item ends n [] 0 ts ≡ Some x → Items ends Good ts x
items_took item ends Good reads n ts x is =
    let t = commas_took item with_item ends Good reads n [] 0 ts x is in
    let tall : t.height ≡ x.height = (let e = t.tall in omega arith) in
    let whole : t.xs ≡ x.it.items = sym (t.whole ∙ all_items [] t.xs) in
    record {
      span = t.span;
      tail = t.tail;
      split = t.split;
      ending = t.ending;
      chained = subst (λ (h : ℕ). Chained Good x.it.items h t.span) tall (subst (λ ys. Chained Good ys t.height t.span) whole t.chained);
    }

-- items with commas between, and nothing behind the last
pub record OnlyItems {A : Type 0} (Good : A → ℕ → List Token → Type 0) (ts : List Token) (x : Read (Listed (List A))) : Type 0 where
  pub span : List Token
  pub split : Splits ts span x.rest
  pub chained : Chained Good x.it.items x.height span

no_tail : (b : Bool) (tail rest : List Token) → Ending never b tail rest → tail ≡ []
no_tail _ _ _ (plain rest) = refl
no_tail _ _ _ (with_comma p rest bad) = absurd cc

pub only_items_took : {A : Type 0} (item : Parse A) (Good : A → ℕ → List Token → Type 0) → ((ts : List Token) (a : Read A) → item ts ≡ Some a → Item Good ts a)
    → (n : ℕ) (ts : List Token) (x : Read (Listed (List A))) → commas item with_item never n [] 0 ts ≡ Some x → OnlyItems Good ts x
only_items_took item Good reads n ts x is =
    let t = items_took item never Good reads n ts x is in
    let short : t.span ++ t.tail ≡ t.span = ap (λ (u : List Token). t.span ++ u) (no_tail x.it.comma t.tail x.rest t.ending) ∙ append-nil t.span in
    record { span = t.span; split = subst (λ (u : List Token). Splits ts u x.rest) short t.split; chained = t.chained }

-- items one after the other, up to where the test says that they end
pub record Rows {A : Type 0} (ends : Option Punct → Bool) (Good : A → ℕ → List Token → Type 0) (ts : List Token) (x : Read (List A)) : Type 0 where
  pub span : List Token
  pub split : Splits ts span x.rest
  pub row : Row Good x.it x.height span
  pub ended : ends (front x.rest) ≡ true

pub rows_took : {A : Type 0} (item : Parse A) (ends : Option Punct → Bool) (Good : A → ℕ → List Token → Type 0)
    → ((ts : List Token) (a : Read A) → item ts ≡ Some a → Item Good ts a)
    → (n : ℕ) (ts : List Token) (x : Read (List A)) → many item with_item ends n [] 0 ts ≡ Some x → Rows ends Good ts x
rows_took item ends Good reads n ts x is =
    let t = many_took item with_item ends Good reads n [] 0 ts x is in
    let tall : t.height ≡ x.height = (let e = t.tall in omega arith) in
    let whole : t.xs ≡ x.it = sym (t.whole ∙ all_items [] t.xs) in
    record {
      span = t.span;
      split = t.split;
      ended = t.ended;
      row = subst (λ (h : ℕ). Row Good x.it h t.span) tall (subst (λ ys. Row Good ys t.height t.span) whole t.row);
    }
