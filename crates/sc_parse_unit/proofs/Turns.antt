-- The code's loops and recursions beside the functions of the reading.
use Rattle.std.proofs.Common.{◌≡◌, ℕ, zero, suc, ◌-◌, ◌<◌, max, Bool, not, List, [], length, Option, Some, None, if◌then◌else◌, refl, sym, ap, ◌∙◌, arith}
use Rattle.sc_base.specs.declared.pos.NameId.{NameId}
use Rattle.sc_tree.specs.declared.token.Token.{Token}
use Rattle.sc_tree.specs.declared.token.Punct.{Punct}
use Rattle.sc_tree.specs.declared.decl.Designator.{Designator}
use Rattle.sc_tree.specs.declared.stmt.Stmt.{Stmt}
use Rattle.sc_tree.specs.Tables.{◌>>=◌}
use Rattle.sc_parse_front.specs.Front.{is_right_brace}
use Rattle.sc_parse_expr.specs.Read.{read, Parse, many}
use Rattle.sc_parse_expr.specs.Reading.Grammar.{with_item}
use Rattle.sc_parse_unit.specs.Nests.{inner_init, inner_stmt}
use Rattle.sc_parse_unit.specs.Reading.{begins_designator, is_no_designator, a_designator, designators, initialiser, initialiser_by}
use Rattle.sc_parse_unit.specs.Reading.{statement, statement_by, items, an_item}

-- ---- designators are items up to where none begins

abbrev pub ends_designators : Option Punct → Bool
ends_designators o = not (begins_designator o)

behind_designator : {A B : Type 0} (o : Option A) (f g : A → Option B) → ((a : A) → f a ≡ g a) → (o >>= f) ≡ (o >>= g)
behind_designator (Some a) f g same = same a
behind_designator None f g same = refl

module _ (types : List NameId) (limit : ℕ) where
  designators_many : (n : ℕ) (xs : List Designator) (h : ℕ) (ts : List Token) → designators types limit n xs h ts
      ≡ many (a_designator types limit) with_item ends_designators n xs h ts
  unfolding designators many
  designators_many zero xs h ts = refl
  designators_many (suc n) xs h ts = ap (λ o. if is_no_designator ts then Some (read xs h ts) else o)
      (behind_designator (a_designator types limit ts) (λ a. designators types limit n (with_item xs a.it) (max h a.height) a.rest)
      (λ a. many (a_designator types limit) with_item ends_designators n (with_item xs a.it) (max h a.height) a.rest)
      (λ a. designators_many n (with_item xs a.it) (max h a.height) a.rest))

  pub designators_begin : (n : ℕ) (xs : List Designator) (ts : List Token) → n ≡ length ts → xs ≡ []
      → designators types limit (length ts) [] 0 ts ≡ many (a_designator types limit) with_item ends_designators (n - 0) xs 0 ts
  designators_begin n xs ts all none = let less : length ts ≡ n - 0 = omega arith in designators_many (length ts) [] 0 ts
      ∙ ap (λ m. many (a_designator types limit) with_item ends_designators m [] 0 ts) less
      ∙ ap (λ ys. many (a_designator types limit) with_item ends_designators (n - 0) ys 0 ts) (sym none)

-- ---- items

pub items_begin : (types : List NameId) (below : ℕ) (inner : Parse Stmt) (switch : Bool) (n : ℕ) (xs : List Stmt) (ts : List Token) → n ≡ length ts → xs ≡ []
    → items types below inner switch ts ≡ many (an_item types below inner switch) with_item is_right_brace (n - 0) xs 0 ts
unfolding items
items_begin types below inner switch n xs ts all none = let less : length ts ≡ n - 0 = omega arith in
    ap (λ m. many (an_item types below inner switch) with_item is_right_brace m [] 0 ts) less
    ∙ ap (λ ys. many (an_item types below inner switch) with_item is_right_brace (n - 0) ys 0 ts) (sym none)

-- ---- the knots

pub initialiser_by_limit : (types : List NameId) (limit : ℕ) (ts : List Token) → 0 < limit → initialiser types limit ts
    ≡ initialiser_by types (limit - 1) (inner_init types limit) ts
unfolding initialiser
initialiser_by_limit types zero ts some = absurd (omega arith)
initialiser_by_limit types (suc n) ts some = let less : n ≡ suc n - 1 = omega arith in ap (λ m. initialiser_by types m (λ us. initialiser types m us) ts) less

pub initialiser_of_none : (types : List NameId) (limit : ℕ) (ts : List Token) → limit ≡ 0 → initialiser types limit ts ≡ None
unfolding initialiser
initialiser_of_none types limit ts none = ap (λ n. initialiser types n ts) none

pub statement_by_limit : (types : List NameId) (limit : ℕ) (ts : List Token) → 0 < limit → statement types limit ts
    ≡ statement_by types (limit - 1) (inner_stmt types limit) ts
unfolding statement
statement_by_limit types zero ts some = absurd (omega arith)
statement_by_limit types (suc n) ts some = let less : n ≡ suc n - 1 = omega arith in ap (λ m. statement_by types m (λ us. statement types m us) ts) less

pub statement_of_none : (types : List NameId) (limit : ℕ) (ts : List Token) → limit ≡ 0 → statement types limit ts ≡ None
unfolding statement
statement_of_none types limit ts none = ap (λ n. statement types n ts) none
