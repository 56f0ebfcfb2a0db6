-- What lists that are read item by item have taken.
use Rattle.std.proofs.Common.{◌≡◌, ℕ, zero, suc, max, Bool, true, false, List, [], ◌∷◌, ◌++◌, Option, Some, refl, sym, subst, ◌∙◌, append_assoc, arith, ⊎_elim}
use Rattle.std.specs.Prelude.{if◌then◌else◌}
use Rattle.std.proofs.lemmas.List.{append-nil}
use Rattle.sc_base.specs.declared.pos.Pos.{Pos}
use Rattle.sc_tree.specs.declared.token.Token.{Token}
use Rattle.sc_tree.specs.declared.token.Punct.{Punct}
use Rattle.sc_tree.specs.declared.token.Punct.TheVariants as sign
use Rattle.sc_tree.specs.Tables.{◌>>=◌}
use Rattle.sc_tree.specs.Tokens.{punct, first_pos}
use Rattle.sc_parse_front.specs.Front.{front, behind, is_comma}
use Rattle.sc_parse_expr.specs.Read.{Read, read, Parse, Listed, listing, listed, commas, many}
use Rattle.sc_parse_expr.specs.Reading.{with_item}
use Rattle.sc_parse_expr.proofs.Tools.{bind_some, if_is, test_is, given, Splits, none, glue, One, front_is, comma}

-- the tokens that an item took
pub record Item {A : Type 0} (Good : A → ℕ → List Token → Type 0) (ts : List Token) (a : Read A) : Type 0 where
  pub span : List Token
  pub split : Splits ts span a.rest
  pub good : Good a.it a.height span

-- items with commas between
pub data Chained {A : Type 0} (Good : A → ℕ → List Token → Type 0) : List A → ℕ → List Token → Type 0 where
  last : {x : A} {h : ℕ} {s : List Token} → Good x h s → Chained Good (x ∷ []) h s
  more : {x : A} {xs : List A} {h m : ℕ} {s r : List Token} (p : Pos) → Good x h s → Chained Good xs m r
      → Chained Good (x ∷ xs) (max h m) (s ++ punct sign.Comma p ∷ r)

-- what stands behind the last: nothing, or a comma where the test says that the items end
pub data Ending (ends : Option Punct → Bool) : Bool → List Token → List Token → Type 0 where
  plain : (rest : List Token) → Ending ends false [] rest
  with_comma : (p : Pos) (rest : List Token) → ends (front rest) ≡ true → Ending ends true (punct sign.Comma p ∷ []) rest

-- items one after the other
pub data Row {A : Type 0} (Good : A → ℕ → List Token → Type 0) : List A → ℕ → List Token → Type 0 where
  empty : Row Good [] 0 []
  next : {x : A} {xs : List A} {h m : ℕ} {s r : List Token} → Good x h s → Row Good xs m r → Row Good (x ∷ xs) (max h m) (s ++ r)

-- all items added in order
abbrev pub all_added : {A B : Type 0} → (B → A → B) → B → List A → B
all_added add b [] = b
all_added add b (x ∷ xs) = all_added add (add b x) xs

pub all_items : {A : Type 0} (before xs : List A) → all_added with_item before xs ≡ before ++ xs
all_items before [] = sym (append-nil before)
all_items before (x ∷ xs) = all_items (before ++ x ∷ []) xs ∙ append_assoc before (x ∷ []) xs

pub record TookListed {A B : Type 0} (add : B → A → B) (ends : Option Punct → Bool) (Good : A → ℕ → List Token → Type 0) (b : B) (h : ℕ)
    (ts : List Token) (r : Read (Listed B)) : Type 0 where
  pub xs : List A
  pub height : ℕ
  pub span : List Token
  pub tail : List Token
  pub split : Splits ts (span ++ tail) r.rest
  pub chained : Chained Good xs height span
  pub tall : r.height ≡ max h height
  pub whole : r.it.items ≡ all_added add b xs
  pub ending : Ending ends r.it.comma tail r.rest

pub record TookMany {A B : Type 0} (add : B → A → B) (ends : Option Punct → Bool) (Good : A → ℕ → List Token → Type 0) (b : B) (h : ℕ)
    (ts : List Token) (r : Read B) : Type 0 where
  pub xs : List A
  pub height : ℕ
  pub span : List Token
  pub split : Splits ts span r.rest
  pub row : Row Good xs height span
  pub tall : r.height ≡ max h height
  pub whole : r.it ≡ all_added add b xs
  pub ended : ends (front r.rest) ≡ true

regroup : {ts rest : List Token} (s x t : List Token) → Splits ts (s ++ (x ++ t)) rest → Splits ts ((s ++ x) ++ t) rest
regroup {ts = ts} {rest = rest} s x t e = subst (λ (u : List Token). Splits ts u rest) (sym (append_assoc s x t)) e

module _ {A B : Type 0} (item : Parse A) (add : B → A → B) (ends : Option Punct → Bool) (Good : A → ℕ → List Token → Type 0)
    (reads : (ts : List Token) (a : Read A) → item ts ≡ Some a → Item Good ts a) where
  onto_more : (b : B) (h : ℕ) (ts : List Token) (a : Read A) (i : Item Good ts a) (us : List Token) (p : Pos)
      → One a.rest (punct sign.Comma p) us → (r : Read (Listed B))
      → TookListed add ends Good (add b a.it) (max h a.height) us r → TookListed add ends Good b h ts r
  onto_more b h ts a i us p c r t = record {
    xs = a.it ∷ t.xs;
    height = max a.height t.height;
    span = i.span ++ punct sign.Comma p ∷ t.span;
    tail = t.tail;
    split = regroup i.span (punct sign.Comma p ∷ t.span) t.tail (glue i.split (glue c t.split));
    chained = more p i.good t.chained;
    tall = (let e = t.tall in omega arith);
    whole = t.whole;
    ending = t.ending;
  }

  listing_took : (go : B → ℕ → Parse (Listed B)) → ((ys : B) (m : ℕ) (us : List Token) (r : Read (Listed B)) → go ys m us ≡ Some r
      → TookListed add ends Good ys m us r)
      → (b : B) (h : ℕ) (ts : List Token) (a : Read A) → Item Good ts a → (r : Read (Listed B)) (c : Bool) → is_comma (front a.rest) ≡ c
      → listing item add ends go (add b a.it) (max h a.height) c (if c then behind a.rest else a.rest) ≡ Some r → TookListed add ends Good b h ts r
  unfolding listing
  listing_took go ih b h ts a i r false is e = given (λ (y : Read (Listed B)). TookListed add ends Good b h ts y) _ r e
      (record {
        xs = a.it ∷ [];
        height = a.height;
        span = i.span;
        tail = [];
        split = glue i.split (none a.rest);
        chained = last i.good;
        tall = refl;
        whole = refl;
        ending = plain a.rest;
      })
  listing_took go ih b h ts a i r true is e =
      let c = front_is a.rest sign.Comma (comma (front a.rest) is) in
      ⊎_elim
      (λ t. given (λ (y : Read (Listed B)). TookListed add ends Good b h ts y) _ r (t.1)
      (record {
        xs = a.it ∷ [];
        height = a.height;
        span = i.span;
        tail = punct sign.Comma (first_pos a.rest) ∷ [];
        split = glue i.split c;
        chained = last i.good;
        tall = refl;
        whole = refl;
        ending = with_comma (first_pos a.rest) (behind a.rest) t.0;
      }))
      (λ t. onto_more b h ts a i (behind a.rest) (first_pos a.rest) c r (ih (add b a.it) (max h a.height) (behind a.rest) r t.1))
      (if_is (ends (front (behind a.rest))) (Some (read (record { items = add b a.it; comma = true }) (max h a.height) (behind a.rest)))
      (go (add b a.it) (max h a.height) (behind a.rest)) (Some r) e)

  -- what stands between commas
  pub commas_took : (n : ℕ) (b : B) (h : ℕ) (ts : List Token) (r : Read (Listed B)) → commas item add ends n b h ts ≡ Some r → TookListed add ends Good b h ts r
  unfolding commas listed
  commas_took zero b h ts r e = absurd cc
  commas_took (suc n) b h ts r e =
      let a = bind_some (item ts) (λ a. listed item add ends (λ ys m us. commas item add ends n ys m us) b h a) r e in
      listing_took (λ ys m us. commas item add ends n ys m us) (λ ys m us q d. commas_took n ys m us q d) b h ts a.value
      (reads ts a.value a.is) r (is_comma (front a.value.rest)) refl a.gives

  ended_there : (b : B) (h : ℕ) (ts : List Token) (r : Read B) → ends (front ts) ≡ true → Some (read b h ts) ≡ Some r → TookMany add ends Good b h ts r
  ended_there b h ts r is e = given (λ (y : Read B). TookMany add ends Good b h ts y) _ r e
      (record { xs = []; height = 0; span = []; split = none ts; row = empty; tall = omega arith; whole = refl; ended = is })

  onto_next : (b : B) (h : ℕ) (ts : List Token) (a : Read A) (i : Item Good ts a) (r : Read B)
      → TookMany add ends Good (add b a.it) (max h a.height) a.rest r → TookMany add ends Good b h ts r
  onto_next b h ts a i r t = record {
    xs = a.it ∷ t.xs;
    height = max a.height t.height;
    span = i.span ++ t.span;
    split = glue i.split t.split;
    row = next i.good t.row;
    tall = (let e = t.tall in omega arith);
    whole = t.whole;
    ended = t.ended;
  }

  -- what stands up to where the test says that it ends
  pub many_took : (n : ℕ) (b : B) (h : ℕ) (ts : List Token) (r : Read B) → many item add ends n b h ts ≡ Some r → TookMany add ends Good b h ts r
  unfolding many
  many_took zero b h ts r e = let t = test_is (ends (front ts)) (Some (read b h ts)) r e in ended_there b h ts r t.0 t.1
  many_took (suc n) b h ts r e = ⊎_elim
      (λ t. ended_there b h ts r t.0 t.1)
      (λ t. let a = bind_some (item ts) (λ a. many item add ends n (add b a.it) (max h a.height) a.rest) r t.1 in
      onto_next b h ts a.value (reads ts a.value a.is) r (many_took n (add b a.value.it) (max h a.value.height) a.value.rest r a.gives))
      (if_is (ends (front ts)) (Some (read b h ts)) (item ts >>= λ a. many item add ends n (add b a.it) (max h a.height) a.rest) (Some r) e)
