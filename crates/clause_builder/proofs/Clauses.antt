-- Clauses added one after the other.

use Rattle.std.proofs.Common.{◌≡◌, ℕ, ◌<◌, ◌≤◌, Bool, true, false, ◌&&◌, ◌||◌, List, [], ◌∷◌, ◌++◌, append-nil, append_assoc, refl, sym, subst, ap, ◌∙◌}
use Rattle.std.proofs.lemmas.List.Folds.{list_all-append}
use Rattle.std.proofs.lemmas.List.Elements.{All-nil, All-cons, All-append}
use Rattle.std.specs.List.{All}
use Rattle.sat_base.specs.declared.literal.Lit.{Lit}
use Rattle.sat_base.specs.Logic.{lit_true, some_true, all_true, negation, LitsBelow}
use Rattle.clause_builder.specs.Adding.{Adds, AddsFresh}

pub below_one : (n : ℕ) (a : Lit) → a.var < n → LitsBelow n (a ∷ [])
below_one n a ha = All-cons (λ l. l.var < n) a [] ha (All-nil (λ l. l.var < n))

pub below_two : (n : ℕ) (a b : Lit) → a.var < n → b.var < n → LitsBelow n (a ∷ b ∷ [])
below_two n a b ha hb = All-cons (λ l. l.var < n) a (b ∷ []) ha (below_one n b hb)

pub below_three : (n : ℕ) (a b c : Lit) → a.var < n → b.var < n → c.var < n → LitsBelow n (a ∷ b ∷ c ∷ [])
below_three n a b c ha hb hc = All-cons (λ l. l.var < n) a (b ∷ c ∷ []) ha (below_two n b c hb hc)

or-false : (b : Bool) → (b || false) ≡ b
or-false true = refl
or-false false = refl

and-true : (b : Bool) → (b && true) ≡ b
and-true true = refl
and-true false = refl

or_assoc : (a b c : Bool) → (a || (b || c)) ≡ (a || b || c)
or_assoc true b c = refl
or_assoc false b c = refl

adds_clause : (old new : List (List Lit)) (clause : List Lit) → new ≡ old ++ clause ∷ [] → Adds old new (λ f. some_true f clause)
adds_clause old new clause is f =
    ap (all_true f) is
    ∙ list_all-append (some_true f) old (clause ∷ [])
    ∙ ap (λ b. all_true f old && b) (and-true (some_true f clause))

pub adds_one : (old new : List (List Lit)) (a : Lit) → new ≡ old ++ (a ∷ []) ∷ [] → Adds old new (λ f. lit_true f a)
adds_one old new a is f = adds_clause old new (a ∷ []) is f ∙ ap (λ b. all_true f old && b) (or-false (lit_true f a))

pub adds_two : (old new : List (List Lit)) (a b : Lit) → new ≡ old ++ (a ∷ b ∷ []) ∷ [] → Adds old new (λ f. lit_true f a || lit_true f b)
adds_two old new a b is f =
    adds_clause old new (a ∷ b ∷ []) is f ∙ ap (λ t. all_true f old && (lit_true f a || t)) (or-false (lit_true f b))

pub adds_three : (old new : List (List Lit)) (a b c : Lit) → new ≡ old ++ (a ∷ b ∷ c ∷ []) ∷ []
    → Adds old new (λ f. lit_true f a || lit_true f b || lit_true f c)
adds_three old new a b c is f =
    adds_clause old new (a ∷ b ∷ c ∷ []) is f
    ∙ ap (λ t. all_true f old && (lit_true f a || (lit_true f b || t))) (or-false (lit_true f c))
    ∙ ap (λ t. all_true f old && t) (or_assoc (lit_true f a) (lit_true f b) (lit_true f c))

-- nothing was added
pub fresh_same : (base : ℕ) (old new : List (List Lit)) → new ≡ old → AddsFresh base old new
fresh_same base old new is =
    record { added = []; split = is ∙ sym (append-nil old); fresh = All-nil (λ clause. All (λ l. base ≤ l.var) clause) }

fresh_clause : (base : ℕ) (old new : List (List Lit)) (clause : List Lit)
    → new ≡ old ++ clause ∷ [] → All (λ l. base ≤ l.var) clause → AddsFresh base old new
fresh_clause base old new clause is all =
    record {
      added = clause ∷ [];
      split = is;
      fresh = All-cons (λ c. All (λ l. base ≤ l.var) c) clause [] all (All-nil (λ c. All (λ l. base ≤ l.var) c));
    }

from_one : (base : ℕ) (a : Lit) → base ≤ a.var → All (λ l. base ≤ l.var) (a ∷ [])
from_one base a ha = All-cons (λ l. base ≤ l.var) a [] ha (All-nil (λ l. base ≤ l.var))

from_two : (base : ℕ) (a b : Lit) → base ≤ a.var → base ≤ b.var → All (λ l. base ≤ l.var) (a ∷ b ∷ [])
from_two base a b ha hb = All-cons (λ l. base ≤ l.var) a (b ∷ []) ha (from_one base b hb)

pub fresh_one : (base : ℕ) (old new : List (List Lit)) (a : Lit) → new ≡ old ++ (a ∷ []) ∷ [] → base ≤ a.var → AddsFresh base old new
fresh_one base old new a is ha = fresh_clause base old new (a ∷ []) is (from_one base a ha)

pub fresh_two : (base : ℕ) (old new : List (List Lit)) (a b : Lit) → new ≡ old ++ (a ∷ b ∷ []) ∷ []
    → base ≤ a.var → base ≤ b.var → AddsFresh base old new
fresh_two base old new a b is ha hb = fresh_clause base old new (a ∷ b ∷ []) is (from_two base a b ha hb)

pub fresh_three : (base : ℕ) (old new : List (List Lit)) (a b c : Lit) → new ≡ old ++ (a ∷ b ∷ c ∷ []) ∷ []
    → base ≤ a.var → base ≤ b.var → base ≤ c.var → AddsFresh base old new
fresh_three base old new a b c is ha hb hc =
    fresh_clause base old new (a ∷ b ∷ c ∷ []) is (All-cons (λ l. base ≤ l.var) a (b ∷ c ∷ []) ha (from_two base b c hb hc))

-- more was added
pub fresh_more : (base : ℕ) (a b c : List (List Lit)) → AddsFresh base a b → AddsFresh base b c → AddsFresh base a c
fresh_more base a b c first next =
    record {
      added = first.added ++ next.added;
      split = next.split ∙ ap (λ cs. cs ++ next.added) first.split ∙ append_assoc a first.added next.added;
      fresh = All-append (λ clause. All (λ l. base ≤ l.var) clause) first.added next.added first.fresh next.fresh;
    }

-- a literal and its negation have one variable
pub from_negation : (base : ℕ) (n l : Lit) → n ≡ negation l → base ≤ l.var → base ≤ n.var
from_negation base n l is from = subst (λ q. base ≤ q.var) (sym is) from
