-- One assumed literal more.

use Rattle.std.proofs.Common.{◌≡◌, ◌<◌, Bool, true, false, not, ◌&&◌, if◌then◌else◌, List, [], ◌∷◌, ◌++◌, length, set, take, take_all, get_or, slice_get, Some, ℕ, zero, suc, ◌+◌, refl, sym, subst, ap, ◌∙◌, arith}
use Rattle.std.proofs.lemmas.List.{set_at, take_more, length-map, map-append}
use Rattle.std.proofs.lemmas.List.Folds.{list_all-append}
use Rattle.std.proofs.lemmas.List.Elements.{All-push}
use Rattle.std.proofs.lemmas.Bool.{and_from, false≢true, true_from_ne_false}
use Rattle.std.proofs.lemmas.Option.{slice_get-get_or, slice_get_within}
use Rattle.sat_base.specs.declared.literal.Lit.{Lit}
use Rattle.sat_base.specs.Logic.{negation, lit_true, each_true, all_true, satisfied, LitsBelow}
use Rattle.query.specs.Values.{values_of, CanHold, IsSeen, fixed_to}

pub below_push : (n : ℕ) (lits more : List Lit) (l : Lit) → more ≡ lits ++ l ∷ [] → LitsBelow n lits → l.var < n → LitsBelow n more
below_push n lits more l is below here = subst (LitsBelow n) (sym is) (All-push (λ q. q.var < n) lits l below here)

and-true : (b : Bool) → (b && true) ≡ b
and-true true = refl
and-true false = refl

pub and_assoc : (a b c : Bool) → (a && (b && c)) ≡ ((a && b) && c)
and_assoc true b c = refl
and_assoc false b c = refl

pub each_true-push : (f : ℕ → Bool) (lits : List Lit) (l : Lit) → each_true f (lits ++ l ∷ []) ≡ (each_true f lits && lit_true f l)
each_true-push f lits l = list_all-append (lit_true f) lits (l ∷ []) ∙ ap (λ b. each_true f lits && b) (and-true (lit_true f l))

pub satisfied-push : (f : ℕ → Bool) (clauses : List (List Lit)) (lits : List Lit) (l : Lit)
    → satisfied f clauses (lits ++ l ∷ []) ≡ (satisfied f clauses lits && lit_true f l)
satisfied-push f clauses lits l =
    ap (λ b. all_true f clauses && b) (each_true-push f lits l) ∙ and_assoc (all_true f clauses) (each_true f lits) (lit_true f l)

negated_value : (neg x : Bool) → (if not neg then not x else x) ≡ not (if neg then not x else x)
negated_value true true = refl
negated_value true false = refl
negated_value false true = refl
negated_value false false = refl

pub lit_true-negation : (f : ℕ → Bool) (l : Lit) → lit_true f (negation l) ≡ not (lit_true f l)
unfolding lit_true
lit_true-negation f l = negated_value l.neg (f l.var)

-- where no model has the bit false, every model has it true
pub forced_high : (clauses : List (List Lit)) (lits more : List Lit) (bit : Lit)
    → more ≡ lits ++ negation bit ∷ [] → ((f : ℕ → Bool) → satisfied f clauses more ≡ false)
    → (f : ℕ → Bool) → satisfied f clauses lits ≡ true → lit_true f bit ≡ true
forced_high clauses lits more bit is none f holds =
    true_from_ne_false (lit_true f bit)
    (λ low.
    let neg : lit_true f (negation bit) ≡ true = lit_true-negation f bit ∙ ap not low in
    let all : satisfied f clauses more ≡ true =
    ap (satisfied f clauses) is ∙ satisfied-push f clauses lits (negation bit)
    ∙ and_from (satisfied f clauses lits) (lit_true f (negation bit)) holds neg in
    false≢true (sym (none f) ∙ all))

pub can_hold_high : (clauses : List (List Lit)) (lits more fixed : List Lit) (bit : Lit)
    → more ≡ lits ++ negation bit ∷ [] → ((f : ℕ → Bool) → satisfied f clauses more ≡ false)
    → fixed ≡ lits ++ bit ∷ [] → CanHold clauses lits → CanHold clauses fixed
can_hold_high clauses lits more fixed bit is none now some = (
  some.0,
  ap (satisfied some.0 clauses) now ∙ satisfied-push some.0 clauses lits bit
      ∙ and_from (satisfied some.0 clauses lits) (lit_true some.0 bit) some.1 (forced_high clauses lits more bit is none some.0 some.1),
)

var-fixed_to : (value : Bool) (bit : Lit) → (fixed_to value bit).var ≡ bit.var
var-fixed_to true bit = refl
var-fixed_to false bit = refl

pub below_fixed : (n : ℕ) (lits more : List Lit) (value : Bool) (bit : Lit)
    → more ≡ lits ++ fixed_to value bit ∷ [] → LitsBelow n lits → bit.var < n → LitsBelow n more
below_fixed n lits more value bit is below here =
    below_push n lits more (fixed_to value bit) is below (subst (λ v. v < n) (sym (var-fixed_to value bit)) here)

-- the last literal, replaced
pub set_last : (lits more : List Lit) (n : ℕ) (low bit : Lit) → more ≡ lits ++ low ∷ [] → length lits ≡ n → set more n bit ≡ lits ++ bit ∷ []
set_last lits more n low bit is end = ap (λ ls. set ls n bit) is ∙ set_at lits low [] bit n end

-- the value of a bit in a list of the values of bits
seen_at : (f : ℕ → Bool) (bits : List Lit) (place : ℕ) (bit : Lit) (d : Bool) → slice_get bits place ≡ Some bit → get_or (values_of f bits) place d ≡ lit_true f bit
seen_at f [] place bit d here = cc
seen_at f (b ∷ bits) zero bit d here = let same : b ≡ bit = cc in ap (lit_true f) same
seen_at f (b ∷ bits) (suc place) bit d here = seen_at f bits place bit d here

pub seen_width : (clauses : List (List Lit)) (fixed bits : List Lit) (values : List Bool) → IsSeen clauses fixed bits values → length values ≡ length bits
seen_width clauses fixed bits values seen = ap length (sym seen.values_are) ∙ length-map bits (lit_true seen.model)

seen_bit : (clauses : List (List Lit)) (fixed bits : List Lit) (values : List Bool) (place : ℕ) (bit : Lit) (d b : Bool)
    → (seen : IsSeen clauses fixed bits values) → slice_get bits place ≡ Some bit → get_or values place d ≡ b → lit_true seen.model bit ≡ b
seen_bit clauses fixed bits values place bit d b seen here is =
    sym (seen_at seen.model bits place bit d here) ∙ ap (λ vs. get_or vs place d) seen.values_are ∙ is

-- the model seen has the bit false, or true, and so it is one of that half
pub seen_low : (clauses : List (List Lit)) (lits more bits : List Lit) (values : List Bool) (place : ℕ) (bit : Lit) (d : Bool)
    → IsSeen clauses lits bits values → slice_get bits place ≡ Some bit → get_or values place d ≡ false
    → more ≡ lits ++ negation bit ∷ [] → IsSeen clauses more bits values
seen_low clauses lits more bits values place bit d seen here is pushed =
    let low : lit_true seen.model (negation bit) ≡ true =
    lit_true-negation seen.model bit ∙ ap not (seen_bit clauses lits bits values place bit d false seen here is) in
    record {
      model = seen.model;
      holds =
          ap (satisfied seen.model clauses) pushed ∙ satisfied-push seen.model clauses lits (negation bit)
          ∙ and_from (satisfied seen.model clauses lits) (lit_true seen.model (negation bit)) seen.holds low;
      values_are = seen.values_are;
    }

pub seen_up : (clauses : List (List Lit)) (lits more bits : List Lit) (values : List Bool) (place : ℕ) (bit : Lit) (d : Bool)
    → IsSeen clauses lits bits values → slice_get bits place ≡ Some bit → get_or values place d ≡ true
    → more ≡ lits ++ bit ∷ [] → IsSeen clauses more bits values
seen_up clauses lits more bits values place bit d seen here is pushed =
    record {
      model = seen.model;
      holds =
          ap (satisfied seen.model clauses) pushed ∙ satisfied-push seen.model clauses lits bit
          ∙ and_from (satisfied seen.model clauses lits) (lit_true seen.model bit) seen.holds (seen_bit clauses lits bits values place bit d true seen here is);
      values_are = seen.values_are;
    }

-- no model has the bit false, and so the model seen has it true
pub seen_forced : (clauses : List (List Lit)) (lits more fixed bits : List Lit) (values : List Bool) (bit : Lit)
    → more ≡ lits ++ negation bit ∷ [] → ((f : ℕ → Bool) → satisfied f clauses more ≡ false)
    → fixed ≡ lits ++ bit ∷ [] → IsSeen clauses lits bits values → IsSeen clauses fixed bits values
unfolding can_hold_high
seen_forced clauses lits more fixed bits values bit is none now seen = record {
  model = seen.model;
  holds = (can_hold_high clauses lits more fixed bit is none now (seen.model, seen.holds)).1;
  values_are = seen.values_are;
}

-- the values found so far, and one more
pub found_more : (f : ℕ → Bool) (bits : List Lit) (values more : List Bool) (i : ℕ) (d : Lit) (value : Bool)
    → i < length bits → values ≡ values_of f (take i bits) → more ≡ values ++ value ∷ [] → value ≡ lit_true f (get_or bits i d)
    → more ≡ values_of f (take (i + 1) bits)
found_more f bits values more i d value inside so_far pushed is =
    pushed ∙ ap (λ vs. vs ++ value ∷ []) so_far ∙ ap (λ v. values_of f (take i bits) ++ v ∷ []) is
    ∙ sym (map-append (lit_true f) (take i bits) (get_or bits i d ∷ [])) ∙ ap (values_of f) (sym (take_more bits i d inside))

pub found_all : (f : ℕ → Bool) (bits : List Lit) (values : List Bool) (i : ℕ) → length bits ≡ i → values ≡ values_of f (take i bits) → values ≡ values_of f bits
found_all f bits values i end so_far = so_far ∙ ap (values_of f) (take_all i bits (omega (arith, end)))

-- a bit is one of the variables that exist
pub bit_below : (n : ℕ) (bits : List Lit) (place : ℕ) (bit : Lit) → LitsBelow n bits → slice_get bits place ≡ Some bit → bit.var < n
bit_below n bits place bit below here =
    let inside : place < length bits = slice_get_within bits place bit here in
    let there : Some (get_or bits place bit) ≡ Some bit = sym (slice_get-get_or bits place bit inside) ∙ here in
    let same : get_or bits place bit ≡ bit = cc in
    subst (λ l. l.var < n) same (below place bit inside)

pub bit_at : (bits : List Lit) (place : ℕ) (d : Lit) → place < length bits → slice_get bits place ≡ Some (get_or bits place d)
bit_at bits place d inside = slice_get-get_or bits place d inside
