-- The bits are fixed one after the other, each as low as a model allows.

use Rattle.std.proofs.Common.{◌≡◌, ℕ, ◌+◌, ◌<◌, Bool, true, false, not, ◌&&◌, List, [], ◌∷◌, ◌++◌, length, length-append, take, take_all, get_or, refl, sym, subst, ap, ◌∙◌, arith}
use Rattle.std.proofs.lemmas.List.{take_more, length-map, map-append}
use Rattle.std.proofs.lemmas.Bool.{and_parts, and_from, false≢true}
use Rattle.sat_base.specs.declared.literal.Lit.{Lit}
use Rattle.sat_base.specs.Logic.{lit_true, each_true, all_true, satisfied}
use Rattle.query.specs.Values.{values_of, is_before, fixed_to, CanHold, Hits, HasNone, IsLeast}
use Rattle.query.proofs.Order.{is_before-push_low, is_before-push_high}
use Rattle.query.proofs.Fixed.{and_assoc, each_true-push, lit_true-negation}

-- both hold, or neither does
pub alike : Bool → Bool → Bool
alike true b = b
alike false b = not b

-- these literals have these values
pub have : (ℕ → Bool) → List Lit → List Bool → Bool
have f [] w = true
have f (l ∷ ls) [] = false
have f (l ∷ ls) (x ∷ w) = alike (lit_true f l) x && have f ls w

lit_true-fixed_to : (f : ℕ → Bool) (value : Bool) (l : Lit) → lit_true f (fixed_to value l) ≡ alike (lit_true f l) value
unfolding alike
lit_true-fixed_to f true l = elim (lit_true f l) as (λ x. x ≡ alike x true) [ true ↦ refl | false ↦ refl ]
lit_true-fixed_to f false l =
    lit_true-negation f l ∙ (elim (lit_true f l) as (λ x. not x ≡ alike x false) [ true ↦ refl | false ↦ refl ])

and-true' : (b : Bool) → (b && true) ≡ b
and-true' true = refl
and-true' false = refl

have-push : (f : ℕ → Bool) (ls : List Lit) (w : List Bool) (l : Lit) (x : Bool) → length w ≡ length ls
    → have f (ls ++ l ∷ []) (w ++ x ∷ []) ≡ (have f ls w && alike (lit_true f l) x)
unfolding have
have-push f [] [] l x same = and-true' (alike (lit_true f l) x)
have-push f [] (y ∷ w) l x same = absurd (omega (arith, same))
have-push f (q ∷ ls) [] l x same = absurd (omega (arith, same))
have-push f (q ∷ ls) (y ∷ w) l x same =
    ap (λ b. alike (lit_true f q) y && b) (have-push f ls w l x (omega (arith, same)))
    ∙ and_assoc (alike (lit_true f q) y) (have f ls w) (alike (lit_true f l) x)

alike_same : (x : Bool) → alike x x ≡ true
unfolding alike
alike_same true = refl
alike_same false = refl

same_from_alike : (x y : Bool) → alike x y ≡ true → x ≡ y
unfolding alike
same_from_alike true true is = refl
same_from_alike true false is = absurd (false≢true is)
same_from_alike false true is = absurd (false≢true is)
same_from_alike false false is = refl

have_values : (f : ℕ → Bool) (ls : List Lit) → have f ls (values_of f ls) ≡ true
unfolding have
have_values f [] = refl
have_values f (l ∷ ls) = and_from (alike (lit_true f l) (lit_true f l)) (have f ls (values_of f ls)) (alike_same (lit_true f l)) (have_values f ls)

values_from_have : (f : ℕ → Bool) (ls : List Lit) (w : List Bool) → length w ≡ length ls → have f ls w ≡ true → values_of f ls ≡ w
unfolding have
values_from_have f [] [] same holds = refl
values_from_have f [] (x ∷ w) same holds = absurd (omega (arith, same))
values_from_have f (l ∷ ls) [] same holds = absurd (omega (arith, same))
values_from_have f (l ∷ ls) (x ∷ w) same holds =
    let parts = and_parts (alike (lit_true f l) x) (have f ls w) holds in
    ap (λ y. y ∷ values_of f ls) (same_from_alike (lit_true f l) x parts.0)
    ∙ ap (λ ys. x ∷ ys) (values_from_have f ls w (omega (arith, same)) parts.1)

-- w is the least so far: the literals fixed are the goals and the bits of the front with the values w
pub record Narrowed (clauses : List (List Lit)) (front : List Lit) (goals : List Lit) (w : List Bool) (fixed : List Lit) : Type 0 where
  pub wide : length w ≡ length front
  pub exact : (f : ℕ → Bool) → each_true f fixed ≡ (each_true f goals && have f front w)
  pub some : CanHold clauses fixed
  pub least : (f : ℕ → Bool) → Hits f clauses goals → is_before w (values_of f front) ≡ true

narrowed_none : (clauses : List (List Lit)) (goals : List Lit) (fixed : List Lit) → fixed ≡ goals → CanHold clauses fixed → Narrowed clauses [] goals [] fixed
unfolding have
narrowed_none clauses goals fixed is some =
    record { wide = refl; exact = λ f. ap (each_true f) is ∙ sym (and-true' (each_true f goals)); some = some; least = λ f hits. refl }

narrowed_push : (clauses : List (List Lit)) (front : List Lit) (goals : List Lit) (w : List Bool) (fixed more : List Lit) (l : Lit) (value : Bool)
    → more ≡ fixed ++ fixed_to value l ∷ [] → CanHold clauses more
    → (value ≡ true → (f : ℕ → Bool) → satisfied f clauses fixed ≡ true → lit_true f l ≡ true)
    → Narrowed clauses front goals w fixed → Narrowed clauses (front ++ l ∷ []) goals (w ++ value ∷ []) more
narrowed_push clauses front goals w fixed more l value is some forced narrowed =
    let wider : length (w ++ value ∷ []) ≡ length (front ++ l ∷ []) =
    let wide = narrowed.wide in omega (arith, wide, length-append w (value ∷ []), length-append front (l ∷ [])) in
    let equal_width : (f : ℕ → Bool) → length w ≡ length (values_of f front) = λ f. narrowed.wide ∙ sym (length-map front (lit_true f)) in
    record {
      wide = wider;
      exact =
          λ f.
          ap (each_true f) is
          ∙ each_true-push f fixed (fixed_to value l)
          ∙ ap (λ b. b && lit_true f (fixed_to value l)) (narrowed.exact f)
          ∙ ap (λ b. (each_true f goals && have f front w) && b) (lit_true-fixed_to f value l)
          ∙ sym (and_assoc (each_true f goals) (have f front w) (alike (lit_true f l) value))
          ∙ ap (λ b. each_true f goals && b) (sym (have-push f front w l value narrowed.wide));
      some = some;
      least =
          λ f hits.
          subst (λ vs. is_before (w ++ value ∷ []) vs ≡ true) (sym (map-append (lit_true f) front (l ∷ [])))
          ((elim value as
          (λ v. (v ≡ true → (h : ℕ → Bool) → satisfied h clauses fixed ≡ true → lit_true h l ≡ true)
          → is_before (w ++ v ∷ []) (values_of f front ++ lit_true f l ∷ []) ≡ true) [
            | true ↦
                λ high.
                is_before-push_high w (values_of f front) (lit_true f l) (equal_width f) (narrowed.least f hits)
                (λ same.
                high refl f
                (and_from (all_true f clauses) (each_true f fixed) hits.model
                (narrowed.exact f
                ∙ and_from (each_true f goals) (have f front w) hits.hit (subst (λ vs. have f front vs ≡ true) (sym same) (have_values f front)))))
            | false ↦ λ _. is_before-push_low w (values_of f front) (lit_true f l) (equal_width f) (narrowed.least f hits)
          ])
          forced);
    }

pub narrowed_more : (clauses now : List (List Lit)) (bits : List Lit) (goals : List Lit) (w v : List Bool) (fixed more : List Lit) (i : ℕ) (d : Lit) (value : Bool)
    → now ≡ clauses → i < length bits → v ≡ w ++ value ∷ []
    → more ≡ fixed ++ fixed_to value (get_or bits i d) ∷ [] → CanHold now more
    → (value ≡ true → (f : ℕ → Bool) → satisfied f now fixed ≡ true → lit_true f (get_or bits i d) ≡ true)
    → Narrowed clauses (take i bits) goals w fixed → Narrowed clauses (take (i + 1) bits) goals v more
narrowed_more clauses now bits goals w v fixed more i d value same inside next is some forced narrowed =
    subst (λ front. Narrowed clauses front goals v more) (sym (take_more bits i d inside))
    (subst (λ x. Narrowed clauses (take i bits ++ get_or bits i d ∷ []) goals x more) (sym next)
    (narrowed_push clauses (take i bits) goals w fixed more (get_or bits i d) value is
    (subst (λ cs. CanHold cs more) same some)
    (λ high f holds. forced high f (subst (λ cs. satisfied f cs fixed ≡ true) (sym same) holds))
    narrowed))

pub narrowed_start : (clauses : List (List Lit)) (goals : List Lit) (w : List Bool) (fixed : List Lit)
    → w ≡ [] → fixed ≡ goals → CanHold clauses fixed → Narrowed clauses [] goals w fixed
narrowed_start clauses goals w fixed start is some =
    subst (λ x. Narrowed clauses [] goals x fixed) (sym start) (narrowed_none clauses goals fixed is some)

pub can_hold_now : (clauses now : List (List Lit)) (front : List Lit) (goals : List Lit) (w : List Bool) (fixed : List Lit)
    → now ≡ clauses → Narrowed clauses front goals w fixed → CanHold now fixed
can_hold_now clauses now front goals w fixed same narrowed = subst (λ cs. CanHold cs fixed) (sym same) narrowed.some

pub least_from : (clauses : List (List Lit)) (bits : List Lit) (goals : List Lit) (w : List Bool) (fixed : List Lit) (i : ℕ)
    → length bits ≡ i → Narrowed clauses (take i bits) goals w fixed → IsLeast clauses bits goals w
least_from clauses bits goals w fixed i end narrowed =
    let whole : take i bits ≡ bits = take_all i bits (omega (arith, end)) in
    let all : Narrowed clauses bits goals w fixed = subst (λ front. Narrowed clauses front goals w fixed) whole narrowed in
    let f = all.some.0 in
    let holds = and_parts (all_true f clauses) (each_true f fixed) all.some.1 in
    let parts = and_parts (each_true f goals) (have f bits w) (sym (all.exact f) ∙ holds.1) in
    record {
      model = (f, record { model = holds.0; hit = parts.0 }, values_from_have f bits w all.wide parts.1);
      least = all.least;
    }

pub none_from : (clauses : List (List Lit)) (goals : List Lit) → ((f : ℕ → Bool) → satisfied f clauses goals ≡ false) → HasNone clauses goals
none_from clauses goals none f hits = false≢true (sym (none f) ∙ and_from (all_true f clauses) (each_true f goals) hits.model hits.hit)
