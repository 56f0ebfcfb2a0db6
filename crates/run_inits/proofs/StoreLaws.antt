-- The stores of braces make what the initialiser does.
use Rattle.std.proofs.Common.{◌≡◌, ℕ, zero, suc, ◌+◌, ◌<◌, List, [], ◌∷◌, ◌++◌, map, refl, sym, ap, ◌∙◌, append_assoc}
use Rattle.std.proofs.Common.{Option, Bool, true, false, length, drop, slice_index_or, add-one, arith}
use Rattle.std.proofs.lemmas.List.{append-nil}
use Rattle.std.specs.Prelude.{Ok, Err, Result, Some, None}
use Rattle.run_store.specs.Concrete.{Cell}
use Rattle.sc_world.specs.Tree.{Given, Braces}
use Rattle.sc_world.specs.World.{World, Ended, Run, Env, goes_on, done, store}
use Rattle.sc_world.specs.Eval.{cells_of, store_all}
use Rattle.sc_world.specs.Exec.{part_at, cells_given, all_given, clear, set_part, set_parts, initialise}
use Rattle.run_inits.specs.Stores.{Due, stores, paired, part_stores, given_stores, all_stores, joined}

-- what is gathered of one value, and then of the others
then_more : {A : Type 0} (front p : List A) (r : Result (List A) Ended × World)
    → joined front (goes_on r (λ ps. done (p ++ ps))) ≡ joined (front ++ p) r
then_more front p (Ok ps, w) = ap (λ xs. (Ok xs, w)) (sym (append_assoc front p ps))
then_more front p (Err e, w) = refl

abbrev gathered : {A : Type 0} → List A → Result (List A) Ended × World → List A
gathered d (Ok xs, w) = xs
gathered d (Err e, w) = d

abbrev world_of : {A : Type 0} → Result A Ended × World → World
world_of (r, w) = w

abbrev goes : {A : Type 0} → Result A Ended × World → Bool
goes (Ok a, w) = true
goes (Err e, w) = false

joined_next : {A : Type 0} (front new : List A) (after : World) (r : Result (List A) Ended × World)
    (f : Run (List A))
    → joined front r ≡ (Ok new, after)
    → joined front (goes_on r (λ p. λ w. goes_on (f w) (λ ps. done (p ++ ps)))) ≡ joined new (f after)
joined_next front new after (Ok p, w) f h =
    let is : front ++ p ≡ new = ap (gathered front) h in
    let at : w ≡ after = ap world_of h in
    then_more front p (f w) ∙ (ap (λ xs. joined xs (f w)) is ∙ ap (λ u. joined new (f u)) at)
joined_next front new after (Err e, w) f h = let no : false ≡ true = ap goes h in absurd (cc)

joined_ends : {A : Type 0} (front : List A) (e : Ended) (after : World) (r : Result (List A) Ended × World)
    (f : Run (List A))
    → joined front r ≡ (Err e, after)
    → joined front (goes_on r (λ p. λ w. goes_on (f w) (λ ps. done (p ++ ps)))) ≡ (Err e, after)
joined_ends front e after (Ok p, w) f h = let no : true ≡ false = ap goes h in absurd (cc)
joined_ends front e after (Err d, w) f h = h

pub joined_none : {A : Type 0} (r : Result (List A) Ended × World) → joined [] r ≡ r
joined_none (Ok xs, w) = refl
joined_none (Err e, w) = refl

pub joined_end : {A : Type 0} (front : List A) (w : World) → joined front (Ok [], w) ≡ (Ok front, w)
joined_end front w = ap (λ xs. (Ok xs, w)) (append-nil front)

-- what a list is seen as from one on: that one, and the others
mapped_from : {A B : Type 0} (f : A → B) (xs : List A) (i : ℕ) (x : A) → i < length xs → x ≡ slice_index_or xs i x
    → map f (drop i xs) ≡ f x ∷ map f (drop (suc i) xs)
mapped_from f [] i x low is = absurd (omega arith)
mapped_from f (a ∷ xs) zero x low is = ap (λ y. f y ∷ map f xs) (sym is)
mapped_from f (a ∷ xs) (suc i) x low is = let low' : i < length xs = omega arith in mapped_from f xs i x low' is

pub next_mapped : {A B : Type 0} (f : A → B) (xs : List A) (i : ℕ) (x : A) → i < length xs → x ≡ slice_index_or xs i x
    → map f (drop i xs) ≡ f x ∷ map f (drop (i + 1) xs)
next_mapped f xs i x low is = mapped_from f xs i x low is ∙ ap (λ n. f x ∷ map f (drop n xs)) (sym (add-one i))

-- the next value is evaluated: what is gathered goes on behind what it sets
pub gathered_on : (env : Env) (at : ℕ) (x : Given) (all rest : List Given) (front new : List Due) (w after : World)
    (total : Result (List Due) Ended × World)
    → all ≡ x ∷ rest → joined front (given_stores env at x w) ≡ (Ok new, after)
    → joined front (all_stores env at all w) ≡ total → joined new (all_stores env at rest after) ≡ total
gathered_on env at x all rest front new w after total next one so_far =
    sym (joined_next front new after (given_stores env at x w) (λ w. all_stores env at rest w) one)
    ∙ (sym (ap (λ xs. joined front (all_stores env at xs w)) next) ∙ so_far)

-- the next value ends the run, and so do all of them
pub gathered_ends : (env : Env) (at : ℕ) (x : Given) (all rest : List Given) (front : List Due) (e : Ended)
    (w after : World) (total : Result (List Due) Ended × World)
    → all ≡ x ∷ rest → joined front (given_stores env at x w) ≡ (Err e, after)
    → joined front (all_stores env at all w) ≡ total → total ≡ (Err e, after)
gathered_ends env at x all rest front e w after total next one so_far =
    sym so_far
    ∙ (ap (λ xs. joined front (all_stores env at xs w)) next
    ∙ joined_ends front e after (given_stores env at x w) (λ w. all_stores env at rest w) one)

-- one value: what it sets stands behind what was gathered before
pub given_done : (env : Env) (at : ℕ) (x : Given) (front new : List Due) (c : List Cell) (w after : World)
    → cells_given x.value env w ≡ (Ok c, after) → new ≡ front ++ part_stores env (part_at env at x.way) c
    → joined front (given_stores env at x w) ≡ (Ok new, after)
given_done env at x front new c w after h is =
    ap (λ r. joined front (goes_on r (λ c. done (part_stores env (part_at env at x.way) c)))) h
    ∙ ap (λ ds. (Ok ds, after)) (sym is)

pub given_ends : (env : Env) (at : ℕ) (x : Given) (front : List Due) (e : Ended) (w after : World)
    → cells_given x.value env w ≡ (Err e, after) → joined front (given_stores env at x w) ≡ (Err e, after)
given_ends env at x front e w after h =
    ap (λ r. joined front (goes_on r (λ c. done (part_stores env (part_at env at x.way) c)))) h

-- stores one after another
stores_both : (ds es : List Due) (w : World) → stores (ds ++ es) w ≡ goes_on (stores ds w) (λ _. stores es)
stores_both [] es w = refl
stores_both (d ∷ ds) es w = stores_both ds es _

stores_paired : (ks : List ℕ) (cs : List Cell) (w : World) → store_all ks cs w ≡ stores (paired ks cs) w
stores_paired [] cs w = refl
stores_paired (k ∷ ks) [] w = refl
stores_paired (k ∷ ks) (c ∷ cs) w = stores_paired ks cs _

stores_of_part : (env : Env) (part : Option ℕ) (cs : List Cell) (w : World) → set_part env part cs w
    ≡ stores (part_stores env part cs) w
stores_of_part env None cs w = refl
stores_of_part env (Some at) cs w = stores_paired (cells_of env.layout at) cs w

abbrev of_all : Env → ℕ → List Given → List (List Cell) → List Due
of_all env at [] cs = []
of_all env at (x ∷ xs) [] = []
of_all env at (x ∷ xs) (c ∷ cs) = part_stores env (part_at env at x.way) c ++ of_all env at xs cs

-- steps that are the same behind each answer
goes_on_same : {A B : Type 0} (r : Result A Ended × World) (f g : A → Run B) → ((a : A) (w : World) → f a w ≡ g a w)
    → goes_on r f ≡ goes_on r g
goes_on_same (Ok a, w) f g h = h a w
goes_on_same (Err e, w) f g h = refl

-- the parts are set by these stores
set_by_stores : (env : Env) (at : ℕ) (xs : List Given) (cs : List (List Cell)) (w : World)
    → set_parts env at xs cs w ≡ stores (of_all env at xs cs) w
set_by_stores env at [] cs w = refl
set_by_stores env at (x ∷ xs) [] w = refl
set_by_stores env at (x ∷ xs) (c ∷ cs) w =
    goes_on_same (set_part env (part_at env at x.way) c w) (λ _. set_parts env at xs cs)
    (λ _. stores (of_all env at xs cs)) (λ _ w. set_by_stores env at xs cs w)
    ∙ (ap (λ r. goes_on r (λ _. stores (of_all env at xs cs))) (stores_of_part env (part_at env at x.way) c w)
    ∙ sym (stores_both (part_stores env (part_at env at x.way) c) (of_all env at xs cs) w))

-- all values are evaluated, and their stores are those that are gathered
more_of_all : (env : Env) (at : ℕ) (x : Given) (xs : List Given) (c : List Cell)
    (r : Result (List (List Cell)) Ended × World)
    → goes_on (goes_on r (λ cs. done (of_all env at xs cs)))
    (λ es. done (part_stores env (part_at env at x.way) c ++ es))
    ≡ goes_on (goes_on r (λ cs. done (c ∷ cs))) (λ cs. done (of_all env at (x ∷ xs) cs))
more_of_all env at x xs c (Ok cs, w) = refl
more_of_all env at x xs c (Err e, w) = refl

gathered_one : (env : Env) (at : ℕ) (x : Given) (xs : List Given) (r : Result (List Cell) Ended × World)
    → ((w : World) → all_stores env at xs w ≡ goes_on (all_given xs env w) (λ cs. done (of_all env at xs cs)))
    → goes_on (goes_on r (λ c. done (part_stores env (part_at env at x.way) c)))
    (λ ds. λ w. goes_on (all_stores env at xs w) (λ es. done (ds ++ es)))
    ≡ goes_on (goes_on r (λ c. λ w. goes_on (all_given xs env w) (λ cs. done (c ∷ cs))))
    (λ cs. done (of_all env at (x ∷ xs) cs))
gathered_one env at x xs (Ok c, w) h =
    ap (λ r. goes_on r (λ es. done (part_stores env (part_at env at x.way) c ++ es))) (h w)
    ∙ more_of_all env at x xs c (all_given xs env w)
gathered_one env at x xs (Err e, w) h = refl

gathered_all : (env : Env) (at : ℕ) (xs : List Given) (w : World)
    → all_stores env at xs w ≡ goes_on (all_given xs env w) (λ cs. done (of_all env at xs cs))
gathered_all env at [] w = refl
gathered_all env at (x ∷ xs) w = gathered_one env at x xs (cells_given x.value env w) (gathered_all env at xs)

-- braces
abbrev behind : Env → ℕ → List Due → Run (Unit {0})
behind env at ds w = goes_on (clear env (cells_of env.layout at) w) (λ _. stores ds)

braces_by : (env : Env) (at : ℕ) (xs : List Given) (r : Result (List (List Cell)) Ended × World)
    → goes_on r (λ cs. λ w. goes_on (clear env (cells_of env.layout at) w) (λ _. set_parts env at xs cs))
    ≡ goes_on (goes_on r (λ cs. done (of_all env at xs cs))) (λ ds. behind env at ds)
braces_by env at xs (Ok cs, w) =
    goes_on_same (clear env (cells_of env.layout at) w) (λ _. set_parts env at xs cs)
    (λ _. stores (of_all env at xs cs)) (λ _ w. set_by_stores env at xs cs w)
braces_by env at xs (Err e, w) = refl

braces_are : (env : Env) (at : ℕ) (xs : List Given) (w : World)
    → initialise at (Braces xs) env w ≡ goes_on (all_stores env at xs w) (λ ds. behind env at ds)
braces_are env at xs w =
    braces_by env at xs (all_given xs env w) ∙ ap (λ r. goes_on r (λ ds. behind env at ds))
    (sym (gathered_all env at xs w))

pub braces_end : (env : Env) (at : ℕ) (xs : List Given) (e : Ended) (w after : World) → all_stores env at xs w
    ≡ (Err e, after)
    → initialise at (Braces xs) env w ≡ (Err e, after)
braces_end env at xs e w after h = braces_are env at xs w ∙ ap (λ r. goes_on r (λ ds. behind env at ds)) h

pub braces_done : (env : Env) (at : ℕ) (xs : List Given) (ds : List Due) (w gathered cleared after : World)
    → all_stores env at xs w ≡ (Ok ds, gathered)
    → clear env (cells_of env.layout at) gathered ≡ (Ok tt, cleared) → stores ds cleared ≡ (Ok tt, after)
    → initialise at (Braces xs) env w ≡ (Ok tt, after)
braces_done env at xs ds w gathered cleared after all clears stored =
    braces_are env at xs w
    ∙ (ap (λ r. goes_on r (λ ds. behind env at ds)) all
    ∙ (ap (λ r. goes_on r (λ _. stores ds)) clears ∙ stored))

pub ruleset given_steps = (given_done, given_ends)

pub ruleset gather_steps = (joined_none, joined_end)
