-- The marks that are set are the rows of the call graph, which are ascending and within the program.
use Rattle.std.proofs.Common.{◌≡◌, ℕ, zero, suc, ◌+◌, ◌<◌, ◌≤◌, ◌^◌, Bool, true, false, ◌||◌, cond, List, [], ◌∷◌, ◌++◌, length, map, filter, replicate, set, get_or, eqb, if◌then◌else◌, refl, ap, sym, subst, ◌∙◌, ⊎_elim, arith}
use Rattle.std.specs.List.{All, list_any, range_with_len, Contains}
use Rattle.std.proofs.lemmas.Bool.{cases_lt}
use Rattle.std.proofs.lemmas.Bool.Decides.{eqb_tells}
use Rattle.std.proofs.lemmas.List.{get_or_past, get_or-set_same, get_or-set_other, length-set, get_or-replicate, length-replicate, ext_get_or}
use Rattle.std.proofs.lemmas.List.Elements.{All-contains, All-filter}
use Rattle.std.proofs.lemmas.List.FromFn.{get_or-map-range_with_len, length-map-range_with_len, length-range_with_len, get_or-range_with_len}
use Rattle.std.proofs.lemmas.List.Kept.{IsStrictlyIncreasing-filter}
use Rattle.std.specs.List.Sorted.{IsStrictlyIncreasing}
use Rattle.sc_typed.specs.declared.program.Program.{Program}
use Rattle.sc_world.specs.Source.{Source}
use Rattle.plan_core.specs.Graph.{callees, IsGraph}
use Rattle.program_verdicts.specs.CallGraph.{in_stm, calls_body, functions, row, rows}
use Rattle.program_plan.specs.Graphs.{row_in}
use Rattle.program_plan.specs.Marks.{marked, set_from, mark_stm}
use Rattle.program_plan.proofs.Marks.{stm}

-- A mark is set where it was, or where its function is among those that are marked.

or_false : (a : Bool) → a ≡ (a || false)
or_false true = refl
or_false false = refl

or_true : (a : Bool) → true ≡ (a || true)
or_true true = refl
or_true false = refl

or_three : (a b c : Bool) → ((a || b) || c) ≡ (a || (b || c))
or_three true b c = refl
or_three false b c = refl

set_one : (m : List Bool) (g k : ℕ) → k < length m → get_or (set m g true) k false ≡ (get_or m k false || eqb k g)
set_one m g k inside =
    ⊎_elim
    (λ same.
    subst (λ b. get_or (set m g true) k false ≡ (get_or m k false || b)) (sym same.0)
    (subst (λ j. get_or (set m j true) k false ≡ true) same.1 (get_or-set_same m k true false inside)
    ∙ or_true (get_or m k false)))
    (λ other.
    subst (λ b. get_or (set m g true) k false ≡ (get_or m k false || b)) (sym other.0)
    (get_or-set_other m g k true false other.1 ∙ or_false (get_or m k false)))
    (eqb_tells k g)

length_marked : (gs : List ℕ) (m : List Bool) → length (marked m gs) ≡ length m
length_marked [] m = refl
length_marked (g ∷ gs) m = length_marked gs (set m g true) ∙ length-set m g true

get_marked : (gs : List ℕ) (m : List Bool) (k : ℕ) → k < length m
    → get_or (marked m gs) k false ≡ (get_or m k false || calls_body gs k)
get_marked [] m k inside = or_false (get_or m k false)
get_marked (g ∷ gs) m k inside =
    get_marked gs (set m g true) k (subst (λ n. k < n) (sym (length-set m g true)) inside)
    ∙ (ap (λ b. b || calls_body gs k) (set_one m g k inside)
    ∙ or_three (get_or m k false) (eqb k g) (calls_body gs k))

-- where none was set before, the marks are the tests of all functions
table : (gs : List ℕ) (n : ℕ) → marked (replicate n false) gs ≡ map (calls_body gs) (range_with_len 0 n)
table gs n =
    let same : length (marked (replicate n false) gs) ≡ n = length_marked gs (replicate n false) ∙ length-replicate n false in
    ext_get_or false (marked (replicate n false) gs) (map (calls_body gs) (range_with_len 0 n))
    (same ∙ sym (length-map-range_with_len (calls_body gs) 0 n))
    (λ k below.
    let inside : k < n = subst (λ j. k < j) same below in
    get_marked gs (replicate n false) k (subst (λ j. k < j) (sym (length-replicate n false)) inside)
    ∙ (ap (λ b. b || calls_body gs k) (get_or-replicate n k false false inside)
    ∙ sym (get_or-map-range_with_len (calls_body gs) 0 n k k false inside (omega arith))))

-- what is set of such a table is what passes the test

by_test : (b : Bool) (x : ℕ) (xs ys : List ℕ) → xs ≡ ys → (if b then x ∷ xs else xs) ≡ cond b (x ∷ ys) ys
by_test true x xs ys p = ap (λ zs. x ∷ zs) p
by_test false x xs ys p = p

set_table : (p : ℕ → Bool) (a n : ℕ) → set_from a (map p (range_with_len a n)) ≡ filter p (range_with_len a n)
set_table p a zero = refl
set_table p a (suc n) =
    by_test (p a) a (set_from (a + 1) (map p (range_with_len (a + 1) n))) (filter p (range_with_len (a + 1) n))
    (set_table p (a + 1) n)

pub marks_are_calls : (p : Program) (s : Source)
    → set_from 0 (mark_stm s s.body (replicate (length p.functions) false)) ≡ row_in p s
marks_are_calls p s =
    ap (set_from 0) (stm s s.body (replicate (length p.functions) false) ∙ table (in_stm s s.body) (length p.functions))
    ∙ set_table (calls_body (in_stm s s.body)) 0 (length p.functions)

-- The rows are a graph, and ascending.

callees_inside : (p : Program) (f : ℕ) → f < length p.functions → callees (rows p) f ≡ row p f
callees_inside p f inside = get_or-map-range_with_len (row p) 0 (length p.functions) f f [] inside (omega arith)

callees_past : (p : Program) (f : ℕ) → length p.functions ≤ f → callees (rows p) f ≡ []
callees_past p f past =
    get_or_past (rows p) f [] (subst (λ n. n ≤ f) (sym (length-map-range_with_len (row p) 0 (length p.functions))) past)

rising_range : (n : ℕ) → IsStrictlyIncreasing (range_with_len 0 n)
rising_range n k below =
    let lower : k + 1 < n = subst (λ m. k + 1 < m) (length-range_with_len 0 n) below in
    omega (arith, get_or-range_with_len 0 n k 0 (omega (arith, lower)), get_or-range_with_len 0 n (k + 1) 0 lower)

pub rows_ascend : (p : Program) (f : ℕ) → IsStrictlyIncreasing (callees (rows p) f)
rows_ascend p f =
    ⊎_elim
    (λ inside. subst IsStrictlyIncreasing (sym (callees_inside p f inside))
    (IsStrictlyIncreasing-filter _ (functions p) (rising_range (length p.functions))))
    (λ past. subst IsStrictlyIncreasing (sym (callees_past p f past)) (λ k below. absurd (omega (arith, below))))
    (cases_lt f (length p.functions))

all_below : (n : ℕ) → All (λ g. g < n) (range_with_len 0 n)
all_below n k d below =
    let inside : k < n = subst (λ m. k < m) (length-range_with_len 0 n) below in
    omega (arith, inside, get_or-range_with_len 0 n k d inside)

within : (p : Program) (f g : ℕ) → Contains (callees (rows p) f) g → g < length p.functions
within p f g has =
    ⊎_elim
    (λ inside.
    All-contains (λ h. h < length p.functions) (row p f) g
    (All-filter _ (λ h. h < length p.functions) (functions p) (all_below (length p.functions)))
    (subst (λ gs. Contains gs g) (callees_inside p f inside) has))
    (λ past.
    let none : Contains [] g = subst (λ gs. Contains gs g) (callees_past p f past) has in
    absurd (omega (arith, none.1)))
    (cases_lt f (length p.functions))

pub rows_are_graph : (p : Program) → length p.functions < 2 ^ 32 → IsGraph (rows p)
rows_are_graph p few =
    let same = length-map-range_with_len (row p) 0 (length p.functions) in
    record {
      few = subst (λ n. n < 2 ^ 32) (sym same) few;
      inside = λ f g has. subst (λ n. g < n) (sym same) (within p f g has);
    }
