-- One callee more, and one function more.
use Rattle.std.proofs.Common.{◌≡◌, ℕ, ◌+◌, ◌<◌, ◌&&◌, Bool, true, false, cond, not, List, [], ◌∷◌, ◌++◌, length, map, filter, take, leb, get_or, refl, sym, subst, ap, ◌∙◌, append_assoc, append-nil, rules}
use Rattle.std.proofs.lemmas.List.Elements.{filter_more}
use Rattle.std.proofs.lemmas.List.{map-append}
use Rattle.std.proofs.lemmas.Grind.{flat_map-append}
use Rattle.std.specs.List.{Contains, flat_map, range_with_len}
use Rattle.std.specs.List.Sorted.{IsStrictlyIncreasing}
use Rattle.plan_core.specs.declared.plan.Edge.{Edge}
use Rattle.plan_core.specs.Graph.{callees, is_cut, kept_callees, cut_callees, cut_edges, reaches, IsGraph}
use Rattle.call_graph.specs.declared.plans.Reaching.{Reaching}
use Rattle.call_graph.specs.Plans.{cuts, is_back, edge, Tells}
use Rattle.call_graph.proofs.Whole.{kept_of_row, cut_of_row}
use Rattle.call_graph.proofs.Entries.{range_more}

same_item : (row : List ℕ) (i : ℕ) → i < length row → get_or row i (get_or row i 0) ≡ get_or row i 0
same_item row i below = search (rules, below)

-- what is told of an edge
told : (rows : List (List ℕ)) (r : Reaching) (f i : ℕ) (row : List ℕ) (b : Bool) → Tells rows r
    → (f < length rows) × (callees rows f ≡ row) → i < length row → b ≡ cuts r f (get_or row i 0) → b ≡ is_cut rows f (get_or row i 0)
told rows r f i row b tells here below is =
    let x = get_or row i 0 in
    let has : Contains (callees rows f) x = subst (λ xs. Contains xs x) (sym here.1) (i, below, same_item row i below) in
    is ∙ ap (λ t. t && leb x f) (tells f x here.0 has)

pub kept_more : (rows : List (List ℕ)) (r : Reaching) (f i : ℕ) (row : List ℕ) (b : Bool) (kept next : List ℕ) → Tells rows r
    → (f < length rows) × (callees rows f ≡ row) → i < length row → b ≡ cuts r f (get_or row i 0)
    → kept ≡ filter (λ g. not (is_cut rows f g)) (take i row) → next ≡ kept ++ cond (not b) (get_or row i 0 ∷ []) []
    → next ≡ filter (λ g. not (is_cut rows f g)) (take (i + 1) row)
kept_more rows r f i row b kept next tells here below is so_far step =
    let x = get_or row i 0 in
    let test : ℕ → Bool = λ g. not (is_cut rows f g) in
    step ∙ ap (λ ks. ks ++ cond (not b) (x ∷ []) []) so_far
    ∙ ap (λ t. filter test (take i row) ++ cond (not t) (x ∷ []) []) (told rows r f i row b tells here below is)
    ∙ sym (filter_more test row i 0 below)

map_cond : (f x : ℕ) (t : Bool) → map (edge f) (cond t (x ∷ []) []) ≡ cond t (edge f x ∷ []) []
map_cond f x true = refl
map_cond f x false = refl

pub cut_more : (rows : List (List ℕ)) (r : Reaching) (f i : ℕ) (row : List ℕ) (b : Bool) (before cut next : List Edge) → Tells rows r
    → (f < length rows) × (callees rows f ≡ row) → i < length row → b ≡ cuts r f (get_or row i 0)
    → cut ≡ before ++ map (edge f) (filter (is_cut rows f) (take i row)) → next ≡ cut ++ cond b (edge f (get_or row i 0) ∷ []) []
    → next ≡ before ++ map (edge f) (filter (is_cut rows f) (take (i + 1) row))
cut_more rows r f i row b before cut next tells here below is so_far step =
    let x = get_or row i 0 in
    let shown = filter (is_cut rows f) (take i row) in
    let last = cond (is_cut rows f x) (x ∷ []) [] in
    step ∙ ap (λ es. es ++ cond b (edge f x ∷ []) []) so_far
    ∙ ap (λ t. (before ++ map (edge f) shown) ++ cond t (edge f x ∷ []) []) (told rows r f i row b tells here below is)
    ∙ append_assoc before (map (edge f) shown) (cond (is_cut rows f x) (edge f x ∷ []) [])
    ∙ ap (λ es. before ++ es) (ap (λ es. map (edge f) shown ++ es) (sym (map_cond f x (is_cut rows f x)))
    ∙ sym (map-append (edge f) shown last) ∙ ap (map (edge f)) (sym (filter_more (is_cut rows f) row i 0 below)))

-- the rows and the edges of the plan, with those of one function more
pub rows_more : (rows : List (List ℕ)) (f : ℕ) (so_far : List (List ℕ)) (kept : List ℕ) → IsGraph rows → IsStrictlyIncreasing (callees rows f)
    → so_far ≡ map (kept_callees rows) (range_with_len 0 f) → kept ≡ filter (λ g. not (is_cut rows f g)) (callees rows f)
    → so_far ++ kept ∷ [] ≡ map (kept_callees rows) (range_with_len 0 (f + 1))
rows_more rows f so_far kept graph rising is last =
    range_more (kept_callees rows) f so_far kept is (last ∙ sym (kept_of_row rows f graph rising))

map-same : (xs : List ℕ) → map (λ (g : ℕ). g) xs ≡ xs
map-same [] = refl
map-same (x ∷ xs) = ap (λ ys. x ∷ ys) (map-same xs)

range_one_more : (f : ℕ) → range_with_len 0 (f + 1) ≡ range_with_len 0 f ++ f ∷ []
range_one_more f =
    sym (map-same (range_with_len 0 (f + 1))) ∙ sym (range_more (λ g. g) f (range_with_len 0 f) f (sym (map-same (range_with_len 0 f))) refl)

pub edges_more : (rows : List (List ℕ)) (f : ℕ) (so_far next : List Edge) → IsGraph rows → IsStrictlyIncreasing (callees rows f)
    → so_far ≡ flat_map (cut_edges rows) (range_with_len 0 f) → next ≡ so_far ++ map (edge f) (filter (is_cut rows f) (callees rows f))
    → next ≡ flat_map (cut_edges rows) (range_with_len 0 (f + 1))
edges_more rows f so_far next graph rising is step =
    step ∙ ap (λ es. es ++ map (edge f) (filter (is_cut rows f) (callees rows f))) is
    ∙ ap (λ gs. flat_map (cut_edges rows) (range_with_len 0 f) ++ map (edge f) gs) (sym (cut_of_row rows f graph rising))
    ∙ ap (λ es. flat_map (cut_edges rows) (range_with_len 0 f) ++ es) (sym (append-nil (cut_edges rows f)))
    ∙ sym (flat_map-append (cut_edges rows) (range_with_len 0 f) (f ∷ []))
    ∙ ap (flat_map (cut_edges rows)) (sym (range_one_more f))
