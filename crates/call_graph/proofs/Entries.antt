-- The whole table tells the truth, and its entries are those of the definition.
use Rattle.std.proofs.Common.{◌≡◌, ℕ, zero, suc, ◌+◌, ◌<◌, ◌&&◌, ◌||◌, Bool, false, List, [], ◌∷◌, ◌++◌, length, map, get_or, refl, ap, sym, subst, ◌∙◌, zero-add, arith}
use Rattle.std.proofs.lemmas.List.FromFn.{get_or-map-range_with_len, map-range_with_len_more}
use Rattle.std.specs.List.{range_with_len}
use Rattle.plan_core.specs.Graph.{functions, reaches_before}
use Rattle.call_graph.specs.Tables.{table_before, entry}

pub entry_before : (rows : List (List ℕ)) (k f g : ℕ) → f < length rows → g < length rows
    → entry (table_before rows k) f g ≡ reaches_before rows k f g
entry_before rows k f g inside there =
    ap (λ row. get_or row g false) (get_or-map-range_with_len (λ h. map (reaches_before rows k h) (functions rows)) 0 (length rows) f f [] inside (zero-add f))
    ∙ get_or-map-range_with_len (reaches_before rows k f) 0 (length rows) g g false there (zero-add g)

pub entry_next : (rows : List (List ℕ)) (k f g : ℕ) → k < length rows → f < length rows → g < length rows
    → (entry (table_before rows k) f g || (entry (table_before rows k) f k && entry (table_before rows k) k g))
    ≡ reaches_before rows (k + 1) f g
unfolding reaches_before
entry_next rows k f g mid inside there =
    let here : suc k ≡ k + 1 = omega arith in
    subst (λ m. (entry (table_before rows k) f g || (entry (table_before rows k) f k && entry (table_before rows k) k g)) ≡ reaches_before rows m f g) here
    (rw (entry_before rows k f g inside there) (rw (entry_before rows k f k inside mid) (rw (entry_before rows k k g mid there) refl)))

-- a list made along the functions, with one item more
pub range_more : {A : Type 0} (f : ℕ → A) (n : ℕ) (before : List A) (x : A) → before ≡ map f (range_with_len 0 n) → x ≡ f n
    → before ++ x ∷ [] ≡ map f (range_with_len 0 (n + 1))
range_more f n before x so_far is =
    ap (λ xs. xs ++ x ∷ []) so_far ∙ ap (λ y. map f (range_with_len 0 n) ++ y ∷ []) is ∙ sym (map-range_with_len_more f 0 n n (zero-add n))
