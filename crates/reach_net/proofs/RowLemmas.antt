-- Rows of gates that are put together, and the greatest gate and the widths of rows.
use Rattle.std.proofs.Common.{◌≡◌, ℕ, zero, suc, ◌+◌, ◌<◌, ◌≤◌, max, Bool, true, false, ◌&&◌, ◌||◌, List, [], ◌∷◌, ◌++◌, length, length-append, take}
use Rattle.std.proofs.Common.{get_or, Vec, refl, sym, ◌∙◌, ap, subst, arith}
use Rattle.std.proofs.lemmas.List.{take_more, take_all}
use Rattle.std.specs.declared.alloc.Global.{Global}
use Rattle.bit_net.specs.declared.nodes.Gate.{Gate}
use Rattle.bit_net.specs.declared.nodes.Node.{Node}
use Rattle.bit_net.specs.Runs.{Runs, Grown}
use Rattle.reach_net.specs.Walks.{holds_at, pointed, rows_of, EachWide, gates_top, rows_top}
use Rattle.reach_net.specs.Reached.{IsWidened, IsFoundThrough, IsThrough}

pub gates_top-nil : gates_top [] ≡ 0
unfolding gates_top
gates_top-nil = refl

gates_top-append : (xs ys : List Gate) → gates_top (xs ++ ys) ≡ max (gates_top xs) (gates_top ys)
unfolding gates_top
gates_top-append [] ys = omega arith
gates_top-append (x ∷ xs) ys = omega (arith, gates_top-append xs ys)

pub gates_top-push : (xs : List Gate) (g : Gate) → gates_top (xs ++ g ∷ []) ≡ max (gates_top xs) (g.at + 1)
unfolding gates_top
gates_top-push xs g = omega (arith, gates_top-append xs (g ∷ []))

pub gate_below : (gs : List Gate) (i : ℕ) (d : Gate) → i < length gs → (get_or gs i d).at < gates_top gs
unfolding gates_top
gate_below [] i d h = absurd (omega arith)
gate_below (g ∷ gs) zero d h = omega arith
gate_below (g ∷ gs) (suc i) d h = let low : i < length gs = omega arith in omega (arith, gate_below gs i d low)

pub holds_at_place : (v : ℕ → Bool) (gs : List Gate) (i : ℕ) (d : Gate) → i < length gs → holds_at v gs i ≡ v (get_or gs i d).at
unfolding holds_at
holds_at_place v [] i d h = absurd (omega arith)
holds_at_place v (g ∷ gs) zero d h = refl
holds_at_place v (g ∷ gs) (suc i) d h = let low : i < length gs = omega arith in holds_at_place v gs i d low

-- each gate of a row has a value, or is reached by way of an object: the row has a gate for that where c holds, and the object has a gate
abbrev pub Widens : (v : ℕ → Bool) (c : Bool) → (row next wider : List Gate) → Type 0
Widens v c [] [] [] = Unit {0}
Widens v c (x ∷ xs) (y ∷ ys) (z ∷ zs) = (v z.at ≡ (v x.at || (c && v y.at))) × Widens v c xs ys zs
Widens v c _ _ _ = ⊥

pub Widens-push : (v : ℕ → Bool) (c : Bool) (xs ys zs : List Gate) (x y z : Gate) → Widens v c xs ys zs → v z.at ≡ (v x.at || (c && v y.at))
    → Widens v c (xs ++ x ∷ []) (ys ++ y ∷ []) (zs ++ z ∷ [])
Widens-push v c [] [] [] x y z h e = (e, tt)
Widens-push v c (p ∷ xs) (q ∷ ys) (r ∷ zs) x y z h e = (h.0, Widens-push v c xs ys zs x y z h.1 e)
Widens-push v c _ _ _ x y z h e = absurd h

nothing : (c : Bool) → false ≡ (false || (c && false))
nothing true = refl
nothing false = refl

pub Widens-at : (v : ℕ → Bool) (c : Bool) (xs ys zs : List Gate) (j : ℕ) → Widens v c xs ys zs → holds_at v zs j ≡ (holds_at v xs j || (c && holds_at v ys j))
unfolding holds_at
Widens-at v c [] [] [] j h = nothing c
Widens-at v c (x ∷ xs) (y ∷ ys) (z ∷ zs) zero h = h.0
Widens-at v c (x ∷ xs) (y ∷ ys) (z ∷ zs) (suc j) h = Widens-at v c xs ys zs j h.1
Widens-at v c _ _ _ j h = absurd h

-- one more gate of the row
pub Widens-step : (v : ℕ → Bool) (row next zs zs' : List Gate) (i k : ℕ) (d : Gate) (z : Gate) → length next ≡ length row → i < length row
    → k < length row → zs' ≡ zs ++ z ∷ []
    → Widens v (holds_at v row k) (take i row) (take i next) zs → v z.at ≡ (v (get_or row i d).at || (v (get_or row k d).at && v (get_or next i d).at))
    → Widens v (holds_at v row k) (take (i + 1) row) (take (i + 1) next) zs'
Widens-step v row next zs zs' i k d z wide low place pushed h e =
    let low' : i < length next = omega arith in
    let e' : v z.at ≡ (v (get_or row i d).at || (holds_at v row k && v (get_or next i d).at)) =
    e ∙ ap (λ b. v (get_or row i d).at || (b && v (get_or next i d).at)) (sym (holds_at_place v row k d place)) in
    let more : Widens v (holds_at v row k) (take i row ++ get_or row i d ∷ []) (take i next ++ get_or next i d ∷ []) (zs ++ z ∷ []) =
    Widens-push v (holds_at v row k) (take i row) (take i next) zs (get_or row i d) (get_or next i d) z h e' in
    rw (take_more row i d low, take_more next i d low', pushed) more

pub Widens-none : (v : ℕ → Bool) (c : Bool) (zs : List Gate) → zs ≡ [] → Widens v c [] [] zs
Widens-none v c zs e = subst (Widens v c [] []) (sym e) tt

-- the whole row
pub widened_whole : (ns : List Node) (k i : ℕ) (row next wider : List Gate) → length next ≡ length row → length row ≤ i → length wider ≡ length row
    → gates_top wider ≤ length ns
    → ((choice v : ℕ → Bool) → Runs ns choice v → Widens v (holds_at v row k) (take i row) (take i next) wider) → IsWidened ns k row next wider
widened_whole ns k i row next wider wide all count below value = record {
  wide = count;
  below = below;
  value = λ choice v r j. Widens-at v (holds_at v row k) row next wider j (rw (
    take_all i row all,
    take_all i next
        (let all' : length next ≤ i = omega arith in all'),
  ) at (value choice v r));
}

-- a row that does not reach the object stays as it is
pub widened_same : (old ns : List Node) (k : ℕ) (d : Gate) (row next same : List Gate) → Grown old ns → k < length row → gates_top row ≤ length old
    → same ≡ row
    → ((choice v : ℕ → Bool) → Runs ns choice v → v (get_or row k d).at ≡ false) → IsWidened ns k row next same
widened_same old ns k d row next same g low below e never = record {
  wide = ap length e;
  below = omega (arith, ap gates_top e, below, g.longer);
  value = λ choice v r j. ap (λ l. holds_at v l j) e ∙ by (holds_at v row k) (holds_at v row j) (holds_at v next j) (holds_at_place v row k d low
      ∙ never choice v r);
}
  where
    by : (c x y : Bool) → c ≡ false → x ≡ (x || (c && y))
    by true x y h = absurd (cc)
    by false true y h = refl
    by false false y h = refl

-- the rows with what object k adds to each, where object k has a gate for the objects where next holds
abbrev pub EachWidens : (v : ℕ → Bool) (k : ℕ) (next : ℕ → Bool) → (rows wider : List (List Gate)) → Type 0
EachWidens v k next [] [] = Unit {0}
EachWidens v k next (r ∷ rs) (s ∷ ss) = ((j : ℕ) → holds_at v s j ≡ (holds_at v r j || (holds_at v r k && next j))) × EachWidens v k next rs ss
EachWidens v k next _ _ = ⊥

pub EachWidens-push : (v : ℕ → Bool) (k : ℕ) (next : ℕ → Bool) (rs ss : List (List Gate)) (r s : List Gate) → EachWidens v k next rs ss
    → ((j : ℕ) → holds_at v s j ≡ (holds_at v r j || (holds_at v r k && next j))) → EachWidens v k next (rs ++ r ∷ []) (ss ++ s ∷ [])
EachWidens-push v k next [] [] r s h e = (e, tt)
EachWidens-push v k next (p ∷ rs) (q ∷ ss) r s h e = (h.0, EachWidens-push v k next rs ss r s h.1 e)
EachWidens-push v k next _ _ r s h e = absurd h

pub EachWidens-at : (v : ℕ → Bool) (k : ℕ) (next : ℕ → Bool) (rs ss : List (List Gate)) (i j : ℕ) → EachWidens v k next rs ss
    → pointed v ss i j ≡ (pointed v rs i j || (pointed v rs i k && next j))
unfolding pointed
EachWidens-at v k next [] [] i j h = refl
EachWidens-at v k next (r ∷ rs) (s ∷ ss) zero j h = h.0 j
EachWidens-at v k next (r ∷ rs) (s ∷ ss) (suc i) j h = EachWidens-at v k next rs ss i j h.1
EachWidens-at v k next _ _ i j h = absurd h

pub EachWidens-count : (v : ℕ → Bool) (k : ℕ) (next : ℕ → Bool) (rs ss : List (List Gate)) → EachWidens v k next rs ss → length ss ≡ length rs
EachWidens-count v k next [] [] h = refl
EachWidens-count v k next (r ∷ rs) (s ∷ ss) h = ap suc (EachWidens-count v k next rs ss h.1)
EachWidens-count v k next _ _ h = absurd h

-- rows of Vecs and the lists of their gates
pub length-rows_of : (rs : List (Vec Gate Global)) → length (rows_of rs) ≡ length rs
length-rows_of [] = refl
length-rows_of (r ∷ rs) = ap suc (length-rows_of rs)

pub rows_of-push : (rs : List (Vec Gate Global)) (r : Vec Gate Global) → rows_of (rs ++ r ∷ []) ≡ rows_of rs ++ r.items ∷ []
rows_of-push [] r = refl
rows_of-push (x ∷ rs) r = ap (λ l. x.items ∷ l) (rows_of-push rs r)

pub rows_of-take : (rs : List (Vec Gate Global)) (i : ℕ) (d : Vec Gate Global) → i < length rs
    → rows_of (take (i + 1) rs) ≡ rows_of (take i rs) ++ (get_or rs i d).items ∷ []
rows_of-take rs i d low = ap rows_of (take_more rs i d low) ∙ rows_of-push (take i rs) (get_or rs i d)

pub EachWide-at : (n : ℕ) (rs : List (Vec Gate Global)) (k : ℕ) (d : Vec Gate Global) → k < length rs → EachWide n (rows_of rs)
    → length (get_or rs k d).items ≡ n
EachWide-at n [] k d low h = absurd (omega arith)
EachWide-at n (r ∷ rs) zero d low h = h.0
EachWide-at n (r ∷ rs) (suc k) d low h = let low' : k < length rs = omega arith in EachWide-at n rs k d low' h.1

pub EachWide-push : (n : ℕ) (rs : List (List Gate)) (r : List Gate) → EachWide n rs → length r ≡ n → EachWide n (rs ++ r ∷ [])
EachWide-push n [] r h e = (e, tt)
EachWide-push n (x ∷ rs) r h e = (h.0, EachWide-push n rs r h.1 e)

pub rows_top-at : (rs : List (Vec Gate Global)) (k : ℕ) (d : Vec Gate Global) → k < length rs → gates_top (get_or rs k d).items ≤ rows_top (rows_of rs)
unfolding rows_top
rows_top-at [] k d low = absurd (omega arith)
rows_top-at (r ∷ rs) zero d low = omega arith
rows_top-at (r ∷ rs) (suc k) d low = let low' : k < length rs = omega arith in omega (arith, rows_top-at rs k d low')

pub rows_top-nil : rows_top [] ≡ 0
unfolding rows_top
rows_top-nil = refl

pub rows_top-push : (rs : List (List Gate)) (r : List Gate) → rows_top (rs ++ r ∷ []) ≡ max (rows_top rs) (gates_top r)
unfolding rows_top
rows_top-push [] r = omega arith
rows_top-push (x ∷ rs) r = omega (arith, rows_top-push rs r)

pub pointed-at : (v : ℕ → Bool) (rs : List (Vec Gate Global)) (k j : ℕ) (d : Vec Gate Global) → k < length rs
    → pointed v (rows_of rs) k j ≡ holds_at v (get_or rs k d).items j
unfolding pointed
pointed-at v [] k j d low = absurd (omega arith)
pointed-at v (r ∷ rs) zero j d low = refl
pointed-at v (r ∷ rs) (suc k) j d low = let low' : k < length rs = omega arith in pointed-at v rs k j d low'

pub ruleset row_laws = (gates_top-nil, gates_top-push, rows_top-nil, rows_top-push, length-rows_of)

-- one more row that is copied
pub copied_row : (rows all all' : List (Vec Gate Global)) (same : Vec Gate Global) (i : ℕ) (row : Vec Gate Global) → row ≡ get_or rows i row → i < length rows
    → all' ≡ all ++ same ∷ [] → same.items ≡ row.items → rows_of all ≡ rows_of (take i rows) → rows_of all' ≡ rows_of (take (i + 1) rows)
copied_row rows all all' same i row at low e f h =
    ap rows_of e ∙ rows_of-push all same ∙ ap (λ l. l ++ same.items ∷ []) h ∙ ap (λ g. rows_of (take i rows) ++ g ∷ []) f
    ∙ ap (λ (x : Vec Gate Global). rows_of (take i rows) ++ x.items ∷ []) at ∙ sym (rows_of-take rows i row low)

-- the row at a place
pub row_wide : (n : ℕ) (rs : List (Vec Gate Global)) (k : ℕ) (r : Vec Gate Global) (gates : List Gate) → r ≡ get_or rs k r → gates ≡ r.items
    → k < length rs → EachWide n (rows_of rs) → length gates ≡ n
row_wide n rs k r gates at e low h = ap length e ∙ ap (λ (x : Vec Gate Global). length x.items) at ∙ EachWide-at n rs k r low h

pub row_below : (rs : List (Vec Gate Global)) (k : ℕ) (r : Vec Gate Global) (gates : List Gate) → r ≡ get_or rs k r → gates ≡ r.items → k < length rs
    → gates_top gates ≤ rows_top (rows_of rs)
row_below rs k r gates at e low =
    let same : gates_top gates ≡ gates_top (get_or rs k r).items = ap gates_top e ∙ ap (λ (x : Vec Gate Global). gates_top x.items) at in
    omega (arith, rows_top-at rs k r low, same)

pub row_pointed : (v : ℕ → Bool) (rs : List (Vec Gate Global)) (k j : ℕ) (r : Vec Gate Global) (gates : List Gate) → r ≡ get_or rs k r
    → gates ≡ r.items → k < length rs
    → pointed v (rows_of rs) k j ≡ holds_at v gates j
row_pointed v rs k j r gates at e low = pointed-at v rs k j r low ∙ ap (λ (x : Vec Gate Global). holds_at v x.items j) (sym at)
    ∙ ap (λ l. holds_at v l j) (sym e)

-- the rows so far, of which each has what object k adds to it
pub record ThroughSoFar (ns : List Node) (k i : ℕ) (rows all : List (Vec Gate Global)) : Type 0 where
  pub count : length all ≡ i
  pub wide : EachWide (length rows) (rows_of all)
  pub below : rows_top (rows_of all) ≤ length ns
  pub value : (choice v : ℕ → Bool) → Runs ns choice v → EachWidens v k (pointed v (rows_of rows) k) (rows_of (take i rows)) (rows_of all)

pub through_none : (ns : List Node) (k : ℕ) (rows none : List (Vec Gate Global)) → none ≡ [] → ThroughSoFar ns k 0 rows none
through_none ns k rows none e = record {
  count = ap length e;
  wide = subst (λ (l : List (Vec Gate Global)). EachWide (length rows) (rows_of l)) (sym e) tt;
  below = omega (arith, ap (λ l. rows_top (rows_of l)) e, rows_top-nil);
  value = λ choice v r. subst (λ (l : List (Vec Gate Global)). EachWidens v k (pointed v (rows_of rows) k) (rows_of (take 0 rows)) (rows_of l)) (sym e) tt;
}

pub through_step : (old ns : List Node) (k i : ℕ) (rows all all' : List (Vec Gate Global)) (row next wider : Vec Gate Global) (gates others : List Gate)
    → row ≡ get_or rows i row → next ≡ get_or rows k next → gates ≡ row.items → others ≡ next.items → i < length rows → k < length rows
    → all' ≡ all ++ wider ∷ []
    → EachWide (length rows) (rows_of rows) → Grown old ns → IsWidened ns k gates others wider.items → ThroughSoFar old k i rows all
    → ThroughSoFar ns k (i + 1) rows all'
through_step old ns k i rows all all' row next wider gates others at_i at_k e f low_i low_k pushed square g w s =
    let added : rows_of all' ≡ rows_of all ++ wider.items ∷ [] = ap rows_of pushed ∙ rows_of-push all wider in
    let more : rows_of (take (i + 1) rows) ≡ rows_of (take i rows) ++ gates ∷ [] =
    rows_of-take rows i row low_i ∙ ap (λ (x : Vec Gate Global). rows_of (take i rows) ++ x.items ∷ []) (sym at_i)
    ∙ ap (λ l. rows_of (take i rows) ++ l ∷ []) (sym e) in
    record {
      count = omega (arith, ap length pushed, length-append all (wider ∷ []), s.count);
      wide = rw added (EachWide-push (length rows) (rows_of all) wider.items s.wide (w.wide ∙ row_wide (length rows) rows i row gates at_i e low_i square));
      below = omega (arith, ap rows_top added, rows_top-push (rows_of all) wider.items, s.below, g.longer, w.below);
      value = λ choice v r.
          rw (added, more) (EachWidens-push v k (pointed v (rows_of rows) k) (rows_of (take i rows)) (rows_of all) gates wider.items
          (s.value choice v (g.runs choice v r))
          (λ j. w.value choice v r j ∙ ap (λ b. holds_at v gates j || (holds_at v gates k && b)) (sym (row_pointed v rows k j next others at_k f low_k))));
    }

pub through_whole : (ns : List Node) (k i : ℕ) (rows all : List (Vec Gate Global)) → length rows ≤ i → i ≤ length rows → ThroughSoFar ns k i rows all
    → IsThrough ns k (rows_of rows) (rows_of all)
through_whole ns k i rows all past within s = record {
  count = omega (arith, length-rows_of rows, length-rows_of all, s.count);
  wide = subst (λ (n : ℕ). EachWide n (rows_of all)) (sym (length-rows_of rows)) s.wide;
  below = s.below;
  value = λ choice v r i' j. EachWidens-at v k (pointed v (rows_of rows) k) (rows_of rows) (rows_of all) i' j
      (subst (λ (l : List (Vec Gate Global)). EachWidens v k (pointed v (rows_of rows) k) (rows_of l) (rows_of all)) (take_all i rows past)
      (s.value choice v r));
}

-- the objects found with what object k adds to them
pub found_through : (ns : List Node) (k : ℕ) (rows : List (Vec Gate Global)) (next : Vec Gate Global) (others found wider : List Gate)
    → next ≡ get_or rows k next → others ≡ next.items → k < length rows
    → IsWidened ns k found others wider → IsFoundThrough ns k (rows_of rows) found wider
found_through ns k rows next others found wider at e low w = record {
  wide = w.wide;
  below = w.below;
  value = λ choice v r j. w.value choice v r j ∙ ap (λ b. holds_at v found j || (holds_at v found k && b)) (sym
      (row_pointed v rows k j next others at e low));
}

-- rows that are read as a slice
pub same_square : (rs rows : List (Vec Gate Global)) (n : ℕ) → rs ≡ rows → length (rows_of rows) ≡ n → EachWide n (rows_of rows)
    → EachWide (length rs) (rows_of rs)
same_square rs rows n e count wide =
    let whole : n ≡ length rows = omega (arith, length-rows_of rows) in
    subst (λ (l : List (Vec Gate Global)). EachWide (length l) (rows_of l)) (sym e) (subst (λ (m : ℕ). EachWide m (rows_of rows)) whole wide)

-- rows that are made one after another
pub no_rows : (n : ℕ) (rows : List (Vec Gate Global)) → rows ≡ [] → EachWide n (rows_of rows) × (rows_top (rows_of rows) ≡ 0)
no_rows n rows e = (subst (λ (l : List (Vec Gate Global)). EachWide n (rows_of l)) (sym e) tt, ap (λ l. rows_top (rows_of l)) e ∙ rows_top-nil)

pub pushed_row : (n gates : ℕ) (rows rows' : List (Vec Gate Global)) (row : Vec Gate Global) → rows' ≡ rows ++ row ∷ [] → length row.items ≡ n
    → gates_top row.items ≤ gates
    → EachWide n (rows_of rows) → rows_top (rows_of rows) ≤ gates → EachWide n (rows_of rows') × (rows_top (rows_of rows') ≤ gates)
pushed_row n gates rows rows' row e wide below each all =
    let added : rows_of rows' ≡ rows_of rows ++ row.items ∷ [] = ap rows_of e ∙ rows_of-push rows row in
    (rw added (EachWide-push n (rows_of rows) row.items each wide), omega (arith, ap rows_top added, rows_top-push (rows_of rows) row.items, below, all))
