-- Relations that are let through one object after another, and walks.
use Rattle.std.proofs.Common.{◌≡◌, ℕ, zero, suc, ◌+◌, ◌<◌, ◌≤◌, Bool, true, false, ◌&&◌, ◌||◌, List, [], ◌∷◌, ◌++◌, length, Vec, refl, sym, ◌∙◌, ap}
use Rattle.std.proofs.Common.{subst, arith, ◌⊎◌, inl, inr}
use Rattle.std.proofs.lemmas.Bool.{cases_lt, and_parts, and_from}
use Rattle.std.specs.declared.alloc.Global.{Global}
use Rattle.bit_net.specs.declared.nodes.Gate.{Gate}
use Rattle.bit_net.specs.declared.nodes.Node.{Node}
use Rattle.bit_net.specs.Runs.{Runs, Grown}
use Rattle.reach_net.specs.Walks.{is_walk, end_of, Reached, holds_at, pointed, rows_of, EachWide, gates_top, rows_top}
use Rattle.reach_net.specs.Reached.{IsReached, IsFoundThrough, IsThrough}

-- a walk leads from one object to another
pub record Leads (points : ℕ → ℕ → Bool) (from to : ℕ) : Type 0 where
  pub walk : List ℕ
  pub walks : is_walk points from walk ≡ true
  pub ends : end_of from walk ≡ to

is_walk-append : (p : ℕ → ℕ → Bool) (i : ℕ) (xs ys : List ℕ) → is_walk p i xs ≡ true → is_walk p (end_of i xs) ys ≡ true → is_walk p i (xs ++ ys) ≡ true
is_walk-append p i [] ys h k = k
is_walk-append p i (x ∷ xs) ys h k =
    let parts = and_parts (p i x) (is_walk p x xs) h in
    and_from (p i x) (is_walk p x (xs ++ ys)) parts.0 (is_walk-append p x xs ys parts.1 k)

end_of-append : (i : ℕ) (xs ys : List ℕ) → end_of i (xs ++ ys) ≡ end_of (end_of i xs) ys
end_of-append i [] ys = refl
end_of-append i (x ∷ xs) ys = end_of-append x xs ys

Leads-one : (p : ℕ → ℕ → Bool) (i j : ℕ) → p i j ≡ true → Leads p i j
Leads-one p i j h = record { walk = j ∷ []; walks = and_from (p i j) true h refl; ends = refl }

Leads-trans : (p : ℕ → ℕ → Bool) (i j k : ℕ) → Leads p i j → Leads p j k → Leads p i k
Leads-trans p i j k a b = record {
  walk = a.walk ++ b.walk;
  walks = is_walk-append p i a.walk b.walk a.walks (subst (λ (n : ℕ). is_walk p n b.walk ≡ true) (sym a.ends) b.walks);
  ends = end_of-append i a.walk b.walk ∙ ap (λ n. end_of n b.walk) a.ends ∙ b.ends;
}

Reached-more : (p : ℕ → ℕ → Bool) (roots : ℕ → Bool) (j k : ℕ) → Reached p roots j → Leads p j k → Reached p roots k
Reached-more p roots j k a b = record {
  from = a.from;
  walk = a.walk ++ b.walk;
  root = a.root;
  walks = is_walk-append p a.from a.walk b.walk a.walks (subst (λ (n : ℕ). is_walk p n b.walk ≡ true) (sym a.ends) b.walks);
  ends = end_of-append a.from a.walk b.walk ∙ ap (λ n. end_of n b.walk) a.ends ∙ b.ends;
}

-- m and f have the walks by way of the objects below k, from each object and from the roots; all they have are walks
pub record IsClosed (k : ℕ) (p : ℕ → ℕ → Bool) (roots : ℕ → Bool) (m : ℕ → ℕ → Bool) (f : ℕ → Bool) : Type 0 where
  pub edges : (i j : ℕ) → p i j ≡ true → m i j ≡ true
  pub starts : (i : ℕ) → roots i ≡ true → f i ≡ true
  pub walks : (i j : ℕ) → m i j ≡ true → Leads p i j
  pub found : (j : ℕ) → f j ≡ true → Reached p roots j
  pub by_way : (x i j : ℕ) → x < k → m i x ≡ true → m x j ≡ true → m i j ≡ true
  pub found_by_way : (x j : ℕ) → x < k → f x ≡ true → m x j ≡ true → f j ≡ true

-- at first the pointers and the roots themselves
pub closed_none : (p : ℕ → ℕ → Bool) (roots : ℕ → Bool) (m : ℕ → ℕ → Bool) (f : ℕ → Bool) → ((i j : ℕ) → m i j ≡ p i j) → ((i : ℕ) → f i ≡ roots i)
    → IsClosed 0 p roots m f
closed_none p roots m f e g = record {
  edges = λ i j h. e i j ∙ h;
  starts = λ i h. g i ∙ h;
  walks = λ i j h. Leads-one p i j (sym (e i j) ∙ h);
  found = λ j h. record { from = j; walk = []; root = sym (g j) ∙ h; walks = refl; ends = refl };
  by_way = λ x i j low h l. absurd (omega arith);
  found_by_way = λ x j low h l. absurd (omega arith);
}

left_or : (x y : Bool) → x ≡ true → (x || y) ≡ true
left_or true y h = refl
left_or false y h = absurd (cc)

right_or : (x y : Bool) → y ≡ true → (x || y) ≡ true
right_or true y h = refl
right_or false y h = h

-- a step to the values that go by way of k
there : (x y z : Bool) → x ≡ true → (x || (y && z)) ≡ true
there x y z h = left_or x (y && z) h

by_k : (x y z : Bool) → y ≡ true → z ≡ true → (x || (y && z)) ≡ true
by_k x y z h l = right_or x (y && z) (and_from y z h l)

split : (x y z : Bool) → (x || (y && z)) ≡ true → (x ≡ true) ⊎ ((y ≡ true) × (z ≡ true))
split true y z h = inl refl
split false y z h = inr (and_parts y z h)

-- one more object that walks may go through
pub closed_more : (k : ℕ) (p : ℕ → ℕ → Bool) (roots : ℕ → Bool) (m m' : ℕ → ℕ → Bool) (f f' : ℕ → Bool)
    → ((i j : ℕ) → m' i j ≡ (m i j || (m i k && m k j))) → ((j : ℕ) → f' j ≡ (f j || (f k && m k j)))
    → IsClosed k p roots m f → IsClosed (k + 1) p roots m' f'
closed_more k p roots m m' f f' e g s = record {
  edges = λ i j h. e i j ∙ there (m i j) (m i k) (m k j) (s.edges i j h);
  starts = λ i h. g i ∙ there (f i) (f k) (m k i) (s.starts i h);
  walks = λ i j h. (elim (split (m i j) (m i k) (m k j) (sym (e i j)
      ∙ h)) [ inl a ↦ s.walks i j a | inr b ↦ Leads-trans p i k j (s.walks i k b.0) (s.walks k j b.1) ]);
  found = λ j h. (elim (split (f j) (f k) (m k j) (sym (g j) ∙ h)) [
    | inl a ↦ s.found j a
    | inr b ↦ Reached-more p roots k j (s.found k b.0)
        (s.walks k j b.1)
  ]);
  by_way = λ x i j low h l. e i j ∙ way x i j (cases_lt x k) low (split (m i x) (m i k) (m k x) (sym (e i x)
      ∙ h)) (split (m x j) (m x k) (m k j) (sym (e x j) ∙ l));
  found_by_way = λ x j low h l. g j ∙ found_way x j (cases_lt x k) low (split (f x) (f k) (m k x) (sym (g x)
      ∙ h)) (split (m x j) (m x k) (m k j) (sym (e x j) ∙ l));
}
  where
    to_k : (i x : ℕ) → x ≡ k → (m i x ≡ true) ⊎ ((m i k ≡ true) × (m k x ≡ true)) → m i k ≡ true
    to_k i x e (inl a) = ap (m i) (sym e) ∙ a
    to_k i x e (inr b) = b.0

    from_k : (x j : ℕ) → x ≡ k → (m x j ≡ true) ⊎ ((m x k ≡ true) × (m k j ≡ true)) → m k j ≡ true
    from_k x j e (inl a) = ap (λ n. m n j) (sym e) ∙ a
    from_k x j e (inr b) = b.1

    found_to_k : (x : ℕ) → x ≡ k → (f x ≡ true) ⊎ ((f k ≡ true) × (m k x ≡ true)) → f k ≡ true
    found_to_k x e (inl a) = ap f (sym e) ∙ a
    found_to_k x e (inr b) = b.0

    way : (x i j : ℕ) → (x < k) ⊎ (k ≤ x) → x < k + 1 → (m i x ≡ true) ⊎ ((m i k ≡ true) × (m k x ≡ true))
        → (m x j ≡ true) ⊎ ((m x k ≡ true) × (m k j ≡ true))
        → (m i j || (m i k && m k j)) ≡ true
    way x i j (inl low) h (inl a) (inl b) = there (m i j) (m i k) (m k j) (s.by_way x i j low a b)
    way x i j (inl low) h (inl a) (inr b) = by_k (m i j) (m i k) (m k j) (s.by_way x i k low a b.0) b.1
    way x i j (inl low) h (inr a) (inl b) = by_k (m i j) (m i k) (m k j) a.0 (s.by_way x k j low a.1 b)
    way x i j (inl low) h (inr a) (inr b) = by_k (m i j) (m i k) (m k j) a.0 b.1
    way x i j (inr high) h a b =
        let same : x ≡ k = omega arith in
        by_k (m i j) (m i k) (m k j) (to_k i x same a) (from_k x j same b)

    found_way : (x j : ℕ) → (x < k) ⊎ (k ≤ x) → x < k + 1 → (f x ≡ true) ⊎ ((f k ≡ true) × (m k x ≡ true))
        → (m x j ≡ true) ⊎ ((m x k ≡ true) × (m k j ≡ true))
        → (f j || (f k && m k j)) ≡ true
    found_way x j (inl low) h (inl a) (inl b) = there (f j) (f k) (m k j) (s.found_by_way x j low a b)
    found_way x j (inl low) h (inl a) (inr b) = by_k (f j) (f k) (m k j) (s.found_by_way x k low a b.0) b.1
    found_way x j (inl low) h (inr a) (inl b) = by_k (f j) (f k) (m k j) a.0 (s.by_way x k j low a.1 b)
    found_way x j (inl low) h (inr a) (inr b) = by_k (f j) (f k) (m k j) a.0 b.1
    found_way x j (inr high) h a b =
        let same : x ≡ k = omega arith in
        by_k (f j) (f k) (m k j) (found_to_k x same a) (from_k x j same b)

-- with every object let through, each walk from a root is found
pub closed_all : (n : ℕ) (p : ℕ → ℕ → Bool) (roots : ℕ → Bool) (m : ℕ → ℕ → Bool) (f : ℕ → Bool) → IsClosed n p roots m f
    → ((i j : ℕ) → p i j ≡ true → i < n) → (t : ℕ) → Reached p roots t → f t ≡ true
closed_all n p roots m f s within t r = subst (λ (x : ℕ). f x ≡ true) r.ends (along r.from r.walk (s.starts r.from r.root) r.walks)
  where
    along : (i : ℕ) (walk : List ℕ) → f i ≡ true → is_walk p i walk ≡ true → f (end_of i walk) ≡ true
    along i [] h w = h
    along i (j ∷ js) h w =
        let parts = and_parts (p i j) (is_walk p j js) w in
        along j js (s.found_by_way i j (within i j parts.0) h (s.edges i j parts.0)) parts.1

-- an object points only where it has a row
pointed_within : (v : ℕ → Bool) (rows : List (List Gate)) (i j : ℕ) → pointed v rows i j ≡ true → i < length rows
unfolding pointed
pointed_within v [] i j h = absurd (cc)
pointed_within v (r ∷ rs) zero j h = omega arith
pointed_within v (r ∷ rs) (suc i) j h = omega (arith, pointed_within v rs i j h)

-- the rows and the objects found, with the first k objects let through
pub record ReachedSoFar (ns : List Node) (k : ℕ) (points : List (List Gate)) (roots : List Gate) (rows : List (List Gate)) (found : List Gate) : Type 0 where
  pub count : length rows ≡ length roots
  pub wide : EachWide (length roots) rows
  pub below : rows_top rows ≤ length ns
  pub found_wide : length found ≡ length roots
  pub found_below : gates_top found ≤ length ns
  pub closed : (choice v : ℕ → Bool) → Runs ns choice v → IsClosed k (pointed v points) (holds_at v roots) (pointed v rows) (holds_at v found)

pub reached_none : (ns : List Node) (points : List (List Gate)) (roots : List Gate) (rows : List (List Gate)) (found : List Gate) → rows ≡ points
    → found ≡ roots
    → length points ≡ length roots → EachWide (length roots) points → rows_top points ≤ length ns → gates_top roots ≤ length ns
    → ReachedSoFar ns 0 points roots rows found
reached_none ns points roots rows found e f count wide below roots_below = record {
  count = ap length e ∙ count;
  wide = subst (EachWide (length roots)) (sym e) wide;
  below = omega (arith, ap rows_top e, below);
  found_wide = ap length f;
  found_below = omega (arith, ap gates_top f, roots_below);
  closed = λ choice v r. closed_none (pointed v points) (holds_at v roots) (pointed v rows) (holds_at v found) (λ i j. ap (λ l. pointed v l i j) e)
      (λ i. ap (λ l. holds_at v l i) f);
}

pub reached_step : (n1 n2 ns : List Node) (k : ℕ) (points : List (List Gate)) (roots : List Gate) (rows rs ts : List (Vec Gate Global)) (rows' : List
    (List Gate)) (found gates found' : List Gate)
    → Grown n1 n2 → Grown n2 ns → rs ≡ rows → ts ≡ rows → gates ≡ found
    → IsFoundThrough n2 k (rows_of rs) gates found' → IsThrough ns k (rows_of ts) rows' → ReachedSoFar n1 k points roots (rows_of rows) found
    → ReachedSoFar ns (k + 1) points roots rows' found'
reached_step n1 n2 ns k points roots rows rs ts rows' found gates found' g h e1 e2 e3 w0 t0 s =
    let w1 : IsFoundThrough n2 k (rows_of rows) gates found' = subst (λ (l : List (Vec Gate Global)). IsFoundThrough n2 k (rows_of l) gates found') e1 w0 in
    let w : IsFoundThrough n2 k (rows_of rows) found found' = subst (λ (l : List Gate). IsFoundThrough n2 k (rows_of rows) l found') e3 w1 in
    let t : IsThrough ns k (rows_of rows) rows' = subst (λ (l : List (Vec Gate Global)). IsThrough ns k (rows_of l) rows') e2 t0 in
    record {
      count = t.count ∙ s.count;
      wide = subst (λ (n : ℕ). EachWide n rows') s.count t.wide;
      below = t.below;
      found_wide = w.wide ∙ s.found_wide;
      found_below = omega (arith, w.below, h.longer);
      closed = λ choice v r.
          (let r2 = h.runs choice v r in
          closed_more k (pointed v points) (holds_at v roots) (pointed v (rows_of rows)) (pointed v rows') (holds_at v found) (holds_at v found')
          (t.value choice v r) (w.value choice v r2) (s.closed choice v (g.runs choice v r2)));
    }

pub reached_whole : (ns : List Node) (k : ℕ) (points : List (List Gate)) (roots : List Gate) (rows : List (List Gate)) (found : List Gate)
    → length points ≡ length roots → k ≡ length roots
    → ReachedSoFar ns k points roots rows found → IsReached ns points roots found
reached_whole ns k points roots rows found count whole s = record {
  wide = s.found_wide;
  below = s.found_below;
  sound = λ choice v r t h. (s.closed choice v r).found t h;
  complete = λ choice v r t h. closed_all k (pointed v points) (holds_at v roots) (pointed v rows) (holds_at v found) (s.closed choice v r)
      (λ i j e. (let low : i < length points = pointed_within v points i j e in omega arith)) t h;
}
