-- The bits of the locations of a layout, beside those of other things, are those below its number of bits.
use Rattle.std.proofs.Common.{◌≡◌, ℕ, zero, suc, ◌+◌, ◌<◌, ◌≤◌, ◌&&◌, Bool, true, false, List, [], ◌∷◌, ◌++◌, length, refl, sym, ap, ◌∙◌, ⊎_elim, inl, inr, arith}
use Rattle.std.proofs.lemmas.Bool.{cases_lt, true≢false, lt-ltb, le-ltb, le-leb, lt-leb}
use Rattle.std.proofs.lemmas.List.{set_past}
use Rattle.std.specs.Prelude.{Option, Some, None, Ok, Err, ◌⊎◌, nat_lt, nat_le, slice_index_or, slice_set, if◌then◌else◌}
use Rattle.std.specs.List.{flat_map}
use Rattle.sc_base.specs.declared.skip.LimitKind.TheVariants as limit
use Rattle.sc_world.specs.declared.run.Origin.{Origin}
use Rattle.sc_world.specs.Tree.{Ty}
use Rattle.sc_world.specs.Build.{goes_on, done}
use Rattle.sc_world.specs.Source.{Source}
use Rattle.sc_world.specs.Layout.{Layout, Location, location, nowhere}
use Rattle.sc_world.specs.Objects.{add, stub, bits_if, push, gives_cells, gives_states, is_cell, cell_bits, state_bits, root_or, type_or_void}
use Rattle.verdict_laws.specs.Bits.{Bits, has_bit, one_if, how_many, location_bits, bits_from}
use Rattle.verdict_laws.proofs.Steps.{Post, weaker}
use Rattle.verdict_laws.proofs.Laying.{len, stub_at}
use Rattle.verdict_laws.proofs.Objects.{Keeps}

-- Counting.

pub many_append : (k : ℕ) (as' bs : List Bits) → how_many k (as' ++ bs) ≡ how_many k as' + how_many k bs
many_append k [] bs = omega arith
many_append k (a ∷ as') bs = omega (arith, many_append k as' bs)

sum_by : (x y z : Bool) → ((x ≡ true) × (y ≡ true) × (z ≡ false)) ⊎ ((x ≡ false) × (z ≡ true)) → one_if y ≡ one_if x + one_if (z && y)
sum_by true true false h = refl
sum_by false true true h = refl
sum_by false false true h = refl
sum_by true false z (inl h) = absurd (true≢false (sym h.1))
sum_by true true true (inl h) = absurd (true≢false h.2)
sum_by false y false (inl h) = absurd (true≢false (sym h.0))
sum_by true y z (inr h) = absurd (true≢false h.0)
sum_by false y false (inr h) = absurd (true≢false (sym h.1))

-- some bits behind those below a number
pub below_more : (k b n : ℕ) → one_if (nat_lt k (b + n)) ≡ one_if (nat_lt k b) + one_if (has_bit k (record { first = b; width = n }))
below_more k b n =
    ⊎_elim
    (λ (less : k < b).
    sum_by (nat_lt k b) (nat_lt k (b + n)) (nat_le b k)
    (inl (lt-ltb k b less, lt-ltb k (b + n) (omega (arith, less)), lt-leb b k less)))
    (λ (past : b ≤ k). sum_by (nat_lt k b) (nat_lt k (b + n)) (nat_le b k) (inr (le-ltb k b past, le-leb b k past)))
    (cases_lt k b)

module _ {X : Type 0} (f : X → List Bits) (k : ℕ) where
  pub many_push : (xs : List X) (x : X) → how_many k (flat_map f (xs ++ x ∷ [])) ≡ how_many k (flat_map f xs) + how_many k (f x)
  many_push [] x = omega (arith, many_append k (f x) [])
  many_push (y ∷ ys) x =
      omega (arith, many_append k (f y) (flat_map f (ys ++ x ∷ [])), many_append k (f y) (flat_map f ys), many_push ys x)

  pub many_put : (xs : List X) (at : ℕ) (x d : X) → at < length xs
      → how_many k (flat_map f (slice_set xs at x)) + how_many k (f (slice_index_or xs at d)) ≡ how_many k (flat_map f xs) + how_many k (f x)
  many_put [] at x d h = absurd (omega (arith, h))
  many_put (y ∷ ys) zero x d h = omega (arith, many_append k (f x) (flat_map f ys), many_append k (f y) (flat_map f ys))
  many_put (y ∷ ys) (suc at) x d h =
      omega (arith, many_append k (f y) (flat_map f (slice_set ys at x)), many_append k (f y) (flat_map f ys), many_put ys at x d (omega (arith, h)))

module _ (s : Source) where
  -- the locations' bits and E are the bits below the number of bits
  unfoldable pub Tiled : (ℕ → ℕ) → Layout → Type 0
  Tiled E p = (k : ℕ) → how_many k (flat_map (location_bits s) p.locations) + E k ≡ one_if (nat_lt k p.bits)

  -- a location with the next bits is pushed
  tiled_push : (E : ℕ → ℕ) (p : Layout) (l : Location) (bits : ℕ)
      → ((k : ℕ) → one_if (nat_lt k bits) ≡ one_if (nat_lt k p.bits) + how_many k (location_bits s l))
      → Tiled E p → Tiled E (record p { locations = p.locations ++ l ∷ []; bits = bits })
  unfolding Tiled
  tiled_push E p l bits more t k = omega (arith, t k, more k, many_push (location_bits s) k p.locations l)

  -- bits are taken by another thing
  pub tiled_take : (E : ℕ → ℕ) (p : Layout) (n : ℕ) → Tiled E p
      → Tiled (λ k. E k + one_if (has_bit k (record { first = p.bits; width = n }))) (record p { bits = p.bits + n })
  unfolding Tiled
  tiled_take E p n t k = omega (arith, t k, below_more k p.bits n)

  pub tiled_same : (E F : ℕ → ℕ) (p : Layout) → ((k : ℕ) → E k ≡ F k) → Tiled E p → Tiled F p
  unfolding Tiled
  tiled_same E F p e t k = omega (arith, t k, e k)

  -- what stands in the way of nothing: locations and bits stay
  pub tiled_through : (E : ℕ → ℕ) (p q : Layout) → q.locations ≡ p.locations → q.bits ≡ p.bits → Tiled E p → Tiled E q
  unfolding Tiled
  tiled_through E p q e b t k =
      ap (λ ls. how_many k (flat_map (location_bits s) ls) + E k) e ∙ t k ∙ ap (λ n. one_if (nat_lt k n)) (sym b)

  tiled_put : (E : ℕ → ℕ) (p : Layout) (at : ℕ) (l : Location) → at < len p → location_bits s l ≡ location_bits s (location p at)
      → Tiled E p → Tiled E (record p { locations = slice_set p.locations at l })
  unfolding Tiled
  tiled_put E p at l less e t k =
      omega (arith, t k, many_put (location_bits s) k p.locations at l nowhere less, ap (how_many k) e)

  tiled_past : (E : ℕ → ℕ) (p : Layout) (at : ℕ) (l : Location) → len p ≤ at
      → Tiled E p → Tiled E (record p { locations = slice_set p.locations at l })
  unfolding Tiled
  tiled_past E p at l past t k =
      ap (λ ls. how_many k (flat_map (location_bits s) ls) + E k) (set_past p.locations at l past) ∙ t k

  -- a cell gets the next bits
  pub tiled_cell : (E : ℕ → ℕ) (p : Layout) (at : ℕ) → at < len p → (location p at).bit ≡ None
      → Tiled E p
      → Tiled E (record p {
        locations = slice_set p.locations at (record (location p at) { bit = Some p.bits });
        bits = p.bits + cell_bits s (type_or_void (location p at).type);
      })
  unfolding Tiled
  tiled_cell E p at less none t k =
      let l : Location = location p at in
      let w : ℕ = cell_bits s (type_or_void l.type) in
      let states : List Bits = bits_from l.state (state_bits s) in
      let old : how_many k (location_bits s l) ≡ how_many k states =
      ap (λ b. how_many k (bits_from b w ++ states)) none in
      omega (
        arith,
        t k,
        old,
        below_more k p.bits w,
        many_put (location_bits s) k p.locations at (record l { bit = Some p.bits }) nowhere less,
      )

  -- nothing but locations is added, and each bit that is taken is one of theirs
  pub record Same (p q : Layout) : Type 0 where
    pub tiled : (E : ℕ → ℕ) → Tiled E p → Tiled E q
    pub sites : q.sites ≡ p.sites
    pub occurrences : q.occurrences ≡ p.occurrences
    pub spots : q.spots ≡ p.spots

  pub same_refl : (p : Layout) → Same p p
  same_refl p = record { tiled = λ E t. t; sites = refl; occurrences = refl; spots = refl }

  pub same_trans : (p q z : Layout) → Same p q → Same q z → Same p z
  same_trans p q z a b = record {
    tiled = λ E t. b.tiled E (a.tiled E t);
    sites = b.sites ∙ a.sites;
    occurrences = b.occurrences ∙ a.occurrences;
    spots = b.spots ∙ a.spots;
  }

  pushed_same : (p : Layout) (l : Location) (bits : ℕ)
      → ((k : ℕ) → one_if (nat_lt k bits) ≡ one_if (nat_lt k p.bits) + how_many k (location_bits s l))
      → Same p (record p { locations = p.locations ++ l ∷ []; bits = bits })
  pushed_same p l bits more = record { tiled = λ E t. tiled_push E p l bits more t; sites = refl; occurrences = refl; spots = refl }

  pub put_same : (p : Layout) (at to : ℕ) → Same p (record p { locations = slice_set p.locations at (record (location p at) { target = Some to }) })
  put_same p at to = record {
    tiled = λ E t.
        ⊎_elim
        (λ less. tiled_put E p at (record (location p at) { target = Some to }) less refl t)
        (λ past. tiled_past E p at (record (location p at) { target = Some to }) past t)
        (cases_lt at (len p));
    sites = refl;
    occurrences = refl;
    spots = refl;
  }

  add_same : (root : Option ℕ) (t : Ty) (o : Origin) (p : Layout) (room cells states : Bool)
      → Post (λ at q. Same p q)
      (goes_on (if room then Ok (len p, p) else Err limit.Locations)
      (λ at. λ p1. goes_on (bits_if cells (cell_bits s t) p1)
      (λ bit. λ p2. goes_on (bits_if states (state_bits s) p2)
      (λ state. λ p3. goes_on (push (record { type = Some t; origin = o; root = root_or root at; bit = bit; state = state; target = None }) p3)
      (λ u. done at)))))
  add_same root t o p false cells states = tt
  add_same root t o p true true true =
      pushed_same p
      (record { type = Some t; origin = o; root = root_or root (len p); bit = Some p.bits; state = Some (p.bits + cell_bits s t); target = None })
      (p.bits + cell_bits s t + state_bits s)
      (λ k. omega (arith, below_more k p.bits (cell_bits s t), below_more k (p.bits + cell_bits s t) (state_bits s)))
  add_same root t o p true true false =
      pushed_same p (record { type = Some t; origin = o; root = root_or root (len p); bit = Some p.bits; state = None; target = None })
      (p.bits + cell_bits s t) (λ k. omega (arith, below_more k p.bits (cell_bits s t)))
  add_same root t o p true false true =
      pushed_same p (record { type = Some t; origin = o; root = root_or root (len p); bit = None; state = Some p.bits; target = None })
      (p.bits + state_bits s) (λ k. omega (arith, below_more k p.bits (state_bits s)))
  add_same root t o p true false false =
      pushed_same p (record { type = Some t; origin = o; root = root_or root (len p); bit = None; state = None; target = None })
      p.bits (λ k. omega arith)

  stub_same : (o : Origin) (p : Layout) (room : Bool)
      → Post (λ at q. Same p q)
      (goes_on (if room then Ok (len p, p) else Err limit.Locations) (λ at. λ p1. goes_on (push (stub_at at o) p1) (λ u. done at)))
  stub_same o p false = tt
  stub_same o p true = pushed_same p (stub_at (len p) o) p.bits (λ k. omega arith)

  -- of what was there at first
  pub same_kept : (p : Layout) → Keeps s (Same p)
  same_kept p = record {
    added = λ c root t o q.
        weaker (λ at z. Same q z) (λ at z. Same p q → Same p z) (add s c root t o q)
        (add_same root t o q (nat_lt (len q) 256) (gives_cells c && is_cell t) (gives_states c))
        (λ at z b a. same_trans p q z a b);
    stubbed = λ o q.
        weaker (λ at z. Same q z) (λ at z. Same p q → Same p z) (stub o q) (stub_same o q (nat_lt (len q) 256))
        (λ at z b a. same_trans p q z a b);
    pointed = λ at to q a. same_trans p q (record q { locations = slice_set q.locations at (record (location q at) { target = Some to }) }) a (put_same q at to);
  }
