-- What a call is given: bits of its own, bits of spots, and bits of the cells of its object.
use Rattle.std.proofs.Common.{◌≡◌, ℕ, zero, suc, ◌+◌, ◌-◌, ◌<◌, ◌≤◌, Bool, true, false, List, [], ◌∷◌, ◌++◌, length, refl, sym, ap, subst, ◌∙◌, ⊎_elim, arith}
use Rattle.std.proofs.lemmas.Bool.{cases_lt, cases_eq, eqb-true}
use Rattle.std.proofs.lemmas.List.{append_assoc, append-nil, get_or-set_same, get_or-set_other, length-set, length-append}
use Rattle.std.specs.Prelude.{Option, Some, None, Ok, nat_eq, nat_lt, slice_set, if◌then◌else◌}
use Rattle.std.specs.List.{flat_map}
use Rattle.sum_rows.specs.declared.row.Item.{Item}
use Rattle.sum_rows.specs.declared.row.Item.TheVariants as item
use Rattle.sum_rows.specs.declared.row.ItemRows.{ItemRows}
use Rattle.sc_world.specs.Tree.{is_integer, is_pointer, int_bits}
use Rattle.sc_world.specs.Build.{Built, Build, goes_on, done}
use Rattle.sc_world.specs.Source.{Source}
use Rattle.sc_world.specs.Gather.{Site}
use Rattle.sc_world.specs.Layout.{Layout, Location, Spot, location, nowhere, is_cell}
use Rattle.sc_world.specs.Objects.{Ground, cell_bits, state_bits, type_or_void}
use Rattle.sc_world.specs.Occurrences.{cell_at, cell_if, cells_from, object_cells, result_bits, state_spot, state_spots, param_spot, param_spots}
use Rattle.verdict_laws.specs.Bits.{Bits, has_bit, one_if, how_many, result_width, lock_width, param_width}
use Rattle.verdict_laws.proofs.Steps.{Post, chained, weaker}
use Rattle.verdict_laws.proofs.Laying.{len}
use Rattle.verdict_laws.proofs.Tiles.{Tiled, tiled_take, tiled_cell, tiled_same, tiled_through, many_append, below_more}
use Rattle.verdict_laws.proofs.Moves.{Moves}

module _ (s : Source) where
  -- to a call with that object these bits and spots
  pub record Gives (o : Option ℕ) (bs : List Bits) (new : List Spot) (p q : Layout) : Type 0 where
    pub tiled : (E : ℕ → ℕ) → Tiled s E p → Tiled s (λ k. E k + how_many k bs) q
    pub sites : q.sites ≡ p.sites
    pub occurrences : q.occurrences ≡ p.occurrences
    pub spots : q.spots ≡ p.spots ++ new
    pub longer : len p ≤ len q
    pub roots : (i : ℕ) → i < len p → (location q i).root ≡ (location p i).root
    pub low : (i : ℕ) → len p ≤ i → i < len q → len p ≤ (location q i).root
    pub high : (i : ℕ) → len p ≤ i → i < len q → (location q i).root ≤ i
    pub bits : (i : ℕ) → i < len p → (o ≡ Some (location p i).root → ⊥) → (location q i).bit ≡ (location p i).bit

  pub gives_refl : (o : Option ℕ) (p : Layout) → Gives o [] [] p p
  gives_refl o p = record {
    tiled = λ E t. tiled_same s E (λ k. E k + 0) p (λ k. omega arith) t;
    sites = refl;
    occurrences = refl;
    spots = sym (append-nil p.spots);
    longer = omega arith;
    roots = λ i h. refl;
    low = λ i a b. absurd (omega (arith, a, b));
    high = λ i a b. absurd (omega (arith, a, b));
    bits = λ i h n. refl;
  }

  pub gives_trans : (o : Option ℕ) (as' bs : List Bits) (old new : List Spot) (p q z : Layout)
      → Gives o as' old p q → Gives o bs new q z → Gives o (as' ++ bs) (old ++ new) p z
  gives_trans o as' bs old new p q z a b = record {
    tiled = λ E t.
        tiled_same s (λ k. E k + how_many k as' + how_many k bs) (λ k. E k + how_many k (as' ++ bs)) z
        (λ k. omega (arith, many_append k as' bs)) (b.tiled (λ k. E k + how_many k as') (a.tiled E t));
    sites = b.sites ∙ a.sites;
    occurrences = b.occurrences ∙ a.occurrences;
    spots = b.spots ∙ ap (λ (l : List Spot). l ++ new) a.spots ∙ append_assoc p.spots old new;
    longer = omega (arith, a.longer, b.longer);
    roots = λ i less. b.roots i (omega (arith, less, a.longer)) ∙ a.roots i less;
    low = λ i low high.
        ⊎_elim
        (λ (was : i < len q). omega (arith, b.roots i was, a.low i low was))
        (λ (is : len q ≤ i). omega (arith, a.longer, b.low i is high))
        (cases_lt i (len q));
    high = λ i low high.
        ⊎_elim
        (λ (was : i < len q). omega (arith, b.roots i was, a.high i low was))
        (λ (is : len q ≤ i). b.high i is high)
        (cases_lt i (len q));
    bits = λ i less other.
        b.bits i (omega (arith, less, a.longer)) (λ e. other (e ∙ ap Some (a.roots i less))) ∙ a.bits i less other;
  }

  -- bits are taken
  pub gives_take : (o : Option ℕ) (n : ℕ) (p : Layout)
      → Gives o (record { first = p.bits; width = n } ∷ []) [] p (record p { bits = p.bits + n })
  gives_take o n p = record {
    tiled = λ E t.
        tiled_same s (λ k. E k + one_if (has_bit k (record { first = p.bits; width = n })))
        (λ k. E k + how_many k (record { first = p.bits; width = n } ∷ [])) (record p { bits = p.bits + n })
        (λ k. omega arith) (tiled_take s E p n t);
    sites = refl;
    occurrences = refl;
    spots = sym (append-nil p.spots);
    longer = omega arith;
    roots = λ i h. refl;
    low = λ i a b. absurd (omega (arith, a, b));
    high = λ i a b. absurd (omega (arith, a, b));
    bits = λ i h n. refl;
  }

  -- a spot is pushed
  pub gives_spot : (o : Option ℕ) (z : Spot) (p : Layout) → Gives o [] (z ∷ []) p (record p { spots = p.spots ++ z ∷ [] })
  gives_spot o z p = record {
    tiled = λ E t.
        tiled_same s E (λ k. E k + 0) (record p { spots = p.spots ++ z ∷ [] }) (λ k. omega arith)
        (tiled_through s E p (record p { spots = p.spots ++ z ∷ [] }) refl refl t);
    sites = refl;
    occurrences = refl;
    spots = refl;
    longer = omega arith;
    roots = λ i h. refl;
    low = λ i a b. absurd (omega (arith, a, b));
    high = λ i a b. absurd (omega (arith, a, b));
    bits = λ i h n. refl;
  }

  -- locations are added
  pub gives_moves : (g : Ground) → g.source ≡ s → (o : Option ℕ) (p q : Layout) → Moves g p q → Gives o [] [] p q
  gives_moves g e o p q a = record {
    tiled = λ E t.
        tiled_same s E (λ k. E k + 0) q (λ k. omega arith)
        (subst (λ y. Tiled y E p → Tiled y E q) e (a.same.tiled E) t);
    sites = a.same.sites;
    occurrences = a.same.occurrences;
    spots = a.same.spots ∙ sym (append-nil p.spots);
    longer = a.grows.longer;
    roots = λ i less. ap (λ (l : Location). l.root) (sym (a.grows.same i less));
    low = a.low;
    high = a.high;
    bits = λ i less other. ap (λ (l : Location). l.bit) (sym (a.grows.same i less));
  }

  -- no cell of the object from one on has a bit yet
  abbrev pub Bare : (at root : ℕ) → Layout → Type 0
  Bare at root p = (i : ℕ) → at ≤ i → i < len p → (location p i).root ≡ root → (location p i).bit ≡ None

  abbrev given : ℕ → Layout → Layout
  given at p = record p {
    locations = slice_set p.locations at (record (location p at) { bit = Some p.bits });
    bits = p.bits + cell_bits s (type_or_void (location p at).type);
  }

  given_other : (at : ℕ) (p : Layout) (i : ℕ) → (i ≡ at → ⊥) → location (given at p) i ≡ location p i
  given_other at p i other = get_or-set_other p.locations at i (record (location p at) { bit = Some p.bits }) nowhere other

  given_root : (at : ℕ) (p : Layout) → at < len p → (i : ℕ) → (location (given at p) i).root ≡ (location p i).root
  given_root at p less i =
      ⊎_elim
      (λ (here : i ≡ at).
      subst (λ n. (location (given at p) n).root ≡ (location p n).root) (sym here)
      (ap (λ (l : Location). l.root) (get_or-set_same p.locations at (record (location p at) { bit = Some p.bits }) nowhere less)))
      (λ (other : i ≡ at → ⊥). ap (λ (l : Location). l.root) (given_other at p i other))
      (cases_eq i at)

  gives_cell : (at root : ℕ) (p : Layout) → at < len p → (location p at).root ≡ root → (location p at).bit ≡ None
      → Gives (Some root) [] [] p (given at p)
  gives_cell at root p less is none =
      let e : len (given at p) ≡ len p = length-set p.locations at (record (location p at) { bit = Some p.bits }) in
      record {
        tiled = λ E t.
            tiled_same s E (λ k. E k + 0) (given at p) (λ k. omega arith) (tiled_cell s E p at less none t);
        sites = refl;
        occurrences = refl;
        spots = sym (append-nil p.spots);
        longer = omega (arith, e);
        roots = λ i h. given_root at p less i;
        low = λ i a b. absurd (omega (arith, a, b, e));
        high = λ i a b. absurd (omega (arith, a, b, e));
        bits = λ i h not.
            ap (λ (l : Location). l.bit)
            (given_other at p i (λ here. not (ap Some (sym (ap (λ n. (location p n).root) here ∙ is)))));
      }

  -- one more cell, and those behind it stay bare
  abbrev Goes : (at root : ℕ) → Layout → Layout → Type 0
  Goes at root p q = (Gives (Some root) [] [] p q) × (len q ≡ len p) × Bare (at + 1) root q

  stays_bare : (at root : ℕ) (p : Layout) → Bare at root p → Goes at root p p
  stays_bare at root p bare' = (gives_refl (Some root) p, refl, λ i low. bare' i (omega (arith, low)))

  pub goes_cell : (b : Bool) (at root : ℕ) (p : Layout) → at < len p → (location p at).root ≡ root → Bare at root p
      → Post (λ u q. Goes at root p q)
      ((if b then (λ (p' : Layout). Ok (tt {0}, record p' { locations = slice_set p'.locations at (record (location p at) { bit = Some p'.bits }); bits = p'.bits + cell_bits s (type_or_void (location p at).type) })) else done (tt {0})) p)
  goes_cell false at root p less is bare' = stays_bare at root p bare'
  goes_cell true at root p less is bare' =
      let e : len (given at p) ≡ len p = length-set p.locations at (record (location p at) { bit = Some p.bits }) in (
        gives_cell at root p less is (bare' at (omega arith) less is),
        e,
        λ i low high root_is.
            ap (λ (l : Location). l.bit) (given_other at p i (λ here. absurd (omega (arith, low, here))))
            ∙ bare' i (omega (arith, low)) (omega (arith, high, e)) (sym (given_root at p less i) ∙ root_is),
      )

  goes_if : (b : Bool) (at root : ℕ) (p : Layout) → at < len p → nat_eq (location p at).root root ≡ b → Bare at root p
      → Post (λ u q. Goes at root p q) ((if b then cell_at s at (location p at) else done (tt {0})) p)
  goes_if false at root p less e bare' = stays_bare at root p bare'
  goes_if true at root p less e bare' =
      goes_cell (is_cell (location p at)) at root p less (eqb-true (location p at).root root e) bare'

  cells_give : (more at root : ℕ) (p : Layout) → at + more ≤ len p → Bare at root p
      → Post (λ u q. Gives (Some root) [] [] p q) (cells_from more at root s p)
  cells_give zero at root p fits bare' = gives_refl (Some root) p
  cells_give (suc more) at root p fits bare' =
      chained (λ u q. Goes at root p q) (λ u q. Gives (Some root) [] [] p q) (cell_if s root at (location p at) p)
      (λ u. cells_from more (at + 1) root s)
      (goes_if (nat_eq (location p at).root root) at root p (omega (arith, fits)) refl bare')
      (λ u q a.
      weaker (λ u z. Gives (Some root) [] [] q z) (λ u z. Gives (Some root) [] [] p z) (cells_from more (at + 1) root s q)
      (cells_give more (at + 1) root q (omega (arith, fits, a.1)) a.2)
      (λ u z b. gives_trans (Some root) [] [] [] [] p q z a.0 b))

  -- the object is there, and has no bits yet
  abbrev pub Ready : Option ℕ → Layout → Type 0
  Ready o p = (a : ℕ) → o ≡ Some a → (a < len p) × ((i : ℕ) → i < len p → (location p i).root ≡ a → (location p i).bit ≡ None)

  object_gives : (o : Option ℕ) (p : Layout) → Ready o p → Post (λ u q. Gives o [] [] p q) (object_cells s o p)
  object_gives None p ready = gives_refl None p
  object_gives (Some a) p ready =
      cells_give (len p - a) a a p (omega (arith, (ready a refl).0)) (λ i low high e. (ready a refl).1 i high e)

  -- the bits of a call's own
  abbrev pub Owns : Option ℕ → ℕ → Layout → Layout → Type 0
  Owns o n p q = Gives o (record { first = p.bits; width = n } ∷ []) [] p q

  pub plus_zero : (n : ℕ) → n + 0 ≡ n
  plus_zero n = omega arith

  pub owns_none : (o : Option ℕ) (p : Layout) → Owns o 0 p p
  owns_none o p = record {
    tiled = λ E t.
        tiled_same s E (λ k. E k + how_many k (record { first = p.bits; width = 0 } ∷ [])) p
        (λ k. omega (arith, below_more k p.bits 0, ap (λ n. one_if (nat_lt k n)) (plus_zero p.bits))) t;
    sites = refl;
    occurrences = refl;
    spots = sym (append-nil p.spots);
    longer = omega arith;
    roots = λ i h. refl;
    low = λ i a b. absurd (omega (arith, a, b));
    high = λ i a b. absurd (omega (arith, a, b));
    bits = λ i h n. refl;
  }

  pub owns_cells : (o : Option ℕ) (n : ℕ) (p : Layout) → Ready o p
      → Post (λ u q. Owns o n p q) (object_cells s o (record p { bits = p.bits + n }))
  owns_cells o n p ready =
      weaker (λ u q. Gives o [] [] (record p { bits = p.bits + n }) q) (λ u q. Owns o n p q)
      (object_cells s o (record p { bits = p.bits + n })) (object_gives o (record p { bits = p.bits + n }) ready)
      (λ u q a. gives_trans o (record { first = p.bits; width = n } ∷ []) [] [] [] p (record p { bits = p.bits + n }) q (gives_take o n p) a)

  result_by : (integer pointer : Bool) (w n : ℕ) (o : Option ℕ) (p : Layout) → Ready o p
      → Post (λ u q. Owns o (if integer then w else (if pointer then n else 0)) p q)
      ((if integer
      then (λ (p' : Layout). Ok (tt {0}, record p' { bits = p'.bits + w }))
      else (if pointer then (λ (p' : Layout). object_cells s o (record p' { bits = p'.bits + n })) else done (tt {0}))) p)
  result_by true pointer w n o p ready = gives_take o w p
  result_by false true w n o p ready = owns_cells o n p ready
  result_by false false w n o p ready = owns_none o p

  pub result_gives : (x : Site) (n : ℕ) (o : Option ℕ) (p : Layout) → Ready o p
      → Post (λ u q. Owns o (result_width s x n) p q) (result_bits s x n o p)
  result_gives x n o p ready = result_by (is_integer x.result) (is_pointer x.result) (int_bits s.widths x.result) n o p ready

  -- spots, and how many bits each of them has
  abbrev pub paired : List Spot → List ℕ → List Bits
  paired [] ws = []
  paired (z ∷ zs) [] = []
  paired (z ∷ zs) (w ∷ ws) = record { first = z.bit; width = w } ∷ paired zs ws

  paired_append : (ys zs : List Spot) (vs ws : List ℕ) → length ys ≡ length vs
      → paired (ys ++ zs) (vs ++ ws) ≡ paired ys vs ++ paired zs ws
  paired_append [] zs [] ws e = refl
  paired_append [] zs (v ∷ vs) ws e = absurd (omega (arith, e))
  paired_append (y ∷ ys) zs [] ws e = absurd (omega (arith, e))
  paired_append (y ∷ ys) zs (v ∷ vs) ws e =
      ap (λ (bs : List Bits). record { first = y.bit; width = v } ∷ bs) (paired_append ys zs vs ws (omega (arith, e)))

  pub record Spots (o : Option ℕ) (ws : List ℕ) (p q : Layout) : Type 0 where
    pub new : List Spot
    pub gives : Gives o (paired new ws) new p q
    pub count : length new ≡ length ws

  pub spots_none : (o : Option ℕ) (p : Layout) → Spots o [] p p
  spots_none o p = record { new = []; gives = gives_refl o p; count = refl }

  pub spots_trans : (o : Option ℕ) (vs ws : List ℕ) (p q z : Layout) → Spots o vs p q → Spots o ws q z → Spots o (vs ++ ws) p z
  spots_trans o vs ws p q z a b = record {
    new = a.new ++ b.new;
    gives = subst (λ (bs : List Bits). Gives o bs (a.new ++ b.new) p z) (sym (paired_append a.new b.new vs ws a.count))
        (gives_trans o (paired a.new vs) (paired b.new ws) a.new b.new p q z a.gives b.gives);
    count = omega (arith, a.count, b.count, length-append a.new b.new, length-append vs ws);
  }

  pub then_spots : {A B : Type 0} (o : Option ℕ) (vs ws : List ℕ) (p : Layout) (m : Built Layout A) (f : A → Build Layout B)
      → Post (λ a q. Spots o vs p q) m → ((a : A) (q : Layout) → Post (λ b z. Spots o ws q z) (f a q))
      → Post (λ b z. Spots o (vs ++ ws) p z) (goes_on m f)
  then_spots o vs ws p m f h k =
      chained (λ a q. Spots o vs p q) (λ b z. Spots o (vs ++ ws) p z) m f h
      (λ a q is. weaker (λ b z. Spots o ws q z) (λ b z. Spots o (vs ++ ws) p z) (f a q) (k a q) (λ b z other. spots_trans o vs ws p q z is other))

  pub spots_behind : (o : Option ℕ) (ws : List ℕ) (p q z : Layout) → Gives o [] [] p q → Spots o ws q z → Spots o ws p z
  spots_behind o ws p q z a b = record {
    new = b.new;
    gives = gives_trans o [] (paired b.new ws) [] b.new p q z a b.gives;
    count = b.count;
  }

  pub one_spot : (o object : Option ℕ) (n : ℕ) (p : Layout)
      → Spots o (n ∷ []) p (record p { bits = p.bits + n; spots = p.spots ++ record { bit = p.bits; object = object } ∷ [] })
  one_spot o object n p = record {
    new = record { bit = p.bits; object = object } ∷ [];
    gives = gives_trans o (record { first = p.bits; width = n } ∷ []) [] [] (record { bit = p.bits; object = object } ∷ [])
        p (record p { bits = p.bits + n }) (record p { bits = p.bits + n; spots = p.spots ++ record { bit = p.bits; object = object } ∷ [] })
        (gives_take o n p) (gives_spot o (record { bit = p.bits; object = object }) (record p { bits = p.bits + n }));
    count = refl;
  }

  state_gives : (o : Option ℕ) (x : Item) (p : Layout) → Post (λ u q. Spots o (lock_width s x) p q) (state_spot s x p)
  state_gives o item.Exit p = spots_none o p
  state_gives o (item.Lock x) p = one_spot o None (1 + state_bits s) p
  state_gives o (item.Param n) p = spots_none o p
  state_gives o (item.Out n) p = spots_none o p

  pub states_give : (o : Option ℕ) (xs : List ItemRows) (p : Layout)
      → Post (λ u q. Spots o (flat_map (λ (x : ItemRows). lock_width s x.item) xs) p q) (state_spots s xs p)
  states_give o [] p = spots_none o p
  states_give o (x ∷ xs) p =
      then_spots o (lock_width s x.item) (flat_map (λ (x : ItemRows). lock_width s x.item) xs) p (state_spot s x.item p) (λ u. state_spots s xs)
      (state_gives o x.item p) (λ u q. states_give o xs q)

  param_gives : (o : Option ℕ) (x : Item) (p : Layout) → Post (λ u q. Spots o (param_width s x) p q) (param_spot x p)
  param_gives o item.Exit p = spots_none o p
  param_gives o (item.Lock x) p = spots_none o p
  param_gives o (item.Param n) p = one_spot o None 2 p
  param_gives o (item.Out n) p = spots_none o p

  pub params_give : (o : Option ℕ) (xs : List ItemRows) (p : Layout)
      → Post (λ u q. Spots o (flat_map (λ (x : ItemRows). param_width s x.item) xs) p q) (param_spots xs p)
  params_give o [] p = spots_none o p
  params_give o (x ∷ xs) p =
      then_spots o (param_width s x.item) (flat_map (λ (x : ItemRows). param_width s x.item) xs) p (param_spot x.item p) (λ u. param_spots xs)
      (param_gives o x.item p) (λ u q. params_give o xs q)
