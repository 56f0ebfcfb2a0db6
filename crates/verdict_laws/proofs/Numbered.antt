-- The calls that have their bits: with the locations they have all bits below the number of bits.
use Rattle.std.proofs.Common.{◌≡◌, ℕ, zero, suc, ◌+◌, ◌<◌, ◌≤◌, List, [], ◌∷◌, ◌++◌, length, refl, sym, ap, subst, ◌∙◌, ⊎_elim, arith}
use Rattle.std.proofs.lemmas.Bool.{cases_lt, cases_eq}
use Rattle.std.proofs.lemmas.List.{append_assoc, get_or_at, length_push, get_or-set_same, get_or-set_other, length-set, length-append, get_or_append_left}
use Rattle.std.specs.Prelude.{Some, slice_index_or, slice_set}
use Rattle.std.specs.List.{flat_map}
use Rattle.sc_world.specs.Source.{Source}
use Rattle.sc_world.specs.Gather.{Site}
use Rattle.sc_world.specs.Layout.{Layout, Occurrence, Spot, location, no_site, no_spot, no_occurrence}
use Rattle.sc_world.specs.Objects.{Ground}
use Rattle.verdict_laws.specs.Bits.{Bits, how_many, own_width, spot_widths, spot_bits, call_bits, occurrence_bits}
use Rattle.verdict_laws.proofs.Laying.{len}
use Rattle.verdict_laws.proofs.Tiles.{Tiled, tiled_same, tiled_through, many_append}
use Rattle.verdict_laws.proofs.Moves.{Apart}
use Rattle.verdict_laws.proofs.Gives.{paired, plus_zero}
use Rattle.verdict_laws.proofs.Calls.{Works}

abbrev pub total : (ℕ → ℕ) → ℕ → ℕ
total f zero = 0
total f (suc n) = total f n + f n

total_more : (f : ℕ → ℕ) (n : ℕ) → total f (n + 1) ≡ total f n + f n
total_more f n = let on : n + 1 ≡ suc n = omega arith in ap (total f) on

total_same : (f h : ℕ → ℕ) (n : ℕ) → ((j : ℕ) → j < n → f j ≡ h j) → total f n ≡ total h n
total_same f h zero e = refl
total_same f h (suc n) e = omega (arith, total_same f h n (λ j less. e j (omega (arith, less))), e n (omega arith))

total_front : (f : ℕ → ℕ) (n : ℕ) → total f (suc n) ≡ f 0 + total (λ j. f (suc j)) n
total_front f zero = omega arith
total_front f (suc n) = omega (arith, total_front f n)

pub total_all : {X : Type 0} (F : X → List Bits) (k : ℕ) (d : X) (xs : List X)
    → how_many k (flat_map F xs) ≡ total (λ j. how_many k (F (slice_index_or xs j d))) (length xs)
total_all F k d [] = refl
total_all F k d (x ∷ xs) =
    omega (
      arith,
      many_append k (F x) (flat_map F xs),
      total_all F k d xs,
      total_front (λ j. how_many k (F (slice_index_or (x ∷ xs) j d))) (length xs),
    )

module _ (s : Source) where
  spots_stay : (xs new : List Spot) (at : ℕ) (ws : List ℕ) → at + length ws ≤ length xs
      → spot_bits s (xs ++ new) at ws ≡ spot_bits s xs at ws
  spots_stay xs new at [] h = refl
  spots_stay xs new at (w ∷ ws) h =
      ap (λ (z : Spot). record { first = z.bit; width = w } ∷ spot_bits s (xs ++ new) (at + 1) ws)
      (get_or_append_left xs new no_spot at (omega (arith, h)))
      ∙ ap (λ (bs : List Bits). record { first = (slice_index_or xs at no_spot).bit; width = w } ∷ bs)
      (spots_stay xs new (at + 1) ws (omega (arith, h)))

  spots_new : (xs new : List Spot) (at : ℕ) (ws : List ℕ) → length xs ≡ at → length new ≡ length ws
      → spot_bits s (xs ++ new) at ws ≡ paired s new ws
  spots_new xs [] at [] e c = refl
  spots_new xs [] at (w ∷ ws) e c = absurd (omega (arith, c))
  spots_new xs (z ∷ zs) at [] e c = absurd (omega (arith, c))
  spots_new xs (z ∷ zs) at (w ∷ ws) e c =
      ap (λ (y : Spot). record { first = y.bit; width = w } ∷ spot_bits s (xs ++ z ∷ zs) (at + 1) ws) (get_or_at xs z zs no_spot at e)
      ∙ ap (λ (bs : List Bits). record { first = z.bit; width = w } ∷ bs)
      (ap (λ (l : List Spot). spot_bits s l (at + 1) ws) (sym (append_assoc xs (z ∷ []) zs))
      ∙ spots_new (xs ++ z ∷ []) zs (at + 1) ws (omega (arith, e, length_push xs z)) (omega (arith, c)))

module _ (g : Ground) where
  abbrev pub occ : Layout → ℕ → Occurrence
  occ p j = slice_index_or p.occurrences j no_occurrence

  abbrev pub site_of : List Site → Occurrence → Site
  site_of sites o = slice_index_or sites o.site no_site

  abbrev pub bits_at : Layout → ℕ → ℕ → ℕ
  bits_at p k j = how_many k (occurrence_bits g.source p.sites p.spots (occ p j))

  abbrev pub Room : List Site → List Spot → Occurrence → Type 0
  Room sites spots o = o.spot + length (spot_widths g.source (site_of sites o).effect) ≤ length spots

  pub record Numbered (n : ℕ) (p : Layout) : Type 0 where
    pub apart : Apart g n p
    pub room : (j : ℕ) → j < n → Room p.sites p.spots (occ p j)
    pub tiled : Tiled g.source (λ k. total (bits_at p k) n) p

  pub record Stays (p z : Layout) : Type 0 where
    pub sites : z.sites ≡ p.sites
    pub site : (j : ℕ) → (occ z j).site ≡ (occ p j).site
    pub count : length z.occurrences ≡ length p.occurrences

  module _ (n : ℕ) (x : Site) (p q : Layout) (is : Numbered n p) (less : n < length p.occurrences)
      (here : site_of p.sites (occ p n) ≡ x)
      (w : Works g (occ p n).object (own_width g.source x x.effect) (spot_widths g.source x.effect) (record p { bits = p.bits + 0 }) q) where
    abbrev numbered : Occurrence
    numbered = record (occ p n) { bit = p.bits; spot = length p.spots }

    abbrev after : Layout
    after = record q { occurrences = slice_set q.occurrences n numbered }

    inside_now : n < length q.occurrences
    inside_now = subst (λ (os : List Occurrence). n < length os) (sym w.gives.occurrences) less

    this_one : occ after n ≡ numbered
    this_one = get_or-set_same q.occurrences n numbered no_occurrence inside_now

    other_one : (j : ℕ) → (j ≡ n → ⊥) → occ after j ≡ occ p j
    other_one j other =
        get_or-set_other q.occurrences n j numbered no_occurrence other
        ∙ ap (λ (os : List Occurrence). slice_index_or os j no_occurrence) w.gives.occurrences

    kept : {A : Type 0} (F : Occurrence → A) → F numbered ≡ F (occ p n) → (j : ℕ) → F (occ after j) ≡ F (occ p j)
    kept F e j =
        ⊎_elim
        (λ (at : j ≡ n). subst (λ i. F (occ after i) ≡ F (occ p i)) (sym at) (ap F this_one ∙ e))
        (λ (other : j ≡ n → ⊥). ap F (other_one j other))
        (cases_eq j n)

    count_kept : length after.occurrences ≡ length p.occurrences
    count_kept = length-set q.occurrences n numbered ∙ ap length w.gives.occurrences

    object_kept : (j a : ℕ) → (occ after j).object ≡ Some a → (occ p j).object ≡ Some a
    object_kept j a e = sym (kept (λ (o : Occurrence). o.object) refl j) ∙ e

    site_now : site_of q.sites numbered ≡ x
    site_now = ap (λ (ss : List Site). slice_index_or ss (occ p n).site no_site) w.gives.sites ∙ here

    longer_spots : length q.spots ≡ length p.spots + length w.new
    longer_spots = ap length w.gives.spots ∙ length-append p.spots w.new

    old_bits : (j : ℕ) → j < n
        → occurrence_bits g.source after.sites after.spots (occ after j) ≡ occurrence_bits g.source p.sites p.spots (occ p j)
    old_bits j before =
        ap (occurrence_bits g.source q.sites q.spots) (other_one j (λ e. absurd (omega (arith, before, e))))
        ∙ ap (λ (ss : List Site). occurrence_bits g.source ss q.spots (occ p j)) w.gives.sites
        ∙ ap (λ (l : List Spot). occurrence_bits g.source p.sites l (occ p j)) w.gives.spots
        ∙ ap (λ (bs : List Bits). record {
          first = (occ p j).bit;
          width = own_width g.source (site_of p.sites (occ p j)) (site_of p.sites (occ p j)).effect;
        } ∷ bs)
        (spots_stay g.source p.spots w.new (occ p j).spot (spot_widths g.source (site_of p.sites (occ p j)).effect) (is.room j before))

    new_bits : occurrence_bits g.source after.sites after.spots (occ after n)
        ≡ record { first = p.bits + 0; width = own_width g.source x x.effect } ∷ paired g.source w.new (spot_widths g.source x.effect)
    new_bits =
        ap (occurrence_bits g.source q.sites q.spots) this_one
        ∙ ap (call_bits g.source q.spots numbered) site_now
        ∙ ap (λ (bs : List Bits). record { first = p.bits; width = own_width g.source x x.effect } ∷ bs)
        (ap (λ (l : List Spot). spot_bits g.source l (length p.spots) (spot_widths g.source x.effect)) w.gives.spots
        ∙ spots_new g.source p.spots w.new (length p.spots) (spot_widths g.source x.effect) refl w.count)
        ∙ ap (λ (b : ℕ). record { first = b; width = own_width g.source x x.effect } ∷ paired g.source w.new (spot_widths g.source x.effect))
        (sym (plus_zero g.source p.bits))

    apart_after : Apart g (n + 1) after
    apart_after = record {
      low = λ i high.
          ⊎_elim
          (λ (old : i < len p). omega (arith, w.gives.roots i old, is.apart.low i old))
          (λ (new : len p ≤ i). w.gives.high i new high)
          (cases_lt i (len p));
      inside = λ j a under e.
          omega (arith, w.gives.longer, is.apart.inside j a (omega (arith, under, count_kept)) (object_kept j a e));
      apart = λ i j a before under d e. is.apart.apart i j a before (omega (arith, under, count_kept)) (object_kept i a d) (object_kept j a e);
      fresh = λ j a i later under e high root_is.
          let under' : j < length p.occurrences = omega (arith, under, count_kept) in
          let e' : (occ p j).object ≡ Some a = object_kept j a e in
          ⊎_elim
          (λ (old : i < len p).
          let root_was : (location p i).root ≡ a = sym (w.gives.roots i old) ∙ root_is in
          w.gives.bits i old (λ d. is.apart.apart n j a (omega (arith, later)) under' (d ∙ ap Some root_was) e')
          ∙ is.apart.fresh j a i (omega (arith, later)) under' e' old root_was)
          (λ (new : len p ≤ i). absurd (omega (arith, w.gives.low i new high, root_is, is.apart.inside j a under' e')))
          (cases_lt i (len p));
    }

    room_after : (j : ℕ) → j < n + 1 → Room after.sites after.spots (occ after j)
    room_after j under =
        ⊎_elim
        (λ (at : j ≡ n).
        subst (λ i. Room q.sites q.spots (occ after i)) (sym at)
        (subst (Room q.sites q.spots) (sym this_one)
        (omega (arith, longer_spots, w.count, ap (λ (y : Site). length (spot_widths g.source y.effect)) site_now))))
        (λ (other : j ≡ n → ⊥).
        subst (Room q.sites q.spots) (sym (other_one j other))
        (subst (λ (ss : List Site). Room ss q.spots (occ p j)) (sym w.gives.sites)
        (omega (arith, longer_spots, is.room j (omega (arith, under, other))))))
        (cases_eq j n)

    tiled_after : Tiled g.source (λ k. total (bits_at after k) (n + 1)) after
    tiled_after =
        let E : ℕ → ℕ = λ k. total (bits_at p k) n in
        let mine : List Bits =
        record { first = p.bits + 0; width = own_width g.source x x.effect } ∷ paired g.source w.new (spot_widths g.source x.effect) in
        let p' : Layout = record p { bits = p.bits + 0 } in
        tiled_same g.source (λ k. E k + how_many k mine) (λ k. total (bits_at after k) (n + 1)) after
        (λ k.
        omega (
          arith,
          total_more (bits_at after k) n,
          total_same (bits_at after k) (bits_at p k) n (λ j before. ap (how_many k) (old_bits j before)),
          ap (how_many k) new_bits,
        ))
        (tiled_through g.source (λ k. E k + how_many k mine) q after refl refl
        (w.gives.tiled E (tiled_through g.source E p p' refl (plus_zero g.source p.bits) is.tiled)))

    pub numbered_more : Numbered (n + 1) after × Stays p after
    numbered_more = (
      record { apart = apart_after; room = room_after; tiled = tiled_after },
      record { sites = w.gives.sites; site = kept (λ (o : Occurrence). o.site) refl; count = count_kept },
    )
