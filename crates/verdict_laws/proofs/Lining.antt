-- All calls are added in their turns: each stands in line, its object is its own and has no bits yet.
use Rattle.std.proofs.Common.{◌≡◌, ℕ, zero, suc, ◌+◌, ◌<◌, ◌≤◌, List, [], ◌∷◌, ◌++◌, length, refl, sym, ap, subst, ◌∙◌, ⊎_elim, arith}
use Rattle.std.proofs.lemmas.Bool.{cases_lt}
use Rattle.std.proofs.lemmas.List.{append_assoc, get_or_append_left, get_or_at, get_or_push, length_push}
use Rattle.std.specs.Prelude.{Option, Some, Ok, slice_index_or}
use Rattle.sc_world.specs.Tree.{is_pointer}
use Rattle.sc_world.specs.Gather.{Site}
use Rattle.sc_world.specs.Layout.{Layout, Occurrence, no_site, no_occurrence}
use Rattle.sc_world.specs.Objects.{Ground}
use Rattle.sc_world.specs.Occurrences.{object_if, occur_once, occur, occur_all}
use Rattle.verdict_laws.proofs.Steps.{Post, chained, weaker}
use Rattle.verdict_laws.proofs.Laying.{len}
use Rattle.verdict_laws.proofs.Tiles.{Tiled, tiled_through}
use Rattle.verdict_laws.proofs.Moves.{Apart, apart_moves}
use Rattle.verdict_laws.proofs.Numbered.{occ}
use Rattle.verdict_laws.proofs.Numbering.{Lined}
use Rattle.verdict_laws.proofs.Occurring.{Comes, object_comes}

module _ (g : Ground) where
  -- calls are added: those before stay where they are
  pub record Further (p q : Layout) : Type 0 where
    pub sites : q.sites ≡ p.sites
    pub longer : length p.occurrences ≤ length q.occurrences
    pub old : (j : ℕ) → j < length p.occurrences → (occ g q j).site ≡ (occ g p j).site
    pub apart : Apart g 0 p → Apart g 0 q
    pub tiled : (E : ℕ → ℕ) → Tiled g.source E p → Tiled g.source E q

  further_refl : (p : Layout) → Further p p
  further_refl p = record { sites = refl; longer = omega arith; old = λ j less. refl; apart = λ is. is; tiled = λ E t. t }

  further_trans : (p q z : Layout) → Further p q → Further q z → Further p z
  further_trans p q z a b = record {
    sites = b.sites ∙ a.sites;
    longer = omega (arith, a.longer, b.longer);
    old = λ j less. b.old j (omega (arith, less, a.longer)) ∙ a.old j less;
    apart = λ is. b.apart (a.apart is);
    tiled = λ E t. b.tiled E (a.tiled E t);
  }

  -- that many calls of the site with a number are added
  pub record Turns (k n : ℕ) (p q : Layout) : Type 0 where
    pub further : Further p q
    pub count : length q.occurrences ≡ length p.occurrences + n
    pub new : (j : ℕ) → length p.occurrences ≤ j → j < length q.occurrences → (occ g q j).site ≡ k

  -- one call, with its object
  module _ (k : ℕ) (p : Layout) (o : Option ℕ) (q : Layout) (c : Comes g p o q) where
    abbrev call : Occurrence
    call = record { site = k; object = o; bit = 0; spot = 0 }

    abbrev after : Layout
    after = record q { occurrences = q.occurrences ++ call ∷ [] }

    before : q.occurrences ≡ p.occurrences
    before = c.blank.moves.same.occurrences

    more : length after.occurrences ≡ length q.occurrences + 1
    more = length_push q.occurrences call

    old_one : (j : ℕ) → j < length q.occurrences → occ g after j ≡ occ g q j
    old_one j less = get_or_append_left q.occurrences (call ∷ []) no_occurrence j less

    new_one : (j : ℕ) → length q.occurrences ≤ j → j < length after.occurrences → occ g after j ≡ call
    new_one j low high =
        let e : length q.occurrences ≡ j = omega (arith, low, high, more) in
        subst (λ i. occ g after i ≡ call) e (get_or_push q.occurrences call no_occurrence (length q.occurrences) refl)

    old_object : (j a : ℕ) → j < length q.occurrences → (occ g after j).object ≡ Some a → (occ g q j).object ≡ Some a
    old_object j a less e = sym (ap (λ (y : Occurrence). y.object) (old_one j less)) ∙ e

    new_object : (j a : ℕ) → length q.occurrences ≤ j → j < length after.occurrences → (occ g after j).object ≡ Some a
        → (len p ≤ a) × (a < len q)
    new_object j a low high e = c.there a (sym (ap (λ (y : Occurrence). y.object) (new_one j low high)) ∙ e)

    apart_after : Apart g 0 p → Apart g 0 after
    apart_after is =
        let was : Apart g 0 q = apart_moves g 0 p q c.blank.moves is in
        record {
          low = was.low;
          inside = λ j a less e.
              ⊎_elim
              (λ (old : j < length q.occurrences). was.inside j a old (old_object j a old e))
              (λ (new : length q.occurrences ≤ j). (new_object j a new less e).1)
              (cases_lt j (length q.occurrences));
          apart = λ i j a first less d e.
              let old : i < length q.occurrences = omega (arith, first, less, more) in
              let d' : (occ g q i).object ≡ Some a = old_object i a old d in
              ⊎_elim
              (λ (both : j < length q.occurrences). was.apart i j a first both d' (old_object j a both e))
              (λ (new : length q.occurrences ≤ j).
              let under : a < len p =
              is.inside i a (subst (λ (os : List Occurrence). i < length os) before old)
              (subst (λ (os : List Occurrence). (slice_index_or os i no_occurrence).object ≡ Some a) before d') in
              absurd (omega (arith, under, (new_object j a new less e).0)))
              (cases_lt j (length q.occurrences));
          fresh = λ j a i later less e high root_is.
              ⊎_elim
              (λ (old : j < length q.occurrences). was.fresh j a i later old (old_object j a old e) high root_is)
              (λ (new : length q.occurrences ≤ j).
              c.blank.blank i (omega (arith, (new_object j a new less e).0, root_is, was.low i high)) high)
              (cases_lt j (length q.occurrences));
        }

    call_turns : Turns k 1 p after
    call_turns =
        let e : length q.occurrences ≡ length p.occurrences = ap length before in
        record {
          further = record {
            sites = c.blank.moves.same.sites;
            longer = omega (arith, e, more);
            old = λ j less.
                ap (λ (y : Occurrence). y.site) (old_one j (omega (arith, less, e)))
                ∙ ap (λ (os : List Occurrence). (slice_index_or os j no_occurrence).site) before;
            apart = apart_after;
            tiled = λ E t. tiled_through g.source E q after refl refl (c.blank.moves.same.tiled E t);
          };
          count = omega (arith, e, more);
          new = λ j low high. ap (λ (y : Occurrence). y.site) (new_one j (omega (arith, low, e)) high);
        }

  once_turns : (k : ℕ) (x : Site) (p : Layout) → Post (λ u z. Turns k 1 p z) (occur_once g k x p)
  once_turns k x p =
      chained (Comes g p) (λ u z. Turns k 1 p z) (object_if (is_pointer x.result) g (length p.occurrences) x p)
      (λ o q. Ok (tt {0}, record q { occurrences = q.occurrences ++ record { site = k; object = o; bit = 0; spot = 0 } ∷ [] }))
      (object_comes g (is_pointer x.result) (length p.occurrences) x p)
      (λ o q c. call_turns k p o q c)

  turns_behind : (k n : ℕ) (p q z : Layout) → Turns k 1 p q → Turns k n q z → Turns k (suc n) p z
  turns_behind k n p q z a b = record {
    further = further_trans p q z a.further b.further;
    count = omega (arith, a.count, b.count);
    new = λ j low high.
        ⊎_elim
        (λ (old : j < length q.occurrences). b.further.old j old ∙ a.new j low old)
        (λ (new : length q.occurrences ≤ j). b.new j new high)
        (cases_lt j (length q.occurrences));
  }

  turns_occur : (n k : ℕ) (x : Site) (p : Layout) → Post (λ u z. Turns k n p z) (occur n g k x p)
  turns_occur zero k x p = record {
    further = further_refl p;
    count = omega arith;
    new = λ j low high. absurd (omega (arith, low, high));
  }
  turns_occur (suc n) k x p =
      chained (λ u q. Turns k 1 p q) (λ u z. Turns k (suc n) p z) (occur_once g k x p) (λ u. occur n g k x) (once_turns k x p)
      (λ u q a.
      weaker (λ u z. Turns k n q z) (λ u z. Turns k (suc n) p z) (occur n g k x q) (turns_occur n k x q)
      (λ u z b. turns_behind k n p q z a b))

  -- the calls of these sites, in line
  pub record Line (xs : List Site) (p z : Layout) : Type 0 where
    pub further : Further p z
    pub lined : Lined g (length p.occurrences) xs z

  line_behind : (k : ℕ) (x : Site) (xs : List Site) (p q z : Layout) → slice_index_or p.sites k no_site ≡ x
      → Turns k x.turns p q → Line xs q z → Line (x ∷ xs) p z
  unfolding Lined
  line_behind k x xs p q z here a b = record {
    further = further_trans p q z a.further b.further;
    lined = (
      λ t less.
          let there : length p.occurrences + t < length q.occurrences = omega (arith, less, a.count) in (
            omega (arith, there, b.further.longer),
            ap (λ (ss : List Site). slice_index_or ss (occ g z (length p.occurrences + t)).site no_site) (b.further.sites ∙ a.further.sites)
                ∙ ap (λ (m : ℕ). slice_index_or p.sites m no_site)
                (b.further.old (length p.occurrences + t) there ∙ a.new (length p.occurrences + t) (omega arith) there)
                ∙ here,
          ),
      subst (λ n. Lined g n xs z) a.count b.lined,
    );
  }

  pub all_line : (k : ℕ) (done' xs : List Site) (p : Layout) → length done' ≡ k → p.sites ≡ done' ++ xs
      → Post (λ u z. Line xs p z) (occur_all k xs g p)
  unfolding Lined
  all_line k done' [] p e is = record { further = further_refl p; lined = refl }
  all_line k done' (x ∷ xs) p e is =
      chained (λ u q. Turns k x.turns p q) (λ u z. Line (x ∷ xs) p z) (occur x.turns g k x p) (λ u. occur_all (k + 1) xs g)
      (turns_occur x.turns k x p)
      (λ u q a.
      weaker (λ u z. Line xs q z) (λ u z. Line (x ∷ xs) p z) (occur_all (k + 1) xs g q)
      (all_line (k + 1) (done' ++ x ∷ []) xs q (omega (arith, e, length_push done' x))
      (a.further.sites ∙ is ∙ sym (append_assoc done' (x ∷ []) xs)))
      (λ u z b.
      line_behind k x xs p q z
      (ap (λ (ss : List Site). slice_index_or ss k no_site) is ∙ get_or_at done' x xs no_site k e) a b))
