-- All calls get their bits, in order.
use Rattle.std.proofs.Common.{◌≡◌, ℕ, zero, suc, ◌+◌, ◌<◌, List, [], ◌∷◌, length, refl, sym, ap, subst, ◌∙◌, arith}
use Rattle.std.specs.Prelude.{Ok, slice_index_or, slice_set}
use Rattle.sc_world.specs.Gather.{Site}
use Rattle.sc_world.specs.Layout.{Layout, Occurrence, no_site}
use Rattle.sc_world.specs.Objects.{Ground}
use Rattle.sc_world.specs.Occurrences.{effect_bits, number_site, number_turns, number_all}
use Rattle.verdict_laws.specs.Bits.{own_width, spot_widths}
use Rattle.verdict_laws.proofs.Steps.{Post, chained, weaker}
use Rattle.verdict_laws.proofs.Calls.{Works, effect_gives}
use Rattle.verdict_laws.proofs.Numbered.{Numbered, Stays, occ, site_of, numbered_more}

module _ (g : Ground) where
  -- from call n on there are the turns of these sites, and no other calls
  unfoldable pub Lined : ℕ → List Site → Layout → Type 0
  Lined n [] p = length p.occurrences ≡ n
  Lined n (x ∷ xs) p =
      ((t : ℕ) → t < x.turns → (n + t < length p.occurrences) × (site_of g p.sites (occ g p (n + t)) ≡ x)) × Lined (n + x.turns) xs p

  site_kept : (p z : Layout) → Stays g p z → (j : ℕ) → site_of g z.sites (occ g z j) ≡ site_of g p.sites (occ g p j)
  site_kept p z a j =
      ap (λ (ss : List Site). slice_index_or ss (occ g z j).site no_site) a.sites
      ∙ ap (λ (m : ℕ). slice_index_or p.sites m no_site) (a.site j)

  stays_trans : (p q z : Layout) → Stays g p q → Stays g q z → Stays g p z
  stays_trans p q z a b = record { sites = b.sites ∙ a.sites; site = λ j. b.site j ∙ a.site j; count = b.count ∙ a.count }

  lined_stays : (n : ℕ) (xs : List Site) (p z : Layout) → Stays g p z → Lined n xs p → Lined n xs z
  unfolding Lined
  lined_stays n [] p z a h = a.count ∙ h
  lined_stays n (x ∷ xs) p z a h = (
    λ t less. (omega (arith, (h.0 t less).0, a.count), site_kept p z a (n + t) ∙ (h.0 t less).1),
    lined_stays (n + x.turns) xs p z a h.1,
  )

  site_numbers : (n : ℕ) (x : Site) (p : Layout) → Numbered g n p → n < length p.occurrences → site_of g p.sites (occ g p n) ≡ x
      → Post (λ u z. Numbered g (n + 1) z × Stays g p z) (number_site g n x p)
  site_numbers n x p is less here =
      let o : Occurrence = occ g p n in
      let p' : Layout = record p { bits = p.bits + 0 } in
      chained (λ u q. Works g o.object (own_width g.source x x.effect) (spot_widths g.source x.effect) p' q)
      (λ u z. Numbered g (n + 1) z × Stays g p z)
      (effect_bits g n x o.object x.effect p')
      (λ u q. Ok (tt {0}, record q { occurrences = slice_set q.occurrences n (record o { bit = p.bits; spot = length p.spots }) }))
      (effect_gives g n x o.object x.effect p'
      (λ a e. (is.apart.inside n a less e, λ i high root_is. is.apart.fresh n a i (omega arith) less e high root_is)))
      (λ u q w. numbered_more g n x p q is less here w)

  turns_number : (more n : ℕ) (x : Site) (p : Layout) → Numbered g n p
      → ((t : ℕ) → t < more → (n + t < length p.occurrences) × (site_of g p.sites (occ g p (n + t)) ≡ x))
      → Post (λ u z. Numbered g (n + more) z × Stays g p z) (number_turns more g n x p)
  turns_number zero n x p is h =
      let e : n ≡ n + 0 = omega arith in
      (subst (λ i. Numbered g i p) e is, record { sites = refl; site = λ j. refl; count = refl })
  turns_number (suc more) n x p is h =
      let e : n + 0 ≡ n = omega arith in
      chained (λ u q. Numbered g (n + 1) q × Stays g p q) (λ u z. Numbered g (n + suc more) z × Stays g p z)
      (number_site g n x p) (λ u. number_turns more g (n + 1) x)
      (site_numbers n x p is (omega (arith, (h 0 (omega arith)).0)) (subst (λ i. site_of g p.sites (occ g p i) ≡ x) e (h 0 (omega arith)).1))
      (λ u q a.
      weaker (λ u z. Numbered g (n + 1 + more) z × Stays g q z) (λ u z. Numbered g (n + suc more) z × Stays g p z)
      (number_turns more g (n + 1) x q)
      (turns_number more (n + 1) x q a.0
      (λ t less.
      let on : n + suc t ≡ n + 1 + t = omega arith in
      let was : (n + suc t < length p.occurrences) × (site_of g p.sites (occ g p (n + suc t)) ≡ x) = h (suc t) (omega (arith, less)) in (
        omega (arith, was.0, a.1.count),
        site_kept p q a.1 (n + 1 + t) ∙ subst (λ i. site_of g p.sites (occ g p i) ≡ x) on was.1,
      )))
      (λ u z b.
      let on : n + 1 + more ≡ n + suc more = omega arith in
      (subst (λ i. Numbered g i z) on b.0, stays_trans p q z a.1 b.1)))

  pub all_number : (n : ℕ) (xs : List Site) (p : Layout) → Numbered g n p → Lined n xs p
      → Post (λ u z. Numbered g (length z.occurrences) z) (number_all n xs g p)
  unfolding Lined
  all_number n [] p is h = subst (λ i. Numbered g i p) (sym h) is
  all_number n (x ∷ xs) p is h =
      chained (λ u q. Numbered g (n + x.turns) q × Stays g p q) (λ u z. Numbered g (length z.occurrences) z)
      (number_turns x.turns g n x p) (λ u. number_all (n + x.turns) xs g)
      (turns_number x.turns n x p is h.0)
      (λ u q a. all_number (n + x.turns) xs q a.0 (lined_stays (n + x.turns) xs p q a.1 h.1))
