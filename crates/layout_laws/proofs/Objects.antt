-- Objects with their parts.
use Rattle.std.proofs.Common.{inl, inr, ◌≡◌, ◌⊎◌, ℕ, zero, suc, ◌+◌, ◌≤◌, ◌<◌, Bool, true, false, List, [], ◌∷◌, ◌++◌, length, refl, sym, ap, subst, ◌∙◌, arith}
use Rattle.std.specs.Prelude.{Option, Some, None, IfSome, Ok, Err, if◌then◌else◌}
use Rattle.sc_base.specs.declared.pos.NameId.{NameId}
use Rattle.sum_rows.specs.declared.path.Step.{Step}
use Rattle.sum_rows.specs.declared.path.Step.TheVariants as step
use Rattle.sc_world.specs.declared.run.Origin.{Origin}
use Rattle.sc_world.specs.declared.run.Origin.TheVariants as origin
use Rattle.sc_world.specs.Tree.{Ty, Ptr}
use Rattle.sc_world.specs.Build.{Built, goes_on, ◌>>=◌, done}
use Rattle.sc_world.specs.Source.{Source, Member}
use Rattle.sc_world.specs.Gather.{Found}
use Rattle.sc_world.specs.Layout.{Layout, Location}
use Rattle.sc_world.specs.Objects.{Ground, Laying, Layer, Chosen, Parts, NoParts, Elements, Members, parts_of, is_named, elements, member_named, members, lay_parts, parts, object, whole, add, root_or}
use Rattle.layout_laws.specs.Origins.{IsAmong, at, Has, IsPart, FitsOrigin, HasParts, HasItsParts, IsRight}
use Rattle.layout_laws.proofs.Lists.{below_or}
use Rattle.layout_laws.proofs.Steps.{Stays, stays_trans, has_stays, type_stays, fits_stays, its_parts_stay, Goes, goes_refl, goes_trans, After, chained, weaker, Pushed, add_pushes}

module _ (s : Source) (f : Found) where
  -- an object of that type and origin was laid
  pub record Laid (ls ms : List Location) (t : Ty) (o : Origin) : Type 0 where
    pub goes : Goes s f ls ms
    pub there : length ls < length ms
    pub type : (at ms (length ls)).type ≡ Some t
    pub origin : (at ms (length ls)).origin ≡ o

  pub laid_has : (ls ms : List Location) (t : Ty) (o : Origin) → Laid ls ms t o → Has ms o
  laid_has ls ms t o h = (length ls, h.there, h.origin)

  abbrev pub LaidAt : Layout → Ty → Origin → ℕ → Layout → Type 0
  LaidAt p t o k q = (k ≡ length p.locations) × Laid p.locations q.locations t o

  -- a function that lays objects
  abbrev pub IsLayer : Layer → Type 0
  IsLayer part = (t : Ty) (o : Origin) (p : Layout) → FitsOrigin s f p.locations (Some t) o → After (LaidAt p t o) (part t o p)

  module _ (part : Layer) (l : IsLayer part) where
    abbrev HasElements : List Location → (i k more : ℕ) → Type 0
    HasElements ls i k more = (j : ℕ) → k ≤ j → j < k + more → Has ls (origin.Part i (step.Elem j))

    abbrev Elemented : Layout → (i k more : ℕ) → Unit {0} → Layout → Type 0
    Elemented p i k more u q = Goes s f p.locations q.locations × HasElements q.locations i k more

    lays_elements : (more k i : ℕ) (u t : Ty) (p : Layout) → (at p.locations i).type ≡ Some u
        → ((j : ℕ) → k ≤ j → j < k + more → IsPart (parts_of s u) (step.Elem j) t)
        → After (Elemented p i k more) (elements part more k i t p)
    lays_elements zero k i u t p e is = (goes_refl s f p.locations, λ j low high. absurd (omega (arith, low, high)))
    lays_elements (suc more) k i u t p e is =
        chained (LaidAt p t (origin.Part i (step.Elem k))) (Elemented p i k (suc more)) (part t (origin.Part i (step.Elem k)) p)
        (λ _. elements part more (k + 1) i t)
        (l t (origin.Part i (step.Elem k)) p (u, t, e, refl, is k (omega arith) (omega arith)))
        (λ a q laid.
        weaker (Elemented q i (k + 1) more) (Elemented p i k (suc more)) (elements part more (k + 1) i t q)
        (λ _ r h. (goes_trans s f p.locations q.locations r.locations laid.1.goes h.0, each q r laid.1 h.0 h.1))
        (lays_elements more (k + 1) i u t q (type_stays p.locations q.locations i u laid.1.goes.stays e)
        (λ j low high. is j (omega (arith, low)) (omega (arith, high)))))
      where
        each : (q r : Layout) → Laid p.locations q.locations t (origin.Part i (step.Elem k)) → Goes s f q.locations r.locations
            → HasElements r.locations i (k + 1) more → HasElements r.locations i k (suc more)
        each q r laid goes rest j low high = side (below_or k j)
          where
            side : (k < j) ⊎ (j ≤ k) → Has r.locations (origin.Part i (step.Elem j))
            side (inl less) = rest j (omega (arith, less)) (omega (arith, high))
            side (inr more') =
                let same : k ≡ j = omega (arith, low, more') in
                subst (λ m. Has r.locations (origin.Part i (step.Elem m))) same
                (has_stays q.locations r.locations (origin.Part i (step.Elem k)) goes.stays
                (laid_has p.locations q.locations t (origin.Part i (step.Elem k)) laid))

    -- Members.

    abbrev HasMembers : List Location → ℕ → List Member → Type 0
    HasMembers ls i ms =
        (x : Member) (n : NameId) → IsAmong x ms → x.name ≡ Some n → is_named f n ≡ true → Has ls (origin.Part i (step.Field n))

    abbrev HasMember : List Location → ℕ → Option NameId → Type 0
    HasMember ls i name = (n : NameId) → name ≡ Some n → is_named f n ≡ true → Has ls (origin.Part i (step.Field n))

    abbrev Membered : Layout → ℕ → Option NameId → Unit {0} → Layout → Type 0
    Membered p i name u q = Goes s f p.locations q.locations × HasMember q.locations i name

    named_by : (b : Bool) (i : ℕ) (t : Ty) (n : NameId) (p : Layout) → is_named f n ≡ b
        → FitsOrigin s f p.locations (Some t) (origin.Part i (step.Field n))
        → After (Membered p i (Some n)) ((if b then (part t (origin.Part i (step.Field n)) >>= λ _. done (tt {0})) else done (tt {0})) p)
    named_by true i t n p e fits =
        chained (LaidAt p t (origin.Part i (step.Field n))) (Membered p i (Some n)) (part t (origin.Part i (step.Field n)) p) (λ _. done tt)
        (l t (origin.Part i (step.Field n)) p fits)
        (λ a q laid. (
          laid.1.goes,
          λ m same named.
              subst (λ z. Has q.locations (origin.Part i (step.Field z))) (some_same n m same)
              (laid_has p.locations q.locations t (origin.Part i (step.Field n)) laid.1),
        ))
      where
        some_same : (n m : NameId) → Some n ≡ Some m → n ≡ m
        some_same n m h = ap (λ o. option_or n o) h
          where
            option_or : NameId → Option NameId → NameId
            option_or d None = d
            option_or d (Some z) = z
    named_by false i t n p e fits = (
      goes_refl s f p.locations,
      λ m same named. absurd (clash (is_named f m) named (sym (ap (λ z. is_named f z) (some_same n m same)) ∙ e)),
    )
      where
        clash : (b : Bool) → b ≡ true → b ≡ false → ⊥
        clash b h g = absurd (cc)

        some_same : (n m : NameId) → Some n ≡ Some m → n ≡ m
        some_same n m h = ap (λ o. option_or n o) h
          where
            option_or : NameId → Option NameId → NameId
            option_or d None = d
            option_or d (Some z) = z

    lays_member : (i : ℕ) (t : Ty) (name : Option NameId) (p : Layout)
        → ((n : NameId) → name ≡ Some n → FitsOrigin s f p.locations (Some t) (origin.Part i (step.Field n)))
        → After (Membered p i name) (member_named part f i t name p)
    lays_member i t None p fits = (goes_refl s f p.locations, λ n e named. absurd (none_some n e))
      where
        none_some : (n : NameId) → None ≡ Some n → ⊥
        none_some n h = absurd (cc)
    lays_member i t (Some n) p fits = named_by (is_named f n) i t n p refl (fits n refl)

    abbrev AllMembered : Layout → ℕ → List Member → Unit {0} → Layout → Type 0
    AllMembered p i ms u q = Goes s f p.locations q.locations × HasMembers q.locations i ms

    lays_members : (i : ℕ) (u : Ty) (ms : List Member) (p : Layout) → (at p.locations i).type ≡ Some u
        → ((x : Member) (n : NameId) → IsAmong x ms → x.name ≡ Some n → IsPart (parts_of s u) (step.Field n) x.type)
        → After (AllMembered p i ms) (members part f i ms p)
    lays_members i u [] p e is = (goes_refl s f p.locations, λ x n among name named. absurd among)
    lays_members i u (m ∷ ms) p e is =
        chained (Membered p i m.name) (AllMembered p i (m ∷ ms)) (member_named part f i m.type m.name p) (λ _. members part f i ms)
        (lays_member i m.type m.name p (λ n name. (u, m.type, e, refl, is m n (inl refl) name)))
        (λ a q h.
        weaker (AllMembered q i ms) (AllMembered p i (m ∷ ms)) (members part f i ms q)
        (λ _ r g. (goes_trans s f p.locations q.locations r.locations h.0 g.0, each q r h.1 g.0 g.1))
        (lays_members i u ms q (type_stays p.locations q.locations i u h.0.stays e) (λ x n among name. is x n (inr among) name)))
      where
        each : (q r : Layout) → HasMember q.locations i m.name → Goes s f q.locations r.locations → HasMembers r.locations i ms
            → HasMembers r.locations i (m ∷ ms)
        each q r first goes rest x n (inl same) name named =
            has_stays q.locations r.locations (origin.Part i (step.Field n)) goes.stays
            (first n (ap (λ (y : Member). y.name) same ∙ name) named)
        each q r first goes rest x n (inr among) name named = rest x n among name named

    abbrev Parted : Layout → ℕ → Parts → Unit {0} → Layout → Type 0
    Parted p i x u q = Goes s f p.locations q.locations × HasParts s f q.locations i x

    lays_parts : (i : ℕ) (u : Ty) (x : Parts) (p : Layout) → parts_of s u ≡ x → (at p.locations i).type ≡ Some u
        → After (Parted p i x) (lay_parts f part i x p)
    lays_parts i u NoParts p is e = (goes_refl s f p.locations, tt)
    lays_parts i u (Elements n t) p is e =
        weaker (Elemented p i 0 n) (Parted p i (Elements n t)) (elements part n 0 i t p)
        (λ _ q h. (h.0, λ k less. h.1 k (omega arith) (omega (arith, less))))
        (lays_elements n 0 i u t p e
        (λ j low high. subst (λ y. IsPart y (step.Elem j) t) (sym is) (omega (arith, high), refl)))
    lays_parts i u (Members ms) p is e =
        lays_members i u ms p e
        (λ x n among name. subst (λ y. IsPart y (step.Field n) x.type) (sym is) (x, among, name, refl))

  abbrev pub ground : Ground
  ground = record { source = s; found = f }

  pub lays_object : (deep : ℕ) (c : Chosen) (root : Option ℕ) → IsLayer (object deep ground c root)
  unfolding object
  lays_object zero c root t o p fits = tt
  lays_object (suc deep) c root t o p fits =
      chained (λ k q. (k ≡ length p.locations) × Pushed p.locations q.locations (Some t) o) (LaidAt p t o) (add s c root t o p)
      (λ k. parts ground (object deep ground c (Some (root_or root k))) k t >>= λ _. done k)
      (add_pushes s c root t o p)
      (λ k q h.
      chained (Parted (object deep ground c (Some (root_or root k))) (lays_object deep c (Some (root_or root k))) q k (parts_of s t))
      (LaidAt p t o) (parts ground (object deep ground c (Some (root_or root k))) k t q) (λ _. done k)
      (lays_parts (object deep ground c (Some (root_or root k))) (lays_object deep c (Some (root_or root k))) k t (parts_of s t) q refl
      (subst (λ n. (at q.locations n).type ≡ Some t) (sym h.0) h.1.type))
      (λ a r g. (h.0, whole_laid p q r t o fits h.1 g.0 (subst (λ n. HasParts s f r.locations n (parts_of s t)) h.0 g.1))))
    where
      whole_laid : (p q r : Layout) (t : Ty) (o : Origin) → FitsOrigin s f p.locations (Some t) o
          → Pushed p.locations q.locations (Some t) o → Goes s f q.locations r.locations
          → HasParts s f r.locations (length p.locations) (parts_of s t) → Laid p.locations r.locations t o
      whole_laid p q r t o fits h g has =
          let less : length p.locations < length q.locations = omega (arith, h.one) in
          let type = type_stays q.locations r.locations (length p.locations) t g.stays h.type in
          let origin = g.stays.origins (length p.locations) less ∙ h.origin in
          let stays = stays_trans p.locations q.locations r.locations h.stays g.stays in
          let fits_there = fits_stays s f p.locations r.locations (Some t) o stays fits in
          record {
            goes = record {
              stays = stays;
              right = λ i low high. side i low high type origin fits_there (below_or i (length q.locations));
            };
            there = omega (arith, h.one, g.stays.longer);
            type = type;
            origin = origin;
          }
        where
          side : (i : ℕ) → length p.locations ≤ i → i < length r.locations
              → (at r.locations (length p.locations)).type ≡ Some t → (at r.locations (length p.locations)).origin ≡ o
              → FitsOrigin s f r.locations (Some t) o
              → (i < length q.locations) ⊎ (length q.locations ≤ i) → IsRight s f r.locations i
          side i low high type origin fits_there (inl less) =
              let same : length p.locations ≡ i = omega (arith, low, less, h.one) in
              subst (λ n. IsRight s f r.locations n) same (
                subst (λ y. FitsOrigin s f r.locations y (at r.locations (length p.locations)).origin) (sym type)
                    (subst (λ z. FitsOrigin s f r.locations (Some t) z) (sym origin) fits_there),
                subst (λ y. HasItsParts s f r.locations (length p.locations) y) (sym type) has,
              )
          side i low high type origin fits_there (inr more) = g.right i more high

  pub lays_whole : (c : Chosen) → IsLayer (whole ground c)
  lays_whole c t o p fits = lays_object 257 c None t o p fits
