-- Which locations callers know: globals and what is reached from parameters and globals. All others have no state.
use Rattle.std.proofs.Common.{◌≡◌, ℕ, zero, suc, ◌+◌, ◌-◌, ◌<◌, ◌≤◌, Bool, true, false, List, [], ◌∷◌, length, refl, sym, ap, subst, ◌∙◌, ⊎_elim, inl, inr, arith}
use Rattle.std.proofs.lemmas.Bool.{cases_lt, cases_eq}
use Rattle.std.specs.Prelude.{None, nat_eq, ◌⊎◌, if◌then◌else◌}
use Rattle.std.specs.List.{list_any, AllByRecursion}
use Rattle.sum_rows.specs.declared.path.Step.{Step}
use Rattle.sc_world.specs.declared.run.Origin.{Origin}
use Rattle.sc_world.specs.declared.run.Origin.TheVariants as origin
use Rattle.sc_world.specs.Tree.{Ty, target_or_void}
use Rattle.sc_world.specs.Build.{Built, goes_on, done}
use Rattle.sc_world.specs.Layout.{Layout, Location, location, is_pointer_cell}
use Rattle.sc_world.specs.Objects.{Ground, Chosen, Nothing, Cells, CellsAndStates, NoParts, gives_states, parts_of, whole, stub, Object, Stub, set_target, follow_at, follow_all, follow_range, type_or_void, lay_params, lay_global, lay_globals, lay_locals, lay_literals, levels}
use Rattle.verdict_laws.proofs.Steps.{Post, chained, weaker}
use Rattle.verdict_laws.proofs.Laying.{len, bare, Grows, grows_refl, grows_trans}
use Rattle.verdict_laws.proofs.Objects.{Keeps, IsPart, Lays, Stubs, whole_lays, stub_range, stub_one, target_grows}

-- what is there stays what it is, but for bits and for what pointers point to
pub record Stays (p q : Layout) : Type 0 where
  pub longer : len p ≤ len q
  pub origins : (i : ℕ) → i < len p → (location q i).origin ≡ (location p i).origin
  pub states : (i : ℕ) → i < len p → (location q i).state ≡ (location p i).state

pub stays_refl : (p : Layout) → Stays p p
stays_refl p = record { longer = omega arith; origins = λ i h. refl; states = λ i h. refl }

pub stays_trans : (p q z : Layout) → Stays p q → Stays q z → Stays p z
stays_trans p q z g h = record {
  longer = omega (arith, g.longer, h.longer);
  origins = λ i less. h.origins i (omega (arith, less, g.longer)) ∙ g.origins i less;
  states = λ i less. h.states i (omega (arith, less, g.longer)) ∙ g.states i less;
}

pub stays_from : (p q : Layout) → Grows p q → Stays p q
stays_from p q g = record {
  longer = g.longer;
  origins = λ i less. sym (ap (λ (l : Location). l.origin) (g.same i less));
  states = λ i less. sym (ap (λ (l : Location). l.state) (g.same i less));
}

module _ (params globals : ℕ) where
  pub data IsOuter (p : Layout) : ℕ → Type 0 where
    of_global : (i n : ℕ) → (location p i).origin ≡ origin.Global n → n < globals → IsOuter p i
    of_param : (i up n : ℕ) → (location p i).origin ≡ origin.Target up → up < i → (location p up).origin ≡ origin.Param n → n < params
        → IsOuter p i
    of_target : (i up : ℕ) → (location p i).origin ≡ origin.Target up → up < i → IsOuter p up → IsOuter p i
    of_part : (i up : ℕ) (s : Step) → (location p i).origin ≡ origin.Part up s → up < i → IsOuter p up → IsOuter p i

  pub outer_stays : (p q : Layout) → Stays p q → (i : ℕ) → i < len p → IsOuter p i → IsOuter q i
  outer_stays p q g _ less (of_global i n e h) = of_global i n (g.origins i less ∙ e) h
  outer_stays p q g _ less (of_param i up n e h d k) =
      of_param i up n (g.origins i less ∙ e) h (g.origins up (omega (arith, less, h)) ∙ d) k
  outer_stays p q g _ less (of_target i up e h is) =
      of_target i up (g.origins i less ∙ e) h (outer_stays p q g up (omega (arith, less, h)) is)
  outer_stays p q g _ less (of_part i up s e h is) =
      of_part i up s (g.origins i less ∙ e) h (outer_stays p q g up (omega (arith, less, h)) is)

  -- a parameter, or a location that callers know
  pub Entry : Layout → ℕ → Type 0
  Entry p i = ((n : ℕ) × ((location p i).origin ≡ origin.Param n) × (n < params)) ⊎ IsOuter p i

  pub entry_stays : (p q : Layout) → Stays p q → (i : ℕ) → i < len p → Entry p i → Entry q i
  unfolding Entry
  entry_stays p q g i less (inl e) = inl (e.0, (g.origins i less ∙ e.1), e.2)
  entry_stays p q g i less (inr is) = inr (outer_stays p q g i less is)

  -- no state, or a location that callers know
  unfoldable pub Settled : Layout → ℕ → Type 0
  Settled p i = ((location p i).state ≡ None) ⊎ IsOuter p i

  settled_stays : (p q : Layout) → Stays p q → (i : ℕ) → i < len p → Settled p i → Settled q i
  unfolding Settled
  settled_stays p q g i less (inl e) = inl (g.states i less ∙ e)
  settled_stays p q g i less (inr is) = inr (outer_stays p q g i less is)

  module _ (T : Layout → Type 0) where
    pub record Settles (p q : Layout) : Type 0 where
      pub stays : Stays p q
      pub settled : (i : ℕ) → len p ≤ i → i < len q → Settled q i
      pub keeps : T p → T q

    pub settles_refl : (p : Layout) → Settles p p
    settles_refl p = record { stays = stays_refl p; settled = λ i a b. absurd (omega (arith, a, b)); keeps = λ t. t }

    pub settles_trans : (p q z : Layout) → Settles p q → Settles q z → Settles p z
    settles_trans p q z a b = record {
      stays = stays_trans p q z a.stays b.stays;
      settled = λ i low high.
          ⊎_elim
          (λ (old : i < len q). settled_stays q z b.stays i old (a.settled i low old))
          (λ (new : len q ≤ i). b.settled i new high)
          (cases_lt i (len q));
      keeps = λ t. b.keeps (a.keeps t);
    }

    pub behind_it : {A : Type 0} (p q : Layout) (m : Built Layout A) → Settles p q → Post (λ u z. Settles q z) m → Post (λ u z. Settles p z) m
    behind_it p q m a h = weaker (λ u z. Settles q z) (λ u z. Settles p z) m h (λ u z b. settles_trans p q z a b)

    pub stubs_settle : (p q : Layout) → Stubs T p q → Settles p q
    unfolding Settled
    stubs_settle p q is = record {
      stays = stays_from p q is.grows;
      settled = λ i low high. inl (is.stubs i low high).state;
      keeps = is.keeps;
    }

    -- an object without states
    pub lays_settle : (c : Chosen) (r : ℕ) (t : Ty) (o : Origin) (g : Ground) (p : Layout) (at : ℕ) (q : Layout) → gives_states c ≡ false
        → Lays T c r t o (parts_of g.source t) p at q → Settles p q
    unfolding Settled
    lays_settle c r t o g p at q e is = record {
      stays = stays_from p q is.grows;
      settled = λ i low high.
          ⊎_elim
          (λ (here : i ≡ len p). inl (subst (λ n. (location q n).state ≡ None) (sym here) (is.first.state e)))
          (λ (other : i ≡ len p → ⊥). inl ((is.parts i (omega (arith, low, other)) high).state e))
          (cases_eq i (len p));
      keeps = is.keeps;
    }

    -- all of an object whose whole callers know
    outer_parts : (c : Chosen) (r lo : ℕ) (q : Layout) → IsOuter q lo
        → ((i : ℕ) → lo < i → i < len q → IsPart c r lo i (bare (location q i)))
        → (fuel i : ℕ) → i < fuel → lo ≤ i → i < len q → IsOuter q i
    outer_parts c r lo q head ps zero i less low high = absurd (omega (arith, less))
    outer_parts c r lo q head ps (suc fuel) i less low high =
        ⊎_elim
        (λ (here : i ≡ lo). subst (IsOuter q) (sym here) head)
        (λ (other : i ≡ lo → ⊥).
        let is = ps i (omega (arith, low, other)) high in
        of_part i is.up is.step is.origin is.below
        (outer_parts c r lo q head ps fuel is.up (omega (arith, is.below, less)) is.above (omega (arith, is.below, high))))
        (cases_eq i lo)

    -- new locations, which callers know
    pub record Shows (p q : Layout) : Type 0 where
      pub grows : Grows p q
      pub outer : (i : ℕ) → len p ≤ i → i < len q → IsOuter q i
      pub keeps : T p → T q

    shows_refl : (p : Layout) → Shows p p
    shows_refl p = record { grows = grows_refl p; outer = λ i a b. absurd (omega (arith, a, b)); keeps = λ t. t }

    shows_trans : (p q z : Layout) → Shows p q → Shows q z → Shows p z
    shows_trans p q z a b = record {
      grows = grows_trans p q z a.grows b.grows;
      outer = λ i low high.
          ⊎_elim
          (λ (old : i < len q). outer_stays q z (stays_from q z b.grows) i old (a.outer i low old))
          (λ (new : len q ≤ i). b.outer i new high)
          (cases_lt i (len q));
      keeps = λ t. b.keeps (a.keeps t);
    }

    shows_settle : (p q : Layout) → Shows p q → Settles p q
    unfolding Settled
    shows_settle p q is = record { stays = stays_from p q is.grows; settled = λ i low high. inr (is.outer i low high); keeps = is.keeps }

    lays_show : (r : ℕ) (t : Ty) (o : Origin) (g : Ground) (p : Layout) (at : ℕ) (q : Layout)
        → Lays T CellsAndStates r t o (parts_of g.source t) p at q → IsOuter q (len p) → Shows p q
    lays_show r t o g p at q is head = record {
      grows = is.grows;
      outer = λ i low high. outer_parts CellsAndStates r (len p) q head is.parts (suc i) i (omega arith) low high;
      keeps = is.keeps;
    }

    -- what the pointer of an entry points to
    target_outer : (p q : Layout) (at : ℕ) → at < len p → Stays p q → (location q (len p)).origin ≡ origin.Target at → Entry p at
        → IsOuter q (len p)
    unfolding Entry
    target_outer p q at less g e (inl is) = of_param (len p) at is.0 e less (g.origins at less ∙ is.1) is.2
    target_outer p q at less g e (inr is) = of_target (len p) at e less (outer_stays p q g at less is)

    module _ (g : Ground) (k : Keeps g.source T) where
      point_shows : (p q : Layout) (at to : ℕ) → Shows p q → Post (λ u z. Shows p z) (set_target at to q)
      point_shows p q at to a =
          weaker (λ u z. (Grows q z) × (len z ≡ len q) × (T q → T z)) (λ u z. Shows p z) (set_target at to q) (target_grows T g k at to q)
          (λ u z is. shows_trans p q z a (record {
            grows = is.0;
            outer = λ i low high. absurd (omega (arith, low, high, is.1));
            keeps = is.2;
          }))

      object_cell_if : (b : Bool) (t : Ty) (at : ℕ) (p : Layout) → at < len p → Entry p at
          → Post (λ u q. Shows p q)
          ((if b then (λ (p : Layout). goes_on (whole g CellsAndStates t (origin.Target at) p) (λ to. set_target at to)) else done tt) p)
      object_cell_if false t at p less is = shows_refl p
      object_cell_if true t at p less is =
          chained (Lays T CellsAndStates (len p) t (origin.Target at) (parts_of g.source t) p) (λ u q. Shows p q)
          (whole g CellsAndStates t (origin.Target at) p) (λ to. set_target at to)
          (whole_lays T g k CellsAndStates t (origin.Target at) p)
          (λ to q a.
          point_shows p q at to
          (lays_show (len p) t (origin.Target at) g p to q a
          (target_outer p q at less (stays_from p q a.grows) a.first.origin is)))

      object_at_cell : (at : ℕ) (p : Layout) → at < len p → Entry p at
          → Post (λ u q. Shows p q) (follow_at g (Object CellsAndStates) at p)
      object_at_cell at p less is =
          object_cell_if (is_pointer_cell (location p at)) (target_or_void (type_or_void (location p at).type)) at p less is

      object_all : (more at : ℕ) (p : Layout) → at + more ≤ len p → ((i : ℕ) → at ≤ i → i < at + more → Entry p i)
          → Post (λ u q. Shows p q) (follow_all more at g (Object CellsAndStates) p)
      object_all zero at p less es = shows_refl p
      object_all (suc more) at p less es =
          chained (λ u q. Shows p q) (λ u q. Shows p q) (follow_at g (Object CellsAndStates) at p)
          (λ u. follow_all more (at + 1) g (Object CellsAndStates))
          (object_at_cell at p (omega (arith, less)) (es at (omega arith) (omega arith)))
          (λ u q a.
          weaker (λ u z. Shows q z) (λ u z. Shows p z) (follow_all more (at + 1) g (Object CellsAndStates) q)
          (object_all more (at + 1) q (omega (arith, less, a.grows.longer))
          (λ i low high.
          entry_stays p q (stays_from p q a.grows) i (omega (arith, less, high)) (es i (omega (arith, low)) (omega (arith, high)))))
          (λ u z b. shows_trans p q z a b))

      object_range : (from to : ℕ) (p : Layout) → to ≤ len p → ((i : ℕ) → from ≤ i → i < to → Entry p i)
          → Post (λ u q. Shows p q) (follow_range from to g (Object CellsAndStates) p)
      object_range from to p less es =
          ⊎_elim
          (λ (some : from < to).
          object_all (to - from) from p (omega (arith, less, some)) (λ i low high. es i low (omega (arith, high, some))))
          (λ (none : to ≤ from).
          let e : to - from ≡ zero = omega (arith, none) in
          subst (λ n. Post (λ u q. Shows p q) (follow_all n from g (Object CellsAndStates) p)) (sym e) (shows_refl p))
          (cases_lt from to)

      pub levels_settle : (reach from to : ℕ) (p : Layout) → to ≤ len p → ((i : ℕ) → from ≤ i → i < to → Entry p i)
          → Post (λ u q. Settles p q) (levels reach from to g p)
      unfolding Entry
      levels_settle zero from to p less es =
          weaker (λ u q. Stubs T p q) (λ u q. Settles p q) (follow_range from to g Stub p) (stub_range T g k from to p)
          (λ u q a. stubs_settle p q a)
      levels_settle (suc reach) from to p less es =
          chained (λ u q. Shows p q) (λ u q. Settles p q) (follow_range from to g (Object CellsAndStates) p)
          (λ u. λ q. levels reach (len p) (len q) g q)
          (object_range from to p less es)
          (λ u q a.
          behind_it p q (levels reach (len p) (len q) g q) (shows_settle p q a)
          (levels_settle reach (len p) (len q) q (omega arith) (λ i low high. inr (a.outer i low high))))

      -- parameters, each of an integer or a pointer, and globals: all locations are entries
      pub record Enters (p q : Layout) : Type 0 where
        pub settles : Settles p q
        pub entries : (i : ℕ) → len p ≤ i → i < len q → Entry q i

      enters_refl : (p : Layout) → Enters p p
      enters_refl p = record { settles = settles_refl p; entries = λ i a b. absurd (omega (arith, a, b)) }

      enters_trans : (p q z : Layout) → Enters p q → Enters q z → Enters p z
      enters_trans p q z a b = record {
        settles = settles_trans p q z a.settles b.settles;
        entries = λ i low high.
            ⊎_elim
            (λ (old : i < len q). entry_stays q z b.settles.stays i old (a.entries i low old))
            (λ (new : len q ≤ i). b.entries i new high)
            (cases_lt i (len q));
      }

      behind_entry : {A : Type 0} (p q : Layout) (m : Built Layout A) → Enters p q → Post (λ u z. Enters q z) m → Post (λ u z. Enters p z) m
      behind_entry p q m a h = weaker (λ u z. Enters q z) (λ u z. Enters p z) m h (λ u z b. enters_trans p q z a b)

      shows_enter : (p q : Layout) → Shows p q → Enters p q
      unfolding Entry
      shows_enter p q a = record { settles = shows_settle p q a; entries = λ i low high. inr (a.outer i low high) }

      param_enters : (n : ℕ) (t : Ty) (p : Layout) (at : ℕ) (q : Layout) → n < params → parts_of g.source t ≡ NoParts
          → Lays T Cells (len p) t (origin.Param n) (parts_of g.source t) p at q → Enters p q
      unfolding Entry
      param_enters n t p at q less none a = record {
        settles = lays_settle Cells (len p) t (origin.Param n) g p at q refl a;
        entries = λ i low high.
            let here : len p ≡ i = omega (arith, low, high, a.alone none) in
            inl (n, subst (λ j. (location q j).origin ≡ origin.Param n) here a.first.origin, less);
      }

      params_enter : (n : ℕ) (ts : List Ty) (p : Layout) → n + length ts ≤ params
          → AllByRecursion (λ t. parts_of g.source t ≡ NoParts) ts → Post (λ u q. Enters p q) (lay_params n ts g p)
      params_enter n [] p less none = enters_refl p
      params_enter n (t ∷ ts) p less (one, rest) =
          chained (Lays T Cells (len p) t (origin.Param n) (parts_of g.source t) p) (λ u q. Enters p q) (whole g Cells t (origin.Param n) p)
          (λ u. lay_params (n + 1) ts g) (whole_lays T g k Cells t (origin.Param n) p)
          (λ at q a.
          behind_entry p q (lay_params (n + 1) ts g q) (param_enters n t p at q (omega (arith, less)) one a)
          (params_enter (n + 1) ts q (omega (arith, less)) rest))

      global_if : (b : Bool) (n : ℕ) (t : Ty) (p : Layout) → n < globals
          → Post (λ u q. Enters p q)
          ((if b then (λ (p : Layout). goes_on (whole g CellsAndStates t (origin.Global n) p) (λ u. done (tt {0}))) else done (tt {0})) p)
      global_if false n t p less = enters_refl p
      global_if true n t p less =
          chained (Lays T CellsAndStates (len p) t (origin.Global n) (parts_of g.source t) p) (λ u q. Enters p q)
          (whole g CellsAndStates t (origin.Global n) p) (λ u. done tt) (whole_lays T g k CellsAndStates t (origin.Global n) p)
          (λ at q a.
          shows_enter p q
          (lays_show (len p) t (origin.Global n) g p at q a (of_global (len p) n a.first.origin less)))

      globals_enter : (n : ℕ) (ts : List Ty) (p : Layout) → n + length ts ≤ globals
          → Post (λ u q. Enters p q) (lay_globals n ts g p)
      globals_enter n [] p less = enters_refl p
      globals_enter n (t ∷ ts) p less =
          chained (λ u q. Enters p q) (λ u q. Enters p q) (lay_global g n t p) (λ u. lay_globals (n + 1) ts g)
          (global_if (list_any (nat_eq n) g.found.globals) n t p (omega (arith, less)))
          (λ u q a. behind_entry p q (lay_globals (n + 1) ts g q) a (globals_enter (n + 1) ts q (omega (arith, less))))

      pub locals_settle : (n : ℕ) (ts : List Ty) (p : Layout) → Post (λ u q. Settles p q) (lay_locals n ts g p)
      locals_settle n [] p = settles_refl p
      locals_settle n (t ∷ ts) p =
          chained (Lays T Nothing (len p) t (origin.Local n) (parts_of g.source t) p) (λ u q. Settles p q)
          (whole g Nothing t (origin.Local n) p) (λ u. lay_locals (n + 1) ts g) (whole_lays T g k Nothing t (origin.Local n) p)
          (λ at q a.
          behind_it p q (lay_locals (n + 1) ts g q) (lays_settle Nothing (len p) t (origin.Local n) g p at q refl a)
          (locals_settle (n + 1) ts q))

      pub literals_settle : (os : List Origin) (p : Layout) → Post (λ u q. Settles p q) (lay_literals os p)
      literals_settle [] p = settles_refl p
      literals_settle (o ∷ os) p =
          chained (λ at q. Stubs T p q) (λ u q. Settles p q) (stub o p) (λ u. lay_literals os) (stub_one T g k o p)
          (λ at q a. behind_it p q (lay_literals os q) (stubs_settle p q a) (literals_settle os q))

      pub entered : (p : Layout) → len p ≡ 0 → length g.source.params ≤ params → length g.source.globals ≤ globals
          → AllByRecursion (λ t. parts_of g.source t ≡ NoParts) g.source.params
          → Post (λ u q. Enters p q) (goes_on (lay_params 0 g.source.params g p) (λ u. lay_globals 0 g.source.globals g))
      entered p e few few_globals none =
          chained (λ u q. Enters p q) (λ u q. Enters p q) (lay_params 0 g.source.params g p) (λ u. lay_globals 0 g.source.globals g)
          (params_enter 0 g.source.params p (omega (arith, few)) none)
          (λ u q a. behind_entry p q (lay_globals 0 g.source.globals g q) a (globals_enter 0 g.source.globals q (omega (arith, few_globals))))
