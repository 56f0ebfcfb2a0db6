-- A call in one turn is added: its object is its own, and has no bits yet.
use Rattle.std.proofs.Common.{◌≡◌, ℕ, ◌<◌, ◌≤◌, Bool, true, false, refl, sym, ap, subst, ⊎_elim, arith}
use Rattle.std.proofs.lemmas.Bool.{cases_lt, cases_eq, true≢false}
use Rattle.std.specs.Prelude.{Option, Some, None}
use Rattle.sc_world.specs.declared.run.Origin.TheVariants as origin
use Rattle.sc_world.specs.Build.{goes_on, done}
use Rattle.sc_world.specs.Gather.{Site}
use Rattle.sc_world.specs.Layout.{Layout, Location, location}
use Rattle.sc_world.specs.Objects.{Ground, Nothing, Stub, parts_of, whole, follow_range}
use Rattle.sc_world.specs.Occurrences.{stubs_behind, is_zeroed, object_if}
use Rattle.verdict_laws.proofs.Steps.{Post, chained, weaker}
use Rattle.verdict_laws.proofs.Laying.{len, bare}
use Rattle.verdict_laws.proofs.Objects.{Lays, Stubs, whole_lays, stub_range}
use Rattle.verdict_laws.proofs.Tiles.{Same, same_kept}
use Rattle.verdict_laws.proofs.Moves.{Moves, moves_refl, moves_trans, lays_move, stubs_move}

abbrev is_some : Option ℕ → Bool
is_some None = false
is_some (Some a) = true

nothing_there : (a : ℕ) → None ≡ Some a → ⊥
nothing_there a e = true≢false (sym (ap is_some e))

abbrev or_at : ℕ → Option ℕ → ℕ
or_at at None = at
or_at at (Some a) = a

module _ (g : Ground) where
  -- locations without bits are added
  pub record Blank (p q : Layout) : Type 0 where
    pub moves : Moves g p q
    pub blank : (i : ℕ) → len p ≤ i → i < len q → (bare (location q i)).bit ≡ None

  blank_trans : (p q z : Layout) → Blank p q → Blank q z → Blank p z
  blank_trans p q z a b = record {
    moves = moves_trans g p q z a.moves b.moves;
    blank = λ i low high.
        ⊎_elim
        (λ (old : i < len q). subst (λ (l : Location). l.bit ≡ None) (b.moves.grows.same i old) (a.blank i low old))
        (λ (new : len q ≤ i). b.blank i new high)
        (cases_lt i (len q));
  }

  stubs_blank : (b : Bool) (from to : ℕ) (p : Layout) → Post (λ u q. Blank p q) (stubs_behind b from to g p)
  stubs_blank true from to p = record { moves = moves_refl g p; blank = λ i low high. absurd (omega (arith, low, high)) }
  stubs_blank false from to p =
      weaker (λ u q. Stubs (Same g.source p) p q) (λ u q. Blank p q) (follow_range from to g Stub p)
      (stub_range (Same g.source p) g (same_kept g.source p) from to p)
      (λ u q is. record { moves = stubs_move g p q is; blank = λ i low high. (is.stubs i low high).bit })

  -- an object of a call
  pub record Comes (p : Layout) (o : Option ℕ) (q : Layout) : Type 0 where
    pub blank : Blank p q
    pub there : (a : ℕ) → o ≡ Some a → (len p ≤ a) × (a < len q)

  pub object_comes : (b : Bool) (n : ℕ) (x : Site) (p : Layout) → Post (Comes p) (object_if b g n x p)
  object_comes false n x p = record {
    blank = record { moves = moves_refl g p; blank = λ i low high. absurd (omega (arith, low, high)) };
    there = λ a e. absurd (nothing_there a e);
  }
  object_comes true n x p =
      chained (Lays (Same g.source p) Nothing (len p) x.object (origin.Call n) (parts_of g.source x.object) p) (Comes p)
      (whole g Nothing x.object (origin.Call n) p)
      (λ at. λ q. goes_on (stubs_behind (is_zeroed x.effect) at (len q) g q) (λ u. done (Some at)))
      (whole_lays (Same g.source p) g (same_kept g.source p) Nothing x.object (origin.Call n) p)
      (λ at q is.
      chained (λ u z. Blank q z) (Comes p) (stubs_behind (is_zeroed x.effect) at (len q) g q) (λ u. done (Some at))
      (stubs_blank (is_zeroed x.effect) at (len q) q)
      (λ u z more. record {
        blank = blank_trans p q z
            (record {
              moves = lays_move g Nothing x.object (origin.Call n) p at q is;
              blank = λ i low high.
                  ⊎_elim
                  (λ (e : i ≡ len p). subst (λ j. (bare (location q j)).bit ≡ None) (sym e) (is.first.bit refl))
                  (λ (other : i ≡ len p → ⊥). (is.parts i (omega (arith, low, other)) high).bit refl)
                  (cases_eq i (len p));
            })
            more;
        there = λ a e.
            subst (λ (o : Option ℕ). (len p ≤ or_at at o) × (or_at at o < len z)) e
            (omega (arith, is.here), omega (arith, is.here, is.more, more.moves.grows.longer));
      }))
