-- Values of several widths, of which one counts.
use Rattle.std.proofs.Common.{◌≡◌, ℕ, zero, suc, ◌+◌, ◌<◌, ◌≤◌, Bool, true, false, not, nat_eq, nat_lt, Some, None, List, [], ◌∷◌, ◌++◌, length, map, if◌then◌else◌, inl, inr, refl, sym, ◌∙◌, ap, subst, arith, eqb-true}
use Rattle.std.specs.Prelude.{Option}
use Rattle.std.proofs.lemmas.Bool.{le-ltb, ne_eqb}
use Rattle.bit_net.specs.declared.nodes.Node.{Node}
use Rattle.bit_net.specs.Runs.{Grown, Gives}
use Rattle.gl_sets.specs.declared.pairs.Pair.{Pair}
use Rattle.gl_sets.specs.Guards.{Points, guard, targets_of}
use Rattle.gl_sets.specs.Sets.{IsMoved}
use Rattle.gl_sets.proofs.PointLemmas.{guard-points}
use Rattle.gl_store.specs.declared.stores.Location.{Location}
use Rattle.gl_store.specs.Meets.{Meets, MeetsAll, val_top}
use Rattle.gl_store.specs.Steps.{IsLoaded}
use Rattle.run_store.specs.Concrete.{Cell, Place, nth_cell, load, width_kind}
use Rattle.sc_world.specs.Source.{Source}
use Rattle.sc_world.specs.Layout.{Layout}
use Rattle.gate_places.specs.Places.{IsLaid}
use Rattle.gate_copies.specs.declared.readings.Guarded.{Guarded}
use Rattle.gate_copies.specs.Widths.{leads_to_some, number_at, of_width, width_at}
use Rattle.gate_copies.specs.Readings.{guarded_top, IsCell, MeetsIf, MeetsOne, found, IsGuarded, AreRead}
use Rattle.gate_copies.proofs.Listing.{map_twice, leads_to_none}
use Rattle.gate_copies.proofs.Widening.{next_is, next_is_not, read_there}

-- a value more: it counts, and none did before; or it does not
count : (v : ℕ → Bool) (gs : List Guarded) (g : Guarded) (o : Option Cell) → MeetsOne v gs None → v g.when.at ≡ true → MeetsIf v g.val o
    → MeetsOne v (gs ++ g ∷ []) o
count v [] g o none on is = inl (on, is, tt)
count v (h ∷ gs) g o (inl some) on is = absurd some.1
count v (h ∷ gs) g o (inr none) on is = inr (none.0, none.1, count v gs g o none.2 on is)

pass : (v : ℕ → Bool) (gs : List Guarded) (g : Guarded) (o : Option Cell) → MeetsOne v gs o → v g.when.at ≡ false → IsCell v g.val
    → MeetsOne v (gs ++ g ∷ []) o
pass v [] g None meets off is = inr (off, is, tt)
pass v [] g (Some c) meets off is = absurd meets
pass v (h ∷ gs) g o (inl some) off is = inl (some.0, some.1, pass v gs g None some.2 off is)
pass v (h ∷ gs) g o (inr none) off is = inr (none.0, none.1, pass v gs g o none.2 off is)

pub guarded_more : (gs : List Guarded) (g : Guarded) (n : ℕ) → guarded_top gs ≤ n → g.when.at < n → val_top g.val ≤ n → guarded_top (gs ++ g ∷ []) ≤ n
unfolding guarded_top
guarded_more [] g n top low below = omega (arith, low, below)
guarded_more (h ∷ gs) g n top low below = omega (arith, top, guarded_more gs g n (omega (arith, top)) low below)

pub guarded_none : guarded_top [] ≡ 0
unfolding guarded_top
guarded_none = refl

-- A value that is read through a pointer.
pub is_guarded : (n0 n1 n2 : List Node) (l : List Location) (pointer : List Pair) (number null : ℕ) (r : Guarded) → Grown n0 n1 → Grown n1 n2
    → Gives n0 null (λ choice v. guard v pointer 0) → Gives n1 r.when.at (λ choice v. not (v null))
    → IsLoaded n2 l pointer (width_kind (width_at number)) r.val → IsGuarded n2 l pointer number r
is_guarded n0 n1 n2 l pointer number null r grown01 grown12 is_null is_some loaded =
    record {
      when = omega (arith, is_some.below, grown12.longer);
      below = loaded.below;
      counts = λ choice v runs target points.
          let r1 = grown12.runs choice v runs in
          is_some.value choice v r1 ∙ ap not (is_null.value choice v (grown01.runs choice v r1) ∙ guard-points v pointer target 0 points);
      value = λ choice v runs ps met target points. loaded.value choice v runs ps target met points;
    }

module _ (s : Source) (p : Layout) (l : List Location) (from : List Pair) (targets : List ℕ) where
  pub read_none : (ns : List Node) (vals : List Guarded) → vals ≡ [] → AreRead ns s p l from targets 0 vals
  unfolding guarded_top
  read_none ns vals e =
      subst (λ gs. AreRead ns s p l from targets 0 gs) (sym e)
      (record { below = omega arith; value = λ choice v runs ps met g same target points. none_found v ps (g target) })
    where
      none_found : (v : ℕ → Bool) (ps : List Place) (t : ℕ) → MeetsOne v [] (found s p 0 ps t)
      none_found v ps zero = tt
      none_found v ps (suc at) =
          subst (λ b. MeetsOne v [] (if b then Some (nth_cell ps at) else None)) (sym (le-ltb (number_at s p at) 0 (omega arith))) tt

  -- no cell has the width
  skip : (v : ℕ → Bool) (vals : List Guarded) (ps : List Place) (n t : ℕ) → of_width s p n t ≡ 0 → MeetsOne v vals (found s p n ps t)
      → MeetsOne v vals (found s p (n + 1) ps t)
  skip v vals ps n zero e meets = meets
  skip v vals ps n (suc at) e meets = by (nat_eq (number_at s p at) n) refl e
    where
      by : (b : Bool) → nat_eq (number_at s p at) n ≡ b → (if b then suc at else 0) ≡ 0
          → MeetsOne v vals (if nat_lt (number_at s p at) (n + 1) then Some (nth_cell ps at) else None)
      by true is some = absurd (omega (arith, some))
      by false is some =
          subst (λ b. MeetsOne v vals (if b then Some (nth_cell ps at) else None)) (sym (next_is_not (number_at s p at) n is)) meets

  pub read_skip : (ns : List Node) (same : List ℕ) (vals : List Guarded) (n : ℕ) → same ≡ map (λ t. of_width s p n t) targets
      → leads_to_some same ≡ false → AreRead ns s p l from targets n vals → AreRead ns s p l from targets (n + 1) vals
  read_skip ns same vals n is none read =
      record {
        below = read.below;
        value = λ choice v runs ps met g goes target points.
            let f : ℕ → ℕ = (λ t. of_width s p n (g t)) in
            let all : same ≡ map f (targets_of from) = is ∙ ap (map (λ t. of_width s p n t)) (sym goes) ∙ map_twice (λ t. of_width s p n t) g (targets_of from) in
            skip v vals ps n (g target) (leads_to_none v f from target points (ap leads_to_some (sym all) ∙ none))
            (read.value choice v runs ps met g goes target points);
      }

  -- a width more
  more : (v : ℕ → Bool) (vals : List Guarded) (g : Guarded) (ps : List Place) (n t : ℕ) → IsLaid s p l → MeetsAll v l ps → n < 6
      → v g.when.at ≡ not (nat_eq (of_width s p n t) 0) → Meets v g.val (load ps (width_kind (width_at n)) (of_width s p n t))
      → MeetsOne v vals (found s p n ps t) → MeetsOne v (vals ++ g ∷ []) (found s p (n + 1) ps t)
  more v vals g ps n zero laid met low counts is meets =
      pass v vals g None meets counts (record { cell = load ps (width_kind (width_at n)) 0; is = is })
  more v vals g ps n (suc at) laid met low counts is meets = by (nat_eq (number_at s p at) n) refl counts is
    where
      o : Option Cell
      o = Some (nth_cell ps at)

      by : (b : Bool) → nat_eq (number_at s p at) n ≡ b → v g.when.at ≡ not (nat_eq (if b then suc at else 0) 0)
          → Meets v g.val (load ps (width_kind (width_at n)) (if b then suc at else 0))
          → MeetsOne v (vals ++ g ∷ []) (if nat_lt (number_at s p at) (n + 1) then o else None)
      by true same on cell =
          let number : number_at s p at ≡ n = eqb-true (number_at s p at) n same in
          let next = next_is (number_at s p at) n number in
          subst (λ b. MeetsOne v (vals ++ g ∷ []) (if b then o else None)) (sym next.1)
          (count v vals g o (subst (λ b. MeetsOne v vals (if b then o else None)) next.0 meets)
          (on ∙ ap not (ne_eqb (suc at) 0 (λ h. omega (arith, h))))
          (subst (λ c. Meets v g.val c) (read_there s p l v ps at n laid met low number) cell))
      by false same off cell =
          pass v vals g (if nat_lt (number_at s p at) (n + 1) then o else None)
          (subst (λ b. MeetsOne v vals (if b then o else None)) (sym (next_is_not (number_at s p at) n same)) meets) off
          (record { cell = load ps (width_kind (width_at n)) 0; is = cell })

  pub read_more : (n0 n1 n2 : List Node) (same : List ℕ) (pointer : List Pair) (g : Guarded) (old new : List Guarded) (n : ℕ) → IsLaid s p l → n < 6
      → Grown n0 n1 → Grown n1 n2 → same ≡ map (λ t. of_width s p n t) targets → IsMoved n1 from same pointer → IsGuarded n2 l pointer n g
      → new ≡ old ++ g ∷ [] → AreRead n0 s p l from targets n old → AreRead n2 s p l from targets (n + 1) new
  read_more n0 n1 n2 same pointer g old new n laid low grown01 grown12 is moved guarded pushed read =
      subst (λ gs. AreRead n2 s p l from targets (n + 1) gs) (sym pushed)
      (record {
        below = guarded_more old g (length n2) (omega (arith, read.below, grown01.longer, grown12.longer)) guarded.when guarded.below;
        value = λ choice v runs ps met k goes target points.
            let r1 = grown12.runs choice v runs in
            let f : ℕ → ℕ = (λ t. of_width s p n (k t)) in
            let all : map f (targets_of from) ≡ same = sym (is ∙ ap (map (λ t. of_width s p n t)) (sym goes) ∙ map_twice (λ t. of_width s p n t) k (targets_of from)) in
            let there : Points v pointer (f target) = moved.points choice v r1 f target all points in
            more v old g ps n (k target) laid met low (guarded.counts choice v runs (f target) there) (guarded.value choice v runs ps met (f target) there)
            (read.value choice v (grown01.runs choice v r1) ps met k goes target points);
      })
