-- What counts is stored.
use Rattle.std.proofs.Common.{◌≡◌, ℕ, zero, suc, ◌+◌, ◌<◌, ◌≤◌, Bool, true, false, ◌&&◌, ◌||◌, Some, None, List, [], ◌∷◌, ◌++◌, length, take, get_or, if◌then◌else◌, ◌⊎◌, inl, inr, refl, sym, ◌∙◌, ap, subst, arith}
use Rattle.std.specs.Prelude.{Option}
use Rattle.std.proofs.lemmas.List.{take_more, take_all}
use Rattle.bit_net.specs.declared.nodes.Node.{Node}
use Rattle.bit_net.specs.Runs.{Runs, Grown, Gives}
use Rattle.gl_sets.specs.declared.pairs.Pair.{Pair}
use Rattle.gl_sets.specs.Guards.{Points}
use Rattle.gl_store.specs.declared.stores.Location.{Location}
use Rattle.gl_store.specs.Meets.{Meets, MeetsAll, val_top, kinds, locations_top}
use Rattle.gl_store.specs.Steps.{IsStored, IsMarkedWhere, marked_target}
use Rattle.run_store.specs.declared.Flag.TheVariants as flag
use Rattle.run_store.specs.Concrete.{Cell, Place, marked, write}
use Rattle.gate_copies.specs.declared.readings.Guarded.{Guarded}
use Rattle.gate_copies.specs.Readings.{guarded_top, IsCell, MeetsIf, MeetsOne, stored_at, IsStoredWhere, IsPut}

-- a mark that is set nowhere

or_none : (b : Bool) → b || false ≡ b
or_none true = refl
or_none false = refl

marks_stay : (ps : List Place) (at : ℕ) → marked ps at flag.Written false ≡ ps
marks_stay [] at = refl
marks_stay (p ∷ ps) zero = ap (λ b. record p { marks = record p.marks { written = b } } ∷ ps) (or_none p.marks.written)
marks_stay (p ∷ ps) (suc at) = ap (λ qs. p ∷ qs) (marks_stay ps at)

target_stays : (ps : List Place) (t : ℕ) → marked_target ps t flag.Written false ≡ ps
target_stays ps zero = refl
target_stays ps (suc at) = marks_stay ps at

pub stored_where : (n0 n1 n2 : List Node) (live when : ℕ) (pointer : List Pair) (g : Guarded) (old mid new : List Location) → Grown n0 n1 → Grown n1 n2
    → Gives n0 when (λ choice v. v live && v g.when.at) → IsStored n1 when pointer g.val old mid
    → IsMarkedWhere n2 when pointer flag.Written mid new → IsStoredWhere n2 live pointer g old new
stored_where n0 n1 n2 live when pointer g old mid new grown01 grown12 both stored is =
    record {
      below = is.below;
      same = is.same ∙ stored.same;
      value = λ choice v runs ps met target points c cell.
          let r1 = grown12.runs choice v runs in
          let e = both.value choice v (grown01.runs choice v r1) in
          by v ps target c (v when) (v live) (v g.when.at) e
          (is.value choice v runs (if v when then write ps target c else ps) target (stored.value choice v r1 ps target c met points cell) points);
    }
  where
    by : (v : ℕ → Bool) (ps : List Place) (target : ℕ) (c : Cell) (w b d : Bool) → w ≡ b && d
        → MeetsAll v new (marked_target (if w then write ps target c else ps) target flag.Written w)
        → MeetsAll v new (if b then (if d then stored_at ps target (Some c) else ps) else ps)
    by v ps target c true true true e h = h
    by v ps target c true true false e h = absurd (cc)
    by v ps target c true false d e h = absurd (cc)
    by v ps target c false true true e h = absurd (cc)
    by v ps target c false true false e h = subst (λ qs. MeetsAll v new qs) (target_stays ps target) h
    by v ps target c false false d e h = subst (λ qs. MeetsAll v new qs) (target_stays ps target) h

-- Values one after another: what counts is among the first ones, or not.

abbrev pub some_counts : (v : ℕ → Bool) → List Guarded → Bool
some_counts v [] = false
some_counts v (g ∷ gs) = v g.when.at || some_counts v gs

counts_more : (v : ℕ → Bool) (gs : List Guarded) (g : Guarded) → some_counts v (gs ++ g ∷ []) ≡ some_counts v gs || v g.when.at
counts_more v [] g = or_none (v g.when.at)
counts_more v (h ∷ gs) g = by (v h.when.at) (counts_more v gs g)
  where
    by : (b : Bool) → some_counts v (gs ++ g ∷ []) ≡ some_counts v gs || v g.when.at
        → b || some_counts v (gs ++ g ∷ []) ≡ (b || some_counts v gs) || v g.when.at
    by true later = refl
    by false later = later

abbrev if_counts : Bool → Option Cell → Option Cell
if_counts b o = if b then o else None

whole : (v : ℕ → Bool) (gs : List Guarded) (o : Option Cell) → MeetsOne v gs o → if_counts (some_counts v gs) o ≡ o
whole v [] None h = refl
whole v [] (Some c) h = absurd h
whole v (g ∷ gs) o (inl h) = ap (λ b. if_counts (b || some_counts v gs) o) h.0
whole v (g ∷ gs) o (inr h) = ap (λ b. if_counts (b || some_counts v gs) o) h.0 ∙ whole v gs o h.2

-- the value at a place counts, and none before it; or it does not
abbrev CountsAt : (v : ℕ → Bool) → Guarded → List Guarded → Option Cell → Type 0
CountsAt v g before o =
    ((v g.when.at ≡ true) × MeetsIf v g.val o × (some_counts v before ≡ false)) ⊎ ((v g.when.at ≡ false) × IsCell v g.val)

at_place : (v : ℕ → Bool) (gs : List Guarded) (o : Option Cell) (i : ℕ) (d : Guarded) → i < length gs → MeetsOne v gs o
    → CountsAt v (get_or gs i d) (take i gs) o
at_place v [] o i d low h = absurd (omega (arith, low))
at_place v (g ∷ gs) o zero d low (inl h) = inl (h.0, h.1, refl)
at_place v (g ∷ gs) o zero d low (inr h) = inr (h.0, h.1)
at_place v (g ∷ gs) o (suc i) d low (inl h) = later (at_place v gs None i d (omega (arith, low)) h.2)
  where
    later : CountsAt v (get_or gs i d) (take i gs) None → CountsAt v (get_or gs i d) (g ∷ take i gs) o
    later (inl k) = absurd k.1
    later (inr k) = inr k
at_place v (g ∷ gs) o (suc i) d low (inr h) = later (at_place v gs o i d (omega (arith, low)) h.2)
  where
    later : CountsAt v (get_or gs i d) (take i gs) o → CountsAt v (get_or gs i d) (g ∷ take i gs) o
    later (inl k) = inl (k.0, k.1, ap (λ b. b || some_counts v (take i gs)) h.0 ∙ k.2)
    later (inr k) = inr k

-- a value of those in a list has gates below their top
pub guarded_at : (gs : List Guarded) (i : ℕ) (d : Guarded) → i < length gs
    → ((get_or gs i d).when.at < guarded_top gs) × (val_top (get_or gs i d).val ≤ guarded_top gs)
unfolding guarded_top
guarded_at [] i d low = absurd (omega (arith, low))
guarded_at (g ∷ gs) zero d low = (omega arith, omega arith)
guarded_at (g ∷ gs) (suc i) d low =
    let h = guarded_at gs i d (omega (arith, low)) in
    (omega (arith, h.0), omega (arith, h.1))

-- what counts of the first values is stored
pub record PutSoFar (ns : List Node) (live : ℕ) (pointer : List Pair) (vals : List Guarded) (i : ℕ) (old new : List Location) : Type 0 where
  pub below : locations_top new ≤ length ns
  pub same : kinds new ≡ kinds old
  pub value : (choice v : ℕ → Bool) → Runs ns choice v → (ps : List Place) → MeetsAll v old ps → (target : ℕ) → Points v pointer target
      → (o : Option Cell) → MeetsOne v vals o
      → MeetsAll v new (if v live then stored_at ps target (if_counts (some_counts v (take i vals)) o) else ps)

module _ (live : ℕ) (pointer : List Pair) (vals : List Guarded) where
  pub put_none : (ns : List Node) (l : List Location) → locations_top l ≤ length ns → PutSoFar ns live pointer vals 0 l l
  put_none ns l below =
      record { below = below; same = refl; value = λ choice v runs ps met target points o meets. by v ps met target (v live) }
    where
      by : (v : ℕ → Bool) (ps : List Place) → MeetsAll v l ps → (target : ℕ) (b : Bool) → MeetsAll v l (if b then stored_at ps target None else ps)
      by v ps met target true = met
      by v ps met target false = met

  pub put_more : (n0 n1 : List Node) (i : ℕ) (d : Guarded) (old mid new : List Location) → i < length vals → Grown n0 n1
      → IsStoredWhere n1 live pointer (get_or vals i d) mid new → PutSoFar n0 live pointer vals i old mid
      → PutSoFar n1 live pointer vals (i + 1) old new
  put_more n0 n1 i d old mid new low grown stored so_far =
      record {
        below = stored.below;
        same = stored.same ∙ so_far.same;
        value = λ choice v runs ps met target points o meets.
            let g = get_or vals i d in
            let before : List Place = if v live then stored_at ps target (if_counts (some_counts v (take i vals)) o) else ps in
            let more : some_counts v (take (i + 1) vals) ≡ some_counts v (take i vals) || v g.when.at = ap (some_counts v) (take_more vals i d low) ∙ counts_more v (take i vals) g in
            subst (λ b. MeetsAll v new (if v live then stored_at ps target (if_counts b o) else ps)) (sym more)
            (by v ps target o g (v live) (some_counts v (take i vals)) (v g.when.at) (at_place v vals o i d low meets)
            (λ c cell. stored.value choice v runs before (so_far.value choice v (grown.runs choice v runs) ps met target points o meets) target points c cell));
      }
    where
      by : (v : ℕ → Bool) (ps : List Place) (target : ℕ) (o : Option Cell) (g : Guarded) (b c e : Bool)
          → ((e ≡ true) × MeetsIf v g.val o × (c ≡ false)) ⊎ ((e ≡ false) × IsCell v g.val)
          → ((x : Cell) → Meets v g.val x → MeetsAll v new (if b then (if e then stored_at (if b then stored_at ps target (if_counts c o) else ps) target (Some x) else (if b then stored_at ps target (if_counts c o) else ps)) else (if b then stored_at ps target (if_counts c o) else ps)))
          → MeetsAll v new (if b then stored_at ps target (if_counts (c || e) o) else ps)
      by v ps target None g b c e (inl h) f = absurd h.1
      by v ps target (Some x) g true false true (inl h) f = f x h.1
      by v ps target (Some x) g false false true (inl h) f = f x h.1
      by v ps target (Some x) g b true e (inl h) f = let no : true ≡ false = h.2 in absurd (cc)
      by v ps target (Some x) g b c false (inl h) f = let no : false ≡ true = h.0 in absurd (cc)
      by v ps target o g true true false (inr h) f = f h.1.cell h.1.is
      by v ps target o g true false false (inr h) f = f h.1.cell h.1.is
      by v ps target o g false c false (inr h) f = f h.1.cell h.1.is
      by v ps target o g b c true (inr h) f = let no : true ≡ false = h.0 in absurd (cc)

  pub put_whole : (ns : List Node) (i : ℕ) (old new : List Location) → length vals ≤ i → PutSoFar ns live pointer vals i old new
      → IsPut ns live pointer vals old new
  put_whole ns i old new high so_far =
      record {
        below = so_far.below;
        same = so_far.same;
        value = λ choice v runs ps met target points o meets.
            subst (λ k. MeetsAll v new (if v live then stored_at ps target k else ps))
            (ap (λ gs. if_counts (some_counts v gs) o) (take_all i vals high) ∙ whole v vals o meets)
            (so_far.value choice v runs ps met target points o meets);
      }
