-- The rows of locations and of pointers that parameters point to.
use Rattle.std.proofs.Common.{◌≡◌, ℕ, zero, suc, ◌+◌, ◌<◌, ◌≤◌, nat_eq, Bool, true, false, ◌&&◌, ◌||◌, List, [], ◌∷◌, length, take, get_or, inl, refl, sym, ◌∙◌, ap, subst, arith}
use Rattle.std.specs.Prelude.{Option, Some, None}
use Rattle.std.specs.List.{list_any}
use Rattle.std.proofs.lemmas.Bool.{ne_eqb}
use Rattle.std.proofs.lemmas.List.{take_all}
use Rattle.bit_net.specs.declared.nodes.Gate.{Gate}
use Rattle.bit_net.specs.declared.nodes.Node.{Node}
use Rattle.bit_net.specs.Runs.{Runs, Grown, Gives}
use Rattle.bit_words.specs.Number.{number}
use Rattle.gl_sets.specs.Guards.{guard}
use Rattle.gl_sets.proofs.BoolLemmas.{itself}
use Rattle.gl_sets.proofs.PointLemmas.{guard-points}
use Rattle.gl_store.specs.declared.stores.Location.{Location}
use Rattle.gl_store.specs.Meets.{MeetsAll}
use Rattle.run_store.specs.Concrete.{Cell, Place}
use Rattle.sum_rows.specs.declared.row.Gives.{Gives as Results}
use Rattle.sum_rows.specs.declared.row.Row.{Row}
use Rattle.sum_rows.specs.declared.row.State.{State}
use Rattle.sum_rows.specs.declared.row.State.TheVariants as state
use Rattle.sc_world.specs.Source.{Source}
use Rattle.sc_world.specs.Layout.{Layout}
use Rattle.sc_world.specs.World.{Env, bit_at, number_at, states}
use Rattle.sc_world.specs.Known.{from_state, out_state, row, same_state, stands, state_after}
use Rattle.layout_base.specs.Seen.{spot_of}
use Rattle.gate_places.specs.Places.{env_of}
use Rattle.gate_entry.specs.Entry.{IsNumber}
use Rattle.gate_paths.specs.declared.gathered.Found.{Found}
use Rattle.gate_paths.specs.Targets.{found_target}
use Rattle.gate_paths.specs.Paths.{IsFound}
use Rattle.gate_paths.specs.Gathered.{AreFound, where_item}
use Rattle.gate_rows.specs.declared.sought.Outcome.{Outcome}
use Rattle.gate_rows.specs.declared.sought.Sought.{Sought}
use Rattle.gate_rows.specs.Sought.{gives_of, is_from, is_out, is_side, is_sought, is_spelt, state_number}
use Rattle.gate_rows.proofs.Rows.{numbered_is, out_is, sought_from, sought_stands}
use Rattle.gate_states.specs.States.{IsStateAfter, IsStateBefore, state_in}
use Rattle.gate_stands.specs.Items.{IsLockRow, IsOutRow, LockStands, LocksStand, OutStands, OutsStand, all_stand, lock_at_stands, out_at_stands}
use Rattle.gate_stands.proofs.Bools.{and_assoc, and_true}

-- One item.

-- what is missing needs no row
missing_holds : (v : ℕ → Bool) (f : Found) (missing : ℕ) → IsFound v (where_item f) None → v missing ≡ guard v (where_item f) 0 → v missing ≡ true
missing_holds v f missing found is = is ∙ guard-points v (where_item f) 0 0 found ∙ itself 0

there_not : (v : ℕ → Bool) (f : Found) (missing at : ℕ) → IsFound v (where_item f) (Some at) → v missing ≡ guard v (where_item f) 0 → v missing ≡ false
there_not v f missing at found is = is ∙ guard-points v (where_item f) (suc at) 0 found ∙ ne_eqb (suc at) 0 (λ h. omega (arith, h))

pub is_lock_row : (ns : List Node) (q : Sought) (given before after' : List Gate) (count : ℕ) (result : Outcome) (rows : List Row) (gate : ℕ)
    → Gives ns gate (λ choice v. list_any (is_sought v q) rows) → q.given.now ≡ given → q.result ≡ result
    → ((v : ℕ → Bool) (x : State) → is_side v q.before x ≡ is_from count (number v before) (state_number x))
    → ((v : ℕ → Bool) (x : State) → is_side v q.after x ≡ is_spelt (number v after') (state_number x))
    → IsLockRow ns given before count result after' rows gate
is_lock_row ns q given before after' count result rows gate has same_given same_result from to =
    record {
      below = has.below;
      value = λ choice v runs env many.
          has.value choice v runs
          ∙ sought_from v q (number v given) (gives_of v result) (ap (number v) same_given) (ap (gives_of v) same_result) env (number v before)
          (state.At (number v after')) rows
          (λ x. from v x ∙ ap (λ k. is_from k (number v before) (state_number x)) many)
          (λ x. to v x ∙ numbered_is (number v after') x);
    }

pub is_lock_gate : (s : Source) (p : Layout) (n1 n2 n3 ns : List Node) (l : List Location) (f : Found) (given before before' after' after'' : List Gate)
    (result : Outcome) (count row missing gate : ℕ)
    → Grown n1 n2 → Grown n2 n3 → Grown n3 ns → count ≡ states s → before' ≡ before → after'' ≡ after'
    → IsStateBefore p n1 l (where_item f) before → IsStateAfter s p n2 (spot_of f.spot).bit after'
    → IsLockRow n3 given before' count result after'' f.rows.now row → Gives n3 missing (λ choice v. guard v (where_item f) 0)
    → Gives ns gate (λ choice v. v missing || v row) → LockStands s p ns l given result f gate
is_lock_gate s p n1 n2 n3 ns l f given before before' after' after'' result count row missing gate g12 g23 g3 many same_before same_after is_before is_after has
    none either =
    record {
      below = either.below;
      value = λ bits v runs few temps turn ps met o found.
          let r3 = g3.runs (bit_at bits) v runs in
          either.value (bit_at bits) v runs ∙ by bits v r3 few temps turn ps met o found (none.value (bit_at bits) v r3);
    }
  where
    by : (bits : List Bool) (v : ℕ → Bool) → Runs n3 (bit_at bits) v → length bits ≤ p.bits → (temps : List Cell) (turn : ℕ) (ps : List Place)
        → MeetsAll v l ps → (o : Option ℕ) → IsFound v (where_item f) o → v missing ≡ guard v (where_item f) 0
        → (v missing || v row) ≡ lock_at_stands (env_of s p bits temps turn) ps (number v given) (gives_of v result) f o
    by bits v r3 few temps turn ps met None found is = ap (λ b. b || v row) (missing_holds v f missing found is)
    by bits v r3 few temps turn ps met (Some at) found is =
        let env = env_of s p bits temps turn in
        let r2 = g23.runs (bit_at bits) v r3 in
        let r1 = g12.runs (bit_at bits) v r2 in
        let n : ℕ = state_in p ps at in
        let g : ℕ = number v given in
        let r : Results = gives_of v result in
        ap (λ b. b || v row) (there_not v f missing at found is)
        ∙ has.value (bit_at bits) v r3 env many
        ∙ ap (λ k. from_state env g k r (state.At (number v after'')) f.rows.now)
        (ap (number v) same_before ∙ is_before.value (bit_at bits) v r1 ps met at found)
        ∙ ap (λ k. from_state env g n r (state.At k) f.rows.now)
        (ap (number v) same_after ∙ is_after.value bits v r2 few temps turn f.rows.now at)

pub is_out_row : (ns : List Node) (q : Sought) (given after' : List Gate) (result : Outcome) (rows : List Row) (gate : ℕ)
    → Gives ns gate (λ choice v. list_any (is_sought v q) rows) → q.given.now ≡ given → q.result ≡ result
    → ((v : ℕ → Bool) (x : State) → is_side v q.before x ≡ same_state state.Nil x)
    → ((v : ℕ → Bool) (x : State) → is_side v q.after x ≡ is_out (number v after') x)
    → IsOutRow ns given result after' rows gate
is_out_row ns q given after' result rows gate has same_given same_result from to =
    record {
      below = has.below;
      value = λ choice v runs.
          has.value choice v runs
          ∙ sought_stands v q (number v given) (gives_of v result) (ap (number v) same_given) (ap (gives_of v) same_result) state.Nil
          (out_state (number v after')) rows
          (from v)
          (λ x. to v x ∙ out_is (number v after') x);
    }

pub is_out_gate : (s : Source) (p : Layout) (n1 n2 ns : List Node) (f : Found) (given after' after'' : List Gate)
    (result : Outcome) (gate_of_row missing gate : ℕ)
    → Grown n1 n2 → Grown n2 ns → after'' ≡ after' → IsNumber p n1 (spot_of f.spot).bit 2 after'
    → IsOutRow n2 given result after'' f.rows.now gate_of_row → Gives n2 missing (λ choice v. guard v (where_item f) 0)
    → Gives ns gate (λ choice v. v missing || v gate_of_row) → OutStands s p ns given result f gate
is_out_gate s p n1 n2 ns f given after' after'' result gate_of_row missing gate g12 g2 same_after is_after has none either =
    record {
      below = either.below;
      value = λ bits v runs few temps turn o found.
          let r2 = g2.runs (bit_at bits) v runs in
          either.value (bit_at bits) v runs ∙ by bits v r2 few temps turn o found (none.value (bit_at bits) v r2);
    }
  where
    by : (bits : List Bool) (v : ℕ → Bool) → Runs n2 (bit_at bits) v → length bits ≤ p.bits → (temps : List Cell) (turn : ℕ)
        → (o : Option ℕ) → IsFound v (where_item f) o → v missing ≡ guard v (where_item f) 0
        → (v missing || v gate_of_row) ≡ out_at_stands (env_of s p bits temps turn) (number v given) (gives_of v result) f o
    by bits v r2 few temps turn None found is = ap (λ b. b || v gate_of_row) (missing_holds v f missing found is)
    by bits v r2 few temps turn (Some at) found is =
        let r1 = g12.runs (bit_at bits) v r2 in
        ap (λ b. b || v gate_of_row) (there_not v f missing at found is)
        ∙ has.value (bit_at bits) v r2
        ∙ ap (λ k. stands (row (number v given) state.Nil (gives_of v result) (out_state k)) f.rows.now)
        (ap (number v) same_after ∙ is_after.value bits v r1 (inl few))

-- The items so far.

found_at : (v : ℕ → Bool) (fs : List Found) (os : List (Option ℕ)) (i : ℕ) (d : Found) → i < length fs → AreFound v where_item fs os
    → IsFound v (where_item (get_or fs i d)) (get_or os i None)
found_at v (f ∷ fs) (o ∷ os) zero d low h = h.0
found_at v (f ∷ fs) (o ∷ os) (suc i) d low h = found_at v fs os i d (omega (arith, low)) h.1
found_at v [] os i d low h = absurd (omega (arith, low))
found_at v (f ∷ fs) [] i d low h = absurd h

found_wide : (v : ℕ → Bool) (fs : List Found) (os : List (Option ℕ)) → AreFound v where_item fs os → length os ≡ length fs
found_wide v [] [] h = refl
found_wide v (f ∷ fs) (o ∷ os) h = ap suc (found_wide v fs os h.1)
found_wide v [] (o ∷ os) h = absurd h
found_wide v (f ∷ fs) [] h = absurd h

all_next : (test : Found → Option ℕ → Bool) (v : ℕ → Bool) (fs : List Found) (os : List (Option ℕ)) (i : ℕ) (d : Found) → i < length fs
    → AreFound v where_item fs os
    → all_stand test (take (suc i) fs) (take (suc i) os) ≡ (all_stand test (take i fs) (take i os) && test (get_or fs i d) (get_or os i None))
all_next test v (f ∷ fs) (o ∷ os) zero d low h = and_true (test f o)
all_next test v (f ∷ fs) (o ∷ os) (suc i) d low h =
    ap (λ b. test f o && b) (all_next test v fs os i d (omega (arith, low)) h.1)
    ∙ sym (and_assoc (test f o) (all_stand test (take i fs) (take i os)) (test (get_or fs i d) (get_or os i None)))
all_next test v [] os i d low h = absurd (omega (arith, low))
all_next test v (f ∷ fs) [] i d low h = absurd h

all_push : (test : Found → Option ℕ → Bool) (v : ℕ → Bool) (fs : List Found) (os : List (Option ℕ)) (i : ℕ) (d : Found) → i < length fs
    → AreFound v where_item fs os
    → (all_stand test (take i fs) (take i os) && test (get_or fs i d) (get_or os i None)) ≡ all_stand test (take (i + 1) fs) (take (i + 1) os)
all_push test v fs os i d low h =
    let next : suc i ≡ i + 1 = omega arith in
    sym (all_next test v fs os i d low h) ∙ ap (λ k. all_stand test (take k fs) (take k os)) next

-- the gate tells of the first i items
pub record LocksFirst (s : Source) (p : Layout) (ns : List Node) (l : List Location) (given : List Gate) (result : Outcome) (fs : List Found) (i gate : ℕ) :
    Type 0 where
  pub below : gate < length ns
  pub value : (bits : List Bool) (v : ℕ → Bool) → Runs ns (bit_at bits) v → length bits ≤ p.bits → (temps : List Cell) (turn : ℕ)
      → (ps : List Place) → MeetsAll v l ps → (os : List (Option ℕ)) → AreFound v where_item fs os
      → v gate ≡ all_stand (lock_at_stands (env_of s p bits temps turn) ps (number v given) (gives_of v result)) (take i fs) (take i os)

pub record OutsFirst (s : Source) (p : Layout) (ns : List Node) (given : List Gate) (result : Outcome) (fs : List Found) (i gate : ℕ) : Type 0 where
  pub below : gate < length ns
  pub value : (bits : List Bool) (v : ℕ → Bool) → Runs ns (bit_at bits) v → length bits ≤ p.bits → (temps : List Cell) (turn : ℕ)
      → (os : List (Option ℕ)) → AreFound v where_item fs os
      → v gate ≡ all_stand (out_at_stands (env_of s p bits temps turn) (number v given) (gives_of v result)) (take i fs) (take i os)

pub locks_none : (s : Source) (p : Layout) (ns : List Node) (l : List Location) (given : List Gate) (result : Outcome) (fs : List Found) (gate : ℕ)
    → Gives ns gate (λ choice v. true) → LocksFirst s p ns l given result fs 0 gate
locks_none s p ns l given result fs gate gives =
    record { below = gives.below; value = λ bits v runs few temps turn ps met os found. gives.value (bit_at bits) v runs }

pub locks_step : (s : Source) (p : Layout) (n1 n2 n3 : List Node) (l : List Location) (given : List Gate) (result : Outcome) (fs : List Found) (i : ℕ) (f : Found)
    (all one gate : ℕ) → i < length fs → f ≡ get_or fs i f → Grown n1 n2 → Grown n2 n3 → LocksFirst s p n1 l given result fs i all
    → LockStands s p n2 l given result f one → Gives n3 gate (λ choice v. v all && v one) → LocksFirst s p n3 l given result fs (i + 1) gate
locks_step s p n1 n2 n3 l given result fs i f all one gate low is g12 g23 before here both =
    record {
      below = both.below;
      value = λ bits v runs few temps turn ps met os found.
          let r2 = g23.runs (bit_at bits) v runs in
          let test = lock_at_stands (env_of s p bits temps turn) ps (number v given) (gives_of v result) in
          let o : Option ℕ = get_or os i None in
          let at : IsFound v (where_item f) o = subst (λ x. IsFound v (where_item x) o) (sym is) (found_at v fs os i f low found) in
          both.value (bit_at bits) v runs
          ∙ ap (λ b. b && v one) (before.value bits v (g12.runs (bit_at bits) v r2) few temps turn ps met os found)
          ∙ ap (λ b. all_stand test (take i fs) (take i os) && b) (here.value bits v r2 few temps turn ps met o at ∙ ap (λ x. test x o) is)
          ∙ all_push test v fs os i f low found;
    }

pub locks_all : (s : Source) (p : Layout) (ns : List Node) (l : List Location) (given : List Gate) (result : Outcome) (fs : List Found) (i gate : ℕ)
    → length fs ≤ i → LocksFirst s p ns l given result fs i gate → LocksStand s p ns l given result fs gate
locks_all s p ns l given result fs i gate high h =
    record {
      below = h.below;
      value = λ bits v runs few temps turn ps met os found.
          let test = lock_at_stands (env_of s p bits temps turn) ps (number v given) (gives_of v result) in
          h.value bits v runs few temps turn ps met os found
          ∙ ap (λ xs. all_stand test xs (take i os)) (take_all i fs high)
          ∙ ap (all_stand test fs) (take_all i os (omega (arith, high, found_wide v fs os found)));
    }

pub outs_none : (s : Source) (p : Layout) (ns : List Node) (given : List Gate) (result : Outcome) (fs : List Found) (gate : ℕ)
    → Gives ns gate (λ choice v. true) → OutsFirst s p ns given result fs 0 gate
outs_none s p ns given result fs gate gives =
    record { below = gives.below; value = λ bits v runs few temps turn os found. gives.value (bit_at bits) v runs }

pub outs_step : (s : Source) (p : Layout) (n1 n2 n3 : List Node) (given : List Gate) (result : Outcome) (fs : List Found) (i : ℕ) (f : Found)
    (all one gate : ℕ) → i < length fs → f ≡ get_or fs i f → Grown n1 n2 → Grown n2 n3 → OutsFirst s p n1 given result fs i all
    → OutStands s p n2 given result f one → Gives n3 gate (λ choice v. v all && v one) → OutsFirst s p n3 given result fs (i + 1) gate
outs_step s p n1 n2 n3 given result fs i f all one gate low is g12 g23 before here both =
    record {
      below = both.below;
      value = λ bits v runs few temps turn os found.
          let r2 = g23.runs (bit_at bits) v runs in
          let test = out_at_stands (env_of s p bits temps turn) (number v given) (gives_of v result) in
          let o : Option ℕ = get_or os i None in
          let at : IsFound v (where_item f) o = subst (λ x. IsFound v (where_item x) o) (sym is) (found_at v fs os i f low found) in
          both.value (bit_at bits) v runs
          ∙ ap (λ b. b && v one) (before.value bits v (g12.runs (bit_at bits) v r2) few temps turn os found)
          ∙ ap (λ b. all_stand test (take i fs) (take i os) && b) (here.value bits v r2 few temps turn o at ∙ ap (λ x. test x o) is)
          ∙ all_push test v fs os i f low found;
    }

pub outs_all : (s : Source) (p : Layout) (ns : List Node) (given : List Gate) (result : Outcome) (fs : List Found) (i gate : ℕ)
    → length fs ≤ i → OutsFirst s p ns given result fs i gate → OutsStand s p ns given result fs gate
outs_all s p ns given result fs i gate high h =
    record {
      below = h.below;
      value = λ bits v runs few temps turn os found.
          let test = out_at_stands (env_of s p bits temps turn) (number v given) (gives_of v result) in
          h.value bits v runs few temps turn os found
          ∙ ap (λ xs. all_stand test xs (take i os)) (take_all i fs high)
          ∙ ap (all_stand test fs) (take_all i os (omega (arith, high, found_wide v fs os found)));
    }
