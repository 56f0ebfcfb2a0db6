-- Tables that grow by an entry, and the table of a machine.
use Rattle.std.proofs.Common.{◌≡◌, ℕ, zero, suc, ◌+◌, ◌%◌, ◌^◌, ◌<◌, ◌≤◌, nat_eq, nat_lt, Bool, true, false, not, ◌&&◌, ◌||◌, if◌then◌else◌, Option, Some, None, List, [], ◌∷◌, length, slice_get, refl, sym, ◌∙◌, ap, subst, arith, true≢false, eqb-true, eq-eqb}
use Rattle.std.proofs.lemmas.Bool.{ltb-true, ltb-false}
use Rattle.std.proofs.Math.Nat.{mod-eq_of_lt}
use Rattle.std.specs.List.{list_all}
use Rattle.bit_net.specs.declared.nodes.Gate.{Gate}
use Rattle.bit_net.specs.declared.nodes.Node.{Node}
use Rattle.bit_net.specs.Runs.{Runs, Grown, Gives}
use Rattle.bit_words.specs.Number.{number, top}
use Rattle.bit_words.specs.Spells.{Spells}
use Rattle.fsm_spec.specs.declared.table.MachineSpec.{MachineSpec}
use Rattle.fsm_spec.specs.declared.table.Operation.{Operation}
use Rattle.fsm_spec.specs.Table.{target_of, targets_at, targets_of, joined, on_any, has_targets, is_target, IsWhole}
use Rattle.sc_world.specs.Layout.{is_there}
use Rattle.gate_acts.specs.declared.tables.Table.{Table}
use Rattle.gate_acts.specs.Tables.{led_to, led_below, with_entry, IsTable, AddsEntry}

none_some : (t : ℕ) → None ≡ Some t → ⊥
none_some t e = cc

same_some : (x y : ℕ) → Some x ≡ Some y → x ≡ y
same_some x y e = cc

-- a table stays one for the same entries, and while the net grows
pub table_same : (ns : List Node) (bits : List Gate) (f g : ℕ → Option ℕ) (table : Table) → ((k : ℕ) → f k ≡ g k) → IsTable ns bits f table → IsTable ns bits g table
table_same ns bits f g table same t = record {
  known_below = t.known_below;
  below = t.below;
  wide = t.wide;
  known = λ choice v r. t.known choice v r ∙ ap is_there (same (number v bits));
  entry = λ choice v r k e. t.entry choice v r k (same (number v bits) ∙ e);
}

entry_none : (f : ℕ → Option ℕ) (key : ℕ) → f key ≡ None → (k : ℕ) → f k ≡ with_entry f key None k
entry_none f key none k = by (nat_eq k key) refl
  where
    by : (b : Bool) → nat_eq k key ≡ b → f k ≡ (if b then None else f k)
    by true e = ap f (eqb-true k key e) ∙ none
    by false e = refl

pub adds_none : (ns : List Node) (bits : List Gate) (key : ℕ) (table : Table) → AddsEntry ns ns bits key None table table
adds_none ns bits key table = record { adds = λ f none t. table_same ns bits f (with_entry f key None) table (entry_none f key none) t }

-- the entry of a number that the bits spell, or not, and what there was
entry_known : (here : Bool) (entry : ℕ) (o : Option ℕ) → (here || is_there o) ≡ is_there (if here then Some entry else o)
entry_known true entry o = refl
entry_known false entry o = refl

entry_told : (here : Bool) (entry t old new : ℕ) (o : Option ℕ) → new ≡ (if here then entry else old) → (o ≡ Some t → old ≡ t) → (if here then Some entry else o) ≡ Some t → new ≡ t
entry_told true entry t old new o e told h = e ∙ same_some entry t h
entry_told false entry t old new o e told h = e ∙ told h

module _ (n0 n1 n2 n3 : List Node) (bits : List Gate) (key entry here : ℕ) (target : List Gate) (old new : Table) (grown1 : Grown n0 n1) (grown2 : Grown n1 n2) (grown3 : Grown n2 n3)
    (low : entry < 2 ^ 4) (is : Gives n1 here (λ choice v. nat_eq (number v bits) key)) (word : Spells n1 target 4 (λ v. entry % 2 ^ 4))
    (known : Gives n2 new.known.at (λ choice v. v here || v old.known.at))
    (state : Spells n3 new.state.bits.items (length target) (λ v. if v here then number v target else number v old.state.bits.items)) where
  pub adds_some : AddsEntry n0 n3 bits key (Some entry) old new
  adds_some = record {
    adds = λ f none t. record {
      known_below = omega (arith, known.below, grown3.longer);
      below = state.below;
      wide = state.wide ∙ word.wide;
      known = λ choice v r.
          let r2 = grown3.runs choice v r in
          let r1 = grown2.runs choice v r2 in
          let r0 = grown1.runs choice v r1 in
          known.value choice v r2 ∙ rw (is.value choice v r1, t.known choice v r0) (entry_known (nat_eq (number v bits) key) entry (f (number v bits)));
      entry = λ choice v r k e.
          let r2 = grown3.runs choice v r in
          let r1 = grown2.runs choice v r2 in
          let r0 = grown1.runs choice v r1 in
          let spelt : number v target ≡ entry = word.value choice v r1 ∙ mod-eq_of_lt low in
          entry_told (nat_eq (number v bits) key) entry k (number v old.state.bits.items) (number v new.state.bits.items) (f (number v bits))
          (state.value choice v r ∙ rw (is.value choice v r1, spelt) refl) (t.entry choice v r0 k) e;
    };
  }

-- no entries yet
below_none : (m : MachineSpec) (n k : ℕ) → led_below m n 0 k ≡ None
below_none m n k = by (nat_lt k 0) refl
  where
    by : (b : Bool) → nat_lt k 0 ≡ b → (if b then target_of m n k else None) ≡ None
    by true e = absurd (omega (arith, ltb-true k 0 e))
    by false e = refl

pub table_none : (ns : List Node) (table : Table) → Gives ns table.known.at (λ choice v. false) → Spells ns table.state.bits.items 4 (λ v. 0 % 2 ^ 4)
    → (bits : List Gate) (m : MachineSpec) (n : ℕ) → IsTable ns bits (led_below m n 0) table
table_none ns table known state bits m n = record {
  known_below = known.below;
  below = state.below;
  wide = state.wide;
  known = λ choice v r. known.value choice v r ∙ sym (ap is_there (below_none m n (number v bits)));
  entry = λ choice v r t e. absurd (none_some t (sym (below_none m n (number v bits)) ∙ e));
}

-- the entries of one state more
more : (m : MachineSpec) (n i k : ℕ) → with_entry (led_below m n i) i (target_of m n i) k ≡ led_below m n (i + 1) k
more m n i k = by (nat_eq k i) refl (nat_lt k i) refl (nat_lt k (i + 1)) refl
  where
    by : (a : Bool) → nat_eq k i ≡ a → (b : Bool) → nat_lt k i ≡ b → (c : Bool) → nat_lt k (i + 1) ≡ c
        → (if a then target_of m n i else (if b then target_of m n k else None)) ≡ (if c then target_of m n k else None)
    by true e b f true g = ap (target_of m n) (sym (eqb-true k i e))
    by true e b f false g = let same : k ≡ i = eqb-true k i e in absurd (omega (arith, ltb-false k (i + 1) g, same))
    by false e true f true g = refl
    by false e true f false g = absurd (omega (arith, ltb-true k i f, ltb-false k (i + 1) g))
    by false e false f true g =
        let near : k ≡ i = omega (arith, ltb-false k i f, ltb-true k (i + 1) g) in
        absurd (true≢false (sym (eq-eqb k i near) ∙ e))
    by false e false f false g = refl

unknown_at : (m : MachineSpec) (n i k : ℕ) → i ≤ k → led_below m n i k ≡ None
unknown_at m n i k high = by (nat_lt k i) refl
  where
    by : (b : Bool) → nat_lt k i ≡ b → (if b then target_of m n k else None) ≡ None
    by true e = absurd (omega (arith, ltb-true k i e))
    by false e = refl

pub table_more : (n0 n1 : List Node) (bits : List Gate) (m : MachineSpec) (n i : ℕ) (entry : Option ℕ) (old new : Table) → entry ≡ target_of m n i
    → AddsEntry n0 n1 bits i entry old new → IsTable n0 bits (led_below m n i) old → IsTable n1 bits (led_below m n (i + 1)) new
table_more n0 n1 bits m n i entry old new e adds t =
    table_same n1 bits (with_entry (led_below m n i) i entry) (led_below m n (i + 1)) new
    (λ k. ap (λ o. if nat_eq k i then o else led_below m n i k) e ∙ more m n i k)
    (adds.adds (led_below m n i) (unknown_at m n i i (omega arith)) t)

-- beyond the states an operation leads nowhere
all_at : {A : Type 0} (p : A → Bool) (xs : List A) (k : ℕ) (x : A) → list_all p xs ≡ true → slice_get xs k ≡ Some x → p x ≡ true
all_at p [] k x all here = cc
all_at p (y ∷ xs) zero x all here = grind (arith, all, here)
all_at p (y ∷ xs) (suc k) x all here = all_at p xs k x (by (p y) all) here
  where
    by : (b : Bool) → (b && list_all p xs) ≡ true → list_all p xs ≡ true
    by true h = h
    by false h = absurd (true≢false (sym h))

past : (xs : List (Option ℕ)) (k : ℕ) → length xs ≤ k → joined (slice_get xs k) ≡ None
past [] k high = refl
past (x ∷ xs) zero high = absurd (omega arith)
past (x ∷ xs) (suc k) high = past xs k (omega arith)

first_of : (a b : Bool) → (a && b) ≡ true → a ≡ true
first_of true b h = refl
first_of false b h = absurd (true≢false (sym h))

few_targets : (m : MachineSpec) (n : ℕ) → IsWhole m → length (targets_at m n) ≤ length m.states
few_targets m n whole = by (slice_get m.operations n) refl
  where
    by : (o : Option Operation) → slice_get m.operations n ≡ o → length (targets_of o) ≤ length m.states
    by None e = omega arith
    by (Some o) e =
        let all : has_targets (length m.states) o ≡ true = all_at (has_targets (length m.states)) m.operations n o whole.targets e in
        let same : length o.targets ≡ length m.states = eqb-true (length o.targets) (length m.states) (first_of (nat_eq (length o.targets) (length m.states)) (list_all (is_target (length m.states)) o.targets) all) in
        omega (arith, same)

pub nowhere : (m : MachineSpec) (n k : ℕ) → IsWhole m → length m.states ≤ k → target_of m n k ≡ None
nowhere m n k whole high = past (targets_at m n) k (omega (arith, few_targets m n whole))

whole_entry : (m : MachineSpec) (n k : ℕ) → IsWhole m → with_entry (led_below m n (length m.states)) 15 (on_any m n) k ≡ led_to m n k
whole_entry m n k whole = by (nat_eq k 15) (nat_lt k (length m.states)) refl
  where
    by : (a : Bool) (b : Bool) → nat_lt k (length m.states) ≡ b
        → (if a then on_any m n else (if b then target_of m n k else None)) ≡ (if a then on_any m n else target_of m n k)
    by true b f = refl
    by false true f = refl
    by false false f = sym (nowhere m n k whole (ltb-false k (length m.states) f))

pub table_whole : (n0 n1 : List Node) (bits : List Gate) (m : MachineSpec) (n i : ℕ) (entry : Option ℕ) (old new : Table) → IsWhole m → length m.states ≤ i → i ≤ length m.states
    → entry ≡ on_any m n → AddsEntry n0 n1 bits 15 entry old new → IsTable n0 bits (led_below m n i) old → IsTable n1 bits (led_to m n) new
table_whole n0 n1 bits m n i entry old new whole high low e adds t =
    let all : i ≡ length m.states = omega arith in
    let before : IsTable n0 bits (led_below m n (length m.states)) old = subst (λ (k : ℕ). IsTable n0 bits (led_below m n k) old) all t in
    table_same n1 bits (with_entry (led_below m n (length m.states)) 15 entry) (led_to m n) new
    (λ k. ap (λ o. if nat_eq k 15 then o else led_below m n (length m.states) k) e ∙ whole_entry m n k whole)
    (adds.adds (led_below m n (length m.states)) (unknown_at m n (length m.states) 15 (omega (arith, whole.most_states))) before)

-- each entry has a number of a state
pub entry_low : (m : MachineSpec) (n i t : ℕ) → IsWhole m → target_of m n i ≡ Some t → t < 2 ^ 4
entry_low m n i t whole e = omega (arith, whole.in_range n i t e, whole.most_states)

pub any_low : (m : MachineSpec) (n t : ℕ) → IsWhole m → on_any m n ≡ Some t → t < 2 ^ 4
any_low m n t whole e = omega (arith, whole.any_in_range n t e, whole.most_states)
