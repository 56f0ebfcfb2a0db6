-- Where walks begin.
use Rattle.std.proofs.Common.{◌≡◌, ◌⊎◌, ℕ, zero, suc, ◌<◌, ◌≤◌, nat_eq, Bool, true, false, not, ◌&&◌, ◌||◌, List, [], ◌∷◌, length, inl, inr, refl, sym, ◌∙◌, ap, arith}
use Rattle.std.specs.Prelude.{Option, Some, None, Ok, if◌then◌else◌}
use Rattle.std.proofs.lemmas.Bool.{cases_lt, true≢false, or_cases, or_left, or_right, eqb-true, eq-eqb, not-false, not-true}
use Rattle.bit_net.specs.declared.nodes.Node.{Node}
use Rattle.bit_net.specs.Runs.{Grown, Gives}
use Rattle.sc_world.specs.Layout.{location, is_pointer_cell}
use Rattle.sc_world.specs.World.{bit_at}
use Rattle.sc_world.specs.Shows.{Over, cell_now, holds_objects, is_among, is_holder, is_it, numbers, object_of, objects_held, result_object, root_at, with_object}
use Rattle.run_world.specs.Seen.{env}
use Rattle.walk_laws.proofs.Counting.{among_range, range_among}
use Rattle.fn_facts.specs.declared.around.Around.{Around}
use Rattle.fn_facts.specs.Seen.{over}
use Rattle.fn_facts.specs.Showing.{ShowsAtExit}
use Rattle.fn_walks.specs.declared.roots.Beside.{Beside}
use Rattle.fn_walks.specs.declared.roots.Beside.TheVariants as beside
use Rattle.fn_walks.specs.declared.roots.From.{From}
use Rattle.fn_walks.specs.Seen.{any_below, counts, counts_in, first, held_here, leads_to, roots}

-- One of so many.

pub same_truth : (a b : Bool) → (a ≡ true → b ≡ true) → (b ≡ true → a ≡ true) → a ≡ b
same_truth true b f g = sym (f refl)
same_truth false true f g = g refl
same_truth false false f g = refl

pub some_below : (f : Over → ℕ → Bool) (o : Over) (n : ℕ) → any_below f o n ≡ true → (k : ℕ) × (k < n) × (f o k ≡ true)
unfolding any_below
some_below f o zero h = absurd (true≢false (sym h))
some_below f o (suc n) h = by (λ e. some_below f o n e) (or_cases (any_below f o n) (f o n) h)
  where
    by : (any_below f o n ≡ true → (k : ℕ) × (k < n) × (f o k ≡ true)) → (any_below f o n ≡ true) ⊎ (f o n ≡ true)
        → (k : ℕ) × (k < suc n) × (f o k ≡ true)
    by before (inl e) = let r = before e in (r.0, omega (arith, r.1), r.2)
    by before (inr e) = (n, omega arith, e)

pub below_some : (f : Over → ℕ → Bool) (o : Over) (n k : ℕ) → k < n → f o k ≡ true → any_below f o n ≡ true
unfolding any_below
below_some f o zero k low h = absurd (omega (arith, low))
below_some f o (suc n) k low h = by (λ less. below_some f o n k less h) (cases_lt k n)
  where
    by : (k < n → any_below f o n ≡ true) → (k < n) ⊎ (n ≤ k) → (any_below f o n || f o n) ≡ true
    by before (inl less) = or_left (any_below f o n) (f o n) (before less)
    by before (inr high) = let same : n ≡ k = omega (arith, low, high) in or_right (any_below f o n) (f o n) (ap (f o) same ∙ h)

-- Holders.

among_with : (x : Option ℕ) (ns : List ℕ) (n : ℕ) → is_among (with_object x ns) n ≡ (is_it n x || is_among ns n)
among_with None ns n = refl
among_with (Some m) ns n = refl

it_if : (b : Bool) (x : Option ℕ) (n : ℕ) → is_it n (if b then x else None) ≡ (b && is_it n x)
it_if true x n = refl
it_if false x n = refl

held_among : (o : Over) (test : ℕ → Bool) (ks : List ℕ) (n : ℕ) → is_among (objects_held o test ks) n ≡ true
    → (k : ℕ) × (is_among ks k ≡ true) × (((is_holder o k && test k) && is_it n (object_of o (cell_now o k))) ≡ true)
held_among o test [] n h = absurd (true≢false (sym h))
held_among o test (k ∷ ks) n h =
    by (λ e. held_among o test ks n e)
    (or_cases (is_it n (if is_holder o k && test k then object_of o (cell_now o k) else None)) (is_among (objects_held o test ks) n)
    (sym (among_with (if is_holder o k && test k then object_of o (cell_now o k) else None) (objects_held o test ks) n) ∙ h))
  where
    by : (is_among (objects_held o test ks) n ≡ true
        → (j : ℕ) × (is_among ks j ≡ true) × (((is_holder o j && test j) && is_it n (object_of o (cell_now o j))) ≡ true))
        → (is_it n (if is_holder o k && test k then object_of o (cell_now o k) else None) ≡ true) ⊎ (is_among (objects_held o test ks) n ≡ true)
        → (j : ℕ) × (is_among (k ∷ ks) j ≡ true) × (((is_holder o j && test j) && is_it n (object_of o (cell_now o j))) ≡ true)
    by rest (inl e) =
        (k, or_left (nat_eq k k) (is_among ks k) (eq-eqb k k refl), sym (it_if (is_holder o k && test k) (object_of o (cell_now o k)) n) ∙ e)
    by rest (inr e) = let r = rest e in (r.0, or_right (nat_eq r.0 k) (is_among ks r.0) r.1, r.2)

among_held : (o : Over) (test : ℕ → Bool) (ks : List ℕ) (n k : ℕ) → is_among ks k ≡ true
    → ((is_holder o k && test k) && is_it n (object_of o (cell_now o k))) ≡ true → is_among (objects_held o test ks) n ≡ true
among_held o test [] n k i h = absurd (true≢false (sym i))
among_held o test (j ∷ ks) n k i h =
    among_with (if is_holder o j && test j then object_of o (cell_now o j) else None) (objects_held o test ks) n
    ∙ by (λ e. among_held o test ks n k e h) (or_cases (nat_eq k j) (is_among ks k) i)
  where
    by : (is_among ks k ≡ true → is_among (objects_held o test ks) n ≡ true) → (nat_eq k j ≡ true) ⊎ (is_among ks k ≡ true)
        → (is_it n (if is_holder o j && test j then object_of o (cell_now o j) else None) || is_among (objects_held o test ks) n) ≡ true
    by rest (inl e) =
        let same : k ≡ j = eqb-true k j e in
        or_left (is_it n (if is_holder o j && test j then object_of o (cell_now o j) else None)) (is_among (objects_held o test ks) n)
        (it_if (is_holder o j && test j) (object_of o (cell_now o j)) n
        ∙ (ap (λ m. (is_holder o m && test m) && is_it n (object_of o (cell_now o m))) (sym same) ∙ h))
    by rest (inr e) =
        or_right (is_it n (if is_holder o j && test j then object_of o (cell_now o j) else None)) (is_among (objects_held o test ks) n) (rest e)

regrouped : (a b c : Bool) → ((a && b) && c) ≡ (a && (b && c))
regrouped true b c = refl
regrouped false b c = refl

pub held_is : (o : Over) (b : Beside) (n : ℕ)
    → is_among (objects_held o (counts o b) (numbers o)) n ≡ any_below (held_here b n) o (length o.layout.locations)
unfolding held_here leads_to
held_is o b n =
    same_truth (is_among (objects_held o (counts o b) (numbers o)) n) (any_below (held_here b n) o (length o.layout.locations))
    (λ h. (let r = held_among o (counts o b) (numbers o) n h in
    below_some (held_here b n) o (length o.layout.locations) r.0 (omega (arith, (range_among 0 (length o.layout.locations) r.0 r.1).1))
    (sym (regrouped (is_holder o r.0) (counts o b r.0) (is_it n (object_of o (cell_now o r.0)))) ∙ r.2)))
    (λ h. (let r = some_below (held_here b n) o (length o.layout.locations) h in
    among_held o (counts o b) (numbers o) n r.0 (among_range 0 (length o.layout.locations) r.0 (omega arith) (omega (arith, r.1)))
    (regrouped (is_holder o r.0) (counts o b r.0) (is_it n (object_of o (cell_now o r.0))) ∙ r.2)))

pub root_is : (o : Over) (f : From) (n : ℕ)
    → is_among (roots o f) n ≡ ((f.result && is_it n (result_object o)) || any_below (held_here f.beside n) o (length o.layout.locations))
unfolding roots
root_is o f n =
    among_with (first o f) (objects_held o (counts o f.beside) (numbers o)) n
    ∙ (ap (λ b. b || is_among (objects_held o (counts o f.beside) (numbers o)) n) (it_if f.result (result_object o) n)
    ∙ ap (λ b. (f.result && is_it n (result_object o)) || b) (held_is o f.beside n))

-- Gates.

counts_is : (o : Over) (b : Beside) (k : ℕ) → counts o b k ≡ counts_in o.layout b k
counts_is o beside.Nothing k = refl
counts_is o (beside.Object n) k = refl
counts_is o (beside.Cell at) k = refl

pub no_pointer_held : (a : Around) (ns : List Node) (b : Beside) (n at g : ℕ) → is_pointer_cell (location (env a.here).layout at) ≡ false
    → Gives ns g (λ choice v. false) → ShowsAtExit a ns (λ o. held_here b n o at) g
unfolding held_here
no_pointer_held a ns b n at g none gives =
    record {
      below = gives.below;
      value = λ bits v c w runs t.
          (let o = over a bits (Ok c) w in
          gives.value (bit_at bits) v runs
          ∙ sym (ap (λ x. (x && holds_objects o (root_at o at)) && (counts o b at && leads_to o (cell_now o at) n)) none));
    }

pub not_counted : (a : Around) (ns : List Node) (b : Beside) (n at g : ℕ) → counts_in (env a.here).layout b at ≡ false
    → Gives ns g (λ choice v. false) → ShowsAtExit a ns (λ o. held_here b n o at) g
unfolding held_here
not_counted a ns b n at g none gives =
    record {
      below = gives.below;
      value = λ bits v c w runs t.
          (let o = over a bits (Ok c) w in
          gives.value (bit_at bits) v runs
          ∙ sym (ap (λ x. is_holder o at && (x && leads_to o (cell_now o at) n)) (counts_is o b at ∙ none) ∙ never (is_holder o at)));
    }
  where
    never : (x : Bool) → (x && false) ≡ false
    never true = refl
    never false = refl

pub counted : (a : Around) (n1 n2 ns : List Node) (b : Beside) (n at leads holder g : ℕ) → counts_in (env a.here).layout b at ≡ true
    → Grown n1 n2 → Grown n2 ns → ShowsAtExit a n1 (λ o. leads_to o (cell_now o at) n) leads → ShowsAtExit a n2 (λ o. is_holder o at) holder
    → Gives ns g (λ choice v. v holder && v leads) → ShowsAtExit a ns (λ o. held_here b n o at) g
unfolding held_here
counted a n1 n2 ns b n at leads holder g all g1 g2 sl sh gives =
    record {
      below = gives.below;
      value = λ bits v c w runs t.
          (let o = over a bits (Ok c) w in
          let r2 = g2.runs (bit_at bits) v runs in
          let r1 = g1.runs (bit_at bits) v r2 in
          gives.value (bit_at bits) v runs
          ∙ (ap (λ x. x && v leads) (sh.value bits v c w r2 t) ∙ (ap (λ x. is_holder o at && x) (sl.value bits v c w r1 t)
          ∙ sym (ap (λ x. is_holder o at && (x && leads_to o (cell_now o at) n)) (counts_is o b at ∙ all)))));
    }

pub held_alone : (a : Around) (ns : List Node) (f : From) (n g : ℕ) → not f.result ≡ true
    → ShowsAtExit a ns (λ o. any_below (held_here f.beside n) o (length (env a.here).layout.locations)) g
    → ShowsAtExit a ns (λ o. is_among (roots o f) n) g
held_alone a ns f n g none s =
    record {
      below = s.below;
      value = λ bits v c w runs t.
          (let o = over a bits (Ok c) w in
          s.value bits v c w runs t
          ∙ sym (root_is o f n
          ∙ ap (λ b. (b && is_it n (result_object o)) || any_below (held_here f.beside n) o (length o.layout.locations)) (not-true f.result none)));
    }

pub held_or_given : (a : Around) (n1 n2 ns : List Node) (f : From) (n held given g : ℕ) → not f.result ≡ false → Grown n1 n2 → Grown n2 ns
    → ShowsAtExit a n1 (λ o. any_below (held_here f.beside n) o (length (env a.here).layout.locations)) held
    → ShowsAtExit a n2 (λ o. is_it n (result_object o)) given → Gives ns g (λ choice v. v given || v held)
    → ShowsAtExit a ns (λ o. is_among (roots o f) n) g
held_or_given a n1 n2 ns f n held given g some g1 g2 sh sg gives =
    record {
      below = gives.below;
      value = λ bits v c w runs t.
          (let o = over a bits (Ok c) w in
          let r2 = g2.runs (bit_at bits) v runs in
          let r1 = g1.runs (bit_at bits) v r2 in
          gives.value (bit_at bits) v runs
          ∙ (ap (λ x. x || v held) (sg.value bits v c w r2 t) ∙ (ap (λ x. is_it n (result_object o) || x) (sh.value bits v c w r1 t)
          ∙ sym (root_is o f n
          ∙ ap (λ b. (b && is_it n (result_object o)) || any_below (held_here f.beside n) o (length o.layout.locations)) (not-false f.result some)))));
    }
