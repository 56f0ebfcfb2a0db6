-- How runs end: the gates of `flow_ends`, as facts of the run.
use Rattle.std.proofs.Common.{◌≡◌, ◌⊎◌, ℕ, zero, suc, ◌+◌, ◌<◌, ◌≤◌, nat_eq, Bool, true, false, not, ◌&&◌, ◌||◌, List, [], ◌∷◌, length, inl, inr, refl, sym, ◌∙◌, ap, arith}
use Rattle.std.specs.Prelude.{Some, Result, Ok, Err, bytes_eq, slice_index_or}
use Rattle.std.proofs.lemmas.Bool.{cases_lt, cases_eq, eq-eqb, ne_eqb, true≢false, false≢true, or_from, or_left, or_right, and_right}
use Rattle.bit_net.specs.declared.nodes.Gate.{Gate}
use Rattle.bit_net.specs.declared.nodes.Node.{Node}
use Rattle.bit_net.specs.Runs.{Grown, Gives}
use Rattle.gate_runs.specs.Standing.{is_bad}
use Rattle.gate_runs.specs.Stands.{told, gates_top}
use Rattle.run_store.specs.Concrete.{Cell}
use Rattle.sc_world.specs.Layout.{Layout, location, is_outer}
use Rattle.sc_world.specs.Paths.{Texts, text_at}
use Rattle.sc_world.specs.World.{World, Ended, Error, Inner, Aside, bit_at}
use Rattle.sc_world.specs.Shows.{exits, exits_with, errs_at, ends_inner, is_it, text_is}
use Rattle.run_world.specs.Seen.{env}
use Rattle.flow_ends.specs.Encoded.{TellsRun}
use Rattle.flow_ends.specs.declared.encoded.Encoded.{Encoded}
use Rattle.fn_facts.specs.declared.around.Around.{Around}
use Rattle.fn_facts.specs.Seen.{fails_at, errs_below, errs_known, ends_below}
use Rattle.error_laws.specs.Errors.{IsErrorOf}
use Rattle.fn_facts.specs.Showing.{IsReady, Shows}

-- The end of the function.

over_is : (e : Encoded) (v : ℕ → Bool) (r : Result Cell Ended) (w : World) → TellsRun v e (r, w) → not (v e.fates.over.at) ≡ exits_with r
over_is e v (Ok c) w t = ap not t.0.over
over_is e v (Err x) w t = ap not t.over

pub exit_shown : (a : Around) (ns : List Node) (g : ℕ) → Gives ns g (λ choice v. not (v a.encoded.now.fates.over.at)) → Shows a ns exits g
exit_shown a ns g gives =
    record {
      below = gives.below;
      value = λ bits v r w runs t. gives.value (bit_at bits) v runs ∙ over_is a.encoded.now v r w t.tells;
    }

-- Errors.

told_past : (v : ℕ → Bool) (gs : List Gate) (k : ℕ) → length gs ≤ k → told v gs k ≡ false
unfolding told
told_past v [] k high = refl
told_past v (g ∷ gs) zero high = absurd (omega (arith, high))
told_past v (g ∷ gs) (suc k) high = told_past v gs k (omega (arith, high))

past_is_not : (n k count : ℕ) → n < count → count ≤ k → nat_eq n k ≡ false
past_is_not n k count low high = ne_eqb n k (λ e. omega (arith, low, high, e))

never_past : (p : Layout) (x : Ended) (k : ℕ) → IsErrorOf p (Err x) → length p.locations ≤ k → is_bad k (Some x) ≡ false
never_past p (Error n) k h high = past_is_not n k (length p.locations) h.0 high
never_past p (Inner n) k h high = past_is_not n k (length p.locations) h.0 high
never_past p (Aside r) k h high = refl

fail_is : (p : Layout) (e : Encoded) (v : ℕ → Bool) (r : Result Cell Ended) (w : World) (k : ℕ) → length e.fates.bads.items ≡ length p.locations
    → TellsRun v e (r, w) → IsErrorOf p r → told v e.fates.bads.items k ≡ fails_at r k
fail_is p e v (Ok c) w k each t h = t.0.bads k
fail_is p e v (Err x) w k each t h = by (cases_lt k (length e.fates.bads.items))
  where
    by : (k < length e.fates.bads.items) ⊎ (length e.fates.bads.items ≤ k) → told v e.fates.bads.items k ≡ is_bad k (Some x)
    by (inl low) = t.bads k low
    by (inr high) = told_past v e.fates.bads.items k high ∙ sym (never_past p x k h (omega (arith, high, each)))

told_at : (v : ℕ → Bool) (gs : List Gate) (k : ℕ) (d : Gate) → k < length gs → v (slice_index_or gs k d).at ≡ told v gs k
unfolding told
told_at v [] k d low = absurd (omega (arith, low))
told_at v (g ∷ gs) zero d low = refl
told_at v (g ∷ gs) (suc k) d low = told_at v gs k d (omega (arith, low))

below_at : (gs : List Gate) (k : ℕ) (d : Gate) → k < length gs → (slice_index_or gs k d).at < gates_top gs
unfolding gates_top
below_at [] k d low = absurd (omega (arith, low))
below_at (g ∷ gs) zero d low = omega arith
below_at (g ∷ gs) (suc k) d low = omega (arith, below_at gs k d (omega (arith, low)))

-- a gate of a list, and one past its end
pub gate_shown : (ns : List Node) (gs : List Gate) (k : ℕ) (d : Gate) → k < length gs → gates_top gs ≤ length ns
    → Gives ns (slice_index_or gs k d).at (λ choice v. told v gs k)
gate_shown ns gs k d low below =
    record { below = omega (arith, below_at gs k d low, below); value = λ choice v runs. told_at v gs k d low }

pub past_shown : (ns : List Node) (gs : List Gate) (k g : ℕ) → length gs ≤ k → Gives ns g (λ choice v. false) → Gives ns g (λ choice v. told v gs k)
past_shown ns gs k g high gives =
    record { below = gives.below; value = λ choice v runs. gives.value choice v runs ∙ sym (told_past v gs k high) }

pub fail_shown : (a : Around) (ns : List Node) (k g : ℕ) → IsReady a ns → Gives ns g (λ choice v. told v a.encoded.now.fates.bads.items k)
    → Shows a ns (λ o. fails_at o.ended k) g
fail_shown a ns k g ready gives =
    record {
      below = gives.below;
      value = λ bits v r w runs t.
          gives.value (bit_at bits) v runs
          ∙ fail_is (env a.here).layout a.encoded.now v r w k ready.fates.each_bad t.tells t.error;
    }

-- Errors at locations that the caller knows, and at others.

swapped : (m n : ℕ) → nat_eq m n ≡ nat_eq n m
swapped m n = by (cases_eq m n)
  where
    by : (m ≡ n) ⊎ (m ≡ n → ⊥) → nat_eq m n ≡ nat_eq n m
    by (inl e) = eq-eqb m n e ∙ sym (eq-eqb n m (sym e))
    by (inr d) = ne_eqb m n d ∙ sym (ne_eqb n m (λ e. d (sym e)))

-- a location that the caller knows is no other one
differs : (p : Layout) (m n : ℕ) (b c : Bool) → is_outer (location p m) ≡ b → is_outer (location p n) ≡ c → (b ≡ c → ⊥) → m ≡ n → ⊥
differs p m n b c h i d e = d (sym h ∙ (ap (λ k. is_outer (location p k)) e ∙ i))

outer_is : (p : Layout) (r : Result Cell Ended) (k : ℕ) → is_outer (location p k) ≡ true → IsErrorOf p r → fails_at r k ≡ errs_at r k
outer_is p (Ok c) k outer h = refl
outer_is p (Err (Error n)) k outer h = refl
outer_is p (Err (Inner n)) k outer h = ne_eqb n k (differs p n k false true h.1 outer false≢true)
outer_is p (Err (Aside r)) k outer h = refl

outer_never : (p : Layout) (r : Result Cell Ended) (k : ℕ) → is_outer (location p k) ≡ false → IsErrorOf p r → errs_at r k ≡ false
outer_never p (Ok c) k other h = refl
outer_never p (Err (Error n)) k other h = ne_eqb n k (differs p n k true false h.1 other true≢false)
outer_never p (Err (Inner n)) k other h = refl
outer_never p (Err (Aside r)) k other h = refl

inner_is : (p : Layout) (r : Result Cell Ended) (k : ℕ) → is_outer (location p k) ≡ false → IsErrorOf p r → fails_at r k ≡ is_it k (ends_inner r)
inner_is p (Ok c) k other h = refl
inner_is p (Err (Error n)) k other h = ne_eqb n k (differs p n k true false h.1 other true≢false)
inner_is p (Err (Inner n)) k other h = swapped n k
inner_is p (Err (Aside r)) k other h = refl

inner_never : (p : Layout) (r : Result Cell Ended) (k : ℕ) → is_outer (location p k) ≡ true → IsErrorOf p r → is_it k (ends_inner r) ≡ false
inner_never p (Ok c) k outer h = refl
inner_never p (Err (Error n)) k outer h = refl
inner_never p (Err (Inner n)) k outer h = ne_eqb k n (λ e. differs p n k false true h.1 outer false≢true (sym e))
inner_never p (Err (Aside r)) k outer h = refl

pub error_shown : (a : Around) (ns : List Node) (k g : ℕ) → is_outer (location (env a.here).layout k) ≡ true → Shows a ns (λ o. fails_at o.ended k) g
    → Shows a ns (λ o. errs_at o.ended k) g
error_shown a ns k g outer s =
    record {
      below = s.below;
      value = λ bits v r w runs t. s.value bits v r w runs t ∙ outer_is (env a.here).layout r k outer t.error;
    }

pub no_error_shown : (a : Around) (ns : List Node) (k g : ℕ) → is_outer (location (env a.here).layout k) ≡ false → Gives ns g (λ choice v. false)
    → Shows a ns (λ o. errs_at o.ended k) g
no_error_shown a ns k g other s =
    record {
      below = s.below;
      value = λ bits v r w runs t. s.value (bit_at bits) v runs ∙ sym (outer_never (env a.here).layout r k other t.error);
    }

pub inner_shown : (a : Around) (ns : List Node) (k g : ℕ) → is_outer (location (env a.here).layout k) ≡ false → Shows a ns (λ o. fails_at o.ended k) g
    → Shows a ns (λ o. is_it k (ends_inner o.ended)) g
inner_shown a ns k g other s =
    record {
      below = s.below;
      value = λ bits v r w runs t. s.value bits v r w runs t ∙ inner_is (env a.here).layout r k other t.error;
    }

pub no_inner_shown : (a : Around) (ns : List Node) (k g : ℕ) → is_outer (location (env a.here).layout k) ≡ true → Gives ns g (λ choice v. false)
    → Shows a ns (λ o. is_it k (ends_inner o.ended)) g
no_inner_shown a ns k g outer s =
    record {
      below = s.below;
      value = λ bits v r w runs t. s.value (bit_at bits) v runs ∙ sym (inner_never (env a.here).layout r k outer t.error);
    }

-- Over all locations.

none_below : (r : Result Cell Ended) → ((k : ℕ) → errs_at r k ≡ false) → (n : ℕ) → errs_below r n ≡ false
unfolding errs_below
none_below r none zero = refl
none_below r none (suc k) = or_from (errs_below r k) (errs_at r k) (none_below r none k) (none k)

some_below : (n count : ℕ) → n < count → errs_below (Err (Error n)) count ≡ true
unfolding errs_below
some_below n zero low = absurd (omega (arith, low))
some_below n (suc k) low = by (λ less. some_below n k less) (cases_lt n k)
  where
    by : (n < k → errs_below (Err (Error n)) k ≡ true) → (n < k) ⊎ (k ≤ n) → (errs_below (Err (Error n)) k || nat_eq n k) ≡ true
    by before (inl less) = or_left (errs_below (Err (Error n)) k) (nat_eq n k) (before less)
    by before (inr high) = or_right (errs_below (Err (Error n)) k) (nat_eq n k) (eq-eqb n k (omega (arith, low, high)))

known_is : (p : Layout) (r : Result Cell Ended) → IsErrorOf p r → errs_below r (length p.locations) ≡ errs_known r
known_is p (Ok c) h = none_below (Ok c) (λ k. refl) (length p.locations)
known_is p (Err (Error n)) h = some_below n (length p.locations) h.0
known_is p (Err (Inner n)) h = none_below (Err (Inner n)) (λ k. refl) (length p.locations)
known_is p (Err (Aside r)) h = none_below (Err (Aside r)) (λ k. refl) (length p.locations)

pub known_begins : (a : Around) (ns : List Node) (g : ℕ) → Gives ns g (λ choice v. false) → Shows a ns (λ o. errs_below o.ended 0) g
unfolding errs_below
known_begins a ns g gives = record { below = gives.below; value = λ bits v r w runs t. gives.value (bit_at bits) v runs }

pub known_more : (a : Around) (old ns : List Node) (k some here g : ℕ) → Grown old ns → Shows a old (λ o. errs_below o.ended k) some
    → Shows a old (λ o. errs_at o.ended k) here → Gives ns g (λ choice v. v some || v here) → Shows a ns (λ o. errs_below o.ended (k + 1)) g
unfolding errs_below
known_more a old ns k some here g grown s h gives =
    record {
      below = gives.below;
      value = λ bits v r w runs t.
          (let before = grown.runs (bit_at bits) v runs in
          let next : k + 1 ≡ suc k = omega arith in
          gives.value (bit_at bits) v runs
          ∙ (ap (λ b. b || v here) (s.value bits v r w before t) ∙ (ap (λ b. errs_below r k || b) (h.value bits v r w before t)
          ∙ sym (ap (λ n. errs_below r n) next))));
    }

pub known_shown : (a : Around) (ns : List Node) (k g : ℕ) → length (env a.here).layout.locations ≡ k → Shows a ns (λ o. errs_below o.ended k) g
    → Shows a ns (λ o. errs_known o.ended) g
known_shown a ns k g all s =
    record {
      below = s.below;
      value = λ bits v r w runs t.
          s.value bits v r w runs t ∙ (ap (λ n. errs_below r n) (sym all) ∙ known_is (env a.here).layout r t.error);
    }

-- Texts of locations.

no_text_below : (x : Texts) (t : List ℕ) (r : Result Cell Ended) → ((k : ℕ) → is_it k (ends_inner r) ≡ false) → (n : ℕ) → ends_below x t r n ≡ false
unfolding ends_below
no_text_below x t r none zero = refl
no_text_below x t r none (suc k) =
    or_from (ends_below x t r k) (bytes_eq (text_at x k) t && is_it k (ends_inner r)) (no_text_below x t r none k)
    (and_right (bytes_eq (text_at x k) t) (is_it k (ends_inner r)) (none k))

not_yet : (x : Texts) (t : List ℕ) (n k : ℕ) → k ≤ n → ends_below x t (Err (Inner n)) k ≡ false
unfolding ends_below
not_yet x t n zero high = refl
not_yet x t n (suc k) high =
    or_from (ends_below x t (Err (Inner n)) k) (bytes_eq (text_at x k) t && nat_eq k n) (not_yet x t n k (omega (arith, high)))
    (and_right (bytes_eq (text_at x k) t) (nat_eq k n) (ne_eqb k n (λ e. omega (arith, high, e))))

one_text : (x : Texts) (t : List ℕ) (n k : ℕ) → n < k → ends_below x t (Err (Inner n)) k ≡ bytes_eq (text_at x n) t
unfolding ends_below
one_text x t n zero low = absurd (omega (arith, low))
one_text x t n (suc k) low = by (λ less. one_text x t n k less) (cases_lt n k)
  where
    and_true : (b : Bool) → (b && true) ≡ b
    and_true true = refl
    and_true false = refl

    or_false : (b : Bool) → (b || false) ≡ b
    or_false true = refl
    or_false false = refl

    last : n ≡ k → (bytes_eq (text_at x k) t && nat_eq k n) ≡ bytes_eq (text_at x n) t
    last e =
        ap (λ b. bytes_eq (text_at x k) t && b) (eq-eqb k n (sym e))
        ∙ (and_true (bytes_eq (text_at x k) t) ∙ ap (λ m. bytes_eq (text_at x m) t) (sym e))

    by : (n < k → ends_below x t (Err (Inner n)) k ≡ bytes_eq (text_at x n) t) → (n < k) ⊎ (k ≤ n)
        → (ends_below x t (Err (Inner n)) k || (bytes_eq (text_at x k) t && nat_eq k n)) ≡ bytes_eq (text_at x n) t
    by before (inl less) =
        ap (λ b. b || (bytes_eq (text_at x k) t && nat_eq k n)) (before less)
        ∙ (ap (λ b. bytes_eq (text_at x n) t || b)
        (and_right (bytes_eq (text_at x k) t) (nat_eq k n) (ne_eqb k n (λ e. omega (arith, less, e))))
        ∙ or_false (bytes_eq (text_at x n) t))
    by before (inr high) =
        ap (λ b. b || (bytes_eq (text_at x k) t && nat_eq k n)) (not_yet x t n k high) ∙ last (omega (arith, low, high))

text_is_below : (x : Texts) (t : List ℕ) (p : Layout) (r : Result Cell Ended) → IsErrorOf p r
    → ends_below x t r (length p.locations) ≡ text_is x t (ends_inner r)
text_is_below x t p (Ok c) h = no_text_below x t (Ok c) (λ k. refl) (length p.locations)
text_is_below x t p (Err (Error n)) h = no_text_below x t (Err (Error n)) (λ k. refl) (length p.locations)
text_is_below x t p (Err (Inner n)) h = one_text x t n (length p.locations) h.0
text_is_below x t p (Err (Aside r)) h = no_text_below x t (Err (Aside r)) (λ k. refl) (length p.locations)

pub text_begins : (a : Around) (x : Texts) (t : List ℕ) (ns : List Node) (g : ℕ) → Gives ns g (λ choice v. false)
    → Shows a ns (λ o. ends_below x t o.ended 0) g
unfolding ends_below
text_begins a x t ns g gives = record { below = gives.below; value = λ bits v r w runs told. gives.value (bit_at bits) v runs }

pub text_more : (a : Around) (x : Texts) (t : List ℕ) (old ns : List Node) (k some here g : ℕ) → Grown old ns
    → Shows a old (λ o. ends_below x t o.ended k) some
    → Shows a old (λ o. bytes_eq (text_at x k) t && is_it k (ends_inner o.ended)) here → Gives ns g (λ choice v. v some || v here)
    → Shows a ns (λ o. ends_below x t o.ended (k + 1)) g
unfolding ends_below
text_more a x t old ns k some here g grown s h gives =
    record {
      below = gives.below;
      value = λ bits v r w runs told.
          (let before = grown.runs (bit_at bits) v runs in
          let next : k + 1 ≡ suc k = omega arith in
          gives.value (bit_at bits) v runs
          ∙ (ap (λ b. b || v here) (s.value bits v r w before told) ∙ (ap (λ b. ends_below x t r k || b) (h.value bits v r w before told)
          ∙ sym (ap (λ n. ends_below x t r n) next))));
    }

pub text_shown : (a : Around) (x : Texts) (t : List ℕ) (ns : List Node) (k g : ℕ) → length (env a.here).layout.locations ≡ k
    → Shows a ns (λ o. ends_below x t o.ended k) g → Shows a ns (λ o. text_is x t (ends_inner o.ended)) g
text_shown a x t ns k g all s =
    record {
      below = s.below;
      value = λ bits v r w runs told.
          s.value bits v r w runs told ∙ (ap (λ n. ends_below x t r n) (sym all) ∙ text_is_below x t (env a.here).layout r told.error);
    }

-- one location, which has the text or not
pub text_there : (a : Around) (x : Texts) (t : List ℕ) (ns : List Node) (k g : ℕ) (b : Bool) → b ≡ bytes_eq (text_at x k) t → b ≡ true
    → Shows a ns (λ o. is_it k (ends_inner o.ended)) g → Shows a ns (λ o. bytes_eq (text_at x k) t && is_it k (ends_inner o.ended)) g
text_there a x t ns k g b same holds s =
    record {
      below = s.below;
      value = λ bits v r w runs told. s.value bits v r w runs told ∙ ap (λ c. c && is_it k (ends_inner r)) (sym holds ∙ same);
    }

pub text_elsewhere : (a : Around) (x : Texts) (t : List ℕ) (ns : List Node) (k g : ℕ) (b : Bool) → b ≡ bytes_eq (text_at x k) t → b ≡ false
    → Gives ns g (λ choice v. false) → Shows a ns (λ o. bytes_eq (text_at x k) t && is_it k (ends_inner o.ended)) g
text_elsewhere a x t ns k g b same other gives =
    record {
      below = gives.below;
      value = λ bits v r w runs told. gives.value (bit_at bits) v runs ∙ ap (λ c. c && is_it k (ends_inner r)) (sym other ∙ same);
    }
