-- To which location an array and an index lead, and the pairs of all that they may lead to.
use Rattle.std.proofs.Common.{◌≡◌, ℕ, zero, suc, ◌+◌, ◌<◌, ◌≤◌, ◌%◌, ◌^◌, nat_eq, nat_lt, Bool, true, false, not, ◌&&◌, ◌||◌, List, [], ◌∷◌, ◌++◌, length, if◌then◌else◌, refl, sym, ◌∙◌, ap, subst, arith}
use Rattle.std.specs.Prelude.{Option, Some, None, slice_index_or}
use Rattle.std.proofs.Math.Nat.{mod-eq_of_lt}
use Rattle.std.proofs.Math.Pow.{pow_mono}
use Rattle.std.proofs.lemmas.Bool.{eqb-true, eqb-false, eq-eqb, ne_eqb, lt-ltb, ltb-true}
use Rattle.bit_net.specs.declared.nodes.Gate.{Gate}
use Rattle.bit_net.specs.declared.nodes.Node.{Node}
use Rattle.bit_net.specs.Runs.{Runs, Grown, Gives, Always}
use Rattle.bit_words.specs.Number.{number, converted}
use Rattle.bit_words.specs.Spells.{Spells}
use Rattle.bit_words.proofs.NumberLemmas.{number-below}
use Rattle.gl_sets.specs.declared.pairs.Pair.{Pair}
use Rattle.gl_sets.specs.Guards.{Points, held, guard, has_target, targets_differ, guards_top}
use Rattle.gl_sets.proofs.GuardLemmas.{targets_differ-push}
use Rattle.gl_sets.proofs.PointLemmas.{guard-points}
use Rattle.sum_rows.specs.declared.path.Step.TheVariants as step
use Rattle.sc_world.specs.declared.run.Origin.{Origin}
use Rattle.sc_world.specs.declared.run.Origin.TheVariants as origin
use Rattle.sc_world.specs.Layout.{Layout, Location, location, nowhere, part, first_where, is_part_of, is_there}
use Rattle.gate_elements.specs.declared.elements.Entry.{Entry}
use Rattle.gate_elements.specs.Elements.{LeadsHere, IsPushed, HasElements, IsElement, element_origin, element_of, is_location, target_of, among, is_among}

-- The test of the index: a number of at most 64 bits stays as it is in 64 bits.

same_in : (n k : ℕ) → n < 2 ^ k → k ≤ 64 → n % 2 ^ 64 ≡ n
same_in n k low small = let more = pow_mono small in mod-eq_of_lt (omega (arith, low, more))

pub index_gate : (ns mid : List Node) (b wide bound : List Gate) (k gate : ℕ) → Grown mid ns → length b ≤ 64 → k < 2 ^ 64
    → Spells mid wide 64 (λ v. converted false (length b) 64 (number v b)) → Spells mid bound 64 (λ v. k % 2 ^ 64)
    → Gives ns gate (λ choice v. nat_eq (number v wide) (number v bound)) → Gives ns gate (λ choice v. nat_eq (number v b) k)
index_gate ns mid b wide bound k gate grown small low is_wide is_bound is =
    record {
      below = is.below;
      value = λ choice v runs.
          let earlier = grown.runs choice v runs in
          is.value choice v runs
          ∙ ap (λ n. nat_eq n (number v bound)) (is_wide.value choice v earlier ∙ same_in (number v b) (length b) (number-below v b) small)
          ∙ ap (λ n. nat_eq (number v b) n) (is_bound.value choice v earlier ∙ mod-eq_of_lt low);
    }

-- Parts of locations.

found_in : (test : Location → Bool) (k : ℕ) (ls : List Location) (to : ℕ) → first_where test k ls ≡ Some to
    → (i : ℕ) × (to ≡ k + i) × (i < length ls) × (test (slice_index_or ls i nowhere) ≡ true)
found_in test k [] to e = absurd (cc)
found_in test k (l ∷ ls) to e = side (test l) refl (λ h. found_in test (k + 1) ls to h) e
  where
    side : (b : Bool) → test l ≡ b
        → (first_where test (k + 1) ls ≡ Some to → (i : ℕ) × (to ≡ k + 1 + i) × (i < length ls) × (test (slice_index_or ls i nowhere) ≡ true))
        → (if b then Some k else first_where test (k + 1) ls) ≡ Some to → (i : ℕ) × (to ≡ k + i) × (i < length (l ∷ ls)) × (test (slice_index_or (l ∷ ls) i nowhere) ≡ true)
    side true is rest e =
        let same : k ≡ to = cc in
        (0, omega (arith, same), omega arith, is)
    side false is rest e =
        let h = rest e in
        (suc h.0, omega (arith, h.1), omega (arith, h.2), h.3)

part_there : (p : Layout) (up n at : ℕ) → part p up (step.Elem n) ≡ Some at
    → (at < length p.locations) × (is_part_of up (step.Elem n) (location p at).origin ≡ true)
part_there p up n at e =
    let h = found_in (λ l. is_part_of up (step.Elem n) l.origin) 0 p.locations at e in
    let same : h.0 ≡ at = omega (arith, h.1) in
    subst (λ i. (i < length p.locations) × (is_part_of up (step.Elem n) (location p i).origin ≡ true)) same (h.2, h.3)

-- what an element's origin says
agrees : Option Entry → (up n : ℕ) → Bool
agrees None up n = false
agrees (Some e) up n = nat_eq up e.array && nat_eq n e.number

both : (a b : Bool) → a && b ≡ true → (a ≡ true) × (b ≡ true)
both true true e = (refl, refl)
both true false e = absurd (cc)
both false b e = absurd (cc)

entry_agrees : (b : Bool) (up n u k : ℕ) → b ≡ true → nat_eq up u && nat_eq n k ≡ true
    → agrees (if b then Some (record { array = u; number = k }) else None) up n ≡ true
unfolding agrees
entry_agrees true up n u k low e = e
entry_agrees false up n u k low e = absurd (cc)

no_step : (b : Bool) → b && false ≡ true → ⊥
no_step true e = absurd (cc)
no_step false e = absurd (cc)

origin_agrees : (p : Layout) (up n : ℕ) (o : Origin) → up < length p.locations → is_part_of up (step.Elem n) o ≡ true
    → agrees (element_origin p o) up n ≡ true
origin_agrees p up n (origin.Part u (step.Elem k)) low e =
    let same : up ≡ u = eqb-true up u (both (nat_eq up u) (nat_eq n k) e).0 in
    entry_agrees (nat_lt u (length p.locations)) up n u k (lt-ltb u (length p.locations) (omega (arith, low, same))) e
origin_agrees p up n (origin.Part u step.Deref) low e = absurd (no_step (nat_eq up u) e)
origin_agrees p up n (origin.Part u (step.Field m)) low e = absurd (no_step (nat_eq up u) e)
origin_agrees p up n (origin.Param k) low e = absurd (cc)
origin_agrees p up n (origin.Global k) low e = absurd (cc)
origin_agrees p up n (origin.Local k) low e = absurd (cc)
origin_agrees p up n (origin.Literal k) low e = absurd (cc)
origin_agrees p up n (origin.Function k) low e = absurd (cc)
origin_agrees p up n (origin.Target k) low e = absurd (cc)
origin_agrees p up n (origin.Call k) low e = absurd (cc)

entry_low : (b : Bool) (u k n : ℕ) (e : Entry) → (b ≡ true → u < n) → (if b then Some (record { array = u; number = k }) else None) ≡ Some e → e.array < n
entry_low true u k n e low is = let same : u ≡ e.array = ap array_or is in omega (arith, low refl, same)
  where
    array_or : Option Entry → ℕ
    array_or None = 0
    array_or (Some x) = x.array
entry_low false u k n e low is = absurd (cc)

origin_low : (p : Layout) (o : Origin) (e : Entry) → element_origin p o ≡ Some e → e.array < length p.locations
origin_low p (origin.Part u (step.Elem k)) e is =
    entry_low (nat_lt u (length p.locations)) u k (length p.locations) e (λ h. ltb-true u (length p.locations) h) is
origin_low p (origin.Part u step.Deref) e is = absurd (cc)
origin_low p (origin.Part u (step.Field m)) e is = absurd (cc)
origin_low p (origin.Param k) e is = absurd (cc)
origin_low p (origin.Global k) e is = absurd (cc)
origin_low p (origin.Local k) e is = absurd (cc)
origin_low p (origin.Literal k) e is = absurd (cc)
origin_low p (origin.Function k) e is = absurd (cc)
origin_low p (origin.Target k) e is = absurd (cc)
origin_low p (origin.Call k) e is = absurd (cc)

-- A location that is not led to.

not_led : (p : Layout) (m target at : ℕ)
    → ((up : ℕ) → target ≡ suc up → up < length p.locations → part p up (step.Elem m) ≡ Some at → ⊥)
    → is_location (element_of p m target) at ≡ false
not_led p m zero at h = refl
not_led p m (suc up) at h = by (nat_lt up (length p.locations)) refl (part p up (step.Elem m)) refl
  where
    by : (b : Bool) → nat_lt up (length p.locations) ≡ b → (o : Option ℕ) → part p up (step.Elem m) ≡ o
        → is_location (if b then part p up (step.Elem m) else None) at ≡ false
    by false low o is = refl
    by true low None is = ap (λ x. is_location x at) is
    by true low (Some to) is = ap (λ x. is_location x at) is ∙ other (nat_eq to at) refl
      where
        other : (c : Bool) → nat_eq to at ≡ c → nat_eq to at ≡ false
        other false e = e
        other true e = absurd (h up refl (ltb-true up (length p.locations) low) (is ∙ ap Some (eqb-true to at e)))

led_agrees : (p : Layout) (m at up : ℕ) → up < length p.locations → part p up (step.Elem m) ≡ Some at
    → agrees (element_origin p (location p at).origin) up m ≡ true
led_agrees p m at up low is = origin_agrees p up m (location p at).origin low (part_there p up m at is).1

itself : (n : ℕ) → nat_eq n n ≡ true
itself n = eq-eqb n n refl

module _ (ns : List Node) (p : Layout) (array : List Pair) (index : List Gate) (at gate : ℕ) where
  pub never_here : element_origin p (location p at).origin ≡ None → Gives ns gate (λ choice v. false) → LeadsHere ns p array index at gate
  unfolding agrees
  never_here none is =
      record {
        below = is.below;
        value = λ choice v runs target points.
            is.value choice v runs
            ∙ sym (not_led p (number v index) target at
            (λ up e low led.
            let no : false ≡ true = sym (ap (λ o. agrees o up (number v index)) none) ∙ led_agrees p (number v index) at up low led in absurd (cc)));
      }

  same_entry : (e : Entry) (up m : ℕ) → element_origin p (location p at).origin ≡ Some e → up < length p.locations → part p up (step.Elem m) ≡ Some at
      → (up ≡ e.array) × (m ≡ e.number)
  unfolding agrees
  same_entry e up m is low led =
      let h = both (nat_eq up e.array) (nat_eq m e.number) (sym (ap (λ o. agrees o up m) is) ∙ led_agrees p m at up low led) in
      (eqb-true up e.array h.0, eqb-true m e.number h.1)

  pub not_first : (e : Entry) (o : Option ℕ) → element_origin p (location p at).origin ≡ Some e → o ≡ part p e.array (step.Elem e.number)
      → is_location o at ≡ false → Gives ns gate (λ choice v. false) → LeadsHere ns p array index at gate
  not_first e o origin_is looked other is =
      record {
        below = is.below;
        value = λ choice v runs target points.
            is.value choice v runs
            ∙ sym (not_led p (number v index) target at
            (λ up t low led.
            let same = same_entry e up (number v index) origin_is low led in
            let there : part p e.array (step.Elem e.number) ≡ Some at = sym (ap (λ u. part p u (step.Elem e.number)) same.0) ∙ sym (ap (λ k. part p up (step.Elem k)) same.1) ∙ led in
            let no : false ≡ true = sym other ∙ ap (λ x. is_location x at) (looked ∙ there) ∙ itself at in absurd (cc)));
      }

  is_some : (o : Option ℕ) → is_location o at ≡ true → o ≡ Some at
  is_some None e = absurd (cc)
  is_some (Some to) e = ap Some (eqb-true to at e)

  first_value : (e : Entry) (m target : ℕ) → element_origin p (location p at).origin ≡ Some e → part p e.array (step.Elem e.number) ≡ Some at
      → (b c : Bool) → nat_eq target (e.array + 1) ≡ b → nat_eq m e.number ≡ c → b && c ≡ is_location (element_of p m target) at
  first_value e m target origin_is there true true t k =
      let low : e.array < length p.locations = origin_low p (location p at).origin e origin_is in
      let whole : target ≡ suc e.array = omega (arith, eqb-true target (e.array + 1) t) in
      let one : element_of p m target ≡ Some at = ap (λ u. element_of p m u) whole ∙ ap (λ b. if b then part p e.array (step.Elem m) else None) (lt-ltb e.array (length p.locations) low) ∙ ap (λ i. part p e.array (step.Elem i)) (eqb-true m e.number k) ∙ there in
      sym (ap (λ o. is_location o at) one ∙ itself at)
  first_value e m target origin_is there false c t k =
      sym (not_led p m target at
      (λ up is low led.
      let same = same_entry e up m origin_is low led in
      eqb-false target (e.array + 1) t (omega (arith, is, same.0))))
  first_value e m target origin_is there true false t k =
      sym (not_led p m target at
      (λ up is low led. eqb-false m e.number k (same_entry e up m origin_is low led).1))

  pub first_here : (e : Entry) (o : Option ℕ) → element_origin p (location p at).origin ≡ Some e → o ≡ part p e.array (step.Elem e.number)
      → is_location o at ≡ true → Gives ns gate (λ choice v. guard v array (e.array + 1) && nat_eq (number v index) e.number)
      → LeadsHere ns p array index at gate
  first_here e o origin_is looked here is =
      record {
        below = is.below;
        value = λ choice v runs target points.
            is.value choice v runs
            ∙ ap (λ b. b && nat_eq (number v index) e.number) (guard-points v array target (e.array + 1) points)
            ∙ first_value e (number v index) target origin_is (sym looked ∙ is_some o here) (nat_eq target (e.array + 1)) (nat_eq (number v index) e.number) refl refl;
      }

-- Pairs that are added.

append_none : (xs : List ℕ) → xs ++ [] ≡ xs
append_none [] = refl
append_none (x ∷ xs) = ap (λ ys. x ∷ ys) (append_none xs)

more_if : (b : Bool) (x : ℕ) (xs ys zs : List ℕ) → xs ≡ ys ++ zs → (if b then x ∷ xs else xs) ≡ (if b then x ∷ ys else ys) ++ zs
more_if true x xs ys zs e = ap (λ ws. x ∷ ws) e
more_if false x xs ys zs e = e

held_more : (v : ℕ → Bool) (ps : List Pair) (p : Pair) → held v (ps ++ p ∷ []) ≡ held v ps ++ (if v p.guard.at then p.target ∷ [] else [])
unfolding held
held_more v [] p = refl
held_more v (q ∷ ps) p = more_if (v q.guard.at) q.target (held v (ps ++ p ∷ [])) (held v ps) (if v p.guard.at then p.target ∷ [] else []) (held_more v ps p)

top_more : (ps : List Pair) (p : Pair) (n : ℕ) → p.guard.at < n → guards_top ps ≤ n → guards_top (ps ++ p ∷ []) ≤ n
unfolding guards_top
top_more [] p n low top = omega (arith, low)
top_more (q ∷ ps) p n low top = omega (arith, top, top_more ps p n low (omega (arith, top)))

neither : (a b : Bool) → a || b ≡ false → (a ≡ false) × (b ≡ false)
neither false b e = (refl, e)
neither true b e = absurd (cc)

has_more : (ps : List Pair) (p : Pair) (t : ℕ) → (p.target ≡ t → ⊥) → has_target ps t ≡ false → has_target (ps ++ p ∷ []) t ≡ false
unfolding has_target
has_more [] p t other none = ap (λ b. b || false) (ne_eqb p.target t other)
has_more (q ∷ ps) p t other none =
    let parts = neither (nat_eq q.target t) (has_target ps t) none in
    ap (λ b. b || has_target (ps ++ p ∷ []) t) parts.0 ∙ has_more ps p t other parts.1

pub pushed : (ns : List Node) (p : Pair) (old new : List Pair) → p.guard.at < length ns → new ≡ old ++ p ∷ [] → IsPushed ns p old new
pushed ns p old new low e =
    subst (λ qs. IsPushed ns p old qs) (sym e)
    (record {
      below = λ top. top_more old p (length ns) low top;
      differ = λ fresh apart. targets_differ-push old p apart fresh;
      others = λ t other none. has_more old p t other none;
      holds = λ choice v runs. held_more v old p;
    })

pub not_pushed : (ns : List Node) (p : Pair) (old : List Pair) → Always ns (λ choice v. v p.guard.at ≡ false) → IsPushed ns p old old
not_pushed ns p old never =
    record {
      below = λ top. top;
      differ = λ fresh apart. apart;
      others = λ t other none. none;
      holds = λ choice v runs.
          sym (ap (λ b. held v old ++ (if b then p.target ∷ [] else [])) (never.holds choice v runs) ∙ append_none (held v old));
    }

pub elements_none : (ns : List Node) (p : Layout) (array : List Pair) (index : List Gate) (pairs : List Pair) (found : ℕ) → pairs ≡ []
    → Gives ns found (λ choice v. false) → HasElements ns p array index 0 pairs found
unfolding held has_target targets_differ guards_top
elements_none ns p array index pairs found e is =
    subst (λ ps. HasElements ns p array index 0 ps found) (sym e)
    (record {
      below = omega arith;
      low = is.below;
      differ = refl;
      no_null = refl;
      no_later = λ t high. refl;
      holds = λ choice v runs target points. refl;
      some = λ choice v runs target points. is.value choice v runs;
    })

step_does : (n0 n1 n2 : List Node) (p : Layout) (array : List Pair) (index : List Gate) (at found more target : ℕ) (g : Gate) (old new : List Pair)
    → Grown n0 n1 → Grown n1 n2 → target ≡ at + 1 → HasElements n0 p array index at old found → LeadsHere n1 p array index at g.at
    → IsPushed n1 (record { guard = g; target = target }) old new → Gives n2 more (λ choice v. v found || v g.at)
    → HasElements n2 p array index (suc at) new more
step_does n0 n1 n2 p array index at found more target g old new grown01 grown12 behind have leads push is =
    record {
      below = omega (arith, push.below (omega (arith, have.below, grown01.longer)), grown12.longer);
      low = is.below;
      differ = push.differ (have.no_later target (omega (arith, behind))) have.differ;
      no_null = push.others 0 (λ e. omega (arith, behind, e)) have.no_null;
      no_later = λ t high. push.others t (λ e. omega (arith, behind, high, e)) (have.no_later t (omega (arith, high)));
      holds = λ choice v runs t points.
          let r1 = grown12.runs choice v runs in
          let r0 = grown01.runs choice v r1 in
          let o = element_of p (number v index) t in
          let whole : target ≡ suc at = omega (arith, behind) in
          push.holds choice v r1 ∙ ap (λ xs. xs ++ (if v g.at then target ∷ [] else [])) (have.holds choice v r0 t points)
          ∙ ap (λ b. among o at ++ (if b then target ∷ [] else [])) (leads.value choice v r1 t points)
          ∙ ap (λ k. among o at ++ (if is_location o at then k ∷ [] else [])) whole;
      some = λ choice v runs t points.
          let r1 = grown12.runs choice v runs in
          let r0 = grown01.runs choice v r1 in
          let o = element_of p (number v index) t in
          is.value choice v runs ∙ ap (λ b. b || v g.at) (have.some choice v r0 t points) ∙ ap (λ b. is_among o at || b) (leads.value choice v r1 t points);
    }

pub elements_step : (n0 n1 n2 : List Node) (p : Layout) (array : List Pair) (index : List Gate) (at found more target : ℕ) (g : Gate) (old new : List Pair)
    → Grown n0 n1 → Grown n1 n2 → target ≡ at + 1 → HasElements n0 p array index at old found → LeadsHere n1 p array index at g.at
    → IsPushed n1 (record { guard = g; target = target }) old new → Gives n2 more (λ choice v. v found || v g.at)
    → HasElements n2 p array index (at + 1) new more
elements_step n0 n1 n2 p array index at found more target g old new grown01 grown12 behind have leads push is =
    let next : suc at ≡ at + 1 = omega arith in
    subst (λ k. HasElements n2 p array index k new more) next
    (step_does n0 n1 n2 p array index at found more target g old new grown01 grown12 behind have leads push is)

-- All locations were looked at.

among_none : (n : ℕ) → among None n ≡ []
among_none zero = refl
among_none (suc at) = ap (λ xs. xs ++ []) (among_none at)

never_among : (n : ℕ) → is_among None n ≡ false
never_among zero = refl
never_among (suc at) = ap (λ b. b || false) (never_among at)

among_before : (to n : ℕ) → n ≤ to → among (Some to) n ≡ []
among_before to zero high = refl
among_before to (suc at) high =
    ap (λ xs. xs ++ (if nat_eq to at then suc at ∷ [] else [])) (among_before to at (omega (arith, high)))
    ∙ ap (λ b. [] ++ (if b then suc at ∷ [] else [])) (ne_eqb to at (λ h. omega (arith, high, h)))

among_behind : (to n : ℕ) → to < n → among (Some to) n ≡ suc to ∷ []
among_behind to zero low = absurd (omega (arith, low))
among_behind to (suc at) low = by (nat_eq to at) refl (λ h. among_behind to at h)
  where
    by : (b : Bool) → nat_eq to at ≡ b → (to < at → among (Some to) at ≡ suc to ∷ []) → among (Some to) at ++ (if nat_eq to at then suc at ∷ [] else []) ≡ suc to ∷ []
    by true e earlier =
        let same : to ≡ at = eqb-true to at e in
        ap (λ xs. xs ++ (if nat_eq to at then suc at ∷ [] else [])) (among_before to at (omega (arith, same)))
        ∙ ap (λ b. [] ++ (if b then suc at ∷ [] else [])) e ∙ ap (λ k. suc k ∷ []) (sym same)
    by false e earlier =
        ap (λ xs. xs ++ (if nat_eq to at then suc at ∷ [] else [])) (earlier (omega (arith, low, λ (h : to ≡ at). eqb-false to at e h)))
        ∙ ap (λ b. (suc to ∷ []) ++ (if b then suc at ∷ [] else [])) e

or_true : (b : Bool) → b || true ≡ true
or_true true = refl
or_true false = refl

is_among_behind : (to n : ℕ) → to < n → is_among (Some to) n ≡ true
is_among_behind to zero low = absurd (omega (arith, low))
is_among_behind to (suc at) low = by (nat_eq to at) refl (λ h. is_among_behind to at h)
  where
    by : (b : Bool) → nat_eq to at ≡ b → (to < at → is_among (Some to) at ≡ true) → is_among (Some to) at || nat_eq to at ≡ true
    by true e earlier = ap (λ b. is_among (Some to) at || b) e ∙ or_true (is_among (Some to) at)
    by false e earlier =
        ap (λ b. b || nat_eq to at) (earlier (omega (arith, low, λ (h : to ≡ at). eqb-false to at e h)))

element_low : (p : Layout) (m target to : ℕ) → element_of p m target ≡ Some to → to < length p.locations
element_low p m zero to e = absurd (cc)
element_low p m (suc up) to e = by (nat_lt up (length p.locations)) e
  where
    by : (b : Bool) → (if b then part p up (step.Elem m) else None) ≡ Some to → to < length p.locations
    by true is = (part_there p up m to is).0
    by false is = absurd (cc)

last_pair : (o : Option ℕ) (n : ℕ) (hs : List ℕ) (b : Bool) → ((to : ℕ) → o ≡ Some to → to < n) → hs ≡ among o n → b ≡ not (is_among o n)
    → (hs ++ (if b then 0 ∷ [] else []) ≡ target_of o ∷ []) × (b ≡ not (is_there o))
last_pair None n hs b low have missing =
    let gone : b ≡ true = missing ∙ ap not (never_among n) in
    (ap (λ xs. xs ++ (if b then 0 ∷ [] else [])) (have ∙ among_none n) ∙ ap (λ c. [] ++ (if c then 0 ∷ [] else [])) gone, gone)
last_pair (Some to) n hs b low have missing =
    let here : b ≡ false = missing ∙ ap not (is_among_behind to n (low to refl)) in
    (ap (λ xs. xs ++ (if b then 0 ∷ [] else [])) (have ∙ among_behind to n (low to refl)) ∙ ap (λ c. (suc to ∷ []) ++ (if c then 0 ∷ [] else [])) here, here)

pub is_element : (n1 n2 : List Node) (p : Layout) (array : List Pair) (index : List Gate) (count found : ℕ) (missing : Gate) (pairs made : List Pair)
    → Grown n1 n2 → count ≡ length p.locations → HasElements n1 p array index count pairs found → Gives n2 missing.at (λ choice v. not (v found))
    → IsPushed n2 (record { guard = missing; target = 0 }) pairs made → IsElement n2 p array index made missing.at
is_element n1 n2 p array index count found missing pairs made grown all have is push =
    record {
      below = push.below (omega (arith, have.below, grown.longer));
      low = is.below;
      points = λ choice v runs target points.
          record { one = push.holds choice v runs ∙ (ends choice v (grown.runs choice v runs) target points (is.value choice v runs)).0 };
      none = λ choice v runs target points. (ends choice v (grown.runs choice v runs) target points (is.value choice v runs)).1;
    }
  where
    ends : (choice v : ℕ → Bool) → Runs n1 choice v → (target : ℕ) → Points v array target → v missing.at ≡ not (v found)
        → (held v pairs ++ (if v missing.at then 0 ∷ [] else []) ≡ target_of (element_of p (number v index) target) ∷ [])
        × (v missing.at ≡ not (is_there (element_of p (number v index) target)))
    ends choice v runs target points gone =
        last_pair (element_of p (number v index) target) count (held v pairs) (v missing.at)
        (λ to e. subst (λ n. to < n) (sym all) (element_low p (number v index) target to e)) (have.holds choice v runs target points)
        (gone ∙ ap not (have.some choice v runs target points))
