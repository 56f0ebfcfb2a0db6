-- What became of objects and pointers.
use Rattle.std.proofs.Common.{◌≡◌, ◌⊎◌, ℕ, suc, nat_eq, Bool, true, false, not, ◌&&◌, ◌||◌, List, [], ◌∷◌, inl, inr, refl, sym, ◌∙◌, ap, subst}
use Rattle.std.specs.Prelude.{None, Ok, if◌then◌else◌}
use Rattle.std.proofs.lemmas.Bool.{and_right, eqb-true, eq-eqb, ne_eqb}
use Rattle.bit_net.specs.declared.nodes.Node.{Node}
use Rattle.bit_net.specs.Runs.{Grown, Gives, Always}
use Rattle.bit_words.specs.declared.Word.{Word}
use Rattle.gl_sets.specs.declared.sets.Set.{Set}
use Rattle.gl_store.specs.declared.values.Val.{Val}
use Rattle.gl_store.specs.declared.values.Val.TheVariants as val
use Rattle.run_store.specs.declared.Flag.TheVariants as flag
use Rattle.sum_rows.specs.declared.row.State.{State}
use Rattle.sum_rows.specs.declared.row.State.TheVariants as state
use Rattle.sc_world.specs.Known.{same_state}
use Rattle.sc_world.specs.Layout.{Layout, location, is_pointer_cell}
use Rattle.sc_world.specs.World.{bit_at, is_true}
use Rattle.sc_world.specs.Shows as shows
use Rattle.sc_world.specs.Shows.{Over, cell_now, has, holds_objects, is_among, is_holder, numbers, object_of, objects_held, reached, result_object, root_at, with_object}
use Rattle.run_world.specs.Seen.{env}
use Rattle.fn_facts.specs.declared.around.Around.{Around}
use Rattle.fn_facts.specs.Seen.{over}
use Rattle.fn_facts.specs.Showing.{IsTruth, ShowsAtExit}
use Rattle.fn_walks.specs.declared.roots.Beside.TheVariants as beside
use Rattle.fn_walks.specs.declared.roots.From.{From}
use Rattle.fn_walks.specs.Seen.{escape_from, fate, is_escaped, is_fresh, is_fresh_at, is_known, is_own_object, is_reached, kind, roots}
use Rattle.fn_walks.specs.Walks.{ShowsOf, ShowsSet}
use Rattle.fn_walks.proofs.Making.{val_of_set, val_of_unit, val_of_word}

-- Objects that escape. One that holds nothing, since it is neither known nor marked, is beside no holder.

holds_nothing : (o : Over) (n : ℕ) → is_known o.layout n ≡ false → has o flag.Escaped n ≡ false → holds_objects o n ≡ false
holds_nothing o n unknown unmarked =
    ap (λ b. not (has o flag.Freed n) && (b || has o flag.Escaped n)) unknown
    ∙ (ap (λ b. not (has o flag.Freed n) && b) unmarked ∙ and_right (not (has o flag.Freed n)) false refl)

same_test : (o : Over) (n k : ℕ) → is_known o.layout n ≡ false → has o flag.Escaped n ≡ false
    → (is_holder o k && true) ≡ (is_holder o k && not (nat_eq (root_at o k) n))
same_test o n k unknown unmarked = by (nat_eq (root_at o k) n) refl
  where
    none : root_at o k ≡ n → is_holder o k ≡ false
    none e =
        ap (λ b. is_pointer_cell (location o.layout k) && b) (ap (holds_objects o) e ∙ holds_nothing o n unknown unmarked)
        ∙ and_right (is_pointer_cell (location o.layout k)) false refl

    by : (b : Bool) → nat_eq (root_at o k) n ≡ b → (is_holder o k && true) ≡ (is_holder o k && not b)
    by false e = refl
    by true e =
        let no_holder = none (eqb-true (root_at o k) n e) in ap (λ x. x && true) no_holder ∙ sym (ap (λ x. x && false) no_holder)

same_held : (o : Over) (n : ℕ) → is_known o.layout n ≡ false → has o flag.Escaped n ≡ false → (ks : List ℕ)
    → objects_held o (λ k. true) ks ≡ objects_held o (λ k. not (nat_eq (root_at o k) n)) ks
same_held o n unknown unmarked [] = refl
same_held o n unknown unmarked (k ∷ ks) =
    ap (λ b. with_object (if b then object_of o (cell_now o k) else None) (objects_held o (λ j. true) ks)) (same_test o n k unknown unmarked)
    ∙ ap (with_object (if is_holder o k && not (nat_eq (root_at o k) n) then object_of o (cell_now o k) else None)) (same_held o n unknown unmarked ks)

-- from where walks tell it
abbrev pub from_where : ℕ → Bool → From
from_where n known = record { result = true; beside = if known then beside.Object n else beside.Nothing }

pub from_known : (p : Layout) (n : ℕ) → is_known p n ≡ true → from_where n true ≡ escape_from p n
from_known p n e = sym (ap (from_where n) e)

pub from_unknown : (p : Layout) (n : ℕ) → is_known p n ≡ false → from_where n false ≡ escape_from p n
from_unknown p n e = sym (ap (from_where n) e)

escaped_by : (o : Over) (n : ℕ) (known : Bool) → is_known o.layout n ≡ known
    → (has o flag.Escaped n || is_reached o (record { result = true; beside = if known then beside.Object n else beside.Nothing }) n) ≡ is_escaped o n
unfolding is_escaped is_reached roots
escaped_by o n true e = refl
escaped_by o n false e = by (has o flag.Escaped n) refl
  where
    by : (b : Bool) → has o flag.Escaped n ≡ b
        → (b || is_among (reached o (with_object (result_object o) (objects_held o (λ k. true) (numbers o)))) n)
        ≡ (b || is_among (reached o (with_object (result_object o) (objects_held o (λ k. not (nat_eq (root_at o k) n)) (numbers o)))) n)
    by true m = refl
    by false m = ap (λ ks. is_among (reached o (with_object (result_object o) ks)) n) (same_held o n e m (numbers o))

escaped_is : (o : Over) (f : From) (n : ℕ) → f ≡ escape_from o.layout n → (has o flag.Escaped n || is_reached o f n) ≡ is_escaped o n
escaped_is o f n e = ap (λ x. has o flag.Escaped n || is_reached o x n) e ∙ escaped_by o n (is_known o.layout n) refl

pub escape_shown : (a : Around) (old ns : List Node) (f : From) (n there marked g : ℕ) → f ≡ escape_from (env a.here).layout n → Grown old ns
    → ShowsAtExit a old (λ o. is_reached o f n) there → ShowsAtExit a old (λ o. has o flag.Escaped n) marked
    → Gives ns g (λ choice v. v marked || v there) → ShowsAtExit a ns (λ o. is_escaped o n) g
escape_shown a old ns f n there marked g from grown st sm gives =
    record {
      below = gives.below;
      value = λ bits v c w runs t.
          (let o = over a bits (Ok c) w in
          let before = grown.runs (bit_at bits) v runs in
          gives.value (bit_at bits) v runs
          ∙ (ap (λ b. b || v there) (sm.value bits v c w before t) ∙ (ap (λ b. has o flag.Escaped n || b) (st.value bits v c w before t)
          ∙ escaped_is o f n from)));
    }

-- Own objects.

pub part_is_not_own : (a : Around) (ns : List Node) (at root g : ℕ) → root ≡ (location (env a.here).layout at).root → (root ≡ at → ⊥)
    → Gives ns g (λ choice v. false)
    → ShowsAtExit a ns (λ o. is_own_object o at) g
unfolding is_own_object
part_is_not_own a ns at root g same differs gives =
    record {
      below = gives.below;
      value = λ bits v c w runs t.
          (let o = over a bits (Ok c) w in
          gives.value (bit_at bits) v runs
          ∙ sym (ap (λ b. b && (has o flag.Allocated at && (not (has o flag.Freed at) && not (has o flag.Escaped at))))
          (ne_eqb (root_at o at) at (λ e. differs (same ∙ e)))));
    }

pub own_is : (x f e : Bool) → (x && not (f || e)) ≡ (x && (not f && not e))
own_is x true e = refl
own_is x false e = refl

pub own_shown : (a : Around) (n1 n2 n3 ns : List Node) (at root freed escaped gone kept allocated g : ℕ)
    → root ≡ (location (env a.here).layout at).root → root ≡ at → Grown n1 n2 → Grown n2 n3 → Grown n3 ns → ShowsAtExit a n1 (λ o. has o flag.Freed at) freed
    → ShowsAtExit a n1 (λ o. has o flag.Escaped at) escaped → Gives n2 gone (λ choice v. v freed || v escaped)
    → Gives n3 kept (λ choice v. not (v gone)) → ShowsAtExit a n3 (λ o. has o flag.Allocated at) allocated
    → Gives ns g (λ choice v. v allocated && v kept) → ShowsAtExit a ns (λ o. is_own_object o at) g
unfolding is_own_object
own_shown a n1 n2 n3 ns at root freed escaped gone kept allocated g same whole g1 g2 g3 sf se gg gk sa gives =
    record {
      below = gives.below;
      value = λ bits v c w runs t.
          (let o = over a bits (Ok c) w in
          let r3 = g3.runs (bit_at bits) v runs in
          let r2 = g2.runs (bit_at bits) v r3 in
          let r1 = g1.runs (bit_at bits) v r2 in
          gives.value (bit_at bits) v runs
          ∙ (ap (λ b. b && v kept) (sa.value bits v c w r3 t)
          ∙ (ap (λ b. has o flag.Allocated at && b)
          (gk.value (bit_at bits) v r3
          ∙ ap not (gg.value (bit_at bits) v r2 ∙ (ap (λ b. b || v escaped) (sf.value bits v c w r1 t)
          ∙ ap (λ b. has o flag.Freed at || b) (se.value bits v c w r1 t))))
          ∙ (own_is (has o flag.Allocated at) (has o flag.Freed at) (has o flag.Escaped at)
          ∙ sym (ap (λ b. b && (has o flag.Allocated at && (not (has o flag.Freed at) && not (has o flag.Escaped at))))
          (eq-eqb (root_at o at) at (sym same ∙ whole)))))));
    }

-- Fresh objects.

pub never_fresh : (a : Around) (ns : List Node) (f : From) (at own : ℕ) → Always ns (λ choice v. v own ≡ false) → ShowsAtExit a ns (λ o. is_own_object o at) own
    → ShowsAtExit a ns (λ o. is_own_object o at && not (is_reached o f at)) own
never_fresh a ns f at own never s =
    record {
      below = s.below;
      value = λ bits v c w runs t.
          (let o = over a bits (Ok c) w in
          let none = never.holds (bit_at bits) v runs in
          none ∙ sym (ap (λ b. b && not (is_reached o f at)) (sym (s.value bits v c w runs t) ∙ none)));
    }

pub alone_shown : (a : Around) (n1 n2 n3 ns : List Node) (f : From) (at own there alone g : ℕ) → Grown n1 n2 → Grown n2 n3 → Grown n3 ns
    → ShowsAtExit a n1 (λ o. is_own_object o at) own → ShowsAtExit a n2 (λ o. is_reached o f at) there → Gives n3 alone (λ choice v. not (v there))
    → Gives ns g (λ choice v. v own && v alone) → ShowsAtExit a ns (λ o. is_own_object o at && not (is_reached o f at)) g
alone_shown a n1 n2 n3 ns f at own there alone g g1 g2 g3 so st ga gives =
    record {
      below = gives.below;
      value = λ bits v c w runs t.
          (let o = over a bits (Ok c) w in
          let r3 = g3.runs (bit_at bits) v runs in
          let r2 = g2.runs (bit_at bits) v r3 in
          let r1 = g1.runs (bit_at bits) v r2 in
          gives.value (bit_at bits) v runs
          ∙ (ap (λ b. b && v alone) (so.value bits v c w r1 t)
          ∙ ap (λ b. is_own_object o at && b) (ga.value (bit_at bits) v r3 ∙ ap not (st.value bits v c w r2 t))));
    }

-- Kinds of pointers.

null_kind : (some fresh : Bool) → not some ≡ same_state state.Null (if not some then state.Null else (if fresh then state.Fresh else state.Other))
null_kind true true = refl
null_kind true false = refl
null_kind false fresh = refl

fresh_kind : (some fresh : Bool) → (some && fresh) ≡ same_state state.Fresh (if not some then state.Null else (if fresh then state.Fresh else state.Other))
fresh_kind true true = refl
fresh_kind true false = refl
fresh_kind false fresh = refl

other_kind : (some fresh : Bool) → (some && not fresh) ≡ same_state state.Other (if not some then state.Null else (if fresh then state.Fresh else state.Other))
other_kind true true = refl
other_kind true false = refl
other_kind false fresh = refl

pub null_shown : (a : Around) (old ns : List Node) (f : From) (x : Val) (some g : ℕ) → Grown old ns → IsTruth old x some → Gives ns g (λ choice v. not (v some))
    → ShowsOf a ns x (λ o c. same_state state.Null (kind o f c)) g
unfolding kind
null_shown a old ns f x some g grown truth gives =
    record {
      below = gives.below;
      value = λ bits v c w runs t y m.
          (let o = over a bits (Ok c) w in
          gives.value (bit_at bits) v runs
          ∙ (ap not (truth.value (bit_at bits) v (grown.runs (bit_at bits) v runs) y m) ∙ null_kind (is_true y) (is_fresh o f y)));
    }

pub fresh_shown : (a : Around) (n1 n2 ns : List Node) (f : From) (x : Val) (some fresh g : ℕ) → Grown n1 n2 → Grown n2 ns → IsTruth n1 x some
    → ShowsOf a n2 x (λ o c. is_fresh o f c) fresh → Gives ns g (λ choice v. v some && v fresh)
    → ShowsOf a ns x (λ o c. same_state state.Fresh (kind o f c)) g
unfolding kind
fresh_shown a n1 n2 ns f x some fresh g g1 g2 truth sf gives =
    record {
      below = gives.below;
      value = λ bits v c w runs t y m.
          (let o = over a bits (Ok c) w in
          let r2 = g2.runs (bit_at bits) v runs in
          let r1 = g1.runs (bit_at bits) v r2 in
          gives.value (bit_at bits) v runs
          ∙ (ap (λ b. b && v fresh) (truth.value (bit_at bits) v r1 y m) ∙ (ap (λ b. is_true y && b) (sf.value bits v c w r2 t y m)
          ∙ fresh_kind (is_true y) (is_fresh o f y))));
    }

pub other_shown : (a : Around) (n1 n2 n3 ns : List Node) (f : From) (x : Val) (some fresh other g : ℕ) → Grown n1 n2 → Grown n2 n3 → Grown n3 ns
    → IsTruth n1 x some → ShowsOf a n2 x (λ o c. is_fresh o f c) fresh → Gives n3 other (λ choice v. not (v fresh))
    → Gives ns g (λ choice v. v some && v other) → ShowsOf a ns x (λ o c. same_state state.Other (kind o f c)) g
unfolding kind
other_shown a n1 n2 n3 ns f x some fresh other g g1 g2 g3 truth sf go gives =
    record {
      below = gives.below;
      value = λ bits v c w runs t y m.
          (let o = over a bits (Ok c) w in
          let r3 = g3.runs (bit_at bits) v runs in
          let r2 = g2.runs (bit_at bits) v r3 in
          let r1 = g1.runs (bit_at bits) v r2 in
          gives.value (bit_at bits) v runs
          ∙ (ap (λ b. b && v other) (truth.value (bit_at bits) v r1 y m)
          ∙ (ap (λ b. is_true y && b) (go.value (bit_at bits) v r3 ∙ ap not (sf.value bits v c w r2 t y m))
          ∙ other_kind (is_true y) (is_fresh o f y))));
    }

-- Fates of objects.

freed_fate : (freed escaped : Bool) → freed ≡ same_state state.Freed (if freed then state.Freed else (if escaped then state.Escaped else state.Held))
freed_fate true e = refl
freed_fate false true = refl
freed_fate false false = refl

escaped_fate : (freed escaped : Bool)
    → (not freed && escaped) ≡ same_state state.Escaped (if freed then state.Freed else (if escaped then state.Escaped else state.Held))
escaped_fate true e = refl
escaped_fate false true = refl
escaped_fate false false = refl

held_fate : (freed escaped : Bool)
    → (not freed && not escaped) ≡ same_state state.Held (if freed then state.Freed else (if escaped then state.Escaped else state.Held))
held_fate true e = refl
held_fate false true = refl
held_fate false false = refl

pub freed_shown : (a : Around) (ns : List Node) (n g : ℕ) → ShowsAtExit a ns (λ o. has o flag.Freed n) g
    → ShowsAtExit a ns (λ o. same_state state.Freed (fate o n)) g
unfolding fate
freed_shown a ns n g s =
    record {
      below = s.below;
      value = λ bits v c w runs t.
          (let o = over a bits (Ok c) w in s.value bits v c w runs t ∙ freed_fate (has o flag.Freed n) (shows.is_escaped o n));
    }

pub escaped_shown : (a : Around) (n1 n2 n3 ns : List Node) (n freed kept escaped g : ℕ) → Grown n1 n2 → Grown n2 n3 → Grown n3 ns
    → ShowsAtExit a n1 (λ o. has o flag.Freed n) freed → Gives n2 kept (λ choice v. not (v freed)) → ShowsAtExit a n3 (λ o. is_escaped o n) escaped
    → Gives ns g (λ choice v. v kept && v escaped) → ShowsAtExit a ns (λ o. same_state state.Escaped (fate o n)) g
unfolding fate is_escaped
escaped_shown a n1 n2 n3 ns n freed kept escaped g g1 g2 g3 sf gk se gives =
    record {
      below = gives.below;
      value = λ bits v c w runs t.
          (let o = over a bits (Ok c) w in
          let r3 = g3.runs (bit_at bits) v runs in
          let r2 = g2.runs (bit_at bits) v r3 in
          let r1 = g1.runs (bit_at bits) v r2 in
          gives.value (bit_at bits) v runs
          ∙ (ap (λ b. b && v escaped) (gk.value (bit_at bits) v r2 ∙ ap not (sf.value bits v c w r1 t))
          ∙ (ap (λ b. not (has o flag.Freed n) && b) (se.value bits v c w r3 t) ∙ escaped_fate (has o flag.Freed n) (shows.is_escaped o n))));
    }

pub held_shown : (a : Around) (n1 n2 n3 n4 ns : List Node) (n freed kept escaped held g : ℕ) → Grown n1 n2 → Grown n2 n3 → Grown n3 n4 → Grown n4 ns
    → ShowsAtExit a n1 (λ o. has o flag.Freed n) freed → Gives n2 kept (λ choice v. not (v freed)) → ShowsAtExit a n3 (λ o. is_escaped o n) escaped
    → Gives n4 held (λ choice v. not (v escaped)) → Gives ns g (λ choice v. v kept && v held)
    → ShowsAtExit a ns (λ o. same_state state.Held (fate o n)) g
unfolding fate is_escaped
held_shown a n1 n2 n3 n4 ns n freed kept escaped held g g1 g2 g3 g4 sf gk se gh gives =
    record {
      below = gives.below;
      value = λ bits v c w runs t.
          (let o = over a bits (Ok c) w in
          let r4 = g4.runs (bit_at bits) v runs in
          let r3 = g3.runs (bit_at bits) v r4 in
          let r2 = g2.runs (bit_at bits) v r3 in
          let r1 = g1.runs (bit_at bits) v r2 in
          gives.value (bit_at bits) v runs
          ∙ (ap (λ b. b && v held) (gk.value (bit_at bits) v r2 ∙ ap not (sf.value bits v c w r1 t))
          ∙ (ap (λ b. not (has o flag.Freed n) && b) (gh.value (bit_at bits) v r4 ∙ ap not (se.value bits v c w r3 t))
          ∙ held_fate (has o flag.Freed n) (shows.is_escaped o n))));
    }

-- States that are no kind, and no fate.

abbrev IsNoKind : State → Type 0
IsNoKind x = (some fresh : Bool) → same_state x (if not some then state.Null else (if fresh then state.Fresh else state.Other)) ≡ false

abbrev IsNoFate : State → Type 0
IsNoFate x = (freed escaped : Bool) → same_state x (if freed then state.Freed else (if escaped then state.Escaped else state.Held)) ≡ false

nil_differs : IsNoKind state.Nil
nil_differs true true = refl
nil_differs true false = refl
nil_differs false fresh = refl

at_differs : (m : ℕ) → IsNoKind (state.At m)
at_differs m true true = refl
at_differs m true false = refl
at_differs m false fresh = refl

bad_differs : IsNoKind state.Bad
bad_differs true true = refl
bad_differs true false = refl
bad_differs false fresh = refl

held_differs : IsNoKind state.Held
held_differs true true = refl
held_differs true false = refl
held_differs false fresh = refl

escaped_differs : IsNoKind state.Escaped
escaped_differs true true = refl
escaped_differs true false = refl
escaped_differs false fresh = refl

freed_differs : IsNoKind state.Freed
freed_differs true true = refl
freed_differs true false = refl
freed_differs false fresh = refl

same_differs : IsNoKind state.Same
same_differs true true = refl
same_differs true false = refl
same_differs false fresh = refl

abbrev IsOtherKind : State → Type 0
IsOtherKind k =
    (k ≡ state.Nil) ⊎ (((m : ℕ) × (k ≡ state.At m)) ⊎ ((k ≡ state.Bad)
    ⊎ ((k ≡ state.Held) ⊎ ((k ≡ state.Escaped) ⊎ ((k ≡ state.Freed) ⊎ (k ≡ state.Same))))))

no_kind : (k : State) → IsOtherKind k → IsNoKind k
no_kind k (inl e) = subst (λ (x : State). IsNoKind x) (sym e) nil_differs
no_kind k (inr (inl (m, e))) = subst (λ (x : State). IsNoKind x) (sym e) (at_differs m)
no_kind k (inr (inr (inl e))) = subst (λ (x : State). IsNoKind x) (sym e) bad_differs
no_kind k (inr (inr (inr (inl e)))) = subst (λ (x : State). IsNoKind x) (sym e) held_differs
no_kind k (inr (inr (inr (inr (inl e))))) = subst (λ (x : State). IsNoKind x) (sym e) escaped_differs
no_kind k (inr (inr (inr (inr (inr (inl e)))))) = subst (λ (x : State). IsNoKind x) (sym e) freed_differs
no_kind k (inr (inr (inr (inr (inr (inr e)))))) = subst (λ (x : State). IsNoKind x) (sym e) same_differs

pub none_shown : (a : Around) (ns : List Node) (f : From) (x : Val) (k : State) (g : ℕ) → IsOtherKind k → Gives ns g (λ choice v. false)
    → ShowsOf a ns x (λ o c. same_state k (kind o f c)) g
unfolding kind
none_shown a ns f x k g other gives =
    record {
      below = gives.below;
      value = λ bits v c w runs t y m.
          gives.value (bit_at bits) v runs ∙ sym (no_kind k other (is_true y) (is_fresh (over a bits (Ok c) w) f y));
    }

-- the state that is asked for is this one
pub kind_of : (a : Around) (ns : List Node) (f : From) (x : Val) (k j : State) (g : ℕ) → k ≡ j → ShowsOf a ns x (λ o c. same_state j (kind o f c)) g
    → ShowsOf a ns x (λ o c. same_state k (kind o f c)) g
kind_of a ns f x k j g e s = subst (λ (l : State). ShowsOf a ns x (λ o c. same_state l (kind o f c)) g) (sym e) s

nil_is_other : IsNoFate state.Nil
nil_is_other true escaped = refl
nil_is_other false true = refl
nil_is_other false false = refl

at_is_other : (m : ℕ) → IsNoFate (state.At m)
at_is_other m true escaped = refl
at_is_other m false true = refl
at_is_other m false false = refl

bad_is_other : IsNoFate state.Bad
bad_is_other true escaped = refl
bad_is_other false true = refl
bad_is_other false false = refl

null_is_other : IsNoFate state.Null
null_is_other true escaped = refl
null_is_other false true = refl
null_is_other false false = refl

fresh_is_other : IsNoFate state.Fresh
fresh_is_other true escaped = refl
fresh_is_other false true = refl
fresh_is_other false false = refl

other_is_other : IsNoFate state.Other
other_is_other true escaped = refl
other_is_other false true = refl
other_is_other false false = refl

same_is_other : IsNoFate state.Same
same_is_other true escaped = refl
same_is_other false true = refl
same_is_other false false = refl

abbrev IsOtherFate : State → Type 0
IsOtherFate k =
    (k ≡ state.Nil) ⊎ (((m : ℕ) × (k ≡ state.At m)) ⊎ ((k ≡ state.Bad)
    ⊎ ((k ≡ state.Null) ⊎ ((k ≡ state.Fresh) ⊎ ((k ≡ state.Other) ⊎ (k ≡ state.Same))))))

no_fate : (k : State) → IsOtherFate k → IsNoFate k
no_fate k (inl e) = subst (λ (x : State). IsNoFate x) (sym e) nil_is_other
no_fate k (inr (inl (m, e))) = subst (λ (x : State). IsNoFate x) (sym e) (at_is_other m)
no_fate k (inr (inr (inl e))) = subst (λ (x : State). IsNoFate x) (sym e) bad_is_other
no_fate k (inr (inr (inr (inl e)))) = subst (λ (x : State). IsNoFate x) (sym e) null_is_other
no_fate k (inr (inr (inr (inr (inl e))))) = subst (λ (x : State). IsNoFate x) (sym e) fresh_is_other
no_fate k (inr (inr (inr (inr (inr (inl e)))))) = subst (λ (x : State). IsNoFate x) (sym e) other_is_other
no_fate k (inr (inr (inr (inr (inr (inr e)))))) = subst (λ (x : State). IsNoFate x) (sym e) same_is_other

pub other_fate_shown : (a : Around) (ns : List Node) (k : State) (n g : ℕ) → IsOtherFate k → Gives ns g (λ choice v. false)
    → ShowsAtExit a ns (λ o. same_state k (fate o n)) g
unfolding fate
other_fate_shown a ns k n g other gives =
    record {
      below = gives.below;
      value = λ bits v c w runs t.
          (let o = over a bits (Ok c) w in
          gives.value (bit_at bits) v runs ∙ sym (no_fate k other (has o flag.Freed n) (shows.is_escaped o n)));
    }

pub fate_of : (a : Around) (ns : List Node) (k j : State) (n g : ℕ) → k ≡ j → ShowsAtExit a ns (λ o. same_state j (fate o n)) g
    → ShowsAtExit a ns (λ o. same_state k (fate o n)) g
fate_of a ns k j n g e s = subst (λ (l : State). ShowsAtExit a ns (λ o. same_state l (fate o n)) g) (sym e) s

-- Values that are fresh.

pub word_fresh : (a : Around) (ns : List Node) (f : From) (word : Word) (g : ℕ) → Gives ns g (λ choice v. false)
    → ShowsOf a ns (val.Word word) (λ o c. is_fresh o f c) g
unfolding is_fresh
word_fresh a ns f word g gives = val_of_word a ns word (λ o t. is_fresh_at o f t) g (λ o. refl) gives

pub unit_fresh : (a : Around) (ns : List Node) (f : From) (g : ℕ) → Gives ns g (λ choice v. false) → ShowsOf a ns val.Unit (λ o c. is_fresh o f c) g
unfolding is_fresh
unit_fresh a ns f g gives = val_of_unit a ns (λ o t. is_fresh_at o f t) g (λ o. refl) gives

pub set_fresh : (a : Around) (ns : List Node) (f : From) (s : Set) (g : ℕ) → ShowsSet a ns s.pairs.items (λ o t. is_fresh_at o f t) g
    → ShowsOf a ns (val.Set s) (λ o c. is_fresh o f c) g
unfolding is_fresh
set_fresh a ns f s g shown = val_of_set a ns s (λ o t. is_fresh_at o f t) g shown

-- Targets.

pub null_target : (a : Around) (ns : List Node) (f : From) (t g : ℕ) → t ≡ 0 → Gives ns g (λ choice v. false) → ShowsAtExit a ns (λ o. is_fresh_at o f t) g
null_target a ns f t g e gives =
    record {
      below = gives.below;
      value = λ bits v c w runs told. gives.value (bit_at bits) v runs ∙ sym (ap (is_fresh_at (over a bits (Ok c) w) f) e);
    }

pub target_shown : (a : Around) (ns : List Node) (f : From) (t at g : ℕ) → t ≡ suc at
    → ShowsAtExit a ns (λ o. is_own_object o at && not (is_reached o f at)) g → ShowsAtExit a ns (λ o. is_fresh_at o f t) g
target_shown a ns f t at g e s =
    record {
      below = s.below;
      value = λ bits v c w runs told.
          s.value bits v c w runs told ∙ sym (ap (is_fresh_at (over a bits (Ok c) w) f) e);
    }
