-- Kinds of pointers at the function's end.
use Rattle.std.proofs.Common.{◌≡◌, ℕ, zero, suc, ◌<◌, ◌≤◌, nat_eq, Bool, true, false, not, ◌&&◌, ◌||◌, List, [], ◌∷◌, length, refl, sym, ◌∙◌, ap, subst, arith}
use Rattle.std.specs.Prelude.{Ok, slice_index_or, if◌then◌else◌}
use Rattle.std.proofs.lemmas.Bool.{true≢false, eqb-true}
use Rattle.bit_net.specs.declared.nodes.Node.{Node}
use Rattle.bit_net.specs.Runs.{Grown, Gives}
use Rattle.gl_store.specs.declared.values.Val.TheVariants as val
use Rattle.gl_store.specs.declared.stores.Location.{Location as Guarded}
use Rattle.gl_store.specs.Meets.{Meets, MeetsAll, locations_top, val_top}
use Rattle.run_store.specs.declared.Flag.TheVariants as flag
use Rattle.run_store.specs.Concrete.{Cell, Nothing, Place, nth_cell}
use Rattle.sum_rows.specs.declared.row.State.{State}
use Rattle.sum_rows.specs.declared.row.State.TheVariants as state
use Rattle.sc_world.specs.Known.{same_state}
use Rattle.sc_world.specs.Layout.{location}
use Rattle.sc_world.specs.Tree.{is_pointer}
use Rattle.sc_world.specs.World.{bit_at, is_true, target_of}
use Rattle.sc_world.specs.Shows as shows
use Rattle.sc_world.specs.Shows.{Over, has, is_among, is_among_if, is_own, is_own_at, object_of, reached, root_at, root_if}
use Rattle.run_world.specs.Seen.{env}
use Rattle.fn_facts.specs.declared.around.Around.{Around}
use Rattle.fn_facts.specs.Seen.{over}
use Rattle.fn_facts.specs.Showing.{ShowsAtExit}
use Rattle.fn_walks.specs.declared.roots.From.{From}
use Rattle.fn_walks.specs.Seen.{is_fresh, is_fresh_at, is_own_object, is_reached, kind, roots}
use Rattle.fn_walks.specs.Walks.{ShowsCell, ShowsOf}
use Rattle.fn_questions.specs.Seen.{cell_from, is_nil, is_same, is_set, kind_of_cell, out_fate, result_from, result_kind}

-- A pointer to an own object points to the whole of it, so its location is the object.

own_whole : (o : Over) (ns : List ℕ) (at : ℕ)
    → (is_own_at o (suc at) && not (is_among ns at)) ≡ (is_own_at o (suc at) && not (is_among ns (root_at o at)))
own_whole o ns at = by (nat_eq (root_at o at) at) refl
  where
    kept : Bool
    kept = has o flag.Allocated at && (not (has o flag.Freed at) && not (has o flag.Escaped at))

    by : (b : Bool) → nat_eq (root_at o at) at ≡ b
        → (is_own_at o (suc at) && not (is_among ns at)) ≡ (is_own_at o (suc at) && not (is_among ns (root_at o at)))
    by true e = ap (λ k. is_own_at o (suc at) && not (is_among ns k)) (sym (eqb-true (root_at o at) at e))
    by false e =
        ap (λ b. (b && kept) && not (is_among ns at)) e ∙ sym (ap (λ b. (b && kept) && not (is_among ns (root_at o at))) e)

fresh_target : (o : Over) (f : From) (target : ℕ)
    → is_fresh_at o f target ≡ (is_own_at o target && not (is_among_if (reached o (roots o f)) (root_if o target)))
unfolding is_own_object is_reached
fresh_target o f zero = refl
fresh_target o f (suc at) = own_whole o (reached o (roots o f)) at

-- the kind of a pointer beside walks that begin somewhere
kind_beside : Over → List ℕ → Cell → State
kind_beside o ns c =
    if not (is_true c) then state.Null else (if is_own o c && not (is_among_if (reached o ns) (object_of o c)) then state.Fresh else state.Other)

kind_is_beside : (o : Over) (f : From) (c : Cell) → kind o f c ≡ kind_beside o (roots o f) c
unfolding kind is_fresh kind_beside
kind_is_beside o f c =
    ap (λ b. if not (is_true c) then state.Null else (if b then state.Fresh else state.Other)) (fresh_target o f (target_of c))

-- The result.

kind_of_result : (o : Over) (f : From) → f ≡ result_from → is_pointer o.source.result ≡ true
    → kind o f (shows.result_cell o.ended) ≡ result_kind o
unfolding kind_beside result_kind roots
kind_of_result o f from pointer =
    ap (λ g. kind o g (shows.result_cell o.ended)) from
    ∙ (kind_is_beside o result_from (shows.result_cell o.ended)
    ∙ sym (ap (λ b. if b then shows.kind_of_result o (shows.result_cell o.ended) else state.Nil) pointer))

pub result_kind_shown : (a : Around) (ns : List Node) (f : From) (x : State) (g : ℕ) → f ≡ result_from → is_pointer (env a.here).source.result ≡ true
    → ShowsOf a ns a.encoded.now.result (λ o c. same_state x (kind o f c)) g → ShowsAtExit a ns (λ o. same_state x (result_kind o)) g
result_kind_shown a ns f x g from pointer s =
    record {
      below = s.below;
      value = λ bits v c w runs t.
          (let o = over a bits (Ok c) w in
          s.value bits v c w runs t c t.tells.2 ∙ ap (same_state x) (kind_of_result o f from pointer));
    }

pub no_result_shown : (a : Around) (ns : List Node) (x : State) (b : Bool) (g : ℕ) → is_pointer (env a.here).source.result ≡ false → b ≡ is_nil x
    → Gives ns g (λ choice v. b) → ShowsAtExit a ns (λ o. same_state x (result_kind o)) g
unfolding result_kind
no_result_shown a ns x b g none is made =
    record {
      below = made.below;
      value = λ bits v c w runs t.
          (let o = over a bits (Ok c) w in
          made.value (bit_at bits) v runs
          ∙ (is ∙ sym (ap (λ p. same_state x (if p then shows.kind_of_result o c else state.Nil)) none)));
    }

-- The cell of a location.

kind_of_cell_is : (o : Over) (f : From) (at : ℕ) → f ≡ cell_from at → kind o f (shows.cell_now o at) ≡ kind_of_cell o at
unfolding kind_beside kind_of_cell roots
kind_of_cell_is o f at from = ap (λ g. kind o g (shows.cell_now o at)) from ∙ kind_is_beside o (cell_from at) (shows.cell_now o at)

met_there : (ls : List Guarded) (d : Guarded) (v : ℕ → Bool) (ps : List Place) (k : ℕ) → k < length ls → MeetsAll v ls ps
    → Meets v (slice_index_or ls k d).val (nth_cell ps k)
met_there [] d v ps k low m = absurd (omega (arith, low))
met_there (x ∷ xs) d v [] k low m = absurd m
met_there (x ∷ xs) d v (p ∷ ps) zero low m = m.0.cell
met_there (x ∷ xs) d v (p ∷ ps) (suc k) low m = met_there xs d v ps k (omega (arith, low)) m.1

no_cell : (ls : List Guarded) (v : ℕ → Bool) (ps : List Place) (k : ℕ) → length ls ≤ k → MeetsAll v ls ps → nth_cell ps k ≡ Nothing
no_cell [] v [] k high m = refl
no_cell [] v (p ∷ ps) k high m = absurd m
no_cell (x ∷ xs) v [] k high m = absurd m
no_cell (x ∷ xs) v (p ∷ ps) zero high m = absurd (omega (arith, high))
no_cell (x ∷ xs) v (p ∷ ps) (suc k) high m = no_cell xs v ps k (omega (arith, high)) m.1

pub val_below : (ls : List Guarded) (k n : ℕ) (d : Guarded) → k < length ls → locations_top ls ≤ n → val_top (slice_index_or ls k d).val ≤ n
unfolding locations_top
val_below [] k n d low h = absurd (omega (arith, low))
val_below (x ∷ xs) zero n d low h = omega (arith, h)
val_below (x ∷ xs) (suc k) n d low h = val_below xs k n d (omega (arith, low)) (omega (arith, h))

pub stored_kind_shown : (a : Around) (ns : List Node) (ls : List Guarded) (f : From) (x : State) (at g : ℕ) (d : Guarded) → at < length ls
    → ShowsOf a ns (slice_index_or ls at d).val (λ o c. same_state x (kind o f c)) g
    → ShowsCell a ns ls at (λ o c. same_state x (kind o f c)) g
stored_kind_shown a ns ls f x at g d low s =
    record {
      below = s.below;
      value = λ bits v c w runs t ps m. s.value bits v c w runs t (nth_cell ps at) (met_there ls d v ps at low m);
    }

pub past_kind_shown : (a : Around) (ns : List Node) (ls : List Guarded) (f : From) (x : State) (at g : ℕ) → length ls ≤ at
    → ShowsOf a ns val.Unit (λ o c. same_state x (kind o f c)) g → ShowsCell a ns ls at (λ o c. same_state x (kind o f c)) g
past_kind_shown a ns ls f x at g high s =
    record {
      below = s.below;
      value = λ bits v c w runs t ps m.
          s.value bits v c w runs t (nth_cell ps at) (subst (λ y. Meets v val.Unit y) (sym (no_cell ls v ps at high m)) tt);
    }

pub cell_kind_shown : (a : Around) (ns : List Node) (f : From) (x : State) (at g : ℕ) → f ≡ cell_from at
    → ShowsCell a ns a.encoded.now.store.locations.items at (λ o c. same_state x (kind o f c)) g
    → ShowsAtExit a ns (λ o. same_state x (kind_of_cell o at)) g
cell_kind_shown a ns f x at g from s =
    record {
      below = s.below;
      value = λ bits v c w runs t.
          (let o = over a bits (Ok c) w in s.value bits v c w runs t w.places t.tells.1 ∙ ap (same_state x) (kind_of_cell_is o f at from));
    }

-- What became of a pointer that the caller gave a pointer to.

pub set_shown : (a : Around) (n1 n2 ns : List Node) (at root freed there written g : ℕ) → root ≡ (location (env a.here).layout at).root
    → Grown n1 n2 → Grown n2 ns → ShowsAtExit a n1 (λ o. has o flag.Freed root) freed → Gives n2 there (λ choice v. not (v freed))
    → ShowsAtExit a n2 (λ o. has o flag.Written at) written → Gives ns g (λ choice v. v written && v there) → ShowsAtExit a ns (λ o. is_set o at) g
unfolding is_set
set_shown a n1 n2 ns at root freed there written g is g1 g2 sf gt sw gives =
    record {
      below = gives.below;
      value = λ bits v c w runs t.
          (let o = over a bits (Ok c) w in
          let r2 = g2.runs (bit_at bits) v runs in
          let r1 = g1.runs (bit_at bits) v r2 in
          gives.value (bit_at bits) v runs
          ∙ (ap (λ b. b && v there) (sw.value bits v c w r2 t)
          ∙ ap (λ b. has o flag.Written at && b)
          (gt.value (bit_at bits) v r2 ∙ (ap not (sf.value bits v c w r1 t) ∙ ap (λ k. not (has o flag.Freed k)) is))));
    }

-- a kind of a pointer is never that of a cell which was not written
same_is_no_kind : (x : State) (some own : Bool) → is_same x ≡ true
    → same_state x (if not some then state.Null else (if own then state.Fresh else state.Other)) ≡ false
same_is_no_kind state.Same true true e = refl
same_is_no_kind state.Same true false e = refl
same_is_no_kind state.Same false own e = refl
same_is_no_kind _ some own e = absurd (true≢false (sym e))

same_kept : (x k : State) (written freed : Bool) → is_same x ≡ true → same_state x k ≡ false
    → not (written && not freed) ≡ same_state x (if not written || freed then state.Same else k)
same_kept x k true true e none = sym e
same_kept x k true false e none = sym none
same_kept x k false freed e none = sym e

other_kept : (x k : State) (written freed : Bool) → is_same x ≡ false
    → ((written && not freed) && same_state x k) ≡ same_state x (if not written || freed then state.Same else k)
other_kept x k true true e = sym e
other_kept x k true false e = refl
other_kept x k false freed e = sym e

kept_is : (o : Over) (x : State) (at : ℕ) → is_same x ≡ true → not (is_set o at) ≡ same_state x (out_fate o at)
unfolding is_set out_fate
kept_is o x at e =
    let c = shows.cell_now o at in
    same_kept x (shows.kind_of_cell o at c) (has o flag.Written at) (has o flag.Freed (root_at o at)) e
    (same_is_no_kind x (is_true c) (is_own o c && not (is_among_if (reached o (shows.others_hold o at)) (object_of o c))) e)

changed_is : (o : Over) (x : State) (at : ℕ) → is_same x ≡ false → (is_set o at && same_state x (kind_of_cell o at)) ≡ same_state x (out_fate o at)
unfolding is_set kind_of_cell out_fate
changed_is o x at e =
    other_kept x (shows.kind_of_cell o at (shows.cell_now o at)) (has o flag.Written at) (has o flag.Freed (root_at o at)) e

pub not_set_shown : (a : Around) (n1 ns : List Node) (at set g : ℕ) → Grown n1 ns → ShowsAtExit a n1 (λ o. is_set o at) set
    → Gives ns g (λ choice v. not (v set)) → ShowsAtExit a ns (λ o. not (is_set o at)) g
not_set_shown a n1 ns at set g g1 s gives =
    record {
      below = gives.below;
      value = λ bits v c w runs t. gives.value (bit_at bits) v runs ∙ ap not (s.value bits v c w (g1.runs (bit_at bits) v runs) t);
    }

pub kept_shown : (a : Around) (ns : List Node) (x : State) (at g : ℕ) → is_same x ≡ true → ShowsAtExit a ns (λ o. not (is_set o at)) g
    → ShowsAtExit a ns (λ o. same_state x (out_fate o at)) g
kept_shown a ns x at g e s =
    record { below = s.below; value = λ bits v c w runs t. s.value bits v c w runs t ∙ kept_is (over a bits (Ok c) w) x at e }

pub changed_shown : (a : Around) (n1 n2 ns : List Node) (x : State) (at kind set g : ℕ) → is_same x ≡ false → Grown n1 n2 → Grown n2 ns
    → ShowsAtExit a n1 (λ o. same_state x (kind_of_cell o at)) kind → ShowsAtExit a n2 (λ o. is_set o at) set
    → Gives ns g (λ choice v. v set && v kind) → ShowsAtExit a ns (λ o. same_state x (out_fate o at)) g
changed_shown a n1 n2 ns x at kind set g e g1 g2 sk ss gives =
    record {
      below = gives.below;
      value = λ bits v c w runs t.
          (let o = over a bits (Ok c) w in
          let r2 = g2.runs (bit_at bits) v runs in
          let r1 = g1.runs (bit_at bits) v r2 in
          gives.value (bit_at bits) v runs
          ∙ (ap (λ b. b && v kind) (ss.value bits v c w r2 t) ∙ (ap (λ b. is_set o at && b) (sk.value bits v c w r1 t) ∙ changed_is o x at e)));
    }
