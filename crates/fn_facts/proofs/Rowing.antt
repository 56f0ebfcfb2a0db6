-- Rows of locations.
use Rattle.std.proofs.Common.{◌≡◌, ℕ, nat_eq, Bool, true, false, ◌&&◌, ◌||◌, List, refl, sym, ◌∙◌, ap}
use Rattle.std.specs.Prelude.{Result, Ok, Err}
use Rattle.bit_net.specs.declared.nodes.Gate.{Gate}
use Rattle.bit_net.specs.declared.nodes.Node.{Node}
use Rattle.bit_net.specs.Runs.{Runs, Grown, Gives}
use Rattle.bit_words.specs.Number.{number}
use Rattle.run_store.specs.Concrete.{Cell}
use Rattle.sum_rows.specs.declared.row.Row.{Row}
use Rattle.sum_rows.specs.declared.row.State.{State}
use Rattle.sum_rows.specs.declared.row.State.TheVariants as state
use Rattle.sum_rows.specs.declared.row.Gives.TheVariants as gives
use Rattle.sc_world.specs.Known.{same_state, same_gives}
use Rattle.sc_world.specs.World.{World, Ended, bit_at}
use Rattle.sc_world.specs.Shows as shows
use Rattle.sc_world.specs.Shows.{Over, exits, errs_at, has_lock_row, result}
use Rattle.fn_facts.specs.declared.around.Around.{Around}
use Rattle.fn_facts.specs.Seen.{over, given, state_before, state_now, is_met, begins, ends_so, is_bad_row}
use Rattle.fn_facts.specs.Showing.{Fact, Shows, ShowsAtExit, ShowsNumber, ShowsNumberAtExit, Told}

-- a number that is compared, and a state
pub number_compared : (a : Around) (old ns : List Node) (of : Over → ℕ) (word : List Gate) (n g : ℕ) → Grown old ns → ShowsNumber a old of word
    → Gives ns g (λ choice v. nat_eq n (number v word)) → Shows a ns (λ o. nat_eq n (of o)) g
number_compared a old ns of word n g grown s gives =
    record {
      below = gives.below;
      value = λ bits v r w runs t.
          gives.value (bit_at bits) v runs ∙ ap (nat_eq n) (s.value bits v r w (grown.runs (bit_at bits) v runs) t);
    }

pub state_compared : (a : Around) (old ns : List Node) (of : Over → ℕ) (word : List Gate) (x : State) (g : ℕ) → Grown old ns → ShowsNumber a old of word
    → Gives ns g (λ choice v. same_state x (state.At (number v word))) → Shows a ns (λ o. same_state x (state.At (of o))) g
state_compared a old ns of word x g grown s gives =
    record {
      below = gives.below;
      value = λ bits v r w runs t.
          gives.value (bit_at bits) v runs
          ∙ ap (λ n. same_state x (state.At n)) (s.value bits v r w (grown.runs (bit_at bits) v runs) t);
    }

pub state_compared_at_exit : (a : Around) (old ns : List Node) (of : Over → ℕ) (word : List Gate) (x : State) (g : ℕ) → Grown old ns
    → ShowsNumberAtExit a old of word → Gives ns g (λ choice v. same_state x (state.At (number v word)))
    → ShowsAtExit a ns (λ o. same_state x (state.At (of o))) g
state_compared_at_exit a old ns of word x g grown s gives =
    record {
      below = gives.below;
      value = λ bits v c w runs t.
          gives.value (bit_at bits) v runs
          ∙ ap (λ n. same_state x (state.At n)) (s.value bits v c w (grown.runs (bit_at bits) v runs) t);
    }

-- facts that are joined
pub and_shown : (a : Around) (n1 n2 ns : List Node) (f h : Fact) (x y g : ℕ) → Grown n1 ns → Grown n2 ns → Shows a n1 f x → Shows a n2 h y
    → Gives ns g (λ choice v. v x && v y) → Shows a ns (λ o. f o && h o) g
and_shown a n1 n2 ns f h x y g g1 g2 sx sy gives =
    record {
      below = gives.below;
      value = λ bits v r w runs t.
          gives.value (bit_at bits) v runs
          ∙ (ap (λ b. b && v y) (sx.value bits v r w (g1.runs (bit_at bits) v runs) t)
          ∙ ap (λ b. f (over a bits r w) && b) (sy.value bits v r w (g2.runs (bit_at bits) v runs) t));
    }

pub or_shown : (a : Around) (n1 n2 ns : List Node) (f h : Fact) (x y g : ℕ) → Grown n1 ns → Grown n2 ns → Shows a n1 f x → Shows a n2 h y
    → Gives ns g (λ choice v. v x || v y) → Shows a ns (λ o. f o || h o) g
or_shown a n1 n2 ns f h x y g g1 g2 sx sy gives =
    record {
      below = gives.below;
      value = λ bits v r w runs t.
          gives.value (bit_at bits) v runs
          ∙ (ap (λ b. b || v y) (sx.value bits v r w (g1.runs (bit_at bits) v runs) t)
          ∙ ap (λ b. f (over a bits r w) || b) (sy.value bits v r w (g2.runs (bit_at bits) v runs) t));
    }

pub and_shown_at_exit : (a : Around) (n1 n2 ns : List Node) (f h : Fact) (x y g : ℕ) → Grown n1 ns → Grown n2 ns → ShowsAtExit a n1 f x
    → ShowsAtExit a n2 h y → Gives ns g (λ choice v. v x && v y) → ShowsAtExit a ns (λ o. f o && h o) g
and_shown_at_exit a n1 n2 ns f h x y g g1 g2 sx sy gives =
    record {
      below = gives.below;
      value = λ bits v c w runs t.
          gives.value (bit_at bits) v runs
          ∙ (ap (λ b. b && v y) (sx.value bits v c w (g1.runs (bit_at bits) v runs) t)
          ∙ ap (λ b. f (over a bits (Ok c) w) && b) (sy.value bits v c w (g2.runs (bit_at bits) v runs) t));
    }

pub or_shown_at_exit : (a : Around) (n1 n2 ns : List Node) (f h : Fact) (x y g : ℕ) → Grown n1 ns → Grown n2 ns → ShowsAtExit a n1 f x
    → ShowsAtExit a n2 h y → Gives ns g (λ choice v. v x || v y) → ShowsAtExit a ns (λ o. f o || h o) g
or_shown_at_exit a n1 n2 ns f h x y g g1 g2 sx sy gives =
    record {
      below = gives.below;
      value = λ bits v c w runs t.
          gives.value (bit_at bits) v runs
          ∙ (ap (λ b. b || v y) (sx.value bits v c w (g1.runs (bit_at bits) v runs) t)
          ∙ ap (λ b. f (over a bits (Ok c) w) || b) (sy.value bits v c w (g2.runs (bit_at bits) v runs) t));
    }

-- a fact of the end, of a run that comes there
pub exit_part_shown : (a : Around) (n1 n2 ns : List Node) (f : Fact) (x y g : ℕ) → Grown n1 n2 → Grown n2 ns → Shows a n2 exits x
    → ShowsAtExit a n1 f y → Gives ns g (λ choice v. v x && v y) → Shows a ns (λ o. exits o && f o) g
exit_part_shown a n1 n2 ns f x y g g1 g2 sx sy gives =
    record { below = gives.below; value = value }
  where
    value : (bits : List Bool) (v : ℕ → Bool) (r : Result Cell Ended) (w : World) → Runs ns (bit_at bits) v → Told a v bits r w
        → v g ≡ (exits (over a bits r w) && f (over a bits r w))
    value bits v (Ok c) w runs t =
        let before = g2.runs (bit_at bits) v runs in
        gives.value (bit_at bits) v runs
        ∙ (ap (λ b. b && v y) (sx.value bits v (Ok c) w before t) ∙ sy.value bits v c w (g1.runs (bit_at bits) v before) t)
    value bits v (Err e) w runs t =
        gives.value (bit_at bits) v runs ∙ ap (λ b. b && v y) (sx.value bits v (Err e) w (g2.runs (bit_at bits) v runs) t)

-- The row of a location.

pub begins_shown : (a : Around) (ns : List Node) (at g : ℕ) (r : Row)
    → Shows a ns (λ o. is_met o at && (nat_eq r.given (given o) && same_state r.before (state.At (state_before o at)))) g
    → Shows a ns (λ o. begins o at r) g
unfolding begins
begins_shown a ns at g r s = record { below = s.below; value = s.value }

pub ends_shown : (a : Around) (ns : List Node) (at g : ℕ) (r : Row)
    → ShowsAtExit a ns (λ o. same_gives r.result (result o) && same_state r.after (state.At (state_now o at))) g
    → ShowsAtExit a ns (λ o. ends_so o at r) g
unfolding ends_so
ends_shown a ns at g r s = record { below = s.below; value = s.value }

-- an error is none of a row that does not end so
pub no_error_row : (a : Around) (ns : List Node) (at g : ℕ) (r : Row) → is_bad_row r ≡ false → Gives ns g (λ choice v. false)
    → Shows a ns (λ o. errs_at o.ended at && is_bad_row r) g
no_error_row a ns at g r none gives =
    record {
      below = gives.below;
      value = λ bits v s w runs t.
          gives.value (bit_at bits) v runs ∙ sym (ap (λ b. errs_at s at && b) none ∙ never (errs_at s at));
    }
  where
    never : (b : Bool) → (b && false) ≡ false
    never true = refl
    never false = refl

pub error_row : (a : Around) (ns : List Node) (at g : ℕ) (r : Row) → is_bad_row r ≡ true → Shows a ns (λ o. errs_at o.ended at) g
    → Shows a ns (λ o. errs_at o.ended at && is_bad_row r) g
error_row a ns at g r is s =
    record {
      below = s.below;
      value = λ bits v e w runs t. s.value bits v e w runs t ∙ sym (ap (λ b. errs_at e at && b) is ∙ always (errs_at e at));
    }
  where
    always : (b : Bool) → (b && true) ≡ b
    always true = refl
    always false = refl

-- what a row begins with taken out of its two ends
taken_out : (m g b x r a e r' a' : Bool)
    → ((m && (g && b)) && ((x && (r && a)) || (e && (r' && a')))) ≡ (m && ((x && (g && (b && (r && a)))) || (e && (g && (b && (r' && a'))))))
taken_out false g b x r a e r' a' = refl
taken_out true true true x r a e r' a' = refl
taken_out true true false x r a e r' a' = sym (both_false x e)
  where
    both_false : (x e : Bool) → ((x && false) || (e && false)) ≡ false
    both_false true true = refl
    both_false true false = refl
    both_false false true = refl
    both_false false false = refl
taken_out true false b x r a e r' a' = sym (both_false x e)
  where
    both_false : (x e : Bool) → ((x && false) || (e && false)) ≡ false
    both_false true true = refl
    both_false true false = refl
    both_false false true = refl
    both_false false false = refl

lock_row : (o : Over) (at : ℕ) (r : Row)
    → (begins o at r && ((exits o && ends_so o at r) || (errs_at o.ended at && is_bad_row r))) ≡ has_lock_row o at r
unfolding begins ends_so is_bad_row is_met given state_before state_now
lock_row o at r =
    taken_out (shows.is_met o at) (nat_eq r.given (shows.given o)) (same_state r.before (shows.state_before o at)) (exits o)
    (same_gives r.result (result o)) (same_state r.after (shows.state_now o at)) (errs_at o.ended at) (same_gives r.result gives.Nothing)
    (same_state r.after state.Bad)

pub row_shown : (a : Around) (n1 n2 n3 ns : List Node) (at b x e y g : ℕ) (r : Row) → Grown n1 n2 → Grown n2 n3 → Grown n3 ns
    → Shows a n1 (λ o. begins o at r) b → Shows a n2 (λ o. exits o && ends_so o at r) x → Shows a n2 (λ o. errs_at o.ended at && is_bad_row r) e
    → Gives n3 y (λ choice v. v x || v e) → Gives ns g (λ choice v. v b && v y) → Shows a ns (λ o. has_lock_row o at r) g
row_shown a n1 n2 n3 ns at b x e y g r g1 g2 g3 sb sx se gy gives =
    record {
      below = gives.below;
      value = λ bits v s w runs t.
          (let o = over a bits s w in
          let r3 = g3.runs (bit_at bits) v runs in
          let r2 = g2.runs (bit_at bits) v r3 in
          let r1 = g1.runs (bit_at bits) v r2 in
          gives.value (bit_at bits) v runs
          ∙ (ap (λ c. v b && c) (gy.value (bit_at bits) v r3) ∙ (ap (λ c. c && (v x || v e)) (sb.value bits v s w r1 t)
          ∙ (ap (λ c. begins o at r && (c || v e)) (sx.value bits v s w r2 t)
          ∙ (ap (λ c. begins o at r && ((exits o && ends_so o at r) || c)) (se.value bits v s w r2 t) ∙ lock_row o at r)))));
    }
