-- Rows of what became of objects and pointers.
use Rattle.std.proofs.Common.{◌≡◌, ℕ, nat_eq, Bool, true, false, ◌&&◌, ◌||◌, List, refl, sym, ◌∙◌, ap}
use Rattle.std.specs.Prelude.{Ok, if◌then◌else◌}
use Rattle.std.proofs.lemmas.Bool.{and_right}
use Rattle.bit_net.specs.declared.nodes.Gate.{Gate}
use Rattle.bit_net.specs.declared.nodes.Node.{Node}
use Rattle.bit_net.specs.Runs.{Grown, Gives}
use Rattle.bit_words.specs.Number.{number}
use Rattle.run_store.specs.declared.Flag.TheVariants as flag
use Rattle.sum_rows.specs.declared.row.Row.{Row}
use Rattle.sum_rows.specs.declared.row.State.TheVariants as state
use Rattle.sc_world.specs.Known.{same_gives, same_row, same_state}
use Rattle.sc_world.specs.World.{bit_at}
use Rattle.sc_world.specs.Shows as shows
use Rattle.sc_world.specs.Shows.{exits, exit_row, has, is_fate, result}
use Rattle.fn_facts.specs.declared.around.Around.{Around}
use Rattle.fn_facts.specs.Seen.{over, given, is_given}
use Rattle.fn_facts.specs.Showing.{Fact, Shows, ShowsAtExit, ShowsNumber}
use Rattle.fn_walks.specs.Seen.{fate, is_escaped}
use Rattle.fn_questions.specs.Seen.{is_nil, result_kind, row_with}

-- A row whose end is one of the run.

pub other_begin : (a : Around) (ns : List Node) (of : Fact) (r : Row) (g : ℕ) → is_nil r.before ≡ false → Gives ns g (λ choice v. false)
    → ShowsAtExit a ns (λ o. row_with r of o) g
unfolding row_with
other_begin a ns of r g other gives =
    record {
      below = gives.below;
      value = λ bits v c w runs t.
          (let o = over a bits (Ok c) w in
          gives.value (bit_at bits) v runs
          ∙ sym (ap (λ b. nat_eq r.given (given o) && (b && (same_gives r.result (result o) && of o))) other
          ∙ and_right (nat_eq r.given (given o)) false refl));
    }

pub row_shown : (a : Around) (n0 n1 n2 n3 ns : List Node) (of : Fact) (r : Row) (word : List Gate) (end entered gives ends g : ℕ)
    → is_nil r.before ≡ true → Grown n0 n1 → Grown n1 n2 → Grown n2 n3 → Grown n3 ns → ShowsNumber a n0 given word
    → Gives n1 entered (λ choice v. nat_eq r.given (number v word)) → ShowsAtExit a n2 (λ o. same_gives r.result (result o)) gives
    → ShowsAtExit a n0 of end → Gives n3 ends (λ choice v. v gives && v end) → Gives ns g (λ choice v. v entered && v ends)
    → ShowsAtExit a ns (λ o. row_with r of o) g
unfolding row_with
row_shown a n0 n1 n2 n3 ns of r word end entered gives ends g begin g1 g2 g3 g4 sn ge sg se gn gg =
    record {
      below = gg.below;
      value = λ bits v c w runs t.
          (let o = over a bits (Ok c) w in
          let r3 = g4.runs (bit_at bits) v runs in
          let r2 = g3.runs (bit_at bits) v r3 in
          let r1 = g2.runs (bit_at bits) v r2 in
          let r0 = g1.runs (bit_at bits) v r1 in
          gg.value (bit_at bits) v runs
          ∙ (ap (λ b. b && v ends) (ge.value (bit_at bits) v r1 ∙ ap (nat_eq r.given) (sn.value bits v (Ok c) w r0 t))
          ∙ ap (λ b. nat_eq r.given (given o) && b)
          (gn.value (bit_at bits) v r3
          ∙ (ap (λ b. b && v end) (sg.value bits v c w r2 t) ∙ (ap (λ b. same_gives r.result (result o) && b) (se.value bits v c w r0 t)
          ∙ sym (ap (λ b. b && (same_gives r.result (result o) && of o)) begin))))));
    }

-- the row of the end
pub exit_row_shown : (a : Around) (ns : List Node) (r : Row) (g : ℕ)
    → Shows a ns (λ o. exits o && row_with r (λ p. same_state r.after (result_kind p)) o) g → Shows a ns (λ o. exits o && same_row r (exit_row o)) g
unfolding row_with given result_kind
exit_row_shown a ns r g s = record { below = s.below; value = s.value }

-- Objects that the caller gave.

fated : (freed escaped : Bool) → (freed || escaped) ≡ is_fate (if freed then state.Freed else (if escaped then state.Escaped else state.Held))
fated true escaped = refl
fated false true = refl
fated false false = refl

pub fated_shown : (a : Around) (n1 ns : List Node) (n freed escaped g : ℕ) → Grown n1 ns → ShowsAtExit a n1 (λ o. has o flag.Freed n) freed
    → ShowsAtExit a n1 (λ o. is_escaped o n) escaped → Gives ns g (λ choice v. v freed || v escaped)
    → ShowsAtExit a ns (λ o. is_fate (fate o n)) g
unfolding fate is_escaped
fated_shown a n1 ns n freed escaped g g1 sf se gives =
    record {
      below = gives.below;
      value = λ bits v c w runs t.
          (let o = over a bits (Ok c) w in
          let r1 = g1.runs (bit_at bits) v runs in
          gives.value (bit_at bits) v runs
          ∙ (ap (λ b. b || v escaped) (sf.value bits v c w r1 t) ∙ (ap (λ b. has o flag.Freed n || b) (se.value bits v c w r1 t)
          ∙ fated (has o flag.Freed n) (shows.is_escaped o n))));
    }

-- with a parameter that was neither 0 nor null
pub with_param_shown : (a : Around) (n0 n1 ns : List Node) (of : Fact) (n row there g : ℕ) → Grown n0 n1 → Grown n1 ns
    → ShowsAtExit a n0 of row → Shows a n1 (λ o. is_given o n) there → Gives ns g (λ choice v. v there && v row)
    → ShowsAtExit a ns (λ o. is_given o n && of o) g
with_param_shown a n0 n1 ns of n row there g g1 g2 sr st gives =
    record {
      below = gives.below;
      value = λ bits v c w runs t.
          (let o = over a bits (Ok c) w in
          let r1 = g2.runs (bit_at bits) v runs in
          let r0 = g1.runs (bit_at bits) v r1 in
          gives.value (bit_at bits) v runs
          ∙ (ap (λ b. b && v row) (st.value bits v (Ok c) w r1 t) ∙ ap (λ b. is_given o n && b) (sr.value bits v c w r0 t)));
    }
