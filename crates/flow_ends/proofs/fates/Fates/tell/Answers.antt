use Rattle.std.proofs.Common.{◌&&◌, ◌||◌, List, length, refl, sym, subst, ap, ◌∙◌, arith, ◌<◌, ◌≤◌}
use Rattle.std.proofs.lemmas.List.{with_items_is}
use Rattle.bit_net.specs.declared.nodes.Gate.{Gate}
use Rattle.gate_runs.specs.Stands.{told, gates_top}
use Rattle.run_store.specs.Concrete.{flag_at}
use Rattle.run_store.specs.declared.Flag.TheVariants as flag
use Rattle.flow_ends.specs.Fates.{ends_now}
use Rattle.flow_ends.specs.Noted.{NotesAll}
use Rattle.flow_ends.proofs.Noting.{ends_before, none_noted, not_stopped, step_noted, stopped_is_over}
use Rattle.flow_ends.proofs.Telling.{nothing_told, nothing_over}
use Rattle.flow_ends.proofs.fates.Fates.tell.Goals as goal

pub returns-then-is_never-clause-ok : goal.returns-then-is_never-clause-ok
returns-then-is_never-clause-ok c = record {
  holds = λ choice v r.
      (let none = sym (c.in_ok-now.ensures.ok.value choice v r) ∙ (c.is_never.ensures.never c.if-is_never.true).holds choice v r in
      record {
        over = nothing_over _ _ none;
        bads = λ l low. nothing_told _ _ _ none;
        touched = λ ps m l low. nothing_told _ _ _ none;
        untouched = λ e l low. refl;
      });
}

pub returns-clause-fates : goal.returns-clause-fates
returns-clause-fates c =
    let old = c.args.self.now in
    let stored = c.args.store.now.locations.items in
    let ts = c.note_all.new.touched in
    let ns = c.note_all.new.noted in
    let bads_is = with_items_is old.bads c.also_each.new.gates (c.also_each.ensures.len ∙ c.as_mut_slice.ensures.len) in
    let touched_is = with_items_is old.touched ts (c.note_all.ensures.touched ∙ c.as_mut_slice-2.ensures.len) in
    let noted_is = with_items_is old.noted ns (c.note_all.ensures.noted ∙ c.as_mut_slice-3.ensures.len) in
    let g2 = c.in_ok-note_all.ensures.grown.longer in
    let g3 = c.in_ok-self.ensures.grown.longer in
    let g4 = c.in_ok-self-2.ensures.grown.longer in
    record {
      over = omega (arith, c.in_ok-self.ensures.ok.below, g4);
      bads = subst (λ (gs : List Gate). gates_top gs ≤ length c.or-2.new.self) (sym bads_is) (omega (arith, c.in_ok-also_each.ensures.top, g2, g3, g4));
      stopped = c.in_ok-self-2.ensures.ok.below;
      touched = subst (λ (gs : List Gate). gates_top gs ≤ length c.or-2.new.self) (sym touched_is) (omega (arith, c.in_ok-note_all.ensures.tops.0, g3, g4));
      noted = subst (λ (gs : List Gate). gates_top gs ≤ length c.or-2.new.self) (sym noted_is) (omega (arith, c.in_ok-note_all.ensures.tops.1, g3, g4));
      each_bad = ap length bads_is ∙ (c.also_each.ensures.len ∙ (ap length c.as_mut_slice.ensures.value ∙ c.requires.fates.each_bad));
      each_touched = ap length touched_is ∙ (c.note_all.ensures.touched ∙ (ap length c.as_mut_slice-2.ensures.value ∙ c.requires.fates.each_touched));
      each_noted = ap length noted_is ∙ (c.note_all.ensures.noted ∙ (ap length c.as_mut_slice-3.ensures.value ∙ c.requires.fates.each_noted));
      are_noted = record {
        holds = λ choice v r.
            (let r3 = c.in_ok-self-2.ensures.grown.runs choice v r in
            let r2 = c.in_ok-self.ensures.grown.runs choice v r3 in
            let r1 = c.in_ok-note_all.ensures.grown.runs choice v r2 in
            let r0 = c.in_ok-also_each.ensures.grown.runs choice v r1 in
            let are = c.requires.fates.are_noted.holds choice v (c.in_ok-now.ensures.grown.runs choice v r0) in
            let notes : NotesAll v old.stopped.at stored old.touched.items old.noted.items ts ns =
            subst (λ (gs : List Gate). NotesAll v old.stopped.at stored old.touched.items gs ts ns) c.as_mut_slice-3.ensures.value
            (subst (λ (gs : List Gate). NotesAll v old.stopped.at stored gs c.as_mut_slice-3.result.now ts ns) c.as_mut_slice-2.ensures.value
            (c.in_ok-note_all.ensures.ok.holds choice v r2)) in
            let stopped = c.in_ok-self-2.ensures.ok.value choice v r in
            record {
              over = λ is.
                  c.in_ok-self.ensures.ok.value choice v r3
                  ∙ stopped_is_over (v old.stopped.at) (v old.over.at) (v c.in_ok-now.now.at) are.over (sym stopped ∙ is);
              noted = λ off l.
                  (let was = not_stopped (v old.stopped.at) (v c.in_ok-now.now.at) (sym stopped ∙ off) in
                  ap (λ gs. told v gs l) touched_is ∙ (notes.same was (are.noted was) l ∙ sym (ap (λ gs. told v gs l) noted_is)));
            });
      };
    }

pub returns-clause-ok : goal.returns-clause-ok
returns-clause-ok c =
    let old = c.args.self.now in
    let stored = c.args.store.now.locations.items in
    let ts = c.note_all.new.touched in
    let ns = c.note_all.new.noted in
    let bads_is = with_items_is old.bads c.also_each.new.gates (c.also_each.ensures.len ∙ c.as_mut_slice.ensures.len) in
    let touched_is = with_items_is old.touched ts (c.note_all.ensures.touched ∙ c.as_mut_slice-2.ensures.len) in
    record {
      holds = λ choice v r.
          (let r3 = c.in_ok-self-2.ensures.grown.runs choice v r in
          let r2 = c.in_ok-self.ensures.grown.runs choice v r3 in
          let r1 = c.in_ok-note_all.ensures.grown.runs choice v r2 in
          let r0 = c.in_ok-also_each.ensures.grown.runs choice v r1 in
          let now = c.in_ok-now.ensures.ok.value choice v r0 in
          let are = c.requires.fates.are_noted.holds choice v (c.in_ok-now.ensures.grown.runs choice v r0) in
          let notes : NotesAll v old.stopped.at stored old.touched.items old.noted.items ts ns =
          subst (λ (gs : List Gate). NotesAll v old.stopped.at stored old.touched.items gs ts ns) c.as_mut_slice-3.ensures.value
          (subst (λ (gs : List Gate). NotesAll v old.stopped.at stored gs c.as_mut_slice-3.result.now ts ns) c.as_mut_slice-2.ensures.value
          (c.in_ok-note_all.ensures.ok.holds choice v r2)) in
          let stopped = c.in_ok-self-2.ensures.ok.value choice v r in
          record {
            over = c.in_ok-self.ensures.ok.value choice v r3 ∙ ap (λ b. v old.over.at || b) now;
            bads = λ l low.
                ap (λ gs. told v gs l) bads_is
                ∙ (c.in_ok-also_each.ensures.ok.holds choice v r1 l (subst (λ (gs : List Gate). l < length gs) (sym c.as_mut_slice.ensures.value) low)
                ∙ (ap (λ gs. told v gs l || (v c.in_ok-now.now.at && told v c.as_slice.result.now l)) c.as_mut_slice.ensures.value
                ∙ (ap (λ b. told v old.bads.items l || (b && told v c.as_slice.result.now l)) now
                ∙ ap (λ gs. told v old.bads.items l || (ends_now (v old.over.at) (v c.args.on.at) (v c.args.ends.now.live.at) && told v gs l)) c.as_slice.ensures.value)));
            touched = λ ps m l low.
                ap (λ gs. v c.in_ok-self-2.field-0.at && told v gs l) touched_is
                ∙ (ap (λ b. b && told v ts l) stopped
                ∙ (step_noted (v old.stopped.at) (v old.over.at) (v c.in_ok-now.now.at) (told v old.touched.items l) (told v ts l) (flag_at ps l flag.Touched)
                are.over (λ is. ends_before (v old.over.at) (v c.args.on.at) (v c.args.ends.now.live.at) (sym now ∙ is)) (λ on. notes.stays on l)
                (λ off. notes.same off (are.noted off) l ∙ notes.noted ps m l low)
                ∙ ap (λ b. (v old.stopped.at && told v old.touched.items l) || (b && flag_at ps l flag.Touched)) now));
            untouched = λ none l low.
                ap (λ gs. v c.in_ok-self-2.field-0.at && told v gs l) touched_is
                ∙ (ap (λ b. b && told v ts l) stopped
                ∙ none_noted (v old.stopped.at) (v c.in_ok-now.now.at) (told v old.touched.items l) (told v ts l) (now ∙ none) (λ on. notes.stays on l));
          });
    }
