use Rattle.std.proofs.Common.{◌≡◌, ℕ, Bool, ◌&&◌, ◌||◌, nat_eq, cond, refl, sym, ap, ◌∙◌}
use Rattle.std.specs.Vec.{with_items}
use Rattle.std.proofs.lemmas.List.{with_items_is}
use Rattle.gate_runs.specs.declared.ends.Ends.{Ends}
use Rattle.sc_world.specs.World.{Aside}
use Rattle.gate_runs.specs.Stands.{told}
use Rattle.gate_runs.proofs.Ending.{put_or, or_false, ended}
use Rattle.gate_runs.proofs.ends.Ends.end_where.Goals as goal

pub returns-clause-ok : goal.returns-clause-ok
returns-clause-ok c =
    record {
      does = λ choice v runs.
          let r2 = c.in_ok-live.ensures.grown.runs choice v runs in
          let r1 = c.in_ok-still.ensures.grown.runs choice v r2 in
          let r0 = c.in_ok-told.ensures.grown.runs choice v r1 in
          let old = c.args.self.now in
          let f : ℕ → Bool = (λ i. told v old.asides.items i) in
          let new : Ends = record { live = c.in_ok-live.live; asides = with_items c.args.self.now.asides c.set_gate.new.gates; bads = c.args.self.now.bads } in
          let over : Bool = v old.live.at && v c.args.when.at in
          let k = c.number-k.result in
          let told_there : v c.in_ok-told.told.at ≡ f k || over =
          c.in_ok-told.ensures.ok.value choice v r1
          ∙ ap (λ b. b || v c.in_ok-over.over.at) (c.gate_in.ensures.told v ∙ ap (λ gs. told v gs k) c.as_slice.ensures.value)
          ∙ ap (λ b. f k || b) (c.in_ok-over.ensures.ok.value choice v r0) in
          ended v c.args.when.at (Aside c.args.reason) old new
          (record {
            live = c.in_ok-live.ensures.ok.value choice v runs ∙ ap (λ b. v old.live.at && b) (c.in_ok-still.ensures.ok.value choice v r2);
            asides = λ j.
                ap (λ gs. told v gs j) (with_items_is old.asides c.set_gate.new.gates (c.set_gate.ensures.len ∙ c.as_mut_slice.ensures.len))
                ∙ c.set_gate.ensures.told v j
                ∙ ap (λ gs. cond (nat_eq k j) (v c.in_ok-told.told.at) (told v gs j)) c.as_mut_slice.ensures.value
                ∙ ap (λ b. cond (nat_eq k j) b (f j)) told_there
                ∙ put_or f k j over (nat_eq k j) refl
                ∙ ap (λ i. f j || (nat_eq i j && over)) c.number-k.ensures.is;
            bads = λ j. sym (or_false (told v old.bads.items j));
            len = refl;
          });
    }
