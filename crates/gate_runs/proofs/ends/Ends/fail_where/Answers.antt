use Rattle.std.proofs.Common.{◌≡◌, ℕ, Bool, ◌&&◌, ◌||◌, nat_eq, cond, length, refl, sym, ap, ◌∙◌}
use Rattle.std.specs.Vec.{with_items}
use Rattle.std.proofs.lemmas.List.{with_items_is}
use Rattle.bit_net.specs.Runs.{Runs}
use Rattle.sc_world.specs.World.{Error, Inner}
use Rattle.gate_runs.specs.declared.ends.Ends.{Ends}
use Rattle.gate_runs.specs.Stands.{told}
use Rattle.gate_runs.proofs.Ending.{put_or, or_false, ended}
use Rattle.gate_runs.proofs.ends.Ends.fail_where.Goals as goal

pub returns-clause-ok : goal.returns-clause-ok
returns-clause-ok c =
    let old = c.args.self.now in
    let new : Ends = record { live = c.in_ok-rest.rest; asides = c.args.self.now.asides; bads = with_items c.args.self.now.bads c.set_gate.new.gates } in
    let k = c.args.at in
    let wide = c.set_gate.ensures.len ∙ c.as_mut_slice.ensures.len in
    let put = with_items_is old.bads c.set_gate.new.gates wide in
    let live = λ (choice v : ℕ → Bool) (runs : Runs _ choice v).
    c.in_ok-rest.ensures.ok.value choice v runs
    ∙ ap (λ b. v old.live.at && b) (c.in_ok-still.ensures.ok.value choice v (c.in_ok-rest.ensures.grown.runs choice v runs)) in
    let bads = λ (choice v : ℕ → Bool) (runs : Runs _ choice v) (j : ℕ).
    let r2 = c.in_ok-rest.ensures.grown.runs choice v runs in
    let r1 = c.in_ok-still.ensures.grown.runs choice v r2 in
    let r0 = c.in_ok-told.ensures.grown.runs choice v r1 in
    let f : ℕ → Bool = (λ i. told v old.bads.items i) in
    let over : Bool = v old.live.at && v c.args.when.at in
    let told_there : v c.in_ok-told.told.at ≡ f k || over =
    c.in_ok-told.ensures.ok.value choice v r1
    ∙ ap (λ b. b || v c.in_ok-failed.failed.at) (c.gate_in.ensures.told v ∙ ap (λ gs. told v gs k) c.as_slice.ensures.value)
    ∙ ap (λ b. f k || b) (c.in_ok-failed.ensures.ok.value choice v r0) in
    ap (λ gs. told v gs j) put
    ∙ c.set_gate.ensures.told v j
    ∙ ap (λ gs. cond (nat_eq k j) (v c.in_ok-told.told.at) (told v gs j)) c.as_mut_slice.ensures.value
    ∙ ap (λ b. cond (nat_eq k j) b (f j)) told_there
    ∙ put_or f k j over (nat_eq k j) refl in
    record {
      outer = λ choice v runs.
          ended v c.args.when.at (Error k) old new
          (record {
            live = live choice v runs;
            asides = λ j. sym (or_false (told v old.asides.items j));
            bads = bads choice v runs;
            len = ap length put ∙ c.set_gate.ensures.len ∙ ap length c.as_mut_slice.ensures.value;
          });
      inner = λ choice v runs.
          ended v c.args.when.at (Inner k) old new
          (record {
            live = live choice v runs;
            asides = λ j. sym (or_false (told v old.asides.items j));
            bads = bads choice v runs;
            len = ap length put ∙ c.set_gate.ensures.len ∙ ap length c.as_mut_slice.ensures.value;
          });
    }
