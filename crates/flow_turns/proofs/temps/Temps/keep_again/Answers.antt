use Rattle.std.proofs.Common.{ap, sym, ◌∙◌, length, refl, slice_index_or, arith, nat_eq, if◌then◌else◌}
use Rattle.std.proofs.lemmas.List.{with_items_is}
use Rattle.gl_store.specs.declared.values.Val.TheVariants as val
use Rattle.gate_runs.specs.Stands.{told, gates_top}
use Rattle.flow_turns.specs.Kept.{vals_top}
use Rattle.flow_turns.proofs.Keeping.{kept_again, written_over}
use Rattle.flow_turns.proofs.temps.Temps.keep_again.Goals as goal

pub returns-clause-ok : goal.returns-clause-ok
returns-clause-ok c =
    let old = c.args.self.now in
    let vals_is = with_items_is old.vals c.write_val.new.vals (c.write_val.ensures.len ∙ c.as_mut_slice.ensures.len) in
    let sure_is = with_items_is old.sure c.set_gate.new.gates (c.set_gate.ensures.len ∙ c.as_mut_slice-2.ensures.len) in
    kept_again _ c.args.when.at c.args.temp c.args.val.now c.args.sure.at c.in_ok-both.both.at old _ refl refl
    (ap length vals_is ∙ (c.write_val.ensures.len ∙ ap length c.as_mut_slice.ensures.value))
    (written_over _ _ c.args.when.at c.args.val.now _ _ _ _ c.in_ok-both.ensures.grown
    (ap (λ xs. slice_index_or xs c.args.temp val.Unit) c.as_mut_slice.ensures.value) (ap (λ xs. slice_index_or xs c.args.temp val.Unit) vals_is) c.in_ok-write_val.ensures.there)
    (λ j e. ap (λ xs. slice_index_or xs j val.Unit) vals_is ∙ (c.in_ok-write_val.ensures.others j e ∙ ap (λ xs. slice_index_or xs j val.Unit) c.as_mut_slice.ensures.value))
    (λ v j. ap (λ gs. told v gs j) sure_is ∙ (c.set_gate.ensures.told v j ∙ ap (λ gs. if nat_eq c.args.temp j then v c.in_ok-both.both.at else told v gs j) c.as_mut_slice-2.ensures.value))
    (λ choice v r. c.in_ok-both.ensures.ok.value choice v r ∙ ap (λ b. if v c.args.when.at then v c.args.sure.at else b)
    (c.gate_in-was.ensures.told v ∙ ap (λ gs. told v gs c.args.temp) c.as_slice.ensures.value))
    c.requires.again

pub returns-clause-temps : goal.returns-clause-temps
returns-clause-temps c =
    let old = c.args.self.now in
    let vals_is = with_items_is old.vals c.write_val.new.vals (c.write_val.ensures.len ∙ c.as_mut_slice.ensures.len) in
    let sure_is = with_items_is old.sure c.set_gate.new.gates (c.set_gate.ensures.len ∙ c.as_mut_slice-2.ensures.len) in
    let many = ap length vals_is ∙ (c.write_val.ensures.len ∙ ap length c.as_mut_slice.ensures.value) in
    let many_sure = ap length sure_is ∙ (c.set_gate.ensures.len ∙ ap length c.as_mut_slice-2.ensures.value) in
    let longer = c.in_ok-write_val.ensures.grown.longer in
    let longer2 = c.in_ok-both.ensures.grown.longer in
    record {
      vals = omega (arith, ap vals_top vals_is, c.in_ok-write_val.ensures.top, longer2);
      sure = omega (arith, ap gates_top sure_is, c.set_gate.ensures.top _ (omega (arith, ap gates_top c.as_mut_slice-2.ensures.value, c.requires.temps.sure, longer, longer2)) c.in_ok-both.ensures.ok.below);
      slots = omega (arith, c.requires.temps.slots, longer, longer2);
      each_sure = many_sure ∙ (c.requires.temps.each_sure ∙ sym many);
      each_kept = c.requires.temps.each_kept ∙ sym many;
    }
