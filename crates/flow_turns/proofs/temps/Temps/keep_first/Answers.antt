use Rattle.std.proofs.Common.{ap, sym, ◌∙◌, length, refl, slice_index_or, arith, nat_eq, false, true, if◌then◌else◌}
use Rattle.std.proofs.lemmas.List.{with_items_is}
use Rattle.gl_store.specs.declared.values.Val.TheVariants as val
use Rattle.gate_runs.specs.Stands.{told, gates_top}
use Rattle.flow_turns.specs.Kept.{vals_top}
use Rattle.flow_turns.proofs.Keeping.{first_kept}
use Rattle.flow_turns.proofs.temps.Temps.keep_first.Goals as goal

pub returns-clause-ok : goal.returns-clause-ok
returns-clause-ok c = λ ns when.
    (let old = c.args.self.now in
    let vals_is = with_items_is old.vals c.set_val.new.vals (c.set_val.ensures.len ∙ c.as_mut_slice.ensures.len) in
    let sure_is = with_items_is old.sure c.set_gate.new.gates (c.set_gate.ensures.len ∙ c.as_mut_slice-2.ensures.len) in
    let kept_is = with_items_is old.kept c.set_flag.new.flags (c.set_flag.ensures.len ∙ c.as_mut_slice-3.ensures.len) in
    first_kept ns when c.args.temp c.args.val c.args.sure.at old _ refl
    (ap length vals_is ∙ (c.set_val.ensures.len ∙ ap length c.as_mut_slice.ensures.value))
    (ap (λ xs. slice_index_or xs c.args.temp val.Unit) vals_is ∙ c.set_val.ensures.there)
    (λ j e. ap (λ xs. slice_index_or xs j val.Unit) vals_is ∙ (c.set_val.ensures.others j e ∙ ap (λ xs. slice_index_or xs j val.Unit) c.as_mut_slice.ensures.value))
    (λ v j. ap (λ gs. told v gs j) sure_is ∙ (c.set_gate.ensures.told v j ∙ ap (λ gs. if nat_eq c.args.temp j then v c.args.sure.at else told v gs j) c.as_mut_slice-2.ensures.value))
    (λ j. ap (λ fs. slice_index_or fs j false) kept_is ∙ (c.set_flag.ensures.set j ∙ ap (λ fs. if nat_eq c.args.temp j then true else slice_index_or fs j false) c.as_mut_slice-3.ensures.value))
    c.requires.first)

pub returns-clause-temps : goal.returns-clause-temps
returns-clause-temps c = λ ns are low sure_low.
    (let old = c.args.self.now in
    let vals_is = with_items_is old.vals c.set_val.new.vals (c.set_val.ensures.len ∙ c.as_mut_slice.ensures.len) in
    let sure_is = with_items_is old.sure c.set_gate.new.gates (c.set_gate.ensures.len ∙ c.as_mut_slice-2.ensures.len) in
    let kept_is = with_items_is old.kept c.set_flag.new.flags (c.set_flag.ensures.len ∙ c.as_mut_slice-3.ensures.len) in
    let many = ap length vals_is ∙ (c.set_val.ensures.len ∙ ap length c.as_mut_slice.ensures.value) in
    let many_sure = ap length sure_is ∙ (c.set_gate.ensures.len ∙ ap length c.as_mut_slice-2.ensures.value) in
    let many_kept = ap length kept_is ∙ (c.set_flag.ensures.len ∙ ap length c.as_mut_slice-3.ensures.value) in
    record {
      vals = omega (arith, ap vals_top vals_is, c.set_val.ensures.top (length ns) (omega (arith, ap vals_top c.as_mut_slice.ensures.value, are.vals)) low);
      sure = omega (arith, ap gates_top sure_is, c.set_gate.ensures.top (length ns) (omega (arith, ap gates_top c.as_mut_slice-2.ensures.value, are.sure)) sure_low);
      slots = are.slots;
      each_sure = many_sure ∙ (are.each_sure ∙ sym many);
      each_kept = many_kept ∙ (are.each_kept ∙ sym many);
    })
