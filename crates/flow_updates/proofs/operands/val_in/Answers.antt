use Rattle.std.proofs.Common.{slice_index_or, ap, ◌∙◌}
use Rattle.gl_store.specs.declared.values.Val.TheVariants as val
use Rattle.flow_updates.proofs.Numbered.{val_there}
use Rattle.flow_updates.proofs.operands.val_in.Goals as goal

pub returns : goal.returns
returns c =
    let x = c.index-as_slice-at.result in
    c.index-as_slice-at.is ∙ (ap (λ xs. slice_index_or xs c.args.number x) c.as_slice.ensures.value ∙ val_there c.args.temps.now.vals.items c.args.number x val.Unit c.requires)
