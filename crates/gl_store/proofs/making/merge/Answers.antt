use Rattle.std.proofs.Common.{ap, ◌∙◌, sym, length}
use Rattle.gl_store.proofs.MakeLemmas.{same_length}
use Rattle.gl_store.proofs.making.merge.Goals as goal

pub merge_locations-requires-clause-count : goal.merge_locations-requires-clause-count
merge_locations-requires-clause-count c = ap length c.deref.ensures.value ∙ same_length _ _ c.requires.shape ∙ sym (ap length c.deref-2.ensures.value)
