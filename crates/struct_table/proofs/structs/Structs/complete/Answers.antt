use Rattle.std.proofs.Common.{◌≡◌, Some, arith}
use Rattle.struct_table.proofs.StructLemmas.{as_many, all_set}
use Rattle.struct_table.proofs.structs.Structs.complete.Goals as goal

pub index_mut-requires-then-number-len : goal.index_mut-requires-then-number-len
index_mut-requires-then-number-len c =
    let many = as_many c.self.inside.indices.items c.self.inside.all.items c.self.invariant in
    omega (arith, many, c.self.inside.all.ok.0, c.self.inside.indices.ok.0, c.if-number-len.true, c.len.ensures)

pub invariant_of-self : goal.invariant_of-self
invariant_of-self c = all_set c.self.inside.indices.items c.self.inside.all.items c.args.number c.members.inside.index
    (record { union = c.args.union; fields = Some c.members.inside.fields; extent = c.args.extent }) c.self.invariant c.members.invariant
