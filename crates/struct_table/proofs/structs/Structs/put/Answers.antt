use Rattle.std.proofs.Common.{◌≡◌, None, arith}
use Rattle.struct_table.proofs.StructLemmas.{as_many, all_set, all_behind}
use Rattle.struct_table.proofs.structs.Structs.put.Goals as goal

pub index_mut-requires-then-number-len : goal.index_mut-requires-then-number-len
index_mut-requires-then-number-len c =
    let many = as_many c.self.inside.indices.items c.self.inside.all.items c.self.invariant in
    omega (arith, many, c.self.inside.all.ok.0, c.self.inside.indices.ok.0, c.if-number-len.true, c.len.ensures)

pub invariant_of-self : goal.invariant_of-self
invariant_of-self c = all_set c.self.inside.indices.items c.self.inside.all.items c.args.number c.no_index.result
    (record { union = c.args.union; fields = None; extent = None }) c.self.invariant c.no_index.ensures

pub invariant_of-self-in-Continue-branch-3 : goal.invariant_of-self-in-Continue-branch-3
invariant_of-self-in-Continue-branch-3 c =
    let all = all_behind c.self.inside.indices.items c.self.inside.all.items c.no_index-else-number-len.result
    (record { union = c.args.union; fields = None; extent = None }) c.self.invariant c.no_index-else-number-len.ensures in
    rw (c.in_ok-push.ensures.items, c.in_ok-push-2.ensures.items, c.in_ok-reserve.ensures.items) all
