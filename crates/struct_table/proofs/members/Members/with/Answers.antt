use Rattle.std.proofs.Common.{◌≡◌, nat_eq}
use Rattle.std.specs.HashMap.{get}
use Rattle.struct_table.proofs.MemberLemmas.{indexed_behind}
use Rattle.struct_table.proofs.members.Members.with.Goals as goal

pub invariant_of-result : goal.invariant_of-result
invariant_of-result c =
    let noted = rw c.len-number.ensures at c.in_ok-note_name.ensures in
    let listed = rw c.len-number.ensures at c.in_ok-note_unnamed.ensures in
    rw c.in_ok-push.ensures.ok (indexed_behind (get nat_eq c.self.inside.index.numbers) (get nat_eq c.note_name.new.numbers)
    c.self.inside.index.unnamed.items c.note_unnamed.new.unnamed.items c.self.inside.fields c.args.field c.self.invariant noted listed)
