use Rattle.std.proofs.Common.{◌≡◌, ◌∙◌, ap}
use Rattle.std.specs.Option.{is_some}
use Rattle.struct_table.proofs.MemberLemmas.{is_among_by_number, copied_there}
use Rattle.struct_table.proofs.members.Members.names.Goals as goal

pub returns : goal.returns
returns c =
    let found = c.get.ensures.value ∙ c.self.invariant.finds c.args.name in
    rw (← c.self.view_is)
    (c.is_some.ensures ∙ copied_there c.get.result ∙ ap is_some found ∙ is_among_by_number 0 c.args.name c.self.inside.fields)
