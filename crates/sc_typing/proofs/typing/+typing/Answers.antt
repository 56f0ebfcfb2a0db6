use Rattle.std.proofs.Common.{◌≡◌, Option, List, sym, subst}
use Rattle.sc_typed.specs.declared.program.FieldDef.{FieldDef}
use Rattle.sc_rules.specs.Gives.{Gives}
use Rattle.sc_rules.specs.Walks.{Check}
use Rattle.sc_typing.specs.Tables.{here_of}
use Rattle.sc_typing.specs.Typing.{adding_one}
use Rattle.sc_typing.proofs.Lines.{line_some}
use Rattle.sc_typing.proofs.typing.+typing.Goals as goal

pub members_of_line-returns-in-len1-up : goal.members_of_line-returns-in-len1-up
members_of_line-returns-in-len1-up t c =
    let some = rw c.as_slice.ensures at c.in-len1-up.len_at_least in
    subst (λ (m : Check (Option (List FieldDef))). Gives (m c.args.walk.now) c.parts.result c.parts.new.walk)
    (sym (line_some (adding_one (here_of c.args.here.now)) c.args.line.now c.args.t c.args.before some)) c.parts.ensures
