use Rattle.std.proofs.Common.{subst}
use Rattle.std.specs.Prelude.{IfSome}
use Rattle.fn_questions.specs.Asking.{ShowsBegin}
use Rattle.fn_questions.proofs.Ready.{begun_shown}
use Rattle.fn_questions.proofs.facts.Facts.begins.Goals as goal

pub returns-clause-ok : goal.returns-clause-ok
returns-clause-ok c =
    let begun = subst (λ b. IfSome b (ShowsBegin c.args.self.now.around c.args.net.now)) c.in-Some.is c.requires.facts.begun in
    begun_shown _ _ c.in-Some.begun c.args.at c.args.row (c.is_begin_of.ensures.at c.if-is_begin_of.true)
    (c.is_begin_of.ensures.given c.if-is_begin_of.true) (c.is_begin_of.ensures.before c.if-is_begin_of.true) begun
