use Rattle.std.proofs.Common.{subst}
use Rattle.location_texts.specs.Seen.{texts}
use Rattle.sc_world.specs.Shows.{Exits, says}
use Rattle.fn_facts.specs.declared.around.Around.{Around}
use Rattle.fn_facts.specs.Showing.{Shows}
use Rattle.fn_questions.proofs.facts.Facts.exits.Goals as goal

pub returns-in_ok-exits-in-Some-clause-ok : goal.returns-in_ok-exits-in-Some-clause-ok
returns-in_ok-exits-in-Some-clause-ok c =
    subst (λ (a : Around). Shows a c.has_exit_row.new.net (λ o. says (texts c.args.self.now.texts) o (Exits c.args.row)) c.in_ok-exits-in-Some.exits.at)
    c.keep_walk.ensures.around c.in_ok-exits-in-Some.ensures.ok
