use Rattle.std.proofs.Common.{◌≡◌, Bool, not, IfOk, subst}
use Rattle.std.proofs.lemmas.Result.{on_ok_weaker}
use Rattle.sc_statements.proofs.Kept.{any_key, key_added}
use Rattle.sc_statements.proofs.choices.Choices.add.Goals as goal

pub returns-clause-new : goal.returns-clause-new
returns-clause-new c =
    rw (← c.self.view_is) (subst (λ (b : Bool). IfOk c.insert.result (λ new. new ≡ not b)) (any_key c.args.choice c.self.inside.seen)
    (rw c.key_of.ensures at c.insert.ensures.new))

pub returns-clause-added : goal.returns-clause-added
returns-clause-added c =
    rw (← c.self.view_is) (on_ok_weaker c.insert.result (key_added c.args.choice c.self.inside.seen c.insert.new.self)
    (rw c.key_of.ensures at c.insert.ensures.ok))
