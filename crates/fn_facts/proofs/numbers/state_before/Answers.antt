use Rattle.std.proofs.Common.{sym, ap, ◌∙◌}
use Rattle.fn_facts.proofs.States.{named_shown}
use Rattle.fn_facts.proofs.numbers.state_before.Goals as goal

pub returns-in_ok-named-in-Some-clause-ok : goal.returns-in_ok-named-in-Some-clause-ok
returns-in_ok-named-in-Some-clause-ok c =
    named_shown _ _ _ c.args.at c.in-Some.bit c.state_bits.result c.states.result c.in_ok-chosen-in-Some.chosen.bits.items _
    (sym (ap (λ l. l.state) c.location_at.ensures) ∙ c.in-Some.is) c.state_bits.ensures.value c.states.ensures c.in_ok-named-in-Some.ensures.grown
    c.in_ok-chosen-in-Some.ensures c.in_ok-named-in-Some.ensures.ok
