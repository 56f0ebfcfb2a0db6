use Rattle.std.proofs.Common.{sym, subst, refl}
use Rattle.layout_base.specs.declared.layout.Kind.{Kind}
use Rattle.layout_base.specs.Seen.{type_of}
use Rattle.fn_facts.specs.Seen.{is_chosen}
use Rattle.fn_facts.specs.Showing.{Shows}
use Rattle.fn_facts.proofs.Given.{other_shown, stub_shown}
use Rattle.fn_facts.proofs.entry.is_chosen_at.Goals as goal

pub returns-in-Stub-clause-ok : goal.returns-in-Stub-clause-ok
returns-in-Stub-clause-ok c =
    subst (λ (k : Kind). Shows c.args.around.now c.args.net.now (λ o. is_chosen o (type_of k) c.args.bit c.args.own) c.constant-never.result.at)
    (sym c.in-Stub.is) (stub_shown _ _ c.args.bit c.args.own _ c.constant-never.ensures)

pub returns-in-Void-clause-ok : goal.returns-in-Void-clause-ok
returns-in-Void-clause-ok c =
    subst (λ (k : Kind). Shows c.args.around.now c.args.net.now (λ o. is_chosen o (type_of k) c.args.bit c.args.own) c.constant-never.result.at)
    (sym c.in-Void.is) (other_shown _ _ _ c.args.bit c.args.own _ refl refl c.constant-never.ensures)

pub returns-in_ok-chosen-in-Of-clause-ok : goal.returns-in_ok-chosen-in-Of-clause-ok
returns-in_ok-chosen-in-Of-clause-ok c =
    subst (λ (k : Kind). Shows c.args.around.now c.is_chosen.new.net (λ o. is_chosen o (type_of k) c.args.bit c.args.own) c.in_ok-chosen-in-Of.chosen.at)
    (sym c.in-Of.is) c.in_ok-chosen-in-Of.ensures.ok
