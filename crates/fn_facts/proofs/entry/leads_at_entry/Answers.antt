use Rattle.std.proofs.Common.{ℕ, sym, subst}
use Rattle.std.specs.Prelude.{Option, Some}
use Rattle.sc_world.specs.View.{type}
use Rattle.fn_facts.specs.Seen.{is_chosen}
use Rattle.fn_facts.specs.Showing.{Shows}
use Rattle.fn_facts.proofs.Given.{nowhere_shown, pointer_shown}
use Rattle.fn_facts.proofs.entry.leads_at_entry.Goals as goal

pub returns-in-None : goal.returns-in-None
returns-in-None c =
    subst (λ (x : Option ℕ). Shows c.args.around.now c.args.net.now (λ o. is_chosen o (Some (type c.args.t.now)) c.args.bit x) c.constant.result.at)
    (sym c.in-None.is) (nowhere_shown _ _ _ c.args.bit _ c.requires.pointer c.constant.ensures)

pub returns-in-Some : goal.returns-in-Some
returns-in-Some c =
    subst (λ (x : Option ℕ). Shows c.args.around.now c.args.net.now (λ o. is_chosen o (Some (type c.args.t.now)) c.args.bit x) c.chosen_bit.result.at)
    (sym c.in-Some.is) (pointer_shown _ _ _ c.args.bit _ _ c.requires.pointer c.chosen_bit.ensures)
