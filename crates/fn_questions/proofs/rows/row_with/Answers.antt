use Rattle.std.proofs.Common.{List, nat_eq, sym, subst, ◌∙◌}
use Rattle.bit_net.specs.declared.nodes.Gate.{Gate}
use Rattle.bit_net.specs.Runs.{Gives}
use Rattle.bit_words.specs.Number.{number}
use Rattle.fn_facts.proofs.Growing.{truth_grows}
use Rattle.fn_questions.proofs.Rowing.{other_begin, row_shown}
use Rattle.fn_questions.proofs.rows.row_with.Goals as goal

pub gives-requires : goal.gives-requires
gives-requires c = record { truth = truth_grows _ _ _ _ c.in_ok-entered.ensures.grown c.requires.shared.truth }

pub returns-then-not-is_nil-clause-ok : goal.returns-then-not-is_nil-clause-ok
returns-then-not-is_nil-clause-ok c =
    λ of shown. other_begin _ _ of c.args.row _ (sym c.is_nil.ensures ∙ c.if-not-is_nil.true) c.constant.ensures

pub returns-clause-ok : goal.returns-clause-ok
returns-clause-ok c =
    λ of shown.
    (let entered =
    subst (λ (gs : List Gate). Gives c.number_is.new.net c.in_ok-entered.entered.at (λ choice v. nat_eq c.args.row.given (number v gs)))
    c.as_slice.ensures.value c.in_ok-entered.ensures.ok in
    row_shown _ _ _ _ _ _ of c.args.row c.args.shared.now.given.bits.items _ _ _ _ _ (sym c.is_nil.ensures ∙ c.if-not-is_nil.false)
    c.in_ok-entered.ensures.grown c.in_ok-given_so.ensures.grown c.in_ok-ends.ensures.grown c.in_ok-has.ensures.grown c.requires.shared.given entered
    c.in_ok-given_so.ensures.ok shown c.in_ok-ends.ensures.ok c.in_ok-has.ensures.ok)
