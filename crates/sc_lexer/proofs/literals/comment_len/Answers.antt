use Rattle.std.proofs.Common.{List, ℕ, ◌∙◌, sym, ap}
use Rattle.std.specs.Prelude.{codes}
use Rattle.sc_tree.specs.Tables.{begins}
use Rattle.sc_lexer.proofs.LiteralProofs.{comment_more}
use Rattle.sc_lexer.proofs.literals.comment_len.Goals as goal

pub loop-at-preserved : goal.loop-at-preserved
loop-at-preserved c =
    comment_more c.args.bytes.now c.loop-at.at c.loop-at-test.true
    (ap (λ (xs : List ℕ). begins (codes "*/") xs) (sym c.split_at.ensures.back) ∙ sym c.begins.ensures.begins ∙ c.if-begins.false)
    c.loop-at.invariant
