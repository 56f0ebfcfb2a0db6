use Rattle.std.proofs.Common.{sym, arith, ◌∙◌}
use Rattle.sc_lexer.proofs.PieceProofs.{plain_space, plain_line, plain_word, plain_number, plain_punct, plain_none, word_text}
use Rattle.sc_lexer.proofs.pieces.plain_piece.Goals as goal

pub returns-then-blank-gt0-clause-piece : goal.returns-then-blank-gt0-clause-piece
returns-then-blank-gt0-clause-piece c = plain_space c.args.is_fresh c.args.bytes.now c.spaces-blank.result
    (λ i. omega (arith, c.type_inv.bytes i)) c.spaces-blank.ensures.len c.if-blank-gt0.true

pub returns-then-line-gt0-clause-piece : goal.returns-then-line-gt0-clause-piece
returns-then-line-gt0-clause-piece c = plain_line c.args.is_fresh c.args.bytes.now c.line_len-line.result (omega arith)
    c.line_len-line.ensures.len c.if-line-gt0.true

pub returns-then-word-gt0-clause-piece : goal.returns-then-word-gt0-clause-piece
returns-then-word-gt0-clause-piece c = plain_word c.args.is_fresh c.args.bytes.now c.word_len-word.result
    (λ i. omega (arith, c.type_inv.bytes i)) (omega arith) (omega arith) c.word_len-word.ensures.len c.if-word-gt0.true

pub returns-then-word-gt0-clause-text : goal.returns-then-word-gt0-clause-text
returns-then-word-gt0-clause-text c = word_text c.args.bytes.now c.word_len-word.result (λ i. omega (arith, c.type_inv.bytes i))
    c.word_len-word.ensures.len c.if-word-gt0.true

pub returns-then-number-gt0-clause-piece : goal.returns-then-number-gt0-clause-piece
returns-then-number-gt0-clause-piece c =
    rw c.number_piece.ensures (plain_number c.args.is_fresh c.args.bytes.now c.number_len-number.result
    (λ i. omega (arith, c.type_inv.bytes i)) (omega arith) (omega arith) (omega arith) c.number_len-number.ensures.len c.if-number-gt0.true)

pub returns-in_err-text-clause-piece : goal.returns-in_err-text-clause-piece
returns-in_err-text-clause-piece c =
    c.from_residual.ensures ∙ plain_none c.args.is_fresh c.args.bytes.now (omega arith) (omega arith) (omega arith) (omega arith)
    (sym c.in_err-text.ensures.row)

pub returns-clause-piece : goal.returns-clause-piece
returns-clause-piece c =
    plain_punct c.args.is_fresh c.args.bytes.now (c.in_ok-text.text.now, c.in_ok-text.punct) (omega arith) (omega arith) (omega arith)
    (omega arith) (sym c.in_ok-text.ensures.row)
