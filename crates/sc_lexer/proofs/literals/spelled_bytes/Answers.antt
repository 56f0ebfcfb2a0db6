use Rattle.std.proofs.Common.{◌-◌, arith, sym, length, ◌∙◌}
use Rattle.sc_tree.specs.Literals.{spelled_bytes}
use Rattle.sc_lexer.proofs.LiteralProofs.{spelled_more, spelled_end, spelled_stop}
use Rattle.sc_lexer.proofs.literals.spelled_bytes.Goals as goal

pub returns-then-at-end-clause-count : goal.returns-then-at-end-clause-count
returns-then-at-end-clause-count c =
    let text = c.args.text.now in
    spelled_end (spelled_bytes (length text) text) c.loop.count c.loop.at (length text - c.loop.counter) text (omega arith) c.loop.invariant.0

pub returns-in_err-byte-clause-count : goal.returns-in_err-byte-clause-count
returns-in_err-byte-clause-count c =
    let text = c.args.text.now in
    c.from_residual.ensures ∙ spelled_stop (spelled_bytes (length text) text) c.loop.count c.loop.at c.loop.counter text
    c.split_at.result.1.now c.loop-test.true c.loop.invariant.2 c.if-at-end.false c.split_at.ensures.back
    (sym c.in_err-byte.ensures.value) c.loop.invariant.0

pub loop-preserved : goal.loop-preserved
loop-preserved c =
    let text = c.args.text.now in
    let byte = c.in_ok-byte.byte in (
      spelled_more (spelled_bytes (length text) text) c.loop.count c.loop.at c.loop.counter text c.split_at.result.1.now
          (byte.len, byte.value) c.loop-test.true c.loop.invariant.2 c.if-at-end.false c.split_at.ensures.back
          (sym c.in_ok-byte.ensures.value) c.loop.invariant.0,
      omega arith,
      omega (arith, c.split_at.ensures.back_len, c.in_ok-byte.ensures.within),
    )
