use Rattle.sc_parse_expr.proofs.Spans.{span_parsed}
use Rattle.sc_parse_expr.proofs.span.expr.Goals as goal

pub returns : goal.returns
returns c = span_parsed c.args.types.now c.all_of.result c.args.from c.args.to c.args.tokens.now.list c.as_slice.result.now c.as_slice.ensures c.all_of.ensures
