use Rattle.std.proofs.Common.{◌≡◌, Some, sym, ◌∙◌}
use Rattle.sc_parse_front.specs.Front.{front_string}
use Rattle.sc_parse_expr.proofs.Steps.{strings_more, strings_all, past_strings_more, past_strings_end}
use Rattle.sc_parse_expr.proofs.primary.strings.Goals as goal

pub loop-string-preserved : goal.loop-string-preserved
loop-string-preserved c =
    let is : front_string c.loop-string.tokens ≡ Some c.in-Some.string = sym c.string.ensures ∙ c.in-Some.is in (
      strings_more c.loop-string.all c.push-in-Some.new.self _ c.loop-string.tokens c.advance.new.self c.in-Some.string
          c.loop-string.invariant.0 is c.in_ok-push-2.ensures.ok c.advance.ensures,
      past_strings_more c.loop-string.tokens c.advance.new.self c.in-Some.string _ c.loop-string.invariant.1 is c.advance.ensures,
    )

pub returns-clause-all : goal.returns-clause-all
returns-clause-all c = strings_all c.loop-string.all _ c.loop-string.tokens c.loop-string.invariant.0 (sym c.string.ensures ∙ c.in_default.is)

pub returns-clause-rest : goal.returns-clause-rest
returns-clause-rest c = sym (past_strings_end c.loop-string.tokens (sym c.string.ensures ∙ c.in_default.is)) ∙ c.loop-string.invariant.1
