use Rattle.std.proofs.Common.{◌≡◌, ◌-◌, ◌/◌, ◌%◌, ◌+◌, ◌++◌, [], ◌∷◌, ap, sym, ◌∙◌, append_assoc, arith}
use Rattle.report_text.specs.Rows.{binary}
use Rattle.report_text.proofs.Binary.{binary_step}
use Rattle.report_text.proofs.rows.+put_binary.Goals as goal

pub returns : goal.returns
returns t c =
    let digit = (48 + c.args.n % 2) ∷ [] in
    let first = binary (c.args.digits - 1) (c.args.n / 2) in
    c.in_ok-push.ensures.items ∙ ap (λ l. l ++ digit) c.in_ok-put_binary.ensures ∙ append_assoc c.args.out.now.items first digit
    ∙ ap (λ l. c.args.out.now.items ++ l) (sym (binary_step c.args.digits c.args.n (omega (arith, c.if-digits-eq0.false))))
