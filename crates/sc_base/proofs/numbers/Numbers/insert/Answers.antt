use Rattle.std.proofs.Common.{◌≡◌, false, cond, Some, ℕ, length, sym, ◌∙◌, ap, arith}
use Rattle.std.specs.HashMap.{get}
use Rattle.std.specs.List.{list_any}
use Rattle.sc_base.proofs.KeyNumbers.{numbered_behind}
use Rattle.sc_base.proofs.numbers.Numbers.insert.Goals as goal

pub invariant_of-self-2 : goal.invariant_of-self-2
invariant_of-self-2 g c =
    let eq = g.K.PartialEq.eq in
    let keys = c.self.inside.keys.items in
    let old = get eq c.self.inside.index in
    let none : list_any (eq c.args.key) keys ≡ false = rw (← c.self.view_is) at (sym c.contains.ensures ∙ c.if-contains.false) in
    let many : c.len.result ≡ length keys = omega (arith, c.len.ensures, c.in_ok-reserve.ensures.len) in
    rw (c.in_ok-push.ensures.items, c.in_ok-reserve.ensures.items)
    (numbered_behind g.met.K.Eq.laws old (get eq c.insert.new.self) keys c.args.key c.self.invariant none
    (λ q. c.in_ok-insert.ensures.updates.0 q ∙ ap (λ (n : ℕ). cond (eq c.args.key q) (Some n) (old q)) many))
