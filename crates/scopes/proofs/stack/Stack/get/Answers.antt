use Rattle.std.proofs.Common.{◌≡◌, nat_eq, Some, None, reverse, sym, ◌∙◌, ap, arith}
use Rattle.std.proofs.lemmas.List.{reverse-reverse, length-reverse}
use Rattle.std.specs.Map.{lookup}
use Rattle.scopes.specs.Stack.{latest_of}
use Rattle.scopes.proofs.StackLemmas.{absent, number-lt, value_at}
use Rattle.scopes.proofs.stack.Stack.get.Goals as goal

pub returns-in_err-index : goal.returns-in_err-index
returns-in_err-index g c =
    let is : latest_of (reverse c.self.inside.entries.items) c.args.name ≡ None = sym (c.self.invariant.finds c.args.name) ∙ sym c.in_err-index.ensures.value in
    let none : lookup (nat_eq c.args.name) c.args.self.now ≡ None = rw (← c.self.view_is) (absent (reverse c.self.inside.entries.items) c.args.name is) in
    rw c.from_residual.ensures (sym none)

pub index-requires : goal.index-requires
index-requires g c =
    let is : latest_of (reverse c.self.inside.entries.items) c.args.name ≡ Some c.in_ok-index.field-0.now = sym (c.self.invariant.finds c.args.name) ∙ sym c.in_ok-index.ensures.value in
    omega (arith, number-lt (reverse c.self.inside.entries.items) c.args.name c.in_ok-index.field-0.now is, length-reverse c.self.inside.entries.items)

pub returns : goal.returns
returns g c =
    let is : latest_of (reverse c.self.inside.entries.items) c.args.name ≡ Some c.in_ok-index.field-0.now = sym (c.self.invariant.finds c.args.name) ∙ sym c.in_ok-index.ensures.value in
    let found = value_at (reverse c.self.inside.entries.items) c.args.name c.in_ok-index.field-0.now c.index.result.now is in
    let there = rw (reverse-reverse, c.self.view_is) at found in
    ap (λ e. Some e.value) c.index.ensures ∙ there
