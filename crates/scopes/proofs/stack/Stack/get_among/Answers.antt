use Rattle.std.proofs.Common.{◌≡◌, nat_eq, ◌+◌, ◌<◌, ◌≤◌, Some, None, reverse, length, take, sym, ◌∙◌, ap, arith}
use Rattle.std.proofs.lemmas.List.{reverse-reverse, length-reverse}
use Rattle.std.specs.Map.{lookup}
use Rattle.scopes.specs.Stack.{latest_of}
use Rattle.scopes.proofs.StackLemmas.{absent_among, number-lt, value_at, within_latest, beyond_latest}
use Rattle.scopes.proofs.stack.Stack.get_among.Goals as goal

pub returns-in_err-index : goal.returns-in_err-index
returns-in_err-index g c =
    let is : latest_of (reverse c.self.inside.entries.items) c.args.name ≡ None = sym (c.self.invariant.finds c.args.name) ∙ sym c.in_err-index.ensures.value in
    let none : lookup (nat_eq c.args.name) (take c.args.count c.args.self.now) ≡ None = rw (← c.self.view_is) (absent_among (reverse c.self.inside.entries.items) c.args.name c.args.count is) in
    rw c.from_residual.ensures (sym none)

pub overflow_sub-len : goal.overflow_sub-len
overflow_sub-len g c =
    let is : latest_of (reverse c.self.inside.entries.items) c.args.name ≡ Some c.in_ok-index.field-0.now = sym (c.self.invariant.finds c.args.name) ∙ sym c.in_ok-index.ensures.value in
    omega (arith, number-lt (reverse c.self.inside.entries.items) c.args.name c.in_ok-index.field-0.now is, length-reverse c.self.inside.entries.items)

pub index-requires : goal.index-requires
index-requires g c =
    let is : latest_of (reverse c.self.inside.entries.items) c.args.name ≡ Some c.in_ok-index.field-0.now = sym (c.self.invariant.finds c.args.name) ∙ sym c.in_ok-index.ensures.value in
    omega (arith, number-lt (reverse c.self.inside.entries.items) c.args.name c.in_ok-index.field-0.now is, length-reverse c.self.inside.entries.items)

pub returns-then-len-index : goal.returns-then-len-index
returns-then-len-index g c =
    let is : latest_of (reverse c.self.inside.entries.items) c.args.name ≡ Some c.in_ok-index.field-0.now = sym (c.self.invariant.finds c.args.name) ∙ sym c.in_ok-index.ensures.value in
    let near : length (reverse c.self.inside.entries.items) ≤ c.in_ok-index.field-0.now + c.args.count = omega (arith, length-reverse c.self.inside.entries.items) in
    let found = value_at (reverse c.self.inside.entries.items) c.args.name c.in_ok-index.field-0.now c.index.result.now is in
    let same = within_latest (reverse c.self.inside.entries.items) c.args.name c.in_ok-index.field-0.now c.args.count is near in
    let there = rw (reverse-reverse, ← same, c.self.view_is) at found in
    ap (λ e. Some e.value) c.index.ensures ∙ there

pub returns-else-len-index : goal.returns-else-len-index
returns-else-len-index g c =
    let is : latest_of (reverse c.self.inside.entries.items) c.args.name ≡ Some c.in_ok-index.field-0.now = sym (c.self.invariant.finds c.args.name) ∙ sym c.in_ok-index.ensures.value in
    let far : c.in_ok-index.field-0.now + c.args.count < length (reverse c.self.inside.entries.items) = omega (arith, length-reverse c.self.inside.entries.items) in
    let none : lookup (nat_eq c.args.name) (take c.args.count c.args.self.now) ≡ None = rw (← c.self.view_is) (beyond_latest (reverse c.self.inside.entries.items) c.args.name c.in_ok-index.field-0.now c.args.count is far) in
    sym none
