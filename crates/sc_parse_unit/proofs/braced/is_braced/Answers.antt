use Rattle.std.proofs.Common.{◌≡◌, ◌+◌, ◌≤◌, List, length, Some, sym, ap, ◌∙◌, arith}
use Rattle.sc_tree.specs.declared.token.Token.{Token}
use Rattle.sc_parse_front.specs.Front.{front_kind, behind}
use Rattle.sc_parse_unit.proofs.Braces.{turn_closes, behind_length}
use Rattle.sc_parse_unit.proofs.braced.is_braced.Goals as goal

pub loop-turn-preserved : goal.loop-turn-preserved
loop-turn-preserved c =
    let is : front_kind c.loop-turn.left ≡ Some c.in-Some.kind = sym c.kind.ensures ∙ c.in-Some.is in
    let some : 1 ≤ c.loop-turn.open = c.loop-turn.invariant.1 in
    let few : c.loop-turn.open ≤ c.loop-turn._turn = c.loop-turn.invariant.2 in
    let all : length c.loop-turn.left + c.loop-turn._turn ≡ c.len-count.result = c.loop-turn.invariant.3 in
    let more = c.if-open-eq1.false in
    let deep : 2 ≤ c.loop-turn.open = omega arith in
    let shorter = behind_length c.loop-turn.left c.in-Some.kind is in
    let same : length (behind c.loop-turn.left) + (c.loop-turn._turn + 1) ≡ c.len-count.result = omega arith in (
      turn_closes c.loop-turn.open c.loop-turn.left c.advance.new.self c.in-Some.kind is c.loop-turn.invariant.0 c.advance.ensures
          (sym c.closes.ensures ∙ c.if-not-closes.false) deep,
      omega arith,
      omega arith,
      ap (λ (us : List Token). length us + (c.loop-turn._turn + 1)) c.advance.ensures ∙ same,
    )
