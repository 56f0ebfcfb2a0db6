use Rattle.std.proofs.Common.{◌≡◌, suc, ◌+◌, ◌*◌, ◌≤◌, max, length, drop}
use Rattle.sc_gather.specs.Seen.{arguments_of}
use Rattle.flow_graph.specs.Expressions.{unroll_all}
use Rattle.sc_flow.specs.Seen.{structs_of, growing}
use Rattle.sc_flow.proofs.expressions.+expression.Given as goal

abbrev pub invariant-arguments-loop-k : goal.invariant-arguments-loop-k
invariant-arguments-loop-k l = record {
  made :
      (l.at, growing (structs_of l.here) l.g)
      ≡ unroll_all (arguments_of (structs_of l.here) (drop l.k l.items)) l.turn (l.first + l.k) l.next (growing (structs_of l.fn.here) l.fn.g);
  few : l.k ≤ length l.items;
}

abbrev pub decreases-arguments-loop-k : goal.decreases-arguments-loop-k
decreases-arguments-loop-k l = l.k

-- An expression falls to its operands. At one size what asks comes before what answers: an arm of the long match before its
-- deepest operand, that before the expression as one that is hard.
abbrev pub decreases-hard : goal.decreases-hard
decreases-hard l = 4 * goal.size-hard l

abbrev pub decreases-expression : goal.decreases-expression
decreases-expression l = 4 * goal.size-expression l + 1

abbrev pub decreases-operand : goal.decreases-operand
decreases-operand l = 4 * goal.size-operand l + 1

abbrev pub decreases-callee : goal.decreases-callee
decreases-callee l = 4 * goal.size-callee l + 2

abbrev pub decreases-arguments : goal.decreases-arguments
decreases-arguments l = 4 * goal.size-arguments l + 2

abbrev pub decreases-with_one : goal.decreases-with_one
decreases-with_one l = suc (4 * goal.size-operand (record { the-lifetimes = l.the-lifetimes; g = l.g; here = l.here; e = l.a; turn = l.turn; aim = l.aim }) + 1)

abbrev pub decreases-address : goal.decreases-address
decreases-address l = suc (4 * goal.size-operand (record { the-lifetimes = l.the-lifetimes; g = l.g; here = l.here; e = l.a; turn = l.turn; aim = l.aim }) + 1)

abbrev pub decreases-with_two : goal.decreases-with_two
decreases-with_two l = suc (max (4 * goal.size-operand (record { the-lifetimes = l.the-lifetimes; g = l.g; here = l.here; e = l.left.1; turn = l.turn; aim = l.aim }) + 1) (4 * goal.size-operand (record { the-lifetimes = l.the-lifetimes; g = l.g; here = l.here; e = l.right.1; turn = l.turn; aim = l.aim }) + 1))

abbrev pub decreases-with_update : goal.decreases-with_update
decreases-with_update l = suc (max (4 * goal.size-operand (record { the-lifetimes = l.the-lifetimes; g = l.g; here = l.here; e = l.a; turn = l.turn; aim = l.aim }) + 1) (4 * goal.size-operand (record { the-lifetimes = l.the-lifetimes; g = l.g; here = l.here; e = l.b; turn = l.turn; aim = l.aim }) + 1))

abbrev pub decreases-comma : goal.decreases-comma
decreases-comma l = suc (max (4 * goal.size-operand (record { the-lifetimes = l.the-lifetimes; g = l.g; here = l.here; e = l.a; turn = l.turn; aim = l.aim }) + 1) (4 * goal.size-operand (record { the-lifetimes = l.the-lifetimes; g = l.g; here = l.here; e = l.b; turn = l.turn; aim = l.aim }) + 1))

abbrev pub decreases-conditional : goal.decreases-conditional
decreases-conditional l = suc (max (4 * goal.size-expression (record { the-lifetimes = l.the-lifetimes; g = l.g; here = l.here; e = l.a; turn = l.turn; aim = l.aim }) + 1) (max (4 * goal.size-expression (record { the-lifetimes = l.the-lifetimes; g = l.g; here = l.here; e = l.b; turn = l.turn; aim = l.aim }) + 1) (4 * goal.size-expression (record { the-lifetimes = l.the-lifetimes; g = l.g; here = l.here; e = l.c; turn = l.turn; aim = l.aim }) + 1)))

abbrev pub decreases-logical : goal.decreases-logical
decreases-logical l = suc (max (4 * goal.size-expression (record { the-lifetimes = l.the-lifetimes; g = l.g; here = l.here; e = l.operands.0; turn = l.turn; aim = l.aim }) + 1) (4 * goal.size-expression (record { the-lifetimes = l.the-lifetimes; g = l.g; here = l.here; e = l.operands.1; turn = l.turn; aim = l.aim }) + 1))

abbrev pub decreases-call : goal.decreases-call
decreases-call l = suc (max (4 * goal.size-callee (record { the-lifetimes = l.the-lifetimes; g = l.g; here = l.here; f = l.f; turn = l.turn; next = l.turn }) + 2) (4 * goal.size-arguments (record { the-lifetimes = l.the-lifetimes; g = l.g; here = l.here; args = l.args; turn = l.turn; first = l.turn; next = l.turn }) + 2))
