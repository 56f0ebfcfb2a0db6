-- In a circuit the gate of an input stands at its place, and no other gate is an input.

use Rattle.std.proofs.Common.{◌≡◌, ℕ, zero, suc, ◌+◌, ◌-◌, ◌<◌, ◌≤◌, false, cond, List, ◌++◌, length, take, drop, get_or, take-append-drop, Some}
use Rattle.std.proofs.Common.{slice_get, sym, subst, ap, ◌∙◌, ⊎_elim, arith}
use Rattle.std.proofs.lemmas.List.{take-take}
use Rattle.std.proofs.lemmas.List.Sums.{count_by_more_yes, sum_by-append}
use Rattle.std.proofs.lemmas.Option.{get_or_from_slice_get, slice_get_cases}
use Rattle.std.proofs.lemmas.Bool.{cases_lt}
use Rattle.std.specs.List.{count_by}
use Rattle.bit_net.specs.declared.nodes.Node.{Node}
use Rattle.bit_net.specs.declared.nodes.Node.TheVariants.{Constant, Input, Not, And, Or, Xor, Mux}
use Rattle.bit_net.specs.Circuit.{is_input, input_count, ReadsBelow, IsCircuit}
use Rattle.clause_builder.specs.Gates.{OperandsBelow}

pub operands_from_reads : (g n inputs : ℕ) (node : Node) → g ≤ n → ReadsBelow g inputs node → OperandsBelow n node
operands_from_reads g n inputs (Constant b) le reads = tt
operands_from_reads g n inputs (Input k) le reads = tt
operands_from_reads g n inputs (Not a) le reads = omega (arith, le, reads)
operands_from_reads g n inputs (And a b) le reads = (omega (arith, le, reads.0), omega (arith, le, reads.1))
operands_from_reads g n inputs (Or a b) le reads = (omega (arith, le, reads.0), omega (arith, le, reads.1))
operands_from_reads g n inputs (Xor a b) le reads = (omega (arith, le, reads.0), omega (arith, le, reads.1))
operands_from_reads g n inputs (Mux c a b) le reads = (omega (arith, le, reads.0), omega (arith, le, reads.1), omega (arith, le, reads.2))

-- a gate that is there is below the length
pub inside_from_slice_get : (ns : List Node) (g : ℕ) (node : Node) → slice_get ns g ≡ Some node → g < length ns
inside_from_slice_get ns g node is =
    ⊎_elim (λ there. there.1) (λ past. let none = sym past.1 ∙ is in cc) (slice_get_cases ns g).1

-- the gates up to that of input j are j inputs at least
window : (ns : List Node) → IsCircuit ns → (j : ℕ) → j ≤ input_count ns → j ≤ count_by is_input (take (2 + j) ns)
window ns circuit zero le = omega arith
window ns circuit (suc j) le =
    let there = circuit.inputs j (omega (arith, le)) in
    let inside = inside_from_slice_get ns (2 + j) (Input j) there in
    let node : get_or ns (2 + j) (Constant false) ≡ Input j = get_or_from_slice_get ns (2 + j) (Input j) (Constant false) there in
    let before = window ns circuit j (omega (arith, le)) in
    let step = count_by_more_yes is_input ns (2 + j) (Constant false) inside (ap is_input node) in
    let same : 2 + j + 1 ≡ 2 + suc j = omega arith in
    omega (arith, before, step, ap (λ i. count_by is_input (take i ns)) same)

count_by-split : (ns : List Node) (i : ℕ) → count_by is_input (take i ns) ≤ count_by is_input ns
count_by-split ns i =
    let weight : Node → ℕ = λ node. cond (is_input node) 1 0 in
    let parts : count_by is_input (take i ns ++ drop i ns) ≡ count_by is_input (take i ns) + count_by is_input (drop i ns) =
    sum_by-append weight (take i ns) (drop i ns) in
    let whole : count_by is_input (take i ns ++ drop i ns) ≡ count_by is_input ns = ap (count_by is_input) (take-append-drop i ns) in
    omega (arith, parts, whole)

pub input_place : (ns : List Node) → IsCircuit ns → (g k : ℕ) → slice_get ns g ≡ Some (Input k) → (k < input_count ns) × (g ≡ 2 + k)
unfolding input_count
input_place ns circuit g k is =
    let few : k < count_by is_input ns = circuit.earlier g (Input k) is in
    let m : ℕ = count_by is_input ns in (
      few,
      ⊎_elim
          (λ first. ⊎_elim
          (λ at_0. let z : g ≡ 0 = omega (arith, at_0) in let c = sym (ap (slice_get ns) z) ∙ is in let d = sym circuit.zero ∙ c in cc)
          (λ at_1. let z : g ≡ 1 = omega (arith, at_1, first) in let c = sym (ap (slice_get ns) z) ∙ is in let d = sym circuit.one ∙ c in cc)
          (cases_lt g 1))
          (λ later. ⊎_elim
          (λ within.
          let j : ℕ = g - 2 in
          let z : g ≡ 2 + j = omega (arith, later) in
          let there = circuit.inputs j (omega (arith, within, later)) in
          let d = sym there ∙ sym (ap (slice_get ns) z) ∙ is in
          let same : j ≡ k = cc in
          z ∙ ap (λ i. 2 + i) same)
          (λ past.
          let node : get_or ns g (Constant false) ≡ Input k = get_or_from_slice_get ns g (Input k) (Constant false) is in
          let step = count_by_more_yes is_input ns g (Constant false) (inside_from_slice_get ns g (Input k) is) (ap is_input node) in
          let low = window ns circuit m (omega arith) in
          let front : count_by is_input (take (2 + m) ns) ≤ count_by is_input (take g ns) =
          subst (λ xs. count_by is_input xs ≤ count_by is_input (take g ns)) (take-take (2 + m) g ns past) (count_by-split (take g ns) (2 + m)) in
          let all = count_by-split ns (g + 1) in
          absurd (omega (arith, step, low, front, all)))
          (cases_lt g (2 + m)))
          (cases_lt g 2),
    )
