-- The runs of a circuit are the values that fit its tables, and the values of its gates are one.
use Rattle.std.proofs.Common.{◌≡◌, ℕ, zero, suc, ◌<◌, Bool, List, length, slice_get, get_or, true, Some, refl, sym, ◌∙◌, arith}
use Rattle.std.proofs.lemmas.Option.{slice_get-get_or}
use Rattle.bit_net.specs.declared.nodes.Node.{Node}
use Rattle.bit_net.specs.declared.nodes.Node.TheVariants.{Constant}
use Rattle.bit_net.specs.Value.{value}
use Rattle.bit_net.specs.Circuit.{input_count, IsCircuit}
use Rattle.bit_net.specs.Runs.{Runs, Grown, Fits}
use Rattle.bit_net.proofs.ValueLemmas.{table-agree, value-node}
use Rattle.bit_net.proofs.CircuitLemmas.{Gives-node}

pub Runs-value : (ns : List Node) (choice : ℕ → Bool) → Runs ns choice (value choice ns)
Runs-value ns choice = record { same = λ g h. refl }

pub value-Grown : (old new : List Node) (g : ℕ) (choice : ℕ → Bool) → Grown old new → g < length old → value choice new g ≡ value choice old g
value-Grown old new g choice grown h = (grown.runs choice (value choice new) (Runs-value new choice)).same g h

pub Fits-Runs : (ns : List Node) (choice v : ℕ → Bool) → IsCircuit ns → Runs ns choice v → Fits ns choice v
Fits-Runs ns choice v c r = record { table = λ g n here. (Gives-node ns g n c here).value choice v r }

-- below each bound the values that fit the tables are those of the gates
fits_below : (ns : List Node) (choice v : ℕ → Bool) → IsCircuit ns → Fits ns choice v → (bound g : ℕ) → g < bound → g < length ns → v g ≡ value choice ns g
fits_below ns choice v c f zero g low inside = absurd (omega arith)
fits_below ns choice v c f (suc bound) g low inside =
    let n = get_or ns g (Constant true) in
    let here : slice_get ns g ≡ Some n = slice_get-get_or ns g (Constant true) inside in
    let reads = c.earlier g n here in
    f.table g n here ∙ table-agree choice v (value choice ns) g (input_count ns) n reads
    (λ k less. fits_below ns choice v c f bound k (omega arith) (omega arith))
    ∙ sym (value-node choice ns g (input_count ns) n here reads)

pub Runs-Fits : (ns : List Node) (choice v : ℕ → Bool) → IsCircuit ns → Fits ns choice v → Runs ns choice v
Runs-Fits ns choice v c f = record { same = λ g h. fits_below ns choice v c f (length ns) g h h }
