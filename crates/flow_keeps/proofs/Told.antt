-- The gate with a number.
use Rattle.std.proofs.Common.{◌≡◌, ℕ, zero, suc, ◌+◌, ◌<◌, ◌≤◌, Bool, true, false, ◌&&◌, List, [], ◌∷◌, length, slice_index_or, refl, sym, ◌∙◌, ap, arith}
use Rattle.bit_net.specs.declared.nodes.Gate.{Gate}
use Rattle.bit_net.specs.declared.nodes.Node.{Node}
use Rattle.bit_net.specs.Runs.{Gives}
use Rattle.gate_runs.specs.Stands.{told, gates_top}
use Rattle.flow_turns.proofs.Lists.{told_at, below_at}

pub gate_told : (ns : List Node) (gs : List Gate) (k : ℕ) → k < length gs → gates_top gs ≤ length ns → Gives ns (slice_index_or gs k (record { at = 0 })).at (λ choice v. told v gs k)
gate_told ns gs k low top = record {
  below = (let b = below_at gs k (record { at = 0 }) low in omega arith);
  value = λ choice v r. told_at v gs k (record { at = 0 }) low;
}

past : (v : ℕ → Bool) (gs : List Gate) (k : ℕ) → length gs ≤ k → told v gs k ≡ false
unfolding told
past v [] k low = refl
past v (g ∷ gs) zero low = absurd (omega arith)
past v (g ∷ gs) (suc k) low = past v gs k (omega arith)

pub never_told : (ns : List Node) (gs : List Gate) (k g : ℕ) → length gs ≤ k → Gives ns g (λ choice v. false) → Gives ns g (λ choice v. told v gs k)
never_told ns gs k g low h = record { below = h.below; value = λ choice v r. h.value choice v r ∙ sym (past v gs k low) }

pub and_true : (b : Bool) → b ≡ (b && true)
and_true true = refl
and_true false = refl
