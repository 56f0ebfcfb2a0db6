-- What a new node leaves of a net: a circuit, longer, with the values of earlier gates.
use Rattle.std.proofs.Common.{◌≡◌, ℕ, ◌+◌, ◌<◌, Bool, true, false, List, [], ◌∷◌, ◌++◌, length, slice_get, Some, refl, sym, ◌∙◌, subst, arith, length-append, if◌then◌else◌, inl, inr}
use Rattle.std.proofs.lemmas.Option.{slice_get_within}
use Rattle.std.proofs.lemmas.Grind.{common_steps}
use Rattle.std.specs.List.{count_by}
use Rattle.bit_net.specs.declared.nodes.Node.{Node}
use Rattle.bit_net.specs.declared.nodes.Node.TheVariants.{Constant, Input, Not, And, Or, Xor, Mux}
use Rattle.bit_net.specs.Value.{table, value}
use Rattle.bit_net.specs.Circuit.{is_input, input_count, ReadsBelow, IsCircuit}
use Rattle.bit_net.specs.Runs.{Grown, Gives}
use Rattle.bit_net.proofs.Growth.{Grown-refl}
use Rattle.bit_net.proofs.ListLemmas.{slice_get_front, slice_get_push}
use Rattle.bit_net.proofs.ValueLemmas.{value-front, value-node, table-agree}

-- a node that reads no input is none
pub no_input : (g : ℕ) (n : Node) → ReadsBelow g 0 n → is_input n ≡ false
no_input g (Constant b) r = refl
no_input g (Input k) r = absurd (omega arith)
no_input g (Not a) r = refl
no_input g (And a b) r = refl
no_input g (Or a b) r = refl
no_input g (Xor a b) r = refl
no_input g (Mux c a b) r = refl

pub ReadsBelow-more : (g inputs : ℕ) (n : Node) → ReadsBelow g 0 n → ReadsBelow g inputs n
ReadsBelow-more g inputs (Constant b) r = r
ReadsBelow-more g inputs (Input k) r = absurd (omega arith)
ReadsBelow-more g inputs (Not a) r = r
ReadsBelow-more g inputs (And a b) r = r
ReadsBelow-more g inputs (Or a b) r = r
ReadsBelow-more g inputs (Xor a b) r = r
ReadsBelow-more g inputs (Mux c a b) r = r

input_count-loop : (ns : List Node) (n : Node) → is_input n ≡ false → count_by is_input (ns ++ n ∷ []) ≡ count_by is_input ns
input_count-loop [] n e = grind (arith, common_steps)
input_count-loop (m ∷ ns) n e = grind (arith, common_steps, input_count-loop ns n e)

pub input_count-push : (ns : List Node) (n : Node) → is_input n ≡ false → input_count (ns ++ n ∷ []) ≡ input_count ns
unfolding input_count
input_count-push ns n e = input_count-loop ns n e

pub Grown-push : (ns : List Node) (n : Node) → is_input n ≡ false → Grown ns (ns ++ n ∷ [])
Grown-push ns n e = record {
  longer = omega (arith, length-append ns (n ∷ []));
  inputs = input_count-push ns n e;
  runs = λ choice v r. record { same = λ g low. r.same g (omega (arith, length-append ns (n ∷ []))) ∙ value-front choice ns (n ∷ []) g low };
}

pub IsCircuit-push : (ns : List Node) (n : Node) → IsCircuit ns → ReadsBelow (length ns) 0 n → IsCircuit (ns ++ n ∷ [])
IsCircuit-push ns n old reads =
    let count = input_count-push ns n (no_input (length ns) n reads) in
    record {
      zero = slice_get_front ns (n ∷ []) 0 _ old.zero;
      one = slice_get_front ns (n ∷ []) 1 _ old.one;
      inputs = λ k h. slice_get_front ns (n ∷ []) (2 + k) _ (old.inputs k (subst (λ (i : ℕ). k < i) count h));
      earlier = λ g m at. subst (λ (i : ℕ). ReadsBelow g i m) (sym count)
          (elim (slice_get_push ns n g m at) [
            | inl before ↦ old.earlier g m before
            | inr here ↦ subst (λ (j : ℕ). ReadsBelow j (input_count ns) m) (sym here.0) (subst (λ (x : Node). ReadsBelow (length ns) (input_count ns) x) here.1 (ReadsBelow-more (length ns) (input_count ns) n reads))
          ]);
    }

-- a gate of a circuit has the value of its node's table
pub Gives-node : (ns : List Node) (g : ℕ) (n : Node) → IsCircuit ns → slice_get ns g ≡ Some n → Gives ns g (λ choice v. table choice v n)
Gives-node ns g n c here = record {
  below = slice_get_within ns g n here;
  value = λ choice v r. r.same g (slice_get_within ns g n here) ∙ value-node choice ns g (input_count ns) n here (c.earlier g n here)
      ∙ sym (table-agree choice v (value choice ns) g (input_count ns) n (c.earlier g n here) (λ k low. r.same k (omega (arith, slice_get_within ns g n here))));
}

-- a net, and the same net or the net with one node more
pub data Adds (old : List Node) (n : Node) : List Node → Type 0 where
  Same : Adds old n old
  More : Adds old n (old ++ n ∷ [])

pub Adds-by_test : (old new : List Node) (n : Node) (known : Bool) → new ≡ (if known then old else old ++ n ∷ []) → Adds old n new
Adds-by_test old new n true e = subst (Adds old n) (sym e) Same
Adds-by_test old new n false e = subst (Adds old n) (sym e) More

pub IsCircuit-Adds : (old new : List Node) (n : Node) → Adds old n new → IsCircuit old → ReadsBelow (length old) 0 n → IsCircuit new
IsCircuit-Adds old new n Same c reads = c
IsCircuit-Adds old new n More c reads = IsCircuit-push old n c reads

pub Grown-Adds : (old new : List Node) (n : Node) → Adds old n new → ReadsBelow (length old) 0 n → Grown old new
Grown-Adds old new n Same reads = Grown-refl old
Grown-Adds old new n More reads = Grown-push old n (no_input (length old) n reads)
