-- The nodes of a new net, and the values that `values_into` has written so far.
use Rattle.std.proofs.Common.{◌≡◌, ℕ, zero, suc, ◌+◌, ◌<◌, ◌≤◌, Bool, true, false, List, [], ◌∷◌, ◌++◌, length, take, set, get_or, slice_get, Some, refl, sym, ◌∙◌, ap, subst, arith, add-one, length-append, length-take, ◌⊎◌, inl, inr}
use Rattle.std.proofs.lemmas.Grind.{common_steps}
use Rattle.std.proofs.lemmas.Bool.{cases_lt}
use Rattle.std.proofs.lemmas.List.{take_more, take_more_set}
use Rattle.std.proofs.lemmas.Option.{slice_get-get_or}
use Rattle.std.specs.List.{count_by}
use Rattle.bit_net.specs.declared.nodes.Node.{Node}
use Rattle.bit_net.specs.declared.nodes.Node.TheVariants.{Constant, Input, Not, And, Or, Xor, Mux}
use Rattle.bit_net.specs.Value.{bit_at, table, values}
use Rattle.bit_net.specs.Circuit.{is_input, input_count, first_nodes, ReadsBelow, IsCircuit}
use Rattle.bit_net.proofs.ListLemmas.{slice_get_front, slice_get_end, slice_get_push}
use Rattle.bit_net.proofs.ValueLemmas.{values-push}

reads_more : (g n : ℕ) (m : Node) → ReadsBelow g n m → ReadsBelow g (suc n) m
reads_more g n (Constant b) r = r
reads_more g n (Input k) r = omega arith
reads_more g n (Not a) r = r
reads_more g n (And a b) r = r
reads_more g n (Or a b) r = r
reads_more g n (Xor a b) r = r
reads_more g n (Mux c a b) r = r

pub length-first_nodes : (n : ℕ) → length (first_nodes n) ≡ 2 + n
unfolding first_nodes
length-first_nodes zero = refl
length-first_nodes (suc n) = omega (arith, length-append (first_nodes n) (Input n ∷ []), length-first_nodes n)

count_by-push : (ns : List Node) (k : ℕ) → count_by is_input (ns ++ Input k ∷ []) ≡ count_by is_input ns + 1
count_by-push [] k = refl
count_by-push (m ∷ ns) k = grind (arith, common_steps, count_by-push ns k)

pub input_count-first_nodes : (n : ℕ) → input_count (first_nodes n) ≡ n
unfolding first_nodes input_count
input_count-first_nodes zero = refl
input_count-first_nodes (suc n) = omega (arith, count_by-push (first_nodes n) n, input_count-first_nodes n)

pub first_nodes-input : (n k : ℕ) → k < n → slice_get (first_nodes n) (2 + k) ≡ Some (Input k)
unfolding first_nodes
first_nodes-input zero k h = absurd (omega arith)
first_nodes-input (suc n) k h = by (cases_lt k n) (first_nodes-input n k)
  where
    by : (k < n) ⊎ (n ≤ k) → (k < n → slice_get (first_nodes n) (2 + k) ≡ Some (Input k)) → slice_get (first_nodes n ++ Input n ∷ []) (2 + k) ≡ Some (Input k)
    by (inl low) before = slice_get_front (first_nodes n) (Input n ∷ []) (2 + k) (Input k) (before low)
    by (inr high) before =
        let last : n ≡ k = omega arith in
        let here : length (first_nodes n) ≡ 2 + k = omega (arith, length-first_nodes n) in
        subst (λ (j : ℕ). slice_get (first_nodes n ++ Input n ∷ []) j ≡ Some (Input k)) here (slice_get_end (first_nodes n) (Input n) ∙ ap (λ j. Some (Input j)) last)

pub first_nodes-constants : (n : ℕ) → (slice_get (first_nodes n) 0 ≡ Some (Constant false)) × (slice_get (first_nodes n) 1 ≡ Some (Constant true))
unfolding first_nodes
first_nodes-constants zero = (refl, refl)
first_nodes-constants (suc n) =
    let before = first_nodes-constants n in
    (slice_get_front (first_nodes n) (Input n ∷ []) 0 _ before.0, slice_get_front (first_nodes n) (Input n ∷ []) 1 _ before.1)

some_value : {A : Type 0} (x y : A) → Some x ≡ Some y → x ≡ y
some_value x y e = cc

-- a node of the first ones is a constant, or an input below the count
reads_first : (n g : ℕ) (m : Node) → slice_get (first_nodes n) g ≡ Some m → ReadsBelow g n m
unfolding first_nodes
reads_first zero zero m h = subst (ReadsBelow 0 0) (some_value (Constant false) m h) tt
reads_first zero (suc zero) m h = subst (ReadsBelow 1 0) (some_value (Constant true) m h) tt
reads_first zero (suc (suc g)) m h = absurd (cc)
reads_first (suc n) g m h =
    elim (slice_get_push (first_nodes n) (Input n) g m h) [
      | inl before ↦ reads_more g n m (reads_first n g m before)
      | inr here ↦ subst (ReadsBelow g (suc n)) here.1 (let low : n < suc n = omega arith in low)
    ]

pub IsCircuit-first_nodes : (n : ℕ) → IsCircuit (first_nodes n)
IsCircuit-first_nodes n = record {
  zero = (first_nodes-constants n).0;
  one = (first_nodes-constants n).1;
  inputs = λ k h. first_nodes-input n k (subst (λ (i : ℕ). k < i) (input_count-first_nodes n) h);
  earlier = λ g m at. subst (λ (i : ℕ). ReadsBelow g i m) (sym (input_count-first_nodes n)) (reads_first n g m at);
}

-- one more input behind the first nodes
pub first_nodes-more : (n : ℕ) → first_nodes (n + 1) ≡ first_nodes n ++ Input n ∷ []
unfolding first_nodes
first_nodes-more n = rw add-one refl

-- the nodes of a net without inputs
pub first_nodes-none : first_nodes 0 ≡ Constant false ∷ Constant true ∷ []
unfolding first_nodes
first_nodes-none = refl

pub values-none : (choice : ℕ → Bool) → [] ≡ values choice []
unfolding values
values-none choice = refl

-- the values written so far, where the next one is written
pub values-more : (choice : ℕ → Bool) (ns : List Node) (room : List Bool) (g : ℕ) (d : Node) → g < length ns → g < length room → take g room ≡ values choice (take g ns)
    → take (g + 1) (set room g (table choice (bit_at (take g room)) (get_or ns g d))) ≡ values choice (take (g + 1) ns)
values-more choice ns room g d low inside so_far =
    let next = table choice (bit_at (take g room)) (get_or ns g d) in
    take_more_set room g next inside
    ∙ ap (λ (l : List Bool). l ++ table choice (bit_at l) (get_or ns g d) ∷ []) so_far
    ∙ sym (values-push choice (take g ns) (get_or ns g d))
    ∙ sym (ap (values choice) (take_more ns g d low))

-- a node of a circuit reads what `values_into` has written, and the choice
pub reads_written : (ns : List Node) (choice room : List Bool) (g : ℕ) (d : Node) → IsCircuit ns → length choice ≡ input_count ns → g < length ns → g < length room
    → ReadsBelow (length (take g room)) (length choice) (get_or ns g d)
reads_written ns choice room g d c wide low inside =
    let written : g ≡ length (take g room) = omega (arith, length-take g room) in
    let reads = c.earlier g (get_or ns g d) (slice_get-get_or ns g d low) in
    subst (λ (k : ℕ). ReadsBelow k (length choice) (get_or ns g d)) written
    (subst (λ (k : ℕ). ReadsBelow g k (get_or ns g d)) (sym wide) reads)
