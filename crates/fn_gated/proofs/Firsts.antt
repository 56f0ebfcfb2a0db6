-- What gates say of all choices of the inputs, as the first list of bits that passes a test.
use Rattle.std.proofs.Common.{◌≡◌, ◌∙◌, ℕ, ◌<◌, Bool, true, false, ◌&&◌, List, [], ◌∷◌, length, get_or, Option, Some, None, refl, sym, subst, ap, arith}
use Rattle.std.proofs.lemmas.List.{ext_get_or}
use Rattle.std.proofs.lemmas.List.FromFn.{get_or-map-range_with_len, length-map-range_with_len}
use Rattle.std.proofs.lemmas.Bool.{false≢true}
use Rattle.std.specs.Prelude.{MatchBool, MatchOption, Vec}
use Rattle.std.specs.declared.alloc.Global.{Global}
use Rattle.bit_net.specs.declared.nodes.Gate.{Gate}
use Rattle.bit_net.specs.declared.nodes.Node.{Node}
use Rattle.bit_net.specs.declared.nodes.Node.TheVariants.{Constant, Input, Not, And, Or, Xor, Mux}
use Rattle.bit_net.specs.Value.{bit_at, table, value}
use Rattle.bit_net.specs.Circuit.{input_count, IsCircuit, ReadsBelow}
use Rattle.bit_net.specs.Runs.{Runs, Fits}
use Rattle.query.specs.Values.{is_before}
use Rattle.gate_questions.specs.Holds.{all_hold, SomeHolds, NoneHolds, bits_of, IsFirst}
use Rattle.sc_world.specs.Choices.{first_choice, Before, here, behind, IsLeast}
use Rattle.sc_world.specs.Source.{Source}
use Rattle.sc_world.specs.World as world
use Rattle.sc_world.specs.Paths.{Texts}
use Rattle.sc_world.specs.Shows.{Query}
use Rattle.sc_world.specs.Verdict.{shows, first_run, is_there}
use Rattle.flow_ends.specs.Encoded.{IsAnswer}

-- ---- one list of bits before another

-- one that is not after another of its length, and not before it, is the other
neither : (as' bs : List Bool) → length as' ≡ length bs → is_before as' bs ≡ true → (Before as' bs → ⊥) → as' ≡ bs
neither [] [] long is none = refl
neither [] (b ∷ bs) long is none = absurd (omega (arith, long))
neither (a ∷ as') [] long is none = absurd (omega (arith, long))
neither (false ∷ as') (true ∷ bs) long is none = absurd (none (here as' bs))
neither (true ∷ as') (false ∷ bs) long is none = absurd (false≢true is)
neither (false ∷ as') (false ∷ bs) long is none =
    ap (λ xs. false ∷ xs) (neither as' bs (omega (arith, long)) is (λ less. none (behind false as' bs less)))
neither (true ∷ as') (true ∷ bs) long is none =
    ap (λ xs. true ∷ xs) (neither as' bs (omega (arith, long)) is (λ less. none (behind true as' bs less)))

-- ---- the bits of a choice

bit_is : (w : List Bool) (k : ℕ) → bit_at w k ≡ get_or w k false
unfolding bit_at
bit_is w k = refl

long_bits : (n : ℕ) (choice : ℕ → Bool) → length (bits_of n choice) ≡ n
long_bits n choice = length-map-range_with_len choice 0 n

same_bit : (n : ℕ) (choice : ℕ → Bool) (k : ℕ) → k < n → world.bit_at (bits_of n choice) k ≡ choice k
same_bit n choice k few = get_or-map-range_with_len choice 0 n k k false few (omega arith)

-- the bits that a list of them gives are the list
own_bits : (n : ℕ) (bits : List Bool) → length bits ≡ n → bits_of n (bit_at bits) ≡ bits
own_bits n bits long =
    let wide : length (bits_of n (bit_at bits)) ≡ n = long_bits n (bit_at bits) in
    ext_get_or false (bits_of n (bit_at bits)) bits (wide ∙ sym long)
    (λ k less. get_or-map-range_with_len (bit_at bits) 0 n k k false (omega (arith, less, wide)) (omega arith) ∙ bit_is bits k)

-- the table of a node reads no bits but those of the inputs
table_with : (ns : List Node) (choice v : ℕ → Bool) (g : ℕ) (n : Node) → ReadsBelow g (input_count ns) n
    → table choice v n ≡ table (world.bit_at (bits_of (input_count ns) choice)) v n
table_with ns choice v g (Constant b) reads = refl
table_with ns choice v g (Input k) reads = sym (same_bit (input_count ns) choice k reads)
table_with ns choice v g (Not a) reads = refl
table_with ns choice v g (And a b) reads = refl
table_with ns choice v g (Or a b) reads = refl
table_with ns choice v g (Xor a b) reads = refl
table_with ns choice v g (Mux c a b) reads = refl

-- what the laws on nets say
pub record Nets : Type 0 where
  pub fits : (ns : List Node) (choice v : ℕ → Bool) → IsCircuit ns → Runs ns choice v → Fits ns choice v
  pub runs : (ns : List Node) (choice v : ℕ → Bool) → IsCircuit ns → Fits ns choice v → Runs ns choice v
  pub values : (ns : List Node) (choice : ℕ → Bool) → Runs ns choice (value choice ns)

-- the gates have the values that they have for the bits of the choice
run_of_bits : Nets → (ns : List Node) (choice : ℕ → Bool) → IsCircuit ns → Runs ns (world.bit_at (bits_of (input_count ns) choice)) (value choice ns)
run_of_bits nets ns choice circuit =
    let fits : Fits ns choice (value choice ns) = nets.fits ns choice (value choice ns) circuit (nets.values ns choice) in
    nets.runs ns (world.bit_at (bits_of (input_count ns) choice)) (value choice ns) circuit
    (record { table = λ g n is. fits.table g n is ∙ table_with ns choice (value choice ns) g n (circuit.earlier g n is) })

-- what the law on first choices says
pub record Firsts : Type 0 where
  pub least : (n : ℕ) (test : List Bool → Bool) (c : List Bool) → first_choice n test ≡ Some c → IsLeast n test c
  pub some : (n : ℕ) (test : List Bool → Bool) (d : List Bool) → length d ≡ n → test d ≡ true → (c : List Bool) × (first_choice n test ≡ Some c)

-- ---- the gate of a question

one_holds : (v : ℕ → Bool) (g : Gate) → all_hold v (g ∷ []) ≡ v g.at
one_holds v g = go (v g.at)
  where
    go : (b : Bool) → (b && true) ≡ b
    go true = refl
    go false = refl

module _ (nets : Nets) (s : Source) (x : Texts) (q : Query) (ns : List Node) (g : Gate)
    (circuit : IsCircuit ns) (inputs : input_count ns ≡ x.layout.bits) (answer : IsAnswer s x ns q g.at) where
  -- the gate holds for a choice where the run on its bits answers yes
  says_bits : (choice : ℕ → Bool) → all_hold (value choice ns) (g ∷ []) ≡ shows s x q (bits_of x.layout.bits choice)
  says_bits choice =
      let n = x.layout.bits in
      let run = run_of_bits nets ns choice circuit in
      one_holds (value choice ns) g
      ∙ answer.says (bits_of n choice) (let wide = long_bits n choice in omega (arith, wide)) (value choice ns)
      (subst (λ m. Runs ns (world.bit_at (bits_of m choice)) (value choice ns)) inputs run)

  says_list : (bits : List Bool) → length bits ≡ x.layout.bits → all_hold (value (bit_at bits) ns) (g ∷ []) ≡ shows s x q bits
  says_list bits long = says_bits (bit_at bits) ∙ ap (shows s x q) (own_bits x.layout.bits bits long)

  module _ (firsts : Firsts) where
    pub some_answers : SomeHolds ns (g ∷ []) → is_there (first_run s x q) ≡ true
    some_answers some =
        let n = x.layout.bits in
        let found = firsts.some n (shows s x q) (bits_of n some.0) (long_bits n some.0) (sym (says_bits some.0) ∙ some.1) in
        ap is_there found.1

    pub none_answers : NoneHolds ns (g ∷ []) → first_run s x q ≡ None
    none_answers none = go (first_run s x q) refl
      where
        go : (o : Option (List Bool)) → first_run s x q ≡ o → o ≡ None
        go None e = refl
        go (Some c) e =
            let least = firsts.least x.layout.bits (shows s x q) c e in
            absurd (false≢true (sym (none (bit_at c)) ∙ says_list c least.long ∙ least.passes))

    pub first_answers : (bits : List Bool) → IsFirst ns (g ∷ []) bits → first_run s x q ≡ Some bits
    first_answers bits first =
        let n = x.layout.bits in
        let long : length bits ≡ n = first.size ∙ inputs in
        let passes : shows s x q bits ≡ true = sym (says_list bits long) ∙ first.holds in
        let found = firsts.some n (shows s x q) bits long passes in
        let least = firsts.least n (shows s x q) found.0 found.1 in
        let before : is_before bits found.0 ≡ true =
        ap (is_before bits) (sym (own_bits n found.0 least.long) ∙ ap (λ m. bits_of m (bit_at found.0)) (sym inputs))
        ∙ first.first (bit_at found.0) (says_list found.0 least.long ∙ least.passes) in
        found.1
        ∙ ap Some
        (sym
        (neither bits found.0 (long ∙ sym least.long) before
        (λ less. false≢true (sym (least.least bits long less) ∙ passes))))

-- ---- what was found of a gate is what the runs answer

pub some_found : (s : Source) (x : Texts) (q : Query) (ns : List Node) (g : Gate) (holds : Bool)
    → (SomeHolds ns (g ∷ []) → is_there (first_run s x q) ≡ true) → (NoneHolds ns (g ∷ []) → first_run s x q ≡ None)
    → MatchBool holds (SomeHolds ns (g ∷ [])) (NoneHolds ns (g ∷ [])) → holds ≡ is_there (first_run s x q)
some_found s x q ns g true some none answer = sym (some answer)
some_found s x q ns g false some none answer = sym (ap is_there (none answer))

pub first_found : (s : Source) (x : Texts) (q : Query) (ns : List Node) (g : Gate) (found : Option (Vec Bool Global))
    → (NoneHolds ns (g ∷ []) → first_run s x q ≡ None)
    → ((bits : List Bool) → IsFirst ns (g ∷ []) bits → first_run s x q ≡ Some bits)
    → MatchOption found (NoneHolds ns (g ∷ [])) (λ w. IsFirst ns (g ∷ []) w.items)
    → MatchOption found (first_run s x q ≡ None) (λ w. first_run s x q ≡ Some w.items)
first_found s x q ns g None none first answer = none answer
first_found s x q ns g (Some w) none first answer = first w.items answer
