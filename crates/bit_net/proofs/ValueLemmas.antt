-- The values of a net: one for each node, those of a front stay when nodes follow, and each is its node's truth table.
use Rattle.std.proofs.Common.{◌≡◌, ℕ, ◌+◌, ◌<◌, Bool, false, not, List, [], ◌∷◌, ◌++◌, length, get_or, slice_get, Some, refl, sym, ◌∙◌, ap, subst, arith, length-append, append_assoc}
use Rattle.std.proofs.Math.ListN.{get_or-append}
use Rattle.std.proofs.Math.Seq.{get_or-append_seam}
use Rattle.bit_net.specs.declared.nodes.Node.{Node}
use Rattle.bit_net.specs.declared.nodes.Node.TheVariants.{Constant, Input, Not, And, Or, Xor, Mux}
use Rattle.bit_net.specs.Value.{bit_at, table, values_from, values, value}
use Rattle.bit_net.specs.Circuit.{ReadsBelow}
use Rattle.bit_net.proofs.ListLemmas.{split_at_place}

pub values_from-append : (choice : ℕ → Bool) (seen : List Bool) (ms ns : List Node) → values_from choice seen (ms ++ ns) ≡ values_from choice (values_from choice seen ms) ns
values_from-append choice seen [] ns = refl
values_from-append choice seen (m ∷ ms) ns = values_from-append choice (seen ++ table choice (bit_at seen) m ∷ []) ms ns

pub length-values_from : (choice : ℕ → Bool) (seen : List Bool) (ns : List Node) → length (values_from choice seen ns) ≡ length seen + length ns
length-values_from choice seen [] = omega arith
length-values_from choice seen (n ∷ ns) =
    let b = table choice (bit_at seen) n in
    omega (arith, length-values_from choice (seen ++ b ∷ []) ns, length-append seen (b ∷ []))

pub bit_at-append : (xs ys : List Bool) (g : ℕ) → g < length xs → bit_at (xs ++ ys) g ≡ bit_at xs g
unfolding bit_at
bit_at-append xs ys g h = get_or-append xs ys false g h

pub bit_at-values_from : (choice : ℕ → Bool) (seen : List Bool) (ns : List Node) (g : ℕ) → g < length seen → bit_at (values_from choice seen ns) g ≡ bit_at seen g
bit_at-values_from choice seen [] g h = refl
bit_at-values_from choice seen (n ∷ ns) g h =
    let b = table choice (bit_at seen) n in
    let longer : g < length (seen ++ b ∷ []) = omega (arith, length-append seen (b ∷ [])) in
    bit_at-values_from choice (seen ++ b ∷ []) ns g longer ∙ bit_at-append seen (b ∷ []) g h

pub length-values : (choice : ℕ → Bool) (ns : List Node) → length (values choice ns) ≡ length ns
unfolding values
length-values choice ns = omega (arith, length-values_from choice [] ns)

pub value-front : (choice : ℕ → Bool) (ms ns : List Node) (g : ℕ) → g < length ms → value choice (ms ++ ns) g ≡ value choice ms g
unfolding value values
value-front choice ms ns g h =
    let inside : g < length (values_from choice [] ms) = omega (arith, length-values_from choice [] ms) in
    rw (values_from-append choice [] ms ns) (bit_at-values_from choice (values_from choice [] ms) ns g inside)

pub values-push : (choice : ℕ → Bool) (ms : List Node) (n : Node) → values choice (ms ++ n ∷ []) ≡ values choice ms ++ table choice (bit_at (values choice ms)) n ∷ []
unfolding values
values-push choice ms n = values_from-append choice [] ms (n ∷ [])

pub value-end : (choice : ℕ → Bool) (ms : List Node) (n : Node) → value choice (ms ++ n ∷ []) (length ms) ≡ table choice (value choice ms) n
unfolding value bit_at
value-end choice ms n =
    let last = table choice (bit_at (values choice ms)) n in
    rw (values-push choice ms n)
    (subst (λ (k : ℕ). get_or (values choice ms ++ last ∷ []) k false ≡ last) (length-values choice ms) (get_or-append_seam (values choice ms) last [] false))

-- the table of a node that reads gates below g is the same at values that agree there
pub table-agree : (choice u v : ℕ → Bool) (g inputs : ℕ) (n : Node) → ReadsBelow g inputs n → ((k : ℕ) → k < g → u k ≡ v k) → table choice u n ≡ table choice v n
table-agree choice u v g inputs (Constant b) r same = refl
table-agree choice u v g inputs (Input k) r same = refl
table-agree choice u v g inputs (Not a) r same = ap not (same a.at r)
table-agree choice u v g inputs (And a b) r same = cc (same a.at r.0, same b.at r.1)
table-agree choice u v g inputs (Or a b) r same = cc (same a.at r.0, same b.at r.1)
table-agree choice u v g inputs (Xor a b) r same = cc (same a.at r.0, same b.at r.1)
table-agree choice u v g inputs (Mux c a b) r same = cc (same c.at r.0, same a.at r.1, same b.at r.2)

-- the value of a gate is its node's table over the values of the net
pub value-node : (choice : ℕ → Bool) (ns : List Node) (g inputs : ℕ) (n : Node) → slice_get ns g ≡ Some n → ReadsBelow g inputs n → value choice ns g ≡ table choice (value choice ns) n
value-node choice ns g inputs n here reads =
    let s = split_at_place ns g n here in
    let front = s.0 in
    let back = s.1 in
    let whole : ns ≡ front ++ n ∷ back = s.2 in
    let place : length front ≡ g = s.3 in
    let regroup : (front ++ n ∷ []) ++ back ≡ ns = append_assoc front (n ∷ []) back ∙ sym whole in
    let inside : g < length (front ++ n ∷ []) = omega (arith, length-append front (n ∷ [])) in
    let outer : value choice ns g ≡ value choice (front ++ n ∷ []) g = subst (λ (l : List Node). value choice l g ≡ value choice (front ++ n ∷ []) g) regroup (value-front choice (front ++ n ∷ []) back g inside) in
    let last : value choice (front ++ n ∷ []) g ≡ table choice (value choice front) n = subst (λ (k : ℕ). value choice (front ++ n ∷ []) k ≡ table choice (value choice front) n) place (value-end choice front n) in
    let agree : (k : ℕ) → k < g → value choice front k ≡ value choice ns k =
    λ (k : ℕ) (low : k < g). (let low' : k < length front = omega arith in
    subst (λ (l : List Node). value choice front k ≡ value choice l k) (sym whole) (sym (value-front choice front (n ∷ back) k low'))) in
    outer ∙ last ∙ table-agree choice (value choice front) (value choice ns) g inputs n reads agree
