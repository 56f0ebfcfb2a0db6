-- The clauses of a gate against its truth table.

use Rattle.std.proofs.Common.{◌≡◌, ℕ, Bool, true, false, not, ◌&&◌, ◌||◌, if◌then◌else◌, List, refl, ap, ◌∙◌}
use Rattle.bit_net.specs.Value.{xor}
use Rattle.sat_base.specs.declared.literal.Lit.{Lit}
use Rattle.sat_base.specs.Logic.{lit_true, all_true, negation}
use Rattle.clause_builder.specs.Adding.{Adds}
use Rattle.clause_builder.specs.Gates.{alike}

and_assoc : (a b c : Bool) → ((a && b) && c) ≡ (a && (b && c))
and_assoc true b c = refl
and_assoc false b c = refl

-- one test after the other
adds_more : (x y z : List (List Lit)) (t u : (ℕ → Bool) → Bool) → Adds x y t → Adds y z u → Adds x z (λ f. t f && u f)
adds_more x y z t u first next f =
    next f ∙ ap (λ b. b && u f) (first f) ∙ and_assoc (all_true f x) (t f) (u f)

adds_like : (x y : List (List Lit)) (t u : (ℕ → Bool) → Bool) → Adds x y t → ((f : ℕ → Bool) → t f ≡ u f) → Adds x y u
adds_like x y t u adds like f = adds f ∙ ap (λ b. all_true f x && b) (like f)

negated_value : (neg x : Bool) → (if not neg then not x else x) ≡ not (if neg then not x else x)
negated_value true true = refl
negated_value true false = refl
negated_value false true = refl
negated_value false false = refl

pub lit_true-negation : (f : ℕ → Bool) (l : Lit) → lit_true f (negation l) ≡ not (lit_true f l)
unfolding lit_true
lit_true-negation f l = negated_value l.neg (f l.var)

alike-true : (x : Bool) → x ≡ alike x true
alike-true true = refl
alike-true false = refl

alike-false : (x : Bool) → not x ≡ alike x false
alike-false true = refl
alike-false false = refl

pub adds_true : (x y : List (List Lit)) (out : Lit) → Adds x y (λ f. lit_true f out) → Adds x y (λ f. alike (lit_true f out) true)
adds_true x y out adds = adds_like x y (λ f. lit_true f out) (λ f. alike (lit_true f out) true) adds (λ f. alike-true (lit_true f out))

pub adds_false : (x y : List (List Lit)) (out : Lit)
    → Adds x y (λ f. lit_true f (negation out)) → Adds x y (λ f. alike (lit_true f out) false)
adds_false x y out adds =
    adds_like x y (λ f. lit_true f (negation out)) (λ f. alike (lit_true f out) false) adds
    (λ f. lit_true-negation f out ∙ alike-false (lit_true f out))

not_table : (o a : Bool) → ((o || a) && (not o || not a)) ≡ alike o (not a)
not_table true true = refl
not_table true false = refl
not_table false true = refl
not_table false false = refl

and_table : (o a b : Bool) → ((not o || a) && ((not o || b) && (o || not a || not b))) ≡ alike o (a && b)
and_table true true true = refl
and_table true true false = refl
and_table true false b = refl
and_table false true true = refl
and_table false true false = refl
and_table false false b = refl

xor_table : (o a b : Bool)
    → ((not o || a || b) && ((not o || not a || not b) && ((o || not a || b) && (o || a || not b)))) ≡ alike o (xor a b)
xor_table true true true = refl
xor_table true true false = refl
xor_table true false true = refl
xor_table true false false = refl
xor_table false true true = refl
xor_table false true false = refl
xor_table false false true = refl
xor_table false false false = refl

mux_table : (o c a b : Bool)
    → ((not o || not c || a) && ((o || not c || not a) && ((not o || c || b) && (o || c || not b)))) ≡ alike o (if c then a else b)
mux_table true true true b = refl
mux_table true true false b = refl
mux_table true false a true = refl
mux_table true false a false = refl
mux_table false true true b = refl
mux_table false true false b = refl
mux_table false false a true = refl
mux_table false false a false = refl

negated_true : (f : ℕ → Bool) (n l : Lit) → n ≡ negation l → lit_true f n ≡ not (lit_true f l)
negated_true f n l is = ap (lit_true f) is ∙ lit_true-negation f l

pub adds_not : (x y z : List (List Lit)) (o a nout na : Lit)
    → nout ≡ negation o → na ≡ negation a
    → Adds x y (λ f. lit_true f o || lit_true f a) → Adds y z (λ f. lit_true f nout || lit_true f na)
    → Adds x z (λ f. alike (lit_true f o) (not (lit_true f a)))
adds_not x y z o a nout na is_no is_na h1 h2 =
    let two = adds_more x y z (λ f. lit_true f o || lit_true f a) (λ f. lit_true f nout || lit_true f na) h1 h2 in
    adds_like x z (λ f. (lit_true f o || lit_true f a) && (lit_true f nout || lit_true f na)) (λ f. alike (lit_true f o) (not (lit_true f a))) two
    (λ f. rw (negated_true f nout o is_no, negated_true f na a is_na) (not_table (lit_true f o) (lit_true f a)))

pub adds_and : (w x y z : List (List Lit)) (o a b nout na nb : Lit)
    → nout ≡ negation o → na ≡ negation a → nb ≡ negation b
    → Adds w x (λ f. lit_true f nout || lit_true f a)
    → Adds x y (λ f. lit_true f nout || lit_true f b)
    → Adds y z (λ f. lit_true f o || lit_true f na || lit_true f nb)
    → Adds w z (λ f. alike (lit_true f o) (lit_true f a && lit_true f b))
adds_and w x y z o a b nout na nb is_no is_na is_nb h1 h2 h3 =
    let t1 : (ℕ → Bool) → Bool = λ f. lit_true f nout || lit_true f a in
    let t2 : (ℕ → Bool) → Bool = λ f. lit_true f nout || lit_true f b in
    let t3 : (ℕ → Bool) → Bool = λ f. lit_true f o || lit_true f na || lit_true f nb in
    let all = adds_more w x z t1 (λ f. t2 f && t3 f) h1 (adds_more x y z t2 t3 h2 h3) in
    adds_like w z (λ f. t1 f && (t2 f && t3 f)) (λ f. alike (lit_true f o) (lit_true f a && lit_true f b)) all
    (λ f.
    rw (negated_true f nout o is_no, negated_true f na a is_na, negated_true f nb b is_nb)
    (and_table (lit_true f o) (lit_true f a) (lit_true f b)))

pub adds_xor : (v w x y z : List (List Lit)) (o a b nout na nb : Lit)
    → nout ≡ negation o → na ≡ negation a → nb ≡ negation b
    → Adds v w (λ f. lit_true f nout || lit_true f a || lit_true f b)
    → Adds w x (λ f. lit_true f nout || lit_true f na || lit_true f nb)
    → Adds x y (λ f. lit_true f o || lit_true f na || lit_true f b)
    → Adds y z (λ f. lit_true f o || lit_true f a || lit_true f nb)
    → Adds v z (λ f. alike (lit_true f o) (xor (lit_true f a) (lit_true f b)))
adds_xor v w x y z o a b nout na nb is_no is_na is_nb h1 h2 h3 h4 =
    let t1 : (ℕ → Bool) → Bool = λ f. lit_true f nout || lit_true f a || lit_true f b in
    let t2 : (ℕ → Bool) → Bool = λ f. lit_true f nout || lit_true f na || lit_true f nb in
    let t3 : (ℕ → Bool) → Bool = λ f. lit_true f o || lit_true f na || lit_true f b in
    let t4 : (ℕ → Bool) → Bool = λ f. lit_true f o || lit_true f a || lit_true f nb in
    let all = adds_more v w z t1 (λ f. t2 f && (t3 f && t4 f)) h1 (adds_more w x z t2 (λ f. t3 f && t4 f) h2 (adds_more x y z t3 t4 h3 h4)) in
    adds_like v z (λ f. t1 f && (t2 f && (t3 f && t4 f))) (λ f. alike (lit_true f o) (xor (lit_true f a) (lit_true f b))) all
    (λ f.
    rw (negated_true f nout o is_no, negated_true f na a is_na, negated_true f nb b is_nb)
    (xor_table (lit_true f o) (lit_true f a) (lit_true f b)))

pub adds_mux : (v w x y z : List (List Lit)) (o c a b nout nc na nb : Lit)
    → nout ≡ negation o → nc ≡ negation c → na ≡ negation a → nb ≡ negation b
    → Adds v w (λ f. lit_true f nout || lit_true f nc || lit_true f a)
    → Adds w x (λ f. lit_true f o || lit_true f nc || lit_true f na)
    → Adds x y (λ f. lit_true f nout || lit_true f c || lit_true f b)
    → Adds y z (λ f. lit_true f o || lit_true f c || lit_true f nb)
    → Adds v z (λ f. alike (lit_true f o) (if lit_true f c then lit_true f a else lit_true f b))
adds_mux v w x y z o c a b nout nc na nb is_no is_nc is_na is_nb h1 h2 h3 h4 =
    let t1 : (ℕ → Bool) → Bool = λ f. lit_true f nout || lit_true f nc || lit_true f a in
    let t2 : (ℕ → Bool) → Bool = λ f. lit_true f o || lit_true f nc || lit_true f na in
    let t3 : (ℕ → Bool) → Bool = λ f. lit_true f nout || lit_true f c || lit_true f b in
    let t4 : (ℕ → Bool) → Bool = λ f. lit_true f o || lit_true f c || lit_true f nb in
    let all = adds_more v w z t1 (λ f. t2 f && (t3 f && t4 f)) h1 (adds_more w x z t2 (λ f. t3 f && t4 f) h2 (adds_more x y z t3 t4 h3 h4)) in
    adds_like v z (λ f. t1 f && (t2 f && (t3 f && t4 f))) (λ f. alike (lit_true f o) (if lit_true f c then lit_true f a else lit_true f b)) all
    (λ f.
    rw (negated_true f nout o is_no, negated_true f nc c is_nc, negated_true f na a is_na, negated_true f nb b is_nb)
    (mux_table (lit_true f o) (lit_true f c) (lit_true f a) (lit_true f b)))

or_table : (o a b : Bool) → alike (not o) (not a && not b) ≡ alike o (a || b)
or_table true true b = refl
or_table true false true = refl
or_table true false false = refl
or_table false true b = refl
or_table false false true = refl
or_table false false false = refl

-- an `or` is the opposite of the `and` of the opposites
pub adds_or : (x y : List (List Lit)) (o a b nout na nb : Lit)
    → nout ≡ negation o → na ≡ negation a → nb ≡ negation b
    → Adds x y (λ f. alike (lit_true f nout) (lit_true f na && lit_true f nb))
    → Adds x y (λ f. alike (lit_true f o) (lit_true f a || lit_true f b))
adds_or x y o a b nout na nb is_no is_na is_nb adds =
    adds_like x y (λ f. alike (lit_true f nout) (lit_true f na && lit_true f nb)) (λ f. alike (lit_true f o) (lit_true f a || lit_true f b)) adds
    (λ f.
    rw (negated_true f nout o is_no, negated_true f na a is_na, negated_true f nb b is_nb)
    (or_table (lit_true f o) (lit_true f a) (lit_true f b)))
