-- One gate more is loaded: whoever satisfies the clauses gives it its value, and each choice is extended to it.

use Rattle.std.proofs.Common.{◌≡◌, ℕ, ◌+◌, ◌<◌, ◌≤◌, Bool, true, false, not, ◌&&◌, ◌||◌, if◌then◌else◌, List, [], length, set, get_or, eqb, Option, Some, None, slice_get, refl, sym, subst, ap, ◌∙◌, ◌⊎◌, inl, inr, ⊎_elim, arith}
use Rattle.std.proofs.lemmas.List.{get_or-set_same, get_or-set_other, get_or_past}
use Rattle.std.proofs.lemmas.Bool.{and_parts, and_from, cases_eq, cond-true, cond-false, eq-eqb, ne_eqb, false≢true}
use Rattle.std.specs.Prelude.{is_some, IsSome, Result, Ok, Err, IfOk}
use Rattle.bit_net.specs.declared.nodes.Node.{Node}
use Rattle.bit_net.specs.declared.nodes.Node.TheVariants.{Constant, Input, Not, And, Or, Xor, Mux}
use Rattle.bit_net.specs.Value.{value, table, xor}
use Rattle.bit_net.specs.Circuit.{input_count, IsCircuit}
use Rattle.bit_net.specs.Runs.{Runs, Grown, Fits}
use Rattle.sat_base.specs.declared.literal.Lit.{Lit}
use Rattle.sat_base.specs.Logic.{negation, lit_true, all_true, ClausesBelow, AgreeBelow, Extends}
use Rattle.clause_builder.specs.Adding.{Adds}
use Rattle.clause_builder.specs.Gates.{alike}
use Rattle.clause_builder.specs.Cones.{lit_at, AgreesWith, HasValues, AreLoaded, Keeps, Defines, LeavesFree, opt_true, loaded_value, Encodes, plain, EachOperand, IsLoadedAt}
use Rattle.clause_builder.proofs.Places.{input_place, inside_from_slice_get}
use Rattle.clause_builder.proofs.Values.{all_true-agree, same_from_alike, alike-same}
use Rattle.clause_builder.proofs.Tables.{lit_true-negation}

-- the assignment with another value for one variable
with_value : (ℕ → Bool) → ℕ → Bool → ℕ → Bool
with_value f x b y = if eqb y x then b else f y

with_value-here : (f : ℕ → Bool) (x : ℕ) (b : Bool) → with_value f x b x ≡ b
unfolding with_value
with_value-here f x b = cond-true (eqb x x) b (f x) (eq-eqb x x refl)

with_value-below : (f : ℕ → Bool) (x : ℕ) (b : Bool) (y : ℕ) → y < x → with_value f x b y ≡ f y
unfolding with_value
with_value-below f x b y less = cond-false (eqb y x) b (f y) (ne_eqb y x (λ same. omega (arith, less, same)))

positive : (f : ℕ → Bool) (x : ℕ) → lit_true f (record { var = x; neg = false }) ≡ f x
unfolding lit_true
positive f x = refl

agree_lit : (n : ℕ) (f h : ℕ → Bool) (l : Lit) → l.var < n → AgreeBelow n f h → lit_true h l ≡ lit_true f l
unfolding lit_true
agree_lit n f h l below same = ap (λ b. if l.neg then not b else b) (same l.var below)

agree_clauses : (n : ℕ) (f h : ℕ → Bool) (cs : List (List Lit)) → ClausesBelow n cs → AgreeBelow n f h → all_true h cs ≡ all_true f cs
agree_clauses n f h cs below same = all_true-agree h f n same cs below

-- a fresh literal with clauses by which it is as the test
pub defines_from_adds : (n : ℕ) (old mid new : List (List Lit)) (out : Lit) (test : (ℕ → Bool) → Bool)
    → ClausesBelow n old → mid ≡ old → out ≡ record { var = n; neg = false }
    → ((f h : ℕ → Bool) → AgreeBelow n f h → test h ≡ test f)
    → Adds mid new (λ f. alike (lit_true f out) (test f)) → Defines n old new out test
defines_from_adds n old mid new out test below same is stable adds =
    let split : (f : ℕ → Bool) → all_true f new ≡ (all_true f old && alike (lit_true f out) (test f)) =
    λ f. adds f ∙ ap (λ cs. all_true f cs && alike (lit_true f out) (test f)) same in
    record {
      earlier = λ f all. (and_parts (all_true f old) (alike (lit_true f out) (test f)) (sym (split f) ∙ all)).0;
      means = λ f all. same_from_alike (lit_true f out) (test f) (and_parts (all_true f old) (alike (lit_true f out) (test f)) (sym (split f) ∙ all)).1;
      later =
          λ f all.
          let h : ℕ → Bool = with_value f n (test f) in
          let agree : AgreeBelow n f h = λ x less. with_value-below f n (test f) x less in
          let value : lit_true h out ≡ test f = ap (lit_true h) is ∙ positive h n ∙ with_value-here f n (test f) in (
            h,
            agree,
            split h ∙ and_from (all_true h old) (alike (lit_true h out) (test h)) (agree_clauses n f h old below agree ∙ all)
                (alike-same (lit_true h out) (test h) (value ∙ sym (stable f h agree))),
            value,
          );
    }

pub free_from_fresh : (n : ℕ) (old new : List (List Lit)) (out : Lit)
    → ClausesBelow n old → new ≡ old → out ≡ record { var = n; neg = false } → LeavesFree n old new out
free_from_fresh n old new out below same is =
    record {
      same = same;
      later =
          λ f b all.
          let h : ℕ → Bool = with_value f n b in
          let agree : AgreeBelow n f h = λ x less. with_value-below f n b x less in (
            h,
            agree,
            ap (all_true h) same ∙ agree_clauses n f h old below agree ∙ all,
            ap (lit_true h) is ∙ positive h n ∙ with_value-here f n b,
          );
    }

pub defines_constant : (n : ℕ) (old mid new : List (List Lit)) (out : Lit) (b : Bool)
    → ClausesBelow n old → mid ≡ old → out ≡ record { var = n; neg = false }
    → Adds mid new (λ f. alike (lit_true f out) b) → Defines n old new out (λ f. b)
defines_constant n old mid new out b below same is adds = defines_from_adds n old mid new out (λ f. b) below same is (λ f h agree. refl) adds

pub defines_two : (op : Bool → Bool → Bool) (n : ℕ) (old mid new : List (List Lit)) (out a b : Lit)
    → a.var < n → b.var < n → ClausesBelow n old → mid ≡ old → out ≡ record { var = n; neg = false }
    → Adds mid new (λ f. alike (lit_true f out) (op (lit_true f a) (lit_true f b)))
    → Defines n old new out (λ f. op (lit_true f a) (lit_true f b))
defines_two op n old mid new out a b ha hb below same is adds =
    defines_from_adds n old mid new out (λ f. op (lit_true f a) (lit_true f b)) below same is
    (λ f h agree.
    ap (λ x. op x (lit_true h b)) (agree_lit n f h a ha agree) ∙ ap (op (lit_true f a)) (agree_lit n f h b hb agree))
    adds

pub defines_mux : (n : ℕ) (old mid new : List (List Lit)) (out c a b : Lit)
    → c.var < n → a.var < n → b.var < n → ClausesBelow n old → mid ≡ old → out ≡ record { var = n; neg = false }
    → Adds mid new (λ f. alike (lit_true f out) (if lit_true f c then lit_true f a else lit_true f b))
    → Defines n old new out (λ f. if lit_true f c then lit_true f a else lit_true f b)
defines_mux n old mid new out c a b hc ha hb below same is adds =
    defines_from_adds n old mid new out (λ f. if lit_true f c then lit_true f a else lit_true f b) below same is
    (λ f h agree.
    ap (λ x. if x then lit_true h a else lit_true h b) (agree_lit n f h c hc agree)
    ∙ ap (λ x. if lit_true f c then x else lit_true h b) (agree_lit n f h a ha agree)
    ∙ ap (λ x. if lit_true f c then lit_true f a else x) (agree_lit n f h b hb agree))
    adds

pub fresh_below : (out : Lit) (n m : ℕ) → out ≡ record { var = n; neg = false } → m ≡ n + 1 → out.var < m
fresh_below out n m is next = subst (λ l. l.var < m) (sym is) (omega (arith, next))

pub if_ok : {A E : Type 0} (r : Result A E) (P Q : A → Type 0) → ((x : A) → P x → Q x) → IfOk r P → IfOk r Q
if_ok (Ok x) P Q step holds = step x holds
if_ok (Err e) P Q step holds = holds

-- nothing is added for the opposite of a literal
pub defines_not : (n : ℕ) (old : List (List Lit)) (out a : Lit) → out ≡ negation a → Defines n old old out (λ f. not (lit_true f a))
defines_not n old out a is =
    let means : (f : ℕ → Bool) → lit_true f out ≡ not (lit_true f a) = λ f. ap (lit_true f) is ∙ lit_true-negation f a in
    record {
      earlier = λ f all. all;
      means = λ f all. means f;
      later = λ f all. (f, λ x less. refl, all, means f);
    }

-- the test is another that is equal
pub defines_like : (n : ℕ) (old new : List (List Lit)) (out : Lit) (t u : (ℕ → Bool) → Bool)
    → ((f : ℕ → Bool) → t f ≡ u f) → Defines n old new out t → Defines n old new out u
defines_like n old new out t u like defines =
    record {
      earlier = defines.earlier;
      means = λ f all. defines.means f all ∙ like f;
      later =
          λ f all.
          let some = defines.later f all in
          (some.0, some.1, some.2, some.3 ∙ like f);
    }

-- the literal of a loaded gate
loaded_is : (f : ℕ → Bool) (loaded : List (Option Lit)) (g : ℕ) (l : Lit) → lit_at loaded g ≡ Some l → lit_true f l ≡ loaded_value f loaded g
loaded_is f loaded g l is = ap (opt_true f) (sym is)

pub encodes_not : (loaded : List (Option Lit)) (n : ℕ) (old new : List (List Lit)) (out : Lit) (a : ℕ) (l : Lit)
    → lit_at loaded a ≡ Some l → new ≡ old → out ≡ negation l → Defines n old new out (λ f. not (loaded_value f loaded a))
encodes_not loaded n old new out a l is same negated =
    subst (λ cs. Defines n old cs out (λ f. not (loaded_value f loaded a))) (sym same)
    (defines_like n old old out (λ f. not (lit_true f l)) (λ f. not (loaded_value f loaded a)) (λ f. ap not (loaded_is f loaded a l is))
    (defines_not n old out l negated))

pub encodes_two : (op : Bool → Bool → Bool) (loaded : List (Option Lit)) (n : ℕ) (old new : List (List Lit)) (out : Lit) (a b : ℕ) (k l : Lit)
    → lit_at loaded a ≡ Some k → lit_at loaded b ≡ Some l
    → Defines n old new out (λ f. op (lit_true f k) (lit_true f l))
    → Defines n old new out (λ f. op (loaded_value f loaded a) (loaded_value f loaded b))
encodes_two op loaded n old new out a b k l is_a is_b defines =
    defines_like n old new out (λ f. op (lit_true f k) (lit_true f l)) (λ f. op (loaded_value f loaded a) (loaded_value f loaded b))
    (λ f. ap (λ x. op x (lit_true f l)) (loaded_is f loaded a k is_a) ∙ ap (op (loaded_value f loaded a)) (loaded_is f loaded b l is_b))
    defines

pub encodes_mux : (loaded : List (Option Lit)) (n : ℕ) (old new : List (List Lit)) (out : Lit) (c a b : ℕ) (j k l : Lit)
    → lit_at loaded c ≡ Some j → lit_at loaded a ≡ Some k → lit_at loaded b ≡ Some l
    → Defines n old new out (λ f. if lit_true f j then lit_true f k else lit_true f l)
    → Defines n old new out (λ f. if loaded_value f loaded c then loaded_value f loaded a else loaded_value f loaded b)
encodes_mux loaded n old new out c a b j k l is_c is_a is_b defines =
    defines_like n old new out (λ f. if lit_true f j then lit_true f k else lit_true f l)
    (λ f. if loaded_value f loaded c then loaded_value f loaded a else loaded_value f loaded b)
    (λ f.
    ap (λ x. if x then lit_true f k else lit_true f l) (loaded_is f loaded c j is_c)
    ∙ ap (λ x. if loaded_value f loaded c then x else lit_true f l) (loaded_is f loaded a k is_a)
    ∙ ap (λ x. if loaded_value f loaded c then loaded_value f loaded a else x) (loaded_is f loaded b l is_b))
    defines

-- a loaded gate has a literal
some_lit : (o : Option Lit) → IsSome o → (l : Lit) × (o ≡ Some l)
some_lit (Some l) is = (l, refl)
some_lit None is = absurd (false≢true is)

value_is : (ns : List Node) (loaded : List (Option Lit)) (choice f : ℕ → Bool) → HasValues ns loaded choice f
    → (a : ℕ) → IsLoadedAt loaded a → loaded_value f loaded a ≡ value choice ns a
value_is ns loaded choice f has a at =
    let some = some_lit (lit_at loaded a) at in
    sym (loaded_is f loaded a some.0 some.1) ∙ has a some.0 some.1

record IsNodeValue (n : ℕ) (old new : List (List Lit)) (out : Lit) (has : (ℕ → Bool) → Type 0) (b : Bool) : Type 0 where
  means : (f : ℕ → Bool) → all_true f new ≡ true → has f → lit_true f out ≡ b
  later : (f : ℕ → Bool) → all_true f old ≡ true → has f
      → (h : ℕ → Bool) × AgreeBelow n f h × (all_true h new ≡ true) × (lit_true h out ≡ b)

node_value : (n : ℕ) (old new : List (List Lit)) (out : Lit) (has : (ℕ → Bool) → Type 0) (b : Bool) (test : (ℕ → Bool) → Bool)
    → ((f : ℕ → Bool) → has f → test f ≡ b) → Defines n old new out test → IsNodeValue n old new out has b
node_value n old new out has b test is defines =
    record {
      means = λ f all h. defines.means f all ∙ is f h;
      later =
          λ f all h.
          let some = defines.later f all in
          (some.0, some.1, some.2, some.3 ∙ is f h);
    }

-- the literal of a node that is no input has the value of the node's table
encoded_value : (ns : List Node) (loaded : List (Option Lit)) (node : Node) (n : ℕ) (old new : List (List Lit)) (out : Lit) (choice : ℕ → Bool)
    → ((k : ℕ) → node ≡ Input k → ⊥) → EachOperand (IsLoadedAt loaded) node → Encodes loaded node n old new out
    → IsNodeValue n old new out (HasValues ns loaded choice) (table choice (value choice ns) node)
encoded_value ns loaded (Constant b) n old new out choice other each encodes =
    node_value n old new out (HasValues ns loaded choice) b (λ f. b) (λ f has. refl) encodes
encoded_value ns loaded (Input k) n old new out choice other each encodes = absurd (other k refl)
encoded_value ns loaded (Not a) n old new out choice other each encodes =
    let v : ℕ → Bool = value choice ns in
    node_value n old new out (HasValues ns loaded choice) (not (v a.at)) (λ f. not (loaded_value f loaded a.at))
    (λ f has. ap not (value_is ns loaded choice f has a.at each)) encodes
encoded_value ns loaded (And a b) n old new out choice other each encodes =
    let v : ℕ → Bool = value choice ns in
    node_value n old new out (HasValues ns loaded choice) (v a.at && v b.at) (λ f. loaded_value f loaded a.at && loaded_value f loaded b.at)
    (λ f has.
    ap (λ x. x && loaded_value f loaded b.at) (value_is ns loaded choice f has a.at each.0)
    ∙ ap (λ x. v a.at && x) (value_is ns loaded choice f has b.at each.1))
    encodes
encoded_value ns loaded (Or a b) n old new out choice other each encodes =
    let v : ℕ → Bool = value choice ns in
    node_value n old new out (HasValues ns loaded choice) (v a.at || v b.at) (λ f. loaded_value f loaded a.at || loaded_value f loaded b.at)
    (λ f has.
    ap (λ x. x || loaded_value f loaded b.at) (value_is ns loaded choice f has a.at each.0)
    ∙ ap (λ x. v a.at || x) (value_is ns loaded choice f has b.at each.1))
    encodes
encoded_value ns loaded (Xor a b) n old new out choice other each encodes =
    let v : ℕ → Bool = value choice ns in
    node_value n old new out (HasValues ns loaded choice) (xor (v a.at) (v b.at)) (λ f. xor (loaded_value f loaded a.at) (loaded_value f loaded b.at))
    (λ f has.
    ap (λ x. xor x (loaded_value f loaded b.at)) (value_is ns loaded choice f has a.at each.0)
    ∙ ap (xor (v a.at)) (value_is ns loaded choice f has b.at each.1))
    encodes
encoded_value ns loaded (Mux c a b) n old new out choice other each encodes =
    let v : ℕ → Bool = value choice ns in
    node_value n old new out (HasValues ns loaded choice) (if v c.at then v a.at else v b.at)
    (λ f. if loaded_value f loaded c.at then loaded_value f loaded a.at else loaded_value f loaded b.at)
    (λ f has.
    ap (λ x. if x then loaded_value f loaded a.at else loaded_value f loaded b.at) (value_is ns loaded choice f has c.at each.0)
    ∙ ap (λ x. if v c.at then x else loaded_value f loaded b.at) (value_is ns loaded choice f has a.at each.1)
    ∙ ap (λ x. if v c.at then v a.at else x) (value_is ns loaded choice f has b.at each.2))
    encodes

earlier_encoded : (loaded : List (Option Lit)) (node : Node) (n : ℕ) (old new : List (List Lit)) (out : Lit)
    → Encodes loaded node n old new out → (f : ℕ → Bool) → all_true f new ≡ true → all_true f old ≡ true
earlier_encoded loaded (Constant b) n old new out encodes f all = encodes.earlier f all
earlier_encoded loaded (Input k) n old new out encodes f all = ap (all_true f) (sym encodes.same) ∙ all
earlier_encoded loaded (Not a) n old new out encodes f all = encodes.earlier f all
earlier_encoded loaded (And a b) n old new out encodes f all = encodes.earlier f all
earlier_encoded loaded (Or a b) n old new out encodes f all = encodes.earlier f all
earlier_encoded loaded (Xor a b) n old new out encodes f all = encodes.earlier f all
earlier_encoded loaded (Mux c a b) n old new out encodes f all = encodes.earlier f all

-- the value of a node in the form in which it is loaded is that of the node
plain_value : (choice v : ℕ → Bool) (node : Node) → v 0 ≡ false → table choice v (plain node) ≡ table choice v node
plain_value choice v (Constant true) zero = ap not zero
plain_value choice v (Constant false) zero = refl
plain_value choice v (Input k) zero = refl
plain_value choice v (Not a) zero = refl
plain_value choice v (And a b) zero = refl
plain_value choice v (Or a b) zero = refl
plain_value choice v (Xor a b) zero = refl
plain_value choice v (Mux c a b) zero = refl

-- a node is an input or it is none, and the same in the form in which it is loaded
data Sort (node : Node) : Type 0 where
  is_an_input : (k : ℕ) → node ≡ Input k → plain node ≡ Input k → Sort node
  is_no_input : ((k : ℕ) → plain node ≡ Input k → ⊥) → Sort node

sort_of : (node : Node) → Sort node
sort_of (Constant true) = is_no_input (λ k is. cc)
sort_of (Constant false) = is_no_input (λ k is. cc)
sort_of (Input k) = is_an_input k refl refl
sort_of (Not a) = is_no_input (λ k is. cc)
sort_of (And a b) = is_no_input (λ k is. cc)
sort_of (Or a b) = is_no_input (λ k is. cc)
sort_of (Xor a b) = is_no_input (λ k is. cc)
sort_of (Mux c a b) = is_no_input (λ k is. cc)

-- what holds of the gate that is loaded now
record IsNext (ns : List Node) (loaded more : List (Option Lit)) (g : ℕ) (out : Lit) (n : ℕ) (old new : List (List Lit)) : Type 0 where
  means : (choice f : ℕ → Bool) → all_true f new ≡ true → AgreesWith ns more choice f → HasValues ns loaded choice f → lit_true f out ≡ value choice ns g
  later : (choice f : ℕ → Bool) → all_true f old ≡ true → HasValues ns loaded choice f
      → (h : ℕ → Bool) × AgreeBelow n f h × (all_true h new ≡ true) × (lit_true h out ≡ value choice ns g)

next_gate : (ns : List Node) (loaded more : List (Option Lit)) (g : ℕ) (node : Node) (out : Lit) (n : ℕ) (old new : List (List Lit))
    → IsCircuit ns → ((choice : ℕ → Bool) → Fits ns choice (value choice ns))
    → slice_get ns g ≡ Some node → lit_at more g ≡ Some out
    → EachOperand (IsLoadedAt loaded) (plain node) → Encodes loaded (plain node) n old new out
    → IsNext ns loaded more g out n old new
next_gate ns loaded more g node out n old new circuit fits here at each encodes =
    let value_of : (choice : ℕ → Bool) → value choice ns g ≡ table choice (value choice ns) node =
    λ choice. (fits choice).table g node here in
    elim (sort_of node) [
      | is_an_input k is is_plain ↦
          let place = input_place ns circuit g k (here ∙ ap Some is) in
          let chosen : (choice : ℕ → Bool) → value choice ns g ≡ choice k =
          λ choice. value_of choice ∙ ap (table choice (value choice ns)) is in
          let free : LeavesFree n old new out = subst (λ m. Encodes loaded m n old new out) is_plain encodes in
          record {
            means =
                λ choice f all agrees has.
                agrees k out place.0 (ap (lit_at more) (sym place.1) ∙ at) ∙ sym (chosen choice);
            later =
                λ choice f all has.
                let some = free.later f (choice k) all in
                (some.0, some.1, some.2, some.3 ∙ sym (chosen choice));
          }
      | is_no_input none ↦
          let zero : (choice : ℕ → Bool) → value choice ns 0 ≡ false = λ choice. (fits choice).table 0 (Constant false) circuit.zero in
          let table_is : (choice : ℕ → Bool) → table choice (value choice ns) (plain node) ≡ value choice ns g =
          λ choice. plain_value choice (value choice ns) node (zero choice) ∙ sym (value_of choice) in
          record {
            means =
                λ choice f all agrees has.
                (encoded_value ns loaded (plain node) n old new out choice none each encodes).means f all has ∙ table_is choice;
            later =
                λ choice f all has.
                let some = (encoded_value ns loaded (plain node) n old new out choice none each encodes).later f all has in
                (some.0, some.1, some.2, some.3 ∙ table_is choice);
          }
    ]

-- a gate that has a literal after one more is loaded is that one, or had it before
cases_more : (loaded more : List (Option Lit)) (g : ℕ) (out : Lit) (a : ℕ) (l : Lit) → g < length loaded → more ≡ set loaded g (Some out)
    → lit_at more a ≡ Some l → ((a ≡ g) × (l ≡ out)) ⊎ (lit_at loaded a ≡ Some l)
cases_more loaded more g out a l room is at =
    ⊎_elim
    (λ same.
    let here : lit_at more g ≡ Some out = ap (λ ls. get_or ls g None) is ∙ get_or-set_same loaded g (Some out) None room in
    let both : Some l ≡ Some out = sym at ∙ ap (lit_at more) same ∙ here in
    inl (same, cc))
    (λ other. inr (sym (get_or-set_other loaded g a (Some out) None other) ∙ ap (λ ls. get_or ls a None) (sym is) ∙ at))
    (cases_eq a g)

pub kept_more : (loaded more : List (Option Lit)) (g : ℕ) (out : Lit) → g < length loaded → more ≡ set loaded g (Some out)
    → lit_at loaded g ≡ None → (a : ℕ) (l : Lit) → lit_at loaded a ≡ Some l → lit_at more a ≡ Some l
kept_more loaded more g out room is missing a l at =
    ⊎_elim
    (λ same. let both : Some l ≡ None = sym at ∙ ap (lit_at loaded) same ∙ missing in cc)
    (λ other. ap (λ ls. get_or ls a None) is ∙ get_or-set_other loaded g a (Some out) None other ∙ at)
    (cases_eq a g)

pub loaded_more : (ns : List Node) (loaded more : List (Option Lit)) (g : ℕ) (node : Node) (out : Lit) (n m : ℕ) (old new : List (List Lit))
    → IsCircuit ns → ((ms : List Node) (choice v : ℕ → Bool) → IsCircuit ms → Runs ms choice v → Fits ms choice v)
    → slice_get ns g ≡ Some node → g < length loaded → more ≡ set loaded g (Some out) → lit_at loaded g ≡ None
    → n ≤ m → out.var < m
    → EachOperand (IsLoadedAt loaded) (plain node) → Encodes loaded (plain node) n old new out
    → AreLoaded ns loaded n old → AreLoaded ns more m new
loaded_more ns loaded more g node out n m old new circuit fits_runs here room is missing le below each encodes so_far =
    let fits : (choice : ℕ → Bool) → Fits ns choice (value choice ns) =
    λ choice. fits_runs ns choice (value choice ns) circuit (record { same = λ a inside. refl }) in
    let at : lit_at more g ≡ Some out = ap (λ ls. get_or ls g None) is ∙ get_or-set_same loaded g (Some out) None room in
    let next : IsNext ns loaded more g out n old new = next_gate ns loaded more g node out n old new circuit fits here at each encodes in
    let values : (choice f : ℕ → Bool) → (lit_true f out ≡ value choice ns g) → HasValues ns loaded choice f → HasValues ns more choice f =
    λ choice f out_is has a l at_a.
    ⊎_elim
    (λ same. ap (lit_true f) same.1 ∙ out_is ∙ ap (value choice ns) (sym same.0))
    (λ before. has a l before)
    (cases_more loaded more g out a l room is at_a) in
    record {
      inside =
          λ a l at_a.
          ⊎_elim
          (λ same.
          let first : a < length ns = subst (λ x. x < length ns) (sym same.0) (inside_from_slice_get ns g node here) in
          (first, subst (λ x. x.var < m) (sym same.1) below))
          (λ before. let both = so_far.inside a l before in (both.0, omega (arith, both.1, le)))
          (cases_more loaded more g out a l room is at_a);
      values =
          λ choice f all agrees.
          let has : HasValues ns loaded choice f =
          so_far.values choice f (earlier_encoded loaded (plain node) n old new out encodes f all)
          (λ k l few at_k. agrees k l few (kept_more loaded more g out room is missing (2 + k) l at_k)) in
          values choice f (next.means choice f all agrees has) has;
      extension =
          λ choice.
          let some = so_far.extension choice in
          let more_some = next.later choice some.0 some.1 some.2 in
          let kept : HasValues ns loaded choice more_some.0 =
          λ a l at_a. agree_lit n some.0 more_some.0 l (so_far.inside a l at_a).1 more_some.1 ∙ some.2 a l at_a in
          (more_some.0, more_some.2, values choice more_some.0 more_some.3 kept);
    }

pub here_more : (loaded more : List (Option Lit)) (g : ℕ) (out : Lit) → g < length loaded → more ≡ set loaded g (Some out) → IsLoadedAt more g
here_more loaded more g out room is = ap (λ ls. is_some (get_or ls g None)) is ∙ ap is_some (get_or-set_same loaded g (Some out) None room)

-- the same gates are loaded
pub loaded_same : (ns : List Node) (old new : List (Option Lit)) (vars : ℕ) (clauses : List (List Lit))
    → ((g : ℕ) → lit_at new g ≡ lit_at old g) → AreLoaded ns old vars clauses → AreLoaded ns new vars clauses
loaded_same ns old new vars clauses same are =
    record {
      inside = λ g l at. are.inside g l (sym (same g) ∙ at);
      values = λ choice f all agrees g l at. are.values choice f all (λ k q few at_k. agrees k q few (same (2 + k) ∙ at_k)) g l (sym (same g) ∙ at);
      extension =
          λ choice.
          let some = are.extension choice in
          (some.0, some.1, λ g l at. some.2 g l (sym (same g) ∙ at));
    }

pub keeps_same : (old now new : List (Option Lit)) → ((g : ℕ) → lit_at now g ≡ lit_at old g) → Keeps now new → Keeps old new
keeps_same old now new same keeps g l at = keeps g l (same g ∙ at)

-- the laws
pub nothing_loaded : (ns : List Node) (vars : ℕ) (clauses : List (List Lit)) (f : ℕ → Bool) → all_true f clauses ≡ true → AreLoaded ns [] vars clauses
nothing_loaded ns vars clauses f all =
    let none : (a : ℕ) (l : Lit) → lit_at [] a ≡ Some l → ⊥ =
    λ a l at. let past : lit_at [] a ≡ None = get_or_past [] a None (omega arith) in let both : None ≡ Some l = sym past ∙ at in cc in
    record {
      inside = λ a l at. absurd (none a l at);
      values = λ choice h holds agrees a l at. absurd (none a l at);
      extension = λ choice. (f, all, λ a l at. absurd (none a l at));
    }

pub loaded_grown : (old new : List Node) (loaded : List (Option Lit)) (vars : ℕ) (clauses : List (List Lit))
    → Grown old new → AreLoaded old loaded vars clauses → AreLoaded new loaded vars clauses
loaded_grown old new loaded vars clauses grown so_far =
    let same : (choice : ℕ → Bool) (a : ℕ) → a < length old → value choice new a ≡ value choice old a =
    λ choice a inside. (grown.runs choice (value choice new) (record { same = λ g h. refl })).same a inside in
    let longer = grown.longer in
    let few : (k : ℕ) → k < input_count old → k < input_count new = λ k less. subst (λ c. k < c) (sym grown.inputs) less in
    record {
      inside = λ a l at. let both = so_far.inside a l at in (omega (arith, both.0, longer), both.1);
      values =
          λ choice f all agrees a l at.
          so_far.values choice f all (λ k q less at_k. agrees k q (few k less) at_k) a l at
          ∙ sym (same choice a (so_far.inside a l at).0);
      extension =
          λ choice.
          let some = so_far.extension choice in
          (some.0, some.1, λ a l at. some.2 a l at ∙ sym (same choice a (so_far.inside a l at).0));
    }

pub loaded_extended : (ns : List Node) (loaded : List (Option Lit)) (vars more : ℕ) (old new : List (List Lit))
    → vars ≤ more → Extends vars old new → AreLoaded ns loaded vars old → AreLoaded ns loaded more new
loaded_extended ns loaded vars more old new le extends so_far =
    record {
      inside = λ a l at. let both = so_far.inside a l at in (both.0, omega (arith, both.1, le));
      values = λ choice f all agrees. so_far.values choice f (extends.earlier f all) agrees;
      extension =
          λ choice.
          let some = so_far.extension choice in
          let later = extends.later some.0 some.1 in (
            later.0,
            later.2,
            λ a l at. agree_lit vars some.0 later.0 l (so_far.inside a l at).1 later.1 ∙ some.2 a l at,
          );
    }
