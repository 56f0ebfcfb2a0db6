-- A graph that passes the test reads no temp for values of type `void`.
use Rattle.std.proofs.Common.{inl, inr, ◌≡◌, ℕ, zero, suc, nat_eq, Bool, true, false, ◌&&◌, ◌||◌, List, [], ◌∷◌, slice_get, refl, sym, ◌∙◌, ap, subst}
use Rattle.std.specs.Prelude.{◌<◌, Some, None, if◌then◌else◌}
use Rattle.std.proofs.lemmas.Bool.{and_parts, or_cases, eqb-true, true≢false}
use Rattle.sc_world.specs.Tree.{Ty, Void, Bool', Int, Ptr, Array, Struct, Union, Func, Opaque, is_void, is_integer, is_pointer, type_of}
use Rattle.sc_world.specs.Source.{Source}
use Rattle.sc_world.specs.Layout.{Layout}
use Rattle.sc_world.specs.Eval.{Value, Place'}
use Rattle.flow_graph.specs.Nodes.{Node, Keep, KeepCells, CallOf, Update, Set, Fill, Branch, Choose, Mark, MarkSwitch, Exit, SetAside}
use Rattle.flow_graph.specs.Conditions.{Held, InTemp, InSlot, among, read_by, AreIn, AllFine}
use Rattle.flow_types.specs.Kinds.{ValueOf, PlaceOf, Kinds, IsKept, IsFor}
use Rattle.flow_types.specs.Nodes.{NodeFits, AllFit}
use Rattle.flow_turns.specs.Kept.{is_for_void}
use Rattle.flow_turns.specs.Before.{ReadsNoVoid, drops}
use Rattle.flow_exits.specs.Exits.{is_that}
use Rattle.flow_fits.specs.Voids.{filled_by, is_filled, each_temp, each_read, node_reads, reads_no_void}

-- Tests of lists.

same_number : (m n : ℕ) → nat_eq m n ≡ true → m ≡ n
same_number m n h = eqb-true m n h

-- a test that agrees on the temps that are counted
agree : (f g : ℕ → Bool) (temps slots : ℕ) (hs : List Held) → ((m : ℕ) → m < temps → f m ≡ g m) → AreIn temps slots hs → each_temp f hs ≡ each_temp g hs
agree f g temps slots [] e h = refl
agree f g temps slots (InTemp m ∷ hs) e h = ap (λ b. b && each_temp f hs) (e m h.0) ∙ ap (λ b. g m && b) (agree f g temps slots hs e h.1)
agree f g temps slots (InSlot m ∷ hs) e h = agree f g temps slots hs e h.1

pub all_agree : (f g : ℕ → Bool) (temps slots : ℕ) (ns : List Node) → ((m : ℕ) → m < temps → f m ≡ g m) → AllFine temps slots ns → each_read f ns ≡ each_read g ns
all_agree f g temps slots [] e h = refl
all_agree f g temps slots (n ∷ ns) e h =
    ap (λ b. (drops n || b) && each_read f ns) (agree f g temps slots (read_by n) e h.0.reads) ∙ ap (λ b. node_reads g n && b) (all_agree f g temps slots ns e h.1)

-- one of the temps passes
one_passes : (test : ℕ → Bool) (m : ℕ) (hs : List Held) → each_temp test hs ≡ true → among (InTemp m) hs ≡ true → test m ≡ true
one_passes test m [] h a = absurd (true≢false (sym a))
one_passes test m (InSlot k ∷ hs) h a = one_passes test m hs h a
one_passes test m (InTemp k ∷ hs) h a =
    let x = and_parts (test k) (each_temp test hs) h in
    elim (or_cases (nat_eq m k) (among (InTemp m) hs) a) [
      | inl e ↦ subst (λ i. test i ≡ true) (sym (same_number m k e)) x.0
      | inr e ↦ one_passes test m hs x.1 e
    ]

unless_dropped : (a b : Bool) → a ≡ false → (a || b) ≡ true → b ≡ true
unless_dropped true b other h = absurd (cc)
unless_dropped false b other h = h

node_passes : (test : ℕ → Bool) (ns : List Node) (at : ℕ) (n : Node) → each_read test ns ≡ true → slice_get ns at ≡ Some n → drops n ≡ false → each_temp test (read_by n) ≡ true
node_passes test [] at n h e other = absurd (cc)
node_passes test (x ∷ ns) zero n h e other =
    let same : x ≡ n = cc in
    unless_dropped (drops n) (each_temp test (read_by n)) other
    (subst (λ y. node_reads test y ≡ true) same (and_parts (node_reads test x) (each_read test ns) h).0)
node_passes test (x ∷ ns) (suc at) n h e other = node_passes test ns at n (and_parts (node_reads test x) (each_read test ns) h).1 e other

-- What temps are for.

value_is : (k : Kinds) (m : ℕ) (t : Ty) → IsKept k m (ValueOf t) → is_void t ≡ false → is_for_void (slice_get k.temps m) ≡ false
value_is k m t kept is = ap is_for_void kept ∙ is

place_is : (k : Kinds) (m : ℕ) (t : Ty) → IsKept k m (PlaceOf t) → is_for_void (slice_get k.temps m) ≡ false
place_is k m t kept = ap is_for_void kept

pointer_is : (t : Ty) → is_pointer t ≡ true → is_void t ≡ false
pointer_is Void h = absurd (true≢false (sym h))
pointer_is (Ptr t) h = refl
pointer_is Bool' h = refl
pointer_is (Int k) h = refl
pointer_is (Array t n) h = refl
pointer_is (Struct n) h = refl
pointer_is (Union n) h = refl
pointer_is (Func t known ts variadic) h = refl
pointer_is (Opaque k) h = refl

integer_is : (t : Ty) → is_integer t ≡ true → is_void t ≡ false
integer_is Void h = absurd (true≢false (sym h))
integer_is (Ptr t) h = refl
integer_is Bool' h = refl
integer_is (Int k) h = refl
integer_is (Array t n) h = refl
integer_is (Struct n) h = refl
integer_is (Union n) h = refl
integer_is (Func t known ts variadic) h = refl
integer_is (Opaque k) h = refl

kept_place_is : (k : Kinds) (m : ℕ) (t : Ty) → IsFor k Place' t m → is_for_void (slice_get k.temps m) ≡ false
kept_place_is k m t h = elim h [
  | inl kept ↦ place_is k m t kept
  | inr some ↦ value_is k m some.0 some.1 (pointer_is some.0 some.2)
]

-- of two, the one that is given
that_one : (m t : ℕ) (b : Bool) → is_that m (if b then None else Some t) ≡ true → (b ≡ false) × (nat_eq m t ≡ true)
that_one m t true h = absurd (true≢false (sym h))
that_one m t false h = (refl, h)

module _ (s : Source) (p : Layout) (k : Kinds) where
  is_thing : (m : ℕ) (n : Node) → NodeFits s p k n → is_that m (filled_by n) ≡ true → is_for_void (slice_get k.temps m) ≡ false
  is_thing m (Keep Value t e next) fits h =
      let x = that_one m t (is_void (type_of e)) h in
      subst (λ i. is_for_void (slice_get k.temps i) ≡ false) (sym (same_number m t x.1)) (value_is k t (type_of e) fits.1 x.0)
  is_thing m (Keep Place' t e next) fits h =
      subst (λ i. is_for_void (slice_get k.temps i) ≡ false) (sym (same_number m t h)) (kept_place_is k t (type_of e) fits.1)
  is_thing m (KeepCells n e next) fits h = absurd (true≢false (sym h))
  is_thing m (CallOf c args t next) fits h =
      let x = that_one m t (is_void c.result) h in
      subst (λ i. is_for_void (slice_get k.temps i) ≡ false) (sym (same_number m t x.1)) (value_is k t c.result fits.4 x.0)
  is_thing m (Update u Value at old right t next) fits h =
      subst (λ i. is_for_void (slice_get k.temps i) ≡ false) (sym (same_number m t h)) (value_is k t u.ctype fits.5 (integer_is u.ctype fits.3))
  is_thing m (Update u Place' at old right t next) fits h =
      subst (λ i. is_for_void (slice_get k.temps i) ≡ false) (sym (same_number m t h)) (kept_place_is k t u.ctype fits.5)
  is_thing m (Set n e next) fits h = absurd (true≢false (sym h))
  is_thing m (Fill n xs slots next) fits h = absurd (true≢false (sym h))
  is_thing m (Branch t hit miss) fits h = absurd (true≢false (sym h))
  is_thing m (Choose t n hit miss) fits h = absurd (true≢false (sym h))
  is_thing m (Mark q x next) fits h = absurd (true≢false (sym h))
  is_thing m (MarkSwitch q t from next) fits h = absurd (true≢false (sym h))
  is_thing m (Exit from) fits h = absurd (true≢false (sym h))
  is_thing m (SetAside r) fits h = absurd (true≢false (sym h))

  some_thing : (m : ℕ) (ns : List Node) → AllFit s p k ns → is_filled ns m ≡ true → is_for_void (slice_get k.temps m) ≡ false
  some_thing m [] fits h = absurd (true≢false (sym h))
  some_thing m (n ∷ ns) fits h = elim (or_cases (is_that m (filled_by n)) (is_filled ns m) h) [
    | inl e ↦ is_thing m n fits.0 e
    | inr e ↦ some_thing m ns fits.1 e
  ]

  pub no_void : (ns : List Node) → AllFit s p k ns → reads_no_void ns ≡ true → ReadsNoVoid k ns
  no_void ns fits h at m n there other read =
      some_thing m ns fits (one_passes (is_filled ns) m (read_by n) (node_passes (is_filled ns) ns at n h there other) read)
