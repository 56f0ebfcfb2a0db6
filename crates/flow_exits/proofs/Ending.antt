-- The walk of a graph that gives nothing is the walk of the graph that ends without a value.
use Rattle.std.proofs.Common.{◌≡◌, ℕ, zero, suc, nat_eq, Bool, true, false, not, ◌||◌, if◌then◌else◌, List, [], ◌∷◌, map, refl, sym, ◌∙◌, ap, subst}
use Rattle.std.specs.Prelude.{Some, None, Result, Ok, Err, slice_index_or}
use Rattle.std.proofs.lemmas.Bool.{and_parts, eqb-true, eq-eqb}
use lib.Dec.{eqb-suc-suc, eqb-suc-zero, eqb-zero-suc}
use Rattle.run_store.specs.Concrete.{Cell, Nothing}
use Rattle.sc_world.specs.Source.{Source}
use Rattle.sc_world.specs.Layout.{Layout, site_at}
use Rattle.sc_world.specs.Tree.{One, is_void}
use Rattle.sc_world.specs.World.{World, Ended, Run, goes_on, ◌>>=◌, is_true, number_of, event}
use Rattle.sc_world.specs.Exec.{cells_given, initialise, switch_event, result_or}
use Rattle.sc_world.specs.Eval.{Value, Place', eval}
use Rattle.flow_graph.specs.Nodes.{Node, Keep, KeepCells, CallOf, Update, Set, Fill, Branch, Choose, Mark, MarkSwitch, Exit, SetAside, Kept, with_at, temp, keep, keep_cells, nothing_kept, slot, reads, in_tree, local_at, call_of, updated, filled, act, walk_from, walk}
use Rattle.flow_exits.specs.Exits.{casts_away, is_without_value, given_at, is_that, is_given, gives_nothing, all_give_nothing, without_value, ending}
use Rattle.flow_exits.proofs.Nothing.{IsNothing, GivesNothing, call_gives, cast_gives}

-- Steps whose rests are the same.

rests : {A : Type 0} (r : Result A Ended × World) (f g : A → Run Cell) → ((a : A) (u : World) → r ≡ (Ok a, u) → f a u ≡ g a u) → goes_on r f ≡ goes_on r g
rests (Ok a, u) f g h = h a u refl
rests (Err e, u) f g h = refl

behind : {A : Type 0} (m : Run A) (f g : A → Run Cell) (w : World) → ((a : A) (u : World) → m w ≡ (Ok a, u) → f a u ≡ g a u) → (m >>= f) w ≡ (m >>= g) w
behind m f g w h = rests (m w) f g h

either : (b : Bool) (m m' n n' : Run Cell) (w : World) → m w ≡ m' w → n w ≡ n' w → (if b then m else n) w ≡ (if b then m' else n') w
either true m m' n n' w h i = h
either false m m' n n' w h i = i

-- What is kept.

with_at_is : (n m : ℕ) (x : Cell) (xs : List Cell) → slice_index_or (with_at Nothing n x xs) m Nothing ≡ (if nat_eq n m then x else slice_index_or xs m Nothing)
with_at_is zero zero x [] = refl
with_at_is zero zero x (y ∷ ys) = refl
with_at_is zero (suc m) x [] = ap (λ (b : Bool). if b then x else Nothing) (sym (eqb-zero-suc m))
with_at_is zero (suc m) x (y ∷ ys) = ap (λ (b : Bool). if b then x else slice_index_or ys m Nothing) (sym (eqb-zero-suc m))
with_at_is (suc n) zero x [] = ap (λ (b : Bool). if b then x else Nothing) (sym (eqb-suc-zero n))
with_at_is (suc n) zero x (y ∷ ys) = ap (λ (b : Bool). if b then x else y) (sym (eqb-suc-zero n))
with_at_is (suc n) (suc m) x [] = with_at_is n m x [] ∙ ap (λ (b : Bool). if b then x else Nothing) (sym (eqb-suc-suc n m))
with_at_is (suc n) (suc m) x (y ∷ ys) = with_at_is n m x ys ∙ ap (λ (b : Bool). if b then x else slice_index_or ys m Nothing) (sym (eqb-suc-suc n m))

choose_nothing : (b : Bool) (x y : Cell) → (b ≡ true → x ≡ Nothing) → y ≡ Nothing → (if b then x else y) ≡ Nothing
choose_nothing true x y h i = h refl
choose_nothing false x y h i = i

kept_or : (a b : Bool) → (a || not b) ≡ true → b ≡ true → a ≡ true
kept_or true b h e = refl
kept_or false true h e = h
kept_or false false h e = absurd (cc)

number_is : (n m : ℕ) → nat_eq n m ≡ true → n ≡ m
number_is n m e = eqb-true n m e

module _ (s : Source) (p : Layout) (choice : List Bool) (given : ℕ → Bool) where
  -- each temp that is given has nothing
  abbrev Blank : Kept → Type 0
  Blank k = (m : ℕ) → given m ≡ true → temp k m ≡ Nothing

  stays_blank : (k : Kept) (t : ℕ) (x : Cell) → Blank k → (given t ≡ true → x ≡ Nothing) → Blank (keep t x k)
  stays_blank k t x blank h m is =
      with_at_is t m x k.temps
      ∙ choose_nothing (nat_eq t m) x (temp k m) (λ e. h (subst (λ (i : ℕ). given i ≡ true) (sym (number_is t m e)) is)) (blank m is)

  from_step : (m : Run Cell) (w u : World) (x : Cell) → GivesNothing m → m w ≡ (Ok x, u) → x ≡ Nothing
  from_step m w u x h e = subst IsNothing e (h.by w)

  -- both go on in the same way
  abbrev Same : (go go' : ℕ → Kept → Run Cell) → Type 0
  Same go go' = (at : ℕ) (k : Kept) → Blank k → (w : World) → go at k w ≡ go' at k w

  -- where a node gives a temp, it is one that is given
  abbrev IsGiven : Node → Type 0
  IsGiven n = (m : ℕ) → is_that m (given_at n) ≡ true → given m ≡ true

  acts : (n : Node) (go go' : ℕ → Kept → Run Cell) → Same go go' → gives_nothing p given n ≡ true → IsGiven n → (k : Kept) → Blank k → (w : World)
      → act s p choice (without_value n) go k w ≡ act s p choice n go' k w
  acts (Keep Value t e next) go go' same h i k blank w =
      behind (eval e Value (reads s p choice k)) _ _ w
      (λ x u got. same next (keep t x k)
      (stays_blank k t x blank (λ is. from_step (eval e Value (reads s p choice k)) w u x (cast_gives _ e (kept_or (casts_away e) (given t) h is)) got)) u)
  acts (Keep Place' t e next) go go' same h i k blank w =
      behind (eval e Place' (reads s p choice k)) _ _ w
      (λ x u got. same next (keep t x k) (stays_blank k t x blank (λ is. absurd (let no = kept_or false (given t) h is in cc))) u)
  acts (KeepCells n e next) go go' same h i k blank w = behind (cells_given e (reads s p choice k)) _ _ w (λ cs u got. same next (keep_cells n cs k) blank u)
  acts (CallOf c args t next) go go' same h i k blank w =
      behind (call_of s p choice c (map (temp k) args)) _ _ w
      (λ x u got. same next (keep t x k)
      (stays_blank k t x blank (λ is.
      (let both = and_parts (is_void c.result) (is_without_value (site_at p c.place.token).site.effect) (kept_or _ (given t) h is) in
      from_step (call_of s p choice c (map (temp k) args)) w u x (call_gives s p choice c (map (temp k) args) both.0 both.1) got))) u)
  acts (Update v want at old right t next) go go' same h i k blank w =
      behind (updated s p choice v want (temp k at) (temp k old) (temp k right)) _ _ w (λ x u got. same next (keep t x k) (stays_blank k t x blank (λ is. absurd (let no = kept_or false (given t) h is in cc))) u)
  acts (Set n e next) go go' same h i k blank w = behind (initialise (local_at s p choice n) (One e) (reads s p choice k)) _ _ w (λ x u got. same next k blank u)
  acts (Fill n xs slots next) go go' same h i k blank w = behind (filled s p choice n xs (map (slot k) slots)) _ _ w (λ x u got. same next k blank u)
  acts (Branch t hit miss) go go' same h i k blank w = either (is_true (temp k t)) _ _ _ _ w (same hit k blank w) (same miss k blank w)
  acts (Choose t n hit miss) go go' same h i k blank w = either (nat_eq (number_of (temp k t)) n) _ _ _ _ w (same hit k blank w) (same miss k blank w)
  acts (Mark q x next) go go' same h i k blank w = behind (event q x) _ _ w (λ y u got. same next k blank u)
  acts (MarkSwitch q t from next) go go' same h i k blank w = behind (event q (switch_event (in_tree s p choice 0) t (temp k from))) _ _ w (λ y u got. same next k blank u)
  acts (Exit None) go go' same h i k blank w = refl
  acts (Exit (Some t)) go go' same h i k blank w = ap (λ (c : Cell). (Ok (result_or s c), w)) (sym (blank t (i t (eq-eqb t t refl))))
  acts (SetAside r) go go' same h i k blank w = refl

  abbrev AllAreGiven : List Node → Type 0
  AllAreGiven [] = Unit {0}
  AllAreGiven (n ∷ ns) = IsGiven n × AllAreGiven ns

  walks : (first : ℕ) (ns : List Node) → all_give_nothing p given ns ≡ true → AllAreGiven ns → (at : ℕ) (k : Kept) → Blank k → (w : World)
      → walk_from s p choice first (map without_value ns) at k w ≡ walk_from s p choice first ns at k w
  walks first [] h i at k blank w = refl
  walks first (n ∷ ns) h i at k blank w =
      let both = and_parts (gives_nothing p given n) (all_give_nothing p given ns) h in
      either (nat_eq at first) _ _ _ _ w
      (acts n (walk_from s p choice (suc first) (map without_value ns)) (walk_from s p choice (suc first) ns) (walks (suc first) ns both.1 i.1) both.0 i.0 k blank w)
      (walks (suc first) ns both.1 i.1 at k blank w)

  given_among : (ns : List Node) → ((m : ℕ) → is_given ns m ≡ true → given m ≡ true) → AllAreGiven ns
  given_among [] h = tt
  given_among (n ∷ ns) h = (
    λ m e. h m (ap (λ b. b || is_given ns m) e),
    given_among ns (λ m e. h m (ap (λ b. is_that m (given_at n) || b) e ∙ or_true (is_that m (given_at n)))),
  )
    where
      or_true : (b : Bool) → (b || true) ≡ true
      or_true true = refl
      or_true false = refl

if_so : (b : Bool) (xs ys : List Node) (s : Source) (p : Layout) (choice : List Bool) (w : World) → (b ≡ true → walk s p choice xs w ≡ walk s p choice ys w)
    → walk s p choice (if b then xs else ys) w ≡ walk s p choice ys w
if_so true xs ys s p choice w h = h refl
if_so false xs ys s p choice w h = refl

pub walk_stays : (s : Source) (p : Layout) (choice : List Bool) (nodes : List Node) (w : World) → walk s p choice (ending p nodes) w ≡ walk s p choice nodes w
walk_stays s p choice nodes w =
    if_so (all_give_nothing p (is_given nodes) nodes) (map without_value nodes) nodes s p choice w
    (λ h. walks s p choice (is_given nodes) 0 nodes h (given_among s p choice (is_given nodes) nodes (λ m e. e)) 0 nothing_kept (λ m e. refl) w)
