-- Gates that are made one after another, of pairs, values and cells.
use Rattle.std.proofs.Common.{◌≡◌, ◌⊎◌, ℕ, zero, suc, ◌+◌, ◌<◌, ◌≤◌, nat_eq, Bool, false, ◌||◌, List, [], ◌∷◌, ◌++◌, length, All, inl, inr, refl, sym, ◌∙◌, ap, subst, arith, length-append}
use Rattle.std.specs.Prelude.{Ok, slice_index_or}
use Rattle.std.proofs.lemmas.Bool.{cases_lt}
use Rattle.bit_net.specs.declared.nodes.Gate.{Gate}
use Rattle.bit_net.specs.declared.nodes.Node.{Node}
use Rattle.bit_net.specs.Runs.{Runs, Grown, Gives}
use Rattle.bit_words.specs.declared.Word.{Word}
use Rattle.gl_sets.specs.declared.pairs.Pair.{Pair}
use Rattle.gl_sets.specs.declared.sets.Set.{Set}
use Rattle.gl_sets.specs.Guards.{Tests}
use Rattle.gl_sets.specs.Sets.{IsWhere}
use Rattle.gl_store.specs.declared.values.Val.{Val}
use Rattle.gl_store.specs.declared.values.Val.TheVariants as val
use Rattle.gl_store.specs.declared.stores.Location.{Location as Guarded}
use Rattle.gl_store.specs.Meets.{Meets, MeetsAll, locations_top, val_top}
use Rattle.reach_net.specs.Walks.{holds_at, gates_top}
use Rattle.run_store.specs.Concrete.{Cell, Number, Pointer, Nothing, Place, nth_cell}
use Rattle.sc_world.specs.Layout.{Layout, location}
use Rattle.sc_world.specs.World.{World, bit_at, target_of}
use Rattle.sc_world.specs.Shows.{Over, is_it, root_if, object_of, cell_now, result_object}
use Rattle.run_world.specs.Seen.{env}
use Rattle.fn_facts.specs.declared.around.Around.{Around}
use Rattle.fn_facts.specs.Seen.{over}
use Rattle.fn_facts.specs.Showing.{ShowsAtExit, Told}
use Rattle.fn_walks.specs.Seen.{any_below, is_object, leads_to}
use Rattle.fn_walks.specs.Walks.{Each, IsNowhere, IsNowhereAt, ShowsCell, ShowsOf, ShowsSet, target_in}

-- Lists of gates.

top_push : (gs : List Gate) (g : Gate) (n : ℕ) → gates_top gs ≤ n → g.at < n → gates_top (gs ++ g ∷ []) ≤ n
unfolding gates_top
top_push [] g n h low = omega (arith, low)
top_push (x ∷ gs) g n h low = let rest = top_push gs g n (omega (arith, h)) low in omega (arith, rest, h)

no_top : gates_top [] ≡ 0
unfolding gates_top
no_top = refl

pushed_at : (v : ℕ → Bool) (gs : List Gate) (g : Gate) (j : ℕ) → j < length gs → holds_at v (gs ++ g ∷ []) j ≡ holds_at v gs j
unfolding holds_at
pushed_at v [] g j low = absurd (omega (arith, low))
pushed_at v (x ∷ gs) g zero low = refl
pushed_at v (x ∷ gs) g (suc j) low = pushed_at v gs g j (omega (arith, low))

pushed_last : (v : ℕ → Bool) (gs : List Gate) (g : Gate) (j : ℕ) → j ≡ length gs → holds_at v (gs ++ g ∷ []) j ≡ v g.at
unfolding holds_at
pushed_last v [] g zero e = refl
pushed_last v [] g (suc j) e = absurd (omega (arith, e))
pushed_last v (x ∷ gs) g zero e = absurd (omega (arith, e))
pushed_last v (x ∷ gs) g (suc j) e = pushed_last v gs g j (omega (arith, e))

below_at : (gs : List Gate) (k : ℕ) (d : Gate) → k < length gs → (slice_index_or gs k d).at < gates_top gs
unfolding gates_top
below_at [] k d low = absurd (omega (arith, low))
below_at (g ∷ gs) zero d low = omega arith
below_at (g ∷ gs) (suc k) d low = omega (arith, below_at gs k d (omega (arith, low)))

-- Gates for so many numbers.

pub each_none : (a : Around) (ns : List Node) (of : Over → ℕ → Bool) (at : ℕ → ℕ) (gates : List Gate) → gates ≡ [] → Each a ns of at 0 gates
each_none a ns of at gates e =
    record {
      wide = ap length e;
      below = omega (arith, ap gates_top e, no_top);
      value = λ bits v c w runs t i low. absurd (omega (arith, low));
    }

pub each_grows : (a : Around) (old ns : List Node) (of : Over → ℕ → Bool) (at : ℕ → ℕ) (count : ℕ) (gates : List Gate) → Grown old ns
    → Each a old of at count gates → Each a ns of at count gates
each_grows a old ns of at count gates g e =
    record {
      wide = e.wide;
      below = omega (arith, e.below, g.longer);
      value = λ bits v c w runs t. e.value bits v c w (g.runs (bit_at bits) v runs) t;
    }

pub each_push : (a : Around) (old ns : List Node) (of : Over → ℕ → Bool) (at : ℕ → ℕ) (k n : ℕ) (gates new : List Gate) (g : Gate) → Grown old ns
    → new ≡ gates ++ g ∷ [] → n ≡ at k → Each a old of at k gates → ShowsAtExit a ns (λ o. of o n) g.at → Each a ns of at (k + 1) new
each_push a old ns of at k n gates new g grown pushed here e s =
    record {
      wide = ap length pushed ∙ (length-append gates (g ∷ []) ∙ ap (λ m. m + 1) e.wide);
      below = let less : gates_top gates ≤ length ns = omega (arith, e.below, grown.longer) in
          subst (λ (gs : List Gate). gates_top gs ≤ length ns) (sym pushed) (top_push gates g (length ns) less s.below);
      value = λ bits v c w runs t i low.
          ap (λ gs. holds_at v gs i) pushed
          ∙ by bits v c w i (cases_lt i k) low (s.value bits v c w runs t) (λ less. e.value bits v c w (grown.runs (bit_at bits) v runs) t i less);
    }
  where
    by : (bits : List Bool) (v : ℕ → Bool) (c : Cell) (w : World) (i : ℕ) → (i < k) ⊎ (k ≤ i) → i < k + 1 → v g.at ≡ of (over a bits (Ok c) w) n
        → (i < k → holds_at v gates i ≡ of (over a bits (Ok c) w) (at i)) → holds_at v (gates ++ g ∷ []) i ≡ of (over a bits (Ok c) w) (at i)
    by bits v c w i (inl less) low last before = pushed_at v gates g i (omega (arith, less, e.wide)) ∙ before less
    by bits v c w i (inr high) low last before =
        let same : i ≡ k = omega (arith, high, low) in
        pushed_last v gates g i (omega (arith, same, e.wide))
        ∙ (last ∙ (ap (of (over a bits (Ok c) w)) here ∙ ap (λ j. of (over a bits (Ok c) w) (at j)) (sym same)))

pub each_all : (a : Around) (ns : List Node) (of : Over → ℕ → Bool) (at : ℕ → ℕ) (k n : ℕ) (gates : List Gate) → k ≡ n → Each a ns of at k gates
    → Each a ns of at n gates
each_all a ns of at k n gates e s = subst (λ (i : ℕ). Each a ns of at i gates) e s

pub all_below : (gs : List Gate) (n : ℕ) → gates_top gs ≤ n → All (λ g. g.at < n) gs
all_below gs n h = λ k d low. omega (arith, below_at gs k d low, h)

-- Sets.

tests_of : (v : ℕ → Bool) (pairs : List Pair) (tests : List Gate) (f : ℕ → Bool) → length tests ≡ length pairs
    → ((i : ℕ) → i < length pairs → holds_at v tests i ≡ f (target_in pairs i)) → Tests v pairs tests f
unfolding holds_at
tests_of v [] [] f e h = tt
tests_of v [] (g ∷ gs) f e h = absurd (omega (arith, e))
tests_of v (p ∷ ps) [] f e h = absurd (omega (arith, e))
tests_of v (p ∷ ps) (g ∷ gs) f e h = (h 0 (omega arith), tests_of v ps gs f (omega (arith, e)) (λ i low. h (suc i) (omega (arith, low))))

pub set_shown : (a : Around) (old ns : List Node) (of : Over → ℕ → Bool) (pairs : List Pair) (tests : List Gate) (g : ℕ) → Grown old ns
    → Each a old of (target_in pairs) (length pairs) tests → IsWhere ns pairs tests g → ShowsSet a ns pairs of g
set_shown a old ns of pairs tests g grown each where_it =
    record {
      below = where_it.below;
      value = λ bits v c w runs told t h.
          where_it.points (bit_at bits) v runs (of (over a bits (Ok c) w)) t
          (tests_of v pairs tests (of (over a bits (Ok c) w)) each.wide (each.value bits v c w (grown.runs (bit_at bits) v runs) told)) h;
    }

-- Values.

pub val_of_set : (a : Around) (ns : List Node) (s : Set) (of : Over → ℕ → Bool) (g : ℕ) → ShowsSet a ns s.pairs.items of g
    → ShowsOf a ns (val.Set s) (λ o c. of o (target_of c)) g
val_of_set a ns s of g shown = record { below = shown.below; value = value }
  where
    value : (bits : List Bool) (v : ℕ → Bool) (c : Cell) (w : World) → Runs ns (bit_at bits) v → Told a v bits (Ok c) w
        → (x : Cell) → Meets v (val.Set s) x → v g ≡ of (over a bits (Ok c) w) (target_of x)
    value bits v c w runs t (Number width n) m = absurd m
    value bits v c w runs t (Pointer to) m = shown.value bits v c w runs t to m
    value bits v c w runs t Nothing m = absurd m

pub val_of_word : (a : Around) (ns : List Node) (word : Word) (of : Over → ℕ → Bool) (g : ℕ) → ((o : Over) → of o 0 ≡ false)
    → Gives ns g (λ choice v. false) → ShowsOf a ns (val.Word word) (λ o c. of o (target_of c)) g
val_of_word a ns word of g never gives = record { below = gives.below; value = value }
  where
    value : (bits : List Bool) (v : ℕ → Bool) (c : Cell) (w : World) → Runs ns (bit_at bits) v → Told a v bits (Ok c) w
        → (x : Cell) → Meets v (val.Word word) x → v g ≡ of (over a bits (Ok c) w) (target_of x)
    value bits v c w runs t (Number width n) m = gives.value (bit_at bits) v runs ∙ sym (never (over a bits (Ok c) w))
    value bits v c w runs t (Pointer to) m = absurd m
    value bits v c w runs t Nothing m = absurd m

pub val_of_unit : (a : Around) (ns : List Node) (of : Over → ℕ → Bool) (g : ℕ) → ((o : Over) → of o 0 ≡ false)
    → Gives ns g (λ choice v. false) → ShowsOf a ns val.Unit (λ o c. of o (target_of c)) g
val_of_unit a ns of g never gives = record { below = gives.below; value = value }
  where
    value : (bits : List Bool) (v : ℕ → Bool) (c : Cell) (w : World) → Runs ns (bit_at bits) v → Told a v bits (Ok c) w
        → (x : Cell) → Meets v val.Unit x → v g ≡ of (over a bits (Ok c) w) (target_of x)
    value bits v c w runs t (Number width n) m = absurd m
    value bits v c w runs t (Pointer to) m = absurd m
    value bits v c w runs t Nothing m = gives.value (bit_at bits) v runs ∙ sym (never (over a bits (Ok c) w))

-- a value that leads to an object
object_is : (o : Over) (t n : ℕ) → is_object o.layout t n ≡ is_it n (root_if o t)
object_is o zero n = refl
object_is o (suc at) n = refl

pub of_leads_to : (a : Around) (ns : List Node) (x : Val) (n g : ℕ) → ShowsOf a ns x (λ o c. is_object o.layout (target_of c) n) g
    → ShowsOf a ns x (λ o c. leads_to o c n) g
unfolding leads_to
of_leads_to a ns x n g s =
    record {
      below = s.below;
      value = λ bits v c w runs t y m. s.value bits v c w runs t y m ∙ object_is (over a bits (Ok c) w) (target_of y) n;
    }

-- values that lead to an object, or to none
pub word_leads : (a : Around) (ns : List Node) (word : Word) (n g : ℕ) → Gives ns g (λ choice v. false) → ShowsOf a ns (val.Word word) (λ o c. leads_to o c n) g
word_leads a ns word n g gives =
    of_leads_to a ns (val.Word word) n g (val_of_word a ns word (λ o t. is_object o.layout t n) g (λ o. refl) gives)

pub unit_leads : (a : Around) (ns : List Node) (n g : ℕ) → Gives ns g (λ choice v. false) → ShowsOf a ns val.Unit (λ o c. leads_to o c n) g
unit_leads a ns n g gives = of_leads_to a ns val.Unit n g (val_of_unit a ns (λ o t. is_object o.layout t n) g (λ o. refl) gives)

pub set_leads : (a : Around) (ns : List Node) (s : Set) (n g : ℕ) → ShowsSet a ns s.pairs.items (λ o t. is_object o.layout t n) g
    → ShowsOf a ns (val.Set s) (λ o c. leads_to o c n) g
set_leads a ns s n g shown = of_leads_to a ns (val.Set s) n g (val_of_set a ns s (λ o t. is_object o.layout t n) g shown)

-- Targets.

pub null_is_none : (p : Layout) (t n : ℕ) → t ≡ 0 → false ≡ is_object p t n
null_is_none p t n e = sym (ap (λ k. is_object p k n) e)

pub object_at : (p : Layout) (t at n root : ℕ) → t ≡ suc at → root ≡ (location p at).root → nat_eq n root ≡ is_object p t n
object_at p t at n root e r = ap (nat_eq n) r ∙ sym (ap (λ k. is_object p k n) e)

-- Cells.

met_there : (ls : List Guarded) (d : Guarded) (v : ℕ → Bool) (ps : List Place) (k : ℕ) → k < length ls → MeetsAll v ls ps
    → Meets v (slice_index_or ls k d).val (nth_cell ps k)
met_there [] d v ps k low m = absurd (omega (arith, low))
met_there (x ∷ xs) d v [] k low m = absurd m
met_there (x ∷ xs) d v (p ∷ ps) zero low m = m.0.cell
met_there (x ∷ xs) d v (p ∷ ps) (suc k) low m = met_there xs d v ps k (omega (arith, low)) m.1

no_cell : (ls : List Guarded) (v : ℕ → Bool) (ps : List Place) (k : ℕ) → length ls ≤ k → MeetsAll v ls ps → nth_cell ps k ≡ Nothing
no_cell [] v [] k high m = refl
no_cell [] v (p ∷ ps) k high m = absurd m
no_cell (x ∷ xs) v [] k high m = absurd m
no_cell (x ∷ xs) v (p ∷ ps) zero high m = absurd (omega (arith, high))
no_cell (x ∷ xs) v (p ∷ ps) (suc k) high m = no_cell xs v ps k (omega (arith, high)) m.1

pub val_below : (ls : List Guarded) (k n : ℕ) (d : Guarded) → k < length ls → locations_top ls ≤ n → val_top (slice_index_or ls k d).val ≤ n
unfolding locations_top
val_below [] k n d low h = absurd (omega (arith, low))
val_below (x ∷ xs) zero n d low h = omega (arith, h)
val_below (x ∷ xs) (suc k) n d low h = val_below xs k n d (omega (arith, low)) (omega (arith, h))

pub stored_shown : (a : Around) (ns : List Node) (ls : List Guarded) (at n g : ℕ) (d : Guarded) → at < length ls
    → ShowsOf a ns (slice_index_or ls at d).val (λ o c. leads_to o c n) g → ShowsCell a ns ls at (λ o c. leads_to o c n) g
stored_shown a ns ls at n g d low s =
    record {
      below = s.below;
      value = λ bits v c w runs t ps m. s.value bits v c w runs t (nth_cell ps at) (met_there ls d v ps at low m);
    }

pub none_stored : (a : Around) (ns : List Node) (ls : List Guarded) (at n g : ℕ) → length ls ≤ at → Gives ns g (λ choice v. false)
    → ShowsCell a ns ls at (λ o c. leads_to o c n) g
unfolding leads_to
none_stored a ns ls at n g high gives =
    record {
      below = gives.below;
      value = λ bits v c w runs t ps m.
          (let o = over a bits (Ok c) w in
          gives.value (bit_at bits) v runs ∙ sym (ap (λ x. is_it n (object_of o x)) (no_cell ls v ps at high m)));
    }

pub cell_shown : (a : Around) (ns : List Node) (at n g : ℕ)
    → ShowsCell a ns a.encoded.now.store.locations.items at (λ o c. leads_to o c n) g → ShowsAtExit a ns (λ o. leads_to o (cell_now o at) n) g
cell_shown a ns at n g s =
    record { below = s.below; value = λ bits v c w runs t. s.value bits v c w runs t w.places t.tells.1 }

-- a location whose cell leads nowhere
pub stored_nowhere : (ls : List Guarded) (at : ℕ) (d : Guarded) → at < length ls → IsNowhere (slice_index_or ls at d).val → IsNowhereAt ls at
stored_nowhere ls at d low none = λ v ps m. none v (nth_cell ps at) (met_there ls d v ps at low m)

pub none_nowhere : (ls : List Guarded) (at : ℕ) → length ls ≤ at → IsNowhereAt ls at
none_nowhere ls at high = λ v ps m. ap target_of (no_cell ls v ps at high m)

pub result_shown : (a : Around) (ns : List Node) (n g : ℕ) → ShowsOf a ns a.encoded.now.result (λ o c. leads_to o c n) g
    → ShowsAtExit a ns (λ o. is_it n (result_object o)) g
unfolding leads_to
result_shown a ns n g s =
    record { below = s.below; value = λ bits v c w runs t. s.value bits v c w runs t c t.tells.2 }

-- One of so many.

pub any_begins : (a : Around) (ns : List Node) (f : Over → ℕ → Bool) (g : ℕ) → Gives ns g (λ choice v. false) → ShowsAtExit a ns (λ o. any_below f o 0) g
unfolding any_below
any_begins a ns f g gives = record { below = gives.below; value = λ bits v c w runs t. gives.value (bit_at bits) v runs }

pub any_more : (a : Around) (n1 n2 ns : List Node) (f : Over → ℕ → Bool) (k some here g : ℕ) → Grown n1 n2 → Grown n2 ns
    → ShowsAtExit a n1 (λ o. any_below f o k) some → ShowsAtExit a n2 (λ o. f o k) here → Gives ns g (λ choice v. v some || v here)
    → ShowsAtExit a ns (λ o. any_below f o (k + 1)) g
unfolding any_below
any_more a n1 n2 ns f k some here g g1 g2 s h gives =
    record {
      below = gives.below;
      value = λ bits v c w runs t.
          (let o = over a bits (Ok c) w in
          let r2 = g2.runs (bit_at bits) v runs in
          let r1 = g1.runs (bit_at bits) v r2 in
          let next : k + 1 ≡ suc k = omega arith in
          gives.value (bit_at bits) v runs
          ∙ (ap (λ b. b || v here) (s.value bits v c w r1 t) ∙ (ap (λ b. any_below f o k || b) (h.value bits v c w r2 t)
          ∙ sym (ap (any_below f o) next))));
    }

pub any_done : (a : Around) (ns : List Node) (f : Over → ℕ → Bool) (k n g : ℕ) → k ≡ n → ShowsAtExit a ns (λ o. any_below f o k) g
    → ShowsAtExit a ns (λ o. any_below f o n) g
any_done a ns f k n g e s =
    record { below = s.below; value = λ bits v c w runs t. s.value bits v c w runs t ∙ ap (any_below f (over a bits (Ok c) w)) e }

-- a test that is the same in every choice
pub test_shown : (a : Around) (ns : List Node) (n t g : ℕ) (b : Bool) → b ≡ is_object (env a.here).layout t n → Gives ns g (λ choice v. b)
    → ShowsAtExit a ns (λ o. is_object o.layout t n) g
test_shown a ns n t g b is gives =
    record { below = gives.below; value = λ bits v c w runs told. gives.value (bit_at bits) v runs ∙ is }

pub same_target : (pairs : List Pair) (i : ℕ) (d : Pair) → i < length pairs → (slice_index_or pairs i d).target ≡ target_in pairs i
same_target [] i d low = absurd (omega (arith, low))
same_target (p ∷ ps) zero d low = refl
same_target (p ∷ ps) (suc i) d low = same_target ps i d (omega (arith, low))
