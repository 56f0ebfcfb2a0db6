-- A verdict over a layout in which callers know no other locations than they may fits its function.
use Rattle.std.proofs.Common.{◌≡◌, ℕ, zero, suc, ◌+◌, ◌<◌, ◌≤◌, ◌&&◌, Bool, true, false, List, [], ◌∷◌, ◌++◌, length, map, filter, refl, sym, ap, subst, ◌∙◌, ⊎_elim, inl, inr, arith}
use Rattle.std.proofs.lemmas.Bool.{true≢false, and_parts}
use Rattle.std.proofs.lemmas.List.{length-append, length-map}
use Rattle.std.proofs.lemmas.List.FromFn.{length-range_with_len}
use Rattle.std.proofs.lemmas.List.Elements.{All-from_recursion, recursion_from_All, All-cons, All-append, All-map}
use Rattle.std.specs.Prelude.{Option, Some, None, Result, Ok, Err, All, ◌||◌, slice_get, if◌then◌else◌}
use Rattle.std.specs.List.{AllByRecursion, range_with_len}
use Rattle.sc_base.specs.declared.skip.LimitKind.{LimitKind}
use Rattle.sc_tree.specs.declared.ctype.Widths.{Widths}
use Rattle.sum_rows.specs.declared.path.Root.{Root}
use Rattle.sum_rows.specs.declared.path.Root.TheVariants as root
use Rattle.sum_rows.specs.declared.path.Step.{Step}
use Rattle.sum_rows.specs.declared.path.Step.TheVariants as step
use Rattle.sum_rows.specs.declared.row.ItemRows.{ItemRows}
use Rattle.sc_world.specs.Tree.{Ty, Void, Bool', Int, Ptr, Array, Struct, Union, Func, Opaque, is_integer, is_pointer, target_or_void}
use Rattle.sc_world.specs.Source.{Source}
use Rattle.sc_world.specs.Layout.{Layout, location, is_outer, is_there, is_cell}
use Rattle.sc_world.specs.Places.{places}
use Rattle.sc_world.specs.Paths.{Texts, path_by, path_of, path_from, with_step}
use Rattle.sc_world.specs.Shows.{Touches, Writes, Changes, Sets}
use Rattle.sc_world.specs.Verdict.{Answers, numbers, exit_item, lock_item, touched, params_from, changed, param_item, out_params_from, set_params, out_item, width_of, written, write_of, summary, done_with, verdict_with, verdict_of, answers}
use Rattle.verdict_laws.specs.Fits.{AreTypedParams, HasParam, Begins, FitsPath, FitsItem, IsWidth, FitsWrite, FitsSummary, Fits}
use Rattle.verdict_laws.proofs.Laying.{len}
use Rattle.verdict_laws.proofs.Entry.{IsOuter, of_global, of_param, of_target, of_part, Settled}
use Rattle.verdict_laws.proofs.Settled.{IsSettled, OfLayout, places_settle}

-- Paths.

module _ (w : Widths) (params globals : List Ty) where
  more_steps : (r : Root) (ss : List Step) (s : Step) → Begins w params globals r ss → Begins w params globals r (ss ++ s ∷ [])
  more_steps (root.Global n) ss s h = h
  more_steps (root.Param n) [] s h = absurd h
  more_steps (root.Param n) (step.Deref ∷ ss) s h = h
  more_steps (root.Param n) (step.Field m ∷ ss) s h = absurd h
  more_steps (root.Param n) (step.Elem m ∷ ss) s h = absurd h

  pub outer_path : (p : Layout) (i : ℕ) → IsOuter (length params) (length globals) p i → (fuel : ℕ) → i < fuel
      → FitsPath w params globals (path_by fuel p i)
  outer_path p i is zero less = absurd (omega (arith, less))
  outer_path p _ (of_global i n e h) (suc more) less =
      subst (λ o. FitsPath w params globals (path_from (path_by more p) o)) (sym e) h
  outer_path p _ (of_param i up n e h d k) (suc zero) less = absurd (omega (arith, less, h))
  outer_path p _ (of_param i up n e h d k) (suc (suc more)) less =
      subst (λ o. FitsPath w params globals (path_from (path_by (suc more) p) o)) (sym e)
      (subst (λ o. FitsPath w params globals (with_step step.Deref (path_from (path_by more p) o))) (sym d) k)
  outer_path p _ (of_target i up e h is) (suc more) less =
      subst (λ o. FitsPath w params globals (path_from (path_by more p) o)) (sym e)
      (more_steps (path_by more p up).root (path_by more p up).steps step.Deref (outer_path p up is more (omega (arith, less, h))))
  outer_path p _ (of_part i up s e h is) (suc more) less =
      subst (λ o. FitsPath w params globals (path_from (path_by more p) o)) (sym e)
      (more_steps (path_by more p up).root (path_by more p up).steps s (outer_path p up is more (omega (arith, less, h))))

-- Lists.

kept_if : {X : Type 0} (P : X → Type 0) (b : Bool) (x : X) (xs : List X) → (b ≡ true → P x) → AllByRecursion P xs
    → AllByRecursion P (if b then x ∷ xs else xs)
kept_if P true x xs here rest = (here refl, rest)
kept_if P false x xs here rest = rest

kept : {X : Type 0} (R P : X → Type 0) (test : X → Bool) → ((x : X) → R x → test x ≡ true → P x) → (xs : List X)
    → AllByRecursion R xs → AllByRecursion P (filter test xs)
kept R P test so [] all = tt
kept R P test so (x ∷ xs) (h, hs) = kept_if P (test x) x (filter test xs) (so x h) (kept R P test so xs hs)

fewer_if : {X : Type 0} (b : Bool) (x : X) (xs ys : List X) → length ys ≤ length xs → length (if b then x ∷ ys else ys) ≤ length (x ∷ xs)
fewer_if true x xs ys h = omega (arith, h)
fewer_if false x xs ys h = omega (arith, h)

kept_few : {X : Type 0} (test : X → Bool) (xs : List X) → length (filter test xs) ≤ length xs
kept_few test [] = omega arith
kept_few test (x ∷ xs) = fewer_if (test x) x xs (filter test xs) (kept_few test xs)

range_below : (a n m : ℕ) → a + n ≤ m → AllByRecursion (λ x. x < m) (range_with_len a n)
range_below a zero m h = tt
range_below a (suc n) m h = (omega (arith, h), range_below (a + 1) n m (omega (arith, h)))

-- Parameters.

module _ (s : Source) (x : Texts) (q : Answers) where
  HasThem : ℕ → List Ty → Type 0
  HasThem k ts = (i : ℕ) (t : Ty) → slice_get ts i ≡ Some t → slice_get s.params (k + i) ≡ Some t

  has_first : (k : ℕ) (t : Ty) (ts : List Ty) → HasThem k (t ∷ ts) → slice_get s.params k ≡ Some t
  unfolding HasThem
  has_first k t ts has =
      let e : k + 0 ≡ k = omega arith in subst (λ n. slice_get s.params n ≡ Some t) e (has 0 t refl)

  has_rest : (k : ℕ) (t : Ty) (ts : List Ty) → HasThem k (t ∷ ts) → HasThem (k + 1) ts
  unfolding HasThem
  has_rest k t ts has i u h =
      let e : k + suc i ≡ (k + 1) + i = omega arith in subst (λ n. slice_get s.params n ≡ Some u) e (has (suc i) u h)

  pointers : (k : ℕ) (ts : List Ty) → HasThem k ts → AllByRecursion (HasParam s.widths s.params s.globals is_pointer) (params_from s x q k ts)
  pointers k [] has = tt
  pointers k (t ∷ ts) has =
      kept_if (HasParam s.widths s.params s.globals is_pointer) (is_pointer t) k (params_from s x q (k + 1) ts)
      (λ e. (t, has_first k t ts has, e)) (pointers (k + 1) ts (has_rest k t ts has))

  outs : (k : ℕ) (ts : List Ty) → HasThem k ts
      → AllByRecursion (HasParam s.widths s.params s.globals (λ t. is_pointer (target_or_void t))) (out_params_from s x q k ts)
  outs k [] has = tt
  outs k (t ∷ ts) has =
      kept_if (HasParam s.widths s.params s.globals (λ t. is_pointer (target_or_void t))) (is_pointer (target_or_void t)) k (out_params_from s x q (k + 1) ts)
      (λ e. (t, has_first k t ts has, e)) (outs (k + 1) ts (has_rest k t ts has))

  has_all : HasThem 0 s.params
  unfolding HasThem
  has_all i t h = let e : i ≡ 0 + i = omega arith in subst (λ n. slice_get s.params n ≡ Some t) e h

  few_if : (b : Bool) (k n : ℕ) (ks : List ℕ) → length ks ≤ n → length (if b then k ∷ ks else ks) ≤ suc n
  few_if true k n ks h = omega (arith, h)
  few_if false k n ks h = omega (arith, h)

  few_pointers : (k : ℕ) (ts : List Ty) → length (params_from s x q k ts) ≤ length ts
  few_pointers k [] = omega arith
  few_pointers k (t ∷ ts) = few_if (is_pointer t) k (length ts) (params_from s x q (k + 1) ts) (few_pointers (k + 1) ts)

  few_outs : (k : ℕ) (ts : List Ty) → length (out_params_from s x q k ts) ≤ length ts
  few_outs k [] = omega arith
  few_outs k (t ∷ ts) = few_if (is_pointer (target_or_void t)) k (length ts) (out_params_from s x q (k + 1) ts) (few_outs (k + 1) ts)

  -- Widths.

  width_fits : (o : Option Ty) → IsWidth s.widths s.params s.globals (width_of s x q o)
  width_fits None = inl refl
  width_fits (Some Bool') = inr (Bool', refl, refl)
  width_fits (Some (Int k)) = inr (Int k, refl, refl)
  width_fits (Some Void) = inl refl
  width_fits (Some (Ptr t)) = inl refl
  width_fits (Some (Array t n)) = inl refl
  width_fits (Some (Struct n)) = inl refl
  width_fits (Some (Union n)) = inl refl
  width_fits (Some (Func t k ts v)) = inl refl
  width_fits (Some (Opaque k)) = inl refl

  -- Locations that callers know.

  is_known : (o : Option ℕ) → is_there o ≡ true → o ≡ None → ⊥
  is_known None h e = true≢false (sym h)
  is_known (Some n) h e = true≢false (ap is_there e)

  module _ (settled : IsSettled (length s.params) (length s.globals) x.layout) where
    known_path : (at : ℕ) → at < len x.layout → is_outer (location x.layout at) ≡ true
        → FitsPath s.widths s.params s.globals (path_of x.layout at)
    unfolding Settled
    known_path at less h =
        ⊎_elim
        (λ none. absurd (is_known (location x.layout at).state h none))
        (λ is. outer_path s.widths s.params s.globals x.layout at is (len x.layout) less)
        (settled.settled at less)

    in_numbers : AllByRecursion (λ at. at < len x.layout) (numbers s x q)
    in_numbers = range_below 0 (len x.layout) (len x.layout) (omega arith)

    touched_paths : AllByRecursion (λ at. FitsPath s.widths s.params s.globals (path_of x.layout at)) (touched s x q)
    touched_paths =
        kept (λ at. at < len x.layout) (λ at. FitsPath s.widths s.params s.globals (path_of x.layout at))
        (λ at. is_outer (location x.layout at) && q.some (Touches at))
        (λ at less h. known_path at less (and_parts (is_outer (location x.layout at)) (q.some (Touches at)) h).0)
        (numbers s x q) in_numbers

    written_paths : AllByRecursion (λ at. FitsWrite s.widths s.params s.globals (write_of s x q at)) (written s x q)
    written_paths =
        kept (λ at. at < len x.layout) (λ at. FitsWrite s.widths s.params s.globals (write_of s x q at))
        (λ at. is_outer (location x.layout at) && (is_cell (location x.layout at) && q.some (Writes at)))
        (λ at less h. record {
          path = known_path at less
              (and_parts (is_outer (location x.layout at)) (is_cell (location x.layout at) && q.some (Writes at)) h).0;
          width = width_fits (location x.layout at).type;
        })
        (numbers s x q) in_numbers

    changed_params : AllByRecursion (HasParam s.widths s.params s.globals is_pointer) (changed s x q)
    changed_params =
        kept (HasParam s.widths s.params s.globals is_pointer) (HasParam s.widths s.params s.globals is_pointer)
        (λ n. q.some (Changes n)) (λ n h e. h) (params_from s x q 0 s.params) (pointers 0 s.params has_all)

    set_outs : AllByRecursion (HasParam s.widths s.params s.globals (λ t. is_pointer (target_or_void t))) (set_params s x q)
    set_outs =
        kept (HasParam s.widths s.params s.globals (λ t. is_pointer (target_or_void t)))
        (HasParam s.widths s.params s.globals (λ t. is_pointer (target_or_void t)))
        (λ n. q.some (Sets n)) (λ n h e. h) (out_params_from s x q 0 s.params) (outs 0 s.params has_all)

    all_items : All (λ i. FitsItem s.widths s.params s.globals i.item) (summary s x q).items
    all_items =
        let P : ItemRows → Type 0 = λ i. FitsItem s.widths s.params s.globals i.item in
        All-cons P (exit_item s x q)
        (map (lock_item s x q) (touched s x q) ++ (map (param_item s x q) (changed s x q) ++ map (out_item s x q) (set_params s x q)))
        tt
        (All-append P (map (lock_item s x q) (touched s x q))
        (map (param_item s x q) (changed s x q) ++ map (out_item s x q) (set_params s x q))
        (All-map P (lock_item s x q) (touched s x q)
        (All-from_recursion (λ at. P (lock_item s x q at)) (touched s x q) touched_paths))
        (All-append P (map (param_item s x q) (changed s x q)) (map (out_item s x q) (set_params s x q))
        (All-map P (param_item s x q) (changed s x q)
        (All-from_recursion (λ n. P (param_item s x q n)) (changed s x q) changed_params))
        (All-map P (out_item s x q) (set_params s x q)
        (All-from_recursion (λ n. P (out_item s x q n)) (set_params s x q) set_outs))))

    all_writes : All (FitsWrite s.widths s.params s.globals) (summary s x q).writes
    all_writes =
        All-map (FitsWrite s.widths s.params s.globals) (write_of s x q) (written s x q)
        (All-from_recursion (λ at. FitsWrite s.widths s.params s.globals (write_of s x q at)) (written s x q) written_paths)

    numbers_len : length (numbers s x q) ≡ len x.layout
    numbers_len = length-range_with_len 0 (len x.layout)

    few_writes : length (summary s x q).writes ≤ 256
    few_writes =
        omega (
          arith,
          length-map (written s x q) (write_of s x q),
          numbers_len,
          settled.few,
          kept_few (λ at. is_outer (location x.layout at) && (is_cell (location x.layout at) && q.some (Writes at))) (numbers s x q),
        )

    few_items : length s.params ≤ 8 → length (summary s x q).items ≤ 300
    few_items few =
        omega (
          arith,
          few,
          numbers_len,
          settled.few,
          length-append (map (lock_item s x q) (touched s x q)) (map (param_item s x q) (changed s x q) ++ map (out_item s x q) (set_params s x q)),
          length-append (map (param_item s x q) (changed s x q)) (map (out_item s x q) (set_params s x q)),
          length-map (touched s x q) (lock_item s x q),
          length-map (changed s x q) (param_item s x q),
          length-map (set_params s x q) (out_item s x q),
          kept_few (λ at. is_outer (location x.layout at) && q.some (Touches at)) (numbers s x q),
          kept_few (λ n. q.some (Changes n)) (params_from s x q 0 s.params),
          few_pointers 0 s.params,
          kept_few (λ n. q.some (Sets n)) (out_params_from s x q 0 s.params),
          few_outs 0 s.params,
        )

    pub summary_fits : length s.params ≤ 8 → FitsSummary s.widths s.params s.globals (summary s x q)
    summary_fits few = record {
      bits = refl;
      few_items = few_items few;
      few_writes = few_writes;
      items = all_items;
      writes = all_writes;
    }

pub given_fits : (s : Source) (x : Texts) (q : Answers) → places s ≡ Ok x.layout → AreTypedParams s.params
    → Fits s.widths s.params s.globals (done_with s x q)
given_fits s x q h typed =
    summary_fits s x q
    (subst (OfLayout (IsSettled (length s.params) (length s.globals))) h
    (places_settle s (recursion_from_All (λ t. is_integer t || is_pointer t ≡ true) s.params typed.scalars)))
    typed.few

with_fits : (s : Source) (x : Layout → Texts) → ((p : Layout) → (x p).layout ≡ p) → AreTypedParams s.params
    → (m : Result Layout LimitKind) → places s ≡ m → Fits s.widths s.params s.globals (verdict_with s x m)
with_fits s x over typed (Err e) h = tt
with_fits s x over typed (Ok p) h = given_fits s (x p) (answers s (x p)) (h ∙ sym (ap (λ y. Ok y) (over p))) typed

pub function_fits : (s : Source) (x : Layout → Texts) → ((p : Layout) → (x p).layout ≡ p) → AreTypedParams s.params
    → Fits s.widths s.params s.globals (verdict_of s x)
function_fits s x over typed = with_fits s x over typed (places s) refl
