-- The defined verdict leaves nothing out.
use Rattle.std.proofs.Common.{◌≡◌, ◌∙◌, ℕ, zero, suc, ◌+◌, ◌<◌, Bool, true, false, List, [], ◌∷◌, ◌++◌, length, map, refl, sym, ap, subst, ◌⊎◌, inl, inr, arith}
use Rattle.std.specs.Prelude.{◌&&◌, ◌||◌, not, bytes_eq, nat_eq, if◌then◌else◌, Contains, Result, Ok, Err}
use Rattle.std.specs.List.{list_any, flat_map}
use Rattle.std.proofs.lemmas.Bool.{and_from, and_parts, or_from, eq-eqb, eqb-true, false≢true, false_from_ne_true, not-true}
use Rattle.std.proofs.lemmas.List.Elements.{Contains-append_cases, Contains-append_left, Contains-append_right}
use Rattle.std.proofs.lemmas.List.Folds.{list_any-append}
use Rattle.run_store.specs.Concrete.{Cell}
use Rattle.sc_base.specs.declared.pos.Pos.{Pos}
use Rattle.sum_rows.specs.declared.row.Item.{Item}
use Rattle.sum_rows.specs.declared.row.Item.TheVariants as item
use Rattle.sum_rows.specs.declared.row.ItemRows.{ItemRows}
use Rattle.sum_rows.specs.declared.row.Row.{Row}
use Rattle.sum_rows.specs.declared.report.Report.{Report}
use Rattle.sum_rows.specs.declared.report.Report.TheVariants as report
use Rattle.sc_world.specs.Tree.{Ty, is_pointer, target_or_void}
use Rattle.sc_world.specs.Source.{Source}
use Rattle.sc_world.specs.Gather.{Site}
use Rattle.sc_world.specs.Layout.{location, is_outer, is_cell}
use Rattle.sc_world.specs.World.{Ended, Error, Inner, Aside}
use Rattle.sc_world.specs.Paths.{Texts, text_at, path_of}
use Rattle.sc_world.specs.Shows.{says, Exits, Touches, Locks, Changes, Params, Sets, Outs, Writes, EndsAt, Leaks, ends_inner, text_is}
use Rattle.sc_world.specs.Verdict.{Answers, answers, run_over, error_text, exit_rows, exit_item, lock_rows, lock_item, param_item, out_item, write_of, touched, changed, set_params, written, params_from, out_params_from, summary, reports, done_with}
use Rattle.world_laws.specs.Runs.{SomeRun, HasAllRowsOfRuns, HasLocationsOfRuns, HasNumbersOfRuns}
use Rattle.world_laws.specs.Reported.{HasReport, IsInnerOf, IsLeakAt}
use Rattle.world_laws.proofs.Candidates.{first_is, behind_first, in_flat, in_map}
use Rattle.left_out.specs.Items.{item_of, is_listed, rows_of, same_item, same_path}
use Rattle.left_out.specs.LeftOut.{has_row_of, has_other, row_query, deed_query, shows_miss, miss, miss_if, exit_miss, lock_misses, param_misses, out_misses, write_misses, inner_misses, site_misses, row_misses, done_misses, numbers_of, params_of, type_of_param, is_written, is_unwritten, reports_text, reports_leak}
use Rattle.left_out.specs.Nothing.{LeavesNothing, HaveOwnPaths}
use Rattle.left_out.specs.declared.misses.Subject.{Subject}
use Rattle.left_out.specs.declared.misses.Subject.TheVariants as subject
use Rattle.left_out.specs.declared.misses.Deed.{Deed}
use Rattle.left_out.specs.declared.misses.Deed.TheVariants as deed
use Rattle.left_out.specs.declared.misses.Miss.{Miss}
use Rattle.left_out.specs.declared.misses.Miss.TheVariants.{Row as RowOf, Does}
use Rattle.left_out.proofs.Lists.{some_of, found, first_or_later, mapped, none_passes, in_range_below}
use Rattle.left_out.proofs.OneRow.{has}
use Rattle.left_out.proofs.Alike.{path_is, path_same, bytes_turned, pos_same}

-- what the laws say of the rows and the reports of the defined verdict
pub record AreOfRuns (s : Source) (x : Texts) : Type 0 where
  pub exits : HasAllRowsOfRuns s x Exits (exit_rows s x (answers s x))
  pub locks : (at : ℕ) → is_outer (location x.layout at) ≡ true → HasAllRowsOfRuns s x (Locks at) (lock_rows s x (answers s x) at)
  pub params : (n : ℕ) → HasAllRowsOfRuns s x (Params n) (param_item s x (answers s x) n).rows
  pub outs : (n : ℕ) → HasAllRowsOfRuns s x (Outs n) (out_item s x (answers s x) n).rows
  pub touches : HasLocationsOfRuns s x Touches is_outer (touched s x (answers s x))
  pub changes : HasNumbersOfRuns s x Changes (params_from s x (answers s x) 0 s.params) (changed s x (answers s x))
  pub sets : HasNumbersOfRuns s x Sets (out_params_from s x (answers s x) 0 s.params) (set_params s x (answers s x))
  pub writes : HasLocationsOfRuns s x Writes (λ l. is_outer l && is_cell l) (written s x (answers s x))
  pub inner : (at : ℕ) → at < length x.layout.locations → SomeRun s x (EndsAt at) → HasReport s x (IsInnerOf s x (text_at x at))
  pub leaks : (p : Pos) → Contains (map (λ c. c.pos) x.layout.sites) p → SomeRun s x (Leaks p) → HasReport s x (IsLeakAt s x p)

-- ---- what may be left out, if it may

alone : (b : Bool) → b ≡ false → (b || false) ≡ false
alone b is = or_from b false is refl

none_if : (p : Miss → Bool) (b : Bool) (k : Miss) → (b ≡ true → p k ≡ false) → list_any p (miss_if b k) ≡ false
none_if p true k none = alone (p k) (none refl)
none_if p false k none = refl

-- ---- parameters

head_or_rest : (b : Bool) (k n : ℕ) (ns : List ℕ) → Contains ns n → Contains (if b then k ∷ ns else ns) n
head_or_rest true k n ns later = behind_first k n ns later
head_or_rest false k n ns later = later

head_if : (b : Bool) (k : ℕ) (ns : List ℕ) → b ≡ true → Contains (if b then k ∷ ns else ns) k
head_if b k ns so = subst (λ c. Contains (if c then k ∷ ns else ns) k) (sym so) (first_is k ns)

param_from : (s : Source) (x : Texts) (q : Answers) (k n : ℕ) (ts : List Ty) → n < length ts → is_pointer (type_of_param ts n) ≡ true
    → Contains (params_from s x q k ts) (k + n)
param_from s x q k n [] less is = absurd (omega (arith, less))
param_from s x q k zero (t ∷ ts) less is =
    let here : k + 0 ≡ k = omega arith in
    subst (λ m. Contains (params_from s x q k (t ∷ ts)) m) (sym here) (head_if (is_pointer t) k (params_from s x q (k + 1) ts) is)
param_from s x q k (suc n) (t ∷ ts) less is =
    let there : k + 1 + n ≡ k + suc n = omega arith in
    let later = param_from s x q (k + 1) n ts (omega (arith, less)) is in
    subst (λ m. Contains (params_from s x q k (t ∷ ts)) m) there
    (head_or_rest (is_pointer t) k (k + 1 + n) (params_from s x q (k + 1) ts) later)

out_from : (s : Source) (x : Texts) (q : Answers) (k n : ℕ) (ts : List Ty) → n < length ts → is_pointer (target_or_void (type_of_param ts n)) ≡ true
    → Contains (out_params_from s x q k ts) (k + n)
out_from s x q k n [] less is = absurd (omega (arith, less))
out_from s x q k zero (t ∷ ts) less is =
    let here : k + 0 ≡ k = omega arith in
    subst (λ m. Contains (out_params_from s x q k (t ∷ ts)) m) (sym here)
    (head_if (is_pointer (target_or_void t)) k (out_params_from s x q (k + 1) ts) is)
out_from s x q k (suc n) (t ∷ ts) less is =
    let there : k + 1 + n ≡ k + suc n = omega arith in
    let later = out_from s x q (k + 1) n ts (omega (arith, less)) is in
    subst (λ m. Contains (out_params_from s x q k (t ∷ ts)) m) there
    (head_or_rest (is_pointer (target_or_void t)) k (k + 1 + n) (out_params_from s x q (k + 1) ts) later)

-- ---- reports

error_of_text : (x : Texts) (t : List ℕ) (e : Result Cell Ended) → text_is x t (ends_inner e) ≡ true → bytes_eq t (error_text x e) ≡ true
error_of_text x t (Ok c) h = absurd (false≢true h)
error_of_text x t (Err (Error at)) h = absurd (false≢true h)
error_of_text x t (Err (Inner at)) h = bytes_turned (text_at x at) t h
error_of_text x t (Err (Aside r)) h = absurd (false≢true h)

inner_reported : (s : Source) (x : Texts) (t : List ℕ) (r : Report) → IsInnerOf s x t r → reports_text t r ≡ true
inner_reported s x t (report.Double p rs) is = absurd is
inner_reported s x t (report.Ambiguous p a b) is = absurd is
inner_reported s x t (report.Inner sh) is =
    let o = run_over s x.layout sh.choice in
    let same = ap (λ r. r.text) is.run in
    ap (bytes_eq t) same ∙ error_of_text x t o.ended is.least.passes
inner_reported s x t (report.Leak p a) is = absurd is

leak_reported : (s : Source) (x : Texts) (p : Pos) (r : Report) → IsLeakAt s x p r → reports_leak p r ≡ true
leak_reported s x p (report.Double q rs) is = absurd is
leak_reported s x p (report.Ambiguous q a b) is = absurd is
leak_reported s x p (report.Inner sh) is = absurd is
leak_reported s x p (report.Leak q sh) is =
    subst (λ (a : Pos). reports_leak p (report.Leak a sh) ≡ true) (sym is.0) (pos_same p)

in_places : (c : Site) (cs : List Site) → Contains cs c → Contains (map (λ (d : Site). d.pos) cs) c.pos
in_places c cs has' = in_map (λ (d : Site). d.pos) cs c has'

module _ (s : Source) (x : Texts) (laws : AreOfRuns s x) (own : HaveOwnPaths x.layout) where
  q : Answers
  q = answers s x

  -- ---- the items

  items : List ItemRows
  items = (summary s x (answers s x)).items

  lock_there : (at : ℕ) → Contains (touched s x (answers s x)) at → Contains items (lock_item s x (answers s x) at)
  unfolding items
  lock_there at has' =
      let f = lock_item s x (answers s x) in
      let ls : List ItemRows = map f (touched s x (answers s x)) in
      let ps : List ItemRows = map (param_item s x (answers s x)) (changed s x (answers s x)) in
      let os : List ItemRows = map (out_item s x (answers s x)) (set_params s x (answers s x)) in
      behind_first (exit_item s x (answers s x)) (f at) (ls ++ (ps ++ os))
      (Contains-append_left ls (ps ++ os) (f at) (in_map f (touched s x (answers s x)) at has'))

  param_there : (n : ℕ) → Contains (changed s x (answers s x)) n → Contains items (param_item s x (answers s x) n)
  unfolding items
  param_there n has' =
      let f = param_item s x (answers s x) in
      let ls : List ItemRows = map (lock_item s x (answers s x)) (touched s x (answers s x)) in
      let ps : List ItemRows = map f (changed s x (answers s x)) in
      let os : List ItemRows = map (out_item s x (answers s x)) (set_params s x (answers s x)) in
      behind_first (exit_item s x (answers s x)) (f n) (ls ++ (ps ++ os))
      (Contains-append_right ls (ps ++ os) (f n) (Contains-append_left ps os (f n) (in_map f (changed s x (answers s x)) n has')))

  out_there : (n : ℕ) → Contains (set_params s x (answers s x)) n → Contains items (out_item s x (answers s x) n)
  unfolding items
  out_there n has' =
      let f = out_item s x (answers s x) in
      let ls : List ItemRows = map (lock_item s x (answers s x)) (touched s x (answers s x)) in
      let ps : List ItemRows = map (param_item s x (answers s x)) (changed s x (answers s x)) in
      let os : List ItemRows = map f (set_params s x (answers s x)) in
      behind_first (exit_item s x (answers s x)) (f n) (ls ++ (ps ++ os))
      (Contains-append_right ls (ps ++ os) (f n) (Contains-append_right ps os (f n) (in_map f (set_params s x (answers s x)) n has')))

  -- what an item is
  pub data Sort (y : ItemRows) : Type 0 where
    of_exit : exit_item s x (answers s x) ≡ y → Sort y
    of_lock : (at : ℕ) → Contains (touched s x (answers s x)) at → lock_item s x (answers s x) at ≡ y → Sort y
    of_param : (n : ℕ) → Contains (changed s x (answers s x)) n → param_item s x (answers s x) n ≡ y → Sort y
    of_out : (n : ℕ) → Contains (set_params s x (answers s x)) n → out_item s x (answers s x) n ≡ y → Sort y

  third : (y : ItemRows) → Contains (map (param_item s x (answers s x)) (changed s x (answers s x))) y
      ⊎ Contains (map (out_item s x (answers s x)) (set_params s x (answers s x))) y → Sort y
  third y (inl has') =
      let one = mapped (param_item s x (answers s x)) (changed s x (answers s x)) y has' in of_param one.0 one.1 one.2
  third y (inr has') =
      let one = mapped (out_item s x (answers s x)) (set_params s x (answers s x)) y has' in of_out one.0 one.1 one.2

  second : (y : ItemRows) → Contains (map (lock_item s x (answers s x)) (touched s x (answers s x))) y
      ⊎ Contains (map (param_item s x (answers s x)) (changed s x (answers s x)) ++ map (out_item s x (answers s x)) (set_params s x (answers s x))) y → Sort y
  second y (inl has') =
      let one = mapped (lock_item s x (answers s x)) (touched s x (answers s x)) y has' in of_lock one.0 one.1 one.2
  second y (inr has') =
      third y (Contains-append_cases (map (param_item s x (answers s x)) (changed s x (answers s x)))
      (map (out_item s x (answers s x)) (set_params s x (answers s x))) y has')

  first : (y : ItemRows) → (exit_item s x (answers s x) ≡ y)
      ⊎ Contains (map (lock_item s x (answers s x)) (touched s x (answers s x))
      ++ (map (param_item s x (answers s x)) (changed s x (answers s x)) ++ map (out_item s x (answers s x)) (set_params s x (answers s x)))) y → Sort y
  first y (inl is) = of_exit is
  first y (inr has') =
      second y (Contains-append_cases (map (lock_item s x (answers s x)) (touched s x (answers s x)))
      (map (param_item s x (answers s x)) (changed s x (answers s x)) ++ map (out_item s x (answers s x)) (set_params s x (answers s x))) y has')

  sort_of : (y : ItemRows) → Contains items y → Sort y
  unfolding items
  sort_of y has' =
      first y (first_or_later (exit_item s x (answers s x)) y
      (map (lock_item s x (answers s x)) (touched s x (answers s x))
      ++ (map (param_item s x (answers s x)) (changed s x (answers s x)) ++ map (out_item s x (answers s x)) (set_params s x (answers s x)))) has')

  -- ---- rows that are listed

  listed : (i : Item) (y : ItemRows) → Contains items y → same_item i y.item ≡ true → is_listed items i ≡ true
  listed i y has' so = some_of (λ z. same_item i z.item) items y has' so

  row_there : (i : Item) (y : ItemRows) (r : Row) → Contains items y → same_item i y.item ≡ true → Contains y.rows r → Contains (rows_of items i) r
  row_there i y r has' so in_rows =
      in_flat (λ z. if same_item i z.item then z.rows else []) items y r has'
      (subst (λ b. Contains (if b then y.rows else []) r) (sym so) in_rows)

  lock_is : (at : ℕ) (y : ItemRows) → is_outer (location x.layout at) ≡ true → at < length x.layout.locations
      → same_item (item.Lock (path_of x.layout at)) y.item ≡ true → Sort y → Contains (touched s x (answers s x)) at
  lock_is at y outer less so (of_exit is) =
      absurd (false≢true (subst (λ (z : ItemRows). same_item (item.Lock (path_of x.layout at)) z.item ≡ true) (sym is) so))
  lock_is at y outer less so (of_lock to has' is) =
      let there = (laws.touches to).0 has' in
      let same : same_path (path_of x.layout at) (path_of x.layout to) ≡ true =
      subst (λ (z : ItemRows). same_item (item.Lock (path_of x.layout at)) z.item ≡ true) (sym is) so in
      let one : at ≡ to = own at to less there.0 outer there.1 (path_is (path_of x.layout at) (path_of x.layout to) same) in
      subst (Contains (touched s x (answers s x))) (sym one) has'
  lock_is at y outer less so (of_param n has' is) =
      absurd (false≢true (subst (λ (z : ItemRows). same_item (item.Lock (path_of x.layout at)) z.item ≡ true) (sym is) so))
  lock_is at y outer less so (of_out n has' is) =
      absurd (false≢true (subst (λ (z : ItemRows). same_item (item.Lock (path_of x.layout at)) z.item ≡ true) (sym is) so))

  param_is : (n : ℕ) (y : ItemRows) → same_item (item.Param n) y.item ≡ true → Sort y → Contains (changed s x (answers s x)) n
  param_is n y so (of_exit is) = absurd (false≢true (subst (λ (z : ItemRows). same_item (item.Param n) z.item ≡ true) (sym is) so))
  param_is n y so (of_lock to has' is) = absurd (false≢true (subst (λ (z : ItemRows). same_item (item.Param n) z.item ≡ true) (sym is) so))
  param_is n y so (of_param k has' is) =
      let same : nat_eq n k ≡ true = subst (λ (z : ItemRows). same_item (item.Param n) z.item ≡ true) (sym is) so in
      subst (Contains (changed s x (answers s x))) (sym (eqb-true n k same)) has'
  param_is n y so (of_out k has' is) = absurd (false≢true (subst (λ (z : ItemRows). same_item (item.Param n) z.item ≡ true) (sym is) so))

  out_is : (n : ℕ) (y : ItemRows) → same_item (item.Out n) y.item ≡ true → Sort y → Contains (set_params s x (answers s x)) n
  out_is n y so (of_exit is) = absurd (false≢true (subst (λ (z : ItemRows). same_item (item.Out n) z.item ≡ true) (sym is) so))
  out_is n y so (of_lock to has' is) = absurd (false≢true (subst (λ (z : ItemRows). same_item (item.Out n) z.item ≡ true) (sym is) so))
  out_is n y so (of_param k has' is) = absurd (false≢true (subst (λ (z : ItemRows). same_item (item.Out n) z.item ≡ true) (sym is) so))
  out_is n y so (of_out k has' is) =
      let same : nat_eq n k ≡ true = subst (λ (z : ItemRows). same_item (item.Out n) z.item ≡ true) (sym is) so in
      subst (Contains (set_params s x (answers s x))) (sym (eqb-true n k same)) has'

  -- ---- no run shows what may be left out

  module _ (c : List Bool) (long : length c ≡ x.layout.bits) where
    heard : (t : Subject) (rows : List Row) → ((r : Row) → SomeRun s x (row_query t r) → Contains rows r)
        → shows_miss x (run_over s x.layout c) (RowOf t rows) ≡ false
    heard t rows all =
        let o = run_over s x.layout c in
        let p : Row → Bool = λ r. says x o (row_query t r) in
        false_from_ne_true (has_other x o t rows)
        (λ so.
        let both = and_parts (has_row_of o t) (not (list_any p rows)) so in
        let mine = has x o t both.0 in
        let there : list_any p rows ≡ true = some_of p rows mine.0 (all mine.0 (c, long, mine.1)) mine.1 in
        false≢true (sym (not-true (list_any p rows) both.1) ∙ there))

    undone : (d : Deed) → (SomeRun s x (deed_query d) → ⊥) → shows_miss x (run_over s x.layout c) (Does d) ≡ false
    undone d none = false_from_ne_true (says x (run_over s x.layout c) (deed_query d)) (λ said. none (c, long, said))

    unmissed : (t : Subject) (d : Deed)
        → (is_listed items (item_of x.layout t) ≡ true → (r : Row) → SomeRun s x (row_query t r) → Contains (rows_of items (item_of x.layout t)) r)
        → (SomeRun s x (deed_query d) → is_listed items (item_of x.layout t) ≡ true)
        → shows_miss x (run_over s x.layout c) (miss x.layout (summary s x (answers s x)) t d) ≡ false
    unfolding items
    unmissed t d rows lists = go (is_listed items (item_of x.layout t)) refl
      where
        go : (b : Bool) → is_listed items (item_of x.layout t) ≡ b
            → shows_miss x (run_over s x.layout c) (if b then RowOf t (rows_of items (item_of x.layout t)) else Does d) ≡ false
        go true e = heard t (rows_of items (item_of x.layout t)) (rows e)
        go false e = undone d (λ does. false≢true (sym e ∙ lists does))

    p : Miss → Bool
    p = shows_miss x (run_over s x.layout c)

    exit_none : shows_miss x (run_over s x.layout c) (exit_miss x.layout (summary s x (answers s x))) ≡ false
    unfolding items
    exit_none =
        heard subject.Exit (rows_of items item.Exit)
        (λ r does. row_there item.Exit (exit_item s x (answers s x)) r (first_is (exit_item s x (answers s x)) _) refl ((laws.exits r).1 does))

    locks_none : (at : ℕ) → Contains (numbers_of x.layout) at
        → list_any (shows_miss x (run_over s x.layout c)) (lock_misses x.layout (summary s x (answers s x)) at) ≡ false
    locks_none at has' =
        let less = in_range_below (length x.layout.locations) at has' in
        let i = item.Lock (path_of x.layout at) in
        let k = miss x.layout (summary s x (answers s x)) (subject.Lock at) (deed.Touches at) in
        none_if (shows_miss x (run_over s x.layout c)) (is_outer (location x.layout at)) k
        (λ outer.
        unmissed (subject.Lock at) (deed.Touches at)
        (λ lists r does.
        let which = found (λ z. same_item i z.item) items lists in
        let mine = lock_is at which.0 outer less which.2 (sort_of which.0 which.1) in
        row_there i (lock_item s x (answers s x) at) r (lock_there at mine) (path_same (path_of x.layout at)) ((laws.locks at outer r).1 does))
        (λ does.
        listed i (lock_item s x (answers s x) at) (lock_there at ((laws.touches at).1 (less, outer, does))) (path_same (path_of x.layout at))))

    params_none : (n : ℕ) → Contains (params_of s.params) n
        → list_any (shows_miss x (run_over s x.layout c)) (param_misses x.layout (summary s x (answers s x)) s.params n) ≡ false
    params_none n has' =
        let less = in_range_below (length s.params) n has' in
        let i = item.Param n in
        let k = miss x.layout (summary s x (answers s x)) (subject.Param n) (deed.Changes n) in
        none_if (shows_miss x (run_over s x.layout c)) (is_pointer (type_of_param s.params n)) k
        (λ is.
        unmissed (subject.Param n) (deed.Changes n)
        (λ lists r does.
        let which = found (λ z. same_item i z.item) items lists in
        let mine = param_is n which.0 which.2 (sort_of which.0 which.1) in
        row_there i (param_item s x (answers s x) n) r (param_there n mine) (eq-eqb n n refl) ((laws.params n r).1 does))
        (λ does.
        let candidate = param_from s x (answers s x) 0 n s.params less is in
        let zero_more : 0 + n ≡ n = omega arith in
        let mine = (laws.changes n).1 (subst (Contains (params_from s x (answers s x) 0 s.params)) zero_more candidate, does) in
        listed i (param_item s x (answers s x) n) (param_there n mine) (eq-eqb n n refl)))

    outs_none : (n : ℕ) → Contains (params_of s.params) n
        → list_any (shows_miss x (run_over s x.layout c)) (out_misses x.layout (summary s x (answers s x)) s.params n) ≡ false
    outs_none n has' =
        let less = in_range_below (length s.params) n has' in
        let i = item.Out n in
        let k = miss x.layout (summary s x (answers s x)) (subject.Out n) (deed.Sets n) in
        none_if (shows_miss x (run_over s x.layout c)) (is_pointer (target_or_void (type_of_param s.params n))) k
        (λ is.
        unmissed (subject.Out n) (deed.Sets n)
        (λ lists r does.
        let which = found (λ z. same_item i z.item) items lists in
        let mine = out_is n which.0 which.2 (sort_of which.0 which.1) in
        row_there i (out_item s x (answers s x) n) r (out_there n mine) (eq-eqb n n refl) ((laws.outs n r).1 does))
        (λ does.
        let candidate = out_from s x (answers s x) 0 n s.params less is in
        let zero_more : 0 + n ≡ n = omega arith in
        let mine = (laws.sets n).1 (subst (Contains (out_params_from s x (answers s x) 0 s.params)) zero_more candidate, does) in
        listed i (out_item s x (answers s x) n) (out_there n mine) (eq-eqb n n refl)))

    writes_none : (at : ℕ) → Contains (numbers_of x.layout) at
        → list_any (shows_miss x (run_over s x.layout c)) (write_misses x.layout (summary s x (answers s x)).writes at) ≡ false
    writes_none at has' =
        let less = in_range_below (length x.layout.locations) at has' in
        let ws = (summary s x (answers s x)).writes in
        none_if (shows_miss x (run_over s x.layout c)) (is_unwritten x.layout ws at) (Does (deed.Writes at))
        (λ unwritten.
        let outer = and_parts (is_outer (location x.layout at)) (is_cell (location x.layout at) && not (is_written ws (path_of x.layout at))) unwritten in
        let cell = and_parts (is_cell (location x.layout at)) (not (is_written ws (path_of x.layout at))) outer.1 in
        undone (deed.Writes at)
        (λ does.
        let mine = (laws.writes at).1 (less, and_from (is_outer (location x.layout at)) (is_cell (location x.layout at)) outer.0 cell.0, does) in
        let said : is_written ws (path_of x.layout at) ≡ true =
        some_of (λ w. same_path (path_of x.layout at) w.path) ws (write_of s x (answers s x) at)
        (in_map (write_of s x (answers s x)) (written s x (answers s x)) at mine) (path_same (path_of x.layout at)) in
        false≢true (sym (not-true (is_written ws (path_of x.layout at)) cell.1) ∙ said)))

    inners_none : (at : ℕ) → Contains (numbers_of x.layout) at
        → list_any (shows_miss x (run_over s x.layout c)) (inner_misses x (reports s x (answers s x)) at) ≡ false
    inners_none at has' =
        let less = in_range_below (length x.layout.locations) at has' in
        let rs = reports s x (answers s x) in
        let t = text_at x at in
        none_if (shows_miss x (run_over s x.layout c)) (not (list_any (reports_text t) rs)) (Does (deed.EndsAt at))
        (λ unsaid.
        undone (deed.EndsAt at)
        (λ does.
        let mine = laws.inner at less does in
        let said : list_any (reports_text t) rs ≡ true = some_of (reports_text t) rs mine.0 mine.1 (inner_reported s x t mine.0 mine.2) in
        false≢true (sym (not-true (list_any (reports_text t) rs) unsaid) ∙ said)))

    leaks_none : (site : Site) → Contains x.layout.sites site
        → list_any (shows_miss x (run_over s x.layout c)) (site_misses (reports s x (answers s x)) site) ≡ false
    leaks_none site has' =
        let rs = reports s x (answers s x) in
        let at = site.pos in
        none_if (shows_miss x (run_over s x.layout c)) (not (list_any (reports_leak at) rs)) (Does (deed.Leaks at))
        (λ unsaid.
        undone (deed.Leaks at)
        (λ does.
        let mine = laws.leaks at (in_places site x.layout.sites has') does in
        let said : list_any (reports_leak at) rs ≡ true = some_of (reports_leak at) rs mine.0 mine.1 (leak_reported s x at mine.0 mine.2) in
        false≢true (sym (not-true (list_any (reports_leak at) rs) unsaid) ∙ said)))

    joined : (ks ls : List Miss) → list_any (shows_miss x (run_over s x.layout c)) ks ≡ false → list_any (shows_miss x (run_over s x.layout c)) ls ≡ false
        → list_any (shows_miss x (run_over s x.layout c)) (ks ++ ls) ≡ false
    joined ks ls one other =
        list_any-append (shows_miss x (run_over s x.layout c)) ks ls
        ∙ or_from (list_any (shows_miss x (run_over s x.layout c)) ks) (list_any (shows_miss x (run_over s x.layout c)) ls) one other

    pub nothing_shown : list_any (shows_miss x (run_over s x.layout c)) (done_misses s x (summary s x (answers s x)) (reports s x (answers s x))) ≡ false
    nothing_shown =
        let m = summary s x (answers s x) in
        let rs = reports s x (answers s x) in
        let k = shows_miss x (run_over s x.layout c) in
        let ls = flat_map (lock_misses x.layout m) (numbers_of x.layout) in
        joined (row_misses s x.layout m ++ flat_map (inner_misses x rs) (numbers_of x.layout)) (flat_map (site_misses rs) x.layout.sites)
        (joined (row_misses s x.layout m) (flat_map (inner_misses x rs) (numbers_of x.layout))
        (joined (exit_miss x.layout m ∷ ls ++ flat_map (param_misses x.layout m s.params) (params_of s.params) ++ flat_map (out_misses x.layout m s.params) (params_of s.params))
        (flat_map (write_misses x.layout m.writes) (numbers_of x.layout))
        (joined (exit_miss x.layout m ∷ ls ++ flat_map (param_misses x.layout m s.params) (params_of s.params)) (flat_map (out_misses x.layout m s.params) (params_of s.params))
        (joined (exit_miss x.layout m ∷ ls) (flat_map (param_misses x.layout m s.params) (params_of s.params))
        (or_from (k (exit_miss x.layout m)) (list_any k ls) exit_none (none_passes k (lock_misses x.layout m) (numbers_of x.layout) locks_none))
        (none_passes k (param_misses x.layout m s.params) (params_of s.params) params_none))
        (none_passes k (out_misses x.layout m s.params) (params_of s.params) outs_none))
        (none_passes k (write_misses x.layout m.writes) (numbers_of x.layout) writes_none))
        (none_passes k (inner_misses x rs) (numbers_of x.layout) inners_none))
        (none_passes k (site_misses rs) x.layout.sites leaks_none)

  pub leaves_nothing : LeavesNothing s x (done_with s x (answers s x))
  leaves_nothing c long = nothing_shown c long
