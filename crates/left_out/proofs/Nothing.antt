-- What a verdict has of which no choice leaves anything out.
use Rattle.std.proofs.Common.{◌≡◌, ◌∙◌, ℕ, ◌<◌, arith, Bool, true, false, List, [], ◌∷◌, ◌++◌, length, map, refl, sym, ap, subst, ◌⊎◌, inl, inr}
use Rattle.std.specs.Prelude.{◌&&◌, not, if◌then◌else◌, Contains}
use Rattle.std.specs.List.{list_any, flat_map}
use Rattle.std.proofs.lemmas.Bool.{and_from, false≢true, true_from_ne_false}
use Rattle.std.proofs.lemmas.List.Elements.{Contains-append_left, Contains-append_right}
use Rattle.sc_base.specs.declared.pos.Pos.{Pos}
use Rattle.sum_rows.specs.declared.row.Item.TheVariants as item
use Rattle.sum_rows.specs.declared.row.Row.{Row}
use Rattle.sum_rows.specs.declared.row.Summary.{Summary}
use Rattle.sum_rows.specs.declared.report.Report.{Report}
use Rattle.sum_rows.specs.declared.report.Verdict.TheVariants as verdict
use Rattle.sc_world.specs.Tree.{is_pointer, target_or_void}
use Rattle.sc_world.specs.Source.{Source}
use Rattle.sc_world.specs.Gather.{Site}
use Rattle.sc_world.specs.Layout.{location, is_outer, is_cell}
use Rattle.sc_world.specs.Paths.{Texts, text_at, path_of}
use Rattle.sc_world.specs.Shows.{says}
use Rattle.sc_world.specs.Verdict.{run_over}
use Rattle.world_laws.specs.Runs.{SomeRun}
use Rattle.world_laws.proofs.Candidates.{first_is, behind_first, in_flat, in_range}
use Rattle.left_out.specs.Items.{item_of, is_listed, rows_of}
use Rattle.left_out.specs.LeftOut.{has_row_of, row_query, deed_query, shows_miss, miss, miss_if, exit_miss, lock_misses, param_misses, out_misses, write_misses, inner_misses, site_misses, leak_misses, row_misses, done_misses, numbers_of, params_of, type_of_param, is_written, is_unwritten, reports_text, reports_leak}
use Rattle.left_out.specs.Nothing.{LeavesNothing, ListsAll, HasAllOfRuns}
use Rattle.left_out.specs.declared.misses.Subject.{Subject}
use Rattle.left_out.specs.declared.misses.Subject.TheVariants as subject
use Rattle.left_out.specs.declared.misses.Deed.{Deed}
use Rattle.left_out.specs.declared.misses.Deed.TheVariants as deed
use Rattle.left_out.specs.declared.misses.Miss.{Miss}
use Rattle.left_out.specs.declared.misses.Miss.TheVariants.{Row as RowOf, Does}
use Rattle.left_out.proofs.Lists.{none_of, found, first_or_later}
use Rattle.left_out.proofs.OneRow.{some, one}

if_so : (b : Bool) (k : Miss) → b ≡ true → Contains (miss_if b k) k
if_so b k so = subst (λ c. Contains (miss_if c k) k) (sym so) (first_is k [])

-- some call stands at the place
in_flat_sites : (rs : List Report) (p : Pos) (c : Site) (cs : List Site) → (c.pos ≡ p) ⊎ Contains (flat_map (site_misses rs) cs) (Does (deed.Leaks p))
    → Contains (leak_misses rs p) (Does (deed.Leaks p)) → Contains (flat_map (site_misses rs) (c ∷ cs)) (Does (deed.Leaks p))
in_flat_sites rs p c cs (inl same) here =
    Contains-append_left (site_misses rs c) (flat_map (site_misses rs) cs) (Does (deed.Leaks p))
    (subst (λ (q : Pos). Contains (leak_misses rs q) (Does (deed.Leaks p))) (sym same) here)
in_flat_sites rs p c cs (inr later) here =
    Contains-append_right (site_misses rs c) (flat_map (site_misses rs) cs) (Does (deed.Leaks p)) later

in_sites : (rs : List Report) (p : Pos) (cs : List Site) → Contains (map (λ (c : Site). c.pos) cs) p → Contains (leak_misses rs p) (Does (deed.Leaks p))
    → Contains (flat_map (site_misses rs) cs) (Does (deed.Leaks p))
in_sites rs p [] (k, less, is) here = absurd (omega (arith, less))
in_sites rs p (c ∷ cs) has here =
    in_flat_sites rs p c cs
    (elim (first_or_later c.pos p (map (λ (d : Site). d.pos) cs) has) as (λ w. (c.pos ≡ p) ⊎ Contains (flat_map (site_misses rs) cs) (Does (deed.Leaks p))) [
      | inl same ↦ inl same
      | inr later ↦ inr (in_sites rs p cs later here)
    ]) here

module _ (s : Source) (x : Texts) (m : Summary) (rs : List Report) (nothing : LeavesNothing s x (verdict.Done m rs)) where
  -- ---- where things stand that a verdict may leave out

  locks : List Miss
  locks = flat_map (lock_misses x.layout m) (numbers_of x.layout)

  params : List Miss
  params = flat_map (param_misses x.layout m s.params) (params_of s.params)

  outs : List Miss
  outs = flat_map (out_misses x.layout m s.params) (params_of s.params)

  writes : List Miss
  writes = flat_map (write_misses x.layout m.writes) (numbers_of x.layout)

  inners : List Miss
  inners = flat_map (inner_misses x rs) (numbers_of x.layout)

  leaks : List Miss
  leaks = flat_map (site_misses rs) x.layout.sites

  -- behind the first ones others follow
  with_reports : (ks : List Miss) (k : Miss) → Contains ks k → Contains (ks ++ inners ++ leaks) k
  with_reports ks k has = Contains-append_left (ks ++ inners) leaks k (Contains-append_left ks inners k has)

  with_writes : (ks : List Miss) (k : Miss) → Contains ks k → Contains (ks ++ writes ++ inners ++ leaks) k
  with_writes ks k has = with_reports (ks ++ writes) k (Contains-append_left ks writes k has)

  with_outs : (ks : List Miss) (k : Miss) → Contains ks k → Contains (ks ++ outs ++ writes ++ inners ++ leaks) k
  with_outs ks k has = with_writes (ks ++ outs) k (Contains-append_left ks outs k has)

  with_params : (ks : List Miss) (k : Miss) → Contains ks k → Contains (ks ++ params ++ outs ++ writes ++ inners ++ leaks) k
  with_params ks k has = with_outs (ks ++ params) k (Contains-append_left ks params k has)

  exit_in : Contains (done_misses s x m rs) (exit_miss x.layout m)
  unfolding locks params outs writes inners leaks
  exit_in = with_params (exit_miss x.layout m ∷ locks) (exit_miss x.layout m) (first_is (exit_miss x.layout m) locks)

  lock_in : (k : Miss) → Contains locks k → Contains (done_misses s x m rs) k
  unfolding locks params outs writes inners leaks
  lock_in k has = with_params (exit_miss x.layout m ∷ locks) k (behind_first (exit_miss x.layout m) k locks has)

  param_in : (k : Miss) → Contains params k → Contains (done_misses s x m rs) k
  unfolding locks params outs writes inners leaks
  param_in k has =
      let before : List Miss = exit_miss x.layout m ∷ locks in
      with_outs (before ++ params) k (Contains-append_right before params k has)

  out_in : (k : Miss) → Contains outs k → Contains (done_misses s x m rs) k
  unfolding locks params outs writes inners leaks
  out_in k has =
      let before : List Miss = (exit_miss x.layout m ∷ locks) ++ params in
      with_writes (before ++ outs) k (Contains-append_right before outs k has)

  write_in : (k : Miss) → Contains writes k → Contains (done_misses s x m rs) k
  unfolding locks params outs writes inners leaks
  write_in k has =
      let before : List Miss = (exit_miss x.layout m ∷ locks) ++ params ++ outs in
      with_reports (before ++ writes) k (Contains-append_right before writes k has)

  inner_in : (k : Miss) → Contains inners k → Contains (done_misses s x m rs) k
  unfolding inners leaks
  inner_in k has =
      let before : List Miss = row_misses s x.layout m in
      Contains-append_left (before ++ inners) leaks k (Contains-append_right before inners k has)

  leak_in : (k : Miss) → Contains leaks k → Contains (done_misses s x m rs) k
  unfolding inners leaks
  leak_in k has = Contains-append_right (row_misses s x.layout m ++ inners) leaks k has

  -- ---- no run shows it

  unshown : (k : Miss) → Contains (done_misses s x m rs) k → (c : List Bool) → length c ≡ x.layout.bits → shows_miss x (run_over s x.layout c) k ≡ false
  unshown k has c long = none_of (shows_miss x (run_over s x.layout c)) (done_misses s x m rs) k (nothing c long) has

  -- each row of the subject is listed
  row_in : (t : Subject) (rows : List Row) → Contains (done_misses s x m rs) (RowOf t rows) → (r : Row) → SomeRun s x (row_query t r) → Contains rows r
  row_in t rows has r (c, long, said) =
      let o = run_over s x.layout c in
      let any : Bool = list_any (λ q. says x o (row_query t q)) rows in
      let listed : any ≡ true =
      true_from_ne_false any
      (λ none. false≢true (sym (unshown (RowOf t rows) has c long) ∙ and_from (has_row_of o t) (not any) (some x o t r said) (ap not none))) in
      let which = found (λ q. says x o (row_query t q)) rows listed in
      subst (Contains rows) (one x o t which.0 r which.2 said) which.1

  -- what a run does is not left out
  undone : (d : Deed) → Contains (done_misses s x m rs) (Does d) → SomeRun s x (deed_query d) → ⊥
  undone d has (c, long, said) = false≢true (sym (unshown (Does d) has c long) ∙ said)

  lists : (t : Subject) (d : Deed) → Contains (done_misses s x m rs) (miss x.layout m t d) → SomeRun s x (deed_query d) → ListsAll s x m t
  lists t d has does = go (is_listed m.items (item_of x.layout t)) refl
    where
      go : (b : Bool) → is_listed m.items (item_of x.layout t) ≡ b → ListsAll s x m t
      go true e = record {
        listed = e;
        rows = row_in t (rows_of m.items (item_of x.layout t))
            (subst (λ b. Contains (done_misses s x m rs) (if b then RowOf t (rows_of m.items (item_of x.layout t)) else Does d)) e has);
      }
      go false e =
          absurd (undone d (subst (λ b. Contains (done_misses s x m rs) (if b then RowOf t (rows_of m.items (item_of x.layout t)) else Does d)) e has) does)

  -- a deed of which it is tested whether it is said
  said_of : (b : Bool) (d : Deed) → (b ≡ false → Contains (done_misses s x m rs) (Does d)) → SomeRun s x (deed_query d) → b ≡ true
  said_of b d has does = true_from_ne_false b (λ no. undone d (has no) does)

  outer_lock : (at : ℕ) → at < length x.layout.locations → is_outer (location x.layout at) ≡ true
      → Contains (done_misses s x m rs) (miss x.layout m (subject.Lock at) (deed.Touches at))
  unfolding locks
  outer_lock at less outer =
      let k : Miss = miss x.layout m (subject.Lock at) (deed.Touches at) in
      lock_in k
      (in_flat (lock_misses x.layout m) (numbers_of x.layout) at k (in_range (length x.layout.locations) at less)
      (if_so (is_outer (location x.layout at)) k outer))

  param_there : (n : ℕ) → n < length s.params → is_pointer (type_of_param s.params n) ≡ true
      → Contains (done_misses s x m rs) (miss x.layout m (subject.Param n) (deed.Changes n))
  unfolding params
  param_there n less is =
      let k : Miss = miss x.layout m (subject.Param n) (deed.Changes n) in
      param_in k
      (in_flat (param_misses x.layout m s.params) (params_of s.params) n k (in_range (length s.params) n less)
      (if_so (is_pointer (type_of_param s.params n)) k is))

  out_there : (n : ℕ) → n < length s.params → is_pointer (target_or_void (type_of_param s.params n)) ≡ true
      → Contains (done_misses s x m rs) (miss x.layout m (subject.Out n) (deed.Sets n))
  unfolding outs
  out_there n less is =
      let k : Miss = miss x.layout m (subject.Out n) (deed.Sets n) in
      out_in k
      (in_flat (out_misses x.layout m s.params) (params_of s.params) n k (in_range (length s.params) n less)
      (if_so (is_pointer (target_or_void (type_of_param s.params n))) k is))

  write_there : (at : ℕ) → at < length x.layout.locations → is_outer (location x.layout at) ≡ true → is_cell (location x.layout at) ≡ true
      → is_written m.writes (path_of x.layout at) ≡ false → Contains (done_misses s x m rs) (Does (deed.Writes at))
  unfolding writes
  write_there at less outer cell unwritten =
      write_in (Does (deed.Writes at))
      (in_flat (write_misses x.layout m.writes) (numbers_of x.layout) at (Does (deed.Writes at)) (in_range (length x.layout.locations) at less)
      (if_so (is_unwritten x.layout m.writes at) (Does (deed.Writes at))
      (and_from (is_outer (location x.layout at)) (is_cell (location x.layout at) && not (is_written m.writes (path_of x.layout at))) outer
      (and_from (is_cell (location x.layout at)) (not (is_written m.writes (path_of x.layout at))) cell (ap not unwritten)))))

  inner_there : (at : ℕ) → at < length x.layout.locations → list_any (reports_text (text_at x at)) rs ≡ false
      → Contains (done_misses s x m rs) (Does (deed.EndsAt at))
  unfolding inners
  inner_there at less unsaid =
      inner_in (Does (deed.EndsAt at))
      (in_flat (inner_misses x rs) (numbers_of x.layout) at (Does (deed.EndsAt at)) (in_range (length x.layout.locations) at less)
      (if_so (not (list_any (reports_text (text_at x at)) rs)) (Does (deed.EndsAt at)) (ap not unsaid)))

  leak_there : (p : Pos) → Contains (map (λ (c : Site). c.pos) x.layout.sites) p → list_any (reports_leak p) rs ≡ false
      → Contains (done_misses s x m rs) (Does (deed.Leaks p))
  unfolding leaks
  leak_there p has unsaid =
      leak_in (Does (deed.Leaks p))
      (in_sites rs p x.layout.sites has (if_so (not (list_any (reports_leak p) rs)) (Does (deed.Leaks p)) (ap not unsaid)))

  pub all_of_runs : HasAllOfRuns s x m rs
  all_of_runs =
      record {
        ends = λ r does. row_in subject.Exit (rows_of m.items item.Exit) exit_in r does;
        locks = λ at less outer does. lists (subject.Lock at) (deed.Touches at) (outer_lock at less outer) does;
        params = λ n less is does. lists (subject.Param n) (deed.Changes n) (param_there n less is) does;
        outs = λ n less is does. lists (subject.Out n) (deed.Sets n) (out_there n less is) does;
        writes = λ at less outer cell does.
            said_of (is_written m.writes (path_of x.layout at)) (deed.Writes at) (write_there at less outer cell) does;
        inner = λ at less does. said_of (list_any (reports_text (text_at x at)) rs) (deed.EndsAt at) (inner_there at less) does;
        leaks = λ p has does.
            said_of (list_any (reports_leak p) rs) (deed.Leaks p) (leak_there p has) does;
      }
