-- What a verdict has of which no choice leaves anything out.
use Rattle.std.specs.Prelude.{◌≡◌, ℕ, ◌<◌, Bool, true, false, List, length, map, Contains}
use Rattle.std.specs.List.{list_any}
use Rattle.sc_base.specs.declared.pos.Pos.{Pos}
use Rattle.sum_rows.specs.declared.row.Item.TheVariants as item
use Rattle.sum_rows.specs.declared.row.Row.{Row}
use Rattle.sum_rows.specs.declared.row.Summary.{Summary}
use Rattle.sum_rows.specs.declared.report.Report.{Report}
use Rattle.sum_rows.specs.declared.report.Verdict.{Verdict}
use Rattle.sc_world.specs.Tree.{is_pointer, target_or_void}
use Rattle.sc_world.specs.Source.{Source}
use Rattle.sc_world.specs.Layout.{Layout, location, is_outer, is_cell}
use Rattle.sc_world.specs.Paths.{Texts, text_at, path_of}
use Rattle.sc_world.specs.Shows.{Exits, Touches, Changes, Sets, Writes, EndsAt, Leaks}
use Rattle.world_laws.specs.Runs.{SomeRun}
use Rattle.left_out.specs.Items.{item_of, is_listed, rows_of}
use Rattle.left_out.specs.LeftOut.{leaves, row_query, type_of_param, is_written, reports_text, reports_leak}
use Rattle.left_out.specs.declared.misses.Subject.{Subject}
use Rattle.left_out.specs.declared.misses.Subject.TheVariants as subject

-- no choice of the defined length has a run that shows what the verdict leaves out
abbrev pub LeavesNothing : Source → Texts → Verdict → Type 0
LeavesNothing s x v = (c : List Bool) → length c ≡ x.layout.bits → leaves s x v c ≡ false

-- the item of the subject is listed, and each row of it that some run has is among its rows
pub record ListsAll (s : Source) (x : Texts) (m : Summary) (t : Subject) : Type 0 where
  pub listed : is_listed m.items (item_of x.layout t) ≡ true
  pub rows : (r : Row) → SomeRun s x (row_query t r) → Contains (rows_of m.items (item_of x.layout t)) r

pub record HasAllOfRuns (s : Source) (x : Texts) (m : Summary) (rs : List Report) : Type 0 where
  -- each row of the end
  pub ends : (r : Row) → SomeRun s x (Exits r) → Contains (rows_of m.items item.Exit) r
  -- of each location that the caller knows and that some run touches
  pub locks : (at : ℕ) → at < length x.layout.locations → is_outer (location x.layout at) ≡ true → SomeRun s x (Touches at)
      → ListsAll s x m (subject.Lock at)
  -- of each parameter whose object some run frees or lets escape, and of each whose pointer some run writes
  pub params : (n : ℕ) → n < length s.params → is_pointer (type_of_param s.params n) ≡ true → SomeRun s x (Changes n)
      → ListsAll s x m (subject.Param n)
  pub outs : (n : ℕ) → n < length s.params → is_pointer (target_or_void (type_of_param s.params n)) ≡ true → SomeRun s x (Sets n)
      → ListsAll s x m (subject.Out n)
  -- each cell that the caller knows and that some run writes
  pub writes : (at : ℕ) → at < length x.layout.locations → is_outer (location x.layout at) ≡ true → is_cell (location x.layout at) ≡ true
      → SomeRun s x (Writes at) → is_written m.writes (path_of x.layout at) ≡ true
  -- the text of each location at which some run ends that the caller does not know, and the place of each call whose object some run loses
  pub inner : (at : ℕ) → at < length x.layout.locations → SomeRun s x (EndsAt at) → list_any (reports_text (text_at x at)) rs ≡ true
  pub leaks : (p : Pos) → Contains (map (λ c. c.pos) x.layout.sites) p → SomeRun s x (Leaks p) → list_any (reports_leak p) rs ≡ true

-- no two locations that callers know have one path
abbrev pub HaveOwnPaths : Layout → Type 0
HaveOwnPaths p =
    (at to : ℕ) → at < length p.locations → to < length p.locations → is_outer (location p at) ≡ true → is_outer (location p to) ≡ true
    → path_of p at ≡ path_of p to → at ≡ to
