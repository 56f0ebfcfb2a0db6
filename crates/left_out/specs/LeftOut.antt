-- What a verdict leaves out: what a run shows that the verdict does not say. A verdict may lack a row of an item that it lists, an item, a cell
-- that is written, and a report of an error at an inner location or of a lost object.
use Rattle.std.specs.Prelude.{ℕ, Bool, false, not, ◌&&◌, ◌||◌, List, [], ◌∷◌, ◌++◌, length, slice_index_or, bytes_eq, if◌then◌else◌}
use Rattle.std.specs.List.{list_any, flat_map, range_with_len}
use Rattle.sc_base.specs.declared.pos.Pos.{Pos}
use Rattle.sum_rows.specs.declared.path.Path.{Path}
use Rattle.sum_rows.specs.declared.row.Row.{Row}
use Rattle.sum_rows.specs.declared.row.Summary.{Summary}
use Rattle.sum_rows.specs.declared.row.Write.{Write}
use Rattle.sum_rows.specs.declared.report.Report.{Report}
use Rattle.sum_rows.specs.declared.report.Report.TheVariants as report
use Rattle.sum_rows.specs.declared.report.Verdict.{Verdict}
use Rattle.sum_rows.specs.declared.report.Verdict.TheVariants as verdict
use Rattle.sc_world.specs.Tree.{Ty, Void, is_pointer, target_or_void}
use Rattle.sc_world.specs.Source.{Source}
use Rattle.sc_world.specs.Gather.{Site}
use Rattle.sc_world.specs.Layout.{Layout, location, is_outer, is_cell, same_pos}
use Rattle.sc_world.specs.World.{is_true}
use Rattle.sc_world.specs.Paths.{Texts, text_at, path_of}
use Rattle.sc_world.specs.Shows.{Over, Query, Exits, Touches, Locks, Changes, Params, Sets, Outs, Writes, EndsAt, Leaks, says, exits, errs_at, is_met, param_cell}
use Rattle.sc_world.specs.Verdict.{run_over}
use Rattle.left_out.specs.Items.{same_path, item_of, is_listed, rows_of}
use Rattle.left_out.specs.declared.misses.Subject.{Subject}
use Rattle.left_out.specs.declared.misses.Subject.TheVariants as subject
use Rattle.left_out.specs.declared.misses.Deed.{Deed}
use Rattle.left_out.specs.declared.misses.Deed.TheVariants as deed
use Rattle.left_out.specs.declared.misses.Miss.{Miss}
use Rattle.left_out.specs.declared.misses.Miss.TheVariants.{Row as RowOf, Does}

-- ---- what a run shows

-- whether a run has a row of the subject; it has one at most
abbrev pub has_row_of : Over → Subject → Bool
has_row_of o subject.Exit = exits o
has_row_of o (subject.Lock at) = is_met o at && (exits o || errs_at o.ended at)
has_row_of o (subject.Param n) = exits o && is_true (param_cell o n)
has_row_of o (subject.Out n) = exits o && is_true (param_cell o n)

-- whether it has this row of the subject
abbrev pub row_query : Subject → Row → Query
row_query subject.Exit r = Exits r
row_query (subject.Lock at) r = Locks at r
row_query (subject.Param n) r = Params n r
row_query (subject.Out n) r = Outs n r

-- whether it does this
abbrev pub deed_query : Deed → Query
deed_query (deed.Touches at) = Touches at
deed_query (deed.Changes n) = Changes n
deed_query (deed.Sets n) = Sets n
deed_query (deed.Writes at) = Writes at
deed_query (deed.EndsAt at) = EndsAt at
deed_query (deed.Leaks p) = Leaks p

-- whether it has a row of the subject that is none of these
abbrev pub has_other : Texts → Over → Subject → List Row → Bool
has_other x o s rows = has_row_of o s && not (list_any (λ r. says x o (row_query s r)) rows)

-- whether it shows what may be left out
abbrev pub shows_miss : Texts → Over → Miss → Bool
shows_miss x o (RowOf s rows) = has_other x o s rows
shows_miss x o (Does d) = says x o (deed_query d)

-- ---- what a verdict with this summary and these reports may leave out

abbrev pub miss_if : Bool → Miss → List Miss
miss_if b miss = if b then miss ∷ [] else []

-- of a subject whose item is listed the rows that are not; of another one the runs by which it would be listed
abbrev pub miss : Layout → Summary → Subject → Deed → Miss
miss p m t d = if is_listed m.items (item_of p t) then RowOf t (rows_of m.items (item_of p t)) else Does d

-- the end is always to be listed
abbrev pub exit_miss : Layout → Summary → Miss
exit_miss p m = RowOf subject.Exit (rows_of m.items (item_of p subject.Exit))

-- of each location that the caller knows
abbrev pub lock_misses : Layout → Summary → ℕ → List Miss
lock_misses p m at = miss_if (is_outer (location p at)) (miss p m (subject.Lock at) (deed.Touches at))

abbrev pub type_of_param : List Ty → ℕ → Ty
type_of_param ts n = slice_index_or ts n Void

-- of each parameter that is a pointer, and of each that is a pointer to a pointer
abbrev pub param_misses : Layout → Summary → List Ty → ℕ → List Miss
param_misses p m ts n = miss_if (is_pointer (type_of_param ts n)) (miss p m (subject.Param n) (deed.Changes n))

abbrev pub out_misses : Layout → Summary → List Ty → ℕ → List Miss
out_misses p m ts n = miss_if (is_pointer (target_or_void (type_of_param ts n))) (miss p m (subject.Out n) (deed.Sets n))

-- of each cell that the caller knows and whose path is not listed as written
abbrev pub is_written : List Write → Path → Bool
is_written ws p = list_any (λ w. same_path p w.path) ws

abbrev pub is_unwritten : Layout → List Write → ℕ → Bool
is_unwritten p ws at = is_outer (location p at) && (is_cell (location p at) && not (is_written ws (path_of p at)))

abbrev pub write_misses : Layout → List Write → ℕ → List Miss
write_misses p ws at = miss_if (is_unwritten p ws at) (Does (deed.Writes at))

-- of each location at whose text no error is reported
abbrev pub reports_text : List ℕ → Report → Bool
reports_text t (report.Inner r) = bytes_eq t r.text
reports_text t _ = false

abbrev pub inner_misses : Texts → List Report → ℕ → List Miss
inner_misses x rs at = miss_if (not (list_any (reports_text (text_at x at)) rs)) (Does (deed.EndsAt at))

-- of each call at whose place no lost object is reported
abbrev pub reports_leak : Pos → Report → Bool
reports_leak p (report.Leak q r) = same_pos p q
reports_leak p _ = false

abbrev pub leak_misses : List Report → Pos → List Miss
leak_misses rs p = miss_if (not (list_any (reports_leak p) rs)) (Does (deed.Leaks p))

abbrev pub site_misses : List Report → Site → List Miss
site_misses rs c = leak_misses rs c.pos

abbrev pub numbers_of : Layout → List ℕ
numbers_of p = range_with_len 0 (length p.locations)

abbrev pub params_of : List Ty → List ℕ
params_of ts = range_with_len 0 (length ts)

-- of rows and of what is to be listed
abbrev pub row_misses : Source → Layout → Summary → List Miss
row_misses s p m =
    exit_miss p m ∷ flat_map (lock_misses p m) (numbers_of p) ++ flat_map (param_misses p m s.params) (params_of s.params)
    ++ flat_map (out_misses p m s.params) (params_of s.params) ++ flat_map (write_misses p m.writes) (numbers_of p)

-- of rows and reports
abbrev pub done_misses : Source → Texts → Summary → List Report → List Miss
done_misses s x m rs =
    row_misses s x.layout m ++ flat_map (inner_misses x rs) (numbers_of x.layout) ++ flat_map (site_misses rs) x.layout.sites

-- a verdict that skips a function says nothing of its runs
abbrev pub misses : Source → Texts → Verdict → List Miss
misses s x (verdict.Skipped skip) = []
misses s x (verdict.Done m rs) = done_misses s x m rs

-- ---- whether a verdict leaves something out

-- something of what a run shows
abbrev pub leaves_out : Source → Texts → Verdict → Over → Bool
leaves_out s x v o = list_any (shows_miss x o) (misses s x v)

-- something of the run on a choice
abbrev pub leaves : Source → Texts → Verdict → List Bool → Bool
leaves s x v choice = leaves_out s x v (run_over s x.layout choice)
