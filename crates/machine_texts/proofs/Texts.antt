-- The text of a program with the machine of locks from a file.
use Rattle.std.proofs.Common.{◌≡◌, ℕ, zero, suc, List, [], ◌∷◌, ◌++◌, refl, sym, ap, ◌∙◌}
use Rattle.std.specs.Prelude.{Option, Some, None, codes}
use Rattle.std.specs.List.{flat_map}
use Rattle.fsm_spec.specs.Lock.{locks}
use Rattle.sum_rows.specs.declared.path.Path.{Path}
use Rattle.sum_rows.specs.declared.row.Row.{Row}
use Rattle.sum_rows.specs.declared.row.State.{State}
use Rattle.sum_rows.specs.declared.row.State.TheVariants as state
use Rattle.sum_rows.specs.declared.row.Item.{Item}
use Rattle.sum_rows.specs.declared.row.Item.TheVariants as item
use Rattle.sum_rows.specs.declared.row.ItemRows.{ItemRows}
use Rattle.sum_rows.specs.declared.row.Summary.{Summary}
use Rattle.sum_rows.specs.declared.row.Write.{Write}
use Rattle.sum_rows.specs.declared.report.Event.{Event}
use Rattle.sum_rows.specs.declared.report.Shown.{Shown}
use Rattle.sum_rows.specs.declared.report.Report.{Report}
use Rattle.sum_rows.specs.declared.report.Report.TheVariants as report
use Rattle.sum_rows.specs.declared.report.Verdict.{Verdict}
use Rattle.sum_rows.specs.declared.report.Verdict.TheVariants as verdict
use Rattle.sum_rows.specs.declared.report.What.{What}
use Rattle.sum_rows.specs.declared.report.What.TheVariants as what
use Rattle.sc_base.specs.declared.pos.NameId.{NameId}
use Rattle.sc_base.specs.declared.skip.Skip.{Skip}
use Rattle.sc_base.specs.declared.skip.Skip.TheVariants as skip
use Rattle.sc_typed.specs.declared.program.Program.{Program}
use Rattle.sc_typed.specs.declared.program.Param.{Param}
use Rattle.sc_typed.specs.declared.program.Function.{Function}
use Rattle.report_text.specs.Reasons.{note_line, note_text}
use Rattle.report_text.specs.Rows.{lock_state, machine_state, state_text, spaced_state, result_text, bits_text, row_line, lock_line, param_line, item_line, item_text}
use Rattle.report_text.specs.Shown.{what_text, event_line, trace_text, shown_text, choice_text}
use Rattle.report_text.specs.Paths.{path_text}
use Rattle.report_text.specs.Reports.{report_line, report_text}
use Rattle.report_text.specs.Functions.{write_line, function_line, entry_line, summary_text, verdict_text, function_text, skipped_line}
use Rattle.report_text.specs.Checks.{functions_text, totals, text}
use Rattle.sc_world.specs.Paths.{place_text}
use Rattle.machine_laws.specs.Tries.{with_file, without_file}

number_same : (n : ℕ) → machine_state None n ≡ machine_state (Some locks) n
unfolding locks
number_same zero = refl
number_same (suc zero) = refl
number_same (suc (suc n)) = refl

state_same : (s : State) → spaced_state None s ≡ spaced_state (Some locks) s
state_same state.Nil = refl
state_same (state.At n) = λ i. codes " " ++ number_same n i
state_same state.Bad = refl
state_same state.Held = refl
state_same state.Escaped = refl
state_same state.Freed = refl
state_same state.Null = refl
state_same state.Fresh = refl
state_same state.Other = refl
state_same state.Same = refl

row_same : (bits : ℕ) (r : Row) → row_line None bits r ≡ row_line (Some locks) bits r
unfolding row_line
row_same bits r = λ i.
    codes "    "
    ++ (bits_text bits r.given ++ (state_same r.before i ++ (codes " -> " ++ (result_text r.result ++ (state_same r.after i ++ codes "\n")))))

module _ (p : Program) where
  abbrev one : Program
  one = without_file p

  abbrev other : Program
  other = with_file p

  lock_same : (params : List Param) (x : Path) → lock_line one params x ≡ lock_line other params x
  unfolding lock_line locks
  lock_same params x = refl

  param_same : (params : List Param) (word : List ℕ) (n : ℕ) → param_line one params word n ≡ param_line other params word n
  unfolding param_line
  param_same params word n = refl

  line_same : (params : List Param) (x : Item) (rows : List Row) → item_line one params x rows ≡ item_line other params x rows
  line_same params item.Exit rows = refl
  line_same params (item.Lock x) rows = lock_same params x
  line_same params (item.Param n) rows = param_same params (codes "  param ") n
  line_same params (item.Out n) rows = param_same params (codes "  out ") n

  item_same : (params : List Param) (bits : ℕ) (x : ItemRows) → item_text one params bits x ≡ item_text other params bits x
  unfolding item_text
  item_same params bits x = λ i. line_same params x.item x.rows i ++ flat_map (λ r. row_same bits r i) x.rows

  write_same : (params : List Param) (w : Write) → write_line one params w ≡ write_line other params w
  unfolding write_line
  write_same params w = refl

  summary_same : (params : List Param) (s : Summary) → summary_text one params s ≡ summary_text other params s
  summary_same params s = λ i.
      entry_line one params
      ++ (flat_map (λ x. item_same params s.bits x i) s.items ++ flat_map (λ w. write_same params w i) s.writes)

  event_same : (indent location : List ℕ) (e : Event) → event_line one indent location e ≡ event_line other indent location e
  unfolding event_line
  event_same indent location e = refl

  shown_same : (s : Shown) → shown_text one s ≡ shown_text other s
  unfolding shown_text
  shown_same s = λ i.
      codes "    choice " ++ (choice_text s.choice ++ (codes "\n" ++ flat_map (λ e. event_same (codes "    ") s.text e i) s.trace))

  report_same : (params : List Param) (r : Report) → report_text one params r ≡ report_text other params r
  report_same params (report.Double x runs) = λ i.
      report_line (codes "double") (path_text one params x) ++ flat_map (λ s. shown_same s i) runs
  report_same params (report.Ambiguous x a b) = λ i.
      report_line (codes "ambiguous") (path_text one params x) ++ (shown_same a i ++ shown_same b i)
  report_same params (report.Inner a) = λ i. report_line (codes "inner") a.text ++ shown_same a i
  report_same params (report.Leak at a) = λ i. report_line (codes "leak") (place_text at) ++ shown_same a i

  verdict_same : (f : Function) (v : Verdict) → verdict_text one f v ≡ verdict_text other f v
  verdict_same f (verdict.Skipped s) = refl
  verdict_same f (verdict.Done s reports) = λ i. summary_same f.params s i ++ flat_map (λ r. report_same f.params r i) reports

  head_same : (f : Function) → function_line one f ≡ function_line other f
  unfolding function_line
  head_same f = refl

  function_same : (f : Function) (v : Verdict) → function_text one f v ≡ function_text other f v
  unfolding function_text
  function_same f v = λ i. head_same f i ++ verdict_same f v i

  functions_same : (fs : List Function) (vs : List Verdict) → functions_text one fs vs ≡ functions_text other fs vs
  functions_same [] vs = refl
  functions_same (f ∷ fs) [] = refl
  functions_same (f ∷ fs) (v ∷ vs) = λ i. function_same f v i ++ functions_same fs vs i

  note_same : (s : Skip) → note_text one s ≡ note_text other s
  unfolding note_line
  note_same (skip.Grammar at) = refl
  note_same (skip.Unsupported kind at) = refl
  note_same (skip.IllTyped kind at) = refl
  note_same (skip.Limit kind count) = refl

  pub text_same : (vs : List Verdict) → text one vs ≡ text other vs
  text_same vs = λ i. flat_map (λ s. note_same s i) p.notes ++ (functions_same p.functions vs i ++ totals vs)
