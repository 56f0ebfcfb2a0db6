-- How deep the values nest: no deeper than texts are read.
use Rattle.std.proofs.Common.{◌≡◌, ◌≤◌, ℕ, zero, suc, ◌+◌, ◌/◌, ◌%◌, max, nat_eq, Bool, Option, Some, None, Result, Ok, Err, List, [], ◌∷◌, ◌++◌, map, refl, arith}
use Rattle.std.specs.Prelude.{length, slice_get, sum_by, codes}
use Rattle.std.specs.List.{range_with_len}
use Rattle.fsm_spec.specs.declared.table.MachineSpec.{MachineSpec}
use Rattle.sc_base.specs.declared.pos.NameId.{NameId}
use Rattle.sc_base.specs.declared.pos.Pos.{Pos}
use Rattle.sc_base.specs.declared.skip.Skip.{Skip}
use Rattle.sc_base.specs.declared.skip.Skip.TheVariants as skip
use Rattle.json.specs.Json.{Json, boolean, Members, no_members}
use Rattle.json.specs.Tree.{depth, items_depth, members_depth}
use Rattle.json_text.specs.Values.{items_of, array_of}
use Rattle.line_marks.specs.declared.marks.Mark.{Mark}
use Rattle.line_marks.specs.Sources.{Origin}
use Rattle.sum_rows.specs.declared.path.Path.{Path}
use Rattle.sum_rows.specs.declared.path.Root.{Root}
use Rattle.sum_rows.specs.declared.path.Root.TheVariants as root
use Rattle.sum_rows.specs.declared.path.Step.{Step}
use Rattle.sum_rows.specs.declared.path.Step.TheVariants as step
use Rattle.sum_rows.specs.declared.row.Item.{Item}
use Rattle.sum_rows.specs.declared.row.Item.TheVariants as item
use Rattle.sum_rows.specs.declared.row.ItemRows.{ItemRows}
use Rattle.sum_rows.specs.declared.row.Row.{Row}
use Rattle.sum_rows.specs.declared.row.State.{State}
use Rattle.sum_rows.specs.declared.row.State.TheVariants as state
use Rattle.sum_rows.specs.declared.row.Summary.{Summary}
use Rattle.sum_rows.specs.declared.row.Write.{Write}
use Rattle.sum_rows.specs.declared.report.Event.{Event}
use Rattle.sum_rows.specs.declared.report.Report.{Report}
use Rattle.sum_rows.specs.declared.report.Report.TheVariants as report
use Rattle.sum_rows.specs.declared.report.Shown.{Shown}
use Rattle.sum_rows.specs.declared.report.Verdict.{Verdict}
use Rattle.sum_rows.specs.declared.report.Verdict.TheVariants as verdict
use Rattle.sum_rows.specs.declared.report.What.{What}
use Rattle.sum_rows.specs.declared.report.What.TheVariants as what
use Rattle.sc_base.specs.declared.skip.LimitKind.{LimitKind}
use Rattle.sc_typed.specs.declared.program.Function.{Function}
use Rattle.sc_typed.specs.declared.program.Param.{Param}
use Rattle.sc_typed.specs.declared.program.Program.{Program}
use Rattle.choice_json.specs.Speakers.{Speaker, speaker}
use Rattle.choice_json.specs.Words.{under, word_value, value_member}
use Rattle.choice_json.specs.Calls.{items_if, writes_if, call_members, params_of, summary_of, parameter_members, state_members, item_members, item_if, write_if, item_at, write_at}
use Rattle.choice_json.specs.Says.{location_said, call_said, item_said, write_said, effect_of, value_of, said_value, says_value}
use Rattle.choice_words.specs.Things.{things}
use Rattle.choice_words.specs.Words.{said}
use Rattle.choice_words.specs.declared.sayings.Word.{Word}
use Rattle.choice_words.specs.declared.sayings.Word.TheVariants as word
use Rattle.choice_words.specs.declared.subjects.Subject.{Subject}
use Rattle.choice_words.specs.declared.subjects.Subject.TheVariants as subject
use Rattle.program_verdicts.specs.Verdicts.{texts}
use Rattle.sc_world.specs.Layout.{Layout}
use Rattle.sc_world.specs.Paths.{Texts, site_of}
use Rattle.sc_world.specs.Places.{places}
use Rattle.sc_world.specs.Source.{Source}
use Rattle.report_text.specs.Checks.{skipped_in, rows_in, reports_in}
use Rattle.report_text.specs.Functions.{entry_params}
use Rattle.json_places.specs.Arrays.{array_by}
use Rattle.json_places.specs.Places.{source_value, source_at, place_value}
use Rattle.verdict_json.specs.Tellings.{Says, says_by, says_of, says_with, source_among}
use Rattle.verdict_json.specs.Reasons.{limit_value, grammar_value, kind_value, skip_value}
use Rattle.json_places.specs.Paths.{rooted_value, field_value, element_value, step_value, root_value, path_value}
use Rattle.verdict_json.specs.Rows.{bits_values, entry_value, named_state, state_value, row_value, rows_value, end_value, location_value, parameter_item, value_of_item, item_value, write_value}
use Rattle.verdict_json.specs.Runs.{callee_value, what_members, event_place, event_value, ran_value, run_value}
use Rattle.verdict_json.specs.Reports.{runs_value, location_report, inner_report, leak_report, report_value}
use Rattle.verdict_json.specs.Functions.{parameter_value, summary_members, skipped_members, done_members, verdict_members, function_value}
use Rattle.verdict_json.specs.Checks.{state_name, count_of_states, options_value, totals_value, totals_of, file_value, functions_values, functions_value, found_members, check_value}

array_depth : {X : Type 0} (value : X → Json) (k : ℕ) → ((x : X) → depth (value x) ≤ k) → (xs : List X) → items_depth (items_of (map value xs)) ≤ k
array_depth value k each [] = omega arith
array_depth value k each (x ∷ xs) = omega (arith, each x, array_depth value k each xs)

by_depth : {X : Type 0} (value : X → Json) (k : ℕ) → ((x : X) → depth (value x) ≤ k) → (xs : List X) → depth (array_by value xs) ≤ suc k
unfolding array_by
by_depth value k each xs = omega (arith, array_depth value k each xs)

source_depth : (o : Origin) → depth (source_value o) ≤ 1
unfolding source_value
source_depth o = omega arith

pub place_depth : (p : Program) (marks : List (List Mark)) (at : Pos) → depth (place_value p marks at) ≤ 2
unfolding place_value
place_depth p marks at = omega (arith, source_depth (source_at p marks at.file at.line))

skip_depth : (p : Program) (marks : List (List Mark)) (s : Skip) → depth (skip_value p marks s) ≤ 3
unfolding limit_value grammar_value kind_value
skip_depth p marks (skip.Grammar at) = omega (arith, place_depth p marks at)
skip_depth p marks (skip.Unsupported kind at) = omega (arith, place_depth p marks at)
skip_depth p marks (skip.IllTyped kind at) = omega (arith, place_depth p marks at)
skip_depth p marks (skip.Limit kind count) = omega arith

step_depth : (p : Program) (s : Step) → depth (step_value p s) ≤ 1
unfolding field_value element_value
step_depth p step.Deref = omega arith
step_depth p (step.Field n) = omega arith
step_depth p (step.Elem k) = omega arith

root_depth : (p : Program) (params : List Param) (r : Root) → depth (root_value p params r) ≤ 1
unfolding rooted_value
root_depth p params (root.Param n) = omega arith
root_depth p params (root.Global n) = omega arith

path_depth : (p : Program) (params : List Param) (x : Path) → depth (path_value p params x) ≤ 3
unfolding path_value
path_depth p params x = omega (arith, root_depth p params x.root, by_depth (step_value p) 1 (step_depth p) x.steps)

more_depth : (vs : List Json) (v : Json) → items_depth (items_of (vs ++ v ∷ [])) ≡ max (items_depth (items_of vs)) (depth v)
more_depth [] v = omega arith
more_depth (w ∷ vs) v = omega (arith, more_depth vs v)

bits_depth : (digits given : ℕ) → items_depth (items_of (bits_values digits given)) ≤ 0
unfolding bits_values
bits_depth zero given = omega arith
bits_depth (suc k) given =
    omega (arith, more_depth (bits_values k (given / 2)) (boolean (nat_eq (given % 2) 1)), bits_depth k (given / 2))

entry_depth : (digits given : ℕ) → depth (entry_value digits given) ≤ 1
unfolding entry_value
entry_depth digits given = omega (arith, bits_depth digits given)

state_depth : (m : Option MachineSpec) (s : State) → depth (state_value m s) ≤ 1
unfolding named_state
state_depth m state.Nil = omega arith
state_depth m (state.At n) = omega arith
state_depth m state.Bad = omega arith
state_depth m state.Held = omega arith
state_depth m state.Escaped = omega arith
state_depth m state.Freed = omega arith
state_depth m state.Null = omega arith
state_depth m state.Fresh = omega arith
state_depth m state.Other = omega arith
state_depth m state.Same = omega arith

row_depth : (m : Option MachineSpec) (bits : ℕ) (r : Row) → depth (row_value m bits r) ≤ 2
unfolding row_value
row_depth m bits r = omega (arith, entry_depth bits r.given, state_depth m r.before, state_depth m r.after)

rows_depth : (p : Program) (bits : ℕ) (rows : List Row) → depth (rows_value p bits rows) ≤ 3
rows_depth p bits rows = by_depth (row_value p.machine bits) 2 (row_depth p.machine bits) rows

item_depth : (p : Program) (params : List Param) (bits : ℕ) (x : Item) (rows : List Row) → depth (value_of_item p params bits x rows) ≤ 4
unfolding end_value location_value parameter_item
item_depth p params bits item.Exit rows = omega (arith, rows_depth p bits rows)
item_depth p params bits (item.Lock x) rows = omega (arith, path_depth p params x, rows_depth p bits rows)
item_depth p params bits (item.Param n) rows = omega (arith, rows_depth p bits rows)
item_depth p params bits (item.Out n) rows = omega (arith, rows_depth p bits rows)

write_depth : (p : Program) (params : List Param) (w : Write) → depth (write_value p params w) ≤ 4
unfolding write_value
write_depth p params w = omega (arith, path_depth p params w.path)

callee_depth : (p : Program) (n : Option NameId) → depth (callee_value p n) ≤ 0
callee_depth p None = omega arith
callee_depth p (Some n) = omega arith

what_depth : (p : Program) (x : What) → members_depth (what_members p x) ≤ 0
what_depth p (what.Call n) = omega (arith, callee_depth p n)
what_depth p (what.If b) = omega arith
what_depth p (what.Loop b) = omega arith
what_depth p (what.Switch n) = omega arith
what_depth p (what.Goto n) = omega arith
what_depth p what.Return = omega arith
what_depth p what.End = omega arith
what_depth p (what.Bad at) = omega arith

event_depth : (p : Program) (marks : List (List Mark)) (file : ℕ) (e : Event) → depth (event_value p marks file e) ≤ 3
unfolding event_value
event_depth p marks file e = omega (arith, place_depth p marks (event_place p marks file e), what_depth p e.what)

-- what is said of one thing

word_depth : (y : Speaker) (w : Word) → depth (word_value y w) ≤ 1
unfolding under
word_depth y (word.Number n) = omega arith
word_depth y word.Null = omega arith
word_depth y (word.Object at) = omega arith
word_depth y (word.Fresh at) = omega arith
word_depth y (word.Other at) = omega arith
word_depth y word.Same = omega arith
word_depth y word.Succeeds = omega arith
word_depth y word.Fails = omega arith
word_depth y (word.State n) = omega arith
word_depth y word.Errs = omega arith
word_depth y word.Held = omega arith
word_depth y word.Escaped = omega arith
word_depth y word.Freed = omega arith
word_depth y word.NoRow = omega arith

value_depth : (y : Speaker) (w : Word) → members_depth (value_member y w) ≤ 1
value_depth y w = omega (arith, word_depth y w)

call_depth : (y : Speaker) (kind : List ℕ) (k : ℕ) (more : Members) → members_depth (call_members y kind k more) ≤ max 2 (members_depth more)
unfolding call_members
call_depth y kind k more = omega (arith, place_depth y.program y.marks (site_of y.texts.layout k).pos)

called_depth : (y : Speaker) (params : List Param) (x : Item) (more : Members)
    → members_depth (item_members y params x more) ≤ max 3 (members_depth more)
unfolding state_members parameter_members
called_depth y params item.Exit more = omega arith
called_depth y params (item.Lock x) more = omega (arith, path_depth y.program params x)
called_depth y params (item.Param n) more = omega arith
called_depth y params (item.Out n) more = omega arith

item_if_depth : (y : Speaker) (params : List Param) (x : Option ItemRows) (more : Members)
    → members_depth (item_if y params x more) ≤ max 3 (members_depth more)
item_if_depth y params None more = omega arith
item_if_depth y params (Some x) more = called_depth y params x.item more

write_if_depth : (y : Speaker) (params : List Param) (w : Option Write) (more : Members)
    → members_depth (write_if y params w more) ≤ max 3 (members_depth more)
write_if_depth y params None more = omega arith
write_if_depth y params (Some w) more = omega (arith, path_depth y.program params w.path)

subject_depth : (y : Speaker) (x : Subject) (w : Word) → depth (value_of y x w) ≤ 4
unfolding location_said call_said item_said write_said
subject_depth y (subject.Cell at) w = omega (arith, value_depth y w)
subject_depth y (subject.State at) w = omega (arith, value_depth y w)
subject_depth y (subject.Call k) w = omega (arith, call_depth y (codes "call") k (value_member y w), value_depth y w)
subject_depth y (subject.Item k i) w =
    omega (
      arith,
      call_depth y (codes "item") k (item_at y (effect_of y k) i (value_member y w)),
      item_if_depth y (params_of y (effect_of y k)) (slice_get (items_if (summary_of y (effect_of y k))) i) (value_member y w),
      value_depth y w,
    )
subject_depth y (subject.Write k j) w =
    omega (
      arith,
      call_depth y (codes "write") k (write_at y (effect_of y k) j (value_member y w)),
      write_if_depth y (params_of y (effect_of y k)) (slice_get (writes_if (summary_of y (effect_of y k))) j) (value_member y w),
      value_depth y w,
    )

says_depth : (p : Program) (marks : List (List Mark)) (s : Source) (x : Texts) (choice : List Bool) → depth (says_value p marks s x choice) ≤ 5
unfolding says_value
says_depth p marks s x choice =
    by_depth (said_value (speaker p marks s x)) 4 (λ d. subject_depth (speaker p marks s x) d.of d.word)
    (said (length s.machine.states) choice (things s x.layout))

-- a member that tells a choice nests no deeper than this
abbrev pub IsShallow : Says → Type 0
IsShallow says = (choice : List Bool) → members_depth (says choice no_members) ≤ 5

pub with_depth : (p : Program) (marks : List (List Mark)) (s : Source) (x : Texts) → IsShallow (says_with p marks s x)
with_depth p marks s x choice = omega (arith, says_depth p marks s x choice)

told_depth : (p : Program) (marks : List (List Mark)) (s : Source) (x : Layout → Texts) (l : Result Layout LimitKind)
    → IsShallow (says_by p marks s x l)
unfolding says_by
told_depth p marks s x (Err e) choice = omega arith
told_depth p marks s x (Ok l) choice = with_depth p marks s (x l) choice

module _ (p : Program) (marks : List (List Mark)) (says : Says) (shallow : IsShallow says) where
  pub ran_depth : (file : ℕ) (choice : List Bool) (location : List ℕ) (events : List Event)
      → depth (ran_value p marks file says choice location events) ≤ 6
  unfolding ran_value
  ran_depth file choice location events =
      omega (arith, by_depth (event_value p marks file) 3 (event_depth p marks file) events, shallow choice)

  run_depth : (file : ℕ) (s : Shown) → depth (run_value p marks file says s) ≤ 6
  unfolding run_value
  run_depth file s = ran_depth file s.choice s.text s.trace

  runs_depth : (file : ℕ) (runs : List Shown) → depth (runs_value p marks says file runs) ≤ 7
  runs_depth file runs = by_depth (run_value p marks file says) 6 (run_depth file) runs

  location_depth : (file : ℕ) (params : List Param) (kind : List ℕ) (x : Path) (runs : List Shown)
      → depth (location_report p marks says file params kind x runs) ≤ 8
  unfolding location_report
  location_depth file params kind x runs = omega (arith, path_depth p params x, runs_depth file runs)

  report_depth : (file : ℕ) (params : List Param) (r : Report) → depth (report_value p marks says file params r) ≤ 8
  unfolding inner_report leak_report
  report_depth file params (report.Double x runs) = location_depth file params (codes "double") x runs
  report_depth file params (report.Ambiguous x a b) = location_depth file params (codes "ambiguous") x (a ∷ b ∷ [])
  report_depth file params (report.Inner run) = omega (arith, runs_depth file (run ∷ []))
  report_depth file params (report.Leak at run) = omega (arith, place_depth p marks at, runs_depth file (run ∷ []))

parameter_depth : (p : Program) (q : Param) → depth (parameter_value p q) ≤ 1
unfolding parameter_value
parameter_depth p q = omega arith

verdict_depth : (p : Program) (marks : List (List Mark)) (says : Says) → IsShallow says → (f : Function) (v : Verdict)
    → members_depth (verdict_members p marks says f v) ≤ 9
unfolding summary_members skipped_members done_members
verdict_depth p marks says shallow f (verdict.Skipped s) = omega (arith, skip_depth p marks s)
verdict_depth p marks says shallow f (verdict.Done s reports) =
    omega (
      arith,
      by_depth (parameter_value p) 1 (parameter_depth p) (entry_params f.params),
      by_depth (item_value p f.params s.bits) 4 (λ x. item_depth p f.params s.bits x.item x.rows) s.items,
      by_depth (write_value p f.params) 4 (write_depth p f.params) s.writes,
      by_depth (report_value p marks says f.pos.file f.params) 8 (report_depth p marks says shallow f.pos.file f.params) reports,
    )

function_depth : (p : Program) (marks : List (List Mark)) (says : Says) → IsShallow says → (f : Function) (v : Verdict)
    → depth (function_value p marks says f v) ≤ 10
unfolding function_value
function_depth p marks says shallow f v = omega (arith, place_depth p marks f.pos, verdict_depth p marks says shallow f v)

module _ (p : Program) (marks : List (List Mark)) (says : ℕ → Function → Says) (shallow : (n : ℕ) (f : Function) → IsShallow (says n f)) where
  each_function_depth : (n : ℕ) (fs : List Function) (vs : List Verdict) → items_depth (items_of (functions_values p marks says n fs vs)) ≤ 10
  each_function_depth n [] vs = omega arith
  each_function_depth n (f ∷ fs) [] = omega arith
  each_function_depth n (f ∷ fs) (v ∷ vs) =
      omega (arith, function_depth p marks (says n f) (shallow n f) f v, each_function_depth (n + 1) fs vs)

  functions_depth : (fs : List Function) (vs : List Verdict) → depth (functions_value p marks says fs vs) ≤ 11
  unfolding functions_value
  functions_depth fs vs = omega (arith, each_function_depth 0 fs vs)

pub options_depth : (p : Program) (d r : ℕ) → depth (options_value p d r) ≤ 2
unfolding options_value
options_depth p d r =
    omega (arith, by_depth (state_name p.machine) 0 (λ n. omega arith) (range_with_len 0 (count_of_states p.machine)))

file_depth : (p : Program) (marks : List (List Mark)) (k : ℕ) → depth (file_value p marks k) ≤ 1
unfolding file_value
file_depth p marks k = omega arith

totals_depth : (a b c d : ℕ) → depth (totals_value a b c d) ≤ 1
unfolding totals_value
totals_depth a b c d = omega arith

found_depth : (p : Program) (marks : List (List Mark)) (says : ℕ → Function → Says) → ((n : ℕ) (f : Function) → IsShallow (says n f))
    → (vs : List Verdict) → members_depth (found_members p marks says vs) ≤ 11
unfolding found_members
found_depth p marks says shallow vs =
    omega (
      arith,
      by_depth (skip_value p marks) 3 (skip_depth p marks) p.notes,
      functions_depth p marks says shallow p.functions vs,
      totals_depth (length vs) (sum_by skipped_in vs) (sum_by rows_in vs) (sum_by reports_in vs),
    )

pub check_depth : (p : Program) (marks : List (List Mark)) (d r : ℕ) (kept : List (List ℕ)) (vs : List Verdict)
    → depth (check_value p marks d r kept vs) ≤ 128
unfolding check_value says_of
check_depth p marks d r kept vs =
    omega (
      arith,
      options_depth p d r,
      by_depth (file_value p marks) 1 (file_depth p marks) (range_with_len 0 (length p.files)),
      found_depth p marks (says_of p marks d r kept vs)
          (λ n f. told_depth p marks (source_among p marks d r kept vs n) (texts p f) (places (source_among p marks d r kept vs n)))
          vs,
    )
