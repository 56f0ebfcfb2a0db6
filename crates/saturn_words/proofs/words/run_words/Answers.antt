use Rattle.std.proofs.Common.{◌≡◌, ◌∙◌, ℕ, List, [], ap, sym, subst, map, string_bytes}
use Rattle.clap.specs.Words.{App, HasKind, app_of, fault_of, found_of, is_simple, is_simple_and_free}
use Rattle.clap.specs.Words.{matches_of, rows_of}
use Rattle.saturn_words.specs.Commands.{run_command}
use Rattle.saturn_words.specs.Words.{faults, rows_of_words}
use Rattle.saturn_words.proofs.Simple.{run_is_free, run_is_plain, is_run}
use Rattle.saturn_words.proofs.words.run_words.Goals as goal

pub returns-in-Err-clause-nothing : goal.returns-in-Err-clause-nothing
returns-in-Err-clause-nothing c = (
  run_command c.as_slice.result c.as_slice-2.result,
  is_run c.as_slice.result c.as_slice-2.result (ap (map (λ word. word.now)) c.as_slice.ensures)
      (ap (map (λ word. word.now)) c.as_slice-2.ensures),
  tt,
)

pub returns-in-Some-clause-asked : goal.returns-in-Some-clause-asked
unfolding faults rows_of_words
returns-in-Some-clause-asked c =
    let words : List (List ℕ) = map string_bytes c.args.words.now in
    let is : app_of c.in-Ok.command ≡ run_command c.as_slice.result c.as_slice-2.result = c.in-Ok.ensures in
    let matches = c.in-Ok-try_get_matches_from.matches in
    let good : fault_of (app_of c.in-Ok.command) words ≡ [] =
    c.in-Ok-try_get_matches_from.ensures.kinds (ap is_simple_and_free is ∙ run_is_free c.as_slice.result c.as_slice-2.result) in
    let rows : rows_of (found_of matches) ≡ matches_of (app_of c.in-Ok.command) words =
    (c.in-Ok-try_get_matches_from.ensures.matches (ap is_simple is ∙ run_is_plain c.as_slice.result c.as_slice-2.result)).0 in (
      run_command c.as_slice.result c.as_slice-2.result,
      is_run c.as_slice.result c.as_slice-2.result (ap (map (λ word. word.now)) c.as_slice.ensures)
          (ap (map (λ word. word.now)) c.as_slice-2.ensures),
      rows_of (found_of matches),
      (
        ap (λ (a : App). fault_of a words) (sym is) ∙ good,
        rows ∙ ap (λ (a : App). matches_of a words) is,
      ),
      c.in-Some.ensures,
    )

pub returns-in-Ok-try_get_matches_from-clause-nothing : goal.returns-in-Ok-try_get_matches_from-clause-nothing
returns-in-Ok-try_get_matches_from-clause-nothing c = (
  run_command c.as_slice.result c.as_slice-2.result,
  is_run c.as_slice.result c.as_slice-2.result (ap (map (λ word. word.now)) c.as_slice.ensures)
      (ap (map (λ word. word.now)) c.as_slice-2.ensures),
  tt,
)

pub returns-clause-nothing : goal.returns-clause-nothing
unfolding faults
returns-clause-nothing c =
    let words : List (List ℕ) = map string_bytes c.args.words.now in
    let is : app_of c.in-Ok.command ≡ run_command c.as_slice.result c.as_slice-2.result = c.in-Ok.ensures in
    let P : App → Type 0 = λ a. HasKind (fault_of a words) c.in-Err-try_get_matches_from.error in (
      run_command c.as_slice.result c.as_slice-2.result,
      is_run c.as_slice.result c.as_slice-2.result (ap (map (λ word. word.now)) c.as_slice.ensures)
          (ap (map (λ word. word.now)) c.as_slice-2.ensures),
      c.no_words.ensures (run_command c.as_slice.result c.as_slice-2.result) words
          (subst P is (c.in-Err-try_get_matches_from.ensures.kinds
          (ap is_simple_and_free is ∙ run_is_free c.as_slice.result c.as_slice-2.result))),
    )
