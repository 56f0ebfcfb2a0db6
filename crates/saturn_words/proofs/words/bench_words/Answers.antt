use Rattle.std.proofs.Common.{◌≡◌, ◌∙◌, ℕ, List, [], ap, refl, sym, subst, map, string_bytes}
use Rattle.clap.specs.Words.{App, HasKind, app_of, fault_of, found_of, is_simple, is_simple_and_free}
use Rattle.clap.specs.Words.{matches_of, rows_of}
use Rattle.saturn_words.specs.Commands.{bench_command}
use Rattle.saturn_words.specs.Words.{faults, rows_of_words}
use Rattle.saturn_words.proofs.Simple.{bench_is_free, bench_is_plain}
use Rattle.saturn_words.proofs.words.bench_words.Goals as goal

pub returns-in-Some-clause-asked : goal.returns-in-Some-clause-asked
unfolding faults rows_of_words
returns-in-Some-clause-asked c =
    let words : List (List ℕ) = map string_bytes c.args.words.now in
    let is : app_of c.in-Ok.command ≡ bench_command = c.in-Ok.ensures in
    let matches = c.in-Ok-try_get_matches_from.matches in
    let good : fault_of (app_of c.in-Ok.command) words ≡ [] =
    c.in-Ok-try_get_matches_from.ensures.kinds (ap is_simple_and_free is ∙ bench_is_free) in
    let rows : rows_of (found_of matches) ≡ matches_of (app_of c.in-Ok.command) words =
    (c.in-Ok-try_get_matches_from.ensures.matches (ap is_simple is ∙ bench_is_plain)).0 in (
      bench_command,
      refl,
      rows_of (found_of matches),
      (
        ap (λ (a : App). fault_of a words) (sym is) ∙ good,
        rows ∙ ap (λ (a : App). matches_of a words) is,
      ),
      c.in-Some.ensures,
    )

pub returns-clause-nothing : goal.returns-clause-nothing
unfolding faults
returns-clause-nothing c =
    let words : List (List ℕ) = map string_bytes c.args.words.now in
    let is : app_of c.in-Ok.command ≡ bench_command = c.in-Ok.ensures in
    let P : App → Type 0 = λ a. HasKind (fault_of a words) c.in-Err-try_get_matches_from.error in (
      bench_command,
      refl,
      c.no_words.ensures bench_command words
          (subst P is (c.in-Err-try_get_matches_from.ensures.kinds (ap is_simple_and_free is ∙ bench_is_free))),
    )
