use Rattle.std.proofs.Common.{◌≡◌, ◌∙◌, ℕ, List, [], rules, ap, ap₂, refl, sym, subst, inl, inr, arith}
use Rattle.std.proofs.Common.{slice_index, codes, map, string_bytes, Some}
use Rattle.std.specs.Prelude.{option_map}
use Rattle.clap.specs.Words.{App, HasKind, app_of, fault_of, first_of, first_value, found_of, is_simple}
use Rattle.clap.specs.Words.{is_simple_and_free, matches_of, rule_of, rows_of, with_rule}
use Rattle.clap.proofs.CallerLemmas.{one_required_value, some_of_text}
use Rattle.clap.proofs.WalkLemmas.{first_value-rows}
use Rattle.verify_runs.specs.Words.{bare_command, command, faults, file_of}
use Rattle.verify_runs.proofs.Commands.{file_rule, is_free, is_plain}
use Rattle.verify_runs.proofs.words.file_named.Goals as goal

pub unwrap-requires : goal.unwrap-requires
unwrap-requires c =
    let name_id : c.action-file.result.id.now ≡ codes "FILE" = search rules in
    let first : (t : List ℕ) → c.action-file.result.id.now ≡ t → slice_index t 0 ≡ 70 = λ t e. rw (← e, name_id) refl in
    let given = one_required_value c.version-bare.result c.in-Ok.command c.action-file.result c.in-Ok-try_get_matches_from.matches
    c.in-Ok.ensures (search rules) (search rules) (search rules) (search rules) (search rules) (search rules) (search rules)
    (search rules) (search rules) (search rules)
    (λ e. let bad : 0 ≡ 70 = first [] e in absurd (omega arith))
    (λ auto. elim auto [
      | inl h ↦ let bad : 104 ≡ 70 = first _ h in absurd (omega arith)
      | inr h ↦ let bad : 118 ≡ 70 = first _ h in absurd (omega arith)
    ])
    c.in-Ok-try_get_matches_from.ensures.parsed in
    some_of_text _ c.get_str.result _ c.get_str.ensures (search rules)

pub returns-in-Ok-try_get_matches_from-clause-named : goal.returns-in-Ok-try_get_matches_from-clause-named
unfolding faults file_of
returns-in-Ok-try_get_matches_from-clause-named c =
    let words : List (List ℕ) = map string_bytes c.args.words.now in
    let rule_is : rule_of c.action-file.result ≡ file_rule = search rules in
    let bare_is : app_of c.version-bare.result ≡ bare_command = search rules in
    let app_is : app_of c.in-Ok.command ≡ command = c.in-Ok.ensures.shape (search rules) ∙ ap₂ with_rule bare_is rule_is in
    let matches = c.in-Ok-try_get_matches_from.matches in
    let good : fault_of (app_of c.in-Ok.command) words ≡ [] =
    c.in-Ok-try_get_matches_from.ensures.kinds (ap is_simple_and_free app_is ∙ is_free) in
    let rows : rows_of (found_of matches) ≡ matches_of (app_of c.in-Ok.command) words =
    (c.in-Ok-try_get_matches_from.ensures.matches (ap is_simple app_is ∙ is_plain)).0 in
    let first : first_value (found_of matches) (codes "FILE") ≡ first_of (codes "FILE") (matches_of command words) =
    first_value-rows (found_of matches) (codes "FILE") ∙ ap (first_of (codes "FILE")) (rows ∙ ap (λ (a : App). matches_of a words) app_is) in
    let read : Some c.unwrap.result.now ≡ first_value (found_of matches) (codes "FILE") =
    sym (ap (option_map (λ s. s.now)) c.unwrap.ensures) ∙ c.get_str.ensures in
    (ap (λ (a : App). fault_of a words) (sym app_is) ∙ good, sym (read ∙ first))

pub returns-in-Err-try_get_matches_from-clause-none : goal.returns-in-Err-try_get_matches_from-clause-none
unfolding faults
returns-in-Err-try_get_matches_from-clause-none c =
    let words : List (List ℕ) = map string_bytes c.args.words.now in
    let rule_is : rule_of c.action-file.result ≡ file_rule = search rules in
    let bare_is : app_of c.version-bare.result ≡ bare_command = search rules in
    let app_is : app_of c.in-Ok.command ≡ command = c.in-Ok.ensures.shape (search rules) ∙ ap₂ with_rule bare_is rule_is in
    let P : App → Type 0 = λ a. HasKind (fault_of a words) c.in-Err-try_get_matches_from.error in
    c.no_file.ensures words (subst P app_is (c.in-Err-try_get_matches_from.ensures.kinds (ap is_simple_and_free app_is ∙ is_free)))
