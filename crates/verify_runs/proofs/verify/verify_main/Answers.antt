use Rattle.std.proofs.Common.{rules, ◌≡◌, refl, subst, map, string_bytes}
use Rattle.verify_runs.specs.declared.words.NoFile.{NoFile}
use Rattle.verify_runs.specs.Words.{HaveNoFile}
use Rattle.verify_runs.specs.Answer.{helped, bad_words}
use Rattle.verify_runs.proofs.Answered.{to_errors, to_output, Keeps-itself}
use Rattle.verify_runs.proofs.verify.verify_main.Goals as goal

pub returns-in-Err-Help-clause-answers : goal.returns-in-Err-Help-clause-answers
returns-in-Err-Help-clause-answers g c =
    let same : c.as_slice.result.now ≡ c.args.words.now.items = search rules in
    let P : NoFile → Type 0 = λ e. HaveNoFile (map string_bytes c.as_slice.result.now) e in
    let asked = rw same at (subst P c.in-Err-Help.field-0-is c.in-Err-Help.ensures.none) in
    to_output _ _ _ _ _ _ _ _ (helped _ asked) refl c.say.ensures (Keeps-itself _)

pub returns-in-Err-Bad-clause-answers : goal.returns-in-Err-Bad-clause-answers
returns-in-Err-Bad-clause-answers g c =
    let same : c.as_slice.result.now ≡ c.args.words.now.items = search rules in
    let P : NoFile → Type 0 = λ e. HaveNoFile (map string_bytes c.as_slice.result.now) e in
    let bad = rw same at (subst P c.in-Err-Bad.field-0-is c.in-Err-Bad.ensures.none) in
    to_errors _ _ _ _ _ _ _ _ (bad_words _ bad) refl c.say-in-Err-Bad.ensures (Keeps-itself _)
