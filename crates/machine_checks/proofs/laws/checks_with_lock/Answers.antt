-- The walks over the files are the same; the text of the program is that without a file, which it has not.
use Rattle.std.proofs.Common.{sym, ap, subst, ◌∙◌}
use Rattle.program_verdicts.specs.Verdicts.{verdicts}
use Rattle.report_text.specs.Checks.{text}
use Rattle.machine_laws.specs.Tries.{NoNameTries}
use Rattle.machine_checks.specs.Files.{with_lock}
use Rattle.machine_checks.proofs.Files.{typed_same, bare}
use Rattle.machine_checks.proofs.laws.checks_with_lock.Goals as goal

pub returns-clause-typed : goal.returns-clause-typed
returns-clause-typed c s h = typed_same s h

pub returns-clause-text : goal.returns-clause-text
returns-clause-text c s p depth reach h e =
    let is = bare s h p e in (
      typed_same s h ∙ ap with_lock e,
      sym
          (c.texts_with_lock.ensures.own p depth reach
          (c.lock_from_a_file.ensures.named p (subst (λ names. NoNameTries names) (sym is.1) h)))
          ∙ ap (λ q. text q (verdicts q depth reach)) is.0,
    )
