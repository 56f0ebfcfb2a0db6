-- The texts are the same line by line, and so are the verdicts.
use Rattle.std.proofs.Common.{ap, ◌∙◌}
use Rattle.program_verdicts.specs.Verdicts.{verdicts}
use Rattle.report_text.specs.Checks.{text}
use Rattle.machine_laws.specs.Tries.{with_file, without_file}
use Rattle.machine_texts.proofs.Texts.{text_same}
use Rattle.machine_texts.proofs.laws.texts_with_lock.Goals as goal

pub returns-clause-given : goal.returns-clause-given
returns-clause-given c p vs = text_same p vs

pub returns-clause-own : goal.returns-clause-own
returns-clause-own c p depth reach none =
    ap (λ vs. text (without_file p) vs) (c.lock_from_a_file.ensures.verdicts p depth reach none)
    ∙ text_same p (verdicts (with_file p) depth reach)
