use Rattle.std.proofs.Common.{◌≡◌, ◌∙◌}
use Rattle.json_text.proofs.Read.{read_back}
use Rattle.json_text.proofs.text.JsonText.into_bytes.Goals as goal

pub returns-clause-value : goal.returns-clause-value
returns-clause-value c = λ v is shallow.
    read_back c.into_inner.result.items c.self.inside.writer.before c.self.inside.writer.tokens v c.into_inner.ensures.items c.self.invariant
    c.into_inner.ensures.reads_back (c.self.view_is ∙ is) shallow
