use Rattle.std.proofs.Common.{◌≡◌, ◌==◌, ℕ, vec_len, length, reverse, ◌∙◌, ap, arith}
use Rattle.std.proofs.lemmas.List.{length-reverse}
use Rattle.scopes.proofs.FrameLemmas.{blocks-frames}
use Rattle.scopes.proofs.scopes.Scopes.is_file.Goals as goal

pub returns : goal.returns
returns g c =
    let same : vec_len c.self.inside.outer ≡ length (reverse c.self.inside.outer.items) = omega (arith, length-reverse c.self.inside.outer.items) in
    rw (← c.self.view_is) (blocks-frames c.is_empty.result c.self.inside.here (reverse c.self.inside.outer.items) c.self.inside.stack (c.is_empty.ensures ∙ ap (λ (n : ℕ). n == 0) same))
