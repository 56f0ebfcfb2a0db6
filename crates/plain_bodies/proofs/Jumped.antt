-- The faults of labels and jumps are faults alone.
use Rattle.std.proofs.Common.{Option, Some, None, List, [], ◌∷◌, false, refl}
use Rattle.sc_base.specs.declared.pos.Pos.{Pos}
use Rattle.sc_base.specs.declared.skip.Unsupported.TheVariants as u
use Rattle.sc_base.specs.declared.skip.IllTyped.TheVariants as i
use Rattle.sc_rules.specs.Faults.{unsupported_at, ill_typed_at}
use Rattle.sc_jumps.specs.declared.jumps.Goto.{Goto}
use Rattle.sc_jumps.specs.Jumps.{Way, Found, is_ahead, label_of, labels_differ, leads_to, gotos_lead, jumps_of}
use Rattle.plain_bodies.specs.Leaves.{FaultAlone}
use Rattle.plain_bodies.proofs.Steps.{keeps, by_then, by_test}
use Rattle.scopes.specs.Frames.{Frames}
use Rattle.sc_rules.specs.declared.walk.Tag.{Tag}

module _ {T : Frames Tag} where
  labels_kept : (again : List Pos) → FaultAlone T (labels_differ again)
  labels_kept [] = keeps (λ w. refl)
  labels_kept (at ∷ rest) = by_then _ _ (by_test false (ill_typed_at i.Again at)) (λ x. labels_kept rest)

  leads_kept : (way : Option Way) (g : Goto) → FaultAlone T (leads_to way g)
  leads_kept None g = by_test false (ill_typed_at i.Label g.pos)
  leads_kept (Some way) g = by_test (is_ahead way g.way) (unsupported_at u.Goto g.pos)

  gotos_kept : (j : Found) (gs : List Goto) → FaultAlone T (gotos_lead j gs)
  gotos_kept j [] = keeps (λ w. refl)
  gotos_kept j (g ∷ gs) = by_then _ _ (leads_kept (label_of g.name j) g) (λ x. gotos_kept j gs)

  pub jumps_kept : (j : Found) → FaultAlone T (jumps_of j)
  jumps_kept j = by_then _ _ (labels_kept j.again) (λ x. gotos_kept j j.gotos)
