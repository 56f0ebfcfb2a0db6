use Rattle.std.proofs.Common.{◌≡◌, ℕ, List, ap, subst, length, map, ◌∙◌}
use Rattle.gl_sets.specs.Guards.{targets_of}
use Rattle.layout_base.specs.Seen.{layout_of}
use Rattle.sc_world.specs.View.{type}
use Rattle.run_world.specs.Seen.{env}
use Rattle.gate_copies.specs.Objects.{cells_in, most, object_targets}
use Rattle.gate_copies.specs.Copies.{HaveRead}
use Rattle.gate_inits.proofs.CellsGiven.{objects_many}
use Rattle.gate_inits.proofs.values.cells_behind.Goals as goal

pub read_all-requires-clause-wide : goal.read_all-requires-clause-wide
read_all-requires-clause-wide c =
    let f : ℕ → List ℕ = (λ target. object_targets (layout_of c.args.layout.now.places.now) (type c.args.t.now) target) in
    ap length c.as_slice-2.ensures.value
    ∙ objects_many f c.in_ok-objects.objects.items c.args.from.now.pairs.items
    (subst (λ ps. map cells_in c.in_ok-objects.objects.items ≡ map f (targets_of ps)) c.as_slice.ensures c.in_ok-objects.ensures)

pub returns-clause-ok : goal.returns-clause-ok
returns-clause-ok c =
    let f : ℕ → List ℕ = (λ target. object_targets (layout_of c.args.layout.now.places.now) (type c.args.t.now) target) in
    let s = (env c.args.here.now).source in
    let p = (env c.args.here.now).layout in
    let from = c.args.from.now.pairs.items in
    let stored = c.args.stored.now.locations.items in
    let is = (subst (λ ps. map cells_in c.in_ok-objects.objects.items ≡ map f (targets_of ps)) c.as_slice.ensures c.in_ok-objects.ensures)
    ∙ ap (λ k. map (object_targets k (type c.args.t.now)) (targets_of from)) c.requires.same in
    subst (λ cells. HaveRead c.read_all.new.net s p stored from cells (most cells) c.in_ok-readings.readings.items) is
    (subst (λ os. HaveRead c.read_all.new.net s p stored from (map cells_in os) (most (map cells_in os)) c.in_ok-readings.readings.items) c.as_slice-2.ensures.value
    c.in_ok-readings.ensures.ok)
