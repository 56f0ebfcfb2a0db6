use Rattle.std.proofs.Common.{◌≡◌, ℕ, List, ap, subst, length, map, ◌∙◌}
use Rattle.gl_sets.specs.Guards.{targets_of}
use Rattle.layout_base.specs.Seen.{layout_of}
use Rattle.sc_world.specs.View.{type}
use Rattle.run_world.specs.Seen.{env}
use Rattle.gate_copies.specs.Objects.{cells_in, most, object_targets}
use Rattle.gate_copies.specs.Copies.{HaveRead, HaveStored}
use Rattle.gate_copies.proofs.Listing.{objects_wide}
use Rattle.gate_copies.proofs.Copying.{does_copy}
use Rattle.gate_copies.proofs.copies.copy.Goals as goal

pub read_all-requires-clause-wide : goal.read_all-requires-clause-wide
read_all-requires-clause-wide c =
    let f : ℕ → List ℕ = (λ target. object_targets (layout_of c.args.layout.now.places.now) (type c.args.t.now) target) in
    ap length c.as_slice-3.ensures.value
    ∙ objects_wide f c.args.from.now.pairs.items c.in_ok-sources.sources.items
    (subst (λ ps. map cells_in c.in_ok-sources.sources.items ≡ map f (targets_of ps)) c.as_slice.ensures c.in_ok-sources.ensures)

pub store_all-requires-clause-wide : goal.store_all-requires-clause-wide
store_all-requires-clause-wide c =
    let f : ℕ → List ℕ = (λ target. object_targets (layout_of c.args.layout.now.places.now) (type c.args.t.now) target) in
    ap length c.as_slice-4.ensures.value
    ∙ objects_wide f c.args.place.now.pairs.items c.in_ok-targets.targets.items
    (subst (λ ps. map cells_in c.in_ok-targets.targets.items ≡ map f (targets_of ps)) c.as_slice-2.ensures c.in_ok-targets.ensures)

pub returns-clause-ok : goal.returns-clause-ok
returns-clause-ok c =
    let f : ℕ → List ℕ = (λ target. object_targets (layout_of c.args.layout.now.places.now) (type c.args.t.now) target) in
    let s = (env c.args.here.now).source in
    let p = (env c.args.here.now).layout in
    let from = c.args.from.now.pairs.items in
    let place = c.args.place.now.pairs.items in
    let old = c.args.stored.now.locations.items in
    let new = c.store_all.new.stored.locations.items in
    does_copy s (layout_of c.args.layout.now.places.now) p c.args.ends.now (type c.args.t.now) c.args.place.now c.args.from.now c.in_ok-made.made old new
    (map cells_in c.in_ok-sources.sources.items) (map cells_in c.in_ok-targets.targets.items) c.in_ok-readings.readings.items c.args.net.now c.read_all.new.net
    c.store_all.new.net c.requires.same c.in_ok-readings.ensures.grown c.in_ok-store_all.ensures.grown
    (subst (λ ps. map cells_in c.in_ok-sources.sources.items ≡ map f (targets_of ps)) c.as_slice.ensures c.in_ok-sources.ensures)
    (subst (λ ps. map cells_in c.in_ok-targets.targets.items ≡ map f (targets_of ps)) c.as_slice-2.ensures c.in_ok-targets.ensures)
    (subst (λ os. HaveRead c.read_all.new.net s p old from (map cells_in os) (most (map cells_in os)) c.in_ok-readings.readings.items) c.as_slice-3.ensures.value
    c.in_ok-readings.ensures.ok)
    (subst (λ rs. HaveStored c.store_all.new.net c.args.ends.now.live.at place (map cells_in c.in_ok-targets.targets.items) rs (length rs) old new) c.as_slice-5.ensures.value
    (subst (λ os. HaveStored c.store_all.new.net c.args.ends.now.live.at place (map cells_in os) c.as_slice-5.result.now (length c.as_slice-5.result.now) old new) c.as_slice-4.ensures.value
    c.in_ok-store_all.ensures.ok))
    c.requires.place c.in_ok-made.ensures
