use Rattle.std.proofs.Common.{map, ap, ◌∷◌, [], ◌∙◌}
use Rattle.std.proofs.lemmas.List.{map-append}
use Rattle.layout_base.specs.Seen as laid
use Rattle.sc_world.specs.View.{type}
use Rattle.gate_copies.specs.Objects.{cells_in, object_targets}
use Rattle.gate_copies.proofs.Listing.{by_targets, mapped_step, mapped_whole}
use Rattle.gate_copies.proofs.objects.objects_of.Goals as goal

pub loop-pair-init : goal.loop-pair-init
loop-pair-init c = record { so_far = ap (map cells_in) c.new-made.ensures.items }

pub loop-pair-preserved : goal.loop-pair-preserved
loop-pair-preserved c =
    record {
      so_far =
          mapped_step (λ p. object_targets (laid.layout_of c.args.places.now) (type c.args.t.now) p.target) c.args.pairs.now c.loop-pair.pair-index _
          (map cells_in c.loop-pair.made.items) _ (cells_in c.in_ok-object.object) c.loop-pair-test.true
          (ap (map cells_in) c.in_ok-push.ensures.items ∙ map-append cells_in c.loop-pair.made.items (c.in_ok-object.object ∷ [])) c.in_ok-object.ensures
          c.loop-pair.invariant.so_far;
    }

pub returns : goal.returns
returns c =
    mapped_whole (λ p. object_targets (laid.layout_of c.args.places.now) (type c.args.t.now) p.target) c.args.pairs.now c.loop-pair.pair-index _
    c.loop-pair-test.false c.loop-pair.invariant.so_far
    ∙ by_targets (λ target. object_targets (laid.layout_of c.args.places.now) (type c.args.t.now) target) c.args.pairs.now
