use Rattle.layout_base.specs.Seen.{layout_of}
use Rattle.layout_lookup.specs.Keys.{part_key}
use Rattle.layout_lookup.proofs.Found.{part_found}
use Rattle.layout_lookup.proofs.lookup.Lookup.part.Goals as goal

pub returns : goal.returns
returns c =
    let told = c.args.self.now.located (part_key c.args.at c.args.step) in
    let first = part_found c.args.at c.args.step (layout_of c.args.self.now.places.now).locations in
    cc
