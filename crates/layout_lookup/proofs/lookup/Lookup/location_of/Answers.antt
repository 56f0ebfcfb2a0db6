use Rattle.std.proofs.Common.{◌≡◌, ap}
use Rattle.std.specs.Prelude.{Some, None}
use Rattle.sc_world.specs.Layout.{or_zero, same_origin, first_where}
use Rattle.layout_base.specs.Seen.{layout_of}
use Rattle.layout_lookup.specs.Keys.{key_of}
use Rattle.layout_lookup.proofs.Found.{origin_found}
use Rattle.layout_lookup.proofs.lookup.Lookup.location_of.Goals as goal

pub returns-in-None : goal.returns-in-None
returns-in-None c =
    let told = c.args.self.now.located (key_of c.args.origin) in
    let first = origin_found c.args.origin (layout_of c.args.self.now.places.now).locations in
    let found : None ≡ first_where (λ l. same_origin c.args.origin l.origin) 0 (layout_of c.args.self.now.places.now).locations = cc in
    ap or_zero found

pub returns-in-Some : goal.returns-in-Some
returns-in-Some c =
    let told = c.args.self.now.located (key_of c.args.origin) in
    let first = origin_found c.args.origin (layout_of c.args.self.now.places.now).locations in
    let found : Some c.in-Some.at ≡ first_where (λ l. same_origin c.args.origin l.origin) 0 (layout_of c.args.self.now.places.now).locations = cc in
    ap or_zero found
