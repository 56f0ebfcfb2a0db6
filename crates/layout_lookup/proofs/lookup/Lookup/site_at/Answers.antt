use Rattle.std.proofs.Common.{◌≡◌, map, length}
use Rattle.std.proofs.lemmas.List.{length-map}
use Rattle.sc_gather.specs.Seen.{call}
use Rattle.layout_base.specs.Seen.{layout_of}
use Rattle.layout_lookup.specs.Firsts.{number_or, first_of}
use Rattle.layout_lookup.specs.Keys.{place_of}
use Rattle.layout_lookup.specs.Tables.{has_bracket}
use Rattle.layout_lookup.proofs.Found.{site_found}
use Rattle.layout_lookup.proofs.lookup.Lookup.site_at.Goals as goal

pub returns : goal.returns
unfolding layout_of
returns c =
    let sites = map call c.args.self.now.places.now.sites.items in
    let told = c.args.self.now.sited (place_of c.args.bracket) in
    let long = length-map c.args.self.now.places.now.sites.items call in
    let items = c.as_slice-sites.ensures.value in
    let at : c.number_or-at.result ≡ number_or (first_of (has_bracket (place_of c.args.bracket)) 0 sites) (length sites) = cc in
    let found = site_found c.args.bracket sites c.number_or-at.result at in
    let all = c.as_slice.ensures.value in
    let firsts = c.args.self.now.counted in
    cc
