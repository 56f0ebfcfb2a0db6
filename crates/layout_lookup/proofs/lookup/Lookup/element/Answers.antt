use Rattle.std.proofs.Common.{◌^◌, ◌≤◌, ⊎_elim}
use Rattle.std.proofs.lemmas.Bool.{cases_lt}
use Rattle.sum_rows.specs.declared.path.Step.TheVariants as step
use Rattle.layout_base.specs.Seen.{layout_of}
use Rattle.layout_lookup.proofs.Found.{part_found}
use Rattle.layout_lookup.specs.Keys.{part_key}
use Rattle.layout_lookup.proofs.lookup.Lookup.element.Goals as goal

pub returns-in-Err : goal.returns-in-Err
returns-in-Err c =
    let large : 2 ^ 32 ≤ c.args.k = ⊎_elim (λ less. absurd (c.in-Err.ensures less)) (λ le. le) (cases_lt c.args.k (2 ^ 32)) in
    let few = c.args.self.now.few c.args.at c.args.k large in
    let told = c.args.self.now.located (part_key c.args.at (step.Elem c.args.k)) in
    let first = part_found c.args.at (step.Elem c.args.k) (layout_of c.args.self.now.places.now).locations in
    cc
