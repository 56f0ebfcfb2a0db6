-- One open literal more.
use Rattle.std.proofs.Common.{◌≡◌, subst, rules}
use Rattle.rup_check.specs.declared.look.OpenLits.{OpenLits}
use Rattle.rup_check.specs.Looking.{AreOpen}
use Rattle.rup_check.proofs.LookingLemmas.{open_first, open_again, open_second, open_still}
use Rattle.rup_check.proofs.look.with_open.Goals as goal

pub returns-in-Nothing : goal.returns-in-Nothing
returns-in-Nothing c lits front h open_x =
    open_first lits front c.args.lit (subst (λ (o : OpenLits). AreOpen lits front o) c.in-Nothing.is h) open_x

pub returns-then-eq : goal.returns-then-eq
returns-then-eq c lits front h open_x =
    let same : c.in-One.other ≡ c.args.lit = search rules in
    open_again lits front c.in-One.other c.args.lit (subst (λ (o : OpenLits). AreOpen lits front o) c.in-One.is h) same

pub returns-else-eq : goal.returns-else-eq
returns-else-eq c lits front h open_x =
    let other : c.in-One.other ≡ c.args.lit → ⊥ = search rules in
    open_second lits front c.in-One.other c.args.lit (subst (λ (o : OpenLits). AreOpen lits front o) c.in-One.is h) open_x other

pub returns-in-Two : goal.returns-in-Two
returns-in-Two c lits front h open_x =
    open_still lits front c.in-Two.one c.in-Two.other c.args.lit (subst (λ (o : OpenLits). AreOpen lits front o) c.in-Two.is h)
