use Rattle.std.proofs.Common.{rules, eqb-true, eq-eqb}
use Rattle.bit_words.proofs.making.fits.Goals as goal
use Rattle.bit_words.proofs.MakeLemmas.{fits_wide, fits_by_rest, rest_by_fit}

pub returns-then-width-ge64 : goal.returns-then-width-ge64
returns-then-width-ge64 c = (λ h. fits_wide c.args.n c.args.width c.ranges.n.fits c.if-width-ge64.true, λ h. search rules)

pub returns : goal.returns
returns c = (λ h. fits_by_rest c.args.n c.args.width (eqb-true _ _ h), λ h. eq-eqb _ _ (rest_by_fit c.args.n c.args.width h))
