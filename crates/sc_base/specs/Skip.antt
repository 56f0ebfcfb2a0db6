-- The order of skips: of several at one place the first counts.
use Rattle.std.specs.Prelude.{ℕ}
use Rattle.sc_base.specs.declared.skip.Skip.{Skip}
use Rattle.sc_base.specs.declared.skip.Skip.TheVariants.{Grammar, Unsupported, IllTyped, Limit}

-- the place of a skip's variant in that order, from 1 on
abbrev pub skip_number : Skip → ℕ
skip_number (Grammar pos) = 1
skip_number (Unsupported kind pos) = 2
skip_number (IllTyped kind pos) = 3
skip_number (Limit kind count) = 4
