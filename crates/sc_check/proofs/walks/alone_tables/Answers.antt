use Rattle.std.proofs.Common.{None, false, refl}
use Rattle.sc_typing.specs.Tables.{here_of}
use Rattle.sc_check.proofs.Heres.{same_here, entry_of_none}
use Rattle.sc_check.proofs.walks.alone_tables.Goals as goal

pub returns : goal.returns
unfolding here_of
returns c =
    same_here c.args.w c.args.file _ _ _ _ _ _ _ _ _ (λ n. refl) (entry_of_none None) (entry_of_none false)
    (entry_of_none None)
