-- The others are there still.
use Rattle.sat_cdcl.proofs.ResolventLemmas.{leaves_rest}
use Rattle.sat_cdcl.proofs.resolvent.take_out.Goals as goal

pub returns-in-Some : goal.returns-in-Some
returns-in-Some c =
    leaves_rest c.args.lits.now.items c.swap_remove-out.new.self.items c.args.place c.swap_remove-out.result c.requires
    c.swap_remove-out.ensures.value c.swap_remove-out.ensures.items

pub returns-in_default : goal.returns-in_default
returns-in_default c =
    leaves_rest c.args.lits.now.items c.swap_remove-out.new.self.items c.args.place c.swap_remove-out.result c.requires
    c.swap_remove-out.ensures.value c.swap_remove-out.ensures.items
