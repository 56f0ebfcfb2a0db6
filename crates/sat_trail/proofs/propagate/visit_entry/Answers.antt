-- What the look says.
use Rattle.sat_trail.proofs.FollowLemmas.{extends_refl}
use Rattle.sat_trail.proofs.propagate.visit_entry.Goals as goal

pub returns-in-Keep : goal.returns-in-Keep
returns-in-Keep c = (extends_refl c.args.clauses.now.given c.args.trail.now, tt)

pub returns-in_ok-push-in-Move : goal.returns-in_ok-push-in-Move
returns-in_ok-push-in-Move c = (extends_refl c.args.clauses.now.given c.args.trail.now, tt)

pub returns-in-Forced : goal.returns-in-Forced
returns-in-Forced c = (c.imply.ensures c.args.clauses.now.given c.in-Forced.ensures, tt)

pub returns-in-Conflict : goal.returns-in-Conflict
returns-in-Conflict c = (extends_refl c.args.clauses.now.given c.args.trail.now, c.in-Conflict.ensures)

pub returns-in-Gone : goal.returns-in-Gone
returns-in-Gone c = (extends_refl c.args.clauses.now.given c.args.trail.now, tt)
