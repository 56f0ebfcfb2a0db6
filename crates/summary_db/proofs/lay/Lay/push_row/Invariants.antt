use Rattle.std.proofs.Common.{◌≡◌, ℕ, List, ◌++◌, map, take, vec_len}
use Rattle.summary_db.specs.declared.place.Place.{Place}
use Rattle.summary_db.specs.Places.{edge}
use Rattle.summary_db.specs.Lays.{IsLay}
use Rattle.summary_db.proofs.lay.Lay.push_row.Given as goal

abbrev pub invariant-loop-giver : goal.invariant-loop-giver
invariant-loop-giver l =
    ((n : ℕ) (places : List Place) → IsLay n places l.initial.self → IsLay n (places ++ map (edge l.taker) (take l.giver-index l.givers)) l.self)
    × (vec_len l.self.takes ≡ vec_len l.initial.self.takes) × (vec_len l.self.gives ≡ vec_len l.initial.self.gives)
