-- The place behind the bytes that are left is the one behind all, and the numbers still fit.
use Rattle.std.proofs.Common.{◌≡◌, ◌+◌, ◌-◌, ◌<◌, ◌^◌, drop, length}
use Rattle.sc_lexer.specs.Place.{passed}
use Rattle.sc_lexer.proofs.place.Place.past.Given as goal

abbrev pub invariant-loop-byte : goal.invariant-loop-byte
invariant-loop-byte l =
    (passed l.place (drop l.byte-index l.text) ≡ passed l.fn.self l.text) × (l.place.line + (length l.text - l.byte-index) < 2 ^ 32)
    × (l.place.col + (length l.text - l.byte-index) < 2 ^ 32)
