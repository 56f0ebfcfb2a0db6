-- The tokens so far, with those of the bytes that are left, are all, whatever names are added later; and so are the names.
use Rattle.std.proofs.Common.{◌≡◌, ◌≤◌, length, take}
use Rattle.sc_lexer.specs.Answer.{Grow}
use Rattle.sc_lexer.specs.Place.{place_at}
use Rattle.sc_lexer.proofs.ScanProofs.{SoFar}
use Rattle.sc_lexer.proofs.NamingProofs.{NamedSoFar}
use Rattle.sc_lexer.proofs.scan.scan.Given as goal

abbrev pub invariant-loop : goal.invariant-loop
invariant-loop l =
    (l.at ≤ length l.bytes) × (l.place ≡ place_at (take l.at l.bytes)) × Grow l.counter l.fn.names l.names
    × SoFar l.names l.file l.counter l.at l.bytes l.tokens × (length l.tokens ≤ l.counter)
    × NamedSoFar l.fn.names l.names l.counter l.at l.bytes
