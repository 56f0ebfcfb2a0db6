-- What a sink took of the bytes that were to go to it. `Appends old new bytes` says that the bytes
-- stand behind what it had, and `Keeps old new` that it has what it had, each where that is told.
use Rattle.std.specs.Prelude.{◌≡◌, ◌⊎◌, ℕ, ◌<◌, List, length, take, Option}
pub use Rattle.std.specs.Io.KnownBytes.{Appends, Keeps}
use Rattle.sc_base.specs.Causes.{Rose}

-- A sink before and after some calls: its count of faults, and what it took where that is told.
pub record SinkChange : Type 0 where
  pub faults_before : ℕ
  pub faults_after : ℕ
  pub before : Option (List ℕ)
  pub after : Option (List ℕ)

-- The sink failed, with its count of faults risen, and got a proper front of the bytes.
pub record GotFront (sink : SinkChange) (bytes : List ℕ) : Type 0 where
  pub cause : Rose sink.faults_before sink.faults_after
  pub got : ℕ
  pub proper : got < length bytes
  pub front : Appends sink.before sink.after (take got bytes)

-- Either the bytes went to the sink whole, and the answer is the one that was due, or the sink
-- failed with a proper front of them, and the answer is the fault of writing.
abbrev pub Went : {S : Type 0} → S → S → S → SinkChange → List ℕ → Type 0
Went due fault answer sink bytes = ((answer ≡ due) × Appends sink.before sink.after bytes) ⊎ ((answer ≡ fault) × GotFront sink bytes)
