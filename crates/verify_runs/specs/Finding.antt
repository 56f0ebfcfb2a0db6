-- What the bytes of a file are: too long, of another form than a certificate, or a certificate of steps that are
-- accepted or rejected.

use Rattle.std.specs.Prelude.{◌≡◌, ◌+◌, ◌<◌, ◌≤◌, ℕ, List, length}
use Rattle.rup_check.specs.Checked.{IsChecked}
use Rattle.rup_check.specs.declared.check.Checked.TheVariants.{Yes, No}
use Rattle.drat_text.specs.Certificate.{Contents}
use Rattle.drat_text.specs.Reading.{spelled, Spells, Breaks}
use Rattle.verify_runs.specs.declared.finding.Finding.{Finding}
use Rattle.verify_runs.specs.declared.finding.Finding.TheVariants.{TooLong, Malformed, Accepted, Rejected}

-- the greatest length of a file
abbrev pub most_bytes : ℕ
most_bytes = 268435456

-- what the checker says of a certificate: the numbers of clauses and steps; or the number of the first step that is
-- not allowed, counted from 1 (where all are allowed and the last does not add the empty clause, one more than there
-- are steps)
abbrev pub IsJudged : Contents → Finding → Type 0
IsJudged contents TooLong = ⊥
IsJudged contents (Malformed line) = ⊥
IsJudged contents (Accepted clauses steps) =
    IsChecked contents.clauses contents.steps Yes × (clauses ≡ length contents.clauses) × (steps ≡ length contents.steps)
IsJudged contents (Rejected step) = (k : ℕ) × IsChecked contents.clauses contents.steps (No k) × (step ≡ k + 1)

-- what the bytes are; there is one finding, since they spell one thing and have one judgement
abbrev pub IsFinding : List ℕ → Finding → Type 0
IsFinding bytes TooLong = most_bytes < length bytes
IsFinding bytes (Malformed line) = (length bytes ≤ most_bytes) × (spelled bytes ≡ Breaks line)
IsFinding bytes (Accepted clauses steps) =
    (length bytes ≤ most_bytes) × ((contents : Contents) × (spelled bytes ≡ Spells contents) × IsJudged contents (Accepted clauses steps))
IsFinding bytes (Rejected step) =
    (length bytes ≤ most_bytes) × ((contents : Contents) × (spelled bytes ≡ Spells contents) × IsJudged contents (Rejected step))
