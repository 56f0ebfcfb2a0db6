-- The lines that the program writes.

use Rattle.std.specs.Prelude.{ℕ, List, ◌++◌, codes, decimal}
use Rattle.verify_runs.specs.declared.finding.Finding.{Finding}
use Rattle.verify_runs.specs.declared.finding.Finding.TheVariants.{TooLong, Malformed, Accepted, Rejected}

abbrev pub limit_line : List ℕ
limit_line = codes "saturn_verify: limit input 268435457\n"

abbrev pub malformed_line : List ℕ → ℕ → List ℕ
malformed_line name line = codes "saturn_verify: " ++ (name ++ (codes ":" ++ (decimal line ++ codes ": malformed\n")))

abbrev pub accepted_line : ℕ → ℕ → List ℕ
accepted_line clauses steps = codes "verified " ++ (decimal clauses ++ (codes " " ++ (decimal steps ++ codes "\n")))

abbrev pub rejected_line : ℕ → List ℕ
rejected_line step = codes "rejected " ++ (decimal step ++ codes "\n")

-- the line for what the file of this name is
abbrev pub line_of : List ℕ → Finding → List ℕ
line_of name TooLong = limit_line
line_of name (Malformed line) = malformed_line name line
line_of name (Accepted clauses steps) = accepted_line clauses steps
line_of name (Rejected step) = rejected_line step

-- the line for a file that was not read
abbrev pub unread_line : List ℕ → List ℕ
unread_line name = codes "saturn_verify: cannot read " ++ (name ++ codes "\n")
