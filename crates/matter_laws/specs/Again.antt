-- When the verdict of a function of an earlier program may be used again for a function of a later one.
use Rattle.std.specs.Prelude.{◌≡◌, ℕ, ◌<◌, length, map, slice_get}
use Rattle.sc_typed.specs.declared.program.Program.{Program}
use Rattle.program_verdicts.specs.Verdicts.{kept_of, verdict_in}
use Rattle.session_core.specs.Stale.{Memory}
use Rattle.source_laws.specs.Named.{IsFront, NamesBelowIf}
use Rattle.fn_matter.specs.Matter.{matter}

-- The matters of the two functions are equal, and so are the machines, the structs and the globals of the two programs. The
-- names of the earlier program are the first of the later one, and the function and the tables name no others.
pub record MayBeUsedAgain (earlier later : Program) (g f : ℕ) : Type 0 where
  pub old : g < length earlier.functions
  pub new : f < length later.functions
  pub matters : matter later f ≡ matter earlier g
  pub machine : later.machine ≡ earlier.machine
  pub structs : later.structs ≡ earlier.structs
  pub globals : later.globals ≡ earlier.globals
  pub front : IsFront earlier.names later.names
  pub below : NamesBelowIf (length earlier.names) earlier (slice_get earlier.functions g)

-- what is kept of a function of a program: its matter, the verdicts of its kept callees, and its own
abbrev pub memory_of : Program → (depth reach : ℕ) → ℕ → Memory
memory_of p depth reach g =
    record {
      matter = matter p g;
      used = map (verdict_in p depth reach) (kept_of p g);
      verdict = verdict_in p depth reach g;
    }
