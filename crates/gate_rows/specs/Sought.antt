-- Rows that are sought, with entry bits, a result and two states that gates tell.
use Rattle.std.specs.Prelude.{ℕ, zero, suc, ◌<◌, ◌≤◌, nat_eq, nat_lt, Bool, true, false, not, ◌&&◌, ◌||◌, Option, Some, None, List, length, if◌then◌else◌}
use Rattle.bit_net.specs.declared.nodes.Node.{Node}
use Rattle.bit_words.specs.Number.{number, top}
use Rattle.sum_rows.specs.declared.row.Gives.{Gives}
use Rattle.sum_rows.specs.declared.row.Gives.TheVariants as gives
use Rattle.sum_rows.specs.declared.row.Row.{Row}
use Rattle.sum_rows.specs.declared.row.State.{State}
use Rattle.sum_rows.specs.declared.row.State.TheVariants as state
use Rattle.sc_world.specs.World.{any}
use Rattle.sc_world.specs.Known.{same_gives, same_state}
use Rattle.gate_rows.specs.declared.sought.Outcome.{Outcome}
use Rattle.gate_rows.specs.declared.sought.Outcome.TheVariants as outcome
use Rattle.gate_rows.specs.declared.sought.Side.{Side}
use Rattle.gate_rows.specs.declared.sought.Side.TheVariants as side
use Rattle.gate_rows.specs.declared.sought.Sought.{Sought}

-- By which number a choice names a state: that of a parameter's object, a pointer, a state of the machine.
abbrev pub param_number : State → Option ℕ
param_number state.Held = Some 0
param_number state.Escaped = Some 1
param_number state.Freed = Some 2
param_number _ = None

abbrev pub pointer_number : State → Option ℕ
pointer_number state.Null = Some 0
pointer_number state.Fresh = Some 1
pointer_number state.Other = Some 2
pointer_number _ = None

abbrev pub state_number : State → Option ℕ
state_number (state.At m) = Some m
state_number _ = None

abbrev pub is_same : State → Bool
is_same state.Same = true
is_same _ = false

abbrev pub is_spelt : (n : ℕ) → Option ℕ → Bool
is_spelt n None = false
is_spelt n (Some m) = nat_eq n m

-- whether a row from a state counts for the state at hand: for any state, each state of the machine
abbrev pub is_from : (count before : ℕ) → Option ℕ → Bool
is_from count before None = false
is_from count before (Some m) = if nat_eq before any then nat_lt m count else nat_eq before m

abbrev pub names_none : ℕ → Bool
names_none n = not (nat_eq n 0 || (nat_eq n 1 || nat_eq n 2))

abbrev pub is_out : (n : ℕ) → State → Bool
is_out n s = if is_same s then names_none n else is_spelt n (pointer_number s)

-- whether a state, and a result, is the one that is sought
abbrev pub is_side : (v : ℕ → Bool) → Side → State → Bool
is_side v (side.Named s) x = same_state s x
is_side v (side.Numbered bits) x = is_spelt (number v bits.now) (state_number x)
is_side v (side.From bits count) x = is_from count (number v bits.now) (state_number x)
is_side v (side.Param bits) x = is_spelt (number v bits.now) (param_number x)
is_side v (side.Pointer bits) x = is_spelt (number v bits.now) (pointer_number x)
is_side v (side.Out bits) x = is_out (number v bits.now) x

abbrev pub is_outcome : (v : ℕ → Bool) → Outcome → Gives → Bool
is_outcome v outcome.Nothing g = same_gives gives.Nothing g
is_outcome v (outcome.Zero z) gives.Nothing = false
is_outcome v (outcome.Zero z) gives.Zero = v z.at
is_outcome v (outcome.Zero z) gives.NotZero = not (v z.at)

-- whether a row is the one that is sought
abbrev pub is_sought : (v : ℕ → Bool) → Sought → Row → Bool
is_sought v q r =
    nat_eq (number v q.given.now) r.given && (is_side v q.before r.before && (is_outcome v q.result r.result && is_side v q.after r.after))

-- The result that is sought, and the states that the numbers of a choice name: none where a number names none.
abbrev pub gives_of : (v : ℕ → Bool) → Outcome → Gives
gives_of v outcome.Nothing = gives.Nothing
gives_of v (outcome.Zero z) = if v z.at then gives.Zero else gives.NotZero

abbrev pub is_some_state : Option State → State → Bool
is_some_state None x = false
is_some_state (Some s) x = same_state s x

abbrev pub pointer_state : ℕ → Option State
pointer_state zero = Some state.Null
pointer_state (suc zero) = Some state.Fresh
pointer_state (suc (suc zero)) = Some state.Other
pointer_state (suc (suc (suc n))) = None

-- all gates are gates of the net
abbrev pub IsSideBelow : List Node → Side → Type 0
IsSideBelow ns (side.Named s) = Unit {0}
IsSideBelow ns (side.Numbered bits) = top bits.now ≤ length ns
IsSideBelow ns (side.From bits count) = top bits.now ≤ length ns
IsSideBelow ns (side.Param bits) = top bits.now ≤ length ns
IsSideBelow ns (side.Pointer bits) = top bits.now ≤ length ns
IsSideBelow ns (side.Out bits) = top bits.now ≤ length ns

abbrev pub IsOutcomeBelow : List Node → Outcome → Type 0
IsOutcomeBelow ns outcome.Nothing = Unit {0}
IsOutcomeBelow ns (outcome.Zero z) = z.at < length ns

pub record IsSoughtBelow (ns : List Node) (q : Sought) : Type 0 where
  pub given : top q.given.now ≤ length ns
  pub before : IsSideBelow ns q.before
  pub result : IsOutcomeBelow ns q.result
  pub after : IsSideBelow ns q.after
