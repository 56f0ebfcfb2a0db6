-- What a machine says of a function, of an operation and a state, and of an operation and any state; and how
-- many bits a state takes.
use Rattle.std.specs.Prelude.{◌≡◌, ℕ, ◌-◌, ◌<◌, ◌≤◌, ◌==◌, Bool, true, false, ◌&&◌, nat_lt, nat_le, List, [], ◌∷◌, length, Option, Some, None, if◌then◌else◌, slice_get, position, bytes_eq}
use Rattle.std.specs.List.{list_all}
use Rattle.fsm_spec.specs.declared.table.MachineSpec.{MachineSpec}
use Rattle.fsm_spec.specs.declared.table.Operation.{Operation}
use Rattle.fsm_spec.specs.declared.table.Returns.{Returns}
use Rattle.fsm_spec.specs.declared.table.Returns.TheVariants.{Nothing, Zero}

-- the number of the operation with this function, counted from 0; none where no operation has it
abbrev pub find_in : MachineSpec → List ℕ → Option ℕ
find_in machine function = position (λ o. bytes_eq o.function function) machine.operations

abbrev pub targets_of : Option Operation → List (Option ℕ)
targets_of None = []
targets_of (Some o) = o.targets

abbrev pub joined : Option (Option ℕ) → Option ℕ
joined None = None
joined (Some target) = target

abbrev pub is_zero : Returns → Bool
is_zero Zero = true
is_zero Nothing = false

-- whether an operation's function returns an int 0
abbrev pub returns_zero : Option Operation → Bool
returns_zero None = false
returns_zero (Some o) = is_zero o.returns

-- the targets of an operation, one for each state: the number of a state, or none where it is an error
abbrev pub targets_at : MachineSpec → ℕ → List (Option ℕ)
targets_at machine op = targets_of (slice_get machine.operations op)

-- the state to which an operation leads from a state; none where it is an error there
abbrev pub target_of : MachineSpec → ℕ → ℕ → Option ℕ
target_of machine op state = joined (slice_get (targets_at machine op) state)

-- the first target that is one, in the order of the states
abbrev pub first_target : List (Option ℕ) → Option ℕ
first_target [] = None
first_target (Some target ∷ targets) = Some target
first_target (None ∷ targets) = first_target targets

-- the state to which an operation leads where the state is not known; none where it is an error in each
abbrev pub on_any : MachineSpec → ℕ → Option ℕ
on_any machine op = first_target (targets_at machine op)

-- how many bits tell which of k states it is
abbrev pub bits_of_states : ℕ → ℕ
bits_of_states k = if nat_le k 2 then 1 else (if nat_le k 4 then 2 else 3)

-- the state that a number of those bits names: the number n names state n, or the last of k states
abbrev pub state_of_number : ℕ → ℕ → ℕ
state_of_number k n = if nat_lt n k then n else (k - 1)

-- a target is an error, or one of k states
abbrev pub is_target : ℕ → Option ℕ → Bool
is_target k None = true
is_target k (Some state) = nat_lt state k

-- an operation has a target for each of k states
abbrev pub has_targets : ℕ → Operation → Bool
has_targets k o = (length o.targets == k) && list_all (is_target k) o.targets

-- what each machine of a file has: two to eight states; 1 to 64 operations, each with a target for each state;
-- and each target is an error, or one of the states
pub record IsWhole (machine : MachineSpec) : Type 0 where
  pub least_states : 2 ≤ length machine.states
  pub most_states : length machine.states ≤ 8
  pub least_operations : 1 ≤ length machine.operations
  pub most_operations : length machine.operations ≤ 64
  pub targets : list_all (has_targets (length machine.states)) machine.operations ≡ true
  pub in_range : (op state target : ℕ) → target_of machine op state ≡ Some target → target < length machine.states
  pub any_in_range : (op target : ℕ) → on_any machine op ≡ Some target → target < length machine.states
