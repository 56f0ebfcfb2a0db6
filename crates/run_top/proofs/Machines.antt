-- The machine of an input is one that a file spells, or that of locks.
use Rattle.std.proofs.Common.{◌≡◌, ◌∙◌, ℕ, List, Option, refl, sym, subst}
use Rattle.fsm_spec.specs.declared.table.MachineSpec.{MachineSpec}
use Rattle.fsm_spec.specs.Table.{IsWhole}
use Rattle.fsm_spec.specs.Reading.{spelled, Machine}
use Rattle.fsm_spec.specs.Lock.{locks}
use Rattle.sc_world.specs.Programs.{machine_or_locks}
use Rattle.sc_input.specs.declared.input.Input.{Input}
use Rattle.sc_input.specs.Input.{Begins, Give, IsInput, without, with_machine, none, more}

-- a machine of a file is whole, and so is that of locks
abbrev pub AreWhole : Type 0
AreWhole = ((bytes : List ℕ) (machine : MachineSpec) → spelled bytes ≡ Machine machine → IsWhole machine) × IsWhole locks

begins_whole : (held : Option (List (List ℕ × List ℕ))) (machine : Option (List ℕ)) (input : Input) → AreWhole → Begins held machine input
    → IsWhole (machine_or_locks input.machine)
begins_whole held machine input laws (without i is) =
    let P : Input → Type 0 = λ j. IsWhole (machine_or_locks j.machine) in subst P (sym is) laws.1
begins_whole held machine input laws (with_machine name bytes found i fit spells is) =
    let P : Input → Type 0 = λ j. IsWhole (machine_or_locks j.machine) in subst P (sym is) (laws.0 bytes found spells)

stays : (held : Option (List (List ℕ × List ℕ))) (start : Input) (names : List (List ℕ)) (input : Input) → Give held start names input
    → input.machine ≡ start.machine
stays held start names input none = refl
stays held start names input (more name before added) = added.machine ∙ stays held start _ _ before

pub input_whole : (held : Option (List (List ℕ × List ℕ))) (machine : Option (List ℕ)) (names : List (List ℕ)) (input : Input) → AreWhole
    → IsInput held machine names input → IsWhole (machine_or_locks input.machine)
input_whole held machine names input laws is =
    let P : Option MachineSpec → Type 0 = λ m. IsWhole (machine_or_locks m) in
    subst P (sym (stays held is.start names input is.read)) (begins_whole held machine is.start laws is.begins)
