-- A typed program has the machine of states that was given, and so its machine is whole where that one is.
use Rattle.std.proofs.Common.{◌≡◌, ℕ, Bool, true, false, [], length, Option, Some, None, refl, subst, sym}
use Rattle.std.specs.Prelude.{if◌then◌else◌, List, IfSome}
use Rattle.fsm_spec.specs.declared.table.MachineSpec.{MachineSpec}
use Rattle.fsm_spec.specs.Lock.{locks}
use Rattle.fsm_spec.specs.Table.{IsWhole}
use Rattle.sc_typed.specs.declared.program.Program.{Program}
use Rattle.sc_rules.specs.declared.walk.Walk.{Walk}
use Rattle.sc_program.specs.declared.bodies.Bodied.{Bodied}
use Rattle.sc_program.specs.Bodies.{first_clash, is_too_many}
use Rattle.sc_check.specs.Typed.{Sources, Answer, Duplicate, TooMany, Typed, answer_unless, first_walk, bodies_of, program_of, second_walk, typed}
use Rattle.sc_world.specs.Programs.{machine_or_locks}
use Rattle.fn_analysis.specs.Analysis.{HasWholeMachine}

whole_or_locks : (machine : Option MachineSpec) → IsWhole locks → IfSome machine IsWhole → IsWhole (machine_or_locks machine)
whole_or_locks None lock given = lock
whole_or_locks (Some m) lock given = given

module _ (s : Sources) where
  -- the typed program, if there is one, has the machine that was given
  abbrev HasMachine : Answer → Type 0
  HasMachine (Duplicate name) = Unit {0}
  HasMachine (TooMany functions) = Unit {0}
  HasMachine (Typed p) = p.machine ≡ s.machine

  has_unless : (clash : Option ℕ) (v : Walk) (bodies : List Bodied) → HasMachine (answer_unless clash s v bodies)
  has_unless (Some name) v bodies = tt
  has_unless None v bodies = many (is_too_many (length bodies))
    where
      many : (b : Bool) → HasMachine (if b then TooMany (length bodies) else Typed (program_of s (second_walk s v bodies)))
      many true = tt
      many false = refl

  pub whole_if_given : (p : Program) → typed s ≡ Typed p → IsWhole locks → IfSome s.machine IsWhole → HasWholeMachine p
  whole_if_given p e lock given =
      let P : Option MachineSpec → Type 0 = λ m. IsWhole (machine_or_locks m) in
      let stays : p.machine ≡ s.machine =
      subst HasMachine e
      (has_unless (first_clash [] (bodies_of s (first_walk s).local_functions s.units)) (first_walk s)
      (bodies_of s (first_walk s).local_functions s.units)) in
      subst P (sym stays) (whole_or_locks s.machine lock given)
