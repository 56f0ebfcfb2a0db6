-- What a step of a run keeps.
use Rattle.sc_world.specs.World.{World, Run}

-- from a world that has it, the step leads to a world that has it, whatever the step gives and however it ends
abbrev pub Keeps : {A : Type 0} → (World → Type 0) → Run A → Type 0
Keeps P m = (w : World) → P w → P (m w).1
