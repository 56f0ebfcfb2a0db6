-- What a call does, with and without the functions that try to lock.
use Rattle.std.proofs.Common.{◌≡◌, refl}
use Rattle.std.specs.Prelude.{Bool, true, false}
use Rattle.fsm_spec.specs.Table.{find_in}
use Rattle.sc_world.specs.Tree.{Ty, Exp, Exps, Function}
use Rattle.sc_world.specs.Source.{Source, effect, effect_or, or_else, operation_if, built_in, text_of, known_body}
use Rattle.machine_laws.specs.Tries.{IsNoTry}

-- the source, with functions that try to lock or without
abbrev pub with_tries : Source → Bool → Source
with_tries s b = record s { tries = b }

module _ (s : Source) where
  pub effect_same : (f : Exp) (es : Exps) (t : Ty) → IsNoTry s.names f
      → effect (with_tries s true) f es t ≡ effect (with_tries s false) f es t
  effect_same (Function n body u) es t h = λ i. effect_or
      (or_else (operation_if (find_in s.machine (text_of s n))) (or_else (h i) (built_in (text_of s n))))
      (known_body s body es t)
  effect_same _ es t h = refl
