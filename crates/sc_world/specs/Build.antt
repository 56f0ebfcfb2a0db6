-- Steps that build something within limits: a step changes what is built and gives a value, or it passes a
-- limit, and then nothing more is built.
use Rattle.std.specs.Prelude.{ℕ, Bool, true, false, Result, Ok, Err}
use Rattle.sc_base.specs.declared.skip.LimitKind.{LimitKind}

abbrev pub Built : Type 0 → Type 0 → Type 0
Built S A = Result (A × S) LimitKind

abbrev pub Build : Type 0 → Type 0 → Type 0
Build S A = S → Built S A

abbrev pub goes_on : {S A B : Type 0} → Built S A → (A → Build S B) → Built S B
goes_on (Ok (a, s)) f = f a s
goes_on (Err e) f = Err e

infixl 10 ◌>>=◌
abbrev pub ◌>>=◌ : {S A B : Type 0} → Build S A → (A → Build S B) → Build S B
◌>>=◌ m f s = goes_on (m s) f

abbrev pub done : {S A : Type 0} → A → Build S A
done a s = Ok (a, s)

abbrev pub refused : {S A : Type 0} → LimitKind → Build S A
refused e s = Err e
