-- What holds of what a step builds, where it builds it.
use Rattle.std.specs.Prelude.{Ok, Err}
use Rattle.sc_world.specs.Build.{Built, Build, goes_on}

-- what is built, if it is, is such
abbrev pub Post : {S A : Type 0} → (A → S → Type 0) → Built S A → Type 0
Post Q (Ok (a, s)) = Q a s
Post Q (Err e) = Unit {0}

pub chained : {S A B : Type 0} (Q : A → S → Type 0) (R : B → S → Type 0) (m : Built S A) (f : A → Build S B) → Post Q m
    → ((a : A) (s : S) → Q a s → Post R (f a s)) → Post R (goes_on m f)
chained Q R (Ok (a, s)) f h k = k a s h
chained Q R (Err e) f h k = tt

pub weaker : {S A : Type 0} (Q R : A → S → Type 0) (m : Built S A) → Post Q m → ((a : A) (s : S) → Q a s → R a s) → Post R m
weaker Q R (Ok (a, s)) h k = k a s h
weaker Q R (Err e) h k = tt

pub both : {S A : Type 0} (Q R : A → S → Type 0) (m : Built S A) → Post Q m → Post R m → Post (λ a s. Q a s × R a s) m
both Q R (Ok (a, s)) h k = (h, k)
both Q R (Err e) h k = tt
