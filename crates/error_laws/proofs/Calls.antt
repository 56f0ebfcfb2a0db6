-- What calls do.
use Rattle.std.proofs.Common.{◌≡◌, ℕ, ◌+◌, ◌<◌, ◌⊎◌, inl, inr, Bool, true, false, not, ◌&&◌, List, [], ◌∷◌, length, refl}
use Rattle.std.specs.Prelude.{Option, Some, None, nat_eq, if◌then◌else◌}
use Rattle.std.specs.List.{list_all}
use Rattle.sc_base.specs.declared.pos.Pos.{Pos}
use Rattle.sc_tree.specs.declared.expr.Place.{Place}
use Rattle.run_store.specs.declared.Flag.TheVariants as flag
use Rattle.run_store.specs.Concrete.{Cell, Number, Nothing}
use Rattle.sum_rows.specs.declared.report.What.TheVariants as what
use Rattle.sum_rows.specs.declared.row.Summary.{Summary}
use Rattle.sc_world.specs.Tree.{Ty, is_integer, is_pointer, int_bits, Exp}
use Rattle.sc_world.specs.Source.{Source, Effect, Operation, Try, Allocate, Release, Ends, Expect, Known, Unknown, called_name, sum_at}
use Rattle.sc_world.specs.Layout.{Layout, Occurrence, Placed, occurrence_at, same_pos, site_at, site_from}
use Rattle.sc_world.specs.Gather.{Site}
use Rattle.sc_world.specs.World.{Run, Env, bit_at, number_at, null, target_or_null}
use Rattle.sc_world.specs.Eval.{first_arg, fails, target_from, zero_of, goes_to, operation, locked, tried, try, mark_object, allocate, escape_all, unknown, known_by, act, call}
use Rattle.error_laws.proofs.Steps.{Whatever, Leads, chain, gives, stops, either, marks, tells, state_asked, state_set, reaches, fails_there}
use Rattle.error_laws.proofs.Known.{May, both_left, both_right, frees, escapes, knows}
use Rattle.error_laws.specs.Errors.{is_of_params, does_of_params, all_of_params}

-- a layout that has a location, or a function whose calls have nothing to do with a global
abbrev pub MayErr : Source → Layout → Type 0
MayErr s p = May p (all_of_params s p)

-- the call with that bracket is one of the text, or one that is not known
does_by : (b : Bool) (s : Source) (x y : Placed) → does_of_params s x.site.effect ≡ true → does_of_params s y.site.effect ≡ true
    → does_of_params s (if b then x else y).site.effect ≡ true
does_by true s x y h i = h
does_by false s x y h i = i

site_of_params : (s : Source) (q : Pos) (first : ℕ) (xs : List Site) → list_all (λ (x : Site). does_of_params s x.effect) xs ≡ true
    → does_of_params s (site_from q first xs).site.effect ≡ true
site_of_params s q first [] h = refl
site_of_params s q first (x ∷ xs) h =
    does_by (same_pos q x.bracket) s (record { site = x; first = first }) (site_from q (first + x.turns) xs) (both_left _ _ h) (site_of_params s q (first + x.turns) xs (both_right _ _ h))

pub may_do : (s : Source) (p : Layout) (q : Pos) → MayErr s p → May p (does_of_params s (site_at p q).site.effect)
may_do s p q (inl some) = inl some
may_do s p q (inr h) = inr (site_of_params s q 0 p.sites h)

module _ (env : Env) where
  abbrev Does : Run Cell → Type 0
  Does m = Leads env.layout Whatever m

  goes_there : (q : Pos) (y : Ty) (at : ℕ) (o : Option ℕ) → at < length env.layout.locations → Does (goes_to env q y at o)
  goes_there q y at None h = fails_there env q at h
  goes_there q y at (Some k) h = chain env.layout (state_set env at k) (λ _ _. gives env.layout {a = zero_of env y} tt)

  operates_on : (q : Pos) (y : Ty) (n : ℕ) (c : Cell) → Does (operation env q y n c)
  operates_on q y n c =
      chain env.layout (reaches env c)
      (λ at h. chain env.layout (marks env.layout at flag.Touched)
      (λ _ _. chain env.layout (state_asked env at) (λ k _. goes_there q y at (target_from env n k) h)))

  tries_by : (y : Ty) (a b at : ℕ) (can : Bool) → Does (tried env y a b at can)
  tries_by y a b at true = chain env.layout (state_set env at locked) (λ _ _. gives env.layout {a = Number (int_bits env.source.widths y) a} tt)
  tries_by y a b at false = gives env.layout {a = Number (int_bits env.source.widths y) b} tt

  tries : (y : Ty) (o : Occurrence) (a b : ℕ) (c : Cell) → Does (try env y o a b c)
  tries y o a b c =
      chain env.layout (reaches env c)
      (λ at _. chain env.layout (marks env.layout at flag.Touched)
      (λ _ _. chain env.layout (state_asked env at)
      (λ k _. tries_by y a b at (not (nat_eq k locked) && bit_at env.choice o.bit))))

  marks_object : (o : Option ℕ) → Leads env.layout Whatever (mark_object o)
  marks_object None = gives env.layout tt
  marks_object (Some at) = marks env.layout at flag.Allocated

  allocates : (o : Occurrence) → Does (allocate env o)
  allocates o =
      either env.layout (bit_at env.choice o.bit)
      (chain env.layout (marks_object o.object) (λ _ _. gives env.layout {a = target_or_null o.object} tt)) (gives env.layout {a = null} tt)

  escapes_all : (vs : List Cell) → Leads env.layout Whatever (escape_all env vs)
  escapes_all [] = gives env.layout tt
  escapes_all (v ∷ vs) = chain env.layout (escapes env v) (λ _ _. escapes_all vs)

  unknowns : (o : Occurrence) (y : Ty) (vs : List Cell) → Does (unknown env o y vs)
  unknowns o y vs =
      chain env.layout (escapes_all vs)
      (λ _ _. either env.layout (is_integer y)
      (gives env.layout {a = Number (int_bits env.source.widths y) (number_at env.choice o.bit (int_bits env.source.widths y))} tt)
      (either env.layout (is_pointer y)
      (either env.layout (bit_at env.choice o.bit)
      (chain env.layout (escapes env (target_or_null o.object)) (λ _ _. gives env.layout {a = target_or_null o.object} tt))
      (gives env.layout {a = null} tt))
      (gives env.layout {a = Nothing} tt)))

  knows_by : (q : Pos) (y : Ty) (o : Occurrence) (vs : List Cell) (sum : Option Summary) → May env.layout (is_of_params sum)
      → Does (known_by env q y o vs sum)
  knows_by q y o vs None may = unknowns o y vs
  knows_by q y o vs (Some sum) may = knows env (fails env q) (λ at h. fails_there env q at h) o y sum vs may

  acts : (q : Pos) (y : Ty) (o : Occurrence) (vs : List Cell) (e : Effect) → May env.layout (does_of_params env.source e) → Does (act env q y o vs e)
  acts q y o vs (Operation n) may = operates_on q y n (first_arg vs)
  acts q y o vs (Try a b) may = tries y o a b (first_arg vs)
  acts q y o vs (Allocate zeroed) may = allocates o
  acts q y o vs Release may = chain env.layout (frees env (first_arg vs)) (λ _ _. gives env.layout {a = Nothing} tt)
  acts q y o vs Ends may = stops env.layout
  acts q y o vs Expect may = gives env.layout {a = first_arg vs} tt
  acts q y o vs (Known k) may = knows_by q y o vs (sum_at env.source k) may
  acts q y o vs Unknown may = unknowns o y vs

  pub calls : (x : Place) (f : Exp) (y : Ty) (c : Placed) (vs : List Cell) → May env.layout (does_of_params env.source c.site.effect)
      → Does (call env x f y c vs)
  calls x f y c vs may =
      chain env.layout (tells env.layout x.first (what.Call (called_name f)))
      (λ _ _. acts x.first y (occurrence_at env.layout c env.turn) vs c.site.effect may)
