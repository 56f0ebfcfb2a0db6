-- The core: a mark for each function of a plan, and the events that change it. A claim of f by a
-- worker applies exactly where f is free and all its kept callees are published; a publication of
-- f by a worker applies exactly where that worker has claimed f. Every other event changes nothing.

use Rattle.std.specs.Prelude.{◌≡◌, ℕ, ◌<◌, ◌==◌, Bool, true, false, ◌&&◌, if◌then◌else◌, List, [], ◌∷◌, ◌++◌, length, filter, replicate, slice_index_or, slice_set, Contains, ◌⊎◌}
use Rattle.std.specs.List.{list_all}
use Rattle.plan_core.specs.declared.mark.Mark.{Mark}
use Rattle.plan_core.specs.declared.mark.Mark.TheVariants.{Free, Claimed, Published}
use Rattle.plan_core.specs.Graph.{callees}

-- the mark of f; a function outside the plan counts as published, and no event applies to it
abbrev pub mark_of : List Mark → ℕ → Mark
mark_of marks f = slice_index_or marks f Published

abbrev pub is_free : Mark → Bool
is_free Free = true
is_free (Claimed w) = false
is_free Published = false

abbrev pub is_published : Mark → Bool
is_published Free = false
is_published (Claimed w) = false
is_published Published = true

abbrev pub is_claimed : Mark → Bool
is_claimed Free = false
is_claimed (Claimed w) = true
is_claimed Published = false

-- whether this worker has the claim
abbrev pub is_claimed_by : ℕ → Mark → Bool
is_claimed_by worker Free = false
is_claimed_by worker (Claimed w) = w == worker
is_claimed_by worker Published = false

-- every function is free
abbrev pub start : List (List ℕ) → List Mark
start rows = replicate (length rows) Free

-- whether all these functions are published
abbrev pub all_published : List Mark → List ℕ → Bool
all_published marks fs = list_all (λ g. is_published (mark_of marks g)) fs

-- whether f is free and all its callees are published
abbrev pub may_claim : List (List ℕ) → List Mark → ℕ → Bool
may_claim rows marks f = is_free (mark_of marks f) && all_published marks (callees rows f)

-- what a worker may try
pub data Event : Type 0 where
  Claim : (worker function : ℕ) → Event
  Publish : (worker function : ℕ) → Event

abbrev pub applies : List (List ℕ) → List Mark → Event → Bool
applies rows marks (Claim w f) = may_claim rows marks f
applies rows marks (Publish w f) = is_claimed_by w (mark_of marks f)

-- the marks once the event has applied
abbrev pub changed : List Mark → Event → List Mark
changed marks (Claim w f) = slice_set marks f (Claimed w)
changed marks (Publish w f) = slice_set marks f Published

abbrev pub after : List (List ℕ) → List Mark → Event → List Mark
after rows marks e = if applies rows marks e then changed marks e else marks

-- the marks after all these events
abbrev pub run : List (List ℕ) → List Mark → List Event → List Mark
run rows marks [] = marks
run rows marks (e ∷ es) = run rows (after rows marks e) es

-- those of the events that applied, in their order
abbrev pub applied : List (List ℕ) → List Mark → List Event → List Event
applied rows marks [] = []
applied rows marks (e ∷ es) =
    if applies rows marks e
    then e ∷ applied rows (after rows marks e) es
    else applied rows (after rows marks e) es

-- all callees of a function that is claimed or published are published
abbrev pub IsSound : List (List ℕ) → (ℕ → Mark) → Type 0
IsSound rows mark =
    (f g : ℕ) → is_free (mark f) ≡ false → Contains (callees rows f) g → is_published (mark g) ≡ true

-- f may be claimed, and no function before it may
pub record IsLeastClaimable (rows : List (List ℕ)) (marks : List Mark) (f : ℕ) : Type 0 where
  pub inside : f < length marks
  pub claimable : may_claim rows marks f ≡ true
  pub least : (g : ℕ) → g < f → may_claim rows marks g ≡ false

abbrev pub NoneIsClaimed : List Mark → Type 0
NoneIsClaimed marks = (f : ℕ) → is_claimed (mark_of marks f) ≡ false

abbrev pub SomeIsFree : List Mark → Type 0
SomeIsFree marks = (f : ℕ) × (is_free (mark_of marks f) ≡ true)

-- whether an event is at f
abbrev pub is_at : ℕ → Event → Bool
is_at f (Claim w g) = g == f
is_at f (Publish w g) = g == f

-- those of the events that are at f
abbrev pub events_at : ℕ → List Event → List Event
events_at f log = filter (is_at f) log

-- f was claimed, and published by the worker that claimed it
abbrev pub IsDone : ℕ → List Event → Type 0
IsDone f log = (w : ℕ) × (events_at f log ≡ Claim w f ∷ Publish w f ∷ [])

-- f was claimed at most once, and published at most once: by its owner, after its claim
abbrev pub IsOnce : ℕ → List Event → Type 0
IsOnce f log = (events_at f log ≡ []) ⊎ ((w : ℕ) × (events_at f log ≡ Claim w f ∷ [])) ⊎ IsDone f log

-- at each claim in the log the callees of the claimed function were published before
abbrev pub CalleesFirst : List (List ℕ) → List Event → Type 0
CalleesFirst rows log =
    (past rest : List Event) (w f g : ℕ) → log ≡ past ++ Claim w f ∷ rest → Contains (callees rows f) g → IsDone g past
