-- What each step does to what a pass stands for. A set of functions is a list; the newest stands first.
use Rattle.std.specs.Prelude.{◌≡◌, ℕ, ◌+◌, ◌≤◌, ◌==◌, Bool, true, false, ◌||◌, if◌then◌else◌, List, [], ◌∷◌, ◌++◌}
use Rattle.summary_db.specs.declared.knows.Knows.{Knows}

-- whether f is one of these
abbrev pub member : ℕ → List ℕ → Bool
member f [] = false
member f (g ∷ gs) = (f == g) || member f gs

-- these without f
abbrev pub without : ℕ → List ℕ → List ℕ
without f [] = []
without f (g ∷ gs) = if f == g then without f gs else g ∷ without f gs

-- these without the first f
abbrev pub less : ℕ → List ℕ → List ℕ
less f [] = []
less f (g ∷ gs) = if f == g then gs else g ∷ less f gs

module _ {T : Type 0} where
  -- a load of f's word, or an exchange that did not apply, found the word x
  abbrev pub looked : ℕ → ℕ → Knows T → Knows T
  looked f x v = record v { place = f; word = x; finds = v.finds + 1; seen = if x == 2 then f ∷ v.seen else v.seen }

  -- an exchange turned f's word from 0 to 1
  abbrev pub took : ℕ → Knows T → Knows T
  took f v = record v { place = f; word = 0; finds = v.finds + 1; claims = f ∷ v.claims }

  -- an exchange turned f's word from 1 to 2
  abbrev pub put : ℕ → Knows T → Knows T
  put f v = record v { place = f; word = 1; finds = v.finds + 1; claims = without f v.claims; done = f ∷ v.done; seen = f ∷ v.seen }

  -- the stop word was set, and f is abandoned
  abbrev pub left : ℕ → Knows T → Knows T
  left f v = record v { claims = without f v.claims; gone = f ∷ v.gone; stopped = true }

  -- a load of the stop word, which is the word n, found x
  abbrev pub heard : ℕ → ℕ → Knows T → Knows T
  heard n x v = record v { place = n; word = x; finds = v.finds + 1; stopped = v.stopped || (x == 1) }

  -- a pass of the same plan and work that stands for nothing yet
  abbrev pub fresh : List (List ℕ) → T → Knows T
  fresh rows work =
      record {
        rows = rows;
        work = work;
        jobs = [];
        claims = [];
        gone = [];
        done = [];
        seen = [];
        stopped = false;
        place = 0;
        word = 0;
        finds = 0;
      }

  -- a pass whose claim of the function that it looked at last begins
  abbrev pub opens : Knows T → Knows T
  opens v = record v { jobs = v.place ∷ v.jobs }

  -- the job of that claim, which has seen what its pass has
  abbrev pub starts : Knows T → Knows T
  starts v = record (fresh v.rows v.work) { seen = v.seen; place = v.place }

  -- all that both stand for; what was found last is the first one's
  abbrev pub both : Knows T → Knows T → Knows T
  both v w =
      record v {
        jobs = v.jobs ++ w.jobs;
        claims = v.claims ++ w.claims;
        gone = v.gone ++ w.gone;
        done = v.done ++ w.done;
        seen = v.seen ++ w.seen;
        stopped = v.stopped || w.stopped;
        finds = v.finds + w.finds;
      }

  -- all that a pass and its job stand for once the job has ended; what was found last is the job's
  abbrev pub ends : Knows T → Knows T → Knows T
  ends v w =
      record v {
        jobs = less w.place v.jobs;
        claims = v.claims ++ w.claims;
        gone = v.gone ++ w.gone;
        done = v.done ++ w.done;
        seen = v.seen ++ w.seen;
        stopped = v.stopped || w.stopped;
        place = w.place;
        word = w.word;
        finds = v.finds + w.finds;
      }

-- v with some words found since: it stands for the same, and may have seen more
pub record Looks {T : Type 0} (v w : Knows T) : Type 0 where
  pub rows : w.rows ≡ v.rows
  pub work : w.work ≡ v.work
  pub jobs : w.jobs ≡ v.jobs
  pub claims : w.claims ≡ v.claims
  pub gone : w.gone ≡ v.gone
  pub done : w.done ≡ v.done
  pub stopped : w.stopped ≡ v.stopped
  pub seen : (g : ℕ) → member g v.seen ≡ true → member g w.seen ≡ true
  pub finds : v.finds ≤ w.finds
