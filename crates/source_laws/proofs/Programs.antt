-- A function of a program that is read as one of an earlier program is has the same verdict, whatever the verdicts of its
-- kept callees are.
use Rattle.std.proofs.Common.{◌≡◌, ℕ, ◌≤◌, List, length, map, refl, sym, ◌∙◌, arith}
use Rattle.std.proofs.lemmas.List.{length-map}
use Rattle.std.specs.Prelude.{Option, Some, None, slice_get}
use Rattle.sum_rows.specs.declared.report.Verdict.{Verdict}
use Rattle.sc_typed.specs.declared.program.Program.{Program}
use Rattle.sc_typed.specs.declared.program.Function.{Function}
use Rattle.sc_world.specs.Source.{Source}
use Rattle.sc_world.specs.Layout.{Layout}
use Rattle.sc_world.specs.Paths.{Texts}
use Rattle.sc_world.specs.Programs.{source, source_by, own, struct, signature, summary, machine_or_locks, is_of_locks}
use Rattle.sc_world.specs.View.{type}
use Rattle.sc_world.specs.Verdict.{verdict_of}
use Rattle.program_verdicts.specs.Verdicts.{verdict_by, verdict_given, names_of, texts, unless_skipped, no_verdict, kept_of}
use Rattle.source_laws.specs.Named.{Tables, with_tables, SignaturesAgree, texts_with, ReadsBelow, NamesBelow, NamesBelowIf, IsReadAlike}
use Rattle.source_laws.proofs.Judged.{AreLaid, verdict_same}

-- the verdict of a function that is there, where this is read and these are the texts
abbrev judged : Source → (Function → Layout → Texts) → Option Function → Verdict
judged s x None = no_verdict
judged s x (Some g) = unless_skipped g.body (verdict_of s (x g))

by_judged : (p : Program) (depth reach f : ℕ) (kept : List ℕ) (vs : List Verdict) (g : Option Function)
    → verdict_by p depth reach f kept vs g ≡ judged (source p f kept vs depth reach) (texts p) g
by_judged p depth reach f kept vs None = refl
by_judged p depth reach f kept vs (Some g) = refl

abbrev tables : Program → Tables
tables p = record { names = p.names; functions = map signature p.functions }

module _ (laid : AreLaid) (earlier later : Program) (g f depth reach : ℕ) (vs : List Verdict) (alike : IsReadAlike earlier later g f)
    (few : length vs ≤ length (kept_of earlier g)) where
  -- what is read of the earlier function, and with the tables of the later program
  abbrev read : Source
  read = source earlier g (kept_of earlier g) vs depth reach

  abbrev spelling : List (List ℕ) → Function → Layout → Texts
  spelling names h = texts_with (names_of h.params) (map (λ x. x.name) earlier.globals) (names_of h.locals) names

  moved : judged (source later f (kept_of later f) vs depth reach) (texts later) (slice_get later.functions f)
      ≡ judged (with_tables read (tables later)) (spelling later.names) (slice_get earlier.functions g)
  unfolding source_by
  moved = λ i. judged
      (record {
        widths = alike.widths i;
        names = later.names;
        structs = map struct (alike.structs i);
        globals = map (λ x. type x.ctype) (alike.globals i);
        functions = map signature later.functions;
        params = (own (map struct (alike.structs i)) (alike.function i)).params;
        result = (own (map struct (alike.structs i)) (alike.function i)).result;
        locals = (own (map struct (alike.structs i)) (alike.function i)).locals;
        body = (own (map struct (alike.structs i)) (alike.function i)).body;
        kept = alike.kept i;
        sums = map summary vs;
        depth = depth;
        reach = reach;
        machine = machine_or_locks (alike.machine i);
        tries = is_of_locks (alike.machine i);
      })
      (λ h. texts_with (names_of h.params) (map (λ x. x.name) (alike.globals i)) (names_of h.locals) later.names)
      (alike.function i)

  -- the source of a function that is there
  abbrev of_function : Option Function → Source
  of_function o =
      record read {
        params = (own (map struct earlier.structs) o).params;
        result = (own (map struct earlier.structs) o).result;
        locals = (own (map struct earlier.structs) o).locals;
        body = (own (map struct earlier.structs) o).body;
      }

  reads_below : (h : Function) → NamesBelow (length earlier.names) earlier h
      → ReadsBelow (length earlier.names) (of_function (Some h)) (names_of h.params) (map (λ x. x.name) earlier.globals) (names_of h.locals)
  unfolding source_by
  reads_below h below = record {
    some = below.some;
    calls = below.calls;
    members = below.members;
    params_below = below.params_below;
    globals_below = below.globals_below;
    locals_below = below.locals_below;
  }

  agree : (o : Option Function) → SignaturesAgree (tables earlier) (tables later) (of_function o)
  unfolding source_by
  agree o = record {
    same = λ n kept. sym (alike.signatures n kept);
    sums = let many : length (map summary vs) ≡ length vs = length-map vs summary in omega (arith, many, few);
  }

  renamed : (o : Option Function) → NamesBelowIf (length earlier.names) earlier o
      → judged (with_tables (of_function o) (tables later)) (spelling later.names) o
      ≡ judged (with_tables (of_function o) (tables earlier)) (spelling earlier.names) o
  renamed None below = refl
  renamed (Some h) below = λ i. unless_skipped h.body
      (sym (verdict_same laid (tables earlier) (tables later) alike.front (of_function (Some h)) (agree (Some h))
      (names_of h.params) (map (λ x. x.name) earlier.globals) (names_of h.locals) (reads_below h below)) i)

  back : judged (with_tables (of_function (slice_get earlier.functions g)) (tables later)) (spelling later.names) (slice_get earlier.functions g)
      ≡ judged (with_tables read (tables later)) (spelling later.names) (slice_get earlier.functions g)
  unfolding source_by
  back = refl

  here : judged (with_tables (of_function (slice_get earlier.functions g)) (tables earlier)) (spelling earlier.names) (slice_get earlier.functions g)
      ≡ judged read (texts earlier) (slice_get earlier.functions g)
  unfolding source_by
  here = refl

  pub given_same : verdict_given later depth reach f (kept_of later f) vs ≡ verdict_given earlier depth reach g (kept_of earlier g) vs
  given_same =
      by_judged later depth reach f (kept_of later f) vs (slice_get later.functions f)
      ∙ (moved
      ∙ (sym back
      ∙ (renamed (slice_get earlier.functions g) alike.below
      ∙ (here
      ∙ sym (by_judged earlier depth reach g (kept_of earlier g) vs (slice_get earlier.functions g))))))
