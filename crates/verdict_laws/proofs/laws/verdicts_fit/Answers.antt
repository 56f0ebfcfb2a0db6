-- By what the steps of a layout add.
use Rattle.std.proofs.Common.{◌≡◌, ℕ, List, Some, refl, sym, ap, subst, map, slice_get}
use Rattle.sc_typed.specs.declared.program.Program.{Program}
use Rattle.sc_typed.specs.declared.program.Function.{Function}
use Rattle.sc_typed.specs.declared.program.TBody.{TBody}
use Rattle.sc_typed.specs.declared.program.TBody.TheVariants as body
use Rattle.sum_rows.specs.declared.report.Verdict.{Verdict}
use Rattle.sc_world.specs.Programs.{types_of, own, structs_of, source, source_by}
use Rattle.sc_world.specs.Verdict.{verdict_of}
use Rattle.program_verdicts.specs.Verdicts.{texts, unless_skipped, verdict_by, verdict_given, verdict_in, kept_of}
use Rattle.verdict_laws.specs.Fits.{Fits, AreTypedParams, global_types}
use Rattle.verdict_laws.proofs.Fitting.{given_fits, function_fits}
use Rattle.verdict_laws.proofs.laws.verdicts_fit.Goals as goal

pub returns-clause-given : goal.returns-clause-given
returns-clause-given c s x q h typed = given_fits s x q h typed

pub returns-clause-of_function : goal.returns-clause-of_function
returns-clause-of_function c s x over typed = function_fits s x over typed

module _ (p : Program) (depth reach f : ℕ) (kept : List ℕ) (vs : List Verdict) (g : Function) where
  same_params : slice_get p.functions f ≡ Some g → (source p f kept vs depth reach).params ≡ types_of g.params
  unfolding source_by
  same_params e = ap (λ o. (own (structs_of p) o).params) e

  body_fits : slice_get p.functions f ≡ Some g → AreTypedParams (types_of g.params) → (b : TBody)
      → Fits p.widths (types_of g.params) (global_types p) (unless_skipped b (verdict_of (source p f kept vs depth reach) (texts p g)))
  unfolding source_by
  body_fits e typed (body.Skipped s) = tt
  body_fits e typed (body.Tree t) =
      subst (λ ps. Fits p.widths ps (global_types p) (verdict_of (source p f kept vs depth reach) (texts p g))) (same_params e)
      (function_fits (source p f kept vs depth reach) (texts p g) (λ y. refl) (subst AreTypedParams (sym (same_params e)) typed))

  given : slice_get p.functions f ≡ Some g → AreTypedParams (types_of g.params)
      → Fits p.widths (types_of g.params) (global_types p) (verdict_given p depth reach f kept vs)
  given e typed =
      subst (λ o. Fits p.widths (types_of g.params) (global_types p) (verdict_by p depth reach f kept vs o)) (sym e)
      (body_fits e typed g.body)

pub returns-clause-of_program : goal.returns-clause-of_program
returns-clause-of_program c p depth reach f g e typed =
    subst (Fits p.widths (types_of g.params) (global_types p)) (sym (c.verdicts_by_callees.ensures.made p depth reach f))
    (given p depth reach f (kept_of p f) (map (verdict_in p depth reach) (kept_of p f)) g e typed)
