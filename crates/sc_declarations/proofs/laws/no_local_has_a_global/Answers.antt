use Rattle.sc_declarations.proofs.Kept.{local_kept}
use Rattle.sc_declarations.proofs.laws.no_local_has_a_global.Goals as goal

pub returns : goal.returns
returns c = λ here words name at x t.
    local_kept here (record {
      expressions = c.expressions_keep_globals.ensures here;
      single = c.one_value_keeps_globals.ensures here.widths;
      braces = c.braces_keep_globals.ensures here.widths;
      locals = c.locals_keep_globals.ensures here.widths;
      lengthening = c.lengthening_keeps_globals.ensures here.widths;
    }) words name at x t
