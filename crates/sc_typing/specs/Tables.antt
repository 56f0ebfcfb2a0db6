-- What the tables of a file stand for.
use Rattle.std.specs.Prelude.{None, false, slice_index_or}
use Rattle.sc_typing.specs.declared.tables.Tables.{Tables}
use Rattle.sc_typing.specs.Here.{Here}

-- each list goes by the numbers of names, and behind its end there is nothing
unfoldable pub here_of : Tables → Here
here_of t =
    record {
      widths = t.widths;
      file = t.file;
      builtin = λ n. slice_index_or t.builtins.now n None;
      body = λ n. slice_index_or t.bodies.now n None;
      is_local = λ n. slice_index_or t.locals.now n false;
      settled = t.settled;
      global_type = λ n. slice_index_or t.globals.now n None;
    }
