-- Storage words (C11 6.7.1, 6.7.4).
use Rattle.std.specs.Prelude.{Bool, true, false, List}
use Rattle.std.specs.List.{list_any}
use Rattle.sc_tree.specs.declared.expr.Storage.{Storage}
use Rattle.sc_tree.specs.declared.expr.Storage.TheVariants as storage

abbrev pub is_typedef : Storage → Bool
is_typedef storage.Typedef = true
is_typedef _ = false

abbrev pub is_extern : Storage → Bool
is_extern storage.Extern = true
is_extern _ = false

abbrev pub is_static : Storage → Bool
is_static storage.Static = true
is_static _ = false

-- a function is local to its file where one of its declarations there has `static` or `inline`
abbrev pub makes_local : Storage → Bool
makes_local storage.Static = true
makes_local storage.Inline = true
makes_local _ = false

abbrev pub has_typedef : List Storage → Bool
has_typedef = list_any is_typedef

abbrev pub has_extern : List Storage → Bool
has_extern = list_any is_extern

abbrev pub has_static : List Storage → Bool
has_static = list_any is_static

abbrev pub has_local : List Storage → Bool
has_local = list_any makes_local
