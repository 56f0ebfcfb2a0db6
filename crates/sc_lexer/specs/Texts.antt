-- What is known of the text of a piece: that of a word is made of the bytes of words.
use Rattle.std.specs.Prelude.{◌≡◌, ℕ, List, true}
use Rattle.std.specs.List.{list_all}
use Rattle.sc_tree.specs.declared.piece.Form.{Form}
use Rattle.sc_tree.specs.declared.piece.Form.TheVariants as form
use Rattle.sc_tree.specs.Bytes.{is_word_byte}

abbrev pub HasText : Form → List ℕ → Type 0
HasText form.Blank text = Unit {0}
HasText form.Word text = list_all is_word_byte text ≡ true
HasText (form.Known k) text = Unit {0}
