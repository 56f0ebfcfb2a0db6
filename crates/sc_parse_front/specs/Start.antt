-- What a piece of specifiers is to be, by the token that it begins with (C11 6.7): a storage word, a word of
-- a type, a struct, union or enum, or a typedef name where no type stands before it.
use Rattle.std.specs.Prelude.{Bool, true, false, List, Option, Some, None, if◌then◌else◌}
use Rattle.sc_base.specs.declared.pos.NameId.{NameId}
use Rattle.sc_tree.specs.declared.token.Token.{Token}
use Rattle.sc_tree.specs.declared.token.Reserved.{Reserved}
use Rattle.sc_tree.specs.declared.expr.Storage.{Storage}
use Rattle.sc_tree.specs.declared.grammar.TypeWord.{TypeWord}
use Rattle.sc_tree.specs.declared.grammar.SoFar.{SoFar}
use Rattle.sc_tree.specs.declared.grammar.SoFar.TheVariants.{Untyped}
use Rattle.sc_tree.specs.Tokens.{is_type}
use Rattle.sc_tree.specs.TypeWords.{storage_word, type_word}
use Rattle.sc_tree.specs.Grammar.{record_word}
use Rattle.sc_parse_front.specs.declared.start.Start as code
use Rattle.sc_parse_front.specs.declared.start.Start.TheVariants as begun
use Rattle.sc_parse_front.specs.Front.{front_word, front_reserved, is_enum}

pub data Start : Type 0 where
  AStorage : Storage → Start
  AWord : TypeWord → Start
  ARecord : Bool → Start
  AnEnum : Start
  AName : NameId → Start
  NoStart : Start

abbrev pub enum_start : Bool → Start
enum_start true = AnEnum
enum_start false = NoStart

abbrev pub record_start : Option Bool → Start → Start
record_start (Some u) other = ARecord u
record_start None other = other

abbrev pub word_start : Option TypeWord → Start → Start
word_start (Some w) other = AWord w
word_start None other = other

abbrev pub storage_start : Option Storage → Start → Start
storage_start (Some s) other = AStorage s
storage_start None other = other

abbrev pub reserved_start : Option Reserved → Start → Start
reserved_start None other = other
reserved_start (Some w) other = storage_start (storage_word w) (word_start (type_word w) (record_start (record_word w) (enum_start (is_enum (Some w)))))

-- a typedef name is one where no type stands before it
abbrev pub name_start : List NameId → SoFar → Option NameId → Start
name_start types Untyped (Some w) = if is_type types w then AName w else NoStart
name_start types _ _ = NoStart

abbrev pub start : List NameId → SoFar → List Token → Start
start types so ts = reserved_start (front_reserved ts) (name_start types so (front_word ts))

-- what a piece is to be, as the code has it
abbrev pub start_of : Option code.Start → Start
start_of (Some (begun.Storage s)) = AStorage s
start_of (Some (begun.Word w)) = AWord w
start_of (Some (begun.Record u)) = ARecord u
start_of (Some begun.Enum) = AnEnum
start_of (Some (begun.Name w)) = AName w
start_of None = NoStart
