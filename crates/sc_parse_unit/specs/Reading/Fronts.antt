-- What stands at the front of the tokens of a declaration or a statement.
use Rattle.std.specs.Prelude.{Bool, true, false, not, ◌||◌, List, Option, Some, None, if◌then◌else◌}
use Rattle.sc_base.specs.declared.pos.NameId.{NameId}
use Rattle.sc_tree.specs.declared.token.Token.{Token}
use Rattle.sc_tree.specs.declared.token.Punct.{Punct}
use Rattle.sc_tree.specs.declared.token.Punct.TheVariants as sign
use Rattle.sc_tree.specs.declared.token.Reserved.{Reserved}
use Rattle.sc_tree.specs.declared.token.Reserved.TheVariants as key
use Rattle.sc_parse_front.specs.Front.{front, front_word, front_reserved, behind, is_left_bracket, is_colon}
use Rattle.sc_parse_unit.specs.declared.found.Keyword as code
use Rattle.sc_parse_unit.specs.declared.found.Keyword.TheVariants as word

abbrev pub is_dot : Option Punct → Bool
is_dot (Some sign.Dot) = true
is_dot _ = false

-- whether a designator begins there
abbrev pub begins_designator : Option Punct → Bool
begins_designator o = is_dot o || is_left_bracket o

abbrev pub is_no_designator : List Token → Bool
is_no_designator ts = not (begins_designator (front ts))

abbrev pub is_while : Option Reserved → Bool
is_while (Some key.While) = true
is_while _ = false

abbrev pub is_else : Option Reserved → Bool
is_else (Some key.Else) = true
is_else _ = false

-- the tokens behind a reserved word that the test takes
abbrev pub taking_word : (Option Reserved → Bool) → List Token → Option (List Token)
taking_word test ts = if test (front_reserved ts) then Some (behind ts) else None

-- What the reserved word at the front begins.
pub data Keyword : Type 0 where
  AnIf : Keyword
  AWhile : Keyword
  ADo : Keyword
  AFor : Keyword
  ASwitch : Keyword
  AGoto : Keyword
  ABreak : Keyword
  AContinue : Keyword
  AReturn : Keyword
  NoKeyword : Keyword

abbrev pub keyword : Option Reserved → Keyword
keyword (Some key.If) = AnIf
keyword (Some key.While) = AWhile
keyword (Some key.Do) = ADo
keyword (Some key.For) = AFor
keyword (Some key.Switch) = ASwitch
keyword (Some key.Goto) = AGoto
keyword (Some key.Break) = ABreak
keyword (Some key.Continue) = AContinue
keyword (Some key.Return) = AReturn
keyword _ = NoKeyword

-- what the reserved word at the front begins, as the code has it
abbrev pub keyword_of : code.Keyword → Keyword
keyword_of word.If = AnIf
keyword_of word.While = AWhile
keyword_of word.Do = ADo
keyword_of word.For = AFor
keyword_of word.Switch = ASwitch
keyword_of word.Goto = AGoto
keyword_of word.Break = ABreak
keyword_of word.Continue = AContinue
keyword_of word.Return = AReturn
keyword_of word.Other = NoKeyword

-- whether a label stands there: a word, be it a typedef name, and a colon
abbrev pub label_at : List Token → Option NameId
label_at ts = if is_colon (front (behind ts)) then front_word ts else None

abbrev pub is_label : Option NameId → Bool
is_label (Some w) = true
is_label None = false
