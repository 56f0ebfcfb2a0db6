-- What a walk over files leaves, whatever it makes on its way: the first walk wants nothing else.
use Rattle.std.specs.Prelude.{ℕ, Bool, true, None, List, [], ◌∷◌}
use Rattle.sc_base.specs.declared.pos.Pos.{Pos}
use Rattle.sc_base.specs.declared.pos.NameId.{NameId}
use Rattle.sc_tree.specs.declared.unit.Body.{Body}
use Rattle.sc_tree.specs.declared.unit.Body.TheVariants as body
use Rattle.sc_tree.specs.declared.unit.Unit as file
use Rattle.sc_tree.specs.declared.unit.FileDecl.TheVariants as file_decl
use Rattle.sc_tree.specs.declared.unit.Segment.{Segment}
use Rattle.sc_tree.specs.declared.unit.Segment.TheVariants as segment
use Rattle.sc_rules.specs.declared.walk.Walk.{Walk}
use Rattle.scopes.specs.Frames.{Frames}
use Rattle.sc_rules.specs.declared.walk.Tag.{Tag}
use Rattle.sc_rules.specs.Walks.{Check, ◌>>=◌, done}
use Rattle.sc_declare.specs.declared.functions.Parameter.{Parameter}
use Rattle.sc_files.specs.Functions.{finish_function}
use Rattle.sc_files.specs.Notes.{begin_file}
use Rattle.sc_typing.specs.Here.{Here}
use Rattle.plain_bodies.specs.Plain.{plain_statement}
use Rattle.sc_check.specs.Files.{function, file_declaration}

abbrev pub segment_left : Here → Segment → Walk → Walk
segment_left here (segment.Skipped s) w = w
segment_left here (segment.Function h b) w = (function here h b w).1
segment_left here (segment.Decl (file_decl.Empty at)) w = w
segment_left here (segment.Decl (file_decl.Full d)) w = (file_declaration here d [] w).1

abbrev pub segments_left : Here → List Segment → Walk → Walk
segments_left here [] w = w
segments_left here (s ∷ ss) w = segments_left here ss (segment_left here s w)

abbrev pub file_left : Here → List Segment → Walk → Walk
file_left here ss w = segments_left here ss (begin_file w).1

abbrev pub files_left : (heres : ℕ → Here) → List file.Unit → Walk → Walk
files_left heres [] w = w
files_left heres (x ∷ xs) w = files_left heres xs (file_left (heres x.file) x.segments w)

-- What is not looked at behind a function: its locals and its fault, and in its body what ends with the body.

abbrev pub unlocal : Walk → Walk
unlocal w = record w { locals = []; first = None }

-- a body that leaves nothing behind, where these are the tags
abbrev pub plain_body : Frames Tag → Body → Bool
plain_body tags (body.Skipped s) = true
plain_body tags (body.Tree s) = plain_statement tags s

-- the end of a function whose body is dropped
abbrev pub end_left : NameId → Pos → List Parameter → Check (Unit {0})
end_left name at ps = finish_function name at ps None None >>= λ f. done tt
