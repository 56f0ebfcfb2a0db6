use Rattle.std.proofs.Common.{◌≡◌, false, [], ◌∷◌, ◌++◌, length, map, string_bytes, sym, ◌∙◌}
use Rattle.std.proofs.lemmas.List.{length-map}
use Rattle.sc_base.specs.Held.{is_named}
use Rattle.name_interner.proofs.Interned.{texts-push, all_different-push, slice_get-last, place_of-absent}
use Rattle.name_interner.proofs.Interner.intern.Goals as goal

absent : (c : goal.In_ok-at) → is_named c.args.text.now (map string_bytes c.self.inside.texts.keys) ≡ false
absent c = c.in_default.ensures

texts : (c : goal.In_ok-at) → map string_bytes c.append.new.texts.keys ≡ map string_bytes c.self.inside.texts.keys ++ c.args.text.now ∷ []
texts c = texts-push c.self.inside.texts.keys c.append.new.texts.keys c.in_ok-from_str.field-0 c.args.text.now c.in_ok-at.ensures.texts c.in_ok-from_str.ensures.ok

place : (c : goal.In_ok-at) → c.in_ok-at.at ≡ length (map string_bytes c.self.inside.texts.keys)
place c = c.in_ok-at.ensures.place ∙ sym (length-map c.self.inside.texts.keys string_bytes)

pub invariant_of-self-2 : goal.invariant_of-self-2
invariant_of-self-2 c = rw (texts c) (all_different-push (map string_bytes c.self.inside.texts.keys) c.args.text.now c.self.invariant (absent c))

pub returns-clause-place : goal.returns-clause-place
returns-clause-place c = rw (← c.self.view_is) (place c ∙ sym (place_of-absent c.args.text.now (map string_bytes c.self.inside.texts.keys) (absent c)))

pub returns-clause-stands : goal.returns-clause-stands
returns-clause-stands c = rw (texts c, place c) (slice_get-last (map string_bytes c.self.inside.texts.keys) c.args.text.now)

pub returns-clause-different : goal.returns-clause-different
returns-clause-different c = rw (texts c) (all_different-push (map string_bytes c.self.inside.texts.keys) c.args.text.now c.self.invariant (absent c))
