-- The copy takes the place of the list.
use Rattle.std.proofs.Common.{length, slice_index, subst, sym, ap, ◌∙◌, arith}
use Rattle.sat_pool.specs.Region.{reads, live, IsTable}
use Rattle.sat_pool.specs.Layout.{flat, blocks}
use Rattle.sat_pool.proofs.Blocks.{whole_of, view_of, length_of}
use Rattle.sat_pool.proofs.Compaction.{reads-moved, moved-apart}
use Rattle.sat_pool.proofs.pool.Pool.compact.Goals as goal

pub copy_live-requires-clause-room : goal.copy_live-requires-clause-room
copy_live-requires-clause-room c =
    let len = ap length c.as_slice.ensures.value ∙ length_of c.self.inside.list.items c.args.self.now c.self.view_is c.self.invariant in
    let room = ap (λ m. m.room) c.moved.view_is in
    let enough = c.requires.enough in
    omega (arith, len, room, enough)

pub copy_live-requires-clause-table : goal.copy_live-requires-clause-table
copy_live-requires-clause-table c =
    let len = ap length c.as_slice.ensures.value ∙ length_of c.self.inside.list.items c.args.self.now c.self.view_is c.self.invariant in
    ap (λ m. length m.places) c.moved.view_is ∙ c.requires.table ∙ sym len

pub invariant_of-self : goal.invariant_of-self
invariant_of-self c =
    whole_of _ (live c.args.self.now)
    (ap (λ v. v.items) c.replace.ensures.value ∙ c.copy_live.ensures.copied ∙ ap (λ l. flat (live (blocks l))) c.as_slice.ensures.value ∙ ap (λ bs. flat (live bs)) c.self.view_is)

pub returns-clause-live : goal.returns-clause-live
returns-clause-live c =
    view_of _ (live c.args.self.now)
    (ap (λ v. v.items) c.replace.ensures.value ∙ c.copy_live.ensures.copied ∙ ap (λ l. flat (live (blocks l))) c.as_slice.ensures.value ∙ ap (λ bs. flat (live bs)) c.self.view_is)

pub returns-clause-read : goal.returns-clause-read
returns-clause-read c q clause h =
    let is = view_of _ (live c.args.self.now)
    (ap (λ v. v.items) c.replace.ensures.value ∙ c.copy_live.ensures.copied ∙ ap (λ l. flat (live (blocks l))) c.as_slice.ensures.value ∙ ap (λ bs. flat (live bs)) c.self.view_is) in
    let places = c.copy_live.new.places.items in
    let table : IsTable c.args.self.now places = subst (λ bs. IsTable bs places) (ap blocks c.as_slice.ensures.value ∙ c.self.view_is) c.copy_live.ensures.noted in
    let found = reads-moved c.args.self.now q clause h in (
      found.0,
      ap (λ bs. reads bs (slice_index places q)) is ∙ ap (reads (live c.args.self.now)) (table.place q clause h) ∙ found.1,
    )

pub returns-clause-apart : goal.returns-clause-apart
returns-clause-apart c q r one other h k e =
    let places = c.copy_live.new.places.items in
    let table : IsTable c.args.self.now places = subst (λ bs. IsTable bs places) (ap blocks c.as_slice.ensures.value ∙ c.self.view_is) c.copy_live.ensures.noted in
    moved-apart c.args.self.now q r one other h k (sym (table.place q one h) ∙ e ∙ table.place r other k)
