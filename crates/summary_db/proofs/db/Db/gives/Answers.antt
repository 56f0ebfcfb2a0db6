use Rattle.std.proofs.Common.{arith, sym, ◌∙◌}
use Rattle.summary_db.proofs.Laying.{read_map, gives_listed}
use Rattle.summary_db.proofs.db.Db.gives.Goals as goal

pub returns : goal.returns
returns g c =
    let d = c.args.self.now in
    let ok = d.lay.gives.ok.0 in let n = d.listed.givers in let low = c.requires in
    c.as_slice.ensures.value
    ∙ (sym (read_map (λ row. row.items) d.lay.gives.items c.args.function c.index.result.now (omega arith) c.index.ensures)
    ∙ gives_listed d.rows d.lay c.args.function d.listed c.requires)
