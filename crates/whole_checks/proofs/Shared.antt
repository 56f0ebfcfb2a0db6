-- A typed program and its plan may be read by several threads at once: each part of them may, and so the whole. The
-- parts are shown one by one, since a search through the whole at once passes its limits.
use denote.Param.Send.{IsSync, sendable}
use Rattle.fsm_spec.proofs.list.List.TheSendSync as machines
use Rattle.fsm_spec.proofs.table.Returns.TheSendSync as returns
use Rattle.fsm_spec.specs.contracts.table.MachineSpec as machine
use Rattle.sc_base.proofs.boxed.Boxed.TheSendSync as boxed
use Rattle.sc_base.proofs.list.List.TheSendSync as list
use Rattle.sc_base.proofs.names.Names.TheSendSync as names_laws
use Rattle.sc_base.proofs.pos.NameId.TheSendSync as name_id
use Rattle.sc_base.proofs.pos.Pos.TheSendSync as pos
use Rattle.sc_base.proofs.skip.Skip.TheSendSync as skip
use Rattle.sc_base.specs.contracts.names.Names as names
use Rattle.sc_tree.proofs.ctype.CType.TheLaws.TheKnot as ctype
use Rattle.sc_tree.proofs.ctype.IntKind.TheSendSync as int_kind
use Rattle.sc_tree.proofs.ctype.OpaqueKind.TheSendSync as opaque_kind
use Rattle.sc_tree.proofs.ctype.Widths.TheSendSync as widths
use Rattle.sc_tree.proofs.expr.Place.TheSendSync as place
use Rattle.sc_tree.proofs.op.AssignOp.TheSendSync as assign_op
use Rattle.sc_tree.proofs.op.BinaryOp.TheSendSync as binary_op
use Rattle.sc_tree.proofs.op.Step.TheSendSync as step
use Rattle.sc_tree.proofs.op.UnaryOp.TheSendSync as unary_op
use Rattle.sc_typed.proofs.expr.What.TheLaws.TheKnot as knot
use Rattle.sc_typed.proofs.stmt.Declared.TheSendSync as declared
use Rattle.sc_typed.proofs.stmt.InitStep.TheSendSync as init_step
use Rattle.sc_typed.proofs.stmt.TStmt.TheLaws.TheKnot as stmts
use Rattle.sc_typed.specs.contracts.expr.TExpr as texpr
use Rattle.sc_typed.specs.contracts.program.Extent as extent
use Rattle.sc_typed.specs.contracts.program.FieldDef as field
use Rattle.sc_typed.specs.contracts.program.Function as fun
use Rattle.sc_typed.specs.contracts.program.Global as global
use Rattle.sc_typed.specs.contracts.program.Param as param
use Rattle.sc_typed.specs.contracts.program.Program as program
use Rattle.sc_typed.specs.contracts.program.StructDef as def
use Rattle.sc_typed.specs.contracts.program.TBody as tbody
use Rattle.sc_typed.specs.contracts.stmt.TDeclarator as tdecl
use Rattle.sc_typed.specs.contracts.stmt.TForStart as tfor
use Rattle.sc_typed.specs.contracts.stmt.TInit as tinit
use Rattle.sc_typed.specs.contracts.stmt.TInitItem as titem
use Rattle.sc_typed.specs.contracts.stmt.TStmt as tstmt
use Rattle.std.proofs.Crossing.{crosses}
use Rattle.std.proofs.MapsCrossing.{crosses as strings}
use Rattle.plan_core.specs.contracts.plan.Plan as plan
use Rattle.plan_core.specs.contracts.plan.Edge as edge

-- what may be lent to threads without more, and the boxes and lists of such
ruleset small = (sendable, crosses, boxed.the_sync, list.the_sync, name_id.the_sync, name_id.the_field_sync, pos.the_sync, pos.the_field_sync, int_kind.the_sync, opaque_kind.the_sync, place.the_sync, place.the_field_sync, assign_op.the_sync, binary_op.the_sync, unary_op.the_sync, step.the_sync, declared.the_sync, declared.the_field_sync, init_step.the_sync, init_step.the_field_sync)

expr_lent : IsSync (texpr.the_field).row
expr_lent = search (small, ctype.crosses, knot.crosses) depth 60 fits 20000

init_item_lent : IsSync (titem.the_field).row
init_item_lent = search (small, expr_lent) depth 60 fits 20000

init_lent : IsSync (tinit.the_field).row
init_lent = search (small, expr_lent, init_item_lent) depth 60 fits 20000

declarator_lent : IsSync (tdecl.the_field).row
declarator_lent = search (small, init_lent) depth 60 fits 20000

for_start_lent : IsSync (tfor.the_field).row
for_start_lent = search (small, declarator_lent, expr_lent) depth 60 fits 20000

stmt_lent : IsSync (tstmt.the_field).row
stmt_lent = search (small, declarator_lent, expr_lent, for_start_lent, stmts.crosses) depth 60 fits 20000

body_lent : IsSync (tbody.the_field).row
body_lent = search (small, skip.the_field_sync, stmt_lent) depth 60 fits 20000

param_lent : IsSync (param.the_field).row
param_lent = search (small, ctype.crosses) depth 60 fits 20000

function_lent : IsSync (fun.the_field).row
function_lent = search (small, param_lent, ctype.crosses, body_lent) depth 60 fits 20000

names_lent : IsSync (names.the_field).row
names_lent = search (small, names_laws.the_sync, strings) depth 60 fits 20000

extent_lent : IsSync (extent.the_field).row
extent_lent = search (small) depth 60 fits 20000

field_lent : IsSync (field.the_field).row
field_lent = search (small, ctype.crosses) depth 60 fits 20000

struct_lent : IsSync (def.the_field).row
struct_lent = search (small, extent_lent, field_lent) depth 60 fits 20000

global_lent : IsSync (global.the_field).row
global_lent = search (small, ctype.crosses) depth 60 fits 20000

machine_lent : IsSync (machine.the_field).row
machine_lent = search (small, machines.the_sync, returns.the_field_sync) depth 60 fits 20000

pub program_sync : IsSync program.the_row
program_sync = search (small, skip.the_sync, names_lent, struct_lent, global_lent, function_lent, machine_lent, widths.the_field_sync) depth 60 fits 20000

edge_lent : IsSync (edge.the_field).row
edge_lent = search small depth 60 fits 20000

pub plan_sync : IsSync plan.the_row
plan_sync = search (small, edge_lent) depth 60 fits 20000
