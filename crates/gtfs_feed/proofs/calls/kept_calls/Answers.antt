use Rattle.std.proofs.Common.{◌≡◌, ◌∙◌, ap, refl, length, arith}
use Rattle.std.proofs.lemmas.Result.{err_from_is_err_and}
use Rattle.csv.specs.Records.{fields_of}
use Rattle.move_model.specs.declared.refusal.FileKind.TheVariants as file_kind
use Rattle.tables.specs.Table.{header_of}
use Rattle.gtfs_feed.specs.Calls.{call_columns}
use Rattle.gtfs_feed.specs.KeptCalls.{rows_in}
use Rattle.gtfs_feed.proofs.Progress as progress
use Rattle.gtfs_feed.proofs.CallsTable as table
use Rattle.gtfs_feed.proofs.calls.kept_calls.Goals as goal

pub returns-in_err-advance-clause-refused : goal.returns-in_err-advance-clause-refused
returns-in_err-advance-clause-refused c =
    let columns : c.call_columns-columns.result ≡ call_columns (header_of c.args.bytes.now) =
    c.call_columns-columns.ensures ∙ ap call_columns (progress.header_is c.args.bytes.now c.in_ok-file.file c.in_ok-file.ensures.reads c.in_ok-file.ensures.begins.1) in
    let there = rw columns at c.in_default.ensures.0 in
    let exit = err_from_is_err_and c.from_residual-in_err-advance.result c.from_residual-in_err-advance.ensures.1 in
    rw (exit.1, exit.2) (progress.limit file_kind.StopTimes _ c.args.bytes.now _ c.rows.file _ c.rows.invariant.progress there c.in_err-advance.ensures.limit)

pub returns-in-Err-add_call-clause-refused : goal.returns-in-Err-add_call-clause-refused
returns-in-Err-add_call-clause-refused c =
    let columns : c.call_columns-columns.result ≡ call_columns (header_of c.args.bytes.now) =
    c.call_columns-columns.ensures ∙ ap call_columns (progress.header_is c.args.bytes.now c.in_ok-file.file c.in_ok-file.ensures.reads c.in_ok-file.ensures.begins.1) in
    let there = rw columns at c.in_default.ensures.0 in
    let read = rw c.if-branch.true at c.in_ok-advance.ensures.row in
    table.row_refused c.args.bytes.now (rows_in c.args.stops.now) c.args.table.now.names (length c.args.stops.now.stops) c.rows.file c.advance.new.self c.rows.kept.items c.call_columns-columns.result (fields_of c.advance.new.self.row) c.in-Err-add_call.stop _
    c.rows.invariant there read columns refl c.in-Err-add_call.ensures.broken c.refuse.ensures

pub rows-preserved : goal.rows-preserved
rows-preserved c =
    let columns : c.call_columns-columns.result ≡ call_columns (header_of c.args.bytes.now) =
    c.call_columns-columns.ensures ∙ ap call_columns (progress.header_is c.args.bytes.now c.in_ok-file.file c.in_ok-file.ensures.reads c.in_ok-file.ensures.begins.1) in
    let read = rw c.if-branch.true at c.in_ok-advance.ensures.row in
    let done = c.in_default-add_call.ensures in
    table.more c.args.bytes.now (rows_in c.args.stops.now) c.args.table.now.names (length c.args.stops.now.stops) c.rows.file c.advance.new.self c.rows.kept.items c.add_call.new.kept.items c.call_columns-columns.result (fields_of c.advance.new.self.row)
    c.rows.invariant read columns refl done.holds done.same done.kept done.calls

pub returns-clause-accepted : goal.returns-clause-accepted
returns-clause-accepted c =
    let columns : c.call_columns-columns.result ≡ call_columns (header_of c.args.bytes.now) =
    c.call_columns-columns.ensures ∙ ap call_columns (progress.header_is c.args.bytes.now c.in_ok-file.file c.in_ok-file.ensures.reads c.in_ok-file.ensures.begins.1) in
    let there = rw columns at c.in_default.ensures.0 in
    let end = rw c.if-branch.false at c.in_ok-advance.ensures.end in
    progress.accepted file_kind.StopTimes _ c.args.bytes.now _ c.rows.file c.rows.invariant.progress there end

pub returns-clause-calls : goal.returns-clause-calls
returns-clause-calls c =
    let end = rw c.if-branch.false at c.in_ok-advance.ensures.end in
    table.all c.args.bytes.now (rows_in c.args.stops.now) c.args.table.now.names (length c.args.stops.now.stops) c.rows.file c.rows.kept.items c.rows.invariant end

pub returns-clause-kept : goal.returns-clause-kept
returns-clause-kept c = table.stand c.args.bytes.now (rows_in c.args.stops.now) c.args.table.now.names (length c.args.stops.now.stops) c.rows.file c.rows.kept.items c.rows.invariant

pub returns-clause-long : goal.returns-clause-long
returns-clause-long c = c.rows.invariant.long ∙ c.requires.each

pub rows-init : goal.rows-init
rows-init c = table.begun c.args.bytes.now (rows_in c.args.stops.now) c.args.table.now.names (length c.args.stops.now.stops) c.in_ok-file.file c.in-Ok.kept.items
    c.in_ok-file.ensures.reads c.in_ok-file.ensures.begins (omega (arith, c.in-Ok.ensures.long, c.len.ensures, c.requires.each)) c.in-Ok.ensures.none
