use Rattle.std.proofs.Common.{◌≡◌, ◌∙◌, ap, refl}
use Rattle.std.proofs.lemmas.Result.{err_from_is_err_and}
use Rattle.csv.specs.Records.{fields_of}
use Rattle.move_model.specs.declared.refusal.FileKind.TheVariants as file_kind
use Rattle.tables.specs.Table.{header_of, rows_of}
use Rattle.gtfs_feed.specs.Kept.{IsStopTable}
use Rattle.gtfs_feed.specs.StopTables.{IsStopTableOf}
use Rattle.gtfs_feed.specs.Stops.{stop_columns}
use Rattle.gtfs_feed.proofs.Progress as progress
use Rattle.gtfs_feed.proofs.StopsTable as table
use Rattle.gtfs_feed.proofs.stops.read_stops.Goals as goal

pub rows-init : goal.rows-init
rows-init c = table.begun c.args.bytes.now c.in_ok-file.file _ c.in_ok-file.ensures.reads c.in_ok-file.ensures.begins c.new.ensures c.new-2.ensures c.new-3.ensures

pub returns-in_err-advance-clause-refused : goal.returns-in_err-advance-clause-refused
returns-in_err-advance-clause-refused c =
    let columns : c.stop_columns-columns.result ≡ stop_columns (header_of c.args.bytes.now) =
    c.stop_columns-columns.ensures ∙ ap stop_columns (progress.header_is c.args.bytes.now c.in_ok-file.file c.in_ok-file.ensures.reads c.in_ok-file.ensures.begins.1) in
    let there = rw columns at c.in_default.ensures.0 in
    let exit = err_from_is_err_and c.from_residual-in_err-advance.result c.from_residual-in_err-advance.ensures.1 in
    rw (exit.1, exit.2) (table.of_rows c.args.bytes.now _ (progress.limit file_kind.Stops _ c.args.bytes.now _ c.rows.file _ c.rows.invariant.progress there c.in_err-advance.ensures.limit))

pub returns-in-Err-add-clause-refused : goal.returns-in-Err-add-clause-refused
returns-in-Err-add-clause-refused c =
    let columns : c.stop_columns-columns.result ≡ stop_columns (header_of c.args.bytes.now) =
    c.stop_columns-columns.ensures ∙ ap stop_columns (progress.header_is c.args.bytes.now c.in_ok-file.file c.in_ok-file.ensures.reads c.in_ok-file.ensures.begins.1) in
    let there = rw columns at c.in_default.ensures.0 in
    let read = rw c.if-branch.true at c.in_ok-advance.ensures.row in
    table.of_rows c.args.bytes.now _ (table.row_refused c.args.bytes.now c.rows.file c.advance.new.self c.rows.table c.stop_columns-columns.result (fields_of c.advance.new.self.row) c.in-Err-add.stop _
    c.rows.invariant there read columns refl c.in-Err-add.ensures.broken c.refuse.ensures)

pub rows-preserved : goal.rows-preserved
rows-preserved c =
    let columns : c.stop_columns-columns.result ≡ stop_columns (header_of c.args.bytes.now) =
    c.stop_columns-columns.ensures ∙ ap stop_columns (progress.header_is c.args.bytes.now c.in_ok-file.file c.in_ok-file.ensures.reads c.in_ok-file.ensures.begins.1) in
    let read = rw c.if-branch.true at c.in_ok-advance.ensures.row in
    let done = c.in_default-add.ensures in
    table.more c.args.bytes.now c.rows.file c.advance.new.self c.rows.table c.add.new.self c.stop_columns-columns.result (fields_of c.advance.new.self.row)
    c.rows.invariant read columns refl done.holds done.kept done.row

pub returns-clause-kept : goal.returns-clause-kept
returns-clause-kept c = table.checked-same IsStopTable c.rows.table c.check_stops.result c.rows.invariant.kept c.check_stops.ensures.same

pub returns-clause-accepted : goal.returns-clause-accepted
returns-clause-accepted c =
    let columns : c.stop_columns-columns.result ≡ stop_columns (header_of c.args.bytes.now) =
    c.stop_columns-columns.ensures ∙ ap stop_columns (progress.header_is c.args.bytes.now c.in_ok-file.file c.in_ok-file.ensures.reads c.in_ok-file.ensures.begins.1) in
    let there = rw columns at c.in_default.ensures.0 in
    let end = rw c.if-branch.false at c.in_ok-advance.ensures.end in
    let rows = progress.accepted file_kind.Stops _ c.args.bytes.now _ c.rows.file c.rows.invariant.progress there end in
    let all = table.all c.args.bytes.now c.rows.file c.rows.table c.rows.invariant end in
    table.checked-accepted c.args.bytes.now c.rows.table c.check_stops.result all rows c.check_stops.ensures.few

pub returns-clause-table : goal.returns-clause-table
returns-clause-table c =
    let end = rw c.if-branch.false at c.in_ok-advance.ensures.end in
    let all = table.all c.args.bytes.now c.rows.file c.rows.table c.rows.invariant end in
    table.checked-same (IsStopTableOf (stop_columns (header_of c.args.bytes.now)) (rows_of c.args.bytes.now)) c.rows.table c.check_stops.result all c.check_stops.ensures.same

pub returns-clause-refused : goal.returns-clause-refused
returns-clause-refused c =
    let columns : c.stop_columns-columns.result ≡ stop_columns (header_of c.args.bytes.now) =
    c.stop_columns-columns.ensures ∙ ap stop_columns (progress.header_is c.args.bytes.now c.in_ok-file.file c.in_ok-file.ensures.reads c.in_ok-file.ensures.begins.1) in
    let there = rw columns at c.in_default.ensures.0 in
    let end = rw c.if-branch.false at c.in_ok-advance.ensures.end in
    let rows = progress.accepted file_kind.Stops _ c.args.bytes.now _ c.rows.file c.rows.invariant.progress there end in
    let all = table.all c.args.bytes.now c.rows.file c.rows.table c.rows.invariant end in
    table.checked-refused c.args.bytes.now c.rows.table c.check_stops.result all rows c.check_stops.ensures.refused

pub returns-clause-few : goal.returns-clause-few
returns-clause-few c = c.check_stops.ensures.small
