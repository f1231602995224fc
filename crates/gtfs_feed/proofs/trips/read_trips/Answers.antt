use Rattle.std.proofs.Common.{◌≡◌, ◌∙◌, ap, refl}
use Rattle.std.proofs.lemmas.Result.{err_from_is_err_and}
use Rattle.csv.specs.Records.{fields_of}
use Rattle.move_model.specs.declared.refusal.FileKind.TheVariants as file_kind
use Rattle.tables.specs.Table.{header_of}
use Rattle.gtfs_feed.specs.Trips.{trip_columns}
use Rattle.gtfs_feed.proofs.Progress as progress
use Rattle.gtfs_feed.proofs.TripsTable as table
use Rattle.gtfs_feed.proofs.trips.read_trips.Goals as goal

pub returns-in_err-advance-clause-refused : goal.returns-in_err-advance-clause-refused
returns-in_err-advance-clause-refused c =
    let columns : c.trip_columns-columns.result ≡ trip_columns (header_of c.args.bytes.now) =
    c.trip_columns-columns.ensures ∙ ap trip_columns (progress.header_is c.args.bytes.now c.in_ok-file.file c.in_ok-file.ensures.reads c.in_ok-file.ensures.begins.1) in
    let there = rw columns at c.in_default.ensures.0 in
    let exit = err_from_is_err_and c.from_residual-in_err-advance.result c.from_residual-in_err-advance.ensures.1 in
    rw (exit.1, exit.2) (progress.limit file_kind.Trips _ c.args.bytes.now _ c.rows.file _ c.rows.invariant.progress there c.in_err-advance.ensures.limit)

pub returns-in-Err-add-clause-refused : goal.returns-in-Err-add-clause-refused
returns-in-Err-add-clause-refused c =
    let columns : c.trip_columns-columns.result ≡ trip_columns (header_of c.args.bytes.now) =
    c.trip_columns-columns.ensures ∙ ap trip_columns (progress.header_is c.args.bytes.now c.in_ok-file.file c.in_ok-file.ensures.reads c.in_ok-file.ensures.begins.1) in
    let there = rw columns at c.in_default.ensures.0 in
    let read = rw c.if-branch.true at c.in_ok-advance.ensures.row in
    table.row_refused c.args.bytes.now c.args.services.now c.rows.file c.advance.new.self c.rows.table c.trip_columns-columns.result (fields_of c.advance.new.self.row) c.in-Err-add.stop _
    c.rows.invariant there read columns refl c.in-Err-add.ensures.broken c.refuse.ensures

pub rows-preserved : goal.rows-preserved
rows-preserved c =
    let columns : c.trip_columns-columns.result ≡ trip_columns (header_of c.args.bytes.now) =
    c.trip_columns-columns.ensures ∙ ap trip_columns (progress.header_is c.args.bytes.now c.in_ok-file.file c.in_ok-file.ensures.reads c.in_ok-file.ensures.begins.1) in
    let read = rw c.if-branch.true at c.in_ok-advance.ensures.row in
    let done = c.in_default-add.ensures in
    table.more c.args.bytes.now c.args.services.now c.rows.file c.advance.new.self c.rows.table c.add.new.self c.trip_columns-columns.result (fields_of c.advance.new.self.row)
    c.rows.invariant read columns refl done.holds done.kept done.names done.trips

pub returns-clause-accepted : goal.returns-clause-accepted
returns-clause-accepted c =
    let columns : c.trip_columns-columns.result ≡ trip_columns (header_of c.args.bytes.now) =
    c.trip_columns-columns.ensures ∙ ap trip_columns (progress.header_is c.args.bytes.now c.in_ok-file.file c.in_ok-file.ensures.reads c.in_ok-file.ensures.begins.1) in
    let there = rw columns at c.in_default.ensures.0 in
    let end = rw c.if-branch.false at c.in_ok-advance.ensures.end in
    progress.accepted file_kind.Trips _ c.args.bytes.now _ c.rows.file c.rows.invariant.progress there end

pub returns-clause-names : goal.returns-clause-names
returns-clause-names c =
    let end = rw c.if-branch.false at c.in_ok-advance.ensures.end in
    (table.all c.args.bytes.now c.args.services.now c.rows.file c.rows.table c.rows.invariant end).0

pub returns-clause-trips : goal.returns-clause-trips
returns-clause-trips c =
    let end = rw c.if-branch.false at c.in_ok-advance.ensures.end in
    (table.all c.args.bytes.now c.args.services.now c.rows.file c.rows.table c.rows.invariant end).1

pub returns-clause-few : goal.returns-clause-few
returns-clause-few c = table.few c.args.bytes.now c.args.services.now c.rows.file c.rows.table c.rows.invariant
