use Rattle.std.proofs.Common.{◌≡◌, ◌∙◌, ap, refl}
use Rattle.std.proofs.lemmas.Result.{err_from_is_err_and}
use Rattle.csv.specs.Records.{fields_of}
use Rattle.move_model.specs.declared.refusal.FileKind.TheVariants as file_kind
use Rattle.tables.specs.Table.{header_of}
use Rattle.gtfs_feed.specs.Calendar.{calendar_columns}
use Rattle.gtfs_feed.proofs.Progress as progress
use Rattle.gtfs_feed.proofs.CalendarTable as table
use Rattle.gtfs_feed.proofs.services.read_calendar.Goals as goal

pub returns-in_err-advance-clause-refused : goal.returns-in_err-advance-clause-refused
returns-in_err-advance-clause-refused c =
    let columns : c.calendar_columns-columns.result ≡ calendar_columns (header_of c.args.bytes.now) =
    c.calendar_columns-columns.ensures ∙ ap calendar_columns (progress.header_is c.args.bytes.now c.in_ok-file.file c.in_ok-file.ensures.reads c.in_ok-file.ensures.begins.1) in
    let there = rw columns at c.in_default.ensures.0 in
    let exit = err_from_is_err_and c.from_residual-in_err-advance.result c.from_residual-in_err-advance.ensures.1 in
    rw (exit.1, exit.2) (progress.limit file_kind.Calendar _ c.args.bytes.now _ c.rows.file _ c.rows.invariant.progress there c.in_err-advance.ensures.limit)

pub returns-in-Err-add_week-clause-refused : goal.returns-in-Err-add_week-clause-refused
returns-in-Err-add_week-clause-refused c =
    let columns : c.calendar_columns-columns.result ≡ calendar_columns (header_of c.args.bytes.now) =
    c.calendar_columns-columns.ensures ∙ ap calendar_columns (progress.header_is c.args.bytes.now c.in_ok-file.file c.in_ok-file.ensures.reads c.in_ok-file.ensures.begins.1) in
    let there = rw columns at c.in_default.ensures.0 in
    let read = rw c.if-branch.true at c.in_ok-advance.ensures.row in
    table.row_refused c.args.bytes.now c.rows.file c.advance.new.self c.rows.table c.calendar_columns-columns.result (fields_of c.advance.new.self.row) c.in-Err-add_week.stop _
    c.rows.invariant there read columns refl c.in-Err-add_week.ensures.broken c.refuse.ensures

pub rows-preserved : goal.rows-preserved
rows-preserved c =
    let columns : c.calendar_columns-columns.result ≡ calendar_columns (header_of c.args.bytes.now) =
    c.calendar_columns-columns.ensures ∙ ap calendar_columns (progress.header_is c.args.bytes.now c.in_ok-file.file c.in_ok-file.ensures.reads c.in_ok-file.ensures.begins.1) in
    let read = rw c.if-branch.true at c.in_ok-advance.ensures.row in
    let done = c.in_default-add_week.ensures in
    table.more c.args.bytes.now c.rows.file c.advance.new.self c.rows.table c.add_week.new.self c.calendar_columns-columns.result (fields_of c.advance.new.self.row)
    c.rows.invariant read columns refl done.holds done.kept done.names done.services done.seen

pub returns-clause-accepted : goal.returns-clause-accepted
returns-clause-accepted c =
    let columns : c.calendar_columns-columns.result ≡ calendar_columns (header_of c.args.bytes.now) =
    c.calendar_columns-columns.ensures ∙ ap calendar_columns (progress.header_is c.args.bytes.now c.in_ok-file.file c.in_ok-file.ensures.reads c.in_ok-file.ensures.begins.1) in
    let there = rw columns at c.in_default.ensures.0 in
    let end = rw c.if-branch.false at c.in_ok-advance.ensures.end in
    progress.accepted file_kind.Calendar _ c.args.bytes.now _ c.rows.file c.rows.invariant.progress there end

pub returns-clause-names : goal.returns-clause-names
returns-clause-names c =
    let end = rw c.if-branch.false at c.in_ok-advance.ensures.end in
    (table.all c.args.bytes.now c.rows.file c.rows.table c.rows.invariant end).0

pub returns-clause-services : goal.returns-clause-services
returns-clause-services c =
    let end = rw c.if-branch.false at c.in_ok-advance.ensures.end in
    (table.all c.args.bytes.now c.rows.file c.rows.table c.rows.invariant end).1

pub returns-clause-few : goal.returns-clause-few
returns-clause-few c = table.few c.args.bytes.now c.rows.file c.rows.table c.rows.invariant

pub returns-clause-seen : goal.returns-clause-seen
returns-clause-seen c = c.rows.invariant.unseen
