use Rattle.std.proofs.Common.{◌≡◌, ◌∙◌, ap, refl, arith}
use Rattle.std.proofs.lemmas.Result.{err_from_is_err_and}
use Rattle.csv.specs.Records.{fields_of}
use Rattle.move_model.specs.declared.refusal.FileKind.TheVariants as file_kind
use Rattle.tables.specs.Table.{header_of}
use Rattle.gtfs_feed.specs.Dates.{date_columns}
use Rattle.gtfs_feed.proofs.Progress as progress
use Rattle.gtfs_feed.proofs.DatesTable as table
use Rattle.gtfs_feed.proofs.services.read_dates.Goals as goal

pub returns-in_err-advance-clause-refused : goal.returns-in_err-advance-clause-refused
returns-in_err-advance-clause-refused c =
    let columns : c.date_columns-columns.result ≡ date_columns (header_of c.args.bytes.now) =
    c.date_columns-columns.ensures ∙ ap date_columns (progress.header_is c.args.bytes.now c.in_ok-file.file c.in_ok-file.ensures.reads c.in_ok-file.ensures.begins.1) in
    let there = rw columns at c.in_default.ensures.0 in
    let exit = err_from_is_err_and c.from_residual-in_err-advance.result c.from_residual-in_err-advance.ensures.1 in
    rw (exit.1, exit.2) (progress.limit file_kind.CalendarDates _ c.args.bytes.now _ c.rows.file _ c.rows.invariant.progress there c.in_err-advance.ensures.limit)

pub returns-in-Err-add_date-clause-refused : goal.returns-in-Err-add_date-clause-refused
returns-in-Err-add_date-clause-refused c =
    let columns : c.date_columns-columns.result ≡ date_columns (header_of c.args.bytes.now) =
    c.date_columns-columns.ensures ∙ ap date_columns (progress.header_is c.args.bytes.now c.in_ok-file.file c.in_ok-file.ensures.reads c.in_ok-file.ensures.begins.1) in
    let there = rw columns at c.in_default.ensures.0 in
    let read = rw c.if-branch.true at c.in_ok-advance.ensures.row in
    table.row_refused c.args.bytes.now c.args.table.now.services.items c.rows.file c.advance.new.self c.rows.table c.date_columns-columns.result (fields_of c.advance.new.self.row) c.in-Err-add_date.stop _
    c.rows.invariant there read columns refl c.in-Err-add_date.ensures.broken c.refuse.ensures

pub rows-preserved : goal.rows-preserved
rows-preserved c =
    let columns : c.date_columns-columns.result ≡ date_columns (header_of c.args.bytes.now) =
    c.date_columns-columns.ensures ∙ ap date_columns (progress.header_is c.args.bytes.now c.in_ok-file.file c.in_ok-file.ensures.reads c.in_ok-file.ensures.begins.1) in
    let read = rw c.if-branch.true at c.in_ok-advance.ensures.row in
    let done = c.in_default-add_date.ensures in
    table.more c.args.bytes.now c.args.table.now.services.items c.rows.file c.advance.new.self c.rows.table c.add_date.new.self c.date_columns-columns.result (fields_of c.advance.new.self.row)
    c.rows.invariant read columns refl done.holds done.kept done.same done.more done.seen done.services

pub returns-clause-accepted : goal.returns-clause-accepted
returns-clause-accepted c =
    let columns : c.date_columns-columns.result ≡ date_columns (header_of c.args.bytes.now) =
    c.date_columns-columns.ensures ∙ ap date_columns (progress.header_is c.args.bytes.now c.in_ok-file.file c.in_ok-file.ensures.reads c.in_ok-file.ensures.begins.1) in
    let there = rw columns at c.in_default.ensures.0 in
    let end = rw c.if-branch.false at c.in_ok-advance.ensures.end in
    progress.accepted file_kind.CalendarDates _ c.args.bytes.now _ c.rows.file c.rows.invariant.progress there end

pub returns-clause-services : goal.returns-clause-services
returns-clause-services c =
    let end = rw c.if-branch.false at c.in_ok-advance.ensures.end in
    table.all c.args.bytes.now c.args.table.now.services.items c.rows.file c.rows.table c.rows.invariant end

pub returns-clause-few : goal.returns-clause-few
returns-clause-few c = omega (arith, c.rows.invariant.few, c.rows.invariant.progress.reads.few)

pub rows-init : goal.rows-init
rows-init c = table.begun c.args.bytes.now c.in_ok-file.file c.args.table.now c.in_ok-file.ensures.reads c.in_ok-file.ensures.begins c.requires.kept c.requires.same c.requires.unseen
