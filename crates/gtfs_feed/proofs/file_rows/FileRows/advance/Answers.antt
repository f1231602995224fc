use Rattle.std.proofs.Common.{◌∙◌, sym, refl, arith}
use Rattle.tables.specs.Table.{rows_of}
use Rattle.gtfs_feed.proofs.ReadingLemmas.{behind-more, not-past, here, at-end}
use Rattle.gtfs_feed.proofs.file_rows.FileRows.advance.Goals as goal

pub returns-in-Ok-true-2-clause-row : goal.returns-in-Ok-true-2-clause-row
returns-in-Ok-true-2-clause-row c =
    let front = sym c.requires.behind ∙ rw c.in-Ok-true.field-0-test at c.in-Ok-true.ensures.reads in
    let inside = not-past (rows_of c.args.self.now.bytes.now) c.args.self.now.number _ _ front in
    record {
      reads = record {
        headed = c.requires.headed;
        behind = behind-more (rows_of c.args.self.now.bytes.now) c.args.self.now.number _ _ front;
        within = inside;
        few = omega (arith, c.requires.few, c.if-self-eq-MOST_ROWS.false);
      };
      of_file = refl;
      of_bytes = refl;
      number = refl;
      inside = omega (arith, inside);
      row = here (rows_of c.args.self.now.bytes.now) c.args.self.now.number _ _ front;
    }

pub returns-in-Ok-false-clause-end : goal.returns-in-Ok-false-clause-end
returns-in-Ok-false-clause-end c =
    let reads = rw c.in-Ok-false.field-0-test at c.in-Ok-false.ensures.reads in
    at-end (rows_of c.args.self.now.bytes.now) c.args.self.now.number (sym c.requires.behind ∙ reads.0) c.requires.within
