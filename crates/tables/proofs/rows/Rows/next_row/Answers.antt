use Rattle.std.proofs.Common.{◌≡◌, [], ◌∷◌, refl}
use Rattle.csv.specs.Records.{fields_of}
use Rattle.tables.specs.Unread.{unread}
use Rattle.tables.proofs.UnreadLemmas.{took, ended}
use Rattle.tables.proofs.rows.Rows.next_row.Goals as goal

pub returns-then-not-found-clause-reads : goal.returns-then-not-found-clause-reads
returns-then-not-found-clause-reads c =
    let table = c.self.invariant c.if-not-self.false in
    let none : unread c.self.inside.reader ≡ [] = ended c.self.inside.reader c.read_byte_record.new.self _ _ table c.if-not-found.true (c.in-Ok.ensures.reads table.plain table.ready) in
    (rw (← c.self.view_is, c.if-not-self.false) none, refl, c.clear-then-not-found.ensures.fields)

pub invariant_of-self-else-not-found : goal.invariant_of-self-else-not-found
invariant_of-self-else-not-found c =
    let table = c.self.invariant c.if-not-self.false in
    λ reading. (took c.self.inside.reader c.read_byte_record.new.self _ _ table c.if-not-found.false (c.in-Ok.ensures.reads table.plain table.ready) (c.in-Ok.ensures.ready table.plain)).1

pub returns-clause-reads : goal.returns-clause-reads
returns-clause-reads c =
    let table = c.self.invariant c.if-not-self.false in
    let first : unread c.self.inside.reader ≡ fields_of c.read_byte_record.new.row ∷ unread c.read_byte_record.new.self =
    (took c.self.inside.reader c.read_byte_record.new.self _ _ table c.if-not-found.false (c.in-Ok.ensures.reads table.plain table.ready) (c.in-Ok.ensures.ready table.plain)).0 in
    rw (← c.self.view_is, c.if-not-self.false) first
