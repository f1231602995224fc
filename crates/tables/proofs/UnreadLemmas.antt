-- What a read of a record leaves unread.
use Rattle.std.proofs.Common.{◌≡◌, ◌∙◌, ◌+◌, ℕ, List, [], ◌∷◌, length, Bool, true, false, Some, refl, sym, ap, inl}
use Rattle.std.specs.Borrow.{Bor}
use Rattle.csv.specs.Reading.{Reached, ReadRecord, default_config, records, records_from, took_first, reader_state}
use Rattle.csv.specs.declared.parser.State.{State}
use Rattle.csv.specs.declared.parser.State.TheVariants as st
use Rattle.csv.specs.declared.reader.Reader.{Reader}
use Rattle.csv.proofs.ReadFacts.{rows-end, rows-more}
use Rattle.tables.specs.Unread.{unread, unread_source, ReadsTable}
use Rattle.tables.proofs.Whole.{first-of, none-left-of}

unread-is : (r : Reader (Bor (List ℕ))) (bytes : List ℕ) → unread_source r ≡ Some bytes
    → unread r ≡ records_from default_config (length bytes + 1) (reader_state r) bytes
unfolding unread
unread-is r bytes e = rw e refl

-- a record that was read was the first of the records that were unread
took-one : (a b : Reader (Bor (List ℕ))) (fields : List (List ℕ)) → ReadsTable a
    → ReadRecord (λ (s : Bor (List ℕ)). Some s.now) a b true fields → took_first b ≡ true
    → (unread a ≡ fields ∷ unread b) × ReadsTable b
unfolding Reached
took-one a b fields t r first =
    let bytes = t.bytes in
    let source = t.source in
    let (z, at_z, reached) = rows-more (λ (s : Bor (List ℕ)). Some s.now) a b fields default_config (reader_state a) bytes bytes [] t.config source (refl, refl) r in
    let (p, reads, is, rest) = reached in
    let step = first-of default_config (reader_state a) bytes p t.between reads in
    let tail : records_from default_config (length p.2 + 1) p.1 p.2 ≡ unread b = rw (rest.0, rest.1) (sym (unread-is b z at_z)) in (
      unread-is a bytes source ∙ step.0 ∙ ap (λ (f : List (List ℕ)). f ∷ records_from default_config (length p.2 + 1) p.1 p.2) (sym is) ∙ ap (λ (rows : List (List (List ℕ))). fields ∷ rows) tail,
      record { plain = r.3 ∙ t.plain; ready = inl first; config = r.2 ∙ t.config; between = rw rest.0 at step.1; bytes = z; source = at_z },
    )

-- where no record was found, none was unread
ended-none : (a b : Reader (Bor (List ℕ))) (fields : List (List ℕ)) → ReadsTable a
    → ReadRecord (λ (s : Bor (List ℕ)). Some s.now) a b false fields → unread a ≡ []
ended-none a b fields t r =
    let bytes = t.bytes in
    let source = t.source in
    unread-is a bytes source ∙ (none-left-of default_config (reader_state a) bytes (rows-end (λ (s : Bor (List ℕ)). Some s.now) a b fields default_config bytes t.config source r))

pub took : (a b : Reader (Bor (List ℕ))) (found : Bool) (fields : List (List ℕ)) → ReadsTable a → found ≡ true
    → ReadRecord (λ (s : Bor (List ℕ)). Some s.now) a b found fields → took_first b ≡ true
    → (unread a ≡ fields ∷ unread b) × ReadsTable b
took a b true fields t e r first = took-one a b fields t r first
took a b false fields t e r first = cc e

pub ended : (a b : Reader (Bor (List ℕ))) (found : Bool) (fields : List (List ℕ)) → ReadsTable a → found ≡ false
    → ReadRecord (λ (s : Bor (List ℕ)). Some s.now) a b found fields → unread a ≡ []
ended a b true fields t e r = cc e
ended a b false fields t e r = ended-none a b fields t r

-- a reader that was just made has all records of its bytes unread
pub fresh : (r : Reader (Bor (List ℕ))) (bytes : List ℕ) → unread_source r ≡ Some bytes → reader_state r ≡ st.StartRecord
    → unread r ≡ records default_config bytes
fresh r bytes source state = unread-is r bytes source ∙ ap (λ (s : State). records_from default_config (length bytes + 1) s bytes) state
