-- The records that a reader of `csv` has yet to give.
--     unread_bytes r        the bytes that it has yet to read
--     unread r              the records that it has yet to give
--     ReadsTable r          it reads them one by one, as a table's
use Rattle.std.specs.Prelude.{◌≡◌, ◌+◌, ℕ, List, [], length, Option, Some, false, unwrap_or}
use Rattle.std.specs.Borrow.{Bor}
use Rattle.csv.specs.Machine.{ends_at_end}
use Rattle.csv.specs.Reading.{Ready, reader_config, reader_trim, reader_state, source_of, default_config, records_from}
use Rattle.csv.specs.declared.reader.Reader.{Reader}
use Rattle.csv.specs.declared.reader.Trim.TheVariants as trim

abbrev pub unread_source : Reader (Bor (List ℕ)) → Option (List ℕ)
unread_source r = source_of (λ (s : Bor (List ℕ)). Some s.now) r

abbrev pub unread_bytes : Reader (Bor (List ℕ)) → List ℕ
unread_bytes r = unwrap_or (unread_source r) []

unfoldable pub unread : Reader (Bor (List ℕ)) → List (List (List ℕ))
unread r = records_from default_config (length (unread_bytes r) + 1) (reader_state r) (unread_bytes r)

pub record ReadsTable (r : Reader (Bor (List ℕ))) : Type 0 where
  pub plain : reader_trim r ≡ trim.None
  pub ready : Ready r
  pub config : reader_config r ≡ default_config
  pub between : ends_at_end (reader_state r) ≡ false
  pub bytes : List ℕ
  pub source : unread_source r ≡ Some bytes
