-- The rows of the output and their text, as csv writes records of eleven fields.
--     header_record              the names of the fields
--     pair_record q j a p        query q's row of kind pair for its journey j
--     none_record q a            query q's row of kind none
--     finding_records q j n a f  that row, and the legs of the finding's journey below it
--     point_records q n a fs     the rows of all findings of a point query, or its one row of kind none
--     records_text rs            the text of records
use Rattle.std.specs.Prelude.{◌≡◌, ◌+◌, ℕ, List, [], ◌∷◌, ◌++◌, Some, codes, decimal, false}
use Rattle.std.specs.List.{flat_map}
use Rattle.std.specs.declared.alloc.Global.{Global}
use Rattle.std.specs.declared.vec.Vec.{Vec}
use Rattle.csv.specs.Writing.{row_text, default_writer, text_written, writer_setup, fields_written, has_written}
use Rattle.csv.specs.declared.writer.Writer.{Writer}
use Rattle.move_model.specs.declared.network.Network.{Network}
use Rattle.move_model.specs.declared.journey.Finding.{Finding}
use Rattle.move_model.specs.Time.{time_text}
use Rattle.journey_print.specs.declared.answer.PointAnswer.{PointAnswer}
use Rattle.journey_print.specs.Legs.{leg_records}

-- the names of the fields
unfoldable pub header_record : List (List ℕ)
header_record = codes "query" ∷ codes "journey" ∷ codes "kind" ∷ codes "id" ∷ codes "from" ∷ codes "from_at"
    ∷ codes "to" ∷ codes "to_at" ∷ codes "start" ∷ codes "end" ∷ codes "arrive" ∷ []

-- a pair: its number of trips, the places, the departure and the arrival
unfoldable pub pair_record : ℕ → ℕ → PointAnswer → Finding → List (List ℕ)
pair_record query journey answer finding = decimal query ∷ decimal journey ∷ codes "pair" ∷ decimal finding.pair.trips
    ∷ answer.from.word ∷ decimal answer.from.node.0 ∷ answer.to.word ∷ decimal answer.to.node.0
    ∷ time_text answer.depart ∷ [] ∷ time_text finding.pair.arrive ∷ []

-- no journey
unfoldable pub none_record : ℕ → PointAnswer → List (List ℕ)
none_record query answer = decimal query ∷ codes "0" ∷ codes "none" ∷ []
    ∷ answer.from.word ∷ decimal answer.from.node.0 ∷ answer.to.word ∷ decimal answer.to.node.0
    ∷ time_text answer.depart ∷ [] ∷ [] ∷ []

-- a finding: its pair, and the legs of its journey from the journey's departure on
abbrev pub finding_records : ℕ → ℕ → Network → PointAnswer → Finding → List (List (List ℕ))
finding_records query journey n answer finding =
    pair_record query journey answer finding
    ∷ leg_records query journey n finding.journey.walks finding.journey.rides finding.journey.depart

-- the rows of the findings that are left, whose journeys are numbered from the next number
abbrev pub findings_from : ℕ → ℕ → Network → PointAnswer → List Finding → List (List (List ℕ))
findings_from query journey n answer [] = []
findings_from query journey n answer (finding ∷ findings) =
    finding_records query journey n answer finding ++ findings_from query (journey + 1) n answer findings

-- the rows of the findings, or the one row of kind none
abbrev pub point_records : ℕ → Network → PointAnswer → List Finding → List (List (List ℕ))
point_records query n answer [] = none_record query answer ∷ []
point_records query n answer (finding ∷ findings) = findings_from query 1 n answer (finding ∷ findings)

-- the text of a record
unfoldable pub record_text : List (List ℕ) → List ℕ
record_text fields = row_text default_writer fields

-- the text of records
abbrev pub records_text : List (List (List ℕ)) → List ℕ
records_text records = flat_map record_text records

-- A writer over memory stands between two records, and this text was written.
pub record HasText (w : Writer (Vec ℕ Global)) (text : List ℕ) : Type 0 where
  pub written : text_written (λ v. Some v.items) w ≡ Some text
  pub setup : writer_setup w ≡ default_writer
  pub fields : fields_written w ≡ 0
  pub wrote : has_written w ≡ false
