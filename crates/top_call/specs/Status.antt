-- How a run may end, and the line that tells it.
--     exit_of status             the exit number
--     cause_text file cause      the words of a cause
--     line_of status             the line on the error stream, or no byte for Done
--     MissesFile, FailsFile plan files kind old new   a required file was not found, a read of a file failed
--     HasCause plan files old new status   the one or the other, where the status tells it
--     ComesOfInput status        a refusal, or want of memory
--     ComesUnsent status         the run ended before anything was sent
--     IsAnyInput, IsThisInput    any network and queries; this network and these queries alone
--     Sends Asked old new status what a run has sent under its status, for a network and queries that are asked about
--     SendsCity city old new status   what the run of a city has sent under its status
--     SendsAny old new status    the one or the other, for any network and queries and for any city
use Rattle.std.specs.Prelude.{◌≡◌, ◌⊎◌, ◌++◌, ℕ, List, [], ◌∷◌, ◌==◌, if◌then◌else◌, true, codes, decimal}
use Rattle.move_files.specs.declared.outside.Files.{Ghosts}
use Rattle.move_model.specs.declared.network.Network.{Network}
use Rattle.move_model.specs.declared.query.Query.{Query}
use Rattle.move_model.specs.declared.refusal.FileKind.{FileKind}
use Rattle.move_model.specs.declared.refusal.FileKind.TheVariants as kind
use Rattle.move_model.specs.declared.refusal.Cause.{Cause}
use Rattle.move_model.specs.declared.refusal.Cause.TheVariants as cause
use Rattle.move_model.specs.declared.refusal.Refusal.{Refusal}
use Rattle.answer_rows.specs.Printed.{PrintsAll, PrintsPart}
use Rattle.city_run.specs.declared.words.CityWords.{CityWords}
use Rattle.city_run.specs.Sent.{SendsSummary, SendsPart as SendsPartOfSummary}
use Rattle.top_call.specs.declared.status.Status.{Status}
use Rattle.top_call.specs.declared.status.Status.TheVariants as status
use Rattle.top_call.specs.Words.{Plan, name_in, file_text, IsNamed}
use Rattle.top_call.specs.Reading.{MissedAt, FailedAt}
use Rattle.top_call.specs.Input.{is_required}
use Rattle.top_call.specs.Answered.{IsAnswerByShortcuts}

abbrev pub exit_of : Status → ℕ
exit_of status.Done = 0
exit_of status.Usage = 2
exit_of (status.Refused r) = 3
exit_of (status.NoFile k) = 4
exit_of (status.ReadFault k) = 5
exit_of status.WriteFault = 6
exit_of status.NoMemory = 7

-- the name of a required column, by its place in the order of the file's required columns
unfoldable pub column_text : FileKind → ℕ → List ℕ
column_text kind.Stops k = if k == 0 then codes "stop_id" else []
column_text kind.Calendar k = if k == 0 then codes "service_id" else if k == 1 then codes "monday" else if k == 2 then codes "tuesday" else if k == 3 then codes "wednesday" else if k == 4 then codes "thursday" else
    if k == 5 then codes "friday" else if k == 6 then codes "saturday" else if k == 7 then codes "sunday" else if k == 8 then codes "start_date" else if k == 9 then codes "end_date" else []
column_text kind.CalendarDates k = if k == 0 then codes "service_id" else
    if k == 1 then codes "date" else if k == 2 then codes "exception_type" else []
column_text kind.Trips k = if k == 0 then codes "service_id" else if k == 1 then codes "trip_id" else []
column_text kind.StopTimes k = if k == 0 then codes "trip_id" else
    if k == 1 then codes "stop_id" else if k == 2 then codes "stop_sequence" else []
column_text kind.Frequencies k = if k == 0 then codes "trip_id" else if k == 1 then codes "start_time" else
    if k == 2 then codes "end_time" else if k == 3 then codes "headway_secs" else []
column_text kind.StopNodes k = if k == 0 then codes "stop_id" else if k == 1 then codes "node" else []
column_text kind.Queries k = if k == 0 then codes "kind" else if k == 1 then codes "from" else if k == 2 then codes "to" else
    if k == 3 then codes "first" else if k == 4 then codes "last" else if k == 5 then codes "trips" else []
column_text kind.Gr k = []
column_text kind.Co k = []
column_text kind.Net k = []

-- the words before the number that a cause keeps
unfoldable pub cause_words : FileKind → Cause → List ℕ
cause_words file (cause.FileLong n) = codes "file of "
cause_words file (cause.NoColumn k) = codes "no column " ++ column_text file k
cause_words file (cause.Limit n) = codes "limit "
cause_words file cause.NotUtf8 = codes "not utf-8"
cause_words file cause.IdEmpty = codes "empty id"
cause_words file (cause.IdLong n) = codes "id of "
cause_words file cause.Repeated = codes "repeated"
cause_words file cause.Number = codes "number"
cause_words file cause.Coordinate = codes "coordinate"
cause_words file cause.Date = codes "date"
cause_words file cause.Time = codes "time"
cause_words file cause.UnknownTrip = codes "unknown trip"
cause_words file cause.UnknownStop = codes "unknown stop"
cause_words file cause.NotAStop = codes "not a stop"
cause_words file cause.NoTime = codes "no time"
cause_words file cause.TimeFalls = codes "time falls"
cause_words file (cause.CopyLate n) = codes "copy until "
cause_words file cause.NoCalendar = codes "no calendar"
cause_words file cause.NoPlace = codes "no place"
cause_words file cause.Line = codes "line"
cause_words file (cause.Vertex n) = codes "vertex "
cause_words file (cause.Weight n) = codes "weight "
cause_words file (cause.Count n) = codes "count "
cause_words file cause.Kind = codes "kind"
cause_words file cause.Place = codes "place"
cause_words file (cause.Window n) = codes "window "
cause_words file cause.Unbuilt = codes "unbuilt"

-- the number that a cause keeps
unfoldable pub cause_number : Cause → List ℕ
cause_number (cause.FileLong n) = decimal n
cause_number (cause.Limit n) = decimal n
cause_number (cause.IdLong n) = decimal n
cause_number (cause.CopyLate n) = decimal n
cause_number (cause.Vertex n) = decimal n
cause_number (cause.Weight n) = decimal n
cause_number (cause.Count n) = decimal n
cause_number (cause.Window n) = decimal n
cause_number _ = []

-- the words behind it
unfoldable pub cause_end : Cause → List ℕ
cause_end (cause.FileLong n) = codes " bytes"
cause_end (cause.IdLong n) = codes " bytes"
cause_end _ = []

abbrev pub cause_text : FileKind → Cause → List ℕ
cause_text file because = cause_words file because ++ cause_number because ++ cause_end because

unfoldable pub refusal_text : Refusal → List ℕ
refusal_text r = codes "refused: " ++ file_text r.file ++ codes " row " ++ decimal r.row ++ codes ": " ++ cause_text r.file r.cause ++ 10 ∷ []

unfoldable pub usage_text : List ℕ
usage_text = codes "usage: planner plan FEED GR CO DATE SCALE QUERIES [BUFFER] | compile FEED GR CO DATE SCALE NET [BUFFER] | answer NET QUERIES | migrate OLD NEW | audit NET | city SIDE LINES NUMBER\n"

unfoldable pub line_of : Status → List ℕ
line_of status.Done = []
line_of status.Usage = usage_text
line_of (status.Refused r) = refusal_text r
line_of (status.NoFile k) = codes "no file: " ++ file_text k ++ 10 ∷ []
line_of (status.ReadFault k) = codes "read fault: " ++ file_text k ++ 10 ∷ []
line_of status.WriteFault = codes "write fault\n"
line_of status.NoMemory = codes "no memory\n"

-- a required file that the words name was not found: the count of its own name rose
abbrev pub MissesFile : {F : Type 0} → Plan → Ghosts F → FileKind → F → F → Type 0
MissesFile plan files k old new = IsNamed plan k × (is_required k ≡ true) × MissedAt files (name_in plan k) old new

-- a read of a file that the words name failed: the count of its own name rose
abbrev pub FailsFile : {F : Type 0} → Plan → Ghosts F → FileKind → F → F → Type 0
FailsFile plan files k old new = IsNamed plan k × FailedAt files (name_in plan k) old new

-- why a reader stopped
unfoldable pub HasCause : {F : Type 0} → Plan → Ghosts F → F → F → Status → Type 0
HasCause plan files old new (status.NoFile k) = MissesFile plan files k old new
HasCause plan files old new (status.ReadFault k) = FailsFile plan files k old new
HasCause plan files old new (status.Refused r) = Unit {0}
HasCause plan files old new status.NoMemory = Unit {0}
HasCause plan files old new status.Done = ⊥
HasCause plan files old new status.Usage = ⊥
HasCause plan files old new status.WriteFault = ⊥

-- nothing but the bytes of the input, or want of memory, ended the reading
unfoldable pub ComesOfInput : Status → Type 0
ComesOfInput (status.Refused r) = Unit {0}
ComesOfInput status.NoMemory = Unit {0}
ComesOfInput (status.NoFile k) = ⊥
ComesOfInput (status.ReadFault k) = ⊥
ComesOfInput status.Done = ⊥
ComesOfInput status.Usage = ⊥
ComesOfInput status.WriteFault = ⊥

-- these statuses come before anything is sent
unfoldable pub ComesUnsent : Status → Type 0
ComesUnsent status.Usage = Unit {0}
ComesUnsent (status.Refused r) = Unit {0}
ComesUnsent (status.NoFile k) = Unit {0}
ComesUnsent (status.ReadFault k) = Unit {0}
ComesUnsent status.Done = ⊥
ComesUnsent status.WriteFault = ⊥
ComesUnsent status.NoMemory = ⊥

abbrev pub IsAnyInput : Network → List Query → Type 0
IsAnyInput n queries = Unit {0}

abbrev pub IsThisInput : Network → List Query → Network → List Query → Type 0
IsThisInput n queries other others = (other ≡ n) × (others ≡ queries)

-- behind the old bytes stands a prefix of the text of the first queries
abbrev pub SendsPart : (Network → List Query → Type 0) → List ℕ → List ℕ → Type 0
SendsPart Asked old new = (n : Network) × (queries : List Query) × Asked n queries × PrintsPart n (IsAnswerByShortcuts n) queries old new

-- Done sends the text of all queries; a failed write leaves a part of it, and want of memory too, or nothing; every other status
-- comes before anything is sent.
unfoldable pub Sends : (Network → List Query → Type 0) → List ℕ → List ℕ → Status → Type 0
Sends Asked old new status.Done = (n : Network) × (queries : List Query) × Asked n queries × PrintsAll n (IsAnswerByShortcuts n) queries old new
Sends Asked old new status.WriteFault = SendsPart Asked old new
Sends Asked old new status.NoMemory = (new ≡ old) ⊎ SendsPart Asked old new
Sends Asked old new status.Usage = new ≡ old
Sends Asked old new (status.Refused r) = new ≡ old
Sends Asked old new (status.NoFile k) = new ≡ old
Sends Asked old new (status.ReadFault k) = new ≡ old

-- Done sends the lines of the city's summary; a failed write leaves a part of them, and want of memory too, or nothing; no other
-- status comes
unfoldable pub SendsCity : CityWords → List ℕ → List ℕ → Status → Type 0
SendsCity city old new status.Done = SendsSummary city.side city.lines city.number old new
SendsCity city old new status.WriteFault = SendsPartOfSummary city.side city.lines city.number old new
SendsCity city old new status.NoMemory = (new ≡ old) ⊎ SendsPartOfSummary city.side city.lines city.number old new
SendsCity city old new status.Usage = ⊥
SendsCity city old new (status.Refused r) = ⊥
SendsCity city old new (status.NoFile k) = ⊥
SendsCity city old new (status.ReadFault k) = ⊥

abbrev pub SendsAny : List ℕ → List ℕ → Status → Type 0
SendsAny old new s = Sends IsAnyInput old new s ⊎ ((city : CityWords) × SendsCity city old new s)
