-- The words of a command.
--     plan_of words              what the words plan FEED GR CO DATE SCALE QUERIES [BUFFER] name, or None
--     city_in words              the numbers that the words city SIDE LINES NUMBER are, or None
--     name_in plan kind          the name of a file of the plan
--     IsNamed plan kind          the words name such a file
use Rattle.std.specs.Prelude.{◌≢◌, ◌++◌, ℕ, List, [], ◌∷◌, Option, Some, None, option_and_then, codes, if◌then◌else◌}
use Rattle.std.specs.Str.{bytes_eq}
use Rattle.std.specs.String.{string_bytes}
use Rattle.std.specs.declared.alloc.Global.{Global}
use Rattle.std.specs.declared.string.String.{String}
use Rattle.feed_values.specs.Date.{date_of}
use Rattle.tables.specs.Values.{is_within, number_in}
use Rattle.city_run.specs.Words.{city_of}
use Rattle.city_run.specs.declared.words.CityWords.{CityWords}
use Rattle.top_call.specs.declared.words.PlanWords.{PlanWords}
use Rattle.move_model.specs.declared.refusal.FileKind.{FileKind}
use Rattle.move_model.specs.declared.refusal.FileKind.TheVariants as kind

-- the values of the words, the names as bytes, and the date as the number YYYYMMDD
pub record Plan : Type 0 where
  pub feed : List ℕ
  pub gr : List ℕ
  pub co : List ℕ
  pub date : ℕ
  pub scale : ℕ
  pub queries : List ℕ
  pub buffer : ℕ

-- what the values of the code say
abbrev pub told : PlanWords → Plan
told words = record {
  feed = words.feed.now;
  gr = words.gr.now;
  co = words.co.now;
  date = words.date;
  scale = words.scale;
  queries = words.queries.now;
  buffer = words.buffer;
}

-- a whole number up to a limit
abbrev pub number_up_to : ℕ → List ℕ → Option ℕ
number_up_to most text = if is_within 0 most text then Some (number_in text) else None

infixl 10 ◌>>=◌
abbrev ◌>>=◌ : {A B : Type 0} → Option A → (A → Option B) → Option B
o >>= f = option_and_then f o

-- a real date, a scale from 0 to 1,000, and a buffer from 0 to 3,600 seconds
unfoldable pub plan_with : List ℕ → List ℕ → List ℕ → List ℕ → List ℕ → List ℕ → List ℕ → Option Plan
plan_with feed gr co date_word scale_word queries buffer_word = do
  date ← date_of date_word
  scale ← number_up_to 1000 scale_word
  buffer ← number_up_to 3600 buffer_word
  Some (record { feed = feed; gr = gr; co = co; date = date; scale = scale; queries = queries; buffer = buffer })

-- without its last word the buffer is 0
unfoldable pub plan_of : List (String Global) → Option Plan
plan_of (verb ∷ feed ∷ gr ∷ co ∷ date ∷ scale ∷ queries ∷ []) =
    if bytes_eq (string_bytes verb) (codes "plan")
    then plan_with (string_bytes feed) (string_bytes gr) (string_bytes co) (string_bytes date) (string_bytes scale) (string_bytes queries) (codes "0")
    else None
plan_of (verb ∷ feed ∷ gr ∷ co ∷ date ∷ scale ∷ queries ∷ buffer ∷ []) =
    if bytes_eq (string_bytes verb) (codes "plan")
    then plan_with (string_bytes feed) (string_bytes gr) (string_bytes co) (string_bytes date) (string_bytes scale) (string_bytes queries) (string_bytes buffer)
    else None
plan_of _ = None

unfoldable pub city_in : List (String Global) → Option CityWords
city_in (verb ∷ side ∷ lines ∷ number ∷ []) =
    if bytes_eq (string_bytes verb) (codes "city") then city_of (string_bytes side) (string_bytes lines) (string_bytes number) else None
city_in _ = None

-- a file of the feed's folder
abbrev pub in_folder : List ℕ → List ℕ → List ℕ
in_folder folder file = folder ++ 47 ∷ file

-- the file's own name
unfoldable pub file_text : FileKind → List ℕ
file_text kind.Stops = codes "stops.txt"
file_text kind.Calendar = codes "calendar.txt"
file_text kind.CalendarDates = codes "calendar_dates.txt"
file_text kind.Trips = codes "trips.txt"
file_text kind.StopTimes = codes "stop_times.txt"
file_text kind.Frequencies = codes "frequencies.txt"
file_text kind.StopNodes = codes "stop_nodes.txt"
file_text kind.Gr = codes "GR"
file_text kind.Co = codes "CO"
file_text kind.Queries = codes "QUERIES"
file_text kind.Net = codes "NET"

-- the name under which a file is read
unfoldable pub name_in : Plan → FileKind → List ℕ
name_in plan kind.Gr = plan.gr
name_in plan kind.Co = plan.co
name_in plan kind.Queries = plan.queries
name_in plan kind.Net = []
name_in plan kind.Stops = in_folder plan.feed (file_text kind.Stops)
name_in plan kind.Calendar = in_folder plan.feed (file_text kind.Calendar)
name_in plan kind.CalendarDates = in_folder plan.feed (file_text kind.CalendarDates)
name_in plan kind.Trips = in_folder plan.feed (file_text kind.Trips)
name_in plan kind.StopTimes = in_folder plan.feed (file_text kind.StopTimes)
name_in plan kind.Frequencies = in_folder plan.feed (file_text kind.Frequencies)
name_in plan kind.StopNodes = in_folder plan.feed (file_text kind.StopNodes)

-- CO is no file where its word is `-`, and a plan has no file NET
abbrev pub IsNamed : Plan → FileKind → Type 0
IsNamed plan kind.Net = ⊥
IsNamed plan kind.Co = plan.co ≢ codes "-"
IsNamed plan _ = Unit {0}

-- the most bytes of a file
abbrev pub limit_of : FileKind → ℕ
limit_of kind.StopTimes = 1073741824
limit_of kind.Gr = 1073741824
limit_of kind.Co = 1073741824
limit_of kind.Net = 1125899906842624
limit_of _ = 134217728
