-- Which numbers of rides gain, as the rounds of a question tell.
--     lesser a b                 the lesser of two optional seconds; None is more than any
--     beats a b                  the one second where it is less than the other
--     on_foot d foot             the arrival on foot
--     gain d foot r j            the least arrival with j + 1 rides, where fewer rides and the walk on foot arrive later
--     sums_of asked              the sums of a question
--     AreAnswers c sums d r      the rounds have answered for these sums
--     HasRoom c k asked          a question with at most k rides can be asked
use Rattle.std.specs.Prelude.{◌≡◌, ℕ, ◌+◌, ◌<◌, ◌≤◌, nat_lt, min, if◌then◌else◌, length, Option, Some, None}
use Rattle.std.specs.Option.{option_map}
use Rattle.raptor_rounds.specs.Answers.{Arrival, Kept, answer_at, IsAnswer}
use Rattle.network_file.specs.declared.compiled.Compiled.{Compiled}
use Rattle.network_file.specs.Answers.{Sums}
use Rattle.network_answers.specs.declared.asked.Asked.{Asked}

abbrev pub lesser : Option ℕ → Option ℕ → Option ℕ
lesser None b = b
lesser (Some l) None = Some l
lesser (Some l) (Some m) = Some (min l m)

abbrev pub beats : Option ℕ → Option ℕ → Option ℕ
beats None b = None
beats (Some l) None = Some l
beats (Some l) (Some m) = if nat_lt l m then Some l else None

abbrev pub on_foot : ℕ → Option ℕ → Option ℕ
on_foot d foot = option_map (λ m. d + m) foot

abbrev pub second_of : Option Arrival → Option ℕ
second_of answer = option_map (λ a. a.second) answer

abbrev pub gain : ℕ → Option ℕ → Kept → ℕ → Option ℕ
gain d foot r j = beats (second_of (answer_at r (j + 1))) (lesser (on_foot d foot) (second_of (answer_at r j)))

abbrev pub sums_of : Asked → Sums
sums_of asked = record { foot = asked.foot; first = asked.first; last = asked.last }

pub record AreAnswers (c : Compiled) (sums : Sums) (d : ℕ) (r : Kept) : Type 0 where
  pub each : (k : ℕ) → k < length r.answers → IsAnswer c.network sums.first sums.last c.shortcuts d k (answer_at r k)

pub record HasRoom (c : Compiled) (limit : ℕ) (asked : Asked) : Type 0 where
  pub stops : asked.rounds.stops ≡ c.table.stops
  pub routes : asked.rounds.routes ≡ length c.table.routes
  pub within : limit ≤ asked.rounds.limit
  pub first : length asked.first ≡ c.table.stops
  pub last : length asked.last ≡ c.table.stops
