-- The starts of a network by place.
--     HasStart n rows start      some stop at the place has a start at the second
--     IsLater a b                a is searched from before b: at a greater place, or at the same place at a later second
--     AreStarts n rows starts    the starts are these, each once, in that order
use Rattle.std.specs.Prelude.{◌≡◌, ◌↔◌, ◌<◌, ◌⊎◌, List, length, Contains}
use Rattle.std.specs.List.{AllAdjacentBelow}
use Rattle.move_model.specs.declared.network.Network.{Network}
use Rattle.move_model.specs.declared.network.StopNo.{StopNo}
use Rattle.move_model.specs.Shortcut.{IsStart}
use Rattle.stop_rows.specs.Rows.{Rows, place_at}
use Rattle.start_seconds.specs.declared.start.Start.{Start}

pub record HasStart (n : Network) (rows : Rows) (start : Start) : Type 0 where
  pub stop : StopNo
  pub exists : stop.0 < length n.stops
  pub stands : place_at rows stop ≡ start.place
  pub is_start : IsStart n stop start.second

abbrev pub IsLater : Start → Start → Type 0
IsLater a b = (b.place < a.place) ⊎ ((b.place ≡ a.place) × (b.second < a.second))

pub record AreStarts (n : Network) (rows : Rows) (starts : List Start) : Type 0 where
  pub exact : (start : Start) → Contains starts start ↔ HasStart n rows start
  pub falling : AllAdjacentBelow IsLater starts (length starts)
