-- Rules of the parts of a compiled network, beside those of a network.
--     IsId name                  a name has 1 to 255 bytes of UTF-8
--     Differ stops               no two stops have one name
--     HaveFewCalls trips         20,000,000 calls at most
--     RiseUp h, FallDown h       the arcs up lead to greater ranks, in their order; the arcs down to lesser ones
--     AreMade g h                every arc of h is a least street arc, or is made of two others at its middle
use Rattle.std.specs.Prelude.{◌≢◌, ℕ, ◌<◌, ◌≤◌, ◌^◌, List, length, sum_by, All, AllPairs}
use Rattle.std.specs.List.{AllAdjacentBelow}
use Rattle.std.specs.Str.{IsUtf8}
use Rattle.move_model.specs.declared.network.Stop.{Stop}
use Rattle.move_model.specs.declared.network.Trip.{Trip}
use Rattle.move_model.specs.Streets.{Streets}
use Rattle.walk_hierarchy.specs.declared.arcs.UpDown.{UpDown}
use Rattle.walk_hierarchy.specs.Hierarchy.{Parts, IsArcUp, IsArcDown, IsBefore, IsMade, IsLeastStreet}

pub record IsId (name : List ℕ) : Type 0 where
  pub some : 1 ≤ length name
  pub few : length name ≤ 255
  pub text : IsUtf8 name

abbrev pub Differ : List Stop → Type 0
Differ stops = AllPairs (λ stop other. stop.name ≢ other.name) stops

abbrev pub HaveFewCalls : List Trip → Type 0
HaveFewCalls trips = sum_by (λ trip. length trip.calls) trips ≤ 20000000

abbrev pub AreInOrder : List UpDown → Type 0
AreInOrder arcs = AllAdjacentBelow IsBefore arcs (length arcs)

pub record RiseUp (h : Parts) : Type 0 where
  pub each : All (IsArcUp h) h.up
  pub in_order : AreInOrder h.up

pub record FallDown (h : Parts) : Type 0 where
  pub each : All (IsArcDown h) h.down
  pub in_order : AreInOrder h.down

pub record AreMade (g : Streets) (h : Parts) : Type 0 where
  pub up : All (IsMade h) h.up
  pub down : All (IsMade h) h.down
  pub up_streets : All (IsLeastStreet g) h.up
  pub down_streets : All (IsLeastStreet g) h.down
