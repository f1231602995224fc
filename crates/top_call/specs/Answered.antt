-- What a run answers, and how much it searches for it.
--     IsAnswerByShortcuts n q a         the answer is the exact one, and goes by shortcuts between rides
--     SearchesFor Asked before after    searches in the streets, for a network and queries that are asked about, or none
--     OpensFor Asked before after       openings of routes for them, or none
use Rattle.std.specs.Prelude.{◌≡◌, ◌⊎◌, ℕ, List, length}
use Rattle.move_model.specs.declared.network.Network.{Network}
use Rattle.move_model.specs.declared.network.TripNo.{TripNo}
use Rattle.move_model.specs.declared.journey.Shortcut.{Shortcut}
use Rattle.move_model.specs.declared.query.Query.{Query}
use Rattle.move_model.specs.Shortcut.{IsShortcutList}
use Rattle.route_split.specs.Routes.{AreRoutes}
use Rattle.answer_rows.specs.Answer.{Answer, IsExactAnswer, GoesByList}
use Rattle.answer_rows.specs.Counted.{CountsFirst, IsSearchedOver, IsOpenedOver}

-- between two rides the passenger stays at the stop, or goes by a shortcut of the network
pub record IsAnswerByShortcuts (n : Network) (q : Query) (answer : Answer) : Type 0 where
  pub exact : IsExactAnswer n q answer
  pub list : List Shortcut
  pub shortcuts : IsShortcutList n list
  pub transfers : GoesByList n list answer

-- for each query that was begun
abbrev pub SearchesFor : (Network → List Query → Type 0) → ℕ → ℕ → Type 0
SearchesFor Asked before after =
    (after ≡ before) ⊎ ((n : Network) × (queries : List Query) × Asked n queries × CountsFirst (IsSearchedOver n) queries before after)

-- for each query that was begun, by the number of routes of the trips
abbrev pub OpensFor : (Network → List Query → Type 0) → ℕ → ℕ → Type 0
OpensFor Asked before after =
    (after ≡ before) ⊎ ((n : Network) × (queries : List Query) × Asked n queries × (routes : List (List TripNo)) × AreRoutes n.trips routes
    × CountsFirst (IsOpenedOver n (length routes)) queries before after)
