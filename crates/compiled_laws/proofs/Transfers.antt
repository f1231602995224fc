-- The transfers of what any value finds stay at a stop or are in its list.
use Rattle.std.proofs.Common.{◌≡◌, ℕ, ◌⊎◌, List, ◌∷◌, refl, sym, subst, inl, inr, Option}
use Rattle.std.specs.Prelude.{All, Contains}
use Rattle.std.proofs.lemmas.List.Elements.{All-weaker}
use Rattle.move_model.specs.declared.network.Network.{Network}
use Rattle.move_model.specs.declared.network.NodeNo.{NodeNo}
use Rattle.move_model.specs.declared.network.StopNo.{StopNo}
use Rattle.move_model.specs.declared.network.Call.{Call}
use Rattle.move_model.specs.declared.journey.Ride.{Ride}
use Rattle.move_model.specs.declared.journey.Pair.{Pair}
use Rattle.move_model.specs.declared.journey.Shortcut.{Shortcut}
use Rattle.move_model.specs.declared.journey.Finding.{Finding}
use Rattle.move_model.specs.declared.journey.SpanFinding.{SpanFinding}
use Rattle.move_model.specs.Journey.{IsRide}
use Rattle.move_model.specs.Shortcut.{TransferListed, TransfersListed}
use Rattle.move_model.specs.Listed.{HasTransfer, GoesOnListed, IsListed}
use Rattle.move_model.specs.Listed.GoesOnListed.{ends, boards}
use Rattle.move_model.specs.Listed.IsListed.{begins}
use Rattle.pareto_laws.proofs.Calls.{on_same, off_same}
use Rattle.network_file.specs.declared.compiled.Compiled.{Compiled}
use Rattle.network_file.specs.Answers.{Sums, Attains, IsMade, IsListedPoint, IsListedSpans}

transfer_between : (n : Network) (list : List Shortcut) (ride next : Ride) (on off on' off' : Call) (m : ℕ)
    → IsRide n ride on off → IsRide n next on' off' → HasTransfer list off.stop on'.stop m → TransferListed n list ride next
transfer_between n list ride next on off on' off' m is is' h a b a' b' ride_is next_is =
    let e = off_same n ride on off a b is ride_is in
    let f = on_same n next on' off' a' b' is' next_is in
    subst (λ (c : Call). (c.stop ≡ a'.stop) ⊎ ((k : ℕ) × Contains list (record { from = c.stop; to = a'.stop; seconds = k }))) e
    (subst (λ (c : Call). (off.stop ≡ c.stop) ⊎ ((k : ℕ) × Contains list (record { from = off.stop; to = c.stop; seconds = k }))) f
    (elim h [ inl same ↦ inl same.0 | inr listed ↦ inr (m, listed) ]))

rest_transfers : {n : Network} {last : List (Option ℕ)} {list : List Shortcut} {x : StopNo} {r arrive : ℕ} {rs : List Ride}
    → GoesOnListed n last list x r rs arrive → (ride : Ride) (on off : Call) → IsRide n ride on off → off.stop ≡ x
    → TransfersListed n list (ride ∷ rs)
rest_transfers (ends entry) ride on off is at = tt
rest_transfers {n} {list = list} (boards {m = m} {ride = next} {on = on'} {off = off'} transfer is' in_time further) ride on off is at = (
  transfer_between n list ride next on off on' off' m is is' (subst (λ v. HasTransfer list v on'.stop m) (sym at) transfer),
  rest_transfers further next on' off' is' refl,
)

listed_transfers : {n : Network} {first last : List (Option ℕ)} {list : List Shortcut} {d arrive : ℕ} {rs : List Ride}
    → IsListed n first last list d rs arrive → TransfersListed n list rs
listed_transfers (begins {ride = ride} {on = on} {off = off} entry is in_time further) = rest_transfers further ride on off is refl

attained_transfers : (c : Compiled) (sums : Sums) (d : ℕ) (rs : List Ride) (pair : Pair) → Attains c sums d rs pair → TransfersListed c.network c.shortcuts rs
attained_transfers c sums d rs pair (inl (no_ride, foot)) = subst (TransfersListed c.network c.shortcuts) (sym no_ride) tt
attained_transfers c sums d rs pair (inr (listed, many)) = listed_transfers listed

pub point_transfers : (c : Compiled) (s t : NodeNo) (d limit : ℕ) (found : List Finding) → IsListedPoint c s d t limit found
    → All (λ finding. TransfersListed c.network c.shortcuts finding.journey.rides) found
point_transfers c s t d limit found is =
    All-weaker (IsMade c is.sums s d t) (λ finding. TransfersListed c.network c.shortcuts finding.journey.rides)
    (λ finding made. attained_transfers c is.sums d finding.journey.rides finding.pair made.attains) found is.made

pub range_transfers : (c : Compiled) (s t : NodeNo) (limit first last : ℕ) (foot : Option Finding) (spans : List SpanFinding)
    → IsListedSpans c s t limit first last foot spans
    → All (λ found. TransfersListed c.network c.shortcuts found.finding.journey.rides) spans
range_transfers c s t limit first last foot spans is =
    All-weaker (λ found. IsMade c is.sums s found.last t found.finding) (λ found. TransfersListed c.network c.shortcuts found.finding.journey.rides)
    (λ found made. attained_transfers c is.sums found.last found.finding.journey.rides found.finding.pair made.attains) spans is.made
