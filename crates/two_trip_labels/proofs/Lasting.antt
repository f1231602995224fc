-- What is kept from a second serves for every earlier one.
use Rattle.std.proofs.Common.{ℕ, ◌≤◌, inl, inr, List, arith}
use Rattle.move_model.specs.declared.network.Network.{Network}
use Rattle.move_model.specs.declared.network.NodeNo.{NodeNo}
use Rattle.move_model.specs.declared.network.StopNo.{StopNo}
use Rattle.route_split.specs.Route.{Route}
use Rattle.piece_laws.specs.declared.labels.Ready.{Ready}
use Rattle.piece_laws.specs.declared.labels.Second.{Second}
use Rattle.piece_laws.specs.declared.labels.Held.{Held}
use Rattle.piece_laws.proofs.Earlier.{first_earlier, ready_earlier, second_earlier}
use Rattle.two_trip_rides.specs.First.{FirstClosed}
use Rattle.two_trip_rides.specs.Second.{IsCut, SecondClosed}
use Rattle.two_trip_labels.specs.Closed.{Parts, Kept, walked_at, boarded_at, best_at, place_label, IsClosed, IsSound}

first_closed : (route : Route) (foot : List ℕ) (z z' : ℕ) (held first : List ℕ) → z' ≤ z → FirstClosed route foot z held first → FirstClosed route foot z' held first
first_closed route foot z z' held first le c = record {
  goes = c.goes;
  leaves = λ k off at may low. elim (c.leaves k off at may low) [ inl w ↦ inl (omega (arith, w)) | inr l ↦ inr l ];
}

cut_earlier : (foot : List ℕ) (z z' : ℕ) (places : List ℕ) (ready : List Ready) (x : StopNo) (a : ℕ) → z' ≤ z → IsCut foot z places ready x a → IsCut foot z' places ready x a
cut_earlier foot z z' places ready x a le (inl w) = inl (omega (arith, w))
cut_earlier foot z z' places ready x a le (inr l) = inr l

second_closed : (route : Route) (foot : List ℕ) (z z' : ℕ) (places : List ℕ) (ready : List Ready) (held : List Held) (best : List Second) → z' ≤ z
    → SecondClosed route foot z places ready held best → SecondClosed route foot z' places ready held best
second_closed route foot z z' places ready held best le c = record {
  goes = c.goes;
  leaves = λ k off trip at may is. elim (c.leaves k off trip at may is) [ inl w ↦ inl (cut_earlier foot z z' places ready off.stop _ le w) | inr l ↦ inr l ];
}

pub closed_earlier : (n : Network) (z z' g h : ℕ) (p : Parts) (k : Kept) → z' ≤ z → IsClosed n p z g h k → IsClosed n p z' 0 0 k
closed_earlier n z z' g h p k le c = record {
  rows = record { each = λ r route is. first_closed route p.foot z z' _ k.first le (c.rows.each r route is) };
  caught = λ r i row route on is at may more within early late. absurd (omega (arith, early));
  first_low = c.first_low;
  walked_low = λ x within early. absurd (omega (arith, early));
  walks = λ x y x_in y_in soon. elim (c.walks x y x_in y_in soon) [ inl f ↦ inl (omega (arith, f)) | inr l ↦ inr l ];
  own_low = λ y within early. absurd (omega (arith, early));
  place_low = λ y within early. absurd (omega (arith, early));
  ridden = λ r i row route on is at may more within late. elim (c.ridden r i row route on is at may more within late) [ inl w ↦ inl (omega (arith, w)) | inr l ↦ inr l ];
  held_rows = record { each = λ r route is. second_closed route p.foot z z' p.places k.ready _ k.best le (c.held_rows.each r route is) };
}

pub closed_sooner : (n : Network) (z g h h' : ℕ) (p : Parts) (k : Kept) → h' ≤ h → IsClosed n p z g h k → IsClosed n p z g h' k
closed_sooner n z g h h' p k le c = record {
  rows = c.rows;
  caught = c.caught;
  first_low = c.first_low;
  walked_low = λ x within early. c.walked_low x within (omega (arith, le, early));
  walks = c.walks;
  own_low = λ y within early. c.own_low y within (omega (arith, le, early));
  place_low = λ y within early. c.place_low y within (omega (arith, le, early));
  ridden = c.ridden;
  held_rows = c.held_rows;
}

pub sound_earlier : (n : Network) (q : NodeNo) (z z' : ℕ) (p : Parts) (k : Kept) → z' ≤ z → IsSound n q z p k → IsSound n q z' p k
sound_earlier n q z z' p k le s = record {
  walked = λ x some. first_earlier n q z z' le x (walked_at k x) (s.walked x some);
  ready = λ y within some. let l = s.ready y within some in
      record { from = l.from; first = first_earlier n q z z' le l.from (place_label p k y).a1 l.first; walk = l.walk; between = l.between; ready_is = l.ready_is; c_is = l.c_is };
  ready_from = s.ready_from;
  boarded = λ y some. ready_earlier n q z z' le y (boarded_at k y) (s.boarded y some);
  best = λ v some. second_earlier n q z z' le v (best_at k v) (s.best v some);
}
