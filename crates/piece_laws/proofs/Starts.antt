-- The shortcuts are the needed walks of all starts.
use Rattle.std.proofs.Common.{◌≡◌, ℕ, List, [], ◌∷◌, sym, subst, inl, inr, arith}
use Rattle.std.specs.Prelude.{◌↔◌, Contains}
use Rattle.move_model.specs.declared.network.Network.{Network}
use Rattle.move_model.specs.declared.network.NodeNo.{NodeNo}
use Rattle.move_model.specs.declared.network.StopNo.{StopNo}
use Rattle.move_model.specs.declared.journey.Shortcut.{Shortcut}
use Rattle.move_model.specs.Streets.{IsDistance}
use Rattle.move_model.specs.Network.{node_of, streets}
use Rattle.move_model.specs.Journey.{IsJourney}
use Rattle.move_model.specs.Shortcut.{Piece, IsStart, IsCandidate, IsBettered, IsShortcut}
use Rattle.move_model.specs.Shortcut.IsBettered.{by_piece, by_journey}
use Rattle.pareto_laws.proofs.LeastArcs.{Contains-here, Contains-cons_cases}
use Rattle.pareto_laws.proofs.Calls.{call_after}
use Rattle.piece_laws.specs.Pieces.{IsNeeded, IsOfStart}

-- the one item of a list
only : (u w : StopNo) → Contains (u ∷ []) w → u ≡ w
only u w has = elim (Contains-cons_cases u [] w has) [ inl e ↦ e | inr none ↦ absurd (omega (arith, none.1)) ]

pub shortcut_of : (n : Network) (s : Shortcut) → IsShortcut n s ↔ IsOfStart n s
shortcut_of n s = (
  λ i. record {
    u = i.u;
    z = i.z;
    start = i.start;
    needed = record { u = i.u; v = i.v; piece = i.piece; leaves = Contains-here i.u []; candidate = i.candidate; needed = i.needed; from_is = sym i.from_is; to_is = sym i.to_is };
    seconds_are = i.seconds_are;
  },
  λ i.
      let d = i.needed in
      let e : d.u ≡ i.u = sym (only i.u d.u d.leaves) in
      record {
        u = i.u;
        z = i.z;
        v = d.v;
        piece = d.piece;
        start = i.start;
        candidate = subst (λ (u : StopNo). IsCandidate n u i.z d.v d.piece) e d.candidate;
        needed = subst (λ (u : StopNo). ¬ (IsBettered n u i.z d.v d.piece)) e d.needed;
        from_is = sym d.from_is;
        to_is = sym d.to_is;
        seconds_are = i.seconds_are;
      },
)

pub needed_together : (n : Network) (us : List StopNo) (z : ℕ) (x y : StopNo)
    → IsNeeded n us z x y ↔ ((u : StopNo) × Contains us u × IsNeeded n (u ∷ []) z x y)
needed_together n us z x y = (
  λ d. (d.u, d.leaves, record { u = d.u; v = d.v; piece = d.piece; leaves = Contains-here d.u []; candidate = d.candidate; needed = d.needed; from_is = d.from_is; to_is = d.to_is }),
  λ i.
      let d = i.2 in
      record {
        u = d.u;
        v = d.v;
        piece = d.piece;
        leaves = subst (λ (u : StopNo). Contains us u) (only i.0 d.u d.leaves) i.1;
        candidate = d.candidate;
        needed = d.needed;
        from_is = d.from_is;
        to_is = d.to_is;
      },
)

pub needed_start : (n : Network) (us : List StopNo) (z : ℕ) (x y : StopNo) → IsNeeded n us z x y → (u : StopNo) × Contains us u × IsStart n u z
needed_start n us z x y d =
    let ride = d.candidate.is_piece.first_ride in
    let next = call_after n d.piece.first.trip d.piece.first.board d.piece.first.alight d.piece.off1 ride.forward ride.leaves in (
      d.u,
      d.leaves,
      record {
        trip = d.piece.first.trip;
        place = d.piece.first.board;
        call = d.piece.on1;
        next = next.0;
        calls = ride.boards;
        at_stop = d.candidate.boards_at;
        departs = d.candidate.departs;
        may_board = ride.may_board;
        goes_on = next.1;
      },
    )

pub bettered_alike : (n : Network) (u w : StopNo) (z : ℕ) (v : StopNo) (piece : Piece) → node_of n u ≡ node_of n w
    → IsBettered n u z v piece → IsBettered n w z v piece
bettered_alike n u w z v piece e (by_piece other is less) =
    by_piece other (record {
      first_ride = is.first_ride;
      second_ride = is.second_ride;
      walk1 = is.walk1;
      to_first = subst (λ (q : NodeNo). IsDistance (streets n) q (node_of n other.on1.stop) is.walk1) e is.to_first;
      in_time1 = is.in_time1;
      walk2 = is.walk2;
      between = is.between;
      ready_is = is.ready_is;
      in_time2 = is.in_time2;
      walk3 = is.walk3;
      to_end = is.to_end;
      arrive_is = is.arrive_is;
    }) less
bettered_alike n u w z v piece e (by_journey journey arrive departs few leads no_later) =
    by_journey journey arrive departs few (subst (λ (q : NodeNo). IsJourney n q journey (node_of n v) arrive) e leads) no_later
