-- Equal keys.
use Rattle.std.proofs.Common.{◌≡◌, ℕ, ◌+◌, sym, ap, ◌∙◌}
use Rattle.move_model.specs.declared.network.Network.{Network}
use Rattle.move_model.specs.declared.network.StopNo.{StopNo}
use Rattle.move_model.specs.declared.journey.Key.{Key}
use Rattle.move_model.specs.Shortcut.{Piece, IsPiece, key_of, entry_of, IsCandidate}
use Rattle.pareto_laws.proofs.Calls.{stop_eq}
use Rattle.pareto_laws.proofs.Exchange.{entry_of_same, entry_of_other, entry_of_zero}
use Rattle.piece_laws.proofs.Entries.{entry_of_is}

pub record IsSamePair (p q : Piece) : Type 0 where
  pub from : q.off1.stop ≡ p.off1.stop
  pub to : q.on2.stop ≡ p.on2.stop
  pub arrives : q.off1.arr ≡ p.off1.arr

-- a piece with a candidate's key walks between the same stops, and is left there at the same second
pub same_pair : (n : Network) (u : StopNo) (z : ℕ) (v : StopNo) (p q : Piece) → IsCandidate n u z v p → key_of v q ≡ key_of v p → IsSamePair p q
same_pair n u z v p q candidate e =
    let y : q.on2.stop ≡ p.on2.stop = stop_eq q.on2.stop p.on2.stop (ap (λ (k : Key). k.y) e) in
    let c : entry_of q.off1.stop q.on2.stop ≡ 1 + p.off1.stop.0 = ap (λ (k : Key). k.c) e ∙ entry_of_other p.off1.stop p.on2.stop candidate.walks in
    record { from = (entry_of_is q.off1.stop p.off1.stop q.on2.stop c).same; to = y; arrives = ap (λ (k : Key). k.a1) e }

-- and it is a candidate exactly where it boards at u at z and the buffer
pub same_candidate : (n : Network) (u : StopNo) (z : ℕ) (v : StopNo) (p q : Piece) → IsCandidate n u z v p → key_of v q ≡ key_of v p
    → IsPiece n u z v q → q.on1.stop ≡ u → q.on1.dep ≡ z + n.buffer → IsCandidate n u z v q
same_candidate n u z v p q candidate e is at departs =
    let same = same_pair n u z v p q candidate e in
    record {
      is_piece = is;
      boards_at = at;
      departs = departs;
      leaves_at = entry_of_zero q.off2.stop v (ap (λ (k : Key). k.e) e ∙ ap (λ (w : StopNo). entry_of w v) candidate.leaves_at ∙ entry_of_same v);
      walks = λ f. candidate.walks (sym same.from ∙ f ∙ same.to);
    }
