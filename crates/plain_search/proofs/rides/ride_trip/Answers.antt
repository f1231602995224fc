use Rattle.std.proofs.Common.{false, inl, inr, ◌∙◌, arith}
use Rattle.move_model.specs.declared.network.Call.{Call}
use Rattle.plain_search.proofs.Riding.{RidesOn-same, has_call, rode_left, rode_passed, rode_boarded, rode_missed, ridden_all}
use Rattle.plain_search.proofs.rides.ride_trip.Goals as goal
use Rattle.plain_search.proofs.rides.ride_trip.Goals.{in-Some-boarded+then-call+in_ok-leave-in-Some-boarded, in-Some-boarded+else-call, in-None+then-call-2+then-catches, in-None+else-call-2, else-call-2-via-then-call-2+else-catches, else-call-2-via-else-call-2}

pub loop-index-init : goal.loop-index-init
loop-index-init c =
    record {
      whole = c.requires;
      rides = RidesOn-same _ _ _;
      boards = λ k on within at may_board caught. absurd (omega arith);
      ridden = λ ride trip_is within on off is_ride caught inside. absurd (omega arith);
    }

pub loop-index-preserved : goal.loop-index-preserved
loop-index-preserved c =
    let zero_call : Call = record { stop = record { 0 = 0 }; arr = 0; dep = 0; board = false; alight = false } in
    let has = has_call c.args.network.now c.args.trip c.in-Some.found.now _ c.loop-index.index zero_call c.in-Some.ensures c.as_slice-call-items.ensures c.loop-index-test.true in
    let place_is = c.in-Ok.ensures.1 in
    elim c.match-boarded.branch [
      | in-Some-boarded+then-call+in_ok-leave-in-Some-boarded w ↦
          let here = w.in_ok-leave-in-Some-boarded.ensures in
          rode_left c.args.network.now c.args.before.now c.args.trip c.args.row.now c.loop-index.index _ has
          c.loop-index.boarded c.match-boarded.boarded c.loop-index.row c.match-boarded.row c.loop-index.invariant
          w.in-Some-boarded.board c.in-Ok.place w.node_of.result _ w.leave.new.row
          w.in-Some-boarded.is (cc w.if-call.true) here.whole here.leaves w.node_of.ensures (omega arith) place_is w.boarded-is w.row-is
      | in-Some-boarded+else-call w ↦
          rode_passed c.args.network.now c.args.before.now c.args.trip c.args.row.now c.loop-index.index _ has
          c.loop-index.boarded c.match-boarded.boarded c.loop-index.row c.match-boarded.row c.loop-index.invariant
          w.in-Some-boarded.board w.in-Some-boarded.is (cc w.if-call.false) w.boarded-is w.row-is
      | in-None+then-call-2+then-catches w ↦
          rode_boarded c.args.network.now c.args.before.now c.args.trip c.args.row.now c.loop-index.index _ has
          c.loop-index.boarded c.match-boarded.boarded c.loop-index.row c.match-boarded.row c.loop-index.invariant
          c.in-Ok.place w.in-None.is w.if-call-2.true w.if-catches.ensures place_is w.boarded-is w.row-is
      | in-None+else-call-2 w ↦
          rode_missed c.args.network.now c.args.before.now c.args.trip c.args.row.now c.loop-index.index _ has
          c.loop-index.boarded c.match-boarded.boarded c.loop-index.row c.match-boarded.row c.loop-index.invariant
          w.in-None.is
          (elim w.else-call-2.branch [
            | else-call-2-via-then-call-2+else-catches w' ↦ λ may_board. w'.if-catches.ensures
            | else-call-2-via-else-call-2 w' ↦ λ may_board caught. cc (w'.if-call-2.false, may_board)
          ])
          (w.boarded-is ∙ w.in-None.is) w.row-is
    ]

pub returns-after-loop-index-clause-ridden : goal.returns-after-loop-index-clause-ridden
returns-after-loop-index-clause-ridden c =
    ridden_all c.args.network.now c.args.before.now c.args.trip c.args.row.now c.loop-index.index c.loop-index.boarded c.loop-index.row
    c.in-Some.found.now c.as_slice-call-items.result.now c.in-Some.ensures c.as_slice-call-items.ensures (inl c.loop-index-test.false) c.loop-index.invariant

pub returns-in_default-try_from-clause-ridden : goal.returns-in_default-try_from-clause-ridden
returns-in_default-try_from-clause-ridden c =
    ridden_all c.args.network.now c.args.before.now c.args.trip c.args.row.now c.loop-index.index c.loop-index.boarded c.loop-index.row
    c.in-Some.found.now c.as_slice-call-items.result.now c.in-Some.ensures c.as_slice-call-items.ensures (inr (omega (arith, c.in_default-try_from.ensures))) c.loop-index.invariant
