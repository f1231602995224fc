use Rattle.std.proofs.Common.{◌≡◌, ◌+◌, ◌<◌, ◌∙◌, ℕ, List, length, vec_len, sym, ap, subst}
use Rattle.std.specs.Prelude.{All, slice_index}
use Rattle.route_split.specs.Route.{IsRoute}
use Rattle.two_trip_rides.specs.First.{Source}
use Rattle.two_trip_labels.specs.First.{AreRoutesOf, FirstGoes, FirstSound}
use Rattle.two_trip_labels.proofs.Viewed.{written}
use Rattle.two_trip_passes.specs.Stops.{IsStopBoarded, IsFootOf, AreDue}
use Rattle.witness_prune.proofs.labels.board.Goals as goal

pub board_all-requires-clause-whole : goal.board_all-requires-clause-whole
board_all-requires-clause-whole c =
    subst (λ (xs : List ℕ). All (IsRoute (length xs)) c.args.routes.now) (sym c.as_mut_slice.ensures.value) c.requires.whole

pub board_all-requires-clause-stops : goal.board_all-requires-clause-stops
board_all-requires-clause-stops c = c.requires.stops ∙ sym (ap length c.as_mut_slice.ensures.value)

pub board_all-requires-clause-foot : goal.board_all-requires-clause-foot
board_all-requires-clause-foot c = c.requires.foot ∙ sym (ap length c.as_mut_slice.ensures.value)

pub returns-clause-goes : goal.returns-clause-goes
returns-clause-goes c =
    let f = c.board_all.ensures in
    let new = c.board_all.new.first in
    let rows = c.args.rows.now in
    let many : length new ≡ vec_len c.args.first.now = f.goes.first_falls.as_many ∙ c.as_mut_slice.ensures.len in
    subst (λ (xs : List ℕ). FirstGoes c.args.routes.now c.args.foot.now c.args.second rows c.board_all.new.rows c.args.first.now.items xs)
    (sym (written new c.args.first.now.items (vec_len c.args.first.now) many))
    (subst (λ (xs : List ℕ). FirstGoes c.args.routes.now c.args.foot.now c.args.second rows c.board_all.new.rows xs new) c.as_mut_slice.ensures.value f.goes)

pub returns-clause-caught : goal.returns-clause-caught
returns-clause-caught c =
    subst (λ (xs : List ℕ). (x : ℕ) → x < length xs → c.args.second + slice_index c.args.foot.now x < c.args.before → IsStopBoarded c.args.routes.now (c.args.second + slice_index c.args.foot.now x + c.args.table.now.buffer) c.board_all.new.rows x)
    c.as_mut_slice.ensures.value c.board_all.ensures.caught

pub returns-clause-sound : goal.returns-clause-sound
returns-clause-sound c =
    let f = c.board_all.ensures in
    let new = c.board_all.new.first in
    let rows = c.args.rows.now in
    let many : length new ≡ vec_len c.args.first.now = f.goes.first_falls.as_many ∙ c.as_mut_slice.ensures.len in
    subst (λ (xs : List ℕ). (s : Source) → s.second ≡ c.args.second → s.network.buffer ≡ c.args.table.now.buffer → AreRoutesOf s.network.trips c.args.routes.now → IsFootOf s c.args.foot.now
    → FirstSound s c.args.routes.now rows c.args.first.now.items → FirstSound s c.args.routes.now c.board_all.new.rows xs)
    (sym (written new c.args.first.now.items (vec_len c.args.first.now) many))
    (subst (λ (xs : List ℕ). (s : Source) → s.second ≡ c.args.second → s.network.buffer ≡ c.args.table.now.buffer → AreRoutesOf s.network.trips c.args.routes.now → IsFootOf s c.args.foot.now
    → FirstSound s c.args.routes.now rows xs → FirstSound s c.args.routes.now c.board_all.new.rows new) c.as_mut_slice.ensures.value f.sound)

pub board_all-requires-clause-dues : goal.board_all-requires-clause-dues
board_all-requires-clause-dues c = ap length c.as_mut_slice-dues.ensures.value ∙ c.requires.dues ∙ sym (ap length c.as_mut_slice.ensures.value)

pub board_all-requires-clause-due : goal.board_all-requires-clause-due
board_all-requires-clause-due c = subst (λ (xs : List ℕ). AreDue c.args.routes.now c.args.rows.now xs) (sym c.as_mut_slice-dues.ensures.value) c.requires.due

pub returns-clause-dues : goal.returns-clause-dues
returns-clause-dues c =
    let new = c.board_all.new.due in
    let many : length new ≡ vec_len c.args.due.now = c.board_all.ensures.dues ∙ c.as_mut_slice-dues.ensures.len in
    ap length (written new c.args.due.now.items (vec_len c.args.due.now) many) ∙ c.board_all.ensures.dues ∙ ap length c.as_mut_slice-dues.ensures.value

pub returns-clause-due : goal.returns-clause-due
returns-clause-due c =
    let new = c.board_all.new.due in
    let many : length new ≡ vec_len c.args.due.now = c.board_all.ensures.dues ∙ c.as_mut_slice-dues.ensures.len in
    subst (λ (xs : List ℕ). AreDue c.args.routes.now c.board_all.new.rows xs) (sym (written new c.args.due.now.items (vec_len c.args.due.now) many)) c.board_all.ensures.due
