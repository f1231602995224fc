use Rattle.std.proofs.Common.{◌≡◌, ◌<◌, length, set, true, None, ap, subst, ◌∙◌, rules}
use Rattle.std.proofs.lemmas.Option.{slice_get_within, get_or_from_slice_get}
use Rattle.std.proofs.lemmas.List.Elements.{All-get_or}
use Rattle.raptor_rounds.specs.Answers.{HasSeconds}
use Rattle.std.specs.Prelude.{vec_len}
use Rattle.std.proofs.lemmas.List.{length-set}
use Rattle.raptor_rounds.specs.declared.labels.Ready.{Ready}
use Rattle.raptor_rounds.proofs.BeginLemmas.{reset_some, reset_none}
use Rattle.raptor_rounds.proofs.turns.reset.Goals as goal
use Rattle.raptor_rounds.proofs.turns.reset.Goals.{then-second-lt-NEVER, else-second-lt-NEVER}

pub loop-x-init : goal.loop-x-init
loop-x-init c = record { sizes = c.forget.ensures.sizes; reset = c.forget.ensures.reset c.args.first.now c.args.depart; best = c.forget.ensures.best }

pub start_second-second-requires : goal.start_second-second-requires
start_second-second-requires c =
    let first = c.args.first.now in
    let x = c.loop-x.x in
    subst HasSeconds (get_or_from_slice_get first x c.get.result None c.get.ensures)
    (All-get_or HasSeconds first x None (slice_get_within first x c.get.result c.get.ensures) c.requires.bound)

pub loop-x-preserved : goal.loop-x-preserved
loop-x-preserved c =
    let was = c.loop-x.invariant in
    let x = c.loop-x.x in
    let ready = c.loop-x.ready in
    let v = c.start_second-second.result in
    let in_seconds : x < length ready.seconds = search rules in
    let in_by : x < length ready.by.items = search rules in
    let in_better : x < length ready.better = search rules in
    elim c.if-second-lt-NEVER.branch [
      | then-second-lt-NEVER w ↦
          let seconds_is : c.if-second-lt-NEVER.ready.seconds ≡ set ready.seconds x v = ap (λ (r : Ready). r.seconds) w.ready-is ∙ w.set.ensures in
          let by_is : c.if-second-lt-NEVER.ready.by.items ≡ set ready.by.items x 0 = ap (λ (r : Ready). r.by.items) w.ready-is in
          let better_is : c.if-second-lt-NEVER.ready.better ≡ set ready.better x true = ap (λ (r : Ready). r.better) w.ready-is ∙ w.insert.ensures in
          record {
            sizes = record {
              seconds = ap length seconds_is ∙ length-set ready.seconds x v ∙ was.sizes.seconds;
              by = ap (λ (r : Ready). vec_len r.by) w.ready-is ∙ was.sizes.by;
              better = ap length better_is ∙ length-set ready.better x true ∙ was.sizes.better;
              left = was.sizes.left;
              steps = was.sizes.steps;
              fresh = was.sizes.fresh;
            };
            reset = reset_some c.args.first.now c.args.depart x v _ ready c.if-second-lt-NEVER.ready c.forget.new.found was.reset c.get.ensures c.start_second-second.ensures
                in_seconds in_by in_better seconds_is by_is better_is;
            best = was.best;
          }
      | else-second-lt-NEVER w ↦
          rw w.ready-is (record {
            sizes = was.sizes;
            reset = reset_none c.args.first.now c.args.depart x v _ ready c.forget.new.found was.reset c.get.ensures c.start_second-second.ensures w.if-second-lt-NEVER.false in_seconds;
            best = was.best;
          })
    ]
