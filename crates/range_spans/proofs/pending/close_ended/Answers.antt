use Rattle.std.proofs.Common.{◌∙◌, sym}
use Rattle.range_spans.specs.Open.Closing.{stays}
use Rattle.range_spans.proofs.Loop.{closes_at, stays_none}
use Rattle.range_spans.proofs.pending.close_ended.Goals as goal

pub returns-then-is_led : goal.returns-then-is_led
returns-then-is_led c = stays (λ s e. c.is_led.ensures.led c.if-is_led.true s e)

pub returns-in_ok-push-in-Some : goal.returns-in_ok-push-in-Some
returns-in_ok-push-in-Some c =
    let was = sym c.take.ensures.value ∙ c.in-Some.is in
    closes_at c.args.lead c.args.trips c.args.first c.args.pending.now c.take.new.self c.args.closed.now.items c.push.new.self.items c.in-Some.span
    was c.take.ensures.after (λ e. c.is_led.ensures.ended c.if-is_led.false c.in-Some.span was e) c.in_ok-push-in-Some.ensures.items

pub returns-in-None : goal.returns-in-None
returns-in-None c =
    stays_none c.args.lead c.args.trips c.args.first c.args.pending.now c.take.new.self c.args.closed.now.items (sym c.take.ensures.value ∙ c.in-None.is) c.take.ensures.after
