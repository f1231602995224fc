use Rattle.std.proofs.Common.{◌≡◌, false, true, not, refl, Bool, Option, Some, None, is_some}
use Rattle.std.specs.Prelude.{is_none}
use Rattle.core_search.specs.declared.label.Label.{Label}
use Rattle.core_search.proofs.SettleLemmas.{offered_settled}
use Rattle.core_search.proofs.settle.offer.Goals as goal

-- a test that is not passed
none_from : (r : Option Label) (b : Bool) → is_some r ≡ not b → b ≡ false → is_none r ≡ false
none_from r true test failed = absurd (cc)
none_from None false test failed = absurd (cc)
none_from (Some x) false test failed = refl

pub returns-else-is_none : goal.returns-else-is_none
returns-else-is_none c =
    offered_settled c.args.labels.now c.args.waiting.now c.args.to.0 c.args.label c.get.result c.get.ensures (none_from c.get.result c.is_none.result c.is_none.ensures c.if-is_none.false)
