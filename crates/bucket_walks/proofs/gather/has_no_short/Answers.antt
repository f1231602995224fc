use Rattle.std.proofs.Common.{List, slice_index_or, subst, sym, refl, inl, inr, false, IsTrue, arith}
use Rattle.std.proofs.lemmas.List.{take_all}
use Rattle.bucket_walks.specs.declared.bypasses.Bypass.{Bypass}
use Rattle.bucket_walks.specs.Gathered.{IsShortBy, HasNoShort}
use Rattle.bucket_walks.proofs.ListLemmas.{taken_cases, read_is}
use Rattle.bucket_walks.proofs.gather.has_no_short.Goals as goal

abbrev no_arc : Bypass
no_arc = record { seconds = 0; node = record { 0 = 0 }; over = record { 0 = 0 } }

pub loop-arc-preserved : goal.loop-arc-preserved
loop-arc-preserved c arc has short =
    let arcs = c.args.arcs.now in
    let i = c.loop-arc.arc-index in
    let lt = c.loop-arc-test.true in
    elim (taken_cases arcs i (slice_index_or arcs i no_arc) arc lt (read_is arcs i no_arc lt) has) [
      | inl before ↦ c.loop-arc.invariant arc before short
      | inr e ↦
          let here : IsShortBy c.args.marks.now c.args.seconds (slice_index_or arcs i no_arc) =
          subst (λ (b : Bypass). IsShortBy c.args.marks.now c.args.seconds b) (sym e) short in
          let wrong : IsTrue false = c.if-is_short_by.ensures.1 here in
          cc
    ]

pub returns : goal.returns
returns c = (
  λ yes. subst (λ (arcs : List Bypass). HasNoShort arcs c.args.marks.now c.args.seconds) (take_all c.loop-arc.arc-index c.args.arcs.now (omega arith)) c.loop-arc.invariant,
  λ none. refl,
)
