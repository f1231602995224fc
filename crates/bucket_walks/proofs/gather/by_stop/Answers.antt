use Rattle.std.proofs.Common.{◌≡◌, ◌∙◌, ◌↔◌, ℕ, length, refl, subst, arith}
use Rattle.std.specs.Prelude.{Contains}
use Rattle.std.proofs.lemmas.Option.{slice_get_read}
use Rattle.bucket_walks.proofs.EntryLemmas.{IsEntryBefore, entries_more, entries_earlier, entries_all}
use Rattle.bucket_walks.proofs.gather.by_stop.Goals as goal

pub add_stop-requires-clause-earlier : goal.add_stop-requires-clause-earlier
add_stop-requires-clause-earlier g c =
    entries_earlier c.args.side c.args.hierarchy.now c.args.stops.now c.loop-number.list.items c.loop-number.number c.loop-number.invariant.entries

pub loop-number-preserved : goal.loop-number-preserved
loop-number-preserved g c =
    let n = c.loop-number.number in
    let stop = c.index-stops-number.result in
    record {
      entries = entries_more c.args.side c.args.hierarchy.now c.args.stops.now c.loop-number.list.items c.add_stop.new.list.items n stop
          (slice_get_read c.args.stops.now (length c.args.stops.now) n stop refl c.loop-number-test.true c.index-stops-number.is) c.loop-number.invariant.entries c.in_ok-add_stop.ensures.entries;
      apart = c.in_ok-add_stop.ensures.apart;
      none = c.in_ok-add_stop.ensures.none;
      places = omega (arith, c.loop-number.invariant.places, c.add_stop.auto.marks);
      nodes = c.in_ok-add_stop.ensures.nodes ∙ c.loop-number.invariant.nodes;
    }

pub returns-clause-entries : goal.returns-clause-entries
returns-clause-entries g c =
    let end : c.loop-number.number ≡ length c.args.stops.now = omega arith in
    entries_all c.args.side c.args.hierarchy.now c.args.stops.now c.loop-number.list.items
    (λ entry. subst (λ (n : ℕ). Contains c.loop-number.list.items entry ↔ IsEntryBefore c.args.side c.args.hierarchy.now c.args.stops.now n entry) end (c.loop-number.invariant.entries entry))
