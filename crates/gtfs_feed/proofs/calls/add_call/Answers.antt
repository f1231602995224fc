use Rattle.std.proofs.Common.{◌∙◌, sym, ap}
use Rattle.csv.specs.Records.{fields_of}
use Rattle.gtfs_feed.specs.declared.calls.RowCall.{RowCall}
use Rattle.gtfs_feed.specs.KeptCalls.{rows_in}
use Rattle.gtfs_feed.proofs.CallsTable.{grows-some, grows-none, none-of}
use Rattle.gtfs_feed.proofs.calls.add_call.Goals as goal

pub returns-in_ok-push_call-clause-calls : goal.returns-in_ok-push_call-clause-calls
returns-in_ok-push_call-clause-calls c =
    grows-some c.args.columns.now (rows_in c.args.stops.now) c.args.trips.now c.args.number (fields_of c.args.row.now) c.in_ok-found.found.trip c.in-Some.call c.args.kept.now.items
    c.push_call.new.kept.items c.in_ok-found.ensures.place (sym (ap (λ (r : RowCall). r.call) c.in_ok-found.ensures.value.1) ∙ c.in-Some.is) c.in_ok-push_call.ensures.calls

pub returns-in_default-clause-calls : goal.returns-in_default-clause-calls
returns-in_default-clause-calls c =
    grows-none c.args.columns.now (rows_in c.args.stops.now) c.args.trips.now c.args.number (fields_of c.args.row.now) c.args.kept.now.items
    (sym (ap (λ (r : RowCall). r.call) c.in_ok-found.ensures.value.1) ∙ none-of c.in_ok-found.found.call c.in_default.not-Some)
