-- Which entries have a form: those whose numbers and lengths are within the bytes that hold them.
--     ArcFits, StopFits, CallFits, TripFits, UpDownFits, BucketFits, ShortcutFits
use Rattle.std.specs.Prelude.{ℕ, ◌<◌, ◌^◌, length}
use Rattle.std.specs.List.{AllByRecursion}
use Rattle.move_model.specs.declared.network.Arc.{Arc}
use Rattle.move_model.specs.declared.network.Stop.{Stop}
use Rattle.move_model.specs.declared.network.Call.{Call}
use Rattle.move_model.specs.declared.network.Trip.{Trip}
use Rattle.move_model.specs.declared.journey.Shortcut.{Shortcut}
use Rattle.walk_hierarchy.specs.declared.arcs.UpDown.{UpDown}
use Rattle.bucket_walks.specs.declared.bucket.Bucket.{Bucket}

abbrev pub ArcFits : Arc → Type 0
ArcFits arc = (arc.from.0 < 2 ^ 32) × ((arc.to.0 < 2 ^ 32) × (arc.seconds < 2 ^ 32))

abbrev pub StopFits : Stop → Type 0
StopFits stop = (stop.node.0 < 2 ^ 32) × (length stop.name < 256)

abbrev pub CallFits : Call → Type 0
CallFits call = (call.stop.0 < 2 ^ 32) × ((call.arr < 2 ^ 32) × ((call.dep < 2 ^ 32) × Unit {0}))

abbrev pub TripFits : Trip → Type 0
TripFits trip = (length trip.name < 256) × ((length trip.calls < 2 ^ 32) × AllByRecursion CallFits trip.calls)

abbrev pub ShortcutFits : Shortcut → Type 0
ShortcutFits entry = (entry.from.0 < 2 ^ 32) × ((entry.to.0 < 2 ^ 32) × (entry.seconds < 2 ^ 64))

abbrev pub UpDownFits : UpDown → Type 0
UpDownFits arc = (arc.from.0 < 2 ^ 32) × ((arc.to.0 < 2 ^ 32) × ((arc.seconds < 2 ^ 64) × (arc.middle.0 < 2 ^ 32)))

abbrev pub BucketFits : Bucket → Type 0
BucketFits entry = (entry.node.0 < 2 ^ 32) × ((entry.stop.0 < 2 ^ 32) × (entry.seconds < 2 ^ 64))
