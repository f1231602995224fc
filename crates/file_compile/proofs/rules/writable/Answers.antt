use Rattle.std.proofs.Common.{sym, subst}
use Rattle.network_codec.specs.declared.version.Version.TheVariants as version
use Rattle.network_codec.specs.Rules.{AreStreets, AreStops, AreTrips}
use Rattle.file_compile.proofs.StorableLemmas.{streets_stored, stops_stored, trips_stored}
use Rattle.file_compile.proofs.rules.writable.Goals as goal

pub keeps_rules-requires-clause-streets : goal.keeps_rules-requires-clause-streets
keeps_rules-requires-clause-streets c = subst (AreStreets version.Two) (sym c.in_ok-compiled.ensures.network) (streets_stored c.args.network c.requires)

pub keeps_rules-requires-clause-stops : goal.keeps_rules-requires-clause-stops
keeps_rules-requires-clause-stops c = subst AreStops (sym c.in_ok-compiled.ensures.network) (stops_stored c.args.network c.requires)

pub keeps_rules-requires-clause-trips : goal.keeps_rules-requires-clause-trips
keeps_rules-requires-clause-trips c = subst AreTrips (sym c.in_ok-compiled.ensures.network) (trips_stored c.args.network c.requires)
