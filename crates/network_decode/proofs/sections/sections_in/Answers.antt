use Rattle.std.proofs.Common.{[], List, ℕ, subst}
use Rattle.move_model.specs.declared.journey.Shortcut.{Shortcut}
use Rattle.bucket_walks.specs.declared.bucket.Bucket.{Bucket}
use Rattle.network_bytes.specs.Bytes.{long_list}
use Rattle.network_bytes.specs.Forms.{bucket_form, shortcut_form}
use Rattle.network_codec.specs.Rules.{AreEntries, AreShortcuts}
use Rattle.network_codec.specs.File.{Begins}
use Rattle.network_sections.specs.Front.{IsInFront, HasNoneInFront}
use Rattle.network_decode.specs.Value.{parts}
use Rattle.network_decode.specs.Sections.{parts_of}
use Rattle.network_decode.proofs.BeginLemmas.{begins-to, begins-from, begins-shortcuts}
use Rattle.network_decode.proofs.BrokenLemmas.{stopped, broken-to, broken-from, broken-shortcuts}
use Rattle.network_decode.proofs.sections.sections_in.Goals as goal

abbrev EntriesAt : ℕ → List ℕ → List Bucket → List ℕ → ℕ → Type 0
EntriesAt nodes bytes entries rest stops = IsInFront (long_list bucket_form) (AreEntries nodes stops) bytes entries rest

abbrev NoEntriesAt : ℕ → List ℕ → ℕ → Type 0
NoEntriesAt nodes bytes stops = HasNoneInFront (long_list bucket_form) (AreEntries nodes stops) bytes

abbrev ShortcutsAt : List ℕ → List Shortcut → List ℕ → ℕ → Type 0
ShortcutsAt bytes list rest stops = IsInFront (long_list shortcut_form) (AreShortcuts stops) bytes list rest

abbrev NoShortcutsAt : List ℕ → ℕ → Type 0
NoShortcutsAt bytes stops = HasNoneInFront (long_list shortcut_form) (AreShortcuts stops) bytes

pub returns-in-Err-clause-broken : goal.returns-in-Err-clause-broken
returns-in-Err-clause-broken c = stopped 7 c.args.version c.args.body.now c.in-Err.stop c.stop_in.result c.stop_in.ensures
    (λ is. broken-to c.args.version c.in_ok-network.network (parts_of c.in_ok-network.arcs) c.args.body.now c.in_ok-network.rest.now c.in_ok-network.ensures.found
    (subst (NoEntriesAt c.in_ok-network.network.nodes c.in_ok-network.rest.now) c.len-many.ensures (c.in-Err.ensures.broken (cc))))

pub returns-in-Err-buckets-clause-broken : goal.returns-in-Err-buckets-clause-broken
returns-in-Err-buckets-clause-broken c = stopped 8 c.args.version c.args.body.now c.in-Err-buckets.stop c.stop_in-in-Err-buckets.result c.stop_in-in-Err-buckets.ensures
    (λ is.
    let seven : Begins 7 c.args.version (parts c.in_ok-network.network (parts_of c.in_ok-network.arcs) c.in-Ok.found.0 [] []) c.args.body.now c.in-Ok.found.1.now =
    begins-to c.args.version c.in_ok-network.network (parts_of c.in_ok-network.arcs) c.in-Ok.found.0 c.args.body.now c.in_ok-network.rest.now c.in-Ok.found.1.now c.in_ok-network.ensures.found
    (subst (EntriesAt c.in_ok-network.network.nodes c.in_ok-network.rest.now c.in-Ok.found.0 c.in-Ok.found.1.now) c.len-many.ensures c.in-Ok.ensures.found) in
    broken-from c.args.version c.in_ok-network.network (parts_of c.in_ok-network.arcs) c.in-Ok.found.0 c.args.body.now c.in-Ok.found.1.now seven
    (subst (NoEntriesAt c.in_ok-network.network.nodes c.in-Ok.found.1.now) c.len-many.ensures (c.in-Err-buckets.ensures.broken (cc))))

pub returns-in-Err-shortcuts-clause-broken : goal.returns-in-Err-shortcuts-clause-broken
returns-in-Err-shortcuts-clause-broken c = stopped 9 c.args.version c.args.body.now c.in-Err-shortcuts.stop c.stop_in-in-Err-shortcuts.result c.stop_in-in-Err-shortcuts.ensures
    (λ is.
    let seven : Begins 7 c.args.version (parts c.in_ok-network.network (parts_of c.in_ok-network.arcs) c.in-Ok.found.0 [] []) c.args.body.now c.in-Ok.found.1.now =
    begins-to c.args.version c.in_ok-network.network (parts_of c.in_ok-network.arcs) c.in-Ok.found.0 c.args.body.now c.in_ok-network.rest.now c.in-Ok.found.1.now c.in_ok-network.ensures.found
    (subst (EntriesAt c.in_ok-network.network.nodes c.in_ok-network.rest.now c.in-Ok.found.0 c.in-Ok.found.1.now) c.len-many.ensures c.in-Ok.ensures.found) in
    let eight : Begins 8 c.args.version (parts c.in_ok-network.network (parts_of c.in_ok-network.arcs) c.in-Ok.found.0 c.in-Ok-buckets.found.0 []) c.args.body.now c.in-Ok-buckets.found.1.now =
    begins-from c.args.version c.in_ok-network.network (parts_of c.in_ok-network.arcs) c.in-Ok.found.0 c.in-Ok-buckets.found.0 c.args.body.now c.in-Ok.found.1.now c.in-Ok-buckets.found.1.now seven
    (subst (EntriesAt c.in_ok-network.network.nodes c.in-Ok.found.1.now c.in-Ok-buckets.found.0 c.in-Ok-buckets.found.1.now) c.len-many.ensures c.in-Ok-buckets.ensures.found) in
    broken-shortcuts c.args.version c.in_ok-network.network (parts_of c.in_ok-network.arcs) c.in-Ok.found.0 c.in-Ok-buckets.found.0 c.args.body.now c.in-Ok-buckets.found.1.now eight
    (subst (NoShortcutsAt c.in-Ok-buckets.found.1.now) c.len-many.ensures (c.in-Err-shortcuts.ensures.broken (cc))))

pub returns-clause-found : goal.returns-clause-found
returns-clause-found c =
    let seven : Begins 7 c.args.version (parts c.in_ok-network.network (parts_of c.in_ok-network.arcs) c.in-Ok.found.0 [] []) c.args.body.now c.in-Ok.found.1.now =
    begins-to c.args.version c.in_ok-network.network (parts_of c.in_ok-network.arcs) c.in-Ok.found.0 c.args.body.now c.in_ok-network.rest.now c.in-Ok.found.1.now c.in_ok-network.ensures.found
    (subst (EntriesAt c.in_ok-network.network.nodes c.in_ok-network.rest.now c.in-Ok.found.0 c.in-Ok.found.1.now) c.len-many.ensures c.in-Ok.ensures.found) in
    let eight : Begins 8 c.args.version (parts c.in_ok-network.network (parts_of c.in_ok-network.arcs) c.in-Ok.found.0 c.in-Ok-buckets.found.0 []) c.args.body.now c.in-Ok-buckets.found.1.now =
    begins-from c.args.version c.in_ok-network.network (parts_of c.in_ok-network.arcs) c.in-Ok.found.0 c.in-Ok-buckets.found.0 c.args.body.now c.in-Ok.found.1.now c.in-Ok-buckets.found.1.now seven
    (subst (EntriesAt c.in_ok-network.network.nodes c.in-Ok.found.1.now c.in-Ok-buckets.found.0 c.in-Ok-buckets.found.1.now) c.len-many.ensures c.in-Ok-buckets.ensures.found) in
    begins-shortcuts c.args.version c.in_ok-network.network (parts_of c.in_ok-network.arcs) c.in-Ok.found.0 c.in-Ok-buckets.found.0 c.in-Ok-shortcuts.found.0 c.args.body.now c.in-Ok-buckets.found.1.now c.in-Ok-shortcuts.found.1.now eight
    (subst (ShortcutsAt c.in-Ok-buckets.found.1.now c.in-Ok-shortcuts.found.0 c.in-Ok-shortcuts.found.1.now) c.len-many.ensures c.in-Ok-shortcuts.ensures.found)
