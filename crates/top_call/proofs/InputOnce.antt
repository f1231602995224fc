-- The files of a plan are not both accepted and rejected.
use Rattle.std.proofs.Common.{◌≡◌, ◌⊎◌, ℕ, List, Option, Some, None, IfSome, refl, ap, inl, inr}
use Rattle.move_model.specs.declared.network.Network.{Network}
use Rattle.move_model.specs.declared.refusal.FileKind.{FileKind}
use Rattle.move_model.specs.declared.refusal.FileKind.TheVariants as kind
use Rattle.move_model.specs.declared.refusal.Refusal.{Refusal}
use Rattle.move_model.specs.Network.{streets}
use Rattle.move_model.specs.Streets.{Streets}
use Rattle.gtfs_feed.specs.declared.feed.Feed.{Feed}
use Rattle.query_table.specs.Places.{place_broken, node_broken, stop_broken}
use Rattle.query_table.specs.Queries.{IsQueryRefusal, columns_in}
use Rattle.query_table.specs.Rules.{query_rules}
use Rattle.query_table.proofs.Files.{not_both, one_refusal}
use Rattle.top_call.specs.declared.status.Status.{Status}
use Rattle.top_call.specs.declared.status.Status.TheVariants as status
use Rattle.move_files.specs.Outside.{Rose}
use Rattle.move_files.specs.declared.outside.Files.{Ghosts}
use Rattle.top_call.specs.Status.{FailsFile}
use Rattle.top_call.specs.Words.{Plan, name_in}
use Rattle.top_call.specs.Input.{Held, feed_order, IsFeedIn, IsNetworkIn, InputAccepted}
use Rattle.top_call.specs.Rejected.{ComesUnlessStopped, NoneRose, FitsInput, RejectsFeed, RejectsNetwork, RejectsInput, by_feed_file, by_feed_rule, by_feed, by_day, by_graph, by_stops, by_network, by_queries_file, by_queries_rule}
use Rattle.top_call.proofs.FeedOnce.{feed_once, feed_not_both}
use Rattle.top_call.proofs.DayOnce.{day_not_both, day_rejected_once}
use Rattle.top_call.proofs.StreetsOnce.{all_not_both, readable_not_both, is_readable, one_text, file_once, files_once, graph_once, graph_not_both}
use Rattle.top_call.proofs.StopsOnce.{stops_once, stops_not_both, stops_rejected_once}
use Rattle.top_call.proofs.StreetsRejected.{same_refusal, graph_rejected_once}
use Rattle.top_call.proofs.FeedRefusal.{feed_refusal_once}

feed-rejected : (held : Held) (feed : Feed) (s : Status) → IsFeedIn held feed → RejectsFeed held s → ⊥
feed-rejected held feed s a (by_feed_file r) = all_not_both held feed_order s a.readable r
feed-rejected held feed s a (by_feed_rule files readable are refused) = feed_not_both held feed files _ _ _ a are refused

network-rejected : (plan : Plan) (held : Held) (n : Network) (s : Status) → IsNetworkIn plan held n → RejectsNetwork plan held s → ⊥
network-rejected plan held n s a (by_feed r) = feed-rejected held a.feed _ a.read r
network-rejected plan held n s a (by_day feed read r) =
    let same = feed_once held feed a.feed read a.read in day_not_both plan.date a.feed n.trips _ a.trips (rw same at r)
network-rejected plan held n s a (by_graph feed trips read day r) = graph_not_both held (streets n) _ a.graph r
network-rejected plan held n s a (by_stops feed trips g read day graph r) =
    let same = feed_once held feed a.feed read a.read in
    let nodes : g.nodes ≡ n.nodes = ap (λ (g : Streets). g.nodes) (graph_once held g (streets n) graph a.graph) in
    stops_not_both plan held a.feed n.nodes n.stops _ a.stops (rw (same, nodes) at r)

same-nodes : (plan : Plan) (held : Held) (n m : Network) → IsNetworkIn plan held n → IsNetworkIn plan held m → n.nodes ≡ m.nodes
same-nodes plan held n m a b = ap (λ (g : Streets). g.nodes) (graph_once held (streets n) (streets m) a.graph b.graph)

same-stops : (plan : Plan) (held : Held) (n m : Network) → IsNetworkIn plan held n → IsNetworkIn plan held m → n.stops ≡ m.stops
same-stops plan held n m a b =
    let feed = feed_once held a.feed b.feed a.read b.read in
    stops_once plan held b.feed m.nodes n.stops m.stops (rw (← feed, ← same-nodes plan held n m a b) a.stops) b.stops

-- the rules of queries look at the vertices and the stops alone
same-rules : (n m : Network) (text : List ℕ) → n.nodes ≡ m.nodes → n.stops ≡ m.stops → query_rules n (columns_in text) ≡ query_rules m (columns_in text)
unfolding query_rules place_broken node_broken stop_broken
same-rules n m text nodes stops = rw (nodes, stops) refl

refused-again : (n m : Network) (text : List ℕ) (r : Refusal) → n.nodes ≡ m.nodes → n.stops ≡ m.stops → IsQueryRefusal n text r → IsQueryRefusal m text r
unfolding IsQueryRefusal
refused-again n m text r nodes stops (file, h) = (file, rw (← same-rules n m text nodes stops) h)

pub input_not_both : (plan : Plan) (held : Held) (s : Status) → InputAccepted plan held → RejectsInput plan held s → ⊥
input_not_both plan held s a (by_network r) = network-rejected plan held a.network _ a.input.told r
input_not_both plan held s a (by_queries_file n told r) = readable_not_both held kind.Queries _ (is_readable held kind.Queries a.input.asked.text a.input.asked.read) r
input_not_both plan held s a (by_queries_rule {r = r} n text told read refused) =
    let same = one_text held kind.Queries text a.input.asked.text read a.input.asked.read in
    not_both a.network a.input.asked.text r a.input.asked.accepted
    (refused-again n a.network a.input.asked.text r (same-nodes plan held n a.network told a.input.told) (same-stops plan held n a.network told a.input.told) (rw same at refused))

feed-rejected-once : (held : Held) (s t : Status) → RejectsFeed held s → RejectsFeed held t → s ≡ t
feed-rejected-once held s t (by_feed_file a) (by_feed_file b) = files_once held feed_order s t a b
feed-rejected-once held s t (by_feed_file a) (by_feed_rule files readable are b) = absurd (all_not_both held feed_order s readable a)
feed-rejected-once held s t (by_feed_rule files readable are a) (by_feed_file b) = absurd (all_not_both held feed_order t readable b)
feed-rejected-once held s t (by_feed_rule {r = r} files readable are a) (by_feed_rule {r = q} others readable' are' b) =
    let one = feed_refusal_once held files others r.file q.file r.row q.row r.cause q.cause are are' a b in
    ap (λ r. status.Refused r) (same_refusal r q one.0 one.1 one.2)

network-rejected-once : (plan : Plan) (held : Held) (s t : Status) → RejectsNetwork plan held s → RejectsNetwork plan held t → s ≡ t
network-rejected-once plan held s t (by_feed a) (by_feed b) = feed-rejected-once held _ _ a b
network-rejected-once plan held s t (by_feed a) (by_day feed read b) = absurd (feed-rejected held feed _ read a)
network-rejected-once plan held s t (by_feed a) (by_graph feed trips read day b) = absurd (feed-rejected held feed _ read a)
network-rejected-once plan held s t (by_feed a) (by_stops feed trips g read day graph b) = absurd (feed-rejected held feed _ read a)
network-rejected-once plan held s t (by_day feed read a) (by_feed b) = absurd (feed-rejected held feed _ read b)
network-rejected-once plan held s t (by_day feed read a) (by_day other read' b) = day_rejected_once plan.date other _ _ (rw (feed_once held feed other read read') at a) b
network-rejected-once plan held s t (by_day feed read a) (by_graph other trips read' day b) = absurd (day_not_both plan.date other trips _ day (rw (feed_once held feed other read read') at a))
network-rejected-once plan held s t (by_day feed read a) (by_stops other trips g read' day graph b) = absurd (day_not_both plan.date other trips _ day (rw (feed_once held feed other read read') at a))
network-rejected-once plan held s t (by_graph feed trips read day a) (by_feed b) = absurd (feed-rejected held feed _ read b)
network-rejected-once plan held s t (by_graph feed trips read day a) (by_day other read' b) = absurd (day_not_both plan.date feed trips _ day (rw (feed_once held other feed read' read) at b))
network-rejected-once plan held s t (by_graph feed trips read day a) (by_graph other trips' read' day' b) = graph_rejected_once held _ _ a b
network-rejected-once plan held s t (by_graph feed trips read day a) (by_stops other trips' g read' day' graph b) = absurd (graph_not_both held g _ graph a)
network-rejected-once plan held s t (by_stops feed trips g read day graph a) (by_feed b) = absurd (feed-rejected held feed _ read b)
network-rejected-once plan held s t (by_stops feed trips g read day graph a) (by_day other read' b) = absurd (day_not_both plan.date feed trips _ day (rw (feed_once held other feed read' read) at b))
network-rejected-once plan held s t (by_stops feed trips g read day graph a) (by_graph other trips' read' day' b) = absurd (graph_not_both held g _ graph b)
network-rejected-once plan held s t (by_stops feed trips g read day graph a) (by_stops other trips' h read' day' graph' b) =
    let nodes : g.nodes ≡ h.nodes = ap (λ (g : Streets). g.nodes) (graph_once held g h graph graph') in
    stops_rejected_once plan held other h.nodes _ _ (rw (feed_once held feed other read read', nodes) at a) b

-- there is one first thing that is wrong with the files
pub rejected_once : (plan : Plan) (held : Held) (s t : Status) → RejectsInput plan held s → RejectsInput plan held t → s ≡ t
rejected_once plan held s t (by_network a) (by_network b) = network-rejected-once plan held _ _ a b
rejected_once plan held s t (by_network a) (by_queries_file n told b) = absurd (network-rejected plan held n _ told a)
rejected_once plan held s t (by_network a) (by_queries_rule n text told read b) = absurd (network-rejected plan held n _ told a)
rejected_once plan held s t (by_queries_file n told a) (by_network b) = absurd (network-rejected plan held n _ told b)
rejected_once plan held s t (by_queries_file n told a) (by_queries_file m told' b) = file_once held kind.Queries _ _ a b
rejected_once plan held s t (by_queries_file n told a) (by_queries_rule m text told' read b) = absurd (readable_not_both held kind.Queries _ (is_readable held kind.Queries text read) a)
rejected_once plan held s t (by_queries_rule n text told read a) (by_network b) = absurd (network-rejected plan held n _ told b)
rejected_once plan held s t (by_queries_rule n text told read a) (by_queries_file m told' b) = absurd (readable_not_both held kind.Queries _ (is_readable held kind.Queries text read) b)
rejected_once plan held s t (by_queries_rule {r = r} n text told read a) (by_queries_rule {r = q} m other told' read' b) =
    let same = one_text held kind.Queries text other read read' in
    ap (λ r. status.Refused r) (one_refusal m other r q
    (refused-again n m other r (same-nodes plan held n m told told') (same-stops plan held n m told told') (rw same at a)) b)

-- what fits the files, where they are rejected, and where they are accepted
rejection : (plan : Plan) (held : Held) (result s : Status) → FitsInput plan held result → RejectsInput plan held s → ComesUnlessStopped s result
unfolding FitsInput
rejection plan held (status.Refused r) s fits h = inl (rejected_once plan held _ s fits h)
rejection plan held (status.NoFile k) s fits h = inl (rejected_once plan held _ s fits h)
rejection plan held (status.ReadFault k) s fits h = inr (inr (k, refl))
rejection plan held status.NoMemory s fits h = inr (inl refl)
rejection plan held status.Done s fits h = absurd (input_not_both plan held s fits h)
rejection plan held status.WriteFault s fits h = absurd (input_not_both plan held s fits h)
rejection plan held status.Usage s fits h = absurd fits

pub rejection_told : (o : Option Plan) (held : Plan → Held) (result s : Status) → IfSome o (λ plan. FitsInput plan (held plan) result)
    → IfSome o (λ plan. RejectsInput plan (held plan) s → ComesUnlessStopped s result)
rejection_told None held result s fits = tt
rejection_told (Some plan) held result s fits = λ h. rejection plan (held plan) result s fits h

module _ {F : Type 0} (files : Ghosts F) (before after : F) (w w' : ℕ) where
  completed : (plan : Plan) (held : Held) (result : Status) → FitsInput plan held result
      → ((k : FileKind) → result ≡ status.ReadFault k → FailsFile plan files k before after) → (result ≡ status.WriteFault → Rose w w')
      → InputAccepted plan held → NoneRose (files.read_faults before) (files.read_faults after) → (Rose w w' → ⊥) → (result ≡ status.Done) ⊎ (result ≡ status.NoMemory)
  unfolding FitsInput
  completed plan held (status.Refused r) fits reads writes a none never = absurd (input_not_both plan held _ a fits)
  completed plan held (status.NoFile k) fits reads writes a none never = absurd (input_not_both plan held _ a fits)
  completed plan held (status.ReadFault k) fits reads writes a none never = absurd (none (name_in plan k) (reads k refl).1)
  completed plan held status.NoMemory fits reads writes a none never = inr refl
  completed plan held status.Done fits reads writes a none never = inl refl
  completed plan held status.WriteFault fits reads writes a none never = absurd (never (writes refl))
  completed plan held status.Usage fits reads writes a none never = absurd fits

  pub completed_told : (o : Option Plan) (held : Plan → Held) (result : Status) → IfSome o (λ plan. FitsInput plan (held plan) result)
      → ((k : FileKind) → result ≡ status.ReadFault k → IfSome o (λ plan. FailsFile plan files k before after)) → (result ≡ status.WriteFault → Rose w w')
      → IfSome o (λ plan. InputAccepted plan (held plan) → NoneRose (files.read_faults before) (files.read_faults after) → (Rose w w' → ⊥) → (result ≡ status.Done) ⊎ (result ≡ status.NoMemory))
  completed_told None held result fits reads writes = tt
  completed_told (Some plan) held result fits reads writes = λ a none never. completed plan (held plan) result fits reads writes a none never
