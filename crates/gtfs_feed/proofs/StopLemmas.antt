-- A row more of the table of stops.
use Rattle.std.proofs.Common.{◌≡◌, ◌≢◌, ◌∙◌, ℕ, ◌+◌, ◌<◌, ◌≤◌, List, [], ◌∷◌, ◌++◌, length, get_or, Contains, Option, Some, None, refl, ap, subst, inl, inr, ◌⊎◌, arith}
use Rattle.std.specs.Prelude.{IfSome}
use Rattle.std.proofs.lemmas.List.{length_push}
use Rattle.std.proofs.lemmas.List.Elements.{All-push, Contains-append_left, Contains-append_right}
use Rattle.std.proofs.lemmas.List.Quantifiers.{all_pairs_push}
use Rattle.tables.specs.Names.{place_of}
use Rattle.gtfs_feed.specs.declared.feed.FeedStop.{FeedStop}
use Rattle.gtfs_feed.specs.declared.stops.StopTable.{StopTable}
use Rattle.gtfs_feed.specs.Feed.{IsFeedStop}
use Rattle.gtfs_feed.specs.Kept.{IsStopTable}
use Rattle.gtfs_feed.proofs.IdLemmas.{absent}

weaker : (o : Option ℕ) (m n : ℕ) → m ≤ n → IfSome o (λ k. k < m) → IfSome o (λ k. k < n)
weaker None m n le h = tt
weaker (Some k) m n le h = omega (arith, h)

last : {X : Type 0} (x : X) → Contains (x ∷ []) x
last x = (0, omega arith, refl)

pub stop-push : (old new : StopTable) (stop : FeedStop) → IsStopTable old → place_of stop.name old.names ≡ None → IsFeedStop stop
    → new.names ≡ old.names ++ stop.name ∷ [] → new.stops ≡ old.stops ++ stop ∷ [] → new.numbers ≡ old.numbers ++ Some (length old.stops) ∷ [] → IsStopTable new
stop-push old new stop t fresh stands names stops numbers =
    let more : length new.stops ≡ length old.stops + 1 = ap length stops ∙ length_push old.stops stop in
    record {
      stand = rw stops (All-push IsFeedStop old.stops stop t.stand stands);
      differ = rw stops (all_pairs_push (λ (a b : FeedStop). a.name ≢ b.name) old.stops stop t.differ
          (λ k d lt same. absent old.names stop.name fresh (let P : List ℕ → Type 0 = λ name. Contains old.names name in subst P same (t.named k d lt))));
      named = rw (stops, names) (All-push (λ (s : FeedStop). Contains (old.names ++ stop.name ∷ []) s.name) old.stops stop
          (λ k d lt. Contains-append_left old.names (stop.name ∷ []) (get_or old.stops k d).name (t.named k d lt))
          (Contains-append_right old.names (stop.name ∷ []) stop.name (last stop.name)));
      numbered = rw (numbers, more) (All-push (λ (o : Option ℕ). IfSome o (λ k. k < length old.stops + 1)) old.numbers (Some (length old.stops))
          (λ k d lt. weaker (get_or old.numbers k d) (length old.stops) (length old.stops + 1) (omega arith) (t.numbered k d lt))
          (omega arith));
    }

pub stop-push-named : (old new : StopTable) (stop : FeedStop) (id : List ℕ) → IsStopTable old → stop.name ≡ id → place_of id old.names ≡ None → IsFeedStop stop
    → new.names ≡ old.names ++ id ∷ [] → new.stops ≡ old.stops ++ stop ∷ [] → new.numbers ≡ old.numbers ++ Some (length old.stops) ∷ [] → IsStopTable new
stop-push-named old new stop id t is fresh stands names stops numbers =
    stop-push old new stop t (rw is fresh) stands (rw is names) stops numbers

pub other-push : (old new : StopTable) (id : List ℕ) → IsStopTable old → ((new.names ≡ old.names ++ id ∷ []) ⊎ (new.names ≡ old.names))
    → new.stops ≡ old.stops → new.numbers ≡ old.numbers ++ None ∷ [] → IsStopTable new
other-push old new id t names stops numbers = record {
  stand = rw stops t.stand;
  differ = rw stops t.differ;
  named = rw stops (λ k d lt. elim names [
    | inl more ↦ rw more (Contains-append_left old.names (id ∷ []) (get_or old.stops k d).name (t.named k d lt))
    | inr same ↦ rw same (t.named k d lt)
  ]);
  numbered = rw (numbers, stops) (All-push (λ (o : Option ℕ). IfSome o (λ k. k < length old.stops)) old.numbers None t.numbered tt);
}
