-- What the searches and the rounds of a question need.
use Rattle.std.proofs.Common.{◌≡◌, ◌∙◌, ℕ, ◌≤◌, List, length, get_or, sym, arith, rules, Option, Some, None}
use Rattle.std.specs.Prelude.{All}
use Rattle.std.proofs.lemmas.List.Elements.{All-from_get_or, All-contains, All-weaker}
use Rattle.move_model.specs.declared.network.NodeNo.{NodeNo}
use Rattle.move_model.specs.declared.journey.Shortcut.{Shortcut}
use Rattle.move_model.specs.Network.{streets}
use Rattle.move_model.specs.Streets.{IsVertex}
use Rattle.walk_laws.specs.Sums.{HasLeast}
use Rattle.walk_hierarchy.specs.Hierarchy.{IsNode, IsUpDownSum}
use Rattle.bucket_walks.specs.Buckets.{IsBucket, IsFirstSum, IsLastSum, HoldsFirst, HoldsLast}
use Rattle.bucket_walks.proofs.BoundLemmas.{up_few, down_few}
use Rattle.raptor_rounds.specs.Answers.{HasSeconds, IsEntryWithin}
use Rattle.network_file.specs.declared.compiled.Compiled.{Compiled}
use Rattle.network_file.specs.Compiled.{FitTogether, IsTransfer}

module _ (c : Compiled) (fits : FitTogether c) where
  pub vertex_node : (v : NodeNo) → IsVertex (streets c.network) v → IsNode c.hierarchy v
  vertex_node v is = record { from_one = is.from_one; to_nodes = omega (arith, is.to_nodes, fits.over.nodes) }

  pub stops_are : c.buckets.stops ≡ c.table.stops
  stops_are = fits.same_stops ∙ sym fits.table.stops

  first_few : (a : NodeNo) → IsNode c.hierarchy a → (p m : ℕ) → IsFirstSum c.hierarchy c.buckets a p m → m ≤ 9000000000000000000
  first_few a is p m sum =
      let entry : IsBucket c.buckets.nodes c.buckets.stops (record { node = record { 0 = sum.top }; stop = record { 0 = p }; seconds = sum.k }) =
      All-contains (IsBucket c.buckets.nodes c.buckets.stops) c.buckets.to _ fits.buckets.to.each sum.entry in
      omega (arith, up_few c.hierarchy fits.hierarchy is sum.up, entry.short, sum.total)

  last_few : (t : NodeNo) → IsNode c.hierarchy t → (p m : ℕ) → IsLastSum c.hierarchy c.buckets p t m → m ≤ 9000000000000000000
  last_few t is p m sum =
      let entry : IsBucket c.buckets.nodes c.buckets.stops (record { node = record { 0 = sum.top }; stop = record { 0 = p }; seconds = sum.l }) =
      All-contains (IsBucket c.buckets.nodes c.buckets.stops) c.buckets.from _ fits.buckets.from.each sum.entry in
      omega (arith, down_few c.hierarchy fits.hierarchy is sum.down, entry.short, sum.total)

  bounded : (P : ℕ → Type 0) → ((m : ℕ) → P m → m ≤ 9000000000000000000) → (o : Option ℕ) → HasLeast P o → HasSeconds o
  bounded P few None none = search rules
  bounded P few (Some m) is = few m is.attained

  pub first_bounded : (a : NodeNo) (row : List (Option ℕ)) → IsNode c.hierarchy a → HoldsFirst c.hierarchy c.buckets a row → All HasSeconds row
  first_bounded a row is holds =
      All-from_get_or HasSeconds row None
      (λ p within. bounded (IsFirstSum c.hierarchy c.buckets a p) (first_few a is p) (get_or row p None) (holds.least p (omega (arith, within, holds.one_each))))

  pub last_bounded : (t : NodeNo) (row : List (Option ℕ)) → IsNode c.hierarchy t → HoldsLast c.hierarchy c.buckets t row → All HasSeconds row
  last_bounded t row is holds =
      All-from_get_or HasSeconds row None
      (λ p within. bounded (λ m. IsLastSum c.hierarchy c.buckets p t m) (last_few t is p) (get_or row p None) (holds.least p (omega (arith, within, holds.one_each))))

  pub foot_few : (s t : NodeNo) → IsNode c.hierarchy s → IsNode c.hierarchy t → (m : ℕ) → IsUpDownSum c.hierarchy s t m → m ≤ 9000000000000000000
  foot_few s t is_s is_t m sum =
      omega (arith, up_few c.hierarchy fits.hierarchy is_s sum.up, down_few c.hierarchy fits.hierarchy is_t sum.down, sum.total)

  pub foot_bounded : (s t : NodeNo) (o : Option ℕ) → IsNode c.hierarchy s → IsNode c.hierarchy t → HasLeast (IsUpDownSum c.hierarchy s t) o → HasSeconds o
  foot_bounded s t o is_s is_t is = bounded (IsUpDownSum c.hierarchy s t) (foot_few s t is_s is_t) o is

  entry_within : (e : Shortcut) → IsTransfer (length c.network.stops) e → IsEntryWithin c.table.stops e
  entry_within e is = record {
    from_within = omega (arith, is.from, fits.table.stops);
    to_within = omega (arith, is.to, fits.table.stops);
    bounded = omega (arith, is.short);
  }

  pub entries_within : All (IsEntryWithin c.table.stops) c.shortcuts
  entries_within = All-weaker (IsTransfer (length c.network.stops)) (IsEntryWithin c.table.stops) entry_within c.shortcuts fits.transfers.each
