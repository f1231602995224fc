-- The entries of a stop: what its search and the arcs past its vertices say of the hierarchy.
use Rattle.std.proofs.Common.{◌≡◌, ◌+◌, ◌<◌, ◌≤◌, ℕ, List, Option, length, get_or, refl, subst, inl, inr, arith}
use Rattle.std.specs.Prelude.{All, Contains}
use Rattle.std.proofs.lemmas.Bool.{cases_lt}
use Rattle.std.proofs.lemmas.List.Elements.{Contains-get_or}
use Rattle.move_model.specs.declared.network.NodeNo.{NodeNo}
use Rattle.move_model.specs.declared.network.StopNo.{StopNo}
use Rattle.walk_laws.specs.Sums.{longest}
use Rattle.walk_hierarchy.specs.declared.settled.Settled.{Settled}
use Rattle.walk_hierarchy.specs.Hierarchy.{Parts, IsNode, IsHierarchy, AreSettled}
use Rattle.bucket_walks.specs.declared.bucket.Bucket.{Bucket}
use Rattle.bucket_walks.specs.declared.bypasses.Side.{Side}
use Rattle.bucket_walks.specs.declared.bypasses.Side.TheVariants.{To, From}
use Rattle.bucket_walks.specs.declared.bypasses.Bypass.{Bypass}
use Rattle.bucket_walks.specs.declared.bypasses.Bypasses.{Bypasses}
use Rattle.bucket_walks.specs.Gathered.{sums, leads_over, AreBypasses, AreMarked, HasOneEach, HasFew, IsKept, IsEntryOf}
use Rattle.bucket_walks.proofs.LeastLaws.{not_without, least_same}
use Rattle.bucket_walks.proofs.BoundLemmas.{arc_up, arc_down, up_end, up_few, down_begin, down_few}

pub sums_node : (side : Side) (h : Parts) (p v m : ℕ) → IsHierarchy h → IsNode h (record { 0 = p }) → sums side h p v m → IsNode h (record { 0 = v })
sums_node To h p v m rules is sum = down_begin h rules is sum
sums_node From h p v m rules is sum = up_end h rules is sum

pub sums_few : (side : Side) (h : Parts) (p v m : ℕ) → IsHierarchy h → IsNode h (record { 0 = p }) → sums side h p v m → m ≤ 4000000000000000000
sums_few To h p v m rules is sum = down_few h rules is sum
sums_few From h p v m rules is sum = up_few h rules is sum

over_node : (side : Side) (h : Parts) (v w l : ℕ) → IsHierarchy h → leads_over side h v w l → IsNode h (record { 0 = w })
over_node To h v w l rules arc = (arc_up h rules v w l arc).to
over_node From h v w l rules arc = (arc_down h rules w v l arc).from

over_short : (side : Side) (h : Parts) (v w l : ℕ) → IsHierarchy h → leads_over side h v w l → l ≤ longest
over_short To h v w l rules arc = (arc_up h rules v w l arc).short
over_short From h v w l rules arc = (arc_down h rules w v l arc).short

pub one_each : (sum : ℕ → ℕ → Type 0) (settled : List Settled) → AreSettled sum settled → HasOneEach settled
one_each sum settled are = record { one = λ v m n x y. least_same (sum v) m n ((are.least v m).0 x) ((are.least v n).0 y) }

module _ (side : Side) (h : Parts) (rules : IsHierarchy h) (p : ℕ) (is : IsNode h (record { 0 = p })) (settled : List Settled) (are : AreSettled (sums side h p) settled) where
  settled_sum : (there : Settled) → Contains settled there → sums side h p there.node.0 there.seconds
  settled_sum there has = ((are.least there.node.0 there.seconds).0 has).attained

  pub settled_low : (n : ℕ) → length h.ranks < n → All (λ there. there.node.0 < n) settled
  settled_low n lt = λ k d within.
      let there = get_or settled k d in
      let node : IsNode h there.node = sums_node side h p there.node.0 there.seconds rules is (settled_sum there (Contains-get_or settled k d within)) in
      omega (arith, node.to_nodes)

  pub settled_next : (n : ℕ) → n ≡ length h.ranks + 2 → All (λ there. there.node.0 + 1 < n) settled
  settled_next n e = λ k d within.
      let there = get_or settled k d in
      let node : IsNode h there.node = sums_node side h p there.node.0 there.seconds rules is (settled_sum there (Contains-get_or settled k d within)) in
      omega (arith, node.to_nodes)

  pub settled_few : All (λ there. there.seconds ≤ 4000000000000000000) settled
  settled_few = λ k d within.
      let there = get_or settled k d in
      sums_few side h p there.node.0 there.seconds rules is (settled_sum there (Contains-get_or settled k d within))

  module _ (marks : List (Option ℕ)) (marked : AreMarked settled marks) where
    pub marks_few : HasFew marks
    marks_few = λ v m at. sums_few side h p v m rules is (settled_sum (record { node = record { 0 = v }; seconds = m }) (marked.only v m at))

    module _ (all : Bypasses) (bypasses : AreBypasses side h all) (stop : StopNo) where
      pub entry_kept : (entry : Bucket) → IsKept stop settled all.arcs.items marks entry → IsEntryOf side h stop p entry
      entry_kept entry kept = record {
        stop_is = kept.stop_is;
        needed = record {
          least = (are.least entry.node.0 entry.seconds).0 kept.comes;
          short = kept.direct.short;
          direct = λ w l k arc there. elim (cases_lt (l + k) entry.seconds) [
            | inl less ↦
                absurd (not_without (sums side h p w) k there
                (λ m least le. kept.direct.direct (record { seconds = l; node = entry.node; over = record { 0 = w } })
                ((bypasses.arcs entry.node.0 w l).1 arc)
                refl
                (record { k = m; there = marked.all w m ((are.least w m).1 least); less = omega arith })))
            | inr more ↦ more
          ];
        };
      }

      pub kept_entry : (entry : Bucket) → IsEntryOf side h stop p entry → IsKept stop settled all.arcs.items marks entry
      kept_entry entry is_entry = record {
        stop_is = is_entry.stop_is;
        comes = (are.least entry.node.0 entry.seconds).1 is_entry.needed.least;
        direct = record {
          short = is_entry.needed.short;
          direct = λ arc stands at short.
              let leads : leads_over side h entry.node.0 arc.over.0 arc.seconds =
              subst (λ (n : NodeNo). leads_over side h n.0 arc.over.0 arc.seconds) at ((bypasses.arcs arc.node.0 arc.over.0 arc.seconds).0 stands) in
              let there : sums side h p arc.over.0 short.k =
              settled_sum (record { node = arc.over; seconds = short.k }) (marked.only arc.over.0 short.k short.there) in
              absurd (omega (arith, is_entry.needed.direct arc.over.0 arc.seconds short.k leads there, short.less));
        };
      }

module _ (side : Side) (h : Parts) (rules : IsHierarchy h) (all : Bypasses) (bypasses : AreBypasses side h all) where
  leads : (k : ℕ) (d : Bypass) → k < length all.arcs.items
      → leads_over side h (get_or all.arcs.items k d).node.0 (get_or all.arcs.items k d).over.0 (get_or all.arcs.items k d).seconds
  leads k d within =
      let arc = get_or all.arcs.items k d in
      (bypasses.arcs arc.node.0 arc.over.0 arc.seconds).0 (Contains-get_or all.arcs.items k d within)

  pub over_low : (n : ℕ) → n ≡ length h.ranks + 1 → All (λ arc. arc.over.0 < n) all.arcs.items
  over_low n e = λ k d within.
      let arc = get_or all.arcs.items k d in
      let node : IsNode h arc.over = over_node side h arc.node.0 arc.over.0 arc.seconds rules (leads k d within) in
      omega (arith, node.to_nodes)

  pub bypasses_short : All (λ arc. arc.seconds ≤ longest) all.arcs.items
  bypasses_short = λ k d within.
      let arc = get_or all.arcs.items k d in
      over_short side h arc.node.0 arc.over.0 arc.seconds rules (leads k d within)
