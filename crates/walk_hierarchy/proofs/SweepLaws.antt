-- The steps of a sweep, by those of a search in which the same places wait.
use Rattle.std.proofs.Common.{◌≡◌, ℕ, suc, zero, ◌+◌, ◌<◌, ◌≤◌, Bool, true, false, cond, List, [], ◌∷◌, length, slice_index_or, slice_set, replicate, Option, Some, None, arith, refl, sym, ap, subst, ◌∙◌}
use Rattle.std.proofs.lemmas.List.{length-set, length-map, length-replicate, map-set}
use Rattle.std.proofs.lemmas.List.Sums.{sum_by-cons}
use Rattle.std.specs.List.{sum_by}
use Rattle.move_model.specs.declared.network.NodeNo.{NodeNo}
use Rattle.walk_queue.specs.Keys.{key_at, IsEmpty}
use Rattle.walk_hierarchy.specs.declared.labels.Label.{Label}
use Rattle.walk_hierarchy.specs.declared.rows.Half.{Half}
use Rattle.walk_hierarchy.specs.declared.rows.Rows.{Rows}
use Rattle.walk_hierarchy.specs.Labels.{HasLabel, IsLeastFrom, lowers}
use Rattle.walk_hierarchy.specs.Search.{row_of, HasHalf, Climbs, Waits, IsSearch, IsGoing, waiting as one_waiting, work_left, labels_with, queue_with}
use Rattle.walk_hierarchy.specs.Sweep.{place_only, places_of, IsSweep, IsSweeping, waiting_with}
use Rattle.walk_hierarchy.proofs.SearchLaws.{label_same, some_or_none, IsMarked, marked, going_taken, going_more, search_left, search_first, least_from, near, IsNear}

-- what waits, with and without seconds

pub same_work : (labels : List (Option Label)) (queue : List (Option ℕ)) → work_left labels (places_of queue) ≡ work_left labels queue
same_work labels queue = omega (arith, same_count queue)
  where
    same_one : (key : Option ℕ) → one_waiting {A = Unit {0}} (place_only key) ≡ one_waiting {A = ℕ} key
    same_one None = refl
    same_one (Some s) = refl

    same_count : (keys : List (Option ℕ)) → sum_by (one_waiting {A = Unit {0}}) (places_of keys) ≡ sum_by (one_waiting {A = ℕ}) keys
    same_count [] = refl
    same_count (key ∷ keys) =
        omega (
          arith,
          sum_by-cons (one_waiting {A = Unit {0}}) (place_only key) (places_of keys),
          sum_by-cons (one_waiting {A = ℕ}) key keys,
          same_one key,
          same_count keys,
        )

place_at : (queue : List (Option ℕ)) (v : ℕ) → key_at (places_of queue) v ≡ place_only (key_at queue v)
place_at [] v = refl
place_at (key ∷ queue) zero = refl
place_at (key ∷ queue) (suc v) = place_at queue v

key_of : (key : Option ℕ) (x : Unit {0}) → place_only key ≡ Some x → (s : ℕ) × (key ≡ Some s)
key_of None x is = absurd (some_or_none x is)
key_of (Some s) x is = (s, refl)

no_key_of : (key : Option ℕ) → place_only key ≡ None → key ≡ None
no_key_of None is = refl
no_key_of (Some s) is = absurd (some_or_none tt (sym is))

-- the place waits with some seconds
key_there : (queue : List (Option ℕ)) (before : List (Option (Unit {0}))) (v : ℕ) (x : Unit {0}) → before ≡ places_of queue → key_at before v ≡ Some x → (s : ℕ) × Waits queue v s
key_there queue before v x same is =
    key_of (key_at queue v) x (sym (place_at queue v) ∙ ap (λ (ks : List (Option (Unit {0}))). key_at ks v) (sym same) ∙ is)

places_with : (labels : List (Option Label)) (queue : List (Option ℕ)) (before : List (Option (Unit {0}))) (v : ℕ) (x : Label) → before ≡ places_of queue
    → waiting_with labels before v x ≡ places_of (queue_with labels queue v x)
places_with labels queue before v x same = by (lowers x (key_at labels v))
  where
    by : (b : Bool) → cond b (slice_set before v (Some tt)) before ≡ places_of (cond b (slice_set queue v (Some x.seconds)) queue)
    by true = ap (λ (ks : List (Option (Unit {0}))). slice_set ks v (Some tt)) same ∙ sym (map-set place_only queue v (Some x.seconds))
    by false = same

-- the steps

pub waits_label : (rows : Rows) (from v : ℕ) (x : Unit {0}) (labels : List (Option Label)) (waiting : List (Option (Unit {0})))
    → IsSweep rows from labels waiting → key_at waiting v ≡ Some x → (y : Label) × HasLabel labels v y
waits_label rows from v x labels waiting sweep is =
    let key = key_there sweep.queue waiting v x sweep.same is in
    let at = sweep.search.sound.waits v key.0 key.1 in
    (at.0, at.1.0)

pub sweeping_taken : (rows : Rows) (from v : ℕ) (x : Unit {0}) (y : Label) (labels : List (Option Label)) (waiting after : List (Option (Unit {0})))
    → IsSweep rows from labels waiting → key_at waiting v ≡ Some x → HasLabel labels v y → after ≡ slice_set waiting v None
    → IsSweeping rows from v y.seconds 0 labels after
sweeping_taken rows from v x y labels waiting after sweep is label taken =
    let key = key_there sweep.queue waiting v x sweep.same is in
    let at = sweep.search.sound.waits v key.0 key.1 in
    let seconds : key.0 ≡ y.seconds = sym at.1.1 ∙ ap (λ (z : Label). z.seconds) (label_same labels v at.0 y at.1.0 label) in
    record {
      queue = slice_set sweep.queue v None;
      going = subst (λ (s : ℕ). IsGoing rows from 18446744073709551615 v s 0 labels (slice_set sweep.queue v None)) seconds
          (going_taken rows from 18446744073709551615 v key.0 labels sweep.queue sweep.search key.1);
      same = taken ∙ ap (λ (ks : List (Option (Unit {0}))). slice_set ks v None) sweep.same ∙ sym (map-set place_only sweep.queue v None);
    }

pub sweep_first : (rows : Rows) (from n : ℕ) (x : Label) (labels after : List (Option Label)) (waiting then_waits : List (Option (Unit {0})))
    → from < length labels → n ≡ length labels → labels ≡ replicate n None → waiting ≡ replicate n None → x.seconds ≡ 0
    → after ≡ labels_with labels from x → then_waits ≡ waiting_with labels waiting from x
    → IsSweep rows from after then_waits
sweep_first rows from n x labels after waiting then_waits low many labels_none waiting_none none_yet labels_are waiting_are =
    let room : length (replicate {A = Option ℕ} n None) ≡ length labels = length-replicate {A = Option ℕ} n None ∙ many in
    let m : IsMarked labels (replicate {A = Option ℕ} n None) (labels_with labels from x) (queue_with labels (replicate {A = Option ℕ} n None) from x) from x =
    marked labels (replicate {A = Option ℕ} n None) from x low room (omega (arith, none_yet)) in
    record {
      queue = queue_with labels (replicate {A = Option ℕ} n None) from x;
      search = subst (λ (ls : List (Option Label)). IsSearch rows from 18446744073709551615 ls (queue_with labels (replicate {A = Option ℕ} n None) from x)) (sym labels_are)
          (search_first rows from 18446744073709551615 n x labels (replicate {A = Option ℕ} n None) (labels_with labels from x) (queue_with labels (replicate {A = Option ℕ} n None) from x)
          labels_none refl none_yet m);
      same = waiting_are ∙ places_with labels (replicate {A = Option ℕ} n None) waiting from x (waiting_none ∙ none_placed n);
    }
  where
    none_placed : (k : ℕ) → replicate {A = Option (Unit {0})} k None ≡ places_of (replicate {A = Option ℕ} k None)
    none_placed zero = refl
    none_placed (suc k) = ap (λ (ks : List (Option (Unit {0}))). None ∷ ks) (none_placed k)

pub near_sweeping : (rows : Rows) (places : ℕ) (c : Climbs rows places) (from v s i : ℕ) (d : Half) (labels : List (Option Label)) (waiting : List (Option (Unit {0}))) (row : List Half)
    → row ≡ row_of rows v → v + 1 < length rows.first.items → i < length row → IsSweeping rows from v s i labels waiting → IsNear rows places from v s (slice_index_or row i d)
near_sweeping rows places c from v s i d labels waiting row e exists lt is =
    near rows places c from 18446744073709551615 v s i i d labels is.queue row e exists lt is.going

-- along one more half of a row that was lent
module _ (rows : Rows) (places : ℕ) (c : Climbs rows places) (from s i : ℕ) (at : NodeNo) (d : Half) (labels : List (Option Label)) (waiting : List (Option (Unit {0}))) (row : List Half)
    (e : row ≡ row_of rows at.0) (exists : at.0 + 1 < length rows.first.items) (lt : i < length row) (many : length labels ≡ places) where
  pub sweeping_more : IsSweeping rows from at.0 s i labels waiting
      → IsSweeping rows from at.0 s (i + 1)
      (labels_with labels (slice_index_or row i d).to.0 (record { seconds = s + (slice_index_or row i d).seconds; parent = at }))
      (waiting_with labels waiting (slice_index_or row i d).to.0 (record { seconds = s + (slice_index_or row i d).seconds; parent = at }))
  sweeping_more is = record {
    queue = queue_with labels is.queue (slice_index_or row i d).to.0 (record { seconds = s + (slice_index_or row i d).seconds; parent = at });
    going = going_more rows places c from 18446744073709551615 s i at d labels is.queue row e exists lt many is.going;
    same = places_with labels is.queue waiting (slice_index_or row i d).to.0 (record { seconds = s + (slice_index_or row i d).seconds; parent = at }) is.same;
  }

-- a label that comes to a place leaves no more work
pub less_swept : (rows : Rows) (from v s i w : ℕ) (x : Label) (labels : List (Option Label)) (waiting : List (Option (Unit {0})))
    → w < length labels → x.seconds < 18446744073709551616 → IsSweeping rows from v s i labels waiting
    → work_left (labels_with labels w x) (waiting_with labels waiting w x) ≤ work_left labels waiting
less_swept rows from v s i w x labels waiting low small is =
    let m = marked labels is.queue w x low is.going.sound.room small in
    let before : work_left labels waiting ≡ work_left labels is.queue = ap (work_left labels) is.same ∙ same_work labels is.queue in
    let after : work_left (labels_with labels w x) (waiting_with labels waiting w x) ≡ work_left (labels_with labels w x) (queue_with labels is.queue w x) =
    ap (work_left (labels_with labels w x)) (places_with labels is.queue waiting w x is.same) ∙ same_work (labels_with labels w x) (queue_with labels is.queue w x) in
    omega (arith, m.less, before, after)

pub length_with : (labels : List (Option Label)) (v : ℕ) (x : Label) → length (labels_with labels v x) ≡ length labels
length_with labels v x = by (lowers x (key_at labels v))
  where
    by : (b : Bool) → length (cond b (slice_set labels v (Some x)) labels) ≡ length labels
    by true = length-set labels v (Some x)
    by false = refl

pub room_sweeping : (rows : Rows) (from v s i : ℕ) (labels : List (Option Label)) (waiting : List (Option (Unit {0})))
    → IsSweeping rows from v s i labels waiting → length waiting ≡ length labels
room_sweeping rows from v s i labels waiting is = ap length is.same ∙ length-map is.queue place_only ∙ is.going.sound.room

pub room_sweep : (rows : Rows) (from : ℕ) (labels : List (Option Label)) (waiting : List (Option (Unit {0})))
    → IsSweep rows from labels waiting → length waiting ≡ length labels
room_sweep rows from labels waiting is = ap length is.same ∙ length-map is.queue place_only ∙ is.search.sound.room

pub sweep_left : (rows : Rows) (from v s i : ℕ) (labels : List (Option Label)) (waiting : List (Option (Unit {0})))
    → i ≡ length (row_of rows v) → IsSweeping rows from v s i labels waiting → IsSweep rows from labels waiting
sweep_left rows from v s i labels waiting all is = record {
  queue = is.queue;
  search = search_left rows from 18446744073709551615 v s labels is.queue
      (subst (λ (n : ℕ). IsGoing rows from 18446744073709551615 v s n labels is.queue) all is.going);
  same = is.same;
}

pub least_swept : (rows : Rows) (places : ℕ) (c : Climbs rows places) (from : ℕ) (labels : List (Option Label)) (waiting : List (Option (Unit {0})))
    → IsSweep rows from labels waiting → IsEmpty waiting → IsLeastFrom (HasHalf rows) from labels
least_swept rows places c from labels waiting is empty =
    least_from rows places c from labels is.queue is.search
    (λ v. no_key_of (key_at is.queue v) (sym (place_at is.queue v) ∙ ap (λ (ks : List (Option (Unit {0}))). key_at ks v) (sym is.same) ∙ empty v))
