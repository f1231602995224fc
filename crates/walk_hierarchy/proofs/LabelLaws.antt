-- Labels, and the list of the vertices that have them.
use Rattle.std.proofs.Common.{◌≡◌, ◌≢◌, ◌∙◌, ℕ, zero, suc, ◌+◌, ◌<◌, ◌≤◌, Bool, true, false, cond, List, [], ◌∷◌, ◌++◌, length, slice_index_or, slice_set, map, replicate, Option, Some, None, refl, sym, ap, subst, inl, inr, arith}
use Rattle.std.specs.Prelude.{All, Contains, count_by}
use Rattle.std.proofs.lemmas.Bool.{cases_eq, cases_lt}
use Rattle.std.proofs.lemmas.Bool.Decides.{nat_tests}
use Rattle.std.proofs.lemmas.List.{get_or_default, get_or_past, get_or-map, get_or-set_same, get_or-set_other, get_or-replicate, get_or_append_left, get_or_push, length-map, length-set, length-replicate, length_push, map-set, same_lists}
use Rattle.std.proofs.lemmas.List.Sums.{sum_by-set, sum_by-cons, count_by-le-length}
use Rattle.std.proofs.lemmas.List.Elements.{All-contains, All-push, Contains-append_left, Contains-push, Contains-push_cases}
use Rattle.std.proofs.lemmas.List.Quantifiers.{all_pairs_push}
use Rattle.move_model.specs.declared.network.NodeNo.{NodeNo}
use Rattle.walk_queue.specs.Keys.{key_at}
use Rattle.walk_hierarchy.specs.declared.labels.Label.{Label}
use Rattle.walk_hierarchy.specs.declared.settled.Settled.{Settled}
use Rattle.walk_hierarchy.specs.Labels.{HasLabel, is_label, label_of, IsTouched, AreListed}
use Rattle.walk_hierarchy.specs.Places.{settled_name}

node_eq : (a b : NodeNo) → a.0 ≡ b.0 → a ≡ b
node_eq a b e = ap (λ (k : ℕ). let v : NodeNo = record { 0 = k } in v) e

some_not_none : (x : Label) → None ≡ Some x → ⊥
some_not_none x e = cc

true_not_false : true ≡ false → ⊥
true_not_false e = cc

-- the label that a mark stands for

pub label_there : (marks : List Label) (v : ℕ) (d : Label) → v < length marks → key_at (map label_of marks) v ≡ label_of (slice_index_or marks v d)
label_there marks v d low = get_or-map label_of marks v d None low

pub label_some : (mark : Label) → is_label mark ≡ true → label_of mark ≡ Some mark
label_some mark test = ap (λ (b : Bool). cond b (Some mark) None) test

pub label_none : (mark : Label) → is_label mark ≡ false → label_of mark ≡ None
label_none mark test = ap (λ (b : Bool). cond b (Some mark) None) test

pub label_is : (mark x : Label) → label_of mark ≡ Some x → (is_label mark ≡ true) × (mark ≡ x)
label_is mark x is = go (is_label mark) refl
  where
    go : (b : Bool) → is_label mark ≡ b → (is_label mark ≡ true) × (mark ≡ x)
    go true test =
        let same : Some mark ≡ Some x = sym (label_some mark test) ∙ is in
        (test, cc)
    go false test = absurd (some_not_none x (sym (label_none mark test) ∙ is))

pub low_of : (marks : List Label) (v : ℕ) (x : Label) → HasLabel (map label_of marks) v x → v < length marks
low_of marks v x has = elim (cases_lt v (length marks)) [
  | inl lt ↦ lt
  | inr past ↦ absurd (some_not_none x (sym (get_or_past (map label_of marks) v None (omega (arith, length-map marks label_of, past))) ∙ has.is))
]

pub mark_of : (marks : List Label) (v : ℕ) (x d : Label) → HasLabel (map label_of marks) v x → (is_label (slice_index_or marks v d) ≡ true) × (slice_index_or marks v d ≡ x)
mark_of marks v x d has = label_is (slice_index_or marks v d) x (sym (label_there marks v d (low_of marks v x has)) ∙ has.is)

pub has_mark : (marks : List Label) (v : ℕ) (d : Label) → v < length marks → is_label (slice_index_or marks v d) ≡ true → HasLabel (map label_of marks) v (slice_index_or marks v d)
has_mark marks v d low test = record { is = label_there marks v d low ∙ label_some (slice_index_or marks v d) test }

-- no labels

map_replicate : (n : ℕ) (mark : Label) → map label_of (replicate n mark) ≡ replicate n (label_of mark)
map_replicate zero mark = refl
map_replicate (suc n) mark = ap (λ (xs : List (Option Label)). label_of mark ∷ xs) (map_replicate n mark)

count_none : (n : ℕ) (mark : Label) → is_label mark ≡ false → count_by is_label (replicate n mark) ≡ 0
count_none zero mark test = refl
count_none (suc n) mark test =
    let one : ◌≡◌ {A = ℕ} (cond (is_label mark) 1 0) 0 = ap (λ (b : Bool). cond b 1 0) test in
    omega (arith, sum_by-cons (λ (x : Label). cond (is_label x) 1 0) mark (replicate n mark), count_none n mark test, one)

pub none_of : (marks : List Label) (n : ℕ) (mark : Label) → marks ≡ replicate n mark → is_label mark ≡ false → map label_of marks ≡ replicate n None
none_of marks n mark is test = ap (map label_of) is ∙ map_replicate n mark ∙ ap (λ (x : Option Label). replicate n x) (label_none mark test)

pub touched_none : (marks : List Label) (touched : List NodeNo) (room n : ℕ) (mark : Label)
    → marks ≡ replicate n mark → is_label mark ≡ false → touched ≡ [] → n ≤ room → IsTouched marks touched room
touched_none marks touched room n mark is test empty fits =
    subst (λ (ms : List Label). IsTouched ms touched room) (sym is) (subst (λ (ts : List NodeNo). IsTouched (replicate n mark) ts room) (sym empty) fresh)
  where
    fresh : IsTouched (replicate n mark) [] room
    fresh = record {
      all = λ v d lt labelled.
          let low : v < n = omega (arith, lt, length-replicate n mark) in
          absurd (true_not_false (sym labelled ∙ ap is_label (get_or-replicate n v mark d low) ∙ test));
      only = λ k d lt. absurd (omega arith);
      once = λ i j d lt low. absurd (omega arith);
      many = sym (count_none n mark test);
      enough = omega (arith, length-replicate n mark, fits);
    }

-- a label is written

module _ (marks : List Label) (touched : List NodeNo) (room : ℕ) (was : IsTouched marks touched room) (at : NodeNo) (label : Label) (low : at.0 < length marks) (test : is_label label ≡ true) where
  here : (d : Label) → slice_index_or (slice_set marks at.0 label) at.0 d ≡ label
  here d = get_or-set_same marks at.0 label d low

  other : (v : ℕ) (d : Label) → v ≢ at.0 → slice_index_or (slice_set marks at.0 label) v d ≡ slice_index_or marks v d
  other v d ne = get_or-set_other marks at.0 v label d ne

  counted : count_by is_label (slice_set marks at.0 label) + cond (is_label (slice_index_or marks at.0 label)) 1 0 ≡ count_by is_label marks + 1
  counted =
      let one : ◌≡◌ {A = ℕ} (cond (is_label label) 1 0) 1 = ap (λ (b : Bool). cond b 1 0) test in
      omega (arith, sum_by-set (λ (x : Label). cond (is_label x) 1 0) marks at.0 label label low, one)

  pub set_view : map label_of (slice_set marks at.0 label) ≡ slice_set (map label_of marks) at.0 (Some label)
  set_view = map-set label_of marks at.0 label ∙ ap (slice_set (map label_of marks) at.0) (label_some label test)

  only_set : (v : NodeNo) → (v.0 < length marks) × ((d : Label) → is_label (slice_index_or marks v.0 d) ≡ true)
      → (v.0 < length (slice_set marks at.0 label)) × ((d : Label) → is_label (slice_index_or (slice_set marks at.0 label) v.0 d) ≡ true)
  only_set v old = (
    omega (arith, old.0, length-set marks at.0 label),
    λ d. elim (cases_eq v.0 at.0) [
      | inl e ↦ ap (λ (n : ℕ). is_label (slice_index_or (slice_set marks at.0 label) n d)) e ∙ ap is_label (here d) ∙ test
      | inr ne ↦ ap is_label (other v.0 d ne) ∙ old.1 d
    ],
  )

  module _ (absent : (d : Label) → is_label (slice_index_or marks at.0 d) ≡ false) where
    zero_here : ◌≡◌ {A = ℕ} (cond (is_label (slice_index_or marks at.0 label)) 1 0) 0
    zero_here = ap (λ (b : Bool). cond b 1 0) (absent label)

    pub room_for : length touched < room
    room_for = omega (arith, counted, zero_here, was.many, was.enough, count_by-le-length is_label (slice_set marks at.0 label), length-set marks at.0 label)

    pub touched_first : IsTouched (slice_set marks at.0 label) (touched ++ at ∷ []) room
    touched_first = record {
      all = λ v d lt labelled. elim (cases_eq v at.0) [
        | inl e ↦ subst (λ (n : ℕ). Contains (touched ++ at ∷ []) (record { 0 = n })) (sym e) (Contains-push touched at)
        | inr ne ↦
            Contains-append_left touched (at ∷ []) (record { 0 = v })
            (was.all v d (omega (arith, lt, length-set marks at.0 label)) (sym (ap is_label (other v d ne)) ∙ labelled))
      ];
      only = All-push (λ v. (v.0 < length (slice_set marks at.0 label)) × ((d : Label) → is_label (slice_index_or (slice_set marks at.0 label) v.0 d) ≡ true)) touched at
          (λ k d lt. only_set (slice_index_or touched k d) (was.only k d lt))
          (omega (arith, low, length-set marks at.0 label), λ d. ap is_label (here d) ∙ test);
      once = all_pairs_push (λ v w. v ≢ w) touched at was.once (λ k d lt same.
          let labelled = (was.only k d lt).1 label in
          true_not_false (sym labelled ∙ ap (λ (v : NodeNo). is_label (slice_index_or marks v.0 label)) same ∙ absent label));
      many = omega (arith, length_push touched at, was.many, counted, zero_here);
      enough = omega (arith, was.enough, length-set marks at.0 label);
    }

  pub touched_again : ((d : Label) → is_label (slice_index_or marks at.0 d) ≡ true) → IsTouched (slice_set marks at.0 label) touched room
  touched_again held =
      let one_here : ◌≡◌ {A = ℕ} (cond (is_label (slice_index_or marks at.0 label)) 1 0) 1 = ap (λ (b : Bool). cond b 1 0) (held label) in
      record {
        all = λ v d lt labelled. elim (cases_eq v at.0) [
          | inl e ↦ was.all v d (omega (arith, lt, length-set marks at.0 label)) (ap (λ (n : ℕ). is_label (slice_index_or marks n d)) e ∙ held d)
          | inr ne ↦ was.all v d (omega (arith, lt, length-set marks at.0 label)) (sym (ap is_label (other v d ne)) ∙ labelled)
        ];
        only = λ k d lt. only_set (slice_index_or touched k d) (was.only k d lt);
        once = was.once;
        many = omega (arith, was.many, counted, one_here);
        enough = omega (arith, was.enough, length-set marks at.0 label);
      }

-- the label of the last vertex is taken away

module _ (marks : List Label) (touched : List NodeNo) (room : ℕ) (at : NodeNo) (none : Label) (was : IsTouched marks (touched ++ at ∷ []) room) (test : is_label none ≡ false) where
  pub popped_low : at.0 < length marks
  popped_low =
      (All-contains (λ v. (v.0 < length marks) × ((d : Label) → is_label (slice_index_or marks v.0 d) ≡ true)) (touched ++ at ∷ []) at was.only (Contains-push touched at)).0

  held_at : (d : Label) → is_label (slice_index_or marks at.0 d) ≡ true
  held_at =
      (All-contains (λ v. (v.0 < length marks) × ((d : Label) → is_label (slice_index_or marks v.0 d) ≡ true)) (touched ++ at ∷ []) at was.only (Contains-push touched at)).1

  gone : (d : Label) → slice_index_or (slice_set marks at.0 none) at.0 d ≡ none
  gone d = get_or-set_same marks at.0 none d popped_low

  stays : (v : ℕ) (d : Label) → v ≢ at.0 → slice_index_or (slice_set marks at.0 none) v d ≡ slice_index_or marks v d
  stays v d ne = get_or-set_other marks at.0 v none d ne

  long : length (touched ++ at ∷ []) ≡ length touched + 1
  long = length_push touched at

  in_front : (k : ℕ) (d : NodeNo) → k < length touched → slice_index_or (touched ++ at ∷ []) k d ≡ slice_index_or touched k d
  in_front k d lt = get_or_append_left touched (at ∷ []) d k lt

  at_end : (d : NodeNo) → slice_index_or (touched ++ at ∷ []) (length touched) d ≡ at
  at_end d = get_or_push touched at d (length touched) refl

  pub touched_popped : IsTouched (slice_set marks at.0 none) touched room
  touched_popped =
      let zero_now : ◌≡◌ {A = ℕ} (cond (is_label none) 1 0) 0 = ap (λ (b : Bool). cond b 1 0) test in
      let one_before : ◌≡◌ {A = ℕ} (cond (is_label (slice_index_or marks at.0 none)) 1 0) 1 = ap (λ (b : Bool). cond b 1 0) (held_at none) in
      record {
        all = λ v d lt labelled. elim (cases_eq v at.0) [
          | inl e ↦
              absurd (true_not_false (sym labelled ∙ ap (λ (n : ℕ). is_label (slice_index_or (slice_set marks at.0 none) n d)) e ∙ ap is_label (gone d) ∙ test))
          | inr ne ↦ elim (Contains-push_cases touched at (record { 0 = v }) (was.all v d (omega (arith, lt, length-set marks at.0 none)) (sym (ap is_label (stays v d ne)) ∙ labelled))) [
            | inl still ↦ still
            | inr same ↦ absurd (ne (ap (λ (n : NodeNo). n.0) (sym same)))
          ]
        ];
        only = λ k d lt.
            let low : k < length (touched ++ at ∷ []) = omega (arith, lt, long) in
            let old = subst (λ (v : NodeNo). (v.0 < length marks) × ((d : Label) → is_label (slice_index_or marks v.0 d) ≡ true)) (in_front k d lt) (was.only k d low) in
            let apart : slice_index_or touched k d ≢ at = λ same.
            was.once k (length touched) d lt (omega (arith, long)) (in_front k d lt ∙ same ∙ sym (at_end d)) in
            let ne : (slice_index_or touched k d).0 ≢ at.0 = λ e. apart (node_eq (slice_index_or touched k d) at e) in
            (omega (arith, old.0, length-set marks at.0 none), λ e. ap is_label (stays (slice_index_or touched k d).0 e ne) ∙ old.1 e);
        once = λ i j d lt low same.
            was.once i j d lt (omega (arith, low, long)) (in_front i d (omega (arith, lt, low)) ∙ same ∙ sym (in_front j d low));
        many = omega (arith, was.many, long, zero_now, one_before, sum_by-set (λ (x : Label). cond (is_label x) 1 0) marks at.0 none none popped_low);
        enough = omega (arith, was.enough, length-set marks at.0 none);
      }

pub none_left : (marks : List Label) (room : ℕ) → IsTouched marks [] room → map label_of marks ≡ replicate (length marks) None
none_left marks room is =
    same_lists (map label_of marks) (replicate (length marks) None) (length-map marks label_of ∙ sym (length-replicate {A = Option Label} (length marks) None))
    (λ k d lt.
    let low : k < length marks = omega (arith, lt, length-map marks label_of) in
    let none : Label = record { seconds = 0; parent = record { 0 = 0 } } in
    get_or-map label_of marks k none d low ∙ label_none (slice_index_or marks k none) (absent k none low)
    ∙ sym (get_or-replicate {A = Option Label} (length marks) k None d low))
  where
    absent : (k : ℕ) (d : Label) → k < length marks → is_label (slice_index_or marks k d) ≡ false
    absent k d low = go (is_label (slice_index_or marks k d)) refl
      where
        go : (b : Bool) → is_label (slice_index_or marks k d) ≡ b → is_label (slice_index_or marks k d) ≡ false
        go true test = absurd (omega (arith, (is.all k d low test).1))
        go false test = test

-- what the list of touched vertices says of the labels

pub nodes_all : (marks : List Label) (touched : List NodeNo) (room : ℕ) → IsTouched marks touched room
    → (v : ℕ) (x : Label) → HasLabel (map label_of marks) v x → Contains touched (record { 0 = v })
nodes_all marks touched room is v x has = is.all v x (low_of marks v x has) (mark_of marks v x x has).0

pub nodes_only : (marks : List Label) (touched : List NodeNo) (room : ℕ) → IsTouched marks touched room
    → All (λ v. (x : Label) × HasLabel (map label_of marks) v.0 x) touched
nodes_only marks touched room is = λ k d lt.
    let none : Label = record { seconds = 0; parent = record { 0 = 0 } } in
    let old = is.only k d lt in
    (slice_index_or marks (slice_index_or touched k d).0 none, has_mark marks (slice_index_or touched k d).0 none old.0 (old.1 none))

-- the entries of the touched vertices
abbrev pub entry_of : List Label → NodeNo → Settled
entry_of marks v = record { node = v; seconds = (slice_index_or marks v.0 (record { seconds = 0; parent = record { 0 = 0 } })).seconds }

-- and by their names
abbrev pub name_of : List ℕ → List Label → NodeNo → Settled
name_of names marks v = settled_name names (entry_of marks v)

pub entries_listed : (marks : List Label) (touched : List NodeNo) (room : ℕ) → IsTouched marks touched room → AreListed (map label_of marks) (map (entry_of marks) touched)
entries_listed marks touched room is =
    let none : Label = record { seconds = 0; parent = record { 0 = 0 } } in
    record {
      all = λ v x has.
          let at = nodes_all marks touched room is v x has in
          let same : slice_index_or marks v none ≡ x = (mark_of marks v x none has).1 in
          let entry : Settled = record { node = record { 0 = v }; seconds = x.seconds } in (
            at.0,
            omega (arith, at.1, length-map touched (entry_of marks)),
            get_or-map (entry_of marks) touched at.0 (record { 0 = v }) entry at.1 ∙ ap (entry_of marks) at.2
                ∙ ap (λ (y : Label). let s : Settled = record { node = record { 0 = v }; seconds = y.seconds } in s) same,
          );
      only = λ v m has.
          let low : has.0 < length touched = omega (arith, has.1, length-map touched (entry_of marks)) in
          let vertex : NodeNo = slice_index_or touched has.0 (record { 0 = v }) in
          let entry : entry_of marks (slice_index_or touched has.0 (record { 0 = v })) ≡ record { node = record { 0 = v }; seconds = m } =
          sym (get_or-map (entry_of marks) touched has.0 (record { 0 = v }) (record { node = record { 0 = v }; seconds = m }) low) ∙ has.2 in
          let at : slice_index_or touched has.0 (record { 0 = v }) ≡ record { 0 = v } = ap (λ (s : Settled). s.node) entry in
          let old = is.only has.0 (record { 0 = v }) low in
          let mine = subst (λ (w : NodeNo). (w.0 < length marks) × ((d : Label) → is_label (slice_index_or marks w.0 d) ≡ true)) at old in
          let seconds : (slice_index_or marks v none).seconds ≡ m =
          ap (λ (w : NodeNo). (slice_index_or marks w.0 none).seconds) (sym at) ∙ ap (λ (s : Settled). s.seconds) entry in
          (slice_index_or marks v none, (has_mark marks v none mine.0 (mine.1 none), seconds));
      once = λ i j d lt low same.
          let j_low : j < length touched = omega (arith, low, length-map touched (entry_of marks)) in
          let i_low : i < length touched = omega (arith, lt, j_low) in
          is.once i j (record { 0 = 0 }) lt j_low
          (sym (ap (λ (s : Settled). s.node) (get_or-map (entry_of marks) touched i (record { 0 = 0 }) d i_low)) ∙ same
          ∙ ap (λ (s : Settled). s.node) (get_or-map (entry_of marks) touched j (record { 0 = 0 }) d j_low));
    }

-- a mark that was read

pub read_absent : (marks : List Label) (v : ℕ) (read : Label) → v < length marks → read ≡ slice_index_or marks v read → read.seconds ≡ 18446744073709551615
    → (d : Label) → is_label (slice_index_or marks v d) ≡ false
read_absent marks v read low is none d =
    let same : slice_index_or marks v d ≡ read = get_or_default marks v d read low ∙ sym is in
    let test : is_label read ≡ false = grind (arith, nat_tests) in
    ap is_label same ∙ test

pub read_held : (marks : List Label) (v : ℕ) (read : Label) → v < length marks → read ≡ slice_index_or marks v read → read.seconds < 18446744073709551615
    → (d : Label) → is_label (slice_index_or marks v d) ≡ true
read_held marks v read low is some d =
    let same : slice_index_or marks v d ≡ read = get_or_default marks v d read low ∙ sym is in
    let test : is_label read ≡ true = grind (arith, nat_tests) in
    ap is_label same ∙ test
