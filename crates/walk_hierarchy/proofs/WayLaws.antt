-- Walks that grow: one street on, a circle of 0 seconds cut, and no vertex twice where the walk is a shortest one.
use Rattle.std.proofs.Common.{◌≡◌, ◌≢◌, ◌∙◌, ℕ, zero, suc, ◌+◌, ◌-◌, ◌<◌, ◌≤◌, List, [], ◌∷◌, ◌++◌, length, take, drop, get_or, refl, sym, ap, subst, inl, inr, arith, append_assoc}
use Rattle.std.specs.Prelude.{All, AllPairs}
use Rattle.std.specs.List.{AllAdjacentBelow}
use Rattle.std.proofs.lemmas.Bool.{cases_eq, cases_lt}
use Rattle.std.proofs.lemmas.List.{append-nil, length-append, take-append-drop, drop_more, get_or_append_left, get_or-append_right, get_or_push, length_push, length-take-le, take_more}
use Rattle.std.proofs.lemmas.List.Elements.{All-head, All-tail, All-push}
use Rattle.std.proofs.lemmas.List.Kept.{AllPairs-cons}
use Rattle.move_model.specs.declared.network.NodeNo.{NodeNo}
use Rattle.move_model.specs.Streets.{Streets, IsVertex, IsLeastArc, IsWalk}
use Rattle.move_model.specs.Streets.IsWalk.{stays, goes}
use Rattle.walk_hierarchy.specs.Hierarchy.{HasNoIdleCircle}
use Rattle.walk_hierarchy.specs.Way.{IsWay}

-- lists that are put together

record IsPushed {X : Type 0} (us vs xs : List X) (q : X) : Type 0 where
  before : List X
  is : vs ≡ before ++ q ∷ []
  rest : xs ≡ us ++ before

pushed : {X : Type 0} (us vs xs : List X) (q : X) → xs ++ q ∷ [] ≡ us ++ vs → 1 ≤ length vs → IsPushed us vs xs q
pushed [] vs xs q e some = record { before = xs; is = sym e; rest = refl }
pushed (u ∷ us) vs [] q e some = absurd (omega (arith, some, ap length e, length-append us vs))
pushed (u ∷ us) vs (x ∷ xs) q e some =
    let same : x ≡ u = cc in
    let left : xs ++ q ∷ [] ≡ us ++ vs = cc in
    let rest = pushed us vs xs q left some in
    record { before = rest.before; is = rest.is; rest = (λ k. same k ∷ rest.rest k) }

split_at : {X : Type 0} (xs : List X) (k : ℕ) (d : X) → k < length xs → xs ≡ take k xs ++ get_or xs k d ∷ drop (k + 1) xs
split_at xs k d lt = sym (take-append-drop k xs) ∙ ap (λ l. take k xs ++ l) (drop_more xs k d lt)

all_back : {X : Type 0} (P : X → Type 0) (us vs xs : List X) → xs ≡ us ++ vs → All P xs → All P vs
all_back P us vs xs e all = λ k d lt.
    subst P (get_or-append_right us vs (length us) (length us + k) d refl (omega arith) ∙ ap (λ i. get_or vs i d) (let f : length us + k - length us ≡ k = omega arith in f))
    (subst (All P) e all (length us + k) d (omega (arith, lt, length-append us vs)))

all_front_of : {X : Type 0} (P : X → Type 0) (us vs xs : List X) → xs ≡ us ++ vs → All P xs → All P us
all_front_of P us vs xs e all = λ k d lt.
    subst P (get_or_append_left us vs d k lt) (subst (All P) e all k d (omega (arith, lt, length-append us vs)))

-- parts of walks

module _ (g : Streets) where
  pub walk_push : {a p q : NodeNo} {vs : List NodeNo} {l m : ℕ} → IsVertex g q → IsWalk g a vs p m → IsLeastArc g.arcs p q l → IsWalk g a (vs ++ q ∷ []) q (m + l)
  walk_push {a} {p} {q} {vs} {l} {m} is (stays at) arc =
      let whole : IsWalk g a (a ∷ q ∷ []) q (l + 0) = goes arc (stays is) in
      subst (λ (k : ℕ). IsWalk g a (a ∷ q ∷ []) q k) (omega arith) whole
  walk_push {a} {p} {q} {vs} {l} {m} is (goes {vs = us} {l = l1} {m = m1} first rest) arc =
      let whole : IsWalk g a (a ∷ (us ++ q ∷ [])) q (l1 + (m1 + l)) = goes first (walk_push is rest arc) in
      subst (λ (k : ℕ). IsWalk g a (a ∷ (us ++ q ∷ [])) q k) (omega arith) whole

  pub walk_some : {a b : NodeNo} {vs : List NodeNo} {m : ℕ} → IsWalk g a vs b m → 1 ≤ length vs
  walk_some (stays at) = omega arith
  walk_some (goes first rest) = omega arith

  walk_last : {a b : NodeNo} {vs : List NodeNo} {m : ℕ} → IsWalk g a vs b m → (k : ℕ) (d : NodeNo) → length vs ≡ k + 1 → get_or vs k d ≡ b
  walk_last (stays at) zero d e = refl
  walk_last (stays at) (suc k) d e = absurd (omega arith)
  walk_last (goes first rest) zero d e = absurd (omega (arith, walk_some rest))
  walk_last (goes first rest) (suc k) d e = walk_last rest k d (omega arith)

  walk_first : {a b : NodeNo} {vs : List NodeNo} {m : ℕ} → IsWalk g a vs b m → (x : NodeNo) (xs : List NodeNo) → vs ≡ x ∷ xs → a ≡ x
  walk_first (stays at) x xs e = cc
  walk_first (goes first rest) x xs e = cc

  walk_one : {a b : NodeNo} {vs : List NodeNo} {m : ℕ} → IsWalk g a vs b m → length vs ≡ 1 → m ≡ 0
  walk_one (stays at) e = refl
  walk_one (goes first rest) e = absurd (omega (arith, e, walk_some rest))

  -- walks along lists of which one ends the other end at one vertex
  ends_same : (us vs xs : List NodeNo) {a b v w : NodeNo} {m n : ℕ} → xs ≡ us ++ vs → IsWalk g a xs b m → IsWalk g v vs w n → b ≡ w
  ends_same us vs xs {a} {b} {v} {w} e whole part =
      let some = walk_some part in
      let there : get_or vs (length vs - 1) b ≡ w = walk_last part (length vs - 1) b (omega arith) in
      let here : get_or xs (length xs - 1) b ≡ b = walk_last whole (length xs - 1) b (omega (arith, walk_some whole)) in
      let at : length xs - 1 ≡ length us + (length vs - 1) = omega (arith, ap length e, length-append us vs) in
      let same : get_or xs (length xs - 1) b ≡ get_or vs (length vs - 1) b =
      ap (λ (l : List NodeNo). get_or l (length xs - 1) b) e
      ∙ get_or-append_right us vs (length us) (length xs - 1) b refl (omega (arith, at))
      ∙ ap (λ (k : ℕ). get_or vs k b) (let f : length xs - 1 - length us ≡ length vs - 1 = omega (arith, at) in f) in
      sym here ∙ same ∙ there

  pub arcs_same : {p q : NodeNo} {k l : ℕ} → IsLeastArc g.arcs p q k → IsLeastArc g.arcs p q l → k ≡ l
  arcs_same {p} {q} {k} {l} one two = omega (arith, one.least l two.attained, two.least k one.attained)

  record IsSplit (a : NodeNo) (us : List NodeNo) (q : NodeNo) (ws : List NodeNo) (b : NodeNo) (m : ℕ) : Type 0 where
    l : ℕ
    k : ℕ
    front : IsWalk g a (us ++ q ∷ []) q l
    back : IsWalk g q (q ∷ ws) b k
    total : l + k ≡ m

  split : (us ws : List NodeNo) (q : NodeNo) {a b : NodeNo} {m : ℕ} {xs : List NodeNo} → xs ≡ us ++ q ∷ ws → IsVertex g q → IsWalk g a xs b m → IsSplit a us q ws b m
  split [] ws q {a} {b} {m} {xs} e is walk =
      let at : a ≡ q = walk_first walk q ws e in
      record {
        l = 0;
        k = m;
        front = subst (λ (v : NodeNo). IsWalk g v (q ∷ []) q 0) (sym at) (stays is);
        back = subst (λ (v : NodeNo). IsWalk g v (q ∷ ws) b m) at (subst (λ (vs : List NodeNo). IsWalk g a vs b m) e walk);
        total = omega arith;
      }
  split (u ∷ us) ws q e is (stays at) = absurd (omega (arith, ap length e, length-append us (q ∷ ws)))
  split (u ∷ us) ws q {a} {b} e is (goes {v = v} {vs = vs} {l = l1} {m = m1} arc rest) =
      let same : a ≡ u = cc in
      let left : vs ≡ us ++ q ∷ ws = cc in
      let r = split us ws q left is rest in
      record {
        l = l1 + r.l;
        k = r.k;
        front = subst (λ (x : NodeNo). IsWalk g a (x ∷ (us ++ q ∷ [])) q (l1 + r.l)) same (goes arc r.front);
        back = r.back;
        total = omega (arith, r.total);
      }

  join : (ws : List NodeNo) {vs : List NodeNo} {a q b : NodeNo} {l k : ℕ} → IsWalk g a vs q l → IsWalk g q (q ∷ ws) b k → IsWalk g a (vs ++ ws) b (l + k)
  join ws {vs} {a} {q} {b} {l} {k} (stays is) back = subst (λ (n : ℕ). IsWalk g a (a ∷ ws) b n) (let e : k ≡ 0 + k = omega arith in e) back
  join ws {vs} {a} {q} {b} {l} {k} (goes {vs = us} {l = l1} {m = m1} arc rest) back =
      subst (λ (n : ℕ). IsWalk g a (a ∷ (us ++ ws)) b n) (let e : l1 + (m1 + k) ≡ l1 + m1 + k = omega arith in e) (goes arc (join ws rest back))

  -- the walk up to its last vertex
  record IsOneMore (v : NodeNo) (us : List NodeNo) (q : NodeNo) (m : ℕ) : Type 0 where
    p : NodeNo
    l : ℕ
    k : ℕ
    front : IsWalk g v us p l
    arc : IsLeastArc g.arcs p q k
    total : l + k ≡ m

  one_more : (us : List NodeNo) (q : NodeNo) {v b : NodeNo} {m : ℕ} {xs : List NodeNo} → xs ≡ us ++ q ∷ [] → 1 ≤ length us → All (IsVertex g) us → IsWalk g v xs b m → IsOneMore v us q m
  one_more [] q e some all walk = absurd (omega arith)
  one_more (u ∷ us) q e some all (stays at) = absurd (omega (arith, ap length e, length_push us q))
  one_more (u ∷ []) q {v} {b} e some all (goes {v = next} {vs = vs} {l = l1} {m = m1} arc rest) =
      let same : v ≡ u = cc in
      let left : vs ≡ q ∷ [] = cc in
      let at : next ≡ q = walk_first rest q [] left in
      record {
        p = v;
        l = 0;
        k = l1;
        front = subst (λ (x : NodeNo). IsWalk g v (x ∷ []) v 0) same (stays (subst (IsVertex g) (sym same) (All-head (IsVertex g) u [] all)));
        arc = subst (λ (x : NodeNo). IsLeastArc g.arcs v x l1) at arc;
        total = omega (arith, walk_one rest (ap length left));
      }
  one_more (u ∷ w ∷ us) q {v} {b} e some all (goes {v = next} {vs = vs} {l = l1} {m = m1} arc rest) =
      let same : v ≡ u = cc in
      let left : vs ≡ (w ∷ us) ++ q ∷ [] = cc in
      let r = one_more (w ∷ us) q left (omega arith) (All-tail (IsVertex g) u (w ∷ us) all) rest in
      record {
        p = r.p;
        l = l1 + r.l;
        k = r.k;
        front = subst (λ (x : NodeNo). IsWalk g v (x ∷ w ∷ us) r.p (l1 + r.l)) same (goes arc r.front);
        arc = r.arc;
        total = omega (arith, r.total);
      }

  goes_on_push : {a p : NodeNo} {vs : List NodeNo} {m : ℕ} (q : NodeNo) → IsWalk g a vs p m → p ≢ q → AllAdjacentBelow (λ v w. v ≢ w) vs (length vs)
      → AllAdjacentBelow (λ v w. v ≢ w) (vs ++ q ∷ []) (length (vs ++ q ∷ []))
  goes_on_push {a} {p} {vs} {m} q walk apart on = λ k d lt same. elim (cases_lt (k + 1) (length vs)) [
    | inl low ↦
        on k d low (sym (get_or_append_left vs (q ∷ []) d k (omega arith)) ∙ same ∙ get_or_append_left vs (q ∷ []) d (k + 1) low)
    | inr past ↦
        let end : length vs ≡ k + 1 = omega (arith, lt, length_push vs q) in
        apart (sym (walk_last walk k d end) ∙ sym (get_or_append_left vs (q ∷ []) d k (omega arith)) ∙ same ∙ get_or_push vs q d (k + 1) end)
  ]

  -- a part that ends in the vertex that was pushed
  record IsEnd (a b : NodeNo) (places : List NodeNo) (since : ℕ) (q : NodeNo) (seconds : ℕ) (us vs : List NodeNo) (v : NodeNo) (m : ℕ) : Type 0 where
    before : List NodeNo
    is : vs ≡ before ++ q ∷ []
    rest : places ≡ us ++ before
    alone : length before ≡ 0 → m ≡ 0
    more : 1 ≤ length before → (l : ℕ) × (IsWalk g v before b l × (l + seconds ≡ m))

  ends_in : {a b : NodeNo} {total : ℕ} {places : List NodeNo} {since : ℕ} (q : NodeNo) (seconds : ℕ) → IsLeastArc g.arcs b q seconds → IsWay g a b total places since
      → (us vs : List NodeNo) {v w : NodeNo} {m : ℕ} → places ++ q ∷ [] ≡ us ++ vs → IsWalk g v vs w m → IsEnd a b places since q seconds us vs v m
  ends_in {a} {b} {total} {places} {since} q seconds arc way us vs {v} {w} {m} e part =
      let cut = pushed us vs places q e (walk_some part) in
      record {
        before = cut.before;
        is = cut.is;
        rest = cut.rest;
        alone = λ none. walk_one part (ap length cut.is ∙ length_push cut.before q ∙ (let f : length cut.before + 1 ≡ 1 = omega arith in f));
        more = λ some.
            let r = one_more cut.before q cut.is some (all_back (IsVertex g) us cut.before places cut.rest way.vertices) part in
            let at : b ≡ r.p = ends_same us cut.before places cut.rest way.walks r.front in
            let same : r.k ≡ seconds = arcs_same r.arc (subst (λ (x : NodeNo). IsLeastArc g.arcs x q seconds) at arc) in
            (r.l, (subst (λ (x : NodeNo). IsWalk g v cut.before x r.l) (sym at) r.front, omega (arith, r.total, same)));
      }

-- a walk begins at its first vertex
pub way_starts : (g : Streets) (a : NodeNo) → IsVertex g a → IsWay g a a 0 (a ∷ []) 0
way_starts g a is = record {
  walks = stays is;
  vertices = λ k d lt. one k d lt;
  goes_on = λ k d lt. absurd (omega (arith, lt));
  no_circle = λ us vs ws v e circle. omega (arith, ap length e, length-append (us ++ vs) ws, length-append us vs, walk_some g circle);
  low = omega arith;
  late = λ us vs v m e part.
      let short : length vs ≡ 1 = omega (arith, ap length e, length-append us vs, walk_some g part) in
      (λ nought. omega arith, λ le. walk_one g part short);
}
  where
    one : (k : ℕ) (d : NodeNo) → k < 1 → IsVertex g (get_or (a ∷ []) k d)
    one zero d lt = is
    one (suc k) d lt = absurd (omega (arith, lt))

module _ (g : Streets) {a b : NodeNo} {total : ℕ} {places : List NodeNo} {since : ℕ} (q : NodeNo) (way : IsWay g a b total places since) (is : IsVertex g q) (apart : b ≢ q) where
  -- a part of 0 seconds that ends in the pushed vertex
  no_circle_push : (seconds : ℕ) → IsLeastArc g.arcs b q seconds
      → ((us before : List NodeNo) (l : ℕ) → places ≡ us ++ before → 1 ≤ length before → IsWalk g q before b l → l + seconds ≡ 0 → ⊥) → HasNoIdleCircle g (places ++ q ∷ [])
  no_circle_push seconds arc none us vs [] v e circle =
      let whole : places ++ q ∷ [] ≡ us ++ vs = e ∙ append-nil (us ++ vs) in
      let end = ends_in g q seconds arc way us vs whole circle in
      let long : length vs ≡ length end.before + 1 = ap length end.is ∙ length_push end.before q in
      let at : v ≡ q = sym (walk_last g circle (length end.before) q long) ∙ ap (λ (l : List NodeNo). get_or l (length end.before) q) end.is ∙ get_or_push end.before q q (length end.before) refl in
      elim (cases_eq (length end.before) 0) [
        | inl nil ↦ omega (arith, long, nil)
        | inr some ↦
            let more = end.more (omega (arith, some)) in
            absurd (none us end.before more.0 end.rest (omega (arith, some)) (subst (λ (x : NodeNo). IsWalk g x end.before b more.0) at more.1.0) more.1.1)
      ]
  no_circle_push seconds arc none us vs (w ∷ ws) v e circle =
      let cut = pushed (us ++ vs) (w ∷ ws) places q e (omega arith) in
      way.no_circle us vs cut.before v cut.rest circle

  -- along a street of some seconds
  pub goes_later : (seconds : ℕ) → IsLeastArc g.arcs b q seconds → 1 ≤ seconds → IsWay g a q (total + seconds) (places ++ q ∷ []) (length places)
  goes_later seconds arc some = record {
    walks = walk_push g is way.walks arc;
    vertices = All-push (IsVertex g) places q way.vertices is;
    goes_on = goes_on_push g q way.walks apart way.goes_on;
    no_circle = no_circle_push seconds arc (λ us before l e long part nought. omega (arith, some, nought));
    low = omega (arith, length_push places q);
    late = λ us vs v m e part.
        let end = ends_in g q seconds arc way us vs e part in
        let long : length places ≡ length us + length end.before = ap length end.rest ∙ length-append us end.before in (
          (λ nought. elim (cases_eq (length end.before) 0) [
            | inl none ↦ omega (arith, long, none)
            | inr ne ↦ let more = end.more (omega (arith, ne)) in absurd (omega (arith, more.1.1, nought, some))
          ]),
          (λ le. end.alone (omega (arith, long, le))),
        );
  }

  -- along a street of 0 seconds, to a vertex where the walk was not at this second
  pub goes_at_once : IsLeastArc g.arcs b q 0 → ((k : ℕ) → since ≤ k → k < length places → get_or places k q ≢ q) → IsWay g a q (total + 0) (places ++ q ∷ []) since
  goes_at_once arc new = record {
    walks = walk_push g is way.walks arc;
    vertices = All-push (IsVertex g) places q way.vertices is;
    goes_on = goes_on_push g q way.walks apart way.goes_on;
    no_circle = no_circle_push 0 arc (λ us before l e long part nought.
        let late = (way.late us before q l e part).0 (omega (arith, nought)) in
        new (length us) late (omega (arith, ap length e, length-append us before, long)) (first_of us before l e long part));
    low = omega (arith, length_push places q, way.low);
    late = λ us vs v m e part.
        let end = ends_in g q 0 arc way us vs e part in
        let long : length places ≡ length us + length end.before = ap length end.rest ∙ length-append us end.before in (
          (λ nought. elim (cases_eq (length end.before) 0) [
            | inl none ↦ omega (arith, long, none, way.low)
            | inr ne ↦ let more = end.more (omega (arith, ne)) in (way.late us end.before v more.0 end.rest more.1.0).0 (omega (arith, more.1.1, nought))
          ]),
          (λ le. elim (cases_eq (length end.before) 0) [
            | inl none ↦ end.alone none
            | inr ne ↦
                let more = end.more (omega (arith, ne)) in
                let here = (way.late us end.before v more.0 end.rest more.1.0).1 le in
                omega (arith, more.1.1, here)
          ]),
        );
  }
    where
      first_of : (us before : List NodeNo) (l : ℕ) → places ≡ us ++ before → 1 ≤ length before → IsWalk g q before b l → get_or places (length us) q ≡ q
      first_of us [] l e long part = absurd (omega (arith, long))
      first_of us (x ∷ xs) l e long part =
          ap (λ (vs : List NodeNo). get_or vs (length us) q) e
          ∙ get_or-append_right us (x ∷ xs) (length us) (length us) q refl (omega arith)
          ∙ ap (λ (k : ℕ). get_or (x ∷ xs) k q) (let f : length us - length us ≡ 0 = omega arith in f)
          ∙ sym (walk_first g part x xs refl)

  -- along a street of 0 seconds, back to a vertex where the walk was at this second: the circle is cut
  pub goes_back : (at : ℕ) → since ≤ at → at < length places → get_or places at q ≡ q → IsWay g a q (total + 0) (take (at + 1) places) since
  goes_back at from low here =
      let before : List NodeNo = take at places in
      let behind : List NodeNo = drop (at + 1) places in
      let long : length before ≡ at = length-take-le at places (omega (arith, low)) in
      let e : places ≡ before ++ q ∷ behind = split_at places at q low ∙ ap (λ (x : NodeNo). before ++ x ∷ behind) here in
      let whole : places ≡ (before ++ q ∷ []) ++ behind = e ∙ sym (append_assoc before (q ∷ []) behind) in
      let cut = split g before behind q e is way.walks in
      let none : cut.k ≡ 0 = (way.late before (q ∷ behind) q cut.k e cut.back).1 (omega (arith, long, from)) in
      let same : before ++ q ∷ [] ≡ take (at + 1) places = sym (take_more places at q low ∙ ap (λ (x : NodeNo). before ++ x ∷ []) here) in
      subst (λ (vs : List NodeNo). IsWay g a q (total + 0) vs since) same
      (record {
        walks = subst (λ (m : ℕ). IsWalk g a (before ++ q ∷ []) q m) (let f : cut.l ≡ total + 0 = omega (arith, cut.total, none) in f) cut.front;
        vertices = all_front_of (IsVertex g) (before ++ q ∷ []) behind places whole way.vertices;
        goes_on = λ k d lt twice. way.goes_on k d (omega (arith, lt, ap length whole, length-append (before ++ q ∷ []) behind))
            (ap (λ (vs : List NodeNo). get_or vs k d) whole ∙ get_or_append_left (before ++ q ∷ []) behind d k (omega (arith, lt)) ∙ twice
            ∙ sym (get_or_append_left (before ++ q ∷ []) behind d (k + 1) lt) ∙ sym (ap (λ (vs : List NodeNo). get_or vs (k + 1) d) whole));
        no_circle = λ us vs ws v f circle. way.no_circle us vs (ws ++ behind) v
            (whole ∙ ap (λ (l : List NodeNo). l ++ behind) f ∙ append_assoc (us ++ vs) ws behind) circle;
        low = omega (arith, length_push before q, long, from);
        late = λ us vs v m f part.
            let there = way.late us (vs ++ behind) v (m + cut.k) (whole ∙ ap (λ (l : List NodeNo). l ++ behind) f ∙ append_assoc us vs behind) (join g behind part cut.back) in
            (λ nought. there.0 (omega (arith, nought, none)), λ le. omega (arith, there.1 le));
      })

-- a shortest walk without an idle circle
pub no_twice : (g : Streets) {a b : NodeNo} {m : ℕ} {walk : List NodeNo} → IsWalk g a walk b m → All (IsVertex g) walk → HasNoIdleCircle g walk
    → ((vs : List NodeNo) (n : ℕ) → IsWalk g a vs b n → m ≤ n) → AllPairs (λ v w. v ≢ w) walk
no_twice g (stays at) all none least = λ i j d lt low. absurd (omega (arith, lt, low))
no_twice g {a} {b} (goes {v = v} {vs = vs} {l = l} {m = m} arc rest) all none least =
    let tail : All (IsVertex g) vs = All-tail (IsVertex g) a vs all in
    let shortest : (us : List NodeNo) (n : ℕ) → IsWalk g v us b n → m ≤ n = λ us n other. omega (arith, least (a ∷ us) (l + n) (goes arc other)) in
    AllPairs-cons (λ x y. x ≢ y) a vs
    (λ k d lt same.
    let before : List NodeNo = take k vs in
    let behind : List NodeNo = drop (k + 1) vs in
    let e : vs ≡ before ++ a ∷ behind = split_at vs k d lt ∙ ap (λ (x : NodeNo). before ++ x ∷ behind) (sym same) in
    let cut = split g before behind a e (All-head (IsVertex g) a vs all) rest in
    let fewer = least (a ∷ behind) cut.k cut.back in
    let nought : l + cut.l ≡ 0 = omega (arith, fewer, cut.total) in
    let circle : IsWalk g a (a ∷ (before ++ a ∷ [])) a 0 = subst (λ (n : ℕ). IsWalk g a (a ∷ (before ++ a ∷ [])) a n) nought (goes arc cut.front) in
    let one = none [] (a ∷ (before ++ a ∷ [])) behind a (ap (λ (xs : List NodeNo). a ∷ xs) (e ∙ sym (append_assoc before (a ∷ []) behind))) circle in
    absurd (omega (arith, one, length_push before a)))
    (no_twice g rest tail (λ us ws xs x e circle. none (a ∷ us) ws xs x (ap (λ (ys : List NodeNo). a ∷ ys) e) circle) shortest)
