-- Reading needed walks off the labels.
use Rattle.std.proofs.Common.{◌≡◌, ℕ, ◌+◌, ◌-◌, ◌<◌, ◌≤◌, ◌⊎◌, inl, inr, List, [], ◌∷◌, ◌++◌, length, get_or, refl, sym, subst, ◌∙◌, arith}
use Rattle.std.proofs.lemmas.Bool.{cases_lt}
use Rattle.std.proofs.lemmas.List.{get_or_default}
use Rattle.std.proofs.lemmas.List.Elements.{Contains-push, Contains-push_cases, Contains-append_left}
use Rattle.std.specs.Prelude.{◌↔◌, Contains, slice_index}
use Rattle.move_model.specs.declared.network.Network.{Network}
use Rattle.move_model.specs.declared.network.NodeNo.{NodeNo}
use Rattle.move_model.specs.declared.network.StopNo.{StopNo}
use Rattle.move_model.specs.Network.{IsNetwork, streets, IsStopDistance}
use Rattle.move_model.specs.Shortcut.{IsLess}
use Rattle.pareto_laws.proofs.Walks.{IsWalk-begins}
use Rattle.pareto_laws.proofs.Calls.{stop_eq}
use Rattle.route_split.specs.Route.{Route}
use Rattle.stop_rows.specs.Rows.{Rows, entry, place_at}
use Rattle.piece_laws.specs.declared.labels.Ready.{Ready}
use Rattle.piece_laws.specs.declared.labels.Second.{Second}
use Rattle.piece_laws.specs.Tables.{never, IsRead}
use Rattle.two_trip_rides.specs.Second.{ready_at, second_at}
use Rattle.two_trip_labels.specs.Closed.{last_second, ArePartsOf}
use Rattle.two_trip_labels.proofs.ReadyTable.{stop_exists}
use Rattle.two_trip_passes.specs.Own.{own_at}
use Rattle.two_trip_passes.specs.Read.{Pair, key_pair, IsFound, arrival, IsNear, HasNear, IsReadAt, IsReadBefore, IsReadUntil, IsReadLast, IsOwnKey, HasRead}
use Rattle.two_trip_passes.specs.Step.{parts_of, AreRowsOf}

not_near : (a b m : ℕ) → b ≤ last_second → last_second < m → ¬ (IsLess ((a + m) ∷ a ∷ []) (b ∷ b ∷ []))
not_near a b m low high (inl l) = omega arith
not_near a b m low high (inr (e, l)) = omega arith

module _ (n : Network) (q : NodeNo) (z : ℕ) (routes : List Route) (foot foot_row : List ℕ) (rows : Rows) (own : List ℕ) (boarded : List Ready) (best : List Second)
    (ok : IsNetwork n) (parts : ArePartsOf n q (parts_of routes foot foot_row rows)) (are : AreRowsOf n rows) where
  -- of a stop that exists
  pub read_at : (h : ℕ) (v x y : StopNo) → v.0 < length n.stops → h ≤ 1 + last_second
      → IsRead n q z h (λ s. own_at own s) (λ s. ready_at boarded s.0) (λ s. second_at best s.0) v x y → IsReadAt rows foot z own boarded best v x y
  read_at h v x y v_in low r = record {
    within = omega (arith, r.within, low);
    c_is = r.c_is;
    y_is = r.y_is;
    own_is = r.own_is;
    no_foot = elim (cases_lt (slice_index foot v.0) never) [
      | inl l ↦ r.no_foot (slice_index foot v.0) ((parts.on_foot v v_in).real l)
      | inr g ↦ omega (arith, r.within, low)
    ];
    no_ride = r.no_ride;
    no_far = λ near. far near.stop (omega (arith, near.exists, are.one_each)) near.near;
  }
    where
      far : (w : StopNo) → w.0 < length n.stops → ¬ (IsNear rows best w (place_at rows v) (arrival best v))
      far w w_in near =
          let m : ℕ = entry rows (place_at rows w) (place_at rows v) in
          elim (cases_lt m never) [
            | inl l ↦ r.no_far w m ((parts.between w v w_in v_in).real l) near
            | inr g ↦ not_near (arrival best w) (arrival best v) m (omega (arith, r.within, low)) (omega arith) near
          ]

  pub read_from : (h : ℕ) (v x y : StopNo) → v.0 < length n.stops → arrival best v < h → IsReadAt rows foot z own boarded best v x y
      → IsRead n q z h (λ s. own_at own s) (λ s. ready_at boarded s.0) (λ s. second_at best s.0) v x y
  read_from h v x y v_in early r = record {
    within = early;
    c_is = r.c_is;
    y_is = r.y_is;
    own_is = r.own_is;
    no_foot = λ m d. elim (cases_lt last_second m) [
      | inl l ↦ omega (arith, r.within)
      | inr g ↦ let e : slice_index foot v.0 ≡ m = (parts.on_foot v v_in).enough m d (omega arith) in omega (arith, r.no_foot, e)
    ];
    no_ride = r.no_ride;
    no_far = λ w m d near. far w m d near;
  }
    where
      far : (w : StopNo) (m : ℕ) → IsStopDistance n w v m → ¬ (IsLess ((arrival best w + m) ∷ arrival best w ∷ []) (arrival best v ∷ arrival best v ∷ []))
      far w m d near = elim (cases_lt last_second m) [
        | inl l ↦ not_near (arrival best w) (arrival best v) m (omega (arith, r.within)) l near
        | inr g ↦
            let w_in = stop_exists n w (IsWalk-begins (streets n) ok.streets_join d.attained.1) in
            let e : entry rows (place_at rows w) (place_at rows v) ≡ m = (parts.between w v w_in v_in).enough m d (omega arith) in
            r.no_far (record {
              stop = w;
              exists = omega (arith, w_in, are.one_each);
              near = subst (λ (k : ℕ). IsLess ((arrival best w + k) ∷ arrival best w ∷ []) (arrival best v ∷ arrival best v ∷ [])) (sym e) near;
            })
      ]

module _ (rows : Rows) (foot : List ℕ) (z : ℕ) (own : List ℕ) (boarded : List Ready) (best : List Second) where
  pub own_key : (v x y : StopNo) → IsReadAt rows foot z own boarded best v x y → IsOwnKey foot z own boarded v (second_at best v.0)
  own_key v x y r = record {
    within = r.within;
    some = omega (arith, r.c_is);
    own_is = subst (λ (s : StopNo). own_at own s ≡ (second_at best v.0).label.a1) (stop_eq x (record { 0 = (second_at best v.0).label.c - 1 }) (omega (arith, r.c_is))) r.own_is;
    no_foot = r.no_foot;
    no_ride = r.no_ride;
  }

  pub read_of : (v : StopNo) → IsOwnKey foot z own boarded v (second_at best v.0) → ¬ (HasNear rows best (place_at rows v) (arrival best v))
      → IsReadAt rows foot z own boarded best v (key_pair (second_at best v.0)).0 (key_pair (second_at best v.0)).1
  read_of v is far = record {
    within = is.within;
    c_is = omega (arith, is.some);
    y_is = refl;
    own_is = is.own_is;
    no_foot = is.no_foot;
    no_ride = is.no_ride;
    no_far = far;
  }

  pub read_pair : (v : StopNo) (q : Pair) → IsReadAt rows foot z own boarded best v q.0 q.1 → q ≡ key_pair (second_at best v.0)
  read_pair v q r =
      let e = stop_eq q.0 (record { 0 = (second_at best v.0).label.c - 1 }) (omega (arith, r.c_is)) in
      let f = stop_eq q.1 (record { 0 = (second_at best v.0).y }) (sym r.y_is) in
      λ i. (e i, f i)

  -- the labels say nothing at a stop, or what was found before
  pub read_nothing : (v : StopNo) (before : ℕ) (known pairs : List Pair) (q : Pair) → (IsReadBefore rows foot z before own boarded best v q.0 q.1 → Contains known q)
      → IsFound known pairs q ↔ (IsFound known pairs q ⊎ IsReadBefore rows foot z before own boarded best v q.0 q.1)
  read_nothing v before known pairs q none = (there, back)
    where
      there : IsFound known pairs q → IsFound known pairs q ⊎ IsReadBefore rows foot z before own boarded best v q.0 q.1
      there h = inl h

      back : IsFound known pairs q ⊎ IsReadBefore rows foot z before own boarded best v q.0 q.1 → IsFound known pairs q
      back (inl was) = was
      back (inr r) = inl (none r)

  -- one pair more, that of a stop's key
  pub read_pushed : (v : StopNo) (before : ℕ) (pair : Pair) (known old : List Pair) (q : Pair) → pair ≡ key_pair (second_at best v.0)
      → IsReadBefore rows foot z before own boarded best v pair.0 pair.1 → IsFound known (old ++ pair ∷ []) q ↔ (IsFound known old q ⊎ IsReadBefore rows foot z before own boarded best v q.0 q.1)
  read_pushed v before pair known old q is here = (there, back)
    where
      there : IsFound known (old ++ pair ∷ []) q → IsFound known old q ⊎ IsReadBefore rows foot z before own boarded best v q.0 q.1
      there (inl was) = inl (inl was)
      there (inr h) = elim (Contains-push_cases old pair q h) [
        | inl was ↦ inl (inr was)
        | inr t ↦ inr (subst (λ (s : Pair). IsReadBefore rows foot z before own boarded best v s.0 s.1) t here)
      ]

      back : IsFound known old q ⊎ IsReadBefore rows foot z before own boarded best v q.0 q.1 → IsFound known (old ++ pair ∷ []) q
      back (inl (inl was)) = inl was
      back (inl (inr was)) = inr (Contains-append_left old (pair ∷ []) q was)
      back (inr r) =
          let same : q ≡ pair = read_pair v q r.read ∙ sym is in
          inr (subst (λ (t : Pair). Contains (old ++ pair ∷ []) t) (sym same) (Contains-push old pair))

  pub read_more : (before m : ℕ) (known xs ys zs : List Pair) (q : Pair) → IsFound known ys q ↔ (IsFound known xs q ⊎ HasRead rows foot z before own boarded best m q.0 q.1)
      → IsFound known zs q ↔ (IsFound known ys q ⊎ IsReadBefore rows foot z before own boarded best (record { 0 = m }) q.0 q.1)
      → IsFound known zs q ↔ (IsFound known xs q ⊎ HasRead rows foot z before own boarded best (m + 1) q.0 q.1)
  read_more before m known xs ys zs q was this = (there, back)
    where
      there : IsFound known zs q → IsFound known xs q ⊎ HasRead rows foot z before own boarded best (m + 1) q.0 q.1
      there h = elim (this.0 h) [
        | inl before ↦ elim (was.0 before) [
          | inl old ↦ inl old
          | inr r ↦ inr (record { stop = r.stop; exists = omega (arith, r.exists); read = r.read })
        ]
        | inr new ↦ inr (record { stop = record { 0 = m }; exists = omega arith; read = new })
      ]

      back : IsFound known xs q ⊎ HasRead rows foot z before own boarded best (m + 1) q.0 q.1 → IsFound known zs q
      back h = elim h [
        | inl old ↦ this.1 (inl (was.1 (inl old)))
        | inr r ↦ elim (cases_lt r.stop.0 m) [
          | inl l ↦ this.1 (inl (was.1 (inr (record { stop = r.stop; exists = l; read = r.read }))))
          | inr g ↦ this.1 (inr (subst (λ (s : StopNo). IsReadBefore rows foot z before own boarded best s q.0 q.1) (stop_eq r.stop (record { 0 = m }) (omega (arith, r.exists))) r.read))
        ]
      ]

  -- what is known until a second is known until a later one
  pub until_later : (known : List Pair) (v : StopNo) (a b : ℕ) → a ≤ b → IsReadUntil rows foot z own boarded best known v a → IsReadUntil rows foot z own boarded best known v b
  until_later known v a b le was q r = elim (was q r) [ inl has ↦ inl has | inr l ↦ inr (omega (arith, le, l)) ]

  pub until_more : (known : List Pair) (m a b : ℕ) → a ≤ b → ((v : StopNo) → v.0 < m → IsReadUntil rows foot z own boarded best known v a)
      → IsReadUntil rows foot z own boarded best known (record { 0 = m }) b → (v : StopNo) → v.0 < m + 1 → IsReadUntil rows foot z own boarded best known v b
  until_more known m a b le was this v low = elim (cases_lt v.0 m) [
    | inl l ↦ until_later known v a b le (was v l)
    | inr g ↦ subst (λ (s : StopNo). IsReadUntil rows foot z own boarded best known s b) (sym (stop_eq v (record { 0 = m }) (omega (arith, low)))) this
  ]

  pub last_more : (m a b : ℕ) → (a ≡ 0) ⊎ IsReadLast rows foot z own boarded best m a → (b ≡ a) ⊎ IsReadLast rows foot z own boarded best (m + 1) b
      → (b ≡ 0) ⊎ IsReadLast rows foot z own boarded best (m + 1) b
  last_more m a b was (inr new) = inr new
  last_more m a b (inl none) (inl same) = inl (same ∙ none)
  last_more m a b (inr l) (inl same) = inr (record { stop = l.stop; exists = omega (arith, l.exists); pair = l.pair; read = l.read; is_last = same ∙ l.is_last })

pub pair_known : (known : List Pair) (k : ℕ) (d q : Pair) → k < length known → (get_or known k d).0.0 ≡ q.0.0 → (get_or known k d).1.0 ≡ q.1.0 → Contains known q
pair_known known k d q low e f =
    let e' = stop_eq (get_or known k d).0 q.0 e in
    let f' = stop_eq (get_or known k d).1 q.1 f in
    let same : get_or known k d ≡ q = λ i. (e' i, f' i) in
    subst (λ (t : Pair). Contains known t) same (k, low, get_or_default known k (get_or known k d) d low)
