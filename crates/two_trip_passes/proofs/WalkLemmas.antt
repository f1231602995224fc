-- Walks on from all stops.
use Rattle.std.proofs.Common.{◌≡◌, ◌≢◌, ℕ, ◌+◌, ◌<◌, ◌≤◌, ◌⊎◌, inl, inr, List, [], ◌∷◌, length, refl, sym, ap, subst, ◌∙◌, arith}
use Rattle.std.proofs.lemmas.Bool.{cases_lt, cases_eq}
use Rattle.std.specs.Prelude.{slice_index}
use Rattle.move_model.specs.declared.network.StopNo.{StopNo}
use Rattle.move_model.specs.Shortcut.{IsLess}
use Rattle.pareto_laws.proofs.Calls.{stop_eq}
use Rattle.stop_rows.specs.Rows.{Rows, entry, place_at}
use Rattle.piece_laws.specs.declared.labels.Ready.{Ready}
use Rattle.piece_laws.specs.Pieces.{ready_entries}
use Rattle.piece_laws.specs.Tables.{never}
use Rattle.two_trip_rides.specs.Second.{ready_at}
use Rattle.two_trip_labels.specs.Walks.{ReadyFall, IsWalkLabel, IsWalkedTo}
use Rattle.two_trip_labels.proofs.WalkLemmas.{ready_none, ready_on, walked_falls}
use Rattle.two_trip_passes.specs.Walks.{row_of, last_walked, IsWalkOf, IsWalkedFrom, WalkGoes}

-- walks go by what stands in a row
pub walked_by : (row row' foot : List ℕ) (z a c : ℕ) (ready : List Ready) (p : ℕ) → slice_index row p ≡ slice_index row' p → IsWalkedTo row foot z a c ready p
    → IsWalkedTo row' foot z a c ready p
walked_by row row' foot z a c ready p e walked =
    subst (λ (v : ℕ). a + v < never → (z + slice_index foot p ≤ a + v) ⊎ ¬ (IsLess ((a + v) ∷ a ∷ c ∷ []) (ready_entries (ready_at ready p)))) e walked

pub walk_of : (rows : Rows) (first row : List ℕ) (x : StopNo) (p : ℕ) (l : Ready) → x.0 < length first
    → slice_index row p ≡ entry rows (place_at rows x) p → IsWalkLabel row (slice_index first x.0) (1 + x.0) p l → IsWalkOf rows first p l
walk_of rows first row x p l within e is =
    let r = ap (λ (m : Ready). m.ready) is.label_is in
    let a = ap (λ (m : Ready). m.a1) is.label_is in
    record {
      stop = x;
      exists = within;
      a1_is = a;
      ready_is = omega (arith, r, a, e);
      c_is = ap (λ (m : Ready). m.c) is.label_is;
      in_time = omega (arith, r, is.in_time);
    }

module _ (rows : Rows) (foot : List ℕ) (z : ℕ) (first : List ℕ) where
  pub goes_none : (walked : List ℕ) (ready : List Ready) → WalkGoes rows foot z first walked walked ready ready
  goes_none walked ready = record {
    as_many = refl;
    each = λ x. inl refl;
    ready_falls = ready_none ready;
    changed = λ p. inl refl;
    walks = λ x p within was. was;
  }

  pub goes_on : (walked walked' walked'' : List ℕ) (ready ready' ready'' : List Ready) → WalkGoes rows foot z first walked walked' ready ready'
      → WalkGoes rows foot z first walked' walked'' ready' ready'' → WalkGoes rows foot z first walked walked'' ready ready''
  goes_on walked walked' walked'' ready ready' ready'' f g = record {
    as_many = g.as_many ∙ f.as_many;
    each = λ x. each_on x (f.each x) (g.each x);
    ready_falls = ready_on ready ready' ready'' f.ready_falls g.ready_falls;
    changed = λ p. changed_on p (f.changed p) (g.changed p);
    walks = λ x p within was. g.walks x p within (f.walks x p within was);
  }
    where
      each_on : (x : ℕ) → (last_walked walked' x ≡ last_walked walked x) ⊎ ((x < length first) × (last_walked walked' x ≡ slice_index first x))
          → (last_walked walked'' x ≡ last_walked walked' x) ⊎ ((x < length first) × (last_walked walked'' x ≡ slice_index first x))
          → (last_walked walked'' x ≡ last_walked walked x) ⊎ ((x < length first) × (last_walked walked'' x ≡ slice_index first x))
      each_on x before (inr new) = inr new
      each_on x (inl old) (inl same) = inl (same ∙ old)
      each_on x (inr was) (inl same) = inr (was.0, same ∙ was.1)

      changed_on : (p : ℕ) → (ready_at ready' p ≡ ready_at ready p) ⊎ IsWalkOf rows first p (ready_at ready' p)
          → (ready_at ready'' p ≡ ready_at ready' p) ⊎ IsWalkOf rows first p (ready_at ready'' p)
          → (ready_at ready'' p ≡ ready_at ready p) ⊎ IsWalkOf rows first p (ready_at ready'' p)
      changed_on p before (inr new) = inr new
      changed_on p (inl old) (inl same) = inl (same ∙ old)
      changed_on p (inr was) (inl same) = inr (subst (λ (l : Ready). IsWalkOf rows first p l) (sym same) was)

  -- walks are made from one stop
  pub goes_stop : (walked walked' : List ℕ) (ready ready' : List Ready) (x : ℕ) → x < length first → length walked' ≡ length walked
      → last_walked walked' x ≡ slice_index first x → ((y : ℕ) → y ≢ x → last_walked walked' y ≡ last_walked walked y)
      → ((p : ℕ) → p < length rows.nodes → IsWalkedFrom rows foot z (slice_index first x) (record { 0 = x }) ready' p) → ReadyFall ready ready'
      → ((p : ℕ) → (ready_at ready' p ≡ ready_at ready p) ⊎ IsWalkOf rows first p (ready_at ready' p))
      → WalkGoes rows foot z first walked walked' ready ready'
  goes_stop walked walked' ready ready' x within many here others known falls changed = record {
    as_many = many;
    each = λ y. elim (cases_eq y x) [
      | inl e ↦ inr (omega (arith, e, within), ap (λ (i : ℕ). last_walked walked' i) e ∙ here ∙ ap (λ (i : ℕ). slice_index first i) (sym e))
      | inr ne ↦ inl (others y ne)
    ];
    ready_falls = falls;
    changed = changed;
    walks = λ y p low was. elim (cases_eq y.0 x) [
      | inl e ↦ new y p e (known p low)
      | inr ne ↦ subst (λ (a : ℕ). IsWalkedFrom rows foot z a y ready' p) (sym (others y.0 ne)) (walked_falls (row_of rows y) foot z (last_walked walked y.0) (1 + y.0) ready ready' p falls was)
    ];
  }
    where
      new : (y : StopNo) (p : ℕ) → y.0 ≡ x → IsWalkedFrom rows foot z (slice_index first x) (record { 0 = x }) ready' p
          → IsWalkedFrom rows foot z (last_walked walked' y.0) y ready' p
      new y p e known' =
          let a : slice_index first x ≡ last_walked walked' y.0 = sym (ap (λ (i : ℕ). last_walked walked' i) e ∙ here) in
          subst (λ (a : ℕ). IsWalkedFrom rows foot z a y ready' p) a
          (subst (λ (i : StopNo). IsWalkedFrom rows foot z (slice_index first x) i ready' p) (stop_eq (record { 0 = x }) y (sym e)) known')

pub low_more : (first walked walked' : List ℕ) (m : ℕ) → ((x : ℕ) → (last_walked walked' x ≡ last_walked walked x) ⊎ ((x < length first) × (last_walked walked' x ≡ slice_index first x)))
    → ((x : ℕ) → x < m → last_walked walked x ≤ slice_index first x) → last_walked walked' m ≤ slice_index first m → (x : ℕ) → x < m + 1 → last_walked walked' x ≤ slice_index first x
low_more first walked walked' m each was this x low = elim (cases_lt x m) [
  | inl l ↦ elim (each x) [ inl e ↦ omega (arith, e, was x l) | inr e ↦ omega (arith, e.1) ]
  | inr g ↦ subst (λ (k : ℕ). last_walked walked' k ≤ slice_index first k) (let e : m ≡ x = omega arith in e) this
]
