-- All seconds of a window: which departures are done, what was opened, and what is right.
use Rattle.std.proofs.Common.{◌≡◌, ℕ, zero, suc, ◌+◌, ◌-◌, ◌*◌, ◌/◌, ◌<◌, ◌≤◌, inl, inr, List, [], ◌∷◌, length, get_or, sym, ap, ◌∙◌, subst, arith, Option, Some, None}
use Rattle.std.specs.Prelude.{slice_get, slice_index, Contains, All}
use Rattle.std.specs.List.{AllAdjacentBelow}
use Rattle.std.proofs.Math.Nat.{mul-add, mul-le-mul_left}
use Rattle.std.proofs.lemmas.Bool.{cases_eq, cases_lt}
use Rattle.std.proofs.lemmas.List.Sums.{count_by-le-length}
use Rattle.std.proofs.lemmas.Option.{slice_get_within, get_or_from_slice_get, slice_get-get_or, same_Some}
use Rattle.std.specs.declared.alloc.Global.{Global}
use Rattle.std.specs.declared.vec.Vec.{Vec}
use Rattle.move_model.specs.declared.network.Network.{Network}
use Rattle.move_model.specs.declared.network.StopNo.{StopNo}
use Rattle.move_model.specs.declared.journey.Shortcut.{Shortcut}
use Rattle.route_split.specs.Table.{Table}
use Rattle.range_spans.specs.declared.pending.OpenSpan.{OpenSpan}
use Rattle.move_model.specs.declared.journey.Span.{Span}
use Rattle.range_spans.specs.Open.{RangeQuery, BeginLater, Stands}
use Rattle.range_lanes.specs.declared.level.Level.{Level}
use Rattle.range_lanes.specs.declared.lent.LentRows.{LentRows}
use Rattle.range_lanes.specs.Levels.{Fits}
use Rattle.range_lanes.specs.Lent.{IsLentBy, lent_count}
use Rattle.range_lanes.specs.State.{IsClosed, AreSound}
use Rattle.range_lanes.proofs.Departing.{sound_earlier}
use Rattle.range_profile.specs.Seeds.{HasSeed}
use Rattle.range_search.specs.Search.{CatchesListed, IsRowCaught, HasDone, HasOpened}
use Rattle.range_profile.specs.Window.{SeedsWindow, asked}
use Rattle.range_search.specs.Leads.{Right, query_at}

abbrev Falling : List ℕ → Type 0
Falling ds = AllAdjacentBelow (λ a b. b < a) ds (length ds)

falls_by : (ds : List ℕ) → Falling ds → (n i : ℕ) → i + n + 1 < length ds → slice_index ds (i + n + 1) < slice_index ds i
falls_by ds falling zero i lt =
    let e : i + 1 ≡ i + zero + 1 = omega arith in
    subst (λ j. slice_index ds j < slice_index ds i) e (falling i 0 (omega (arith, lt)))
falls_by ds falling (suc n) i lt =
    let step : slice_index ds (i + n + 1 + 1) < slice_index ds (i + n + 1) = falling (i + n + 1) 0 (omega (arith, lt)) in
    let rest : slice_index ds (i + n + 1) < slice_index ds i = falls_by ds falling n i (omega (arith, lt)) in
    let both : slice_index ds (i + n + 1 + 1) < slice_index ds i = omega (arith, step, rest) in
    let e : i + n + 1 + 1 ≡ i + suc n + 1 = omega arith in
    subst (λ j. slice_index ds j < slice_index ds i) e both

pub falls : (ds : List ℕ) → Falling ds → (i j : ℕ) → i < j → j < length ds → slice_index ds j < slice_index ds i
falls ds falling i j lt within =
    let e : i + (j - i - 1) + 1 ≡ j = omega (arith, lt) in
    subst (λ k. slice_index ds k < slice_index ds i) e (falls_by ds falling (j - i - 1) i (omega (arith, within, e)))

-- the departures from second d on are done
pub record IsNext (ds : List ℕ) (d next : ℕ) : Type 0 where
  pub some : 1 ≤ next
  pub few : next ≤ length ds
  pub behind : (j : ℕ) → j < next → d ≤ slice_index ds j
  pub ahead : (j : ℕ) → next ≤ j → j < length ds → slice_index ds j < d

index_at : (ds : List ℕ) (k d : ℕ) → slice_get ds k ≡ Some d → slice_index ds k ≡ d
index_at ds k d e = get_or_from_slice_get ds k d 0 e

pub next_starts : (ds : List ℕ) (last : ℕ) → Falling ds → slice_get ds 0 ≡ Some last → IsNext ds last 1
next_starts ds last falling starts = record {
  some = omega arith;
  few = omega (arith, slice_get_within ds 0 last starts);
  behind = λ j lt.
      let e : 0 ≡ j = omega (arith, lt) in
      let first_is : last ≤ slice_index ds 0 = omega (arith, index_at ds 0 last starts) in
      subst (λ k. last ≤ slice_index ds k) e first_is;
  ahead = λ j le within. omega (arith, falls ds falling 0 j (omega (arith, le)) within, index_at ds 0 last starts);
}

pub next_listed : (ds : List ℕ) (d next : ℕ) → Falling ds → IsNext ds (d + 1) next → Contains ds d → slice_get ds next ≡ Some d
next_listed ds d next falling is (j, lt, e) =
    let at_j : slice_index ds j ≡ d = read ds j d lt e in
    elim (cases_lt j next) [
      | inl before ↦ absurd (omega (arith, is.behind j before, at_j))
      | inr from ↦ elim (cases_eq j next) [
        | inl same ↦ subst (λ k. slice_get ds k ≡ Some d) same (slice_get-get_or ds j d lt ∙ ap (λ v. Some v) e)
        | inr other ↦ absurd (omega (arith, falls ds falling next j (omega (arith, from, other)) lt, is.ahead next (omega arith) (omega (arith, from, lt)), at_j))
      ]
    ]
  where
    read : (ds : List ℕ) (j d : ℕ) → j < length ds → get_or ds j d ≡ d → slice_index ds j ≡ d
    read [] j d lt e = absurd (omega (arith, lt))
    read (x ∷ ds) zero d lt e = e
    read (x ∷ ds) (suc j) d lt e = read ds j d (omega (arith, lt)) e

pub next_done : (ds : List ℕ) (d next now : ℕ) → Falling ds → IsNext ds (d + 1) next → HasDone ds next d now → IsNext ds d now
next_done ds d next now falling is (HasDone.one at now_is) =
    subst (λ n. IsNext ds d n) (sym now_is) (record {
      some = omega arith;
      few = omega (arith, slice_get_within ds next d at);
      behind = λ j lt. elim (cases_lt j next) [
        | inl before ↦ omega (arith, is.behind j before)
        | inr from ↦
            let e : next ≡ j = omega (arith, from, lt) in
            let here : d ≤ slice_index ds next = omega (arith, index_at ds next d at) in
            subst (λ k. d ≤ slice_index ds k) e here
      ];
      ahead = λ j le within. omega (arith, falls ds falling next j (omega (arith, le)) within, index_at ds next d at);
    })
next_done ds d next now falling is (HasDone.none other now_is) =
    subst (λ n. IsNext ds d n) (sym now_is) (record {
      some = is.some;
      few = is.few;
      behind = λ j lt. omega (arith, is.behind j lt);
      ahead = λ j le within. elim (cases_eq (slice_index ds j) d) [
        | inr less ↦ omega (arith, is.ahead j le within, less)
        | inl e ↦ elim (cases_eq j next) [
          | inl same ↦ absurd (other (subst (λ k. slice_get ds k ≡ Some d) same (slice_get-get_or ds j 0 within ∙ ap (λ v. Some v) e)))
          | inr later ↦ absurd (omega (arith, falls ds falling next j (omega (arith, le, later)) within, is.ahead next (omega arith) (omega (arith, le, within)), e))
        ]
      ];
    })

pub lent_low : (table : Table) (lent : LentRows) → IsLentBy table lent → lent_count lent ≤ length table.routes
lent_low table lent is = omega (arith, count_by-le-length (λ mark. mark) lent.marks, is.marks)

one_more : (a b : ℕ) → a * (b + 1) ≡ a * b + a
one_more a b = mul-add a b 1 ∙ ap (λ v. a * b + v) (times_one a)
  where
    times_one : (a : ℕ) → a * 1 ≡ a
    times_one a = omega arith

-- what a second opens stays within the bound
pub opened_more : (routes next now lent lent' start opens opens' : ℕ) → 1 ≤ next → lent ≤ routes → HasOpened next now lent lent' opens opens'
    → opens ≤ start + routes * ((next - 1) / 8) + lent → opens' ≤ start + routes * ((now - 1) / 8) + lent'
opened_more routes next now lent lent' start opens opens' some low (HasOpened.group whole now_is opened) was =
    let e : (now - 1) / 8 ≡ (next - 1) / 8 + 1 = omega (arith, whole, now_is, some) in
    subst (λ g. opens' ≤ start + routes * g + lent') (sym e) (omega (arith, one_more routes ((next - 1) / 8), was, low, opened))
opened_more routes next now lent lent' start opens opens' some low (HasOpened.goes_on part now_is opened) was =
    let e : (now - 1) / 8 ≡ (next - 1) / 8 = omega (arith, part, now_is, some) in
    subst (λ g. opens' ≤ start + routes * g + lent') (sym e) (omega (arith, was, opened))
opened_more routes next now lent lent' start opens opens' some low (HasOpened.none now_is opened lent_is) was =
    let e : (now - 1) / 8 ≡ (next - 1) / 8 = ap (λ n. (n - 1) / 8) now_is in
    subst (λ g. opens' ≤ start + routes * g + lent') (sym e) (omega (arith, was, opened, lent_is))

pub opened_all : (routes next many lent start opens : ℕ) → 1 ≤ next → next ≤ many → lent ≤ routes → opens ≤ start + routes * ((next - 1) / 8) + lent
    → opens ≤ start + routes * ((many + 7) / 8)
opened_all routes next many lent start opens some few low was =
    let le : (next - 1) / 8 + 1 ≤ (many + 7) / 8 = omega (arith, some, few) in
    omega (arith, was, low, one_more routes ((next - 1) / 8), mul-le-mul_left routes le)

-- each stop where a row is just caught is among the stops of its second
pub window_listed : (table : Table) (first_row : List (Option ℕ)) (first last d k next : ℕ) (seeds : List (Vec StopNo Global)) (ds : List ℕ) (stops : Vec StopNo Global)
    → SeedsWindow table first_row first last seeds ds → Falling ds → IsNext ds (d + 1) next → d ≡ first + k → d < last → slice_get seeds k ≡ Some stops
    → CatchesListed table first_row d stops.items ds next
window_listed table first_row first last d k next seeds ds stops window falling is d_is before at = record {
  each = λ stop caught.
      let w : HasSeed seeds k stop × Contains ds (first + k) = window.each k stop (omega (arith, d_is, before)) (subst (λ v. IsRowCaught table first_row v stop) d_is caught) in (
        subst (λ (v : Vec StopNo Global). Contains v.items stop) (same_Some w.0.list stops (sym w.0.is_list ∙ at)) w.0.has,
        next_listed ds d next falling is (subst (λ v. Contains ds v) (sym d_is) w.1),
      );
}

-- no span is open or closed yet
pub none_stands : (q : RangeQuery) (last : ℕ) (pending : List (Option OpenSpan)) → All (λ span. span ≡ None) pending → Stands q (last + 1) last pending []
none_stands q last pending none = record {
  cover = λ d pair from before. absurd (omega (arith, from, before));
  within = λ s has. absurd (omega (arith, has.1));
  open_within = λ k s at. absurd (no k s at);
  ended = λ s d has from before best. omega (arith, has.1);
  one_each = λ i j d lt within. absurd (omega (arith, within));
  in_order = λ k d lt. absurd (omega (arith, lt));
  rides = λ s has. absurd (omega (arith, has.1));
  open_rides = λ k s at. absurd (no k s at);
}
  where
    no : (k : ℕ) (s : OpenSpan) → slice_get pending k ≡ Some (Some s) → ⊥
    no k s at =
        let e : get_or pending k (Some s) ≡ Some s = get_or_from_slice_get pending k (Some s) (Some s) at in
        let f : get_or pending k (Some s) ≡ None = none k (Some s) (slice_get_within pending k (Some s) at) in
        differ (sym f ∙ e)
      where
        differ : None ≡ Some s → ⊥
        differ e = cc

pub none_later : (first : ℕ) (spans : List Span) → spans ≡ [] → BeginLater first spans
none_later first spans empty s has =
    let none : Contains [] s = subst (λ v. Contains v s) empty has in
    absurd (omega (arith, none.1))

-- at the second before, the levels are right too
module _ (n : Network) (table : Table) (first_row last_row : List (Option ℕ)) (list : List Shortcut) (foot : Option ℕ) (limit : ℕ) (d : ℕ) (levels levels' : List Level)
    (fits : All (Fits (length last_row)) levels') (many : length levels' ≡ length levels) where
  pub right_earlier : Right (asked n first_row last_row list foot limit) table (d + 1) levels
      → (IsClosed table first_row last_row list (d + 1) levels → IsClosed table first_row last_row list d levels')
      → (AreSound (query_at (asked n first_row last_row list foot limit) d) levels → AreSound (query_at (asked n first_row last_row list foot limit) d) levels')
      → Right (asked n first_row last_row list foot limit) table d levels'
  right_earlier was closed sound = record {
    is_table = was.is_table;
    whole = was.whole;
    stops_are = was.stops_are;
    entries = was.entries;
    last_seconds = was.last_seconds;
    foot_seconds = was.foot_seconds;
    many = many ∙ was.many;
    fits = fits;
    closed = closed was.closed;
    sound = sound (sound_earlier n first_row last_row list (d + 1) d (omega arith) levels was.sound);
  }
