-- Marks, numbers and places, one after another.
use Rattle.std.proofs.Common.{◌≡◌, ℕ, zero, suc, ◌+◌, ◌<◌, ◌≤◌, Bool, true, false, List, [], ◌∷◌, ◌++◌, Option, Some, length, slice_index, slice_index_or, slice_get, slice_set, refl, sym, ap, ◌∙◌, subst, inl, inr, arith}
use Rattle.std.specs.Prelude.{Contains, All}
use Rattle.std.specs.List.{AllAdjacentBelow}
use Rattle.std.proofs.lemmas.Bool.{cases_eq, cases_lt}
use Rattle.std.proofs.lemmas.Option.{slice_get_within, slice_get-get_or, get_or_from_slice_get}
use Rattle.std.proofs.lemmas.List.{get_or_past, get_or-set_same, get_or-set_other, get_or_append_left, get_or_push, length_push}
use Rattle.std.proofs.lemmas.List.Elements.{Contains-push, Contains-append_left, Contains-push_cases}
use Rattle.move_model.specs.declared.network.NodeNo.{NodeNo}
use Rattle.move_model.specs.declared.network.Stop.{Stop}
use Rattle.move_model.specs.declared.network.StopNo.{StopNo}
use Rattle.std.proofs.lemmas.Grind.{get_or_default_zero}
use Rattle.move_model.specs.declared.network.Network.{Network}
use Rattle.move_model.specs.Network.{node_of_stop}
use Rattle.walk_core.specs.Core.{Contraction, Holds}
use Rattle.stop_rows.specs.Rows.{ArePlaces}
use Rattle.stop_rows.specs.Stored.{rows_of}
use Rattle.stop_rows.specs.Places.{StandsAt, AreMarks, AreNumbers, AreAt, AreStopsAt}
use Rattle.stop_rows.proofs.ListLemmas.{get_append, get_push, get_push_cases, rising_push}

-- marks of the first stops
pub record IsMarking (stops : List Stop) (i : ℕ) (marks : List Bool) : Type 0 where
  pub only : (v : ℕ) → slice_index_or marks v false ≡ true → StandsAt stops v
  pub all : (x : ℕ) (stop : Stop) → x < i → slice_get stops x ≡ Some stop → slice_index_or marks stop.node.0 false ≡ true

pub marking_first : (stops : List Stop) (n : ℕ) (marks : List Bool) → ((v : ℕ) → slice_index_or marks v false ≡ false) → IsMarking stops 0 marks
marking_first stops n marks none = record {
  only = λ v is. let e : false ≡ true = sym (none v) ∙ is in absurd (cc);
  all = λ x stop lt is. absurd (omega arith);
}

pub marking_more : (stops : List Stop) (i : ℕ) (marks : List Bool) (stop : Stop) → slice_get stops i ≡ Some stop → stop.node.0 < length marks
    → IsMarking stops i marks → IsMarking stops (i + 1) (slice_set marks stop.node.0 true)
marking_more stops i marks stop is low m = record {
  only = λ v set. elim (cases_eq v stop.node.0) [
    | inl e ↦ record { place = i; stop = stop; is = is; stands = sym e }
    | inr ne ↦ m.only v (sym (get_or-set_other marks stop.node.0 v true false ne) ∙ set)
  ];
  all = λ x other lt there. elim (cases_eq other.node.0 stop.node.0) [
    | inl e ↦ ap (λ (n : ℕ). slice_index_or (slice_set marks stop.node.0 true) n false) e ∙ get_or-set_same marks stop.node.0 true false low
    | inr ne ↦
        get_or-set_other marks stop.node.0 other.node.0 true false ne
        ∙ m.all x other (elim (cases_lt x i) [
          | inl before ↦ before
          | inr at ↦
              let here : x ≡ i = omega (arith, lt, at) in
              let same : Some other ≡ Some stop = sym there ∙ ap (slice_get stops) here ∙ is in
              let e : other ≡ stop = cc in
              absurd (ne (ap (λ (s : Stop). s.node.0) e))
        ]) there
  ];
}

pub marking_done : (stops : List Stop) (i : ℕ) (marks : List Bool) → length stops ≤ i → IsMarking stops i marks → AreMarks stops marks
marking_done stops i marks all m = record {
  only = m.only;
  all = λ x stop is. m.all x stop (omega (arith, slice_get_within stops x stop is, all)) is;
}

-- numbers of the first vertices
pub record IsNumbering (marks : List Bool) (v : ℕ) (nodes : List NodeNo) (at : List ℕ) : Type 0 where
  pub rising : AllAdjacentBelow (λ a b. a.0 < b.0) nodes (length nodes)
  pub low : (k : ℕ) (d : NodeNo) → k < length nodes → (slice_index_or nodes k d).0 < v
  pub marked : (p : ℕ) (w : NodeNo) → slice_get nodes p ≡ Some w → slice_index_or marks w.0 false ≡ true
  pub numbered : (w : ℕ) → w < v → slice_index_or marks w false ≡ true → slice_get nodes (slice_index at w) ≡ Some (record { 0 = w })
  pub few : length nodes ≤ v

pub numbering_first : (marks : List Bool) (at : List ℕ) → IsNumbering marks 0 [] at
numbering_first marks at = record {
  rising = λ k d lt. absurd (omega arith);
  low = λ k d lt. absurd (omega arith);
  marked = λ p w is. absurd (cc);
  numbered = λ w lt is. absurd (omega arith);
  few = omega arith;
}

pub numbering_yes : (marks : List Bool) (v : ℕ) (nodes : List NodeNo) (at : List ℕ) (it : NodeNo) → it.0 ≡ v → v < length at → slice_index_or marks v false ≡ true
    → IsNumbering marks v nodes at → IsNumbering marks (v + 1) (nodes ++ it ∷ []) (slice_set at v (length nodes))
numbering_yes marks v nodes at it is low here m =
    let long : length (nodes ++ it ∷ []) ≡ length nodes + 1 = length_push nodes it in
    record {
      rising = rising_push (λ (a : NodeNo). a.0) nodes it m.rising (λ k d lt. omega (arith, m.low k d lt, is));
      low = λ k d lt. elim (cases_lt k (length nodes)) [
        | inl inside ↦ rw (get_or_append_left nodes (it ∷ []) d k inside) (omega (arith, m.low k d inside))
        | inr last ↦
            let at_end : slice_index_or (nodes ++ it ∷ []) k d ≡ it = get_or_push nodes it d k (omega (arith, lt, long, last)) in
            rw at_end (omega (arith, is))
      ];
      marked = λ p w there. elim (get_push_cases nodes it p w there) [
        | inl before ↦ m.marked p w before
        | inr e ↦ ap (λ (n : NodeNo). slice_index_or marks n.0 false) e ∙ ap (λ (n : ℕ). slice_index_or marks n false) is ∙ here
      ];
      numbered = λ w lt there. elim (cases_eq w v) [
        | inl e ↦
            ap (slice_get (nodes ++ it ∷ [])) (ap (slice_index (slice_set at v (length nodes))) e ∙ get_or-set_same at v (length nodes) 0 low) ∙ get_push nodes it
            ∙ ap (λ (n : ℕ). let x : NodeNo = record { 0 = n } in Some x) (is ∙ sym e)
        | inr ne ↦
            ap (slice_get (nodes ++ it ∷ [])) (get_or-set_other at v w (length nodes) 0 ne)
            ∙ get_append nodes (it ∷ []) (slice_index at w) (record { 0 = w }) (m.numbered w (omega (arith, lt, ne)) there)
      ];
      few = omega (arith, long, m.few);
    }

pub numbering_no : (marks : List Bool) (v : ℕ) (nodes : List NodeNo) (at : List ℕ) → slice_index_or marks v false ≡ false
    → IsNumbering marks v nodes at → IsNumbering marks (v + 1) nodes at
numbering_no marks v nodes at not_here m = record {
  rising = m.rising;
  low = λ k d lt. omega (arith, m.low k d lt);
  marked = m.marked;
  numbered = λ w lt there. elim (cases_eq w v) [
    | inl e ↦ let no : false ≡ true = sym not_here ∙ ap (λ (n : ℕ). slice_index_or marks n false) (sym e) ∙ there in absurd (cc)
    | inr ne ↦ m.numbered w (omega (arith, lt, ne)) there
  ];
  few = omega (arith, m.few);
}

pub numbering_done : (marks : List Bool) (v : ℕ) (nodes : List NodeNo) (at : List ℕ) → length marks ≤ v → IsNumbering marks v nodes at → AreNumbers marks nodes at
numbering_done marks v nodes at all m = record {
  rising = m.rising;
  marked = m.marked;
  numbered = λ w there. elim (cases_lt w v) [
    | inl lt ↦ m.numbered w lt there
    | inr past ↦ let no : false ≡ true = sym (get_or_past marks w false (omega (arith, all, past))) ∙ there in absurd (cc)
  ];
}

-- the stops of a place among the first
pub record IsStopsUpto (places : List ℕ) (p i : ℕ) (row : List StopNo) : Type 0 where
  pub only : (x : StopNo) → Contains row x → (x.0 < i) × (slice_index places x.0 ≡ p)
  pub all : (x : StopNo) → x.0 < i → slice_index places x.0 ≡ p → Contains row x
  pub low : (k : ℕ) (d : StopNo) → k < length row → (slice_index_or row k d).0 < i
  pub rising : AllAdjacentBelow (λ a b. a.0 < b.0) row (length row)

stop_eq : (a b : StopNo) → a.0 ≡ b.0 → a ≡ b
stop_eq a b e = ap (λ (k : ℕ). let x : StopNo = record { 0 = k } in x) e

pub stops_first : (places : List ℕ) (p : ℕ) → IsStopsUpto places p 0 []
stops_first places p = record {
  only = λ x has. absurd (omega (arith, has.1));
  all = λ x lt is. absurd (omega arith);
  low = λ k d lt. absurd (omega arith);
  rising = λ k d lt. absurd (omega arith);
}

pub stops_yes : (places : List ℕ) (p i : ℕ) (row : List StopNo) (it : StopNo) → it.0 ≡ i → slice_index places i ≡ p → IsStopsUpto places p i row → IsStopsUpto places p (i + 1) (row ++ it ∷ [])
stops_yes places p i row it is here m =
    let long : length (row ++ it ∷ []) ≡ length row + 1 = length_push row it in
    record {
      only = λ x has. elim (Contains-push_cases row it x has) [
        | inl before ↦ let old = m.only x before in (omega (arith, old.0), old.1)
        | inr e ↦
            let at : x.0 ≡ i = ap (λ (s : StopNo). s.0) (sym e) ∙ is in
            (omega (arith, at), ap (slice_index places) at ∙ here)
      ];
      all = λ x lt there. elim (cases_eq x.0 i) [
        | inl e ↦ subst (λ (s : StopNo). Contains (row ++ it ∷ []) s) (stop_eq it x (is ∙ sym e)) (Contains-push row it)
        | inr ne ↦ Contains-append_left row (it ∷ []) x (m.all x (omega (arith, lt, ne)) there)
      ];
      low = λ k d lt. elim (cases_lt k (length row)) [
        | inl inside ↦ rw (get_or_append_left row (it ∷ []) d k inside) (omega (arith, m.low k d inside))
        | inr last ↦
            let at_end : slice_index_or (row ++ it ∷ []) k d ≡ it = get_or_push row it d k (omega (arith, lt, long, last)) in
            rw at_end (omega (arith, is))
      ];
      rising = rising_push (λ (a : StopNo). a.0) row it m.rising (λ k d lt. omega (arith, m.low k d lt, is));
    }

pub stops_no : (places : List ℕ) (p i : ℕ) (row : List StopNo) → (slice_index places i ≡ p → ⊥) → IsStopsUpto places p i row → IsStopsUpto places p (i + 1) row
stops_no places p i row not_here m = record {
  only = λ x has. let old = m.only x has in (omega (arith, old.0), old.1);
  all = λ x lt there. elim (cases_eq x.0 i) [
    | inl e ↦ absurd (not_here (ap (slice_index places) (sym e) ∙ there))
    | inr ne ↦ m.all x (omega (arith, lt, ne)) there
  ];
  low = λ k d lt. omega (arith, m.low k d lt);
  rising = m.rising;
}

pub stops_done : (places : List ℕ) (p i : ℕ) (row : List StopNo) → i ≡ length places → IsStopsUpto places p i row → AreStopsAt places p row
stops_done places p i row all m = record {
  exact = λ x. (λ has. let old = m.only x has in (omega (arith, old.0, all), old.1), λ is. m.all x (omega (arith, is.0, all)) is.1);
  rising = m.rising;
}

-- what the three lists say together

pub nodes_hold : (core : Contraction) (stops : List Stop) (marks : List Bool) (nodes : List NodeNo) (at : List ℕ) → AreMarks stops marks → AreNumbers marks nodes at
    → All (λ stop. Holds core stop.node) stops → All (Holds core) nodes
nodes_hold core stops marks nodes at are numbers held k d low =
    let v = slice_index_or nodes k d in
    let stands = are.only v.0 (numbers.marked k v (slice_get-get_or nodes k d low)) in
    let here = get_or_from_slice_get stops stands.place stands.stop stands.stop stands.is in
    let holds : Holds core stands.stop.node =
    subst (λ (s : Stop). Holds core s.node) here (held stands.place stands.stop (slice_get_within stops stands.place stands.stop stands.is)) in
    subst (λ (n : ℕ). Holds core (record { 0 = n })) stands.stands holds

stop_there : (stops : List Stop) (x : ℕ) → x < length stops → (stop : Stop) × (slice_get stops x ≡ Some stop)
stop_there [] x low = absurd (omega arith)
stop_there (s ∷ stops) zero low = (s, refl)
stop_there (s ∷ stops) (suc x) low = stop_there stops x (omega arith)

module _ (stops : List Stop) (marks : List Bool) (nodes : List NodeNo) (at places : List ℕ) (are : AreMarks stops marks) (numbers : AreNumbers marks nodes at) (placed : AreAt stops at places) where
  -- the place of a stop has its vertex
  placed_at : (x : ℕ) (stop : Stop) → slice_get stops x ≡ Some stop → slice_get nodes (slice_index places x) ≡ Some stop.node
  placed_at x stop is = ap (slice_get nodes) (placed.each x stop is) ∙ numbers.numbered stop.node.0 (are.all x stop is)

  pub places_within : All (λ p. p < length nodes) places
  places_within k d low =
      let there = stop_there stops k (omega (arith, low, placed.one_each)) in
      let inside = slice_get_within nodes (slice_index places k) there.0.node (placed_at k there.0 there.1) in
      rw get_or_default_zero inside

  pub places_are : (n : Network) (rows : List (List ℕ)) → stops ≡ n.stops → ArePlaces n (rows_of nodes places rows)
  places_are n rows same = record {
    rising = numbers.rising;
    has_stop = λ p v is.
        let stands = are.only v.0 (numbers.marked p v is) in
        let there : slice_get n.stops stands.place ≡ Some stands.stop = ap (λ (ss : List Stop). slice_get ss stands.place) (sym same) ∙ stands.is in
        record {
          stop = record { 0 = stands.place };
          exists = slice_get_within n.stops stands.place stands.stop there;
          stands = ap node_of_stop there ∙ ap (λ (k : ℕ). let w : NodeNo = record { 0 = k } in w) stands.stands;
        };
    one_each = placed.one_each ∙ ap length same;
    stands = λ x low.
        let there = stop_there stops x.0 (omega (arith, low, ap length same)) in
        placed_at x.0 there.0 there.1
        ∙ sym (ap (λ (o : Option Stop). Some (node_of_stop o)) (ap (λ (ss : List Stop). slice_get ss x.0) (sym same) ∙ there.1));
  }
