-- Where a search up and a search down meet.
--     IsArcBack arcs p q l       one of the arcs leads from q to p in l seconds
--     IsBetween one two a b s    arcs of one kind from a, and arcs of another kind from b, meet at a vertex with s seconds together
--     HasBest one two a b up down r    r is where they meet with the fewest seconds, or None
--     bound_of best              the seconds that a better meeting has to be below
--     IsBoth .. best ..          what holds between two steps of two searches that look for a better meeting than the best
--     IsBetter others v s best r   r is the best, or v where its label of s seconds and another one have fewer seconds together
use Rattle.std.specs.Prelude.{◌≡◌, ℕ, ◌+◌, ◌≤◌, ◌⊎◌, List, Option, Some, None}
use Rattle.walk_laws.specs.Sums.{IsSum, IsLeast}
use Rattle.walk_hierarchy.specs.declared.arcs.UpDown.{UpDown}
use Rattle.walk_hierarchy.specs.declared.rows.Rows.{Rows}
use Rattle.walk_hierarchy.specs.declared.meeting.Meeting.{Meeting}
use Rattle.walk_hierarchy.specs.declared.labels.Label.{Label}
use Rattle.walk_hierarchy.specs.Hierarchy.{HasArc}
use Rattle.walk_hierarchy.specs.Labels.{HasLabel, HasWithin, Meets}
use Rattle.walk_hierarchy.specs.Search.{HasHalf, Waits, IsSearch}

abbrev pub IsArcBack : List UpDown → ℕ → ℕ → ℕ → Type 0
IsArcBack arcs p q l = HasArc arcs q p l

pub record IsBetween (one two : ℕ → ℕ → ℕ → Type 0) (a b seconds : ℕ) : Type 0 where
  pub top : ℕ
  pub l : ℕ
  pub k : ℕ
  pub there : IsSum one a top l
  pub back : IsSum two b top k
  pub total : l + k ≡ seconds

pub record IsBest (one two : ℕ → ℕ → ℕ → Type 0) (a b : ℕ) (up down : List (Option Label)) (m : Meeting) : Type 0 where
  pub meets : Meets up down m.node.0 m.seconds
  pub least : IsLeast (IsBetween one two a b) m.seconds

abbrev pub HasBest : (ℕ → ℕ → ℕ → Type 0) → (ℕ → ℕ → ℕ → Type 0) → ℕ → ℕ → List (Option Label) → List (Option Label) → Option Meeting → Type 0
HasBest one two a b up down (Some m) = IsBest one two a b up down m
HasBest one two a b up down None = (s : ℕ) → IsBetween one two a b s → ⊥

abbrev pub bound_of : Option Meeting → ℕ
bound_of None = 18446744073709551615
bound_of (Some m) = m.seconds

-- sums from both sides, and labels that are no greater
pub record IsMeeting (one two : ℕ → ℕ → ℕ → Type 0) (a b : ℕ) (labels others : List (Option Label)) (m : Meeting) : Type 0 where
  pub l : ℕ
  pub k : ℕ
  pub there : IsSum one a m.node.0 l
  pub back : IsSum two b m.node.0 k
  pub total : l + k ≡ m.seconds
  pub within : HasWithin labels m.node.0 l
  pub within_back : HasWithin others m.node.0 k

abbrev pub IsHeld : (ℕ → ℕ → ℕ → Type 0) → (ℕ → ℕ → ℕ → Type 0) → ℕ → ℕ → List (Option Label) → List (Option Label) → Option Meeting → Type 0
IsHeld one two a b labels others (Some m) = IsMeeting one two a b labels others m
IsHeld one two a b labels others None = Unit {0}

-- where two labels meet in fewer seconds than the best, one of them waits
pub record IsBoth (rows other : Rows) (from to : ℕ) (best : Option Meeting) (labels : List (Option Label)) (queue : List (Option ℕ))
    (others : List (Option Label)) (waiting : List (Option ℕ)) : Type 0 where
  pub here : IsSearch rows from (bound_of best) labels queue
  pub there : IsSearch other to (bound_of best) others waiting
  pub met : (v : ℕ) (x y : Label) → HasLabel labels v x → HasLabel others v y
      → Waits queue v x.seconds ⊎ (Waits waiting v y.seconds ⊎ (bound_of best ≤ x.seconds + y.seconds))
  pub held : IsHeld (HasHalf rows) (HasHalf other) from to labels others best

-- whether or not two labels meet at v
pub record IsBetter (others : List (Option Label)) (v s : ℕ) (best result : Option Meeting) : Type 0 where
  pub lower : bound_of result ≤ bound_of best
  pub here : (y : Label) → HasLabel others v y → bound_of result ≤ s + y.seconds
  pub is : (result ≡ best) ⊎ ((y : Label) × (HasLabel others v y × (result ≡ Some (record { seconds = s + y.seconds; node = record { 0 = v } }))))
