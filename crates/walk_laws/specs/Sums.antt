-- Lists of arcs, and what a contraction keeps.
--     IsSum arc a b m            some list of arcs leads from a to b, with m seconds in all
--     IsStreet graph p q l       the graph has this arc
--     HasArc rows p q l          the row of p has an arc with the other end q
--     IsLeft w v                 v is not contracted
--     IsUp, IsRest, IsDown       an arc to where was contracted later; between vertices that are left; from where was contracted later
--     Leads w a b m              arcs up, arcs over what is left and arcs down lead from a to b in at most m seconds
--     Keeps graph w              each arc stands for a list of streets, and for each list of streets there is one of arcs that is no longer
--     IsContracted graph old new m      m is contracted in the right way
use Rattle.std.specs.Prelude.{◌≡◌, ◌≢◌, ℕ, ◌+◌, ◌<◌, ◌≤◌, List, [], Contains, slice_index_or, Option, Some, None}
use Rattle.move_model.specs.declared.network.Arc.{Arc}
use Rattle.move_model.specs.declared.network.NodeNo.{NodeNo}
use Rattle.move_model.specs.Streets.{Streets, IsDistance}
use Rattle.walk_laws.specs.declared.CoreArc.{CoreArc}

-- a list of arcs, none or one and then more
pub data IsSum (arc : ℕ → ℕ → ℕ → Type 0) : ℕ → ℕ → ℕ → Type 0 where
  none : {v : ℕ} → IsSum arc v v 0
  more : {a v b l m : ℕ} → arc a v l → IsSum arc v b m → IsSum arc a b (l + m)

abbrev pub IsStreet : Streets → ℕ → ℕ → ℕ → Type 0
IsStreet graph p q l = Contains graph.arcs (record { from = record { 0 = p }; to = record { 0 = q }; seconds = l })

-- the arcs out of each vertex and into it, and when it was contracted
pub record View : Type 0 where
  pub out : List (List CoreArc)
  pub into : List (List CoreArc)
  pub rank : List ℕ

abbrev pub HasArc : List (List CoreArc) → ℕ → ℕ → ℕ → Type 0
HasArc rows p q l =
    (middle : ℕ) × Contains (slice_index_or rows p []) (record { to = record { 0 = q }; seconds = l; middle = record { 0 = middle } })

-- the rank of a vertex that is left
abbrev pub last_rank : ℕ
last_rank = 4294967295

-- no arc is longer, and no least walk
abbrev pub longest : ℕ
longest = 2000000000000

abbrev pub rank_of : View → ℕ → ℕ
rank_of w v = slice_index_or w.rank v last_rank

pub record IsLeft (w : View) (v : ℕ) : Type 0 where
  pub is_left : rank_of w v ≡ last_rank

pub record IsUp (w : View) (p q l : ℕ) : Type 0 where
  pub rises : rank_of w p < rank_of w q
  pub stands : HasArc w.out p q l

pub record IsDown (w : View) (p q l : ℕ) : Type 0 where
  pub falls : rank_of w q < rank_of w p
  pub stands : HasArc w.into q p l

pub record IsRest (w : View) (p q l : ℕ) : Type 0 where
  pub from_left : IsLeft w p
  pub to_left : IsLeft w q
  pub stands : HasArc w.out p q l

-- arcs up, arcs over what is left, and arcs down
pub record Leads (w : View) (a b seconds : ℕ) : Type 0 where
  pub top : ℕ
  pub bend : ℕ
  pub l : ℕ
  pub k : ℕ
  pub n : ℕ
  pub up : IsSum (IsUp w) a top l
  pub over : IsSum (IsRest w) top bend k
  pub down : IsSum (IsDown w) bend b n
  pub within : l + k + n ≤ seconds

-- arcs up, over what is left and down, of exactly these seconds
pub record Mixed (w : View) (a b seconds : ℕ) : Type 0 where
  pub top : ℕ
  pub bend : ℕ
  pub l : ℕ
  pub k : ℕ
  pub n : ℕ
  pub up : IsSum (IsUp w) a top l
  pub over : IsSum (IsRest w) top bend k
  pub down : IsSum (IsDown w) bend b n
  pub all : l + k + n ≡ seconds

-- arcs up and arcs down, of exactly these seconds
pub record UpDown (w : View) (a b seconds : ℕ) : Type 0 where
  pub top : ℕ
  pub l : ℕ
  pub n : ℕ
  pub up : IsSum (IsUp w) a top l
  pub down : IsSum (IsDown w) top b n
  pub all : l + n ≡ seconds

-- the least number that is one of these
pub record IsLeast (P : ℕ → Type 0) (m : ℕ) : Type 0 where
  pub attained : P m
  pub least : (n : ℕ) → P n → m ≤ n

-- the least, or None where there is none
abbrev pub HasLeast : (ℕ → Type 0) → Option ℕ → Type 0
HasLeast P (Some m) = IsLeast P m
HasLeast P None = (m : ℕ) → P m → ⊥

-- an arc of at most these seconds
pub record HasWithin (rows : List (List CoreArc)) (p q seconds : ℕ) : Type 0 where
  pub l : ℕ
  pub stands : HasArc rows p q l
  pub within : l ≤ seconds

pub record Keeps (graph : Streets) (w : View) : Type 0 where
  pub ranks : (v : ℕ) → rank_of w v ≤ last_rank
  pub real_out : (p q l : ℕ) → HasArc w.out p q l → IsSum (IsStreet graph) p q l
  pub real_into : (p q l : ℕ) → HasArc w.into q p l → IsSum (IsStreet graph) p q l
  pub mirrored : (p q l : ℕ) → IsRest w p q l → HasWithin w.into q p l
  pub whole : (a b m : ℕ) → m ≤ longest → IsSum (IsStreet graph) a b m → Leads w a b m

-- a list of arcs over what is left, of at most these seconds
pub record Bridges (w : View) (p q seconds : ℕ) : Type 0 where
  pub l : ℕ
  pub over : IsSum (IsRest w) p q l
  pub within : l ≤ seconds

-- The vertex gets the greatest rank so far. Arcs that count stay, or become shorter, each arc stands for a list of
-- streets, and each pair of arcs into the vertex and out of it is bridged.
pub record IsContracted (graph : Streets) (old new : View) (m : ℕ) : Type 0 where
  pub left : IsLeft old m
  pub others : (v : ℕ) → v ≢ m → rank_of new v ≡ rank_of old v
  pub gone : rank_of new m < last_rank
  pub above : (v : ℕ) → rank_of old v < last_rank → rank_of old v < rank_of new m
  pub real_out : (p q l : ℕ) → HasArc new.out p q l → IsSum (IsStreet graph) p q l
  pub real_into : (p q l : ℕ) → HasArc new.into q p l → IsSum (IsStreet graph) p q l
  pub mirrored : (p q l : ℕ) → IsRest new p q l → HasWithin new.into q p l
  pub out_stays : (p q l : ℕ) → rank_of new p ≤ rank_of new q → HasArc old.out p q l → HasWithin new.out p q l
  pub into_stays : (p q l : ℕ) → rank_of new q ≤ rank_of new p → HasArc old.into q p l → HasWithin new.into q p l
  pub bridged : (p q l k : ℕ) → IsLeft new p → IsLeft new q → p ≢ q → l + k ≤ longest
      → HasArc old.into m p l → HasArc old.out m q k → Bridges new p q (l + k)

-- each distance is at most the longest
pub record IsShort (graph : Streets) : Type 0 where
  pub distances : (a b : NodeNo) (m : ℕ) → IsDistance graph a b m → m ≤ longest

-- no vertex with an arc is left
pub record IsComplete (w : View) : Type 0 where
  pub no_rest : (p q l : ℕ) → IsRest w p q l → ⊥
