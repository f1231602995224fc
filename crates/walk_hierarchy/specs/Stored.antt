-- How a hierarchy is stored.
--     IsStored h ascents descents names    the ascents are the rows of the arcs up and the descents those of the arcs down, by
--                                          the places of their ends, and the names are the vertices by place
use Rattle.std.specs.Prelude.{ℕ, List, length}
use Rattle.walk_hierarchy.specs.declared.rows.Rows.{Rows}
use Rattle.walk_hierarchy.specs.declared.rows.Side.TheVariants.{Out, Into}
use Rattle.walk_hierarchy.specs.Rows.{IsRows}
use Rattle.walk_hierarchy.specs.Hierarchy.{Parts, IsHierarchy}
use Rattle.walk_hierarchy.specs.Places.{placed, AreNames}

abbrev pub AreAscents : Parts → Rows → Type 0
AreAscents h rows = IsRows rows Out (length h.ranks) (placed h.ranks h.up)

abbrev pub AreDescents : Parts → Rows → Type 0
AreDescents h rows = IsRows rows Into (length h.ranks) (placed h.ranks h.down)

pub record IsStored (h : Parts) (ascents descents : Rows) (names : List ℕ) : Type 0 where
  pub rules : IsHierarchy h
  pub leaving : AreAscents h ascents
  pub ending : AreDescents h descents
  pub named : AreNames h.ranks names
