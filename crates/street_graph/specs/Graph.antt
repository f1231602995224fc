-- Street graphs within the limits of this program.
--     IsWithinLimits g                   g has 1 to 2,000,000 vertices and at most 8,000,000 arcs, each between two of
--                                        its vertices and of at most 1,000,000 seconds
--     IsIndexed nodes arcs out into      these are the rows of such a graph
use Rattle.std.specs.Prelude.{ℕ, List, ◌≤◌, All, length}
use Rattle.move_model.specs.declared.network.Arc.{Arc}
use Rattle.move_model.specs.Streets.{Streets, IsStreets}
use Rattle.street_graph.specs.declared.rows.Rows.{Rows}
use Rattle.street_graph.specs.declared.rows.Side.TheVariants.{Out, Into}
use Rattle.street_graph.specs.Rows.{IsRows}

pub record IsWithinLimits (g : Streets) : Type 0 where
  pub streets : IsStreets g
  pub nodes : g.nodes ≤ 2000000
  pub arcs : length g.arcs ≤ 8000000
  pub seconds : All (λ arc. arc.seconds ≤ 1000000) g.arcs

pub record IsIndexed (nodes : ℕ) (arcs : List Arc) (out into : Rows) : Type 0 where
  pub within : IsWithinLimits (record { nodes = nodes; arcs = arcs })
  pub leaving : IsRows out Out nodes arcs
  pub ending : IsRows into Into nodes arcs
