-- What the parts that were read make up.
--     parts_of arcs              the hierarchy of the ranks and arcs
--     value_of sections          a value with the parts
use Rattle.walk_hierarchy.specs.Hierarchy.{Parts}
use Rattle.network_file.specs.declared.compiled.Compiled.{Compiled}
use Rattle.network_decode.specs.declared.sections.Arcs.{Arcs}
use Rattle.network_decode.specs.declared.sections.Sections.{Sections}
use Rattle.network_decode.specs.Value.{parts}

abbrev pub parts_of : Arcs → Parts
parts_of arcs = record { ranks = arcs.ranks; up = arcs.up; down = arcs.down }

abbrev pub value_of : Sections → Compiled
value_of sections = parts sections.network (parts_of sections.arcs) sections.to sections.from sections.shortcuts
