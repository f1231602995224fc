use Rattle.walk_hierarchy.specs.Places.{by_vertex}
use Rattle.walk_hierarchy.proofs.MeetLaws.{least_sum, distance_from}
use Rattle.walk_hierarchy.proofs.meeting.distance.Goals as goal

pub returns-clause-least : goal.returns-clause-least
returns-clause-least g c =
    rw c.seconds_of.ensures
    (least_sum c.args.hierarchy.now c.args.a c.args.b (by_vertex c.args.hierarchy.now.ranks c.names.result.now c.meet-meeting.new.up) (by_vertex c.args.hierarchy.now.ranks c.names.result.now c.meet-meeting.new.down) c.meet-meeting.result c.meet-meeting.ensures.best)

pub returns-clause-distance : goal.returns-clause-distance
returns-clause-distance g c =
    distance_from c.args.hierarchy.now c.args.a c.args.b c.seconds_of.result c.requires.a_exists c.requires.b_exists
    (rw c.seconds_of.ensures
    (least_sum c.args.hierarchy.now c.args.a c.args.b (by_vertex c.args.hierarchy.now.ranks c.names.result.now c.meet-meeting.new.up) (by_vertex c.args.hierarchy.now.ranks c.names.result.now c.meet-meeting.new.down) c.meet-meeting.result c.meet-meeting.ensures.best))
