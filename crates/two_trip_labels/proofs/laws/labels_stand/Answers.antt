use Rattle.two_trip_labels.proofs.FirstTable.{first_table}
use Rattle.two_trip_labels.proofs.ReadyTable.{walk_closed, ready_table}
use Rattle.two_trip_labels.proofs.SecondTable.{ride_closed, second_table}
use Rattle.two_trip_labels.proofs.OwnTable.{own_first_table}
use Rattle.two_trip_labels.proofs.laws.labels_stand.Goals as goal

pub returns : goal.returns
returns c = record {
  first = first_table;
  ready = ready_table;
  second = λ n q z g h p k ok parts low closed far sound. second_table n q z g h p k ok parts low closed sound far;
  own = λ n us q z g h p k ok parts at low closed near. own_first_table n us q z g h p k ok parts at low near closed;
  walks = walk_closed;
  rides = ride_closed;
}
