use Rattle.piece_laws.proofs.Compose.{ready_stands, second_stands}
use Rattle.piece_laws.proofs.laws.labels_compose.Goals as goal

pub returns : goal.returns
returns c = record {
  ready = λ n q z h first ready ok. ready_stands n ok q z h first ready;
  second = λ n q z h ready best ok. second_stands n ok q z h ready best;
}
