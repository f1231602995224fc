use Rattle.piece_laws.proofs.Earlier.{first_earlier, ready_earlier, second_earlier, foot_earlier}
use Rattle.piece_laws.proofs.Covered.{covered_earlier}
use Rattle.piece_laws.proofs.laws.kept_earlier.Goals as goal

pub returns : goal.returns
returns c = record {
  first = λ n q z z' x a h. first_earlier n q z z' h x a;
  ready = λ n q z z' y l h. ready_earlier n q z z' h y l;
  second = λ n q z z' v k h. second_earlier n q z z' h v k;
  on_foot = λ n q z z' y a h. foot_earlier n q z z' h y a;
  covered = λ n q z z' v a h. covered_earlier n q z z' v a h;
}
