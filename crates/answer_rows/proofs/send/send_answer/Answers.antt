use Rattle.answer_rows.proofs.RoomLemmas.{room_kept}
use Rattle.answer_rows.proofs.send.send_answer.Goals as goal

pub returns-in-Range-clause-room : goal.returns-in-Range-clause-room
returns-in-Range-clause-room g c = room_kept c.args.compiled.now c.args.works.now c.send_range.new.work c.send_range.ensures.room
