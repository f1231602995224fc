use Rattle.two_trip_labels.proofs.FirstLemmas.{goes_board, sound_board, read_route, board_boarded}
use Rattle.two_trip_labels.proofs.first_all.board_call.Goals as goal

pub returns-clause-goes : goal.returns-clause-goes
returns-clause-goes c =
    let route = c.index-routes-call.result in
    let is = read_route c.args.routes.now c.args.call.route c.requires.exists.route route _ c.requires.exists.is_route c.index-routes-call.is in
    goes_board c.args.routes.now c.args.foot.now c.args.second c.args.rows.now c.board.new.self c.args.first.now c.board.new.first c.args.call.route c.args.call.call c.args.wanted route is
    c.board.ensures.many c.board.ensures.others c.board.ensures.boards

pub returns-clause-boarded : goal.returns-clause-boarded
returns-clause-boarded c =
    let route = c.index-routes-call.result in
    let is = read_route c.args.routes.now c.args.call.route c.requires.exists.route route _ c.requires.exists.is_route c.index-routes-call.is in
    board_boarded c.args.routes.now c.args.wanted c.args.foot.now c.args.second c.args.rows.now c.board.new.self c.args.first.now c.board.new.first c.args.call route is c.board.ensures.boards

pub returns-clause-sound : goal.returns-clause-sound
returns-clause-sound c s of may h =
    let route = c.index-routes-call.result in
    let is = read_route c.args.routes.now c.args.call.route c.requires.exists.route route _ c.requires.exists.is_route c.index-routes-call.is in
    sound_board c.args.routes.now c.args.foot.now c.args.second c.args.rows.now c.board.new.self c.args.first.now c.board.new.first c.args.call.route c.args.call.call c.args.wanted route is
    c.board.ensures.many c.board.ensures.others c.board.ensures.boards s of (may.each route is) h
