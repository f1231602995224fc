use Rattle.std.proofs.Common.{length}
use Rattle.walk_core.proofs.StateLemmas.{IsSound-clean_out, IsSound-clean_into, IsRight-clean_out, IsRight-clean_into, row_ends}
use Rattle.walk_core.proofs.state.clean_around.Goals as goal

pub clean_ends-requires : goal.clean_ends-requires
clean_ends-requires c =
    row_ends c.args.into.now c.row.result.now c.args.m (length c.args.out.now) (length c.args.rank.now) c.row.ensures
    c.requires.sound.built.into_fits c.requires.sound.built.out_fits.many

pub clean_ends-requires-2 : goal.clean_ends-requires-2
clean_ends-requires-2 c =
    let sound = IsSound-clean_out c.args.out.now c.clean_ends.new.rows c.args.into.now c.args.rank.now c.args.contracted.now c.clean_ends.ensures c.requires.sound in
    row_ends c.clean_ends.new.rows c.row-2.result.now c.args.m (length c.args.into.now) (length c.args.rank.now) c.row-2.ensures
    sound.built.out_fits sound.built.into_fits.many

pub returns-clause-sound : goal.returns-clause-sound
returns-clause-sound c =
    IsSound-clean_into c.clean_ends.new.rows c.args.into.now c.clean_ends-2.new.rows c.args.rank.now c.args.contracted.now c.clean_ends-2.ensures
    (IsSound-clean_out c.args.out.now c.clean_ends.new.rows c.args.into.now c.args.rank.now c.args.contracted.now c.clean_ends.ensures c.requires.sound)

pub returns-clause-right : goal.returns-clause-right
returns-clause-right c = λ graph right.
    IsRight-clean_into c.clean_ends.new.rows c.args.into.now c.clean_ends-2.new.rows c.args.rank.now c.args.contracted.now c.clean_ends-2.ensures graph
    (IsRight-clean_out c.args.out.now c.clean_ends.new.rows c.args.into.now c.args.rank.now c.args.contracted.now c.clean_ends.ensures graph right)
