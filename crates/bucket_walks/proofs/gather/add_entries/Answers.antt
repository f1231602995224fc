use Rattle.std.proofs.Common.{◌≡◌, [], ◌∷◌, ◌++◌, slice_index_or, refl, false, IsTrue, arith}
use Rattle.std.proofs.lemmas.Grind.{common_steps}
use Rattle.walk_hierarchy.specs.declared.settled.Settled.{Settled}
use Rattle.bucket_walks.proofs.ListLemmas.{read_is}
use Rattle.bucket_walks.proofs.AddLemmas.{entry_of, kept_none, kept_pushed, kept_passed, apart_pushed, kept_all}
use Rattle.bucket_walks.proofs.gather.add_entries.Goals as goal
use Rattle.bucket_walks.proofs.gather.add_entries.Goals.{then-is_direct+in_ok-push, else-is_direct}

abbrev nowhere : Settled
nowhere = record { node = record { 0 = 0 }; seconds = 0 }

pub loop-there-init : goal.loop-there-init
loop-there-init c = record {
  kept = kept_none c.args.stop c.args.settled.now c.args.bypasses.now.arcs.items c.args.marks.now c.args.list.now.items;
  apart = c.requires.apart;
}

pub loop-there-preserved : goal.loop-there-preserved
loop-there-preserved c =
    let settled = c.args.settled.now in
    let i = c.loop-there.there-index in
    let lt = c.loop-there-test.true in
    let x : Settled = slice_index_or settled i nowhere in
    let arcs = c.args.bypasses.now.arcs.items in
    let marks = c.args.marks.now in
    let list = c.loop-there.list.items in
    elim c.if-is_direct.branch [
      | then-is_direct+in_ok-push w ↦
          let is : c.if-is_direct.list.items ≡ list ++ entry_of c.args.stop x ∷ [] = grind (arith, common_steps) in
          rw is (record {
            kept = kept_pushed c.args.stop settled arcs marks c.args.list.now.items list i x lt (read_is settled i nowhere lt) c.loop-there.invariant.kept (w.if-is_direct.ensures.0 refl);
            apart = apart_pushed c.args.stop settled arcs marks c.args.list.now.items list i x lt (read_is settled i nowhere lt) c.loop-there.invariant.kept c.requires.once c.requires.earlier c.loop-there.invariant.apart;
          })
      | else-is_direct w ↦
          let is : c.if-is_direct.list.items ≡ list = grind (arith, common_steps) in
          rw is (record {
            kept = kept_passed c.args.stop settled arcs marks c.args.list.now.items list i x lt (read_is settled i nowhere lt) c.loop-there.invariant.kept (λ direct. let wrong : IsTrue false = w.if-is_direct.ensures.1 direct in cc);
            apart = c.loop-there.invariant.apart;
          })
    ]

pub returns-clause-entries : goal.returns-clause-entries
returns-clause-entries c =
    kept_all c.args.stop c.args.settled.now c.args.bypasses.now.arcs.items c.args.marks.now c.args.list.now.items c.loop-there.list.items c.loop-there.there-index
    c.loop-there-test.false c.loop-there.invariant.kept
