use Rattle.std.proofs.Common.{◌≡◌, ℕ, Option, None, length, refl, ap, ◌∙◌, arith}
use Rattle.std.proofs.lemmas.List.{length-replicate}
use Rattle.walk_hierarchy.specs.declared.labels.Label.{Label}
use Rattle.walk_hierarchy.proofs.SearchLaws.{marked, IsMarked, search_first, first_waits}
use Rattle.walk_hierarchy.proofs.search.begin.Goals as goal

pub returns : goal.returns
returns c =
    let x : Label = record { seconds = 0; parent = c.args.from } in
    let n = length c.args.labels.now in
    let room : length c.args.queue.now ≡ length c.args.labels.now = ap length c.requires.queue ∙ length-replicate {A = Option ℕ} (length c.args.labels.now) None in
    let m : IsMarked c.args.labels.now c.args.queue.now c.mark.new.labels c.mark.new.queue c.args.from.0 x =
    rw (c.mark.ensures.labels, c.mark.ensures.queue) (marked c.args.labels.now c.args.queue.now c.args.from.0 x c.requires.from room (omega arith)) in
    record {
      search = λ rows bound.
          search_first rows c.args.from.0 bound n x c.args.labels.now c.args.queue.now c.mark.new.labels c.mark.new.queue c.requires.labels c.requires.queue refl m;
      waits = first_waits c.args.from.0 n x c.args.labels.now c.args.queue.now c.mark.new.labels c.mark.new.queue c.requires.labels m;
      many = m.many;
    }
