use Rattle.std.proofs.Common.{◌≡◌, ◌+◌, ℕ, List, [], length, replicate, ap₂, ◌∙◌, arith}
use Rattle.std.proofs.lemmas.List.{length-replicate}
use Rattle.core_search.specs.declared.labels.Slot.{Slot}
use Rattle.core_search.specs.Stored.{labels_in, no_slot}
use Rattle.core_search.proofs.StoreLemmas.{none_stored, all_none, many_labels}
use Rattle.core_search.proofs.labels.Labels.new.Goals as goal

pub returns : goal.returns
returns c =
    let index : List ℕ = replicate c.args.nodes no_slot in
    let long : length index ≡ c.args.nodes = length-replicate c.args.nodes no_slot in
    ap₂ (λ (slots : List Slot) (at : List ℕ). labels_in slots at) c.in_ok-slots.ensures.items (c.in_ok-index.ensures.items_if_clones_equal (λ y e. e))
    ∙ all_none (labels_in [] index) (c.args.nodes + 1) (omega (arith, many_labels [] index, long)) (none_stored index)
