-- The files GR and CO are rejected with one status.
use Rattle.std.proofs.Common.{◌≡◌, ◌∙◌, ℕ, sym, ap}
use Rattle.move_model.specs.declared.refusal.FileKind.TheVariants as kind
use Rattle.move_model.specs.declared.refusal.Refusal.{Refusal}
use Rattle.street_graph.specs.Gr.{IsGrRefused}
use Rattle.street_graph.specs.Co.{IsCoRefused}
use Rattle.top_call.specs.declared.status.Status.{Status}
use Rattle.top_call.specs.declared.status.Status.TheVariants as status
use Rattle.top_call.specs.Words.{Plan}
use Rattle.top_call.specs.Input.{Held}
use Rattle.top_call.specs.Rejected.{RejectsGraph, RejectsPoints, by_graph_file, by_graph_rule, by_points_file, by_points_rule}
use Rattle.top_call.proofs.StreetsOnce.{readable_not_both, is_readable, one_text, file_once}
use Rattle.top_call.proofs.TextOnce.{gr_once, co_once}

pub same_refusal : (r s : Refusal) → r.file ≡ s.file → r.row ≡ s.row → r.cause ≡ s.cause → r ≡ s
same_refusal r s a b c = λ i. record { file = a i; row = b i; cause = c i }

refused-once : (r s : Refusal) → r.file ≡ s.file → r.row ≡ s.row → r.cause ≡ s.cause → status.Refused r ≡ status.Refused s
refused-once r s a b c = ap (λ r. status.Refused r) (same_refusal r s a b c)

pub graph_rejected_once : (held : Held) (s t : Status) → RejectsGraph held s → RejectsGraph held t → s ≡ t
graph_rejected_once held s t (by_graph_file a) (by_graph_file b) = file_once held kind.Gr _ _ a b
graph_rejected_once held s t (by_graph_file a) (by_graph_rule text read file b) = absurd (readable_not_both held kind.Gr _ (is_readable held kind.Gr text read) a)
graph_rejected_once held s t (by_graph_rule text read file a) (by_graph_file b) = absurd (readable_not_both held kind.Gr _ (is_readable held kind.Gr text read) b)
graph_rejected_once held s t (by_graph_rule {r = r} text read file a) (by_graph_rule {r = q} other read' file' b) =
    let again : IsGrRefused other r.row r.cause = rw (one_text held kind.Gr other text read' read) a in
    let one = gr_once other r.row q.row r.cause q.cause again b in
    refused-once r q (file ∙ sym file') one.0 one.1

pub points_rejected_once : (plan : Plan) (held : Held) (nodes : ℕ) (s t : Status) → RejectsPoints plan held nodes s → RejectsPoints plan held nodes t → s ≡ t
points_rejected_once plan held nodes s t (by_points_file named a) (by_points_file named' b) = file_once held kind.Co _ _ a b
points_rejected_once plan held nodes s t (by_points_file named a) (by_points_rule text named' read file b) = absurd (readable_not_both held kind.Co _ (is_readable held kind.Co text read) a)
points_rejected_once plan held nodes s t (by_points_rule text named read file a) (by_points_file named' b) = absurd (readable_not_both held kind.Co _ (is_readable held kind.Co text read) b)
points_rejected_once plan held nodes s t (by_points_rule {r = r} text named read file a) (by_points_rule {r = q} other named' read' file' b) =
    let again : IsCoRefused nodes other r.row r.cause = rw (one_text held kind.Co other text read' read) a in
    let one = co_once nodes other r.row q.row r.cause q.cause again b in
    refused-once r q (file ∙ sym file') one.0 one.1
