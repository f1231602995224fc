use Rattle.std.proofs.Common.{◌≡◌, ◌≤◌, ◌<◌, ◌∙◌, ◌++◌, ℕ, List, length, take, drop, vec_len, sym, ap, subst}
use Rattle.std.specs.Prelude.{slice_index}
use Rattle.piece_laws.specs.declared.labels.Ready.{Ready}
use Rattle.two_trip_labels.proofs.Viewed.{written}
use Rattle.two_trip_passes.specs.Walks.{WalkGoes, last_walked}
use Rattle.witness_prune.proofs.labels.walk.Goals as goal

pub walk_all-requires-clause-walked : goal.walk_all-requires-clause-walked
walk_all-requires-clause-walked c = ap length c.as_mut_slice-from.ensures.value ∙ c.requires.walked

pub walk_all-requires-clause-ready : goal.walk_all-requires-clause-ready
walk_all-requires-clause-ready c = ap length c.as_mut_slice-labels.ensures.value ∙ c.requires.ready

pub returns-clause-goes : goal.returns-clause-goes
returns-clause-goes c =
    let f = c.walk_all.ensures in
    let walked = c.walk_all.new.walked in
    let ready = c.walk_all.new.ready in
    let many : length walked ≡ vec_len c.args.walked.now = f.goes.as_many ∙ c.as_mut_slice-from.ensures.len in
    let wide : length ready ≡ vec_len c.args.ready.now = f.goes.ready_falls.as_many ∙ c.as_mut_slice-labels.ensures.len in
    let w = λ (old new : List ℕ). λ (labels labels' : List Ready). WalkGoes c.args.rows.now c.args.foot.now c.args.second c.args.first.now old new labels labels' in
    subst (λ (xs : List ℕ). w c.args.walked.now.items xs c.args.ready.now.items (take (vec_len c.args.ready.now) (ready ++ drop (length ready) c.args.ready.now.items))) (sym (written walked c.args.walked.now.items (vec_len c.args.walked.now) many))
    (subst (λ (xs : List Ready). w c.args.walked.now.items walked c.args.ready.now.items xs) (sym (written ready c.args.ready.now.items (vec_len c.args.ready.now) wide))
    (subst (λ (xs : List ℕ). w xs walked c.args.ready.now.items ready) c.as_mut_slice-from.ensures.value
    (subst (λ (xs : List Ready). w c.as_mut_slice-from.result.now walked xs ready) c.as_mut_slice-labels.ensures.value f.goes)))

pub returns-clause-low : goal.returns-clause-low
returns-clause-low c =
    let f = c.walk_all.ensures in
    let walked = c.walk_all.new.walked in
    let many : length walked ≡ vec_len c.args.walked.now = f.goes.as_many ∙ c.as_mut_slice-from.ensures.len in
    subst (λ (xs : List ℕ). (x : ℕ) → x < length c.args.first.now → last_walked xs x ≤ slice_index c.args.first.now x) (sym (written walked c.args.walked.now.items (vec_len c.args.walked.now) many)) f.low

pub walk_all-requires-clause-cuts : goal.walk_all-requires-clause-cuts
walk_all-requires-clause-cuts c = ap length c.as_mut_slice-limits.ensures.value ∙ c.requires.cuts

pub returns-clause-cuts : goal.returns-clause-cuts
returns-clause-cuts c =
    let new = c.walk_all.new.cuts in
    let many : length new ≡ vec_len c.args.cuts.now = c.walk_all.ensures.cuts ∙ c.as_mut_slice-limits.ensures.len in
    ap length (written new c.args.cuts.now.items (vec_len c.args.cuts.now) many) ∙ c.walk_all.ensures.cuts ∙ ap length c.as_mut_slice-limits.ensures.value
