use Rattle.std.proofs.lemmas.Result.{err_from_is_err_and}
use Rattle.top_call.proofs.CauseLemmas.{OnlyReads-trans, HasCause-later}
use Rattle.top_call.proofs.RejectLemmas.{files_here, files_behind}
use Rattle.top_call.specs.Input.{held}
use Rattle.top_call.specs.Words.{told}
use Rattle.move_model.specs.declared.refusal.FileKind.TheVariants as kind
use Rattle.std.proofs.Common.{refl, [], ◌∷◌}
use Rattle.top_call.proofs.feed.read_trip_files.Goals as goal

pub returns-in_err-stop_times-clause-cause : goal.returns-in_err-stop_times-clause-cause
returns-in_err-stop_times-clause-cause g c =
    let p = err_from_is_err_and c.from_residual-in_err-stop_times.result c.from_residual-in_err-stop_times.ensures.1 in
    rw (p.1, p.2) (HasCause-later g.F.Files _ _ _ _ _ c.in_ok-trips.ensures.reads c.in_err-stop_times.ensures.cause)

pub returns-in_err-frequencies-clause-cause : goal.returns-in_err-frequencies-clause-cause
returns-in_err-frequencies-clause-cause g c =
    let p = err_from_is_err_and c.from_residual-in_err-frequencies.result c.from_residual-in_err-frequencies.ensures.1 in
    let first = c.in_ok-trips.ensures.reads in
    let second = c.in_ok-stop_times.ensures.reads in
    rw (p.1, p.2) (HasCause-later g.F.Files _ _ _ _ _ (OnlyReads-trans g.F.Files _ _ _ first second) c.in_err-frequencies.ensures.cause)

pub returns-in_err-trips-clause-rejected : goal.returns-in_err-trips-clause-rejected
returns-in_err-trips-clause-rejected g c =
    let p = err_from_is_err_and c.from_residual.result c.from_residual.ensures.1 in
    rw (p.1, p.2) (λ tells. files_here (held (told c.args.plan.now) (g.F.Files.holds c.args.files.now)) kind.Trips (kind.StopTimes ∷ kind.Frequencies ∷ []) c.in_err-trips.field-0.0 (c.in_err-trips.ensures.rejected tells))

pub returns-in_err-stop_times-clause-rejected : goal.returns-in_err-stop_times-clause-rejected
returns-in_err-stop_times-clause-rejected g c =
    let p = err_from_is_err_and c.from_residual-in_err-stop_times.result c.from_residual-in_err-stop_times.ensures.1 in
    rw (p.1, p.2) (λ tells. files_behind (held (told c.args.plan.now) (g.F.Files.holds c.args.files.now)) kind.Trips (kind.StopTimes ∷ kind.Frequencies ∷ []) c.in_err-stop_times.field-0.0 (c.in_ok-trips.ensures.readable tells)
    (files_here (held (told c.args.plan.now) (g.F.Files.holds c.args.files.now)) kind.StopTimes (kind.Frequencies ∷ []) c.in_err-stop_times.field-0.0 (rw c.in_ok-trips.ensures.reads.contents at (c.in_err-stop_times.ensures.rejected tells))))

pub returns-in_err-frequencies-clause-rejected : goal.returns-in_err-frequencies-clause-rejected
returns-in_err-frequencies-clause-rejected g c =
    let p = err_from_is_err_and c.from_residual-in_err-frequencies.result c.from_residual-in_err-frequencies.ensures.1 in
    rw (p.1, p.2) (λ tells. files_behind (held (told c.args.plan.now) (g.F.Files.holds c.args.files.now)) kind.Trips (kind.StopTimes ∷ kind.Frequencies ∷ []) c.in_err-frequencies.field-0.0 (c.in_ok-trips.ensures.readable tells)
    (files_behind (held (told c.args.plan.now) (g.F.Files.holds c.args.files.now)) kind.StopTimes (kind.Frequencies ∷ []) c.in_err-frequencies.field-0.0 (rw c.in_ok-trips.ensures.reads.contents at (c.in_ok-stop_times.ensures.readable tells))
    (files_here (held (told c.args.plan.now) (g.F.Files.holds c.args.files.now)) kind.Frequencies [] c.in_err-frequencies.field-0.0 (rw (c.in_ok-stop_times.ensures.reads.contents, c.in_ok-trips.ensures.reads.contents) at (c.in_err-frequencies.ensures.rejected tells)))))

pub returns-clause-readable : goal.returns-clause-readable
returns-clause-readable g c = λ tells. (
  c.in_ok-trips.ensures.readable tells,
  (rw c.in_ok-trips.ensures.reads.contents at (c.in_ok-stop_times.ensures.readable tells), (rw (c.in_ok-stop_times.ensures.reads.contents, c.in_ok-trips.ensures.reads.contents) at (c.in_ok-frequencies.ensures.readable tells refl), tt)),
)
