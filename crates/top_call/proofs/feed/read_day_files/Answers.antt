use Rattle.std.proofs.lemmas.Result.{err_from_is_err_and}
use Rattle.top_call.proofs.CauseLemmas.{OnlyReads-trans, HasCause-later}
use Rattle.top_call.proofs.RejectLemmas.{files_here, files_behind}
use Rattle.top_call.specs.Input.{held}
use Rattle.top_call.specs.Words.{told}
use Rattle.move_model.specs.declared.refusal.FileKind.TheVariants as kind
use Rattle.std.proofs.Common.{refl, [], ◌∷◌}
use Rattle.top_call.proofs.feed.read_day_files.Goals as goal

pub returns-in_err-calendar-clause-cause : goal.returns-in_err-calendar-clause-cause
returns-in_err-calendar-clause-cause g c =
    let p = err_from_is_err_and c.from_residual-in_err-calendar.result c.from_residual-in_err-calendar.ensures.1 in
    rw (p.1, p.2) (HasCause-later g.F.Files _ _ _ _ _ c.in_ok-stops.ensures.reads c.in_err-calendar.ensures.cause)

pub returns-in_err-dates-clause-cause : goal.returns-in_err-dates-clause-cause
returns-in_err-dates-clause-cause g c =
    let p = err_from_is_err_and c.from_residual-in_err-dates.result c.from_residual-in_err-dates.ensures.1 in
    let first = c.in_ok-stops.ensures.reads in
    let second = c.in_ok-calendar.ensures.reads in
    rw (p.1, p.2) (HasCause-later g.F.Files _ _ _ _ _ (OnlyReads-trans g.F.Files _ _ _ first second) c.in_err-dates.ensures.cause)

pub returns-in_err-stops-clause-rejected : goal.returns-in_err-stops-clause-rejected
returns-in_err-stops-clause-rejected g c =
    let p = err_from_is_err_and c.from_residual.result c.from_residual.ensures.1 in
    rw (p.1, p.2) (λ tells. files_here (held (told c.args.plan.now) (g.F.Files.holds c.args.files.now)) kind.Stops (kind.Calendar ∷ kind.CalendarDates ∷ []) c.in_err-stops.field-0.0 (c.in_err-stops.ensures.rejected tells))

pub returns-in_err-calendar-clause-rejected : goal.returns-in_err-calendar-clause-rejected
returns-in_err-calendar-clause-rejected g c =
    let p = err_from_is_err_and c.from_residual-in_err-calendar.result c.from_residual-in_err-calendar.ensures.1 in
    rw (p.1, p.2) (λ tells. files_behind (held (told c.args.plan.now) (g.F.Files.holds c.args.files.now)) kind.Stops (kind.Calendar ∷ kind.CalendarDates ∷ []) c.in_err-calendar.field-0.0 (c.in_ok-stops.ensures.readable tells)
    (files_here (held (told c.args.plan.now) (g.F.Files.holds c.args.files.now)) kind.Calendar (kind.CalendarDates ∷ []) c.in_err-calendar.field-0.0 (rw c.in_ok-stops.ensures.reads.contents at (c.in_err-calendar.ensures.rejected tells))))

pub returns-in_err-dates-clause-rejected : goal.returns-in_err-dates-clause-rejected
returns-in_err-dates-clause-rejected g c =
    let p = err_from_is_err_and c.from_residual-in_err-dates.result c.from_residual-in_err-dates.ensures.1 in
    rw (p.1, p.2) (λ tells. files_behind (held (told c.args.plan.now) (g.F.Files.holds c.args.files.now)) kind.Stops (kind.Calendar ∷ kind.CalendarDates ∷ []) c.in_err-dates.field-0.0 (c.in_ok-stops.ensures.readable tells)
    (files_behind (held (told c.args.plan.now) (g.F.Files.holds c.args.files.now)) kind.Calendar (kind.CalendarDates ∷ []) c.in_err-dates.field-0.0 (rw c.in_ok-stops.ensures.reads.contents at (c.in_ok-calendar.ensures.readable tells refl))
    (files_here (held (told c.args.plan.now) (g.F.Files.holds c.args.files.now)) kind.CalendarDates [] c.in_err-dates.field-0.0 (rw (c.in_ok-calendar.ensures.reads.contents, c.in_ok-stops.ensures.reads.contents) at (c.in_err-dates.ensures.rejected tells)))))

pub returns-clause-readable : goal.returns-clause-readable
returns-clause-readable g c = λ tells. (
  c.in_ok-stops.ensures.readable tells,
  (rw c.in_ok-stops.ensures.reads.contents at (c.in_ok-calendar.ensures.readable tells refl), (rw (c.in_ok-calendar.ensures.reads.contents, c.in_ok-stops.ensures.reads.contents) at (c.in_ok-dates.ensures.readable tells refl), tt)),
)
