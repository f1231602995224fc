-- Names of services, and texts that were seen.
use Rattle.std.proofs.Common.{◌≡◌, ◌∙◌, ℕ, zero, suc, ◌<◌, List, [], ◌∷◌, ◌++◌, length, get_or, Option, Some, None, Bool, false, refl, sym, ap, arith}
use Rattle.std.specs.Prelude.{is_some, is_none, slice_set, Result, Ok, Err, OnOk, is_ok, if◌then◌else◌}
use Rattle.std.specs.Result.{is_err}
use Rattle.std.proofs.lemmas.List.{get_or_default}
use Rattle.move_model.specs.declared.refusal.Cause.TheVariants as cause
use Rattle.tables.specs.Names.{place_of}
use Rattle.gtfs_feed.specs.declared.feed.Service.{Service}
use Rattle.gtfs_feed.specs.Dates.{names_in, noted_at, noted, bare_service}
use Rattle.gtfs_feed.specs.Ids.{repeated_broken}

-- a date more changes no name
pub names-noted : (place : ℕ) (adds : Bool) (date : ℕ) (services : List Service) → place < length services → names_in (noted_at place adds date services) ≡ names_in services
names-noted place adds date [] lt = absurd (omega arith)
names-noted zero adds date (service ∷ services) lt = refl
names-noted (suc place) adds date (service ∷ services) lt = ap (λ (rest : List (List ℕ)). service.name ∷ rest) (names-noted place adds date services (omega arith))

by-place : (o : Option ℕ) (added : Bool) → added ≡ is_none o → (if is_some o then Some cause.Repeated else None) ≡ (if added then None else Some cause.Repeated)
by-place None added e = rw e refl
by-place (Some place) added e = rw e refl

-- a text that was not put among those that were seen was there
pub repeated-if : (names : List (List ℕ)) (key text : List ℕ) (added : Bool) → added ≡ is_none (place_of key names) → key ≡ text
    → repeated_broken names text ≡ (if added then None else Some cause.Repeated)
unfolding repeated_broken
repeated-if names key text added e same = rw (← same) (by-place (place_of key names) added e)

pub noted-same : {E : Type 0} (r : Result (Unit {0}) E) (services : List Service) (place : ℕ) (adds : Bool) (date : ℕ) (here new : Service) (names : List (List ℕ))
    → here ≡ get_or services place here → place < length services → names ≡ names_in services → OnOk r (new ≡ noted adds date here) → OnOk r (names ≡ names_in (slice_set services place new))
noted-same (Ok x) services place adds date here new names found lt same e =
    let at-place : get_or services place (bare_service []) ≡ here = get_or_default services place (bare_service []) here lt ∙ sym found in
    same ∙ sym (names-noted place adds date services lt)
    ∙ ap (λ (s : Service). names_in (slice_set services place s)) (ap (λ (s : Service). noted adds date s) at-place ∙ sym e)
noted-same (Err x) services place adds date here new names found lt same e = tt

pub extended : {T E : Type 0} (r : Result T E) (a b x : List ℕ) → false ≡ is_err r → x ≡ (if is_ok r then a ++ b else a) → x ≡ a ++ b
extended (Ok t) a b x e h = h
extended (Err t) a b x e h = cc e
