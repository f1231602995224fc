-- The rows of an answer, finding by finding.
use Rattle.std.proofs.Common.{◌≡◌, ◌≢◌, ◌∙◌, ◌+◌, ◌<◌, ◌++◌, ℕ, List, [], ◌∷◌, length, drop, get_or, refl, ap, sym}
use Rattle.std.proofs.lemmas.List.{drop_more}
use Rattle.move_model.specs.declared.network.Network.{Network}
use Rattle.move_model.specs.declared.journey.Finding.{Finding}
use Rattle.journey_print.specs.declared.answer.PointAnswer.{PointAnswer}
use Rattle.journey_print.specs.Records.{finding_records, findings_from, point_records}

-- the rows from one finding on are its rows and those from the next on
pub findings_from-drop : (query journey : ℕ) (n : Network) (answer : PointAnswer) (found : List Finding) (i : ℕ) (finding : Finding)
    → i < length found → finding ≡ get_or found i finding
    → findings_from query journey n answer (drop i found)
    ≡ finding_records query journey n answer finding ++ findings_from query (journey + 1) n answer (drop (i + 1) found)
findings_from-drop query journey n answer found i finding within is =
    ap (λ fs. findings_from query journey n answer fs) (drop_more found i finding within)
    ∙ ap (λ f. finding_records query journey n answer f ++ findings_from query (journey + 1) n answer (drop (i + 1) found)) (sym is)

-- an answer with a finding gives no row of kind none
pub point_records-some : (query : ℕ) (n : Network) (answer : PointAnswer) (found : List Finding) → found ≢ []
    → findings_from query 1 n answer found ≡ point_records query n answer found
point_records-some query n answer [] some = absurd (some refl)
point_records-some query n answer (finding ∷ findings) some = refl
