-- The file CO holds one list of points, and where it is accepted no rule is broken.
use Rattle.std.proofs.Common.{◌≡◌, ◌∙◌, ℕ, ◌+◌, ◌-◌, ◌<◌, ◌≤◌, List, length, take, true, Option, Some, None, refl, sym, ap, arith, inl, inr}
use Rattle.std.specs.Prelude.{slice_get}
use Rattle.std.specs.List.{list_any}
use Rattle.std.proofs.lemmas.Bool.{cases_order}
use Rattle.std.proofs.lemmas.Bool.Decides.{nat_tests}
use Rattle.std.proofs.lemmas.List.{same_lists}
use Rattle.std.proofs.lemmas.Option.{slice_get_within, get_or_from_slice_get}
use Rattle.move_model.specs.declared.refusal.Cause.{Cause}
use Rattle.move_model.specs.declared.refusal.FileKind.TheVariants as kind
use Rattle.refusals.proofs.RefusalLemmas.{not_both}
use Rattle.street_graph.specs.declared.point.Point.{Point}
use Rattle.street_graph.specs.Co.{place_by, co_lines, co_rules, co_spot_at, co_repeated_broken, CoLinesHold, is_place_of, int_of, IsPlaced, AreCoPoints, IsCoRefused, by_line, no_size, miscounted}
use Rattle.top_call.specs.declared.status.Status.{Status}
use Rattle.top_call.specs.Words.{Plan}
use Rattle.top_call.specs.Input.{Held, ArePointsIn}
use Rattle.top_call.specs.Rejected.{RejectsPoints, by_points_file, by_points_rule}
use Rattle.top_call.proofs.ListLemmas.{any_before, same_index}
use Rattle.top_call.proofs.StreetsOnce.{readable_not_both, is_readable, one_text}

line-at : (lines : _) (i : ℕ) (line : _) → slice_get lines i ≡ Some line → (co_spot_at lines i).line ≡ line
line-at lines i line at = get_or_from_slice_get lines i line _ at

repeated-rule : (nodes : ℕ) (lines : _) (i : ℕ) → CoLinesHold nodes lines → i < length lines
    → co_repeated_broken (co_spot_at lines i).before (co_spot_at lines i).line ≡ None
unfolding co_rules
repeated-rule nodes lines i hold lt = (hold i lt).1.1.1.0

-- two lines do not place one vertex
placed-once : (nodes : ℕ) (lines : _) (v i j : ℕ) (x y z w : _) → CoLinesHold nodes lines → slice_get lines i ≡ Some (place_by (Some v) (Some x) (Some y))
    → slice_get lines j ≡ Some (place_by (Some v) (Some z) (Some w)) → i < j → ⊥
unfolding co_repeated_broken
placed-once nodes lines v i j x y z w hold a b lt =
    let rule = rw (line-at lines j (place_by (Some v) (Some z) (Some w)) b) at (repeated-rule nodes lines j hold (slice_get_within lines j (place_by (Some v) (Some z) (Some w)) b)) in
    let seen : list_any (is_place_of v) (take j lines) ≡ true =
    any_before (is_place_of v) lines j i (place_by (Some v) (Some x) (Some y)) lt a (grind (arith, nat_tests)) in
    let broken = rw seen at rule in cc broken

same-place : (nodes : ℕ) (lines : _) (v i j : ℕ) (x y z w : _) → CoLinesHold nodes lines → slice_get lines i ≡ Some (place_by (Some v) (Some x) (Some y))
    → slice_get lines j ≡ Some (place_by (Some v) (Some z) (Some w)) → i ≡ j
same-place nodes lines v i j x y z w hold a b =
    elim (cases_order i j) [
      | inl same ↦ same
      | inr (inl lt) ↦ absurd (placed-once nodes lines v i j x y z w hold a b lt)
      | inr (inr gt) ↦ absurd (placed-once nodes lines v j i z w x y hold b a gt)
    ]

same-line : (v : ℕ) (x y z w : _) → Some (place_by (Some v) (Some x) (Some y)) ≡ Some (place_by (Some v) (Some z) (Some w)) → (x ≡ z) × (y ≡ w)
same-line v x y z w e = (cc e, cc e)

same-point : (x y z w : _) → x ≡ z → y ≡ w → ◌≡◌ {A = Option Point} (Some (record { lat = int_of y; lon = int_of x })) (Some (record { lat = int_of w; lon = int_of z }))
same-point x y z w a b = rw (a, b) refl

point-once : (nodes : ℕ) (lines : _) (points other : List Point) (v : ℕ) → CoLinesHold nodes lines → IsPlaced lines points v → IsPlaced lines other v
    → slice_get points (v - 1) ≡ slice_get other (v - 1)
point-once nodes lines points other v hold a b =
    let place = same-place nodes lines v a.place b.place a.x a.y b.x b.y hold a.line b.line in
    let both : Some (place_by (Some v) (Some a.x) (Some a.y)) ≡ Some (place_by (Some v) (Some b.x) (Some b.y)) = sym a.line ∙ ap (slice_get lines) place ∙ b.line in
    let same = same-line v a.x a.y b.x b.y both in
    a.point ∙ same-point a.x a.y b.x b.y same.0 same.1 ∙ sym b.point

points-once : (nodes : ℕ) (text : List ℕ) (points other : List Point) → AreCoPoints nodes text points → AreCoPoints nodes text other → points ≡ other
points-once nodes text points other a b =
    same_lists points other (a.one_each ∙ sym b.one_each) (λ k d lt.
    let within : k + 1 ≤ nodes = omega (arith, a.one_each) in
    let p = a.placed (k + 1) (omega arith) within in
    let q = b.placed (k + 1) (omega arith) within in
    let back : k + 1 - 1 ≡ k = omega arith in
    let same = point-once nodes (co_lines text) points other (k + 1) a.hold p q in
    same_index points other k d (rw back at same))

pub points_once : (plan : Plan) (held : Held) (nodes : ℕ) (points other : Option (List Point)) → ArePointsIn plan held nodes points → ArePointsIn plan held nodes other → points ≡ other
points_once plan held nodes None None a b = refl
points_once plan held nodes None (Some other) a b = absurd (b.0 a)
points_once plan held nodes (Some points) None a b = absurd (a.0 b)
points_once plan held nodes (Some points) (Some other) a b =
    ap (λ p. Some p) (points-once nodes a.1.0 points other a.1.2 (rw (one_text held kind.Co a.1.0 b.1.0 a.1.1 b.1.1) b.1.2))

co-not-both : (nodes : ℕ) (text : List ℕ) (points : List Point) (row : ℕ) (because : Cause) → AreCoPoints nodes text points → IsCoRefused nodes text row because → ⊥
co-not-both nodes text points row because a (by_line r) = not_both (co_rules nodes) (co_spot_at (co_lines text)) _ _ _ a.hold r
co-not-both nodes text points row because a (no_size hold none) = let some = a.sized in cc (none, some)
co-not-both nodes text points row because a (miscounted hold at wrong) = wrong a.counted

pub points_not_both : (plan : Plan) (held : Held) (nodes : ℕ) (points : Option (List Point)) (s : Status) → ArePointsIn plan held nodes points → RejectsPoints plan held nodes s → ⊥
points_not_both plan held nodes None s a (by_points_file named r) = named a
points_not_both plan held nodes None s a (by_points_rule text named read file refused) = named a
points_not_both plan held nodes (Some points) s a (by_points_file named r) = readable_not_both held kind.Co _ (is_readable held kind.Co a.1.0 a.1.1) r
points_not_both plan held nodes (Some points) s a (by_points_rule text named read file refused) =
    co-not-both nodes text points _ _ (rw (one_text held kind.Co text a.1.0 read a.1.1) a.1.2) refused
