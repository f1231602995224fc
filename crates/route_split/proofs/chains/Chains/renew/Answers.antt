use Rattle.std.proofs.Common.{◌≡◌, ◌<◌, ℕ, List, length, set, subst, sym, arith}
use Rattle.std.specs.Prelude.{slice_index, IfSome}
use Rattle.std.proofs.lemmas.List.{get_or_read}
use Rattle.move_model.specs.declared.network.Call.{Call}
use Rattle.route_split.specs.Chains.{bucket_of}
use Rattle.route_split.specs.Jumps.{IsJump, AreJumped}
use Rattle.route_split.proofs.JumpLemmas.{second_low, jumps_renew}
use Rattle.route_split.proofs.chains.Chains.renew.Goals as goal

pub leap_of-requires-clause-b : goal.leap_of-requires-clause-b
leap_of-requires-clause-b c =
    let s = c.args.self.now in
    second_low c.args.trips.now (λ h. bucket_of c.args.trips.now (length s.tops.items) (slice_index s.lasts.items h)) s.lasts.items s.tops.items s.nexts.items s.jumps.items s.lows.items
    c.args.p c.in-Some.a c.in-Some.b c.requires.chained c.requires.jumped c.requires.p c.in-Some.ensures.first c.in-Some.ensures.second

pub index-requires : goal.index-requires
index-requires c =
    let s = c.args.self.now in
    let low = second_low c.args.trips.now (λ h. bucket_of c.args.trips.now (length s.tops.items) (slice_index s.lasts.items h)) s.lasts.items s.tops.items s.nexts.items s.jumps.items
    s.lows.items c.args.p c.in-Some.a c.in-Some.b c.requires.chained c.requires.jumped c.requires.p c.in-Some.ensures.first c.in-Some.ensures.second in
    omega (arith, low, c.requires.jumped.one_each)

pub grow_tree-requires-clause-b : goal.grow_tree-requires-clause-b
grow_tree-requires-clause-b c =
    let s = c.args.self.now in
    let low = second_low c.args.trips.now (λ h. bucket_of c.args.trips.now (length s.tops.items) (slice_index s.lasts.items h)) s.lasts.items s.tops.items s.nexts.items s.jumps.items
    s.lows.items c.args.p c.in-Some.a c.in-Some.b c.requires.chained c.requires.jumped c.requires.p c.in-Some.ensures.first c.in-Some.ensures.second in
    omega (arith, low, c.requires.trees)

pub returns-clause-jumped : goal.returns-clause-jumped
returns-clause-jumped c =
    let s = c.args.self.now in
    let trips = c.args.trips.now in
    let key : ℕ → ℕ = λ h. bucket_of trips (length s.tops.items) (slice_index s.lasts.items h) in
    let p = c.args.p in
    let b = c.in-Some.b in
    let jump = c.index.result.now in
    let low = c.in-Some-2.low in
    let b_low : b < length s.lasts.items = second_low trips key s.lasts.items s.tops.items s.nexts.items s.jumps.items s.lows.items
    p c.in-Some.a b c.requires.chained c.requires.jumped c.requires.p c.in-Some.ensures.first c.in-Some.ensures.second in
    let jump_is : jump ≡ slice_index s.jumps.items b = get_or_read s.jumps.items b jump (omega (arith, b_low, c.requires.jumped.one_each)) c.index.ensures 0 in
    let is : IsJump key trips s.lasts.items low (slice_index s.nexts.items p) (slice_index s.jumps.items b) p =
    subst (λ found. IfSome found (λ l. IsJump key trips s.lasts.items l (slice_index s.nexts.items p) (slice_index s.jumps.items b) p)) c.in-Some-2.is c.in_ok-low.ensures in
    let new : IsJump key trips s.lasts.items low (slice_index s.nexts.items p) jump p = subst (λ j. IsJump key trips s.lasts.items low (slice_index s.nexts.items p) j p) (sym jump_is) is in
    subst (λ l. AreJumped trips (length s.tops.items) s.lasts.items s.nexts.items l c.grow_tree.new.self.lows.items) (sym c.grow_tree.ensures.jumps)
    (subst (λ (l : List (List Call)). AreJumped trips (length s.tops.items) s.lasts.items s.nexts.items (set s.jumps.items p jump) l) (sym c.grow_tree.ensures.lows)
    (jumps_renew trips key s.lasts.items s.nexts.items s.jumps.items s.lows.items low jump p c.requires.jumped c.requires.p new))
