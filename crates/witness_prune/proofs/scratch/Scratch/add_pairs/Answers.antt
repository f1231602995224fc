use Rattle.std.proofs.Common.{◌⊎◌, ℕ, List, length, subst}
use Rattle.std.proofs.lemmas.Result.{on_ok_weaker}
use Rattle.std.specs.Prelude.{◌↔◌, Contains}
use Rattle.two_trip_passes.specs.Read.{IsFound, HasRead}
use Rattle.witness_prune.specs.Needed.{Pair}
use Rattle.witness_prune.specs.Labels.{kept_of}
use Rattle.witness_prune.proofs.NeededTable.{pairs_added}
use Rattle.witness_prune.proofs.scratch.Scratch.add_pairs.Goals as goal

pub returns-clause-ok : goal.returns-clause-ok
returns-clause-ok c =
    let rows = c.args.rows.now in
    let k = kept_of c.args.self.now.labels in
    let foot = c.args.self.now.foot.items in
    let own = c.args.self.now.own.items in
    let found = λ (ns : List Pair). λ (fs : List ℕ). λ (xs : List ℕ). (p : Pair) → IsFound ns c.read_pairs.new.pairs.items p ↔ (Contains ns p ⊎ HasRead rows fs c.args.second c.args.before xs k.boarded k.best (length rows.places) p.0 p.1) in
    let read =
    subst (λ (xs : List ℕ). found c.args.needed.now foot xs) c.as_slice-own.ensures.value
    (subst (λ (xs : List ℕ). found c.args.needed.now xs c.as_slice-own.result.now) c.as_slice-foot.ensures.value
    (subst (λ (ns : List Pair). found ns c.as_slice-foot.result.now c.as_slice-own.result.now) c.as_slice-known.ensures.pairs c.read_pairs.ensures.pairs)) in
    on_ok_weaker _
    (λ (all : (p : Pair) → Contains c.insert_all.new.self p ↔ (Contains c.args.needed.now p ⊎ Contains c.as_slice-pairs.result.now p)).
    λ q. pairs_added c.args.needed.now c.read_pairs.new.pairs.items c.insert_all.new.self q (HasRead rows foot c.args.second c.args.before own k.boarded k.best (length rows.places) q.0 q.1) (read q)
    (subst (λ (xs : List Pair). Contains c.insert_all.new.self q ↔ (Contains c.args.needed.now q ⊎ Contains xs q)) c.as_slice-pairs.ensures.value (all q)))
    c.insert_all.ensures.ok
