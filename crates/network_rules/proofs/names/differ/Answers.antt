use Rattle.std.proofs.Common.{◌≡◌, ◌∙◌, ◌++◌, ◌∷◌, [], List, ℕ, Bool, true, false, get_or, refl, sym, ap, subst}
use Rattle.std.specs.Prelude.{is_none, if◌then◌else◌}
use Rattle.move_model.specs.declared.network.Stop.{Stop}
use Rattle.tables.specs.Names.{place_of}
use Rattle.network_rules.proofs.RuleLemmas.{differ-more, names-more, repeats}
use Rattle.network_rules.proofs.names.differ.Goals as goal

abbrev Added : List (List ℕ) → List (List ℕ) → List ℕ → Bool → Type 0
Added old new id added = (added ≡ is_none (place_of id old)) × (new ≡ (if added then old ++ id ∷ [] else old))

pub loop-i-preserved : goal.loop-i-preserved
loop-i-preserved c =
    let stop : Stop = get_or c.args.stops.now c.loop-i.i c.index-stops-i.result in
    let is : stop ≡ get_or c.args.stops.now c.loop-i.i stop = ap (λ (s : Stop). get_or c.args.stops.now c.loop-i.i s) c.index-stops-i.is in
    let told : Added c.loop-i.names c.insert.new.self c.as_slice.result.now c.in_ok-insert.field-0 = (c.in_ok-insert.ensures.added, c.in_ok-insert.ensures.names) in
    let here : Added c.loop-i.names c.insert.new.self stop.name c.in_ok-insert.field-0 = subst (λ (id : List ℕ). Added c.loop-i.names c.insert.new.self id c.in_ok-insert.field-0) c.as_slice.ensures told in
    let new : Added c.loop-i.names c.insert.new.self stop.name true = subst (Added c.loop-i.names c.insert.new.self stop.name) c.if-not-branch.false here in
    record {
      names = names-more c.args.stops.now c.loop-i.names c.insert.new.self c.loop-i.i stop c.loop-i-test.true is c.loop-i.invariant.names new.1;
      differ = differ-more c.args.stops.now c.loop-i.names c.loop-i.i stop c.loop-i-test.true is c.loop-i.invariant.names c.loop-i.invariant.differ new.0;
    }

pub returns-then-not-branch : goal.returns-then-not-branch
returns-then-not-branch c =
    let stop : Stop = get_or c.args.stops.now c.loop-i.i c.index-stops-i.result in
    let is : stop ≡ get_or c.args.stops.now c.loop-i.i stop = ap (λ (s : Stop). get_or c.args.stops.now c.loop-i.i s) c.index-stops-i.is in
    let told : c.in_ok-insert.field-0 ≡ is_none (place_of stop.name c.loop-i.names) = subst (λ (id : List ℕ). c.in_ok-insert.field-0 ≡ is_none (place_of id c.loop-i.names)) c.as_slice.ensures c.in_ok-insert.ensures.added in
    let old : false ≡ is_none (place_of stop.name c.loop-i.names) = subst (λ (b : Bool). b ≡ is_none (place_of stop.name c.loop-i.names)) c.if-not-branch.true told in
    (λ no. absurd cc, λ differ. absurd (repeats c.args.stops.now c.loop-i.names c.loop-i.i stop c.loop-i-test.true is c.loop-i.invariant.names old differ))
