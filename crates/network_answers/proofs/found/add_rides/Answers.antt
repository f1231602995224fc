use Rattle.std.proofs.Common.{◌≡◌, ◌∙◌, ℕ, ◌+◌, List, Option, Some, None, length, refl, sym, ap, subst, arith}
use Rattle.std.specs.Option.{option_map}
use Rattle.std.proofs.lemmas.Result.{on_ok_weaker}
use Rattle.move_model.specs.declared.journey.Ride.{Ride}
use Rattle.move_model.specs.declared.journey.Pair.{Pair}
use Rattle.raptor_rounds.specs.Answers.{Arrival, answer_at}
use Rattle.network_file.specs.Answers.{AttainsByRides}
use Rattle.network_answers.specs.Gains.{gain, sums_of}
use Rattle.network_answers.proofs.GainLaws.{none_from, IsGained, gained, gained_listed, gained_only, none_listed}
use Rattle.network_answers.proofs.FoundLaws.{found_still, found_more}
use Rattle.network_answers.proofs.TickLaws.{skip_ticked, gain_ticked}
use Rattle.network_answers.proofs.found.add_rides.Goals as goal

-- the rides of an answer
rides_known : (answer : Option Arrival) (legs : Option (List Ride)) (e : ℕ) (rides taken : List Ride) → answer ≡ Some (record { second = e; rides = rides })
    → legs ≡ option_map (λ (a : Arrival). a.rides) answer → legs ≡ Some taken → taken ≡ rides
rides_known answer legs e rides taken is are took =
    let there : Some taken ≡ Some rides = sym took ∙ (are ∙ ap (λ (o : Option Arrival). option_map (λ (a : Arrival). a.rides) o) is) in
    cc

pub returns-in_default-clause-found : goal.returns-in_default-clause-found
returns-in_default-clause-found g c =
    let none : gain c.args.depart c.args.asked.now.foot c.args.asked.now.rounds c.args.before ≡ None =
    sym c.gain.ensures ∙ none_from c.gain.result c.in_default.not-Some in
    found_still c.args.compiled.now (sums_of c.args.asked.now) c.args.from c.args.depart c.args.to c.args.before c.args.found.now c.requires.found
    (none_listed c.args.compiled.now (sums_of c.args.asked.now) c.args.depart c.args.asked.now.rounds c.requires.answers c.args.before c.requires.within none)

pub returns-in_default-clause-ticks : goal.returns-in_default-clause-ticks
returns-in_default-clause-ticks g c = λ start is.
    let none : gain c.args.depart c.args.asked.now.foot c.args.asked.now.rounds c.args.before ≡ None =
    sym c.gain.ensures ∙ none_from c.gain.result c.in_default.not-Some in
    skip_ticked c.args.compiled.now (sums_of c.args.asked.now) c.args.depart c.args.asked.now.rounds c.requires.answers c.args.before start c.args.searches.now
    c.requires.within none is

pub returns-in_err-rides-clause-ticks : goal.returns-in_err-rides-clause-ticks
returns-in_err-rides-clause-ticks g c = λ start is.
    let gains : gain c.args.depart c.args.asked.now.foot c.args.asked.now.rounds c.args.before ≡ Some c.in-Some.arrive = sym c.gain.ensures ∙ c.in-Some.is in
    gain_ticked c.args.compiled.now (sums_of c.args.asked.now) c.args.depart c.args.asked.now.rounds c.requires.answers c.args.before c.in-Some.arrive start
    c.args.searches.now c.args.searches.now c.requires.within gains (omega arith) is

pub returns-clause-found : goal.returns-clause-found
returns-clause-found g c =
    let gains : gain c.args.depart c.args.asked.now.foot c.args.asked.now.rounds c.args.before ≡ Some c.in-Some.arrive = sym c.gain.ensures ∙ c.in-Some.is in
    let is : IsGained c.args.compiled.now (sums_of c.args.asked.now) c.args.depart c.args.asked.now.rounds c.requires.answers c.args.before c.requires.within c.in-Some.arrive =
    gained c.args.compiled.now (sums_of c.args.asked.now) c.args.depart c.args.asked.now.rounds c.requires.answers c.args.before c.requires.within c.in-Some.arrive gains in
    let same : c.in-Some-2.rides ≡ is.at.rides =
    rides_known (answer_at c.args.asked.now.rounds (c.args.before + 1)) c.in_ok-rides.field-0 c.in-Some.arrive is.at.rides c.in-Some-2.rides is.at.answer_is
    c.in_ok-rides.ensures c.in-Some-2.is in
    let pair : Pair = record { arrive = c.in-Some.arrive; trips = c.args.before + 1 } in
    let attains : AttainsByRides c.args.compiled.now (sums_of c.args.asked.now) c.args.depart c.in-Some-2.rides pair =
    subst (λ (rs : List Ride). AttainsByRides c.args.compiled.now (sums_of c.args.asked.now) c.args.depart rs pair) (sym same) (is.at.listed, is.exactly) in
    on_ok_weaker c.add.result
    (λ adds.
    found_more c.args.compiled.now (sums_of c.args.asked.now) c.args.from c.args.depart c.args.to c.args.before c.args.found.now c.requires.found pair refl
    (gained_listed c.args.compiled.now (sums_of c.args.asked.now) c.args.depart c.args.asked.now.rounds c.requires.answers c.args.before c.requires.within c.in-Some.arrive is)
    (gained_only c.args.compiled.now (sums_of c.args.asked.now) c.args.depart c.args.asked.now.rounds c.requires.answers c.args.before c.requires.within c.in-Some.arrive is)
    c.in-Some-2.rides attains c.add.new.found adds)
    c.add.ensures.adds

pub returns-clause-ticks : goal.returns-clause-ticks
returns-clause-ticks g c = λ start so_far.
    let gains : gain c.args.depart c.args.asked.now.foot c.args.asked.now.rounds c.args.before ≡ Some c.in-Some.arrive = sym c.gain.ensures ∙ c.in-Some.is in
    let is : IsGained c.args.compiled.now (sums_of c.args.asked.now) c.args.depart c.args.asked.now.rounds c.requires.answers c.args.before c.requires.within c.in-Some.arrive =
    gained c.args.compiled.now (sums_of c.args.asked.now) c.args.depart c.args.asked.now.rounds c.requires.answers c.args.before c.requires.within c.in-Some.arrive gains in
    let same : c.in-Some-2.rides ≡ is.at.rides =
    rides_known (answer_at c.args.asked.now.rounds (c.args.before + 1)) c.in_ok-rides.field-0 c.in-Some.arrive is.at.rides c.in-Some-2.rides is.at.answer_is
    c.in_ok-rides.ensures c.in-Some-2.is in
    gain_ticked c.args.compiled.now (sums_of c.args.asked.now) c.args.depart c.args.asked.now.rounds c.requires.answers c.args.before c.in-Some.arrive start
    c.args.searches.now c.add.new.searches c.requires.within gains (omega (arith, c.add.ensures.ticks, ap length same, is.exactly)) so_far
