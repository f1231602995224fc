use Rattle.std.proofs.Common.{[], List, ℕ, subst}
use Rattle.move_model.specs.declared.network.Network.{Network}
use Rattle.walk_hierarchy.specs.declared.arcs.UpDown.{UpDown}
use Rattle.network_bytes.specs.Bytes.{long_list}
use Rattle.network_bytes.specs.Forms.{up_down_form}
use Rattle.network_codec.specs.Rules.{graph_of, AreUp, AreDown}
use Rattle.network_codec.specs.File.{Begins}
use Rattle.network_sections.specs.Front.{IsInFront, HasNoneInFront}
use Rattle.network_decode.specs.Value.{streets_alone_of}
use Rattle.network_decode.proofs.BeginLemmas.{ranks_alone, up_alone, begins-ranks, begins-up, begins-down}
use Rattle.network_decode.proofs.BrokenLemmas.{stopped, broken-ranks, broken-up, broken-down}
use Rattle.network_decode.proofs.sections.hierarchy_in.Goals as goal

abbrev UpAt : List ℕ → List UpDown → List ℕ → List ℕ → Type 0
UpAt bytes up rest ranks = IsInFront (long_list up_down_form) (λ up. AreUp (record { ranks = ranks; up = up; down = [] })) bytes up rest

abbrev NoneUpAt : List ℕ → List ℕ → Type 0
NoneUpAt bytes ranks = HasNoneInFront (long_list up_down_form) (λ up. AreUp (record { ranks = ranks; up = up; down = [] })) bytes

abbrev DownAt : Network → List ℕ → List UpDown → List ℕ → List ℕ → List UpDown → Type 0
DownAt n bytes down rest ranks up = IsInFront (long_list up_down_form) (λ down. AreDown (graph_of n) (record { ranks = ranks; up = up; down = down })) bytes down rest

abbrev NoneDownAt : Network → List ℕ → List ℕ → List UpDown → Type 0
NoneDownAt n bytes ranks up = HasNoneInFront (long_list up_down_form) (λ down. AreDown (graph_of n) (record { ranks = ranks; up = up; down = down })) bytes

pub returns-in-Err-clause-broken : goal.returns-in-Err-clause-broken
returns-in-Err-clause-broken c = stopped 4 c.args.version c.args.body.now c.in-Err.stop c.stop_in.result c.stop_in.ensures
    (λ is. broken-ranks c.args.version c.in_ok-network.network c.args.body.now c.in_ok-network.rest.now c.in_ok-network.ensures.found (c.in-Err.ensures.broken (cc)))

pub returns-in-Err-arcs_up-clause-broken : goal.returns-in-Err-arcs_up-clause-broken
returns-in-Err-arcs_up-clause-broken c = stopped 5 c.args.version c.args.body.now c.in-Err-arcs_up.stop c.stop_in-in-Err-arcs_up.result c.stop_in-in-Err-arcs_up.ensures
    (λ is.
    let four : Begins 4 c.args.version (streets_alone_of c.in_ok-network.network (ranks_alone c.in-Ok.found.0)) c.args.body.now c.in-Ok.found.1.now =
    begins-ranks c.args.version c.in_ok-network.network c.in-Ok.found.0 c.args.body.now c.in_ok-network.rest.now c.in-Ok.found.1.now c.in_ok-network.ensures.found c.in-Ok.ensures.found in
    broken-up c.args.version c.in_ok-network.network c.in-Ok.found.0 c.args.body.now c.in-Ok.found.1.now four
    (subst (NoneUpAt c.in-Ok.found.1.now) c.as_slice.ensures (c.in-Err-arcs_up.ensures.broken (cc))))

pub returns-in-Err-arcs_down-clause-broken : goal.returns-in-Err-arcs_down-clause-broken
returns-in-Err-arcs_down-clause-broken c = stopped 6 c.args.version c.args.body.now c.in-Err-arcs_down.stop c.stop_in-in-Err-arcs_down.result c.stop_in-in-Err-arcs_down.ensures
    (λ is.
    let four : Begins 4 c.args.version (streets_alone_of c.in_ok-network.network (ranks_alone c.in-Ok.found.0)) c.args.body.now c.in-Ok.found.1.now =
    begins-ranks c.args.version c.in_ok-network.network c.in-Ok.found.0 c.args.body.now c.in_ok-network.rest.now c.in-Ok.found.1.now c.in_ok-network.ensures.found c.in-Ok.ensures.found in
    let five : Begins 5 c.args.version (streets_alone_of c.in_ok-network.network (up_alone c.in-Ok.found.0 c.in-Ok-arcs_up.found.0)) c.args.body.now c.in-Ok-arcs_up.found.1.now =
    begins-up c.args.version c.in_ok-network.network c.in-Ok.found.0 c.in-Ok-arcs_up.found.0 c.args.body.now c.in-Ok.found.1.now c.in-Ok-arcs_up.found.1.now four
    (subst (UpAt c.in-Ok.found.1.now c.in-Ok-arcs_up.found.0 c.in-Ok-arcs_up.found.1.now) c.as_slice.ensures c.in-Ok-arcs_up.ensures.found) in
    let none : NoneDownAt c.in_ok-network.network c.in-Ok-arcs_up.found.1.now c.as_slice-2.result.now c.as_slice-3.result.now = c.in-Err-arcs_down.ensures.broken (cc) in
    let by_ranks : NoneDownAt c.in_ok-network.network c.in-Ok-arcs_up.found.1.now c.in-Ok.found.0 c.as_slice-3.result.now =
    subst (λ (x : List ℕ). NoneDownAt c.in_ok-network.network c.in-Ok-arcs_up.found.1.now x c.as_slice-3.result.now) c.as_slice-2.ensures none in
    broken-down c.args.version c.in_ok-network.network c.in-Ok.found.0 c.in-Ok-arcs_up.found.0 c.args.body.now c.in-Ok-arcs_up.found.1.now five
    (subst (NoneDownAt c.in_ok-network.network c.in-Ok-arcs_up.found.1.now c.in-Ok.found.0) c.as_slice-3.ensures by_ranks))

pub returns-clause-found : goal.returns-clause-found
returns-clause-found c =
    let four : Begins 4 c.args.version (streets_alone_of c.in_ok-network.network (ranks_alone c.in-Ok.found.0)) c.args.body.now c.in-Ok.found.1.now =
    begins-ranks c.args.version c.in_ok-network.network c.in-Ok.found.0 c.args.body.now c.in_ok-network.rest.now c.in-Ok.found.1.now c.in_ok-network.ensures.found c.in-Ok.ensures.found in
    let five : Begins 5 c.args.version (streets_alone_of c.in_ok-network.network (up_alone c.in-Ok.found.0 c.in-Ok-arcs_up.found.0)) c.args.body.now c.in-Ok-arcs_up.found.1.now =
    begins-up c.args.version c.in_ok-network.network c.in-Ok.found.0 c.in-Ok-arcs_up.found.0 c.args.body.now c.in-Ok.found.1.now c.in-Ok-arcs_up.found.1.now four
    (subst (UpAt c.in-Ok.found.1.now c.in-Ok-arcs_up.found.0 c.in-Ok-arcs_up.found.1.now) c.as_slice.ensures c.in-Ok-arcs_up.ensures.found) in
    let by_ranks : DownAt c.in_ok-network.network c.in-Ok-arcs_up.found.1.now c.in-Ok-arcs_down.found.0 c.in-Ok-arcs_down.found.1.now c.in-Ok.found.0 c.as_slice-3.result.now =
    subst (λ (x : List ℕ). DownAt c.in_ok-network.network c.in-Ok-arcs_up.found.1.now c.in-Ok-arcs_down.found.0 c.in-Ok-arcs_down.found.1.now x c.as_slice-3.result.now) c.as_slice-2.ensures c.in-Ok-arcs_down.ensures.found in
    begins-down c.args.version c.in_ok-network.network c.in-Ok.found.0 c.in-Ok-arcs_up.found.0 c.in-Ok-arcs_down.found.0 c.args.body.now c.in-Ok-arcs_up.found.1.now c.in-Ok-arcs_down.found.1.now five
    (subst (DownAt c.in_ok-network.network c.in-Ok-arcs_up.found.1.now c.in-Ok-arcs_down.found.0 c.in-Ok-arcs_down.found.1.now c.in-Ok.found.0) c.as_slice-3.ensures by_ranks)
