use Rattle.std.proofs.Common.{◌∙◌, ℕ, List, length, sym, subst}
use Rattle.bucket_walks.specs.Starts.{AreStarts, nodes_of}
use Rattle.bucket_walks.specs.Scan.{Lowers, IsOver}
use Rattle.bucket_walks.specs.Twins.{AreCopied, kept_of}
use Rattle.bucket_walks.specs.Index.{IsSlim, IsIndex}
use Rattle.bucket_walks.proofs.CopyLemmas.{lowers_copied}
use Rattle.bucket_walks.proofs.IndexLemmas.{rows_of, kept_stops, kept_small}
use Rattle.bucket_walks.proofs.index.Index.scan.Goals as goal

pub scan_slim-requires-clause-rows : goal.scan_slim-requires-clause-rows
scan_slim-requires-clause-rows c =
    let slim = c.in-Slim.slim in
    let list = c.args.list.now in
    let is : IsSlim list (length c.args.walks.now) slim = subst (IsIndex list (length c.args.walks.now)) c.in-Slim.is c.requires.index in
    let kept = kept_of slim.twins.items list in
    rows_of kept c.deref.result.now c.deref-in-Slim.result.now (c.deref.ensures.value ∙ is.entries)
    (subst (λ (starts : List ℕ). AreStarts starts (nodes_of kept)) (sym c.deref-in-Slim.ensures.value) is.first)

pub scan_slim-requires-clause-stops : goal.scan_slim-requires-clause-stops
scan_slim-requires-clause-stops c =
    let slim = c.in-Slim.slim in
    let list = c.args.list.now in
    let is : IsSlim list (length c.args.walks.now) slim = subst (IsIndex list (length c.args.walks.now)) c.in-Slim.is c.requires.index in
    kept_stops (length c.args.walks.now) slim.twins.items list c.deref.result.now (c.deref.ensures.value ∙ is.entries) c.requires.stops

pub copy_twins-requires-clause-small : goal.copy_twins-requires-clause-small
copy_twins-requires-clause-small c =
    let slim = c.in-Slim.slim in
    let list = c.args.list.now in
    let is : IsSlim list (length c.args.walks.now) slim = subst (IsIndex list (length c.args.walks.now)) c.in-Slim.is c.requires.index in
    let kept = kept_of slim.twins.items list in
    let lowers : Lowers c.args.walks.now c.scan_slim.new.walks (IsOver c.args.settled.now kept) =
    c.scan_slim.ensures.lowers kept (c.deref.ensures.value ∙ is.entries)
    (subst (λ (starts : List ℕ). AreStarts starts (nodes_of kept)) (sym c.deref-in-Slim.ensures.value) is.first) in
    kept_small c.args.walks.now c.scan_slim.new.walks c.requires.none c.args.settled.now slim.twins.items list c.requires.few c.requires.short lowers

pub returns-in-Slim : goal.returns-in-Slim
returns-in-Slim c =
    let slim = c.in-Slim.slim in
    let list = c.args.list.now in
    let is : IsSlim list (length c.args.walks.now) slim = subst (IsIndex list (length c.args.walks.now)) c.in-Slim.is c.requires.index in
    let kept = kept_of slim.twins.items list in
    let lowers : Lowers c.args.walks.now c.scan_slim.new.walks (IsOver c.args.settled.now kept) =
    c.scan_slim.ensures.lowers kept (c.deref.ensures.value ∙ is.entries)
    (subst (λ (starts : List ℕ). AreStarts starts (nodes_of kept)) (sym c.deref-in-Slim.ensures.value) is.first) in
    lowers_copied c.args.settled.now list slim.twins.items c.args.walks.now c.scan_slim.new.walks c.copy_twins.new.walks c.requires.none is.twins lowers
    (subst (λ (twins : List ℕ). AreCopied twins c.scan_slim.new.walks c.copy_twins.new.walks) c.deref-in-Slim-2.ensures.value c.copy_twins.ensures)
