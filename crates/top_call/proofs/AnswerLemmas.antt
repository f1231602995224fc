-- The rows and the counts of a right value are those of its network.
use Rattle.std.proofs.Common.{ℕ, List, length, map, refl, sym, subst, inl, inr}
use Rattle.std.proofs.lemmas.List.{length-map}
use Rattle.move_model.specs.declared.network.Network.{Network}
use Rattle.move_model.specs.declared.query.Query.{Query}
use Rattle.route_split.specs.Route.{Route}
use Rattle.network_file.specs.declared.compiled.Compiled.{Compiled}
use Rattle.network_file.specs.Compiled.{IsRight}
use Rattle.answer_rows.specs.Answer.{Answer, IsAnswerOf}
use Rattle.answer_rows.specs.Counted.{CountsFirst, IsSearchedOver, IsSearchedFor, IsOpenedOver, IsOpenedFor}
use Rattle.answer_rows.specs.Printed.{PrintsAll, PrintsPart}
use Rattle.answer_rows.proofs.WeakerLaws.{PrintsAll-weaker, PrintsPart-weaker, CountsFirst-weaker}
use Rattle.top_call.specs.declared.status.Status.TheVariants as status
use Rattle.top_call.specs.Answered.{IsAnswerByShortcuts, SearchesFor, OpensFor}
use Rattle.top_call.specs.Status.{IsThisInput, SendsPart, Sends}

module _ (c : Compiled) (queries : List Query) (right : IsRight c) where
  by_shortcuts : (q : Query) (answer : Answer) → IsAnswerOf c q answer → IsAnswerByShortcuts c.network q answer
  by_shortcuts q answer is = record { exact = is.exact right; list = c.shortcuts; shortcuts = right.shortcuts; transfers = is.transfers }

  part : (old new : List ℕ) → PrintsPart c.network (IsAnswerOf c) queries old new → SendsPart (IsThisInput c.network queries) old new
  part old new is = (c.network, queries, (refl, refl), PrintsPart-weaker c.network (IsAnswerOf c) (IsAnswerByShortcuts c.network) by_shortcuts queries old new is)

  pub sends_done : (old new : List ℕ) → PrintsAll c.network (IsAnswerOf c) queries old new → Sends (IsThisInput c.network queries) old new status.Done
  unfolding Sends
  sends_done old new is = (c.network, queries, (refl, refl), PrintsAll-weaker c.network (IsAnswerOf c) (IsAnswerByShortcuts c.network) by_shortcuts queries old new is)

  pub sends_faulty : (old new : List ℕ) → PrintsPart c.network (IsAnswerOf c) queries old new → Sends (IsThisInput c.network queries) old new status.WriteFault
  unfolding Sends
  sends_faulty old new is = part old new is

  pub sends_wanting : (old new : List ℕ) → PrintsPart c.network (IsAnswerOf c) queries old new → Sends (IsThisInput c.network queries) old new status.NoMemory
  unfolding Sends
  sends_wanting old new is = inr (part old new is)

  pub searches_this : (before after : ℕ) → CountsFirst (IsSearchedFor c) queries before after → SearchesFor (IsThisInput c.network queries) before after
  searches_this before after is = inr (
    c.network,
    queries,
    (refl, refl),
    CountsFirst-weaker (IsSearchedFor c) (IsSearchedOver c.network) (λ q b a one. one.exact right) queries before after is,
  )

  pub opens_this : (before after : ℕ) → CountsFirst (IsOpenedFor c) queries before after → OpensFor (IsThisInput c.network queries) before after
  opens_this before after is =
      let exact : CountsFirst (IsOpenedOver c.network (length c.table.routes)) queries before after =
      CountsFirst-weaker (IsOpenedFor c) (IsOpenedOver c.network (length c.table.routes)) (λ q b a one. one.exact right) queries before after is in
      inr (
        c.network,
        queries,
        (refl, refl),
        map (λ (route : Route). route.trips) c.table.routes,
        right.fits.table.routes,
        subst (λ (routes : ℕ). CountsFirst (IsOpenedOver c.network routes) queries before after) (sym (length-map c.table.routes (λ (route : Route). route.trips))) exact,
      )

-- what is searched for some networks and queries is searched for more
pub SearchesFor-weaker : (P Q : Network → List Query → Type 0) (before after : ℕ) → ((n : Network) (queries : List Query) → P n queries → Q n queries)
    → SearchesFor P before after → SearchesFor Q before after
SearchesFor-weaker P Q before after f (inl same) = inl same
SearchesFor-weaker P Q before after f (inr h) = inr (h.0, h.1, f h.0 h.1 h.2, h.3)

pub OpensFor-weaker : (P Q : Network → List Query → Type 0) (before after : ℕ) → ((n : Network) (queries : List Query) → P n queries → Q n queries)
    → OpensFor P before after → OpensFor Q before after
OpensFor-weaker P Q before after f (inl same) = inl same
OpensFor-weaker P Q before after f (inr h) = inr (h.0, h.1, f h.0 h.1 h.2, h.3, h.4, h.5)
