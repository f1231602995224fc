-- What is known at a level stays known while labels of levels below fall.
use Rattle.std.proofs.Common.{ℕ, zero, suc, inl, inr, List, [], ◌∷◌, ◌++◌, take, subst, arith}
use Rattle.std.specs.Prelude.{Contains}
use Rattle.pareto_laws.proofs.LeastArcs.{Contains-here, Contains-later, Contains-cons_cases}
use Rattle.route_split.specs.Route.{Route}
use Rattle.range_lanes.specs.declared.level.Level.{Level}
use Rattle.range_lanes.specs.Levels.{Served, BestWithin, Reached, Exploited, Falls}
use Rattle.range_lanes.proofs.Falling.{falls_same}

pub data AllFall : List Level → List Level → Type 0 where
  none : AllFall [] []
  more : {a b : Level} {xs ys : List Level} → Falls a b → AllFall xs ys → AllFall (a ∷ xs) (b ∷ ys)

pub all_fall_same : (xs : List Level) → AllFall xs xs
all_fall_same [] = none
all_fall_same (x ∷ xs) = more (falls_same x) (all_fall_same xs)

pub all_fall_split : (below : List Level) (a b : Level) (above : List Level) → Falls a b → AllFall (below ++ a ∷ above) (below ++ b ∷ above)
all_fall_split [] a b above f = more f (all_fall_same above)
all_fall_split (x ∷ below) a b above f = more (falls_same x) (all_fall_split below a b above f)

pub all_fall_take : {xs ys : List Level} → AllFall xs ys → (j : ℕ) → AllFall (take j xs) (take j ys)
all_fall_take none zero = none
all_fall_take none (suc j) = none
all_fall_take (more f fs) zero = none
all_fall_take (more f fs) (suc j) = more f (all_fall_take fs j)

pub record FellTo (ys : List Level) (l : Level) : Type 0 where
  pub level : Level
  pub has : Contains ys level
  pub falls : Falls l level

pub fell_to : {xs ys : List Level} → AllFall xs ys → (l : Level) → Contains xs l → FellTo ys l
fell_to none l has = absurd (omega (arith, has.1))
fell_to (more {a} {b} {xs} {ys} f fs) l has = elim (Contains-cons_cases a xs l has) [
  | inl e ↦ record { level = b; has = Contains-here b ys; falls = subst (λ v. Falls v b) e f }
  | inr later ↦
      let r : FellTo ys l = fell_to fs l later in
      record { level = r.level; has = Contains-later b ys r.level r.has; falls = r.falls }
]

pub served_all : (xs ys : List Level) (a b : Level) (y s : ℕ) → AllFall xs ys → Falls a b → Served xs a y s → Served ys b y s
served_all xs ys a b y s fs f (Served.here h) = Served.here (elim h [ inl left ↦ inl (omega (arith, f.left y, left)) | inr best ↦ inr (omega (arith, f.best, best)) ])
served_all xs ys a b y s fs f (Served.there l has h) =
    let r : FellTo ys l = fell_to fs l has in
    Served.there r.level r.has (elim h [ inl left ↦ inl (omega (arith, r.falls.left y, left)) | inr best ↦ inr (omega (arith, r.falls.best, best)) ])

best_all : (xs ys : List Level) (a b : Level) (s : ℕ) → AllFall xs ys → Falls a b → BestWithin xs a s → BestWithin ys b s
best_all xs ys a b s fs f (BestWithin.here h) = BestWithin.here (omega (arith, f.best, h))
best_all xs ys a b s fs f (BestWithin.there l has h) =
    let r : FellTo ys l = fell_to fs l has in
    BestWithin.there r.level r.has (omega (arith, r.falls.best, h))

pub reached_all : (xs ys : List Level) (a b : Level) (x s : ℕ) → AllFall xs ys → Falls a b → Reached xs a x s → Reached ys b x s
reached_all xs ys a b x s fs f (Reached.here h) = Reached.here (elim h [ inl ready ↦ inl (omega (arith, f.ready x, ready)) | inr best ↦ inr (omega (arith, f.best, best)) ])
reached_all xs ys a b x s fs f (Reached.there l has h) =
    let r : FellTo ys l = fell_to fs l has in
    Reached.there r.level r.has (elim h [ inl ready ↦ inl (omega (arith, r.falls.ready x, ready)) | inr best ↦ inr (omega (arith, r.falls.best, best)) ])

pub exploited_all : (xs ys : List Level) (a b : Level) (route : Route) (buffer i second : ℕ) → AllFall xs ys → Falls a b
    → Exploited xs a route buffer i second → Exploited ys b route buffer i second
exploited_all xs ys a b route buffer i second fs f was = record {
  each = λ on p at may lt in_time. elim (was.each on p at may lt in_time) [
    | inl best ↦ inl (best_all xs ys a b _ fs f best)
    | inr ridden ↦ inr (record { each = λ j off later at_j may_off. served_all xs ys a b off.stop.0 _ fs f (ridden.each j off later at_j may_off) })
  ];
}
