-- What a cause that was found says of the rules.
use Rattle.std.proofs.Common.{sym, ◌≡◌, ◌∙◌, ◌+◌, ◌<◌, ℕ, List, [], ◌∷◌, ◌++◌, map, Option, Some, None, refl, ap, below_more, ◌≤◌, arith, inl, inr}
use Rattle.std.proofs.lemmas.Bool.{cases_lt}
use Rattle.refusals.specs.Refusal.{FileAccepted, IsFileRefusal, HoldAt, IsFirstBroken, Accepted, IsFirstRefusal, or_then, first_cause}

behind : {X C : Type 0} (rule : X → Option C) (rules : List (X → Option C)) (x : X) (cause : C) → rule x ≡ None
    → IsFirstBroken rules x cause → IsFirstBroken (rule ∷ rules) x cause
behind rule rules x cause holds b =
    record { before = rule ∷ b.before; rule = b.rule; after = b.after; order = ap (λ rs. rule ∷ rs) b.order; hold = (holds, b.hold); broken = b.broken }

first-of : {X C : Type 0} (o : Option C) (rule : X → Option C) (rules : List (X → Option C)) (x : X) (cause : C) → rule x ≡ o
    → (first_cause rules x ≡ Some cause → IsFirstBroken rules x cause)
    → or_then o (first_cause rules x) ≡ Some cause → IsFirstBroken (rule ∷ rules) x cause
first-of None rule rules x cause is more e = behind rule rules x cause is (more e)
first-of (Some c) rule rules x cause is more e = record { before = []; rule = rule; after = rules; order = refl; hold = tt; broken = is ∙ e }

-- the first cause is that of the first rule that is broken
pub first_broken : {X C : Type 0} (rules : List (X → Option C)) (x : X) (cause : C) → first_cause rules x ≡ Some cause → IsFirstBroken rules x cause
first_broken [] x cause e = cc e
first_broken (rule ∷ rules) x cause e = first-of (rule x) rule rules x cause refl (first_broken rules x cause) e

each-of : {X C : Type 0} (o : Option C) (rule : X → Option C) (rules : List (X → Option C)) (x : X) → rule x ≡ o
    → (first_cause rules x ≡ None → HoldAt rules x)
    → or_then o (first_cause rules x) ≡ None → HoldAt (rule ∷ rules) x
each-of None rule rules x is more e = (is, more e)
each-of (Some c) rule rules x is more e = cc e

-- where there is no cause, each rule holds
pub each_holds : {X C : Type 0} (rules : List (X → Option C)) (x : X) → first_cause rules x ≡ None → HoldAt rules x
each_holds [] x e = tt
each_holds (rule ∷ rules) x e = each-of (rule x) rule rules x refl (each_holds rules x) e

-- a row that breaks a rule behind rows that break none
pub first_refusal : {X C : Type 0} (rules : List (X → Option C)) (at : ℕ → X) (n i row : ℕ) (x : X) (cause found : C)
    → i < n → Accepted rules at i → at i ≡ x → first_cause rules x ≡ Some found → row ≡ i + 1 → found ≡ cause
    → IsFirstRefusal rules at n row cause
first_refusal rules at n i row x cause found lt earlier here e number same =
    record { place = i; number = number; within = lt; earlier = earlier; broken = first_broken rules (at i) cause (rw (here, ← same) e) }

-- one more row that breaks none
pub accepted_more : {X C : Type 0} (rules : List (X → Option C)) (at : ℕ → X) (i : ℕ) (x : X)
    → Accepted rules at i → at i ≡ x → first_cause rules x ≡ None → Accepted rules at (i + 1)
accepted_more rules at i x earlier here e = below_more _ _ earlier (each_holds rules (at i) (rw here e))

-- a rule that holds with all the others
mid : {X C : Type 0} (before : List (X → Option C)) (rule : X → Option C) (after : List (X → Option C)) (x : X)
    → HoldAt (before ++ rule ∷ after) x → rule x ≡ None
mid [] rule after x h = h.0
mid (first ∷ before) rule after x h = mid before rule after x h.1

broken-not-held : {X C : Type 0} (rules : List (X → Option C)) (x : X) (cause : C) → HoldAt rules x → IsFirstBroken rules x cause → ⊥
broken-not-held rules x cause h b =
    let none = mid b.before b.rule b.after x (rw b.order at h) in
    let some = b.broken in
    cc

-- rows that are accepted are not refused
pub not_both : {X C : Type 0} (rules : List (X → Option C)) (at : ℕ → X) (n row : ℕ) (cause : C)
    → Accepted rules at n → IsFirstRefusal rules at n row cause → ⊥
not_both rules at n row cause a r = broken-not-held rules (at r.place) cause (a r.place r.within) r.broken

found : {X C : Type 0} (before : List (X → Option C)) (rule : X → Option C) (after : List (X → Option C)) (x : X) (cause : C)
    → HoldAt before x → rule x ≡ Some cause → first_cause (before ++ rule ∷ after) x ≡ Some cause
found [] rule after x cause h b = rw b refl
found (first ∷ before) rule after x cause h b = rw h.0 (found before rule after x cause h.1 b)

cause_of : {X C : Type 0} (rules : List (X → Option C)) (x : X) (cause : C) → IsFirstBroken rules x cause → first_cause rules x ≡ Some cause
cause_of rules x cause b = rw b.order (found b.before b.rule b.after x cause b.hold b.broken)

not-earlier : {X C : Type 0} (rules : List (X → Option C)) (at : ℕ → X) (n row other : ℕ) (cause another : C)
    → (r : IsFirstRefusal rules at n row cause) → (s : IsFirstRefusal rules at n other another) → r.place < s.place → ⊥
not-earlier rules at n row other cause another r s lt = broken-not-held rules (at r.place) cause (s.earlier r.place lt) r.broken

-- there is one first refusal
pub one_refusal : {X C : Type 0} (rules : List (X → Option C)) (at : ℕ → X) (n row other : ℕ) (cause another : C)
    → IsFirstRefusal rules at n row cause → IsFirstRefusal rules at n other another → (row ≡ other) × (cause ≡ another)
one_refusal rules at n row other cause another r s =
    let no_less : s.place ≤ r.place = elim (cases_lt r.place s.place) [ inl lt ↦ absurd (not-earlier rules at n row other cause another r s lt) | inr ge ↦ ge ] in
    let no_more : r.place ≤ s.place = elim (cases_lt s.place r.place) [ inl lt ↦ absurd (not-earlier rules at n other row another cause s r lt) | inr ge ↦ ge ] in
    let same : r.place ≡ s.place = omega arith in
    let a = cause_of rules (at r.place) cause r.broken in
    let b = cause_of rules (at s.place) another s.broken in
    let c = rw (← same) at b in
    (omega (arith, r.number, s.number, same), cc (a, c))

-- where each rule holds, there is no cause
pub no_cause : {X C : Type 0} (rules : List (X → Option C)) (x : X) → HoldAt rules x → first_cause rules x ≡ None
no_cause [] x h = refl
no_cause (rule ∷ rules) x h = rw h.0 (no_cause rules x h.1)

-- a file that is accepted is not refused
pub file_not_both : {F X C : Type 0} (whole : List (F → Option C)) (file : F) (rules : List (X → Option C)) (at : ℕ → X) (n row : ℕ) (cause : C)
    → FileAccepted whole file rules at n → IsFileRefusal whole file rules at n row cause → ⊥
file_not_both whole file rules at n row cause a (inl r) = broken-not-held whole file cause a.0 r.1
file_not_both whole file rules at n row cause a (inr r) = not_both rules at n row cause a.1 r.1

-- there is one first broken rule
pub one_broken : {X C : Type 0} (rules : List (X → Option C)) (x : X) (cause another : C)
    → IsFirstBroken rules x cause → IsFirstBroken rules x another → cause ≡ another
one_broken rules x cause another a b = let f = cause_of rules x cause a in let g = cause_of rules x another b in cc

-- there is one refusal of a file
pub one_file_refusal : {F X C : Type 0} (whole : List (F → Option C)) (file : F) (rules : List (X → Option C)) (at : ℕ → X) (n row other : ℕ) (cause another : C)
    → IsFileRefusal whole file rules at n row cause → IsFileRefusal whole file rules at n other another → (row ≡ other) × (cause ≡ another)
one_file_refusal whole file rules at n row other cause another (inl r) (inl s) = (r.0 ∙ sym s.0, one_broken whole file cause another r.1 s.1)
one_file_refusal whole file rules at n row other cause another (inl r) (inr s) = absurd (broken-not-held whole file cause s.0 r.1)
one_file_refusal whole file rules at n row other cause another (inr r) (inl s) = absurd (broken-not-held whole file another r.0 s.1)
one_file_refusal whole file rules at n row other cause another (inr r) (inr s) = one_refusal rules at n row other cause another r.1 s.1

or_then-assoc : {C : Type 0} (a b c : Option C) → or_then a (or_then b c) ≡ or_then (or_then a b) c
or_then-assoc None b c = refl
or_then-assoc (Some cause) b c = refl

-- a list of rules behind another
pub first_cause-append : {X C : Type 0} (before after : List (X → Option C)) (x : X) → first_cause (before ++ after) x ≡ or_then (first_cause before x) (first_cause after x)
first_cause-append [] after x = refl
first_cause-append (rule ∷ before) after x = rw (first_cause-append before after x) (or_then-assoc (rule x) (first_cause before x) (first_cause after x))

-- rules on a part of a place
pub first_cause-map : {X Y C : Type 0} (f : Y → X) (rules : List (X → Option C)) (y : Y) → first_cause (map (λ (rule : X → Option C) (z : Y). rule (f z)) rules) y ≡ first_cause rules (f y)
first_cause-map f [] y = refl
first_cause-map f (rule ∷ rules) y = ap (λ rest. or_then (rule (f y)) rest) (first_cause-map f rules y)

-- the refusal of a file by a rule on the whole of it, and by a rule on a row
pub refused_whole : {F X C : Type 0} (whole : List (F → Option C)) (file : F) (rules : List (X → Option C)) (at : ℕ → X) (n : ℕ) (cause : C)
    → first_cause whole file ≡ Some cause → IsFileRefusal whole file rules at n 0 cause
refused_whole whole file rules at n cause e = inl (refl, first_broken whole file cause e)

pub refused_row : {F X C : Type 0} (whole : List (F → Option C)) (file : F) (rules : List (X → Option C)) (at : ℕ → X) (n row : ℕ) (cause : C)
    → first_cause whole file ≡ None → IsFirstRefusal rules at n row cause → IsFileRefusal whole file rules at n row cause
refused_row whole file rules at n row cause e r = inr (each_holds whole file e, r)
