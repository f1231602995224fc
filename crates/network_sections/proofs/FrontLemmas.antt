-- From a reading of a form to the value in front that keeps the rules.
use Rattle.std.proofs.Common.{◌≡◌, ◌∙◌, ℕ, List, Option, Some, None, sym, ap, subst}
use Rattle.network_bytes.specs.declared.stop.ReadStop.{ReadStop}
use Rattle.network_bytes.specs.declared.stop.ReadStop.TheVariants as stop
use Rattle.network_bytes.specs.Front.{Fails}
use Rattle.network_bytes.proofs.Codec.{IsBytes, IsCodec, some_is}
use Rattle.network_sections.specs.Front.{IsInFront, HasNoneInFront}

nothing_at : {X : Type 0} (x : X × List ℕ) → None ≡ Some x → ⊥
nothing_at x e = cc

pub in_front : {X : Type 0} {form : X → List ℕ} {Fits : X → Type 0} {front : List ℕ → Option (X × List ℕ)} (Rules : X → Type 0) → IsCodec form Fits front → (bytes : List ℕ) (x : X) (rest : List ℕ)
    → IsBytes bytes → front bytes ≡ Some (x, rest) → Rules x → IsInFront form Rules bytes x rest
in_front Rules codec bytes x rest fits e rules = ((codec.takes bytes (x, rest) fits e).0.parts, rules)

-- what was read has a number of items that its bytes can tell
pub read_fits : {X : Type 0} {form : X → List ℕ} {Fits : X → Type 0} {front : List ℕ → Option (X × List ℕ)} → IsCodec form Fits front → (bytes : List ℕ) (x : X) (rest : List ℕ)
    → IsBytes bytes → front bytes ≡ Some (x, rest) → Fits x
read_fits codec bytes x rest fits e = (codec.takes bytes (x, rest) fits e).1

pub broken : {X : Type 0} {form : X → List ℕ} {Fits : X → Type 0} {front : List ℕ → Option (X × List ℕ)} (Rules : X → Type 0) → IsCodec form Fits front → ((y : X) → Rules y → Fits y) → (bytes : List ℕ) (x : X) (rest : List ℕ)
    → front bytes ≡ Some (x, rest) → (Rules x → ⊥) → HasNoneInFront form Rules bytes
broken {X} {form} {Fits} {front} Rules codec needs bytes x rest e not y after rules is =
    let again : front bytes ≡ Some (y, after) = ap front is ∙ codec.again y after (needs y rules) in
    let same : x ≡ y = ap (λ (p : X × List ℕ). p.0) (some_is (x, rest) (y, after) (sym e ∙ again)) in
    not (subst Rules (sym same) rules)

pub cut_off : {X : Type 0} {form : X → List ℕ} {Fits : X → Type 0} {front : List ℕ → Option (X × List ℕ)} (Rules : X → Type 0) → IsCodec form Fits front → ((y : X) → Rules y → Fits y) → (bytes : List ℕ) (e : ReadStop)
    → Fails e (front bytes) → e ≡ stop.Broken → HasNoneInFront form Rules bytes
cut_off Rules codec needs bytes stop.NoMemory failed is = absurd (cc)
cut_off {X} {form} {Fits} {front} Rules codec needs bytes stop.Broken failed is = λ y after rules parts.
    nothing_at (y, after) (sym failed ∙ (ap front parts ∙ codec.again y after (needs y rules)))
