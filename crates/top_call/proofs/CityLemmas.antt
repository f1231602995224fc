-- The words of a city are no plan.
use Rattle.std.proofs.Common.{◌≡◌, ℕ, List, [], ◌∷◌, Option, Some, None, IfSome, IsNone, refl, inl, inr}
use Rattle.std.specs.declared.alloc.Global.{Global}
use Rattle.std.specs.declared.string.String.{String}
use Rattle.city_run.specs.declared.words.CityWords.{CityWords}
use Rattle.top_call.specs.declared.status.Status.{Status}
use Rattle.top_call.specs.Words.{plan_of, city_in}
use Rattle.top_call.specs.Status.{IsAnyInput, Sends, SendsCity, SendsAny}

none_some : (city : CityWords) → None ≡ Some city → ⊥
none_some city is = absurd (cc)

pub no_plan : (words : List (String Global)) (city : CityWords) → city_in words ≡ Some city → plan_of words ≡ None
unfolding plan_of city_in
no_plan [] city is = refl
no_plan (a ∷ []) city is = refl
no_plan (a ∷ b ∷ []) city is = refl
no_plan (a ∷ b ∷ c ∷ []) city is = refl
no_plan (a ∷ b ∷ c ∷ d ∷ []) city is = refl
no_plan (a ∷ b ∷ c ∷ d ∷ e ∷ []) city is = refl
no_plan (a ∷ b ∷ c ∷ d ∷ e ∷ f ∷ []) city is = refl
no_plan (a ∷ b ∷ c ∷ d ∷ e ∷ f ∷ g ∷ rest) city is = absurd (none_some city is)

-- nothing is said of what is not there
pub if_none : {T : Type 0} (o : Option T) (P : T → Type 0) → o ≡ None → IfSome o P
if_none o P is = rw is tt

-- a run sends what its words ask for
pub any_sent : (o : Option CityWords) (old new : List ℕ) (s : Status) → IfSome o (λ city. SendsCity city old new s) → (IsNone o → Sends IsAnyInput old new s) → SendsAny old new s
any_sent (Some city) old new s summed sent = inr (city, summed)
any_sent None old new s summed sent = inl (sent refl)
