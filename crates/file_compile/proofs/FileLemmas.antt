-- What a file that was compiled holds.
use Rattle.std.proofs.Common.{◌≡◌, ℕ, List, Option, Some, refl, inl, inr, subst, sym}
use Rattle.std.specs.Prelude.{IsSomeAnd}
use Rattle.move_model.specs.declared.network.Network.{Network}
use Rattle.network_file.specs.declared.compiled.Compiled.{Compiled}
use Rattle.network_file.specs.Compiled.{IsRight}
use Rattle.network_codec.specs.declared.version.Version.TheVariants as version
use Rattle.network_codec.specs.Form.{file}
use Rattle.network_codec.specs.Rules.{IsWritable}
use Rattle.network_codec.specs.Part.{HoldsPartOf}
use Rattle.file_compile.specs.Compiled.{IsCompiledFile, HoldsPartCompiled}

own : (n : Network) (value : Compiled) → value.network ≡ n → IsRight value → IsWritable version.Two value → IsCompiledFile n (file version.Two value)
own n value network right rules = record { value = value; network = network; right = right; written = record { bytes_are = refl; rules = rules } }

pub compiled : (n : Network) (value : Compiled) (now : Option (List ℕ)) → value.network ≡ n → IsRight value → IsWritable version.Two value
    → now ≡ Some (file version.Two value) → IsSomeAnd now (IsCompiledFile n)
compiled n value now network right rules e = subst (λ (x : Option (List ℕ)). IsSomeAnd x (IsCompiledFile n)) (sym e) (own n value network right rules)

pub part : (n : Network) (value : Compiled) (was now : Option (List ℕ)) → value.network ≡ n → IsRight value → IsWritable version.Two value
    → HoldsPartOf was (file version.Two value) now → HoldsPartCompiled n was now
part n value was now network right rules (inl same) = inl same
part n value was now network right rules (inr (k, e)) = inr (file version.Two value, k, (own n value network right rules, e))
