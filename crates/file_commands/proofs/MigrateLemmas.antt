-- What a file that was rewritten holds.
use Rattle.std.proofs.Common.{◌≡◌, ◌∙◌, ℕ, List, take, Option, Some, None, inl, inr, ap, subst, sym}
use Rattle.std.specs.Prelude.{IsSomeAnd}
use Rattle.move_model.specs.declared.network.Network.{Network}
use Rattle.move_model.specs.declared.journey.Shortcut.{Shortcut}
use Rattle.walk_hierarchy.specs.Hierarchy.{Parts}
use Rattle.bucket_walks.specs.declared.bucket.Bucket.{Bucket}
use Rattle.network_file.specs.declared.compiled.Compiled.{Compiled}
use Rattle.network_codec.specs.declared.version.Version.TheVariants as version
use Rattle.network_codec.specs.Form.{file}
use Rattle.network_codec.specs.Part.{HoldsPartOf}
use Rattle.network_decode.specs.Value.{parts, HaveSameParts}
use Rattle.network_decode.proofs.FileLemmas.{writable_two}
use Rattle.file_commands.specs.Held.{IsOnlyFileOf, IsMigrated, HoldsMigrated, HoldsPartMigrated}

abbrev own_parts : Compiled → Compiled
own_parts c = parts c.network c.hierarchy c.buckets.to c.buckets.from c.shortcuts

same_own : (c d : Compiled) → HaveSameParts c d → own_parts c ≡ own_parts d
same_own c d same =
    ap (λ (n : Network). parts n c.hierarchy c.buckets.to c.buckets.from c.shortcuts) same.network
    ∙ (ap (λ (h : Parts). parts d.network h c.buckets.to c.buckets.from c.shortcuts) same.hierarchy
    ∙ (ap (λ (to : List Bucket). parts d.network d.hierarchy to c.buckets.from c.shortcuts) same.to
    ∙ (ap (λ (from : List Bucket). parts d.network d.hierarchy d.buckets.to from c.shortcuts) same.from
    ∙ ap (λ (list : List Shortcut). parts d.network d.hierarchy d.buckets.to d.buckets.from list) same.shortcuts)))

-- a file tells the parts alone
same_newest : (c d : Compiled) → HaveSameParts c d → file version.Two c ≡ file version.Two d
same_newest c d same = ap (file version.Two) (same_own c d same)

newest : (value : Compiled) (bytes : List ℕ) → IsOnlyFileOf value bytes → IsMigrated bytes (file version.Two value)
newest value bytes held = record {
  some = (value, held.own);
  each = λ other own. record { bytes_are = same_newest value other (held.only other own); rules = writable_two own.version other own.rules };
}

pub migrated : (value : Compiled) (old now : Option (List ℕ)) → IsSomeAnd old (IsOnlyFileOf value) → now ≡ Some (file version.Two value) → HoldsMigrated old now
migrated value None now held e = absurd held
migrated value (Some bytes) now held e = subst (λ (x : Option (List ℕ)). IsSomeAnd x (IsMigrated bytes)) (sym e) (newest value bytes held)

part_migrated : (value : Compiled) (old was now : Option (List ℕ)) (n : ℕ) → IsSomeAnd old (IsOnlyFileOf value) → now ≡ Some (take n (file version.Two value)) → HoldsPartMigrated old was now
part_migrated value None was now n held e = absurd held
part_migrated value (Some bytes) was now n held e = inr (file version.Two value, n, (newest value bytes held, e))

pub part : (value : Compiled) (old was now : Option (List ℕ)) → IsSomeAnd old (IsOnlyFileOf value) → HoldsPartOf was (file version.Two value) now → HoldsPartMigrated old was now
part value old was now held (inl same) = inl same
part value old was now held (inr (n, e)) = part_migrated value old was now n held e
