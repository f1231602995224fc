use Rattle.std.proofs.Common.{◌≡◌, ◌+◌, ◌^◌, ◌<◌, ℕ, List, [], length, subst, inl, inr, ◌⊎◌, arith}
use Rattle.std.specs.Prelude.{◌≢◌}
use Rattle.std.proofs.lemmas.Result.{err_from_is_err_and}
use Rattle.network_codec.specs.declared.damage.Damage.TheVariants as damage
use Rattle.network_codec.specs.File.{IsFileOf, IsDamaged}
use Rattle.network_decode.specs.Stop.{OnDamage, IsBrokenIn}
use Rattle.network_decode.specs.Sections.{value_of}
use Rattle.network_decode.proofs.FileLemmas.{no_file, no_file_on, broken_file, more_behind, value_is, one_value, writable_two, no_bytes, some_bytes}
use Rattle.network_decode.proofs.reading.decode.Goals as goal
use Rattle.network_decode.proofs.reading.decode.Goals.{then-not-is_empty-via-then-not-is_empty, then-not-is_empty-via-else-not-is_empty+then-length-body}

pub returns-in-Err-clause-none : goal.returns-in-Err-clause-none
returns-in-Err-clause-none c = no_file c.args.bytes.now c.in-Err.damage (omega arith) c.in-Err.ensures.damaged

pub returns-in_err-sections-clause-damaged : goal.returns-in_err-sections-clause-damaged
returns-in_err-sections-clause-damaged c =
    let p = err_from_is_err_and c.from_residual.result c.from_residual.ensures.1 in
    let right = c.in-Ok.ensures.right in
    let damaged : OnDamage (IsDamaged c.args.bytes.now) c.in_err-sections.field-0.0 =
    broken_file c.in-Ok.found.0 c.args.bytes.now c.in_err-sections.field-0.0 right.0 right.1.0
    (subst (λ (x : List ℕ). IsBrokenIn c.in-Ok.found.0 x c.in_err-sections.field-0.0) right.1.1 c.in_err-sections.ensures.broken) in
    rw (p.1, p.2) damaged

pub returns-in_err-sections-clause-none : goal.returns-in_err-sections-clause-none
returns-in_err-sections-clause-none c =
    let p = err_from_is_err_and c.from_residual.result c.from_residual.ensures.1 in
    let right = c.in-Ok.ensures.right in
    let damaged : OnDamage (IsDamaged c.args.bytes.now) c.in_err-sections.field-0.0 =
    broken_file c.in-Ok.found.0 c.args.bytes.now c.in_err-sections.field-0.0 right.0 right.1.0
    (subst (λ (x : List ℕ). IsBrokenIn c.in-Ok.found.0 x c.in_err-sections.field-0.0) right.1.1 c.in_err-sections.ensures.broken) in
    let short : length c.args.bytes.now < 2 ^ 64 = omega arith in
    rw (p.1, p.2) (no_file_on c.args.bytes.now c.in_err-sections.field-0.0 short damaged)

pub returns-then-not-is_empty-clause-damaged : goal.returns-then-not-is_empty-clause-damaged
returns-then-not-is_empty-clause-damaged c =
    let right = c.in-Ok.ensures.right in
    let more : (c.in_ok-sections.rest.now ≢ []) ⊎ (52 + length c.in-Ok.found.1.now < length c.args.bytes.now) = elim c.then-not-is_empty.branch [
      | then-not-is_empty-via-then-not-is_empty w ↦ inl (some_bytes c.in_ok-sections.rest.now c.is_empty.result c.is_empty.ensures w.if-not-is_empty.true)
      | then-not-is_empty-via-else-not-is_empty+then-length-body w ↦ inr (omega (arith, w.if-length-body.true))
    ] in
    more_behind c.in-Ok.found.0 (value_of c.in_ok-sections.sections) c.args.bytes.now c.in-Ok.found.1.now c.in_ok-sections.rest.now right.0 right.1.0 right.1.1 c.in_ok-sections.ensures.found more

pub returns-then-not-is_empty-clause-none : goal.returns-then-not-is_empty-clause-none
returns-then-not-is_empty-clause-none c =
    let damaged : IsDamaged c.args.bytes.now (damage.Section 10) = returns-then-not-is_empty-clause-damaged c in
    no_file c.args.bytes.now (damage.Section 10) (omega arith) damaged

pub returns-in-Ok-compiled-clause-value : goal.returns-in-Ok-compiled-clause-value
returns-in-Ok-compiled-clause-value c =
    let right = c.in-Ok.ensures.right in
    let none : c.in_ok-sections.rest.now ≡ [] = no_bytes c.in_ok-sections.rest.now c.is_empty.result c.is_empty.ensures c.if-not-is_empty.false in
    value_is c.in-Ok.found.0 (value_of c.in_ok-sections.sections) c.in-Ok-compiled.compiled c.args.bytes.now c.in-Ok.found.1.now c.in_ok-sections.rest.now (λ i. (c.type_inv.bytes i).fits)
    right.0 right.1.0 right.1.1 c.in_ok-sections.ensures.found none (omega (arith, c.if-length-body.false)) c.in-Ok-compiled.ensures.same

pub returns-in-Ok-compiled-clause-only : goal.returns-in-Ok-compiled-clause-only
returns-in-Ok-compiled-clause-only c = λ other is.
    let own : IsFileOf c.in-Ok-compiled.compiled c.args.bytes.now = returns-in-Ok-compiled-clause-value c in
    let short : length c.args.bytes.now < 2 ^ 64 = omega arith in
    one_value c.args.bytes.now short c.in-Ok-compiled.compiled other own is

pub returns-in-Ok-compiled-clause-writable : goal.returns-in-Ok-compiled-clause-writable
returns-in-Ok-compiled-clause-writable c =
    let own : IsFileOf c.in-Ok-compiled.compiled c.args.bytes.now = returns-in-Ok-compiled-clause-value c in
    writable_two own.version c.in-Ok-compiled.compiled own.rules
