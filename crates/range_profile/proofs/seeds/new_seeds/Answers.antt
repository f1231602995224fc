use Rattle.std.proofs.Common.{◌+◌, [], ◌∷◌, length, ◌∙◌, ap, sym, subst, length-append}
use Rattle.range_profile.specs.Seeds.{AreWithin}
use Rattle.range_profile.proofs.SeedLemmas.{empty_more}
use Rattle.range_profile.proofs.seeds.new_seeds.Goals as goal

pub loop-k-preserved : goal.loop-k-preserved
loop-k-preserved c =
    let was = c.loop-k.invariant in
    record {
      many = ap length c.in_ok-push.ensures.items ∙ length-append c.loop-k.seeds.items (c.new.result ∷ []) ∙ ap (λ n. n + 1) was.many;
      none = subst (λ v. AreWithin 0 v) (sym c.in_ok-push.ensures.items) (empty_more c.loop-k.seeds.items c.new.result c.new.ensures.items was.none);
    }
