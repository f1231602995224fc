-- Whole files: what stands where, and why a damaged file is no value's.
--     IsLaidOut v c bytes        what the places of a file of c hold
use Rattle.std.proofs.Common.{◌≡◌, ◌≢◌, ◌∙◌, ℕ, zero, suc, ◌+◌, ◌-◌, ◌^◌, ◌<◌, ◌≤◌, List, [], ◌∷◌, ◌++◌, length, take, drop, get_or, append_assoc, refl, sym, ap, subst, inl, inr, ◌⊎◌, arith}
use Rattle.std.specs.Prelude.{◌==◌, Bool, true, false}
use Rattle.std.specs.Int.{w64, from_be_bytes}
use Rattle.std.proofs.lemmas.Bool.{cases_lt}
use Rattle.std.proofs.lemmas.Bool.Decides.{nat_tests}
use Rattle.std.proofs.lemmas.List.{take_at, drop_at, take_all, drop-drop, take-append-drop, length-append, length-take, length-drop, append-nil}
use Rattle.std.proofs.lemmas.Nat.{be_bytes_8, from_be_bytes-to_be_bytes_8}
use Rattle.sha2.specs.Sha256.{sha256}
use Rattle.sha2.proofs.Facts256.{length-sha256}
use Rattle.move_model.specs.declared.network.Network.{Network}
use Rattle.move_model.specs.declared.network.Stop.{Stop}
use Rattle.move_model.specs.declared.network.Trip.{Trip}
use Rattle.walk_hierarchy.specs.declared.arcs.UpDown.{UpDown}
use Rattle.walk_hierarchy.specs.Hierarchy.{Parts}
use Rattle.move_model.specs.declared.journey.Shortcut.{Shortcut}
use Rattle.bucket_walks.specs.declared.bucket.Bucket.{Bucket}
use Rattle.network_file.specs.declared.compiled.Compiled.{Compiled}
use Rattle.network_bytes.specs.Bytes.{word, long}
use Rattle.network_bytes.proofs.Codec.{IsBytes, IsBytes-take, IsBytes-drop}
use Rattle.network_codec.specs.declared.version.Version.{Version}
use Rattle.network_codec.specs.declared.version.Version.TheVariants as version
use Rattle.network_codec.specs.declared.damage.Damage.{Damage}
use Rattle.network_codec.specs.declared.damage.Damage.TheVariants as damage
use Rattle.network_codec.specs.Form.{mark, number_of, body, file, sections}
use Rattle.network_codec.specs.Rules.{streets_alone, IsWritable}
use Rattle.network_codec.specs.File.{IsFileOf, told, body_of, IsCutOff, IsHeaded, HasDigest, Begins, IsBroken, IsDamaged}
use Rattle.network_codec.specs.declared.damage.DecodeStop.{DecodeStop}
use Rattle.network_codec.specs.declared.damage.DecodeStop.TheVariants as stop
use Rattle.network_decode.specs.Stop.{OnDamage, IsBrokenIn}
use Rattle.network_decode.specs.Value.{parts, HaveSameParts}
use Rattle.network_decode.proofs.ChainLemmas.{shorter}
use Rattle.network_decode.proofs.AgreeLemmas.{Agree, agree}

record IsLaidOut (v : Version) (c : Compiled) (bytes : List ℕ) : Type 0 where
  marked : take 8 bytes ≡ mark
  version_is : take 4 (drop 8 bytes) ≡ word (number_of v)
  length_is : told bytes ≡ length (body v c)
  digest : take 32 (drop 20 bytes) ≡ sha256 (body v c)
  body_is : drop 52 bytes ≡ body v c
  all : length bytes ≡ 52 + length (body v c)

length-word : (n : ℕ) → length (word n) ≡ 4
unfolding word
length-word n = refl

length-long : (n : ℕ) → length (long n) ≡ 8
unfolding long
length-long n = refl

long_again : (n : ℕ) → n < 2 ^ 64 → from_be_bytes w64 (long n) ≡ n
unfolding long
long_again n lt = from_be_bytes-to_be_bytes_8 n lt

long_is : (bytes : List ℕ) → length bytes ≡ 8 → IsBytes bytes → long (from_be_bytes w64 bytes) ≡ bytes
unfolding long
long_is bytes len fits = be_bytes_8 bytes (from_be_bytes w64 bytes) len fits refl

-- ---- from a value to its file

regrouped : (m w l s b : List ℕ) → (m ++ (w ++ (l ++ s))) ++ b ≡ m ++ (w ++ (l ++ (s ++ b)))
regrouped m w l s b = simp append_assoc

laid : (m w l s b bytes : List ℕ) → length m ≡ 8 → length w ≡ 4 → length l ≡ 8 → length s ≡ 32 → bytes ≡ m ++ (w ++ (l ++ (s ++ b)))
    → (take 8 bytes ≡ m) × (take 4 (drop 8 bytes) ≡ w) × (take 8 (drop 12 bytes) ≡ l) × (take 32 (drop 20 bytes) ≡ s) × (drop 52 bytes ≡ b) × (length bytes ≡ 52 + length b)
laid m w l s b bytes lm lw ll ls e =
    let at8 : drop 8 bytes ≡ w ++ (l ++ (s ++ b)) = ap (drop 8) e ∙ drop_at m (w ++ (l ++ (s ++ b))) 8 lm in
    let at12 : drop 12 bytes ≡ l ++ (s ++ b) = sym (drop-drop 4 8 bytes) ∙ (ap (drop 4) at8 ∙ drop_at w (l ++ (s ++ b)) 4 lw) in
    let at20 : drop 20 bytes ≡ s ++ b = sym (drop-drop 8 12 bytes) ∙ (ap (drop 8) at12 ∙ drop_at l (s ++ b) 8 ll) in
    let at52 : drop 52 bytes ≡ b = sym (drop-drop 32 20 bytes) ∙ (ap (drop 32) at20 ∙ drop_at s b 32 ls) in
    let all : length bytes ≡ length m + (length w + (length l + (length s + length b))) =
    ap length e ∙ (length-append m (w ++ (l ++ (s ++ b))) ∙ ap (λ (n : ℕ). length m + n)
    (length-append w (l ++ (s ++ b)) ∙ ap (λ (n : ℕ). length w + n) (length-append l (s ++ b) ∙ ap (λ (n : ℕ). length l + n) (length-append s b)))) in (
      ap (take 8) e ∙ take_at m (w ++ (l ++ (s ++ b))) 8 lm,
      ap (take 4) at8 ∙ take_at w (l ++ (s ++ b)) 4 lw,
      ap (take 8) at12 ∙ take_at l (s ++ b) 8 ll,
      ap (take 32) at20 ∙ take_at s b 32 ls,
      at52,
      omega (arith, all, lm, lw, ll, ls),
    )

laid_out : (v : Version) (c : Compiled) (bytes : List ℕ) → length bytes < 2 ^ 64 → bytes ≡ file v c → IsLaidOut v c bytes
laid_out v c bytes short e =
    let b : List ℕ = body v c in
    let h = laid mark (word (number_of v)) (long (length b)) (sha256 b) b bytes refl (length-word (number_of v)) (length-long (length b)) (length-sha256 b)
    (e ∙ regrouped mark (word (number_of v)) (long (length b)) (sha256 b) b) in
    record {
      marked = h.0;
      version_is = h.1;
      length_is = ap (from_be_bytes w64) h.2 ∙ long_again (length b) (omega (arith, h.5));
      digest = h.3;
      body_is = h.4;
      all = h.5;
    }

body_is : (v : Version) (c : Compiled) (bytes : List ℕ) → IsLaidOut v c bytes → body_of bytes ≡ body v c
body_is v c bytes h = ap (take (told bytes)) h.body_is ∙ take_all (told bytes) (body v c) (omega (arith, h.length_is))

begins_all : (v : Version) (c : Compiled) (bytes : List ℕ) → IsLaidOut v c bytes → IsWritable v c → Begins 9 v c (body_of bytes) []
begins_all v c bytes h rules = record { parts = body_is v c bytes h ∙ sym (append-nil (body v c)); rules = rules }

-- ---- from a file to its value

split : (n m : ℕ) (bytes : List ℕ) → drop n bytes ≡ take m (drop n bytes) ++ drop (n + m) bytes
split n m bytes = sym (take-append-drop m (drop n bytes)) ∙ ap (λ (t : List ℕ). take m (drop n bytes) ++ t) (drop-drop m n bytes)

pub file_is : (v : Version) (c : Compiled) (bytes : List ℕ) → IsBytes bytes → IsHeaded v bytes → HasDigest bytes → length bytes ≤ 52 + told bytes → Begins 9 v c (body_of bytes) [] → IsFileOf c bytes
file_is v c bytes fits headed digest end begins =
    let b : List ℕ = body_of bytes in
    let long_enough : 52 ≤ length bytes = at_least bytes headed.marked.whole in
    let whole : length bytes ≡ 52 + told bytes = exactly bytes headed.marked.whole end in
    let rest_is : drop 52 bytes ≡ b = sym (take_all (told bytes) (drop 52 bytes) (omega (arith, length-drop 52 bytes))) in
    let many : length b ≡ told bytes = ap length (sym rest_is) ∙ (length-drop 52 bytes ∙ (let e : length bytes - 52 ≡ told bytes = omega arith in e)) in
    let length_is : take 8 (drop 12 bytes) ≡ long (length b) =
    sym (long_is (take 8 (drop 12 bytes)) (eight bytes long_enough) (IsBytes-take 8 (drop 12 bytes) (IsBytes-drop 12 bytes fits))) ∙ ap long (sym many) in
    let from52 : drop 20 bytes ≡ sha256 b ++ b = split 20 32 bytes ∙ (ap (λ (t : List ℕ). t ++ drop 52 bytes) digest ∙ ap (λ (t : List ℕ). sha256 b ++ t) rest_is) in
    let from12 : drop 12 bytes ≡ long (length b) ++ (sha256 b ++ b) = split 12 8 bytes ∙ (ap (λ (t : List ℕ). t ++ drop 20 bytes) length_is ∙ ap (λ (t : List ℕ). long (length b) ++ t) from52) in
    let from8 : drop 8 bytes ≡ word (number_of v) ++ (long (length b) ++ (sha256 b ++ b)) =
    split 8 4 bytes ∙ (ap (λ (t : List ℕ). t ++ drop 12 bytes) headed.version_is ∙ ap (λ (t : List ℕ). word (number_of v) ++ t) from12) in
    let from0 : bytes ≡ mark ++ (word (number_of v) ++ (long (length b) ++ (sha256 b ++ b))) =
    sym (take-append-drop 8 bytes) ∙ (ap (λ (t : List ℕ). t ++ drop 8 bytes) headed.marked.marked ∙ ap (λ (t : List ℕ). mark ++ t) from8) in
    let b_is : b ≡ body v c = begins.parts ∙ append-nil (body v c) in
    record {
      version = v;
      bytes_are =
          from0 ∙ (sym (regrouped mark (word (number_of v)) (long (length b)) (sha256 b) b)
          ∙ ap (λ (t : List ℕ). (mark ++ (word (number_of v) ++ (long (length t) ++ sha256 t))) ++ t) b_is);
      rules = begins.rules;
    }
  where
    at_least : (bytes : List ℕ) → ¬ (IsCutOff bytes) → 52 ≤ length bytes
    at_least bytes not = elim (cases_lt (length bytes) 52) [
      | inl lt ↦ absurd (not (inl lt))
      | inr ge ↦ ge
    ]

    exactly : (bytes : List ℕ) → ¬ (IsCutOff bytes) → length bytes ≤ 52 + told bytes → length bytes ≡ 52 + told bytes
    exactly bytes not le = elim (cases_lt (length bytes) (52 + told bytes)) [
      | inl lt ↦ absurd (not (inr lt))
      | inr ge ↦ omega arith
    ]

    eight : (bytes : List ℕ) → 52 ≤ length bytes → length (take 8 (drop 12 bytes)) ≡ 8
    eight bytes le = omega (arith, length-take 8 (drop 12 bytes), length-drop 12 bytes)

-- ---- one version

word_one : word 1 ≡ word 2 → ⊥
unfolding word
word_one e = cc

same_version : (v w : Version) → word (number_of v) ≡ word (number_of w) → v ≡ w
same_version version.One version.One e = refl
same_version version.One version.Two e = absurd (word_one e)
same_version version.Two version.One e = absurd (word_one (sym e))
same_version version.Two version.Two e = refl

-- ---- damage

-- a value whose first sections stand in front has fewer of them in front too
fewer : (m n k : ℕ) (v : Version) (c : Compiled) (bytes rest : List ℕ) → n + m ≡ k → k ≤ 9 → Begins k v c bytes rest → (after : List ℕ) × Begins n v c bytes after
fewer zero n k v c bytes rest e le h = (rest, subst (λ (j : ℕ). Begins j v c bytes rest) (let f : k ≡ n = omega arith in f) h)
fewer (suc m) n k v c bytes rest e le h =
    let one_less : Begins (suc (n + m)) v c bytes rest = subst (λ (j : ℕ). Begins j v c bytes rest) (let f : k ≡ suc (n + m) = omega arith in f) h in
    fewer m n (n + m) v c bytes (get_or (sections v c) (n + m) [] ++ rest) refl (omega arith) (shorter (n + m) v c bytes rest (omega arith) one_less)

not_broken : (n : ℕ) (v : Version) (c : Compiled) (bytes : List ℕ) → IsLaidOut v c bytes → IsWritable v c → IsBroken n v bytes → ⊥
not_broken n v c bytes h rules (inl broken) =
    let found = fewer (9 - n) n 9 v c (body_of bytes) [] (omega (arith, broken.numbered.1)) (omega arith) (begins_all v c bytes h rules) in
    broken.none c found.0 found.1
not_broken n v c bytes h rules (inr (ten, more)) =
    let same = agree 9 v more.c c (body_of bytes) more.rest [] (omega arith) more.before (begins_all v c bytes h rules) in
    left more.more same.1
  where
    left : (more.rest ≢ []) ⊎ (52 + told bytes < length bytes) → more.rest ≡ [] → ⊥
    left (inl some) none = some none
    left (inr over) none = omega (arith, h.all, h.length_is)

not_cut_off : (v : Version) (c : Compiled) (bytes : List ℕ) → IsLaidOut v c bytes → IsCutOff bytes → ⊥
not_cut_off v c bytes h (inl lt) = omega (arith, h.all)
not_cut_off v c bytes h (inr lt) = omega (arith, h.all, h.length_is)

undamaged : (bytes : List ℕ) (d : Damage) (v : Version) (c : Compiled) → IsLaidOut v c bytes → IsWritable v c → IsDamaged bytes d → ⊥
undamaged bytes damage.TooShort v c h rules cut = not_cut_off v c bytes h cut
undamaged bytes damage.Magic v c h rules (whole, other) = other h.marked
undamaged bytes damage.Version v c h rules (marked, none) = none v h.version_is
undamaged bytes damage.Digest v c h rules (w, (headed, other)) = other (h.digest ∙ ap sha256 (sym (body_is v c bytes h)))
undamaged bytes (damage.Section n) v c h rules (w, (headed, (digest, broken))) =
    not_broken n v c bytes h rules (subst (λ (x : Version). IsBroken n x bytes) (same_version w v (sym headed.version_is ∙ h.version_is)) broken)

pub no_file : (bytes : List ℕ) (d : Damage) → length bytes < 2 ^ 64 → IsDamaged bytes d → (c : Compiled) → IsFileOf c bytes → ⊥
no_file bytes d short damaged c is = undamaged bytes d is.version c (laid_out is.version c bytes short is.bytes_are) is.rules damaged

-- ---- one value

abbrev network_of : Network → List Stop → List Trip → Network
network_of n stops trips = record { nodes = n.nodes; arcs = n.arcs; stops = stops; trips = trips; buffer = n.buffer }

same_network : (n m : Network) → streets_alone n ≡ streets_alone m → n.stops ≡ m.stops → n.trips ≡ m.trips → n ≡ m
same_network n m streets stops trips =
    let by_streets : n ≡ network_of m n.stops n.trips = ap (λ (x : Network). network_of x n.stops n.trips) streets in
    let by_stops : network_of m n.stops n.trips ≡ network_of m m.stops n.trips = ap (λ (x : List Stop). network_of m x n.trips) stops in
    let by_trips : network_of m m.stops n.trips ≡ m = ap (λ (x : List Trip). network_of m m.stops x) trips in
    by_streets ∙ (by_stops ∙ by_trips)

abbrev parts_of : List ℕ → List UpDown → List UpDown → Parts
parts_of ranks up down = record { ranks = ranks; up = up; down = down }

same_hierarchy : (h k : Parts) → h.ranks ≡ k.ranks → h.up ≡ k.up → h.down ≡ k.down → h ≡ k
same_hierarchy h k ranks up down =
    let by_ranks : h ≡ parts_of k.ranks h.up h.down = ap (λ (x : List ℕ). parts_of x h.up h.down) ranks in
    let by_up : parts_of k.ranks h.up h.down ≡ parts_of k.ranks k.up h.down = ap (λ (x : List UpDown). parts_of k.ranks x h.down) up in
    let by_down : parts_of k.ranks k.up h.down ≡ k = ap (λ (x : List UpDown). parts_of k.ranks k.up x) down in
    by_ranks ∙ (by_up ∙ by_down)

same_parts : (c d : Compiled) → Agree 9 c d → HaveSameParts c d
same_parts c d same = record {
  network = same_network c.network d.network (same 1 (omega arith) (omega arith)) (same 2 (omega arith) (omega arith)) (same 3 (omega arith) (omega arith));
  hierarchy = same_hierarchy c.hierarchy d.hierarchy (same 4 (omega arith) (omega arith)) (same 5 (omega arith) (omega arith)) (same 6 (omega arith) (omega arith));
  to = same 7 (omega arith) (omega arith);
  from = same 8 (omega arith) (omega arith);
  shortcuts = same 9 (omega arith) (omega arith);
}

pub one_value : (bytes : List ℕ) → length bytes < 2 ^ 64 → (c d : Compiled) → IsFileOf c bytes → IsFileOf d bytes → HaveSameParts c d
one_value bytes short c d p q =
    let pc = laid_out p.version c bytes short p.bytes_are in
    let qd = laid_out q.version d bytes short q.bytes_are in
    let one : p.version ≡ q.version = same_version p.version q.version (sym pc.version_is ∙ qd.version_is) in
    let p_begins : Begins 9 q.version c (body_of bytes) [] = subst (λ (x : Version). Begins 9 x c (body_of bytes) []) one (begins_all p.version c bytes pc p.rules) in
    same_parts c d (agree 9 q.version c d (body_of bytes) [] [] (omega arith) p_begins (begins_all q.version d bytes qd q.rules)).0

-- ---- answers

pub broken_file : (v : Version) (bytes : List ℕ) (e : DecodeStop) → IsHeaded v bytes → HasDigest bytes → IsBrokenIn v (body_of bytes) e → OnDamage (IsDamaged bytes) e
broken_file v bytes (stop.Damaged damage.TooShort) headed digest broken = absurd broken
broken_file v bytes (stop.Damaged damage.Magic) headed digest broken = absurd broken
broken_file v bytes (stop.Damaged damage.Version) headed digest broken = absurd broken
broken_file v bytes (stop.Damaged damage.Digest) headed digest broken = absurd broken
broken_file v bytes (stop.Damaged (damage.Section n)) headed digest broken = (v, (headed, (digest, inl broken)))
broken_file v bytes stop.NoMemory headed digest broken = tt

pub no_file_on : (bytes : List ℕ) (e : DecodeStop) → length bytes < 2 ^ 64 → OnDamage (IsDamaged bytes) e → OnDamage (λ _. (c : Compiled) → ¬ (IsFileOf c bytes)) e
no_file_on bytes (stop.Damaged d) short damaged = no_file bytes d short damaged
no_file_on bytes stop.NoMemory short damaged = tt

body_length : (bytes : List ℕ) → ¬ (IsCutOff bytes) → length (body_of bytes) ≡ told bytes
body_length bytes not =
    let over : ¬ (length bytes < 52 + told bytes) = λ lt. not (inr lt) in
    omega (arith, length-take (told bytes) (drop 52 bytes), length-drop 52 bytes)

pub more_behind : (v : Version) (s : Compiled) (bytes body rest : List ℕ) → IsHeaded v bytes → HasDigest bytes → body ≡ body_of bytes → Begins 9 v s body rest → (rest ≢ []) ⊎ (52 + length body < length bytes)
    → IsDamaged bytes (damage.Section 10)
more_behind v s bytes body rest headed digest body_is begins more =
    (v, (headed, (digest, inr (refl, record { c = s; rest = rest; before = subst (λ (x : List ℕ). Begins 9 v s x rest) body_is begins; more = behind more }))))
  where
    behind : (rest ≢ []) ⊎ (52 + length body < length bytes) → (rest ≢ []) ⊎ (52 + told bytes < length bytes)
    behind (inl some) = inl some
    behind (inr over) = inr (omega (arith, over, ap length body_is, body_length bytes headed.marked.whole))

-- ---- a value with the same parts has the same file

abbrev own_parts : Compiled → Compiled
own_parts c = parts c.network c.hierarchy c.buckets.to c.buckets.from c.shortcuts

keeps_parts : (v : Version) (c : Compiled) → IsWritable v c → IsWritable v (own_parts c)
keeps_parts v c h = record {
  streets = h.streets;
  stops = h.stops;
  trips = h.trips;
  ranks = h.ranks;
  up = h.up;
  down = h.down;
  to = h.to;
  from = h.from;
  shortcuts = h.shortcuts;
}

parts_keep : (v : Version) (c : Compiled) → IsWritable v (own_parts c) → IsWritable v c
parts_keep v c h = record {
  streets = h.streets;
  stops = h.stops;
  trips = h.trips;
  ranks = h.ranks;
  up = h.up;
  down = h.down;
  to = h.to;
  from = h.from;
  shortcuts = h.shortcuts;
}

same_own : (c d : Compiled) → HaveSameParts c d → own_parts c ≡ own_parts d
same_own c d same =
    ap (λ (n : Network). parts n c.hierarchy c.buckets.to c.buckets.from c.shortcuts) same.network
    ∙ (ap (λ (h : Parts). parts d.network h c.buckets.to c.buckets.from c.shortcuts) same.hierarchy
    ∙ (ap (λ (to : List Bucket). parts d.network d.hierarchy to c.buckets.from c.shortcuts) same.to
    ∙ (ap (λ (from : List Bucket). parts d.network d.hierarchy d.buckets.to from c.shortcuts) same.from
    ∙ ap (λ (list : List Shortcut). parts d.network d.hierarchy d.buckets.to d.buckets.from list) same.shortcuts)))

same_file : (v : Version) (c d : Compiled) (bytes : List ℕ) → HaveSameParts c d → Begins 9 v c bytes [] → Begins 9 v d bytes []
same_file v c d bytes same begins =
    let own : Begins 9 v (own_parts c) bytes [] = record { parts = begins.parts; rules = keeps_parts v c begins.rules } in
    let other : Begins 9 v (own_parts d) bytes [] = subst (λ (x : Compiled). Begins 9 v x bytes []) (same_own c d same) own in
    record { parts = other.parts; rules = parts_keep v d other.rules }

pub value_is : (v : Version) (s c : Compiled) (bytes body rest : List ℕ) → IsBytes bytes → IsHeaded v bytes → HasDigest bytes → body ≡ body_of bytes → Begins 9 v s body rest → rest ≡ [] → length bytes ≤ 52 + length body
    → HaveSameParts s c → IsFileOf c bytes
value_is v s c bytes body rest fits headed digest body_is begins none end same =
    let whole : Begins 9 v s (body_of bytes) [] = subst (λ (x : List ℕ). Begins 9 v s x []) body_is (subst (λ (x : List ℕ). Begins 9 v s body x) none begins) in
    file_is v c bytes fits headed digest (omega (arith, ap length body_is, body_length bytes headed.marked.whole)) (same_file v s c (body_of bytes) same whole)

-- ---- what a test for no bytes tells

is_zero : (n : ℕ) (b : Bool) → b ≡ (n == 0) → b ≡ true → n ≡ 0
is_zero n b e t = grind (arith, nat_tests)

pub no_bytes : (xs : List ℕ) (b : Bool) → b ≡ (length xs == 0) → b ≡ true → xs ≡ []
no_bytes [] b e t = refl
no_bytes (x ∷ xs) b e t = let none : length (x ∷ xs) ≡ 0 = is_zero (length (x ∷ xs)) b e t in absurd (omega arith)

pub some_bytes : (xs : List ℕ) (b : Bool) → b ≡ (length xs == 0) → b ≡ false → xs ≢ []
some_bytes [] b e f none = absurd cc
some_bytes (x ∷ xs) b e f none = absurd cc

-- ---- versions

-- a value without a buffer has one of 3,600 seconds at most
pub writable_two : (v : Version) (c : Compiled) → IsWritable v c → IsWritable version.Two c
writable_two version.One c h = record {
  streets = λ le. let old = h.streets le in record { buffer = omega (arith, old.buffer); few = old.few; keep = old.keep };
  stops = h.stops;
  trips = h.trips;
  ranks = h.ranks;
  up = h.up;
  down = h.down;
  to = h.to;
  from = h.from;
  shortcuts = h.shortcuts;
}
writable_two version.Two c h = h
