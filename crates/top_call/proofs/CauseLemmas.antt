-- Causes last while counts do not fall, and what a run has sent.
use Rattle.std.proofs.Common.{◌≡◌, ◌∙◌, ◌⊎◌, ◌≤◌, ◌++◌, ℕ, List, length, Result, Ok, Err, IfErr, inl, inr, refl, sym, ap, le_trans, arith}
use Rattle.std.specs.Result.{OnOk, OnErr}
use Rattle.std.proofs.Math.Seq.{take-length}
use Rattle.move_files.specs.Outside.{Rose, SendsPrefix}
use Rattle.move_files.specs.declared.outside.Files.{Ghosts}
use Rattle.move_model.specs.declared.network.Network.{Network}
use Rattle.move_model.specs.declared.query.Query.{Query}
use Rattle.move_model.specs.declared.refusal.FileKind.{FileKind}
use Rattle.top_call.specs.declared.status.Status.{Status}
use Rattle.top_call.specs.declared.status.Status.TheVariants as status
use Rattle.top_call.specs.Words.{Plan, name_in}
use Rattle.top_call.specs.Reading.{OnlyReads}
use Rattle.top_call.specs.Status.{HasCause, MissesFile, FailsFile, ComesOfInput, ComesUnsent, Sends}

rose-later : (a b c : ℕ) → a ≤ b → Rose b c → Rose a c
rose-later a b c h r = grind arith

module _ {F : Type 0} (files : Ghosts F) where
  pub OnlyReads-trans : (old mid new : F) → OnlyReads files old mid → OnlyReads files mid new → OnlyReads files old new
  OnlyReads-trans old mid new a b = record {
    contents = b.contents ∙ a.contents;
    read_faults = λ name. le_trans (a.read_faults name) (b.read_faults name);
    misses = λ name. le_trans (a.misses name) (b.misses name);
    write_faults = b.write_faults ∙ a.write_faults;
  }

  -- a cause that came after earlier reads is one of the whole
  pub HasCause-later : (plan : Plan) (old mid new : F) (s : Status) → OnlyReads files old mid → HasCause plan files mid new s → HasCause plan files old new s
  unfolding HasCause
  HasCause-later plan old mid new (status.NoFile k) h c = (c.0, c.1, rose-later _ _ _ (h.misses (name_in plan k)) c.2)
  HasCause-later plan old mid new (status.ReadFault k) h c = (c.0, rose-later _ _ _ (h.read_faults (name_in plan k)) c.1)
  HasCause-later plan old mid new (status.Refused refusal) h c = tt
  HasCause-later plan old mid new status.NoMemory h c = tt
  HasCause-later plan old mid new status.Done h c = c
  HasCause-later plan old mid new status.Usage h c = c
  HasCause-later plan old mid new status.WriteFault h c = c

  -- the same of a result
  pub err-later : {T : Type 0} (r : Result T Status) (plan : Plan) (old mid new : F) → OnlyReads files old mid
      → IfErr r (HasCause plan files mid new) → IfErr r (HasCause plan files old new)
  err-later (Ok x) plan old mid new h c = tt
  err-later (Err s) plan old mid new h c = HasCause-later plan old mid new s h c

  -- a refusal and want of memory need no cause
  pub HasCause-input : (plan : Plan) (old new : F) (s : Status) → ComesOfInput s → HasCause plan files old new s
  unfolding HasCause ComesOfInput
  HasCause-input plan old new (status.Refused refusal) c = tt
  HasCause-input plan old new status.NoMemory c = tt
  HasCause-input plan old new (status.NoFile k) c = absurd c
  HasCause-input plan old new (status.ReadFault k) c = absurd c
  HasCause-input plan old new status.Done c = absurd c
  HasCause-input plan old new status.Usage c = absurd c
  HasCause-input plan old new status.WriteFault c = absurd c

  pub HasCause-memory : (plan : Plan) (old new : F) (s : Status) → s ≡ status.NoMemory → HasCause plan files old new s
  unfolding HasCause
  HasCause-memory plan old new s e = rw e tt

  pub err-input : {T : Type 0} (r : Result T Status) (plan : Plan) (old new : F) → IfErr r ComesOfInput → IfErr r (HasCause plan files old new)
  err-input (Ok x) plan old new c = tt
  err-input (Err s) plan old new c = HasCause-input plan old new s c

-- whatever a write of the whole answers, a prefix was sent
pub prefix-sent : {T E : Type 0} (r : Result T E) (old bytes new : List ℕ) → OnOk r (new ≡ old ++ bytes) → OnErr r (SendsPrefix old bytes new) → SendsPrefix old bytes new
prefix-sent (Ok x) old bytes new ok err = (length bytes, ok ∙ ap (λ t. old ++ t) (sym (take-length bytes)))
prefix-sent (Err e) old bytes new ok err = err

module _ {F : Type 0} (files : Ghosts F) (plan : Plan) (old new : F) (s : Status) (cause : HasCause plan files old new s) where
  pub HasCause-usage : s ≡ status.Usage → ⊥
  unfolding HasCause
  HasCause-usage is = rw is at cause

  pub HasCause-write_fault : s ≡ status.WriteFault → ⊥
  unfolding HasCause
  HasCause-write_fault is = rw is at cause

  pub HasCause-no_file : (kind : FileKind) → s ≡ status.NoFile kind → MissesFile plan files kind old new
  unfolding HasCause
  HasCause-no_file kind is = rw is at cause

  pub HasCause-read_fault : (kind : FileKind) → s ≡ status.ReadFault kind → FailsFile plan files kind old new
  unfolding HasCause
  HasCause-read_fault kind is = rw is at cause

-- a stop of a read comes before anything is sent
pub Sends-nothing : {F : Type 0} (files : Ghosts F) (plan : Plan) (before after : F) (s : Status) (Asked : Network → List Query → Type 0) (old : List ℕ)
    → HasCause plan files before after s → Sends Asked old old s
unfolding HasCause Sends
Sends-nothing files plan before after (status.NoFile k) Asked old h = refl
Sends-nothing files plan before after (status.ReadFault k) Asked old h = refl
Sends-nothing files plan before after (status.Refused refusal) Asked old h = refl
Sends-nothing files plan before after status.NoMemory Asked old h = inl refl
Sends-nothing files plan before after status.Done Asked old h = absurd h
Sends-nothing files plan before after status.Usage Asked old h = absurd h
Sends-nothing files plan before after status.WriteFault Asked old h = absurd h

-- no words, and nothing is sent
pub Sends-wordless : (Asked : Network → List Query → Type 0) (old : List ℕ) (s : Status) → (s ≡ status.Usage) ⊎ (s ≡ status.NoMemory) → Sends Asked old old s
unfolding Sends
Sends-wordless Asked old s (inl e) = rw e refl
Sends-wordless Asked old s (inr e) = rw e (inl refl)

-- what is sent for some networks and queries is sent for more
pub Sends-weaker : (P Q : Network → List Query → Type 0) (old new : List ℕ) (s : Status) → ((n : Network) (queries : List Query) → P n queries → Q n queries)
    → Sends P old new s → Sends Q old new s
unfolding Sends
Sends-weaker P Q old new status.Done f h = (h.0, h.1, f h.0 h.1 h.2, h.3)
Sends-weaker P Q old new status.WriteFault f h = (h.0, h.1, f h.0 h.1 h.2, h.3)
Sends-weaker P Q old new status.NoMemory f (inl h) = inl h
Sends-weaker P Q old new status.NoMemory f (inr h) = inr (h.0, h.1, f h.0 h.1 h.2, h.3)
Sends-weaker P Q old new status.Usage f h = h
Sends-weaker P Q old new (status.Refused refusal) f h = h
Sends-weaker P Q old new (status.NoFile k) f h = h
Sends-weaker P Q old new (status.ReadFault k) f h = h

-- a run that has come to its rows is past all that comes unsent
pub not-unsent : (s : Status) → (s ≡ status.Done) ⊎ (s ≡ status.WriteFault) ⊎ (s ≡ status.NoMemory) → ComesUnsent s → ⊥
unfolding ComesUnsent
not-unsent s (inl e) h = rw e at h
not-unsent s (inr (inl e)) h = rw e at h
not-unsent s (inr (inr e)) h = rw e at h
