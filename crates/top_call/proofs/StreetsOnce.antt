-- The files GR and CO hold one graph and one list of points, and where they are accepted no rule is broken.
use Rattle.std.proofs.Common.{◌≡◌, ◌∙◌, ℕ, List, [], ◌∷◌, length, Option, Some, None, sym, ap, arith, inl, inr}
use Rattle.move_model.specs.declared.refusal.Cause.{Cause}
use Rattle.move_model.specs.declared.refusal.FileKind.{FileKind}
use Rattle.move_model.specs.declared.refusal.FileKind.TheVariants as kind
use Rattle.move_model.specs.Streets.{Streets}
use Rattle.refusals.proofs.RefusalLemmas.{not_both}
use Rattle.street_graph.specs.Gr as gr
use Rattle.top_call.specs.declared.status.Status.{Status}
use Rattle.top_call.specs.Input.{Held, IsRead, IsReadable, IsReadableAs, AllReadable, IsGraphIn}
use Rattle.top_call.proofs.RejectLemmas.{is_readable as read_text}
use Rattle.top_call.specs.Rejected.{RejectsFile, RejectsFileAs, RejectsFiles, RejectsGraph, by_graph_file, by_graph_rule}

-- a file that can be read rejects nothing
readable-as : (k : FileKind) (o : Option (List ℕ)) (s : Status) → IsReadableAs k o → RejectsFileAs k o s → ⊥
readable-as k None s a r = let yes = r.0 in cc (a, yes)
readable-as k (Some text) s a r = omega (arith, r.0)

pub readable_not_both : (held : Held) (k : FileKind) (s : Status) → IsReadable held k → RejectsFile held k s → ⊥
readable_not_both held k s a r = readable-as k (held k) s a r

pub is_readable : (held : Held) (k : FileKind) (text : List ℕ) → IsRead held k text → IsReadable held k
is_readable held k text r = read_text held k text r.stands r.short

-- and a file that rejects tells one status
once-as : (k : FileKind) (o : Option (List ℕ)) (s t : Status) → RejectsFileAs k o s → RejectsFileAs k o t → s ≡ t
once-as k None s t a b = a.1 ∙ sym b.1
once-as k (Some text) s t a b = a.1 ∙ sym b.1

pub file_once : (held : Held) (k : FileKind) (s t : Status) → RejectsFile held k s → RejectsFile held k t → s ≡ t
file_once held k s t a b = once-as k (held k) s t a b

pub files_once : (held : Held) (ks : List FileKind) (s t : Status) → RejectsFiles held ks s → RejectsFiles held ks t → s ≡ t
files_once held [] s t a b = absurd a
files_once held (k ∷ ks) s t (inl a) (inl b) = file_once held k s t a b
files_once held (k ∷ ks) s t (inl a) (inr b) = absurd (readable_not_both held k s b.0 a)
files_once held (k ∷ ks) s t (inr a) (inl b) = absurd (readable_not_both held k t a.0 b)
files_once held (k ∷ ks) s t (inr a) (inr b) = files_once held ks s t a.1 b.1

pub all_not_both : (held : Held) (ks : List FileKind) (s : Status) → AllReadable held ks → RejectsFiles held ks s → ⊥
all_not_both held [] s a r = r
all_not_both held (k ∷ ks) s a (inl r) = readable_not_both held k s a.0 r
all_not_both held (k ∷ ks) s a (inr r) = all_not_both held ks s a.1 r.1

pub one_text : (held : Held) (k : FileKind) (text other : List ℕ) → IsRead held k text → IsRead held k other → text ≡ other
one_text held k text other a b = let e : Some text ≡ Some other = sym a.stands ∙ b.stands in cc e

same-streets : (g h : Streets) → g.nodes ≡ h.nodes → g.arcs ≡ h.arcs → g ≡ h
same-streets g h a b = λ i. record { nodes = a i; arcs = b i }

of-some : {X : Type 0} (x y : X) → Some x ≡ Some y → x ≡ y
of-some x y e = cc e

field-of : {X Y : Type 0} (x y : X) → x ≡ y → (f : X → Y) → f x ≡ f y
field-of x y e f = ap f e

pub graph_once : (held : Held) (g h : Streets) → IsGraphIn held g → IsGraphIn held h → g ≡ h
graph_once held g h a b =
    let text = one_text held kind.Gr a.text b.text a.read b.read in
    let arcs : g.arcs ≡ h.arcs = a.graph_is.arcs ∙ ap (λ t. gr.arcs_of (gr.gr_lines t)) text ∙ sym b.graph_is.arcs in
    let sizes = sym a.graph_is.size ∙ ap (λ t. gr.size_of (gr.gr_lines t)) text ∙ b.graph_is.size in
    let nodes : g.nodes ≡ h.nodes = field-of _ _ (of-some _ _ sizes) (λ size. size.nodes) in
    same-streets g h nodes arcs

gr-not-both : (text : List ℕ) (g : Streets) (row : ℕ) (because : Cause) → gr.IsGrGraph text g → gr.IsGrRefused text row because → ⊥
gr-not-both text g row because a (gr.by_line r) = not_both gr.gr_rules (gr.spot_at (gr.gr_lines text)) _ _ _ a.hold r
gr-not-both text g row because a (gr.no_size hold none) = let some = a.size in cc (none, some)
gr-not-both text g row because a (gr.miscounted {size = size} hold given at wrong) =
    let e = sym given ∙ a.size in
    let count : size.arcs ≡ length g.arcs = cc e in
    wrong (ap length (sym a.arcs) ∙ sym count)

pub graph_not_both : (held : Held) (g : Streets) (s : Status) → IsGraphIn held g → RejectsGraph held s → ⊥
graph_not_both held g s a (by_graph_file r) = readable_not_both held kind.Gr _ (is_readable held kind.Gr a.text a.read) r
graph_not_both held g s a (by_graph_rule text read file refused) =
    gr-not-both text g _ _ (rw (one_text held kind.Gr text a.text read a.read) a.graph_is) refused
