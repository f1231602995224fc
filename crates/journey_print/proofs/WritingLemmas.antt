-- What is written so far, and what is to come.
use Rattle.std.proofs.Common.{◌≡◌, ◌∙◌, ◌++◌, ℕ, List, [], ◌∷◌, refl, sym, ap, subst, append_assoc, append-nil}
use Rattle.std.specs.declared.alloc.Global.{Global}
use Rattle.std.specs.declared.vec.Vec.{Vec}
use Rattle.std.proofs.lemmas.Grind.{flat_map-append}
use Rattle.std.proofs.lemmas.List.{flat_map_more}
use Rattle.csv.specs.declared.writer.Writer.{Writer}
use Rattle.journey_print.specs.Records.{HasText, record_text, records_text}

-- what was written, with the text of the records that are left, is the text before with that of all records
pub record Writes (old new : Writer (Vec ℕ Global)) (all left : List (List (List ℕ))) (text : List ℕ) : Type 0 where
  pub sent : List ℕ
  pub holds : HasText new sent
  pub same : sent ++ records_text left ≡ text ++ records_text all

pub none_written : (w : Writer (Vec ℕ Global)) (all : List (List (List ℕ))) (text : List ℕ) → HasText w text → Writes w w all all text
none_written w all text h = record { sent = text; holds = h; same = refl }

-- records that are written go out of those that are left
pub more_written : (old mid new : Writer (Vec ℕ Global)) (all rows left : List (List (List ℕ))) (text : List ℕ)
    → Writes old mid all (rows ++ left) text
    → ((sent : List ℕ) → HasText mid sent → HasText new (sent ++ records_text rows)) → Writes old new all left text
more_written old mid new all rows left text was more =
    record {
      sent = was.sent ++ records_text rows;
      holds = more was.sent was.holds;
      same =
          append_assoc was.sent (records_text rows) (records_text left)
          ∙ (ap (λ ws. was.sent ++ ws) (sym (flat_map-append record_text rows left)) ∙ was.same);
    }

pub row_written : (old mid new : Writer (Vec ℕ Global)) (all left : List (List (List ℕ))) (row : List (List ℕ)) (text : List ℕ)
    → Writes old mid all (row ∷ left) text
    → ((sent : List ℕ) → HasText mid sent → HasText new (sent ++ record_text row)) → Writes old new all left text
row_written old mid new all left row text was more =
    more_written old mid new all (row ∷ []) left text was (λ sent h. rw append-nil (more sent h))

pub all_written : (old new : Writer (Vec ℕ Global)) (all : List (List (List ℕ))) (text : List ℕ) → Writes old new all [] text
    → HasText new (text ++ records_text all)
all_written old new all text was =
    let whole : was.sent ≡ text ++ records_text all = sym (append-nil was.sent) ∙ was.same in
    subst (λ ws. HasText new ws) whole was.holds

pub left_is : {old new : Writer (Vec ℕ Global)} {all left left' : List (List (List ℕ))} {text : List ℕ} → left ≡ left'
    → Writes old new all left text → Writes old new all left' text
left_is {old} {new} {all} {text = text} e was = subst (λ rows. Writes old new all rows text) e was

-- the records that are left are written
pub left_written : (old mid new : Writer (Vec ℕ Global)) (all left : List (List (List ℕ))) (text : List ℕ) → Writes old mid all left text
    → ((sent : List ℕ) → HasText mid sent → HasText new (sent ++ records_text left)) → HasText new (text ++ records_text all)
left_written old mid new all left text was more = subst (λ ws. HasText new ws) was.same (more was.sent was.holds)

-- records and then one more
pub rows_and_row : (old mid new : Writer (Vec ℕ Global)) (rows : List (List (List ℕ))) (row : List (List ℕ)) (text : List ℕ) → HasText old text
    → ((sent : List ℕ) → HasText old sent → HasText mid (sent ++ records_text rows))
    → ((sent : List ℕ) → HasText mid sent → HasText new (sent ++ record_text row)) → HasText new (text ++ records_text (rows ++ row ∷ []))
rows_and_row old mid new rows row text h first second =
    subst (λ ws. HasText new ws) (flat_map_more record_text text rows row) (second (text ++ records_text rows) (first text h))

-- a record and then further ones
pub row_and_rows : (old mid new : Writer (Vec ℕ Global)) (row : List (List ℕ)) (rows : List (List (List ℕ))) (text : List ℕ) → HasText old text
    → ((sent : List ℕ) → HasText old sent → HasText mid (sent ++ record_text row))
    → ((sent : List ℕ) → HasText mid sent → HasText new (sent ++ records_text rows)) → HasText new (text ++ records_text (row ∷ rows))
row_and_rows old mid new row rows text h first second =
    subst (λ ws. HasText new ws) (append_assoc text (record_text row) (records_text rows)) (second (text ++ record_text row) (first text h))
