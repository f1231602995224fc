use Rattle.city_checks.proofs.runs.run_words.Given as goal

abbrev pub ghosts-run_counted-L-Ledger : goal.ghosts-run_counted-L-Ledger
ghosts-run_counted-L-Ledger g a = record { name = a.searches.name; parts = a.searches.parts }

abbrev pub ghosts-run_counted-M-Ledger : goal.ghosts-run_counted-M-Ledger
ghosts-run_counted-M-Ledger g a = record { name = a.opens.name; parts = a.opens.parts }
