use Rattle.range_checks.proofs.spans.gives_the_spans_of_two_trips.Given as goal

abbrev pub ghosts-ask_two : goal.ghosts-ask_two
ghosts-ask_two g a = record { name = a.blank.name; parts = a.blank.parts }
