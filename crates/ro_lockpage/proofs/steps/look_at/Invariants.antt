use Rattle.ro_lockpage.proofs.steps.look_at.Given as goal

abbrev pub ghosts-load : goal.ghosts-load
ghosts-load a = record { at_mutex = a.mutex; at_rank = a.rank; for_thread = 0; on_word = 0 }
