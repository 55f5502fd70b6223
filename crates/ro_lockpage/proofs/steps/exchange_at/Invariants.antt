use Rattle.ro_lockpage.proofs.steps.exchange_at.Given as goal

abbrev pub ghosts-exchange : goal.ghosts-exchange
ghosts-exchange a = record { at_mutex = a.bid.mutex; at_rank = a.bid.rank; for_thread = a.bid.thread; on_word = a.was }
