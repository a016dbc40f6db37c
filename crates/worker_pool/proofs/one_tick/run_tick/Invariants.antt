use Rattle.worker_pool.proofs.one_tick.run_tick.Given as goal

abbrev pub ghosts-complete : goal.ghosts-complete
ghosts-complete g a = record { image = a.verified.now }
