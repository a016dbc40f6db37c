use Rattle.trace_player.proofs.player.play_to.Given as goal

abbrev pub ghosts-host : goal.ghosts-host
ghosts-host g a = record { image = a.verified.now }
