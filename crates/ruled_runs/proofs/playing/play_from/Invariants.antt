-- The input of a run, by its name and by the bytes that are to come from it.
use Rattle.ruled_runs.proofs.playing.play_from.Given as goal

abbrev pub ghosts-play_told : goal.ghosts-play_told
ghosts-play_told g a = record { name = a.input.ghost_name; start = g.R.Source.to_come a.input.now }
