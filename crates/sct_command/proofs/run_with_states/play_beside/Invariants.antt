-- The input of a run with states, by its name and by the bytes that are to come from it.
use Rattle.sct_command.proofs.run_with_states.play_beside.Given as goal

abbrev pub ghosts-play_states : goal.ghosts-play_states
ghosts-play_states g a = record { name = a.input.ghost_name; start = g.R.Source.to_come a.input.now }
