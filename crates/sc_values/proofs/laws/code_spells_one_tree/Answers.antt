use Rattle.sc_values.proofs.Spelling.{spelt_once, spells-tree_of, tree_of-spells}
use Rattle.sc_values.proofs.laws.code_spells_one_tree.Goals as goal

pub returns : goal.returns
returns c = record { one = spelt_once; found = λ code e. (tree_of-spells code e, spells-tree_of code e) }
