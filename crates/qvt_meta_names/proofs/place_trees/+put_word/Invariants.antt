use Rattle.qvt_meta_names.proofs.place_trees.+put_word.Given as goal

abbrev pub decreases-put_word : goal.decreases-put_word
decreases-put_word l = l.levels
