use Rattle.image_listing.proofs.threads.+put_children.Given as goal

abbrev pub decreases-put_children : goal.decreases-put_children
decreases-put_children l = l.levels
