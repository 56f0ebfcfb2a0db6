use Rattle.location_texts.proofs.texts.+spelled_by.Given as goal

abbrev pub decreases-spelled_by : goal.decreases-spelled_by
decreases-spelled_by l = l.most
