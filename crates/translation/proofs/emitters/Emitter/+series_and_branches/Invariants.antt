use Rattle.translation.proofs.emitters.Emitter.+series_and_branches.Given as goal

abbrev pub decreases-branches : goal.decreases-branches
decreases-branches l = l.at

abbrev pub decreases-series : goal.decreases-series
decreases-series l = l.at
