use Rattle.std.proofs.Common.{arith}
use Rattle.translation.proofs.Texts.{adds_as, room_as, series_reads, branch_reads, series_leaf, branch_leaf, series_in_two, branches_in_two, group_in_brackets, series_in_brackets}
use Rattle.translation.proofs.emitters.Emitter.+series_and_branches.Goals as goal

pub series-push-requires : goal.series-push-requires
series-push-requires t c = room_as (series_leaf c.args.self.now c.args.place c.args.at c.in-Link.link c.in-Link.ensures.tree (series_reads _ _ _ c.args.place (λ h. h.1) c.reading.ensures)) c.requires

pub series-returns-in-Link : goal.series-returns-in-Link
series-returns-in-Link t c = adds_as (series_leaf c.args.self.now c.args.place c.args.at c.in-Link.link c.in-Link.ensures.tree (series_reads _ _ _ c.args.place (λ h. h.1) c.reading.ensures)) c.push.ensures

pub series-series-requires : goal.series-series-requires
series-series-requires t c =
    let both = series_in_two c.args.self.now c.args.place c.args.at c.in-Series.first c.in-Series.second c.in-Series.ensures.tree c.requires in
    (omega (arith, c.in-Series.ensures.below.0), both.first)

pub series-series-requires-in-Series : goal.series-series-requires-in-Series
series-series-requires-in-Series t c =
    let both = series_in_two c.args.self.now c.args.place c.args.at c.in-Series.first c.in-Series.second c.in-Series.ensures.tree c.requires in
    (omega (arith, c.in-Series.ensures.below.1), both.second c.series.ensures)

pub series-returns-in-Series : goal.series-returns-in-Series
series-returns-in-Series t c =
    let both = series_in_two c.args.self.now c.args.place c.args.at c.in-Series.first c.in-Series.second c.in-Series.ensures.tree c.requires in
    both.whole c.series.ensures c.series-in-Series.ensures

pub series-bracket-requires : goal.series-bracket-requires
series-bracket-requires t c =
    let group = group_in_brackets c.args.self.now c.args.place c.args.at c.in-Parallel.first c.in-Parallel.second c.in-Parallel.ensures.tree c.requires in
    group.outer.first

pub series-branches-requires : goal.series-branches-requires
series-branches-requires t c =
    let group = group_in_brackets c.args.self.now c.args.place c.args.at c.in-Parallel.first c.in-Parallel.second c.in-Parallel.ensures.tree c.requires in
    (omega (arith, c.in-Parallel.ensures.below.0), (group.first c.bracket.ensures).first)

pub series-branches-requires-in-Parallel : goal.series-branches-requires-in-Parallel
series-branches-requires-in-Parallel t c =
    let group = group_in_brackets c.args.self.now c.args.place c.args.at c.in-Parallel.first c.in-Parallel.second c.in-Parallel.ensures.tree c.requires in
    (omega (arith, c.in-Parallel.ensures.below.1), (group.second c.bracket.ensures c.branches.ensures).first)

pub series-bracket-requires-in-Parallel : goal.series-bracket-requires-in-Parallel
series-bracket-requires-in-Parallel t c =
    let group = group_in_brackets c.args.self.now c.args.place c.args.at c.in-Parallel.first c.in-Parallel.second c.in-Parallel.ensures.tree c.requires in
    (group.second c.bracket.ensures c.branches.ensures).second c.branches-in-Parallel.ensures

pub series-returns-in-Parallel : goal.series-returns-in-Parallel
series-returns-in-Parallel t c =
    let group = group_in_brackets c.args.self.now c.args.place c.args.at c.in-Parallel.first c.in-Parallel.second c.in-Parallel.ensures.tree c.requires in
    group.outer.whole c.bracket.ensures
    ((group.first c.bracket.ensures).whole c.branches.ensures
    ((group.second c.bracket.ensures c.branches.ensures).whole c.branches-in-Parallel.ensures c.bracket-in-Parallel.ensures))

pub branches-push-requires : goal.branches-push-requires
branches-push-requires t c = room_as (branch_leaf c.args.self.now c.args.place c.args.at c.in-Link.link c.in-Link.ensures.tree (branch_reads _ _ _ c.args.place (λ h. h.1) c.reading.ensures)) c.requires

pub branches-returns-in-Link : goal.branches-returns-in-Link
branches-returns-in-Link t c = adds_as (branch_leaf c.args.self.now c.args.place c.args.at c.in-Link.link c.in-Link.ensures.tree (branch_reads _ _ _ c.args.place (λ h. h.1) c.reading.ensures)) c.push.ensures

pub branches-branches-requires : goal.branches-branches-requires
branches-branches-requires t c =
    let both = branches_in_two c.args.self.now c.args.place c.args.at c.in-Parallel.first c.in-Parallel.second c.in-Parallel.ensures.tree c.requires in
    (omega (arith, c.in-Parallel.ensures.below.0), both.first)

pub branches-branches-requires-in-Parallel : goal.branches-branches-requires-in-Parallel
branches-branches-requires-in-Parallel t c =
    let both = branches_in_two c.args.self.now c.args.place c.args.at c.in-Parallel.first c.in-Parallel.second c.in-Parallel.ensures.tree c.requires in
    (omega (arith, c.in-Parallel.ensures.below.1), both.second c.branches.ensures)

pub branches-returns-in-Parallel : goal.branches-returns-in-Parallel
branches-returns-in-Parallel t c =
    let both = branches_in_two c.args.self.now c.args.place c.args.at c.in-Parallel.first c.in-Parallel.second c.in-Parallel.ensures.tree c.requires in
    both.whole c.branches.ensures c.branches-in-Parallel.ensures

pub branches-bracket-requires : goal.branches-bracket-requires
branches-bracket-requires t c =
    let group = series_in_brackets c.args.self.now c.args.place c.args.at c.in-Series.first c.in-Series.second c.in-Series.ensures.tree c.requires in
    group.outer.first

pub branches-series-requires : goal.branches-series-requires
branches-series-requires t c =
    let group = series_in_brackets c.args.self.now c.args.place c.args.at c.in-Series.first c.in-Series.second c.in-Series.ensures.tree c.requires in
    (omega (arith, c.in-Series.ensures.below.0), (group.first c.bracket.ensures).first)

pub branches-series-requires-in-Series : goal.branches-series-requires-in-Series
branches-series-requires-in-Series t c =
    let group = series_in_brackets c.args.self.now c.args.place c.args.at c.in-Series.first c.in-Series.second c.in-Series.ensures.tree c.requires in
    (omega (arith, c.in-Series.ensures.below.1), (group.second c.bracket.ensures c.series.ensures).first)

pub branches-bracket-requires-in-Series : goal.branches-bracket-requires-in-Series
branches-bracket-requires-in-Series t c =
    let group = series_in_brackets c.args.self.now c.args.place c.args.at c.in-Series.first c.in-Series.second c.in-Series.ensures.tree c.requires in
    (group.second c.bracket.ensures c.series.ensures).second c.series-in-Series.ensures

pub branches-returns-in-Series : goal.branches-returns-in-Series
branches-returns-in-Series t c =
    let group = series_in_brackets c.args.self.now c.args.place c.args.at c.in-Series.first c.in-Series.second c.in-Series.ensures.tree c.requires in
    group.outer.whole c.bracket.ensures
    ((group.first c.bracket.ensures).whole c.series.ensures
    ((group.second c.bracket.ensures c.series.ensures).whole c.series-in-Series.ensures c.bracket-in-Series.ensures))
