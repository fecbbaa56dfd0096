-- `demand::first_miss` meets its contract. The loop's invariant, of every right set whose fields the arrays hold, is `Visiting`; beside it, what blocks stays
-- as long as it is said to.
use Prim.Native.Nat.{ℕ, ◌<◌}
use mathlib.Core.Path.{sym, ◌∙◌}
use native.Mathlib.Omega.{arith}
use lib.ListN.{take}
use Rattle.demand.proofs.Filling.{filled-all}
use Rattle.demand.proofs.Ranges.{Ranges, set-counted, lane-ranges}
use Rattle.demand.proofs.Visits.{Arrays, visiting-first, visiting-next, next-above, total-is, demand-most-at, blocking-read-most, first-missed, all-met}
use Rattle.demand.proofs.first_miss.Goals as goal
use Rattle.demand.proofs.first_miss.Goals.{At-loop-t}

arrays : (at : goal.At-loop-t)
    → Arrays (take at.args.set.count at.args.set.tasks) at.spread-columns.result.count at.spread-columns.result.executions at.spread-columns.result.periods at.spread-columns.result.deadlines at.spread-columns.result.regions
arrays at =
    let counted = set-counted _ _ at.requires.0 in
    let spread = at.spread-columns.ensures.spread in
    let counts = at.spread-columns.ensures.count_value in
    let all = counts.0 ∙ counts.1 in
    record {
      all = all;
      few = omega (arith, counts.0, counted.most);
      right = counted.right;
      executions = filled-all _ _ _ _ (omega (arith, counts.1)) spread.executions;
      periods = filled-all _ _ _ _ (omega (arith, counts.1)) spread.periods;
      deadlines = filled-all _ _ _ _ (omega (arith, counts.1)) spread.deadlines;
      regions = filled-all _ _ _ _ (omega (arith, counts.1)) spread.regions;
    }

pub spread-columns-requires : goal.spread-columns-requires
spread-columns-requires c = (set-counted _ _ c.requires.0).most

pub least_deadline-t-requires : goal.least_deadline-t-requires
least_deadline-t-requires c = omega (arith, c.spread-columns.ensures.count_value.0, (set-counted _ _ c.requires.0).most)

pub loop-t-init : goal.loop-t-init
loop-t-init c = (λ τs a. visiting-first τs _ _ _ _ _ a _ c.least_deadline-t.ensures, λ s l u. absurd (omega arith))

pub pass-passed-requires : goal.pass-passed-requires
pass-passed-requires c =
    let a = arrays (goal.at.pass-passed-requires c).At-loop-t in
    let ranges : (k : ℕ) → k < c.spread-columns.result.count → Ranges _ = λ k l. lane-ranges _ a.right k (omega (arith, a.all)) in (
      λ k l. omega (arith, a.executions.holds k (omega (arith, a.all)), (ranges k l).execution),
      λ k l. omega (arith, a.periods.holds k (omega (arith, a.all)), (ranges k l).period.1),
      (c.loop-t.invariant.0 _ a).waiting.long,
      a.few,
      (c.loop-t.invariant.0 _ a).demand-most,
      omega (arith, c.requires.1),
    )

pub blocked_from-blocked-requires : goal.blocked_from-blocked-requires
blocked_from-blocked-requires c = (c.loop-t.invariant.1, (arrays (goal.at.blocked_from-blocked-requires c).At-loop-t).few, omega (arith, c.requires.1))

pub overflow_add-demand : goal.overflow_add-demand
overflow_add-demand c =
    let now-blocked = c.blocked_from-blocked.ensures in
    omega (
      arith,
      (c.loop-t.invariant.0 _ (arrays (goal.at.overflow_add-demand c).At-loop-t)).demand-most,
      demand-most-at _ _ _ _ _ _ (arrays (goal.at.overflow_add-demand c).At-loop-t) c.loop-t.instants c.loop-t.demand c.loop-t.t _ c.pass-passed.ensures.demand_value,
      blocking-read-most _ _ _ _ _ _ (arrays (goal.at.overflow_add-demand c).At-loop-t) c.loop-t.t _ (now-blocked.0 c.loop-t.t (omega arith) now-blocked.1),
    )

pub returns-then-t-demand : goal.returns-then-t-demand
returns-then-t-demand c =
    let done = c.pass-passed.ensures in
    let now-blocked = c.blocked_from-blocked.ensures in
    let all = total-is _ _ _ _ _ _ (arrays (goal.at.returns-then-t-demand c).At-loop-t) _ _ _ _ _ _ _ _ (c.loop-t.invariant.0 _ (arrays (goal.at.returns-then-t-demand c).At-loop-t)) c.pass-passed.ensures.demand_value (now-blocked.0 c.loop-t.t (omega arith) now-blocked.1) c.pass-passed.ensures.next_value c.pass-passed.ensures.holds in
    sym (first-missed _ _ _ _ _ (c.loop-t.invariant.0 _ (arrays (goal.at.returns-then-t-demand c).At-loop-t)) (omega (arith, c.loop-t-test.true)) (omega (arith, all, c.if-t-demand.true)))

pub loop-t-smaller : goal.loop-t-smaller
loop-t-smaller c =
    let done = c.pass-passed.ensures in
    let now-blocked = c.blocked_from-blocked.ensures in
    let later = next-above _ _ _ _ _ _ (arrays (goal.at.loop-t-smaller c).At-loop-t) _ _ _ _ _ _ _ _ (c.loop-t.invariant.0 _ (arrays (goal.at.loop-t-smaller c).At-loop-t)) c.pass-passed.ensures.demand_value (now-blocked.0 c.loop-t.t (omega arith) now-blocked.1) c.pass-passed.ensures.next_value c.pass-passed.ensures.holds (omega (arith, c.loop-t-test.true)) in
    omega (arith, c.loop-t-test.true)

pub loop-t-preserved : goal.loop-t-preserved
loop-t-preserved c =
    let done = c.pass-passed.ensures in
    let now-blocked = c.blocked_from-blocked.ensures in
    let later = next-above _ _ _ _ _ _ (arrays (goal.at.loop-t-preserved c).At-loop-t) _ _ _ _ _ _ _ _ (c.loop-t.invariant.0 _ (arrays (goal.at.loop-t-preserved c).At-loop-t)) c.pass-passed.ensures.demand_value (now-blocked.0 c.loop-t.t (omega arith) now-blocked.1) c.pass-passed.ensures.next_value c.pass-passed.ensures.holds (omega (arith, c.loop-t-test.true)) in (
      λ τs a.
          visiting-next τs _ _ _ _ _ a _ _ _ _ _ _ _ _ (c.loop-t.invariant.0 τs a) c.pass-passed.ensures.demand_value (now-blocked.0 c.loop-t.t (omega arith) now-blocked.1) c.pass-passed.ensures.next_value c.pass-passed.ensures.holds
          (omega (arith, c.loop-t-test.true)) (omega (arith, c.requires.1)) c.if-t-demand.false,
      λ s l u. now-blocked.0 s (omega arith) u,
    )

pub returns : goal.returns
returns c = sym (all-met _ _ _ _ _ (c.loop-t.invariant.0 _ (arrays (goal.at.returns c).At-loop-t)) (omega (arith, c.loop-t-test.false)))
