-- `planning::price_points` meets its contract: the price of the list, and the plan that follows from it.
use mathlib.Core.Path.{◌≡◌, sym, ap, ◌∙◌}
use mathlib.Core.List.{List}
use native.Mathlib.Omega.{arith}
use Prim.Native.Nat.{ℕ}
use lib.ListN.{take}
use Rattle.model.specs.Answers.{accept, pricing}
use Rattle.model.specs.Regions.{lines, cost}
use Rattle.model.proofs.Verdicts.{answered-ok}
use Rattle.taskfile.specs.File.{task_of}
use Rattle.pricing.specs.declared.Price.{Price}
use Rattle.planning.proofs.Plans.{points-long, count-is, lines_fit, follows}
use borrow.Author.Rules.{rules}
use Rattle.planning.proofs.price_points.Goals as goal
use Rattle.planning.proofs.price_points.Goals.{In_ok-price}

-- the price that is answered is the list's
module _ (c : In_ok-price) where
  priced : (pricing (task_of c.args.file.now) (take c.args.first.count c.args.first.points) ≡ accept) × (◌≡◌ {A = Price} (record { lines = lines (task_of c.args.file.now) (take c.args.first.count c.args.first.points); cost = cost (task_of c.args.file.now) (take c.args.first.count c.args.first.points) }) c.in_ok-price.price)
  priced = answered-ok _ _ _ (sym c.price_of.ensures ∙ c.in_ok-price.was)

  lines-are : c.in_ok-price.price.lines ≡ lines (task_of c.args.file.now) (take c.args.first.count c.args.first.points)
  lines-are = sym (ap (λ (q : Price). q.lines) priced.1)

  cost-is : c.in_ok-price.price.cost ≡ cost (task_of c.args.file.now) (take c.args.first.count c.args.first.points)
  cost-is = sym (ap (λ (q : Price). q.cost) priced.1)

pub plan_of-requires : goal.plan_of-requires
plan_of-requires c =
    let first = c.args.first in
    let here = (goal.at.plan_of-requires c).In_ok-price in (
      c.requires.accepted,
      c.requires.count_bound.0,
      lines_fit first.count first.points (search rules) (search rules) (task_of c.args.file.now) _ _ (lines-are here) (cost-is here),
    )

pub returns : goal.returns
returns c =
    let first = c.args.first in
    let here = (goal.at.returns c).In_ok-price in
    rw (c.plan_of.ensures, (priced here).0, follows first.count first.points (search rules) (search rules) (task_of c.args.file.now) _ _ (lines-are here) (cost-is here))
