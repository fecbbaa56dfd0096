-- `assembling::take_line` meets its contract: the first word, the numbers behind it, and what they say.
use mathlib.Core.Path.{sym}
use native.Mathlib.Omega.{arith}
use Rattle.assembling.proofs.Drafting.{empty-line, wrong-numbers, header-line, entry-line}
use Rattle.assembling.proofs.take_line.Goals as goal

pub returns-in_default-clause-takes_line : goal.returns-in_default-clause-takes_line
returns-in_default-clause-takes_line c = λ d knows stored. empty-line d _ _ _ c.in_default.ensures knows stored

pub returns-in_err-count-clause-takes_line : goal.returns-in_err-count-clause-takes_line
returns-in_err-count-clause-takes_line c =
    let wrong = rw c.in_err-count.was at (sym c.read_numbers.ensures.right) in
    λ d knows stored. rw c.from_residual.ensures (wrong-numbers d _ knows _ _ _ c.in-Some.ensures.words _ wrong)

pub slice_bounds-numbers-end : goal.slice_bounds-numbers-end
slice_bounds-numbers-end c = omega (arith, (c.read_numbers.ensures.held _ c.in_ok-count.was).0)

pub slice_bounds-numbers-end-else-known-lt8 : goal.slice_bounds-numbers-end-else-known-lt8
slice_bounds-numbers-end-else-known-lt8 c = omega (arith, (c.read_numbers.ensures.held _ c.in_ok-count.was).0)

pub returns-then-known-lt8-clause-takes_line : goal.returns-then-known-lt8-clause-takes_line
returns-then-known-lt8-clause-takes_line c =
    let read = c.read_numbers.ensures in
    let right = rw c.in_ok-count.was at (sym read.right) in
    let taken = c.take_header.ensures in
    λ d knows stored. header-line d _ knows _ _ _ c.in-Some.ensures.words right _ (read.held _ c.in_ok-count.was).1 _ _ c.if-known-lt8.true stored taken.right_value
    (λ t p. (rw p at taken.knows).0 d knows)

pub returns-else-known-lt8-clause-takes_line : goal.returns-else-known-lt8-clause-takes_line
returns-else-known-lt8-clause-takes_line c =
    let read = c.read_numbers.ensures in
    let right = rw c.in_ok-count.was at (sym read.right) in
    let taken = c.take_entry.ensures in
    λ d knows stored. entry-line d _ knows _ _ _ c.in-Some.ensures.words right _ (read.held _ c.in_ok-count.was).1 _ _ c.if-known-lt8.false taken.right_value
    (λ t p. (rw p at taken.knows) d knows stored)
