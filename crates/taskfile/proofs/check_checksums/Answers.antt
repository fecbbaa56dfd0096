-- `taskfile::check_checksums` meets its contract. The loop's invariant: the lowest wrong block is the lowest of those from k on.
use Rattle.std.specs.Prelude.{ℕ, Option, Some}
use Prim.Native.Nat.{◌-◌, ◌+◌, ◌/◌}
use mathlib.Core.Path.{◌≡◌, sym, ap, ◌∙◌}
use native.Mathlib.Omega.{arith}
use lib.ListN.{length}
use Rattle.model.specs.Answers.{accept, refused_at}
use Rattle.model.specs.Lists.{lowest_from}
use Rattle.model.specs.declared.Refusal.TheVariants.{Checksum}
use Rattle.block.specs.Blocks.{checksum_right}
use Rattle.model.proofs.Lowest.{scan-next, scan-here, scan-end}
use Rattle.taskfile.specs.File.{blocks_in, sum_right, checksum_row}
use Rattle.taskfile.proofs.Frames.{length-in}
use Rattle.taskfile.proofs.check_checksums.Goals as goal
use Rattle.taskfile.proofs.check_checksums.Goals.{After-checksum_right}

pub overflow_sub-start : goal.overflow_sub-start
unfolding blocks_in
overflow_sub-start c = omega (arith, c.left_after_fours.ensures.0)

pub loop-k-init : goal.loop-k-init
unfolding blocks_in
loop-k-init c =
    let left = c.left_after_fours.result in
    let same : length c.args.file.now / 512 - (length c.args.file.now / 512 - left) ≡ left = omega (arith, c.left_after_fours.ensures.0) in
    rw same c.left_after_fours.ensures

pub checksum_right-requires : goal.checksum_right-requires
unfolding blocks_in
checksum_right-requires c = rw c.block_at.ensures (length-in _ _ (omega arith))

tested : (c : goal.After-checksum_right) → sum_right c.args.file.now c.loop-k.k ≡ c.checksum_right.result
tested c = ap checksum_right (sym c.block_at.ensures) ∙ sym c.checksum_right.ensures

-- the blocks from k on are those that are left
from : (c : goal.After-checksum_right) → blocks_in c.args.file.now - (length c.args.file.now / 512 - c.loop-k.k) ≡ c.loop-k.k
unfolding blocks_in
from c = omega arith

pub returns-then-not-checksum_right : goal.returns-then-not-checksum_right
unfolding checksum_row blocks_in
returns-then-not-checksum_right c =
    let here = (goal.at.returns-then-not-checksum_right c).After-checksum_right in
    let here-wrong : lowest_from (sum_right c.args.file.now) c.loop-k.k (length c.args.file.now / 512 - c.loop-k.k) ≡ Some c.loop-k.k =
    scan-here (sum_right c.args.file.now) _ _ (λ e. omega arith) (tested here ∙ c.if-not-checksum_right.true) in
    let wrong : lowest_from (sum_right c.args.file.now) 0 (blocks_in c.args.file.now) ≡ Some c.loop-k.k =
    c.loop-k.invariant.1 ∙ rw (from here) here-wrong in
    sym (ap (λ (p : Option ℕ). refused_at p Checksum accept) wrong)

pub loop-k-preserved : goal.loop-k-preserved
unfolding blocks_in
loop-k-preserved c =
    let here = (goal.at.loop-k-preserved c).After-checksum_right in
    let blocks = length c.args.file.now / 512 in
    let next : blocks - (blocks - (c.loop-k.k + 1)) ≡ c.loop-k.k + 1 = omega arith in
    let less : blocks - c.loop-k.k - 1 ≡ blocks - (c.loop-k.k + 1) = omega arith in (
      omega arith,
      c.loop-k.invariant.1 ∙ rw (from here, next, ← less)
          (scan-next (sum_right c.args.file.now) _ _ _ (λ e. omega arith) (omega arith) (tested here ∙ c.if-not-checksum_right.false)),
    )

pub returns : goal.returns
unfolding checksum_row blocks_in
returns c =
    sym
    (ap (λ (p : Option ℕ). refused_at p Checksum accept)
    (c.loop-k.invariant.1 ∙ scan-end (sum_right c.args.file.now) _ _ (omega arith)))
