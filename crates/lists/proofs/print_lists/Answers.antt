-- The file is accepted and has at most 16 blocks.
use Rattle.std.proofs.Common.{arith}
use Rattle.listing.proofs.Accepted.{is-accepted, short, positive}
use Rattle.lists.proofs.print_lists.Goals as goal

pub evaluate_regions-table-requires : goal.evaluate_regions-table-requires
evaluate_regions-table-requires g c = (is-accepted c.args.file.now c.requires, short c.args.file.now c.requires)

pub block_count-requires : goal.block_count-requires
block_count-requires g c = is-accepted c.args.file.now c.requires

pub print_all-requires : goal.print_all-requires
print_all-requires g c = (
  omega (arith, c.block_count.ensures.0, positive c.args.file.now c.requires),
  omega (arith, c.block_count.ensures.0, short c.args.file.now c.requires),
  c.evaluate_regions-table.ensures.widths,
)
