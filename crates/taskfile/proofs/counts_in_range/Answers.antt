-- `taskfile::counts_in_range` meets its contract: each test decides its part.
use borrow.Author.Tests.{le-leb, lt-leb}
use Rattle.taskfile.specs.File.{counts_in_range}
use Rattle.taskfile.proofs.counts_in_range.Goals as goal

pub returns-then-blocks-lt1 : goal.returns-then-blocks-lt1
unfolding counts_in_range
returns-then-blocks-lt1 c = rw (lt-leb 1 _ c.if-blocks-lt1.true)

pub returns-then-blocks-gt64 : goal.returns-then-blocks-gt64
unfolding counts_in_range
returns-then-blocks-gt64 c = rw (le-leb 1 _ c.if-blocks-lt1.false, lt-leb _ 64 c.if-blocks-gt64.true)

pub returns-then-preempters-gt32 : goal.returns-then-preempters-gt32
unfolding counts_in_range
returns-then-preempters-gt32 c = rw (le-leb 1 _ c.if-blocks-lt1.false, le-leb _ 64 c.if-blocks-gt64.false, lt-leb _ 32 c.if-preempters-gt32.true)

pub returns-then-line_count-lt1 : goal.returns-then-line_count-lt1
unfolding counts_in_range
returns-then-line_count-lt1 c =
    rw (
      le-leb 1 _ c.if-blocks-lt1.false,
      le-leb _ 64 c.if-blocks-gt64.false,
      le-leb _ 32 c.if-preempters-gt32.false,
      lt-leb 1 _ c.if-line_count-lt1.true,
    )

pub returns : goal.returns
unfolding counts_in_range
returns c =
    rw (
      le-leb 1 _ c.if-blocks-lt1.false,
      le-leb _ 64 c.if-blocks-gt64.false,
      le-leb _ 32 c.if-preempters-gt32.false,
      le-leb 1 _ c.if-line_count-lt1.false,
    )
