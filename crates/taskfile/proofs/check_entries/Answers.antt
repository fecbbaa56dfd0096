-- `taskfile::check_entries` meets its contract. The loop's invariant: the lowest wrong block is the lowest of those from k on.
use Rattle.std.specs.Prelude.{ℕ, Option}
use mathlib.Core.Path.{sym, ap, ◌∙◌}
use native.Mathlib.Omega.{arith}
use Prim.Native.Nat.{◌+◌}
use Rattle.model.specs.Answers.{accept, refused_at}
use Rattle.model.specs.Lists.{lowest_from}
use Rattle.model.specs.declared.Refusal.TheVariants.{WrongBlock}
use Rattle.taskfile.specs.File.{block_right, block_row}
use Rattle.model.proofs.Lowest.{scan-next, scan-here, scan-end}
use Rattle.taskfile.proofs.check_entries.Goals as goal

pub returns-then-not-block_right : goal.returns-then-not-block_right
unfolding block_row
returns-then-not-block_right c =
    rw (← c.requires.blocks_value.1)
    (sym
    (ap (λ (p : Option ℕ). refused_at p WrongBlock accept)
    (c.loop-k.invariant ∙
    scan-here (block_right c.args.file.now) _ _ (λ e. omega arith)
    (sym c.block_right.ensures ∙ c.if-not-block_right.true))))

pub loop-k-preserved : goal.loop-k-preserved
loop-k-preserved c =
    c.loop-k.invariant ∙
    scan-next (block_right c.args.file.now) _ _ _ (λ e. omega arith) (omega arith) (sym c.block_right.ensures ∙ c.if-not-block_right.false) ∙
    ap (lowest_from (block_right c.args.file.now) (c.loop-k.k + 1)) (omega arith)

pub returns : goal.returns
unfolding block_row
returns c =
    rw (← c.requires.blocks_value.1)
    (sym
    (ap (λ (p : Option ℕ). refused_at p WrongBlock accept)
    (c.loop-k.invariant ∙ scan-end (block_right c.args.file.now) _ _ (omega arith))))
