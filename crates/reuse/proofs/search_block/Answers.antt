-- `reuse::search_block` meets its contract. The loop's invariant: none of the reads passed lies on
-- the line. The last read of an odd number of reads comes after the loop.
use Prim.Native.Nat.{◌+◌, ◌-◌, ◌*◌}
use mathlib.Core.Path.{◌≡◌, sym, ◌∙◌}
use native.Mathlib.Omega.{arith}
use lib.ListN.{drop_of_length-le}
use borrow.Author.Rules.{rules}
use Rattle.model.specs.Lines.{on_line}
use Rattle.taskfile.specs.File.{task_of, entry_reads}
use Rattle.reuse.proofs.Looked.{left-all, left-off, left-on, left-none}
use Rattle.reuse.proofs.search_block.Goals as goal
use Rattle.reuse.proofs.search_block.Goals.{After-lies_on-then-reads-eq1, Else-lies_on}
use Rattle.reuse.proofs.search_block.Invariants.{Passed}

pub loop-i-init : goal.loop-i-init
loop-i-init c = left-all _ _

pub returns-then-lies_on : goal.returns-then-lies_on
returns-then-lies_on c =
    let file = c.args.file.now in
    let at = 2 * c.loop-i.i in
    let there =
    left-on (on_line (task_of file) c.args.c) (entry_reads file c.args.k) at c.read-number.result (omega arith) c.read-number.ensures
    c.loop-i.invariant (sym (c.lies_on.ensures (task_of file) c.requires.geometry_of) ∙ c.if-lies_on.true) in
    record { next_value = sym there.0; looked_value = (sym there.1, omega arith) }

-- the first read of a turn is passed
first-passed : (c : goal.Else-lies_on)
    → let args = c.args in
    Passed args.file.now args.k args.c (2 * c.loop-i.i + 1)
first-passed c =
    let file = c.args.file.now in
    let at = 2 * c.loop-i.i in
    left-off (on_line (task_of file) c.args.c) (entry_reads file c.args.k) at c.read-number.result (omega arith) c.read-number.ensures
    c.loop-i.invariant (sym (c.lies_on.ensures (task_of file) c.requires.geometry_of) ∙ c.if-lies_on.false)

pub returns-then-lies_on-2 : goal.returns-then-lies_on-2
returns-then-lies_on-2 c =
    let file = c.args.file.now in
    let at = 2 * c.loop-i.i in
    let second = c.read-second in
    let there =
    left-on (on_line (task_of file) c.args.c) (entry_reads file c.args.k) (at + 1) second.result (omega arith) second.ensures
    (first-passed (goal.at.returns-then-lies_on-2 c).Else-lies_on) (sym (c.lies_on-in-loop-i.ensures (task_of file) c.requires.geometry_of) ∙ c.if-lies_on-2.true) in
    record { next_value = sym there.0; looked_value = (omega (arith, there.1), omega arith) }

pub loop-i-preserved : goal.loop-i-preserved
loop-i-preserved c =
    let file = c.args.file.now in
    let at = 2 * c.loop-i.i in
    let second = c.read-second in
    let next : 2 * (c.loop-i.i + 1) ≡ at + 1 + 1 = omega arith in
    rw next
    (left-off (on_line (task_of file) c.args.c) (entry_reads file c.args.k) (at + 1) second.result (omega arith) second.ensures
    (first-passed (goal.at.loop-i-preserved c).Else-lies_on) (sym (c.lies_on-in-loop-i.ensures (task_of file) c.requires.geometry_of) ∙ c.if-lies_on-2.false))

-- all but the last read are passed
but-one : (c : goal.After-lies_on-then-reads-eq1)
    → let args = c.args in
    Passed args.file.now args.k args.c (c.read_count-reads.result - 1)
but-one c =
    let one : 2 * c.loop-i.i ≡ c.read_count-reads.result - 1 = omega arith in
    rw one at c.loop-i.invariant

pub returns-then-lies_on-3 : goal.returns-then-lies_on-3
returns-then-lies_on-3 c =
    let file = c.args.file.now in
    let last = c.read-last in
    let there =
    left-on (on_line (task_of file) c.args.c) (entry_reads file c.args.k) (c.read_count-reads.result - 1) last.result (omega arith) last.ensures
    (but-one (goal.at.returns-then-lies_on-3 c).After-lies_on-then-reads-eq1) (sym (c.lies_on-then-reads-eq1.ensures (task_of file) c.requires.geometry_of) ∙ c.if-lies_on-3.true) in
    record { next_value = sym there.0; looked_value = (omega (arith, there.1), search rules) }

pub returns-else-lies_on-3 : goal.returns-else-lies_on-3
returns-else-lies_on-3 c =
    let file = c.args.file.now in
    let last = c.read-last in
    let n = c.read_count-reads.result - 1 in
    let done =
    left-none (on_line (task_of file) c.args.c) (drop_of_length-le (entry_reads file c.args.k) {i = n + 1} (omega arith))
    (left-off (on_line (task_of file) c.args.c) (entry_reads file c.args.k) n last.result (omega arith) last.ensures
    (but-one (goal.at.returns-else-lies_on-3 c).After-lies_on-then-reads-eq1) (sym (c.lies_on-then-reads-eq1.ensures (task_of file) c.requires.geometry_of) ∙ c.if-lies_on-3.false)) in
    record { next_value = sym done.0; looked_value = (omega (arith, done.1), search rules) }

pub returns-else-reads-eq1 : goal.returns-else-reads-eq1
returns-else-reads-eq1 c =
    let file = c.args.file.now in
    let all : 2 * c.loop-i.i ≡ c.read_count-reads.result = omega arith in
    let done =
    left-none (on_line (task_of file) c.args.c) (drop_of_length-le (entry_reads file c.args.k) {i = 2 * c.loop-i.i} (omega arith)) c.loop-i.invariant in
    record { next_value = sym done.0; looked_value = (sym (done.1 ∙ all), search rules) }
