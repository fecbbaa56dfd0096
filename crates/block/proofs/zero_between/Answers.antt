-- `block::zero_between` meets its contract: the whole words are tested first, and then the other bytes.
use Prim.Native.Nat.{◌+◌, ◌-◌, ◌*◌, ◌/◌}
use mathlib.Core.Path.{◌≡◌, sym, ◌∙◌}
use mathlib.Core.Bool.{◌&&◌}
use native.Mathlib.Omega.{arith}
use lib.Dec.{eqb}
use borrow.Author.Tests.{eq-eqb, ne_eqb}
use Rattle.block.specs.Bytes.{zeros_between}
use Rattle.block.proofs.Bytes.{zeros-none, zeros-split, zeros-rest}
use Rattle.block.proofs.zero_between.Goals as goal
use Rattle.block.proofs.zero_between.Goals.{After-any_of_words}

pub returns-then-end-start : goal.returns-then-end-start
returns-then-end-start c =
    let args = c.args in
    sym (zeros-none args.bytes.now args.start args.end (omega arith))

-- the words are tested first
words : (c : After-any_of_words)
    → let args = c.args in
    let bs = c.args.bytes.now in
    zeros_between bs args.start args.end ≡ (eqb c.any_of_words.result 0 && zeros_between bs (args.start + 8 * ((args.end - args.start) / 8)) args.end)
words c =
    let args = c.args in
    rw c.any_of_words.ensures
    (zeros-split args.bytes.now args.start (args.start + 8 * ((args.end - args.start) / 8)) args.end (omega arith) (omega arith) (omega arith))

pub returns-then-any_of_words-eq0 : goal.returns-then-any_of_words-eq0
returns-then-any_of_words-eq0 c =
    let args = c.args in
    let bs = args.bytes.now in
    let from = args.start + 8 * ((args.end - args.start) / 8) in
    rw (words (goal.at.returns-then-any_of_words-eq0 c).After-any_of_words, eq-eqb _ _ c.if-any_of_words-eq0.true)
    (c.all_zero.ensures ∙ zeros-rest bs from args.end (omega arith) (omega arith))

pub returns-else-any_of_words-eq0 : goal.returns-else-any_of_words-eq0
returns-else-any_of_words-eq0 c = rw (words (goal.at.returns-else-any_of_words-eq0 c).After-any_of_words, ne_eqb _ _ c.if-any_of_words-eq0.false)
