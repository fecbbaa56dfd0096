-- `taskfile::length_right` meets its contract: each test decides its part.
use native.Mathlib.Omega.{arith}
use borrow.Author.Tests.{lt-ltb, le-ltb, eq-eqb, ne_eqb}
use Rattle.taskfile.specs.File.{length_right}
use Rattle.taskfile.proofs.length_right.Goals as goal

pub returns-then-n-eq0 : goal.returns-then-n-eq0
unfolding length_right
returns-then-n-eq0 c = rw (le-ltb 0 c.args.n (omega arith))

pub returns-then-n-ne0 : goal.returns-then-n-ne0
unfolding length_right
returns-then-n-ne0 c = rw (lt-ltb 0 c.args.n (omega arith), ne_eqb _ 0 c.if-n-ne0.true)

pub returns : goal.returns
unfolding length_right
returns c = rw (lt-ltb 0 c.args.n (omega arith), eq-eqb _ 0 c.if-n-ne0.false)
